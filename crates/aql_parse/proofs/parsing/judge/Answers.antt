use Rattle.std.proofs.Common.{rules}
use Rattle.aql_grammar.specs.laws.TreeLaws.{whole_tree}
use Rattle.aql_parse.proofs.ParseLaws.{refused}
use Rattle.aql_parse.proofs.parsing.judge.Goals as goal

pub returns-then-has_too_many_marks : goal.returns-then-has_too_many_marks
returns-then-has_too_many_marks c = search rules

pub returns-in_err-query : goal.returns-in_err-query
returns-in_err-query c = search (rules, refused)

pub returns-then-traversals_within : goal.returns-then-traversals_within
returns-then-traversals_within c = search (rules, whole_tree)

pub returns-else-traversals_within : goal.returns-else-traversals_within
returns-else-traversals_within c = search (rules, whole_tree)
