use Rattle.aql_grammar.specs.laws.TreeLaws.{one_tree}
use Rattle.aql_parse.proofs.parsing.one_tree.Goals as goal

pub returns : goal.returns
returns c = one_tree
