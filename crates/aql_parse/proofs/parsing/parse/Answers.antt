use Rattle.aql_parse.proofs.ParseLaws.{gives_tree, gives_within, gives_only, gives_too_deep, gives_too_many}
use Rattle.aql_parse.proofs.ParseLaws.{gives_none, gives_traversal}
use Rattle.aql_parse.proofs.parsing.parse.Goals as goal

pub returns-clause-tree : goal.returns-clause-tree
returns-clause-tree c = gives_tree _ _ c.judge.ensures

pub returns-clause-within : goal.returns-clause-within
returns-clause-within c = gives_within _ _ c.judge.ensures

pub returns-clause-only : goal.returns-clause-only
returns-clause-only c = gives_only _ _ c.judge.ensures

pub returns-clause-too_deep : goal.returns-clause-too_deep
returns-clause-too_deep c = gives_too_deep _ _ c.judge.ensures

pub returns-clause-too_many_clauses : goal.returns-clause-too_many_clauses
returns-clause-too_many_clauses c = gives_too_many _ _ c.judge.ensures

pub returns-clause-none : goal.returns-clause-none
returns-clause-none c = gives_none _ _ c.judge.ensures

pub returns-clause-traversal_too_deep : goal.returns-clause-traversal_too_deep
returns-clause-traversal_too_deep c = gives_traversal _ _ c.judge.ensures
