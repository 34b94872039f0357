use Rattle.aql_engine.specs.laws.Trees.{plain_tree, shaped_tree}
use Rattle.aql_engine.proofs.laws.operators_are_tree.Goals as goal

pub returns-clause-shaped : goal.returns-clause-shaped
returns-clause-shaped c = shaped_tree

pub returns-clause-plain : goal.returns-clause-plain
returns-clause-plain c = plain_tree
