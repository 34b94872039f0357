use Rattle.aql_rules_index.specs.laws.Rows.{covered, covered_whole}
use Rattle.aql_rules_index.proofs.laws.items_may_go.Goals as goal

pub returns-clause-some : goal.returns-clause-some
returns-clause-some c = covered

pub returns-clause-all : goal.returns-clause-all
returns-clause-all c = covered_whole
