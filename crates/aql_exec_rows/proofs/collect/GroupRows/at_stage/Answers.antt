use Rattle.aql_plan.specs.Needs.{sets}
use Rattle.aql_exec_rows.specs.Settings.{node_at}
use Rattle.aql_exec_rows.proofs.Parts.{numbers_all}
use Rattle.aql_exec_rows.proofs.collect.GroupRows.at_stage.Goals as goal

pub invariant_of-result : goal.invariant_of-result
invariant_of-result c = record {
  numbered = numbers_all (sets (node_at c.args.stage c.args.criteria c.args.aggregates c.args.into)) c.requires;
}
