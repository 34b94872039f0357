use Rattle.aql_plan_check.proofs.SameVariables.{adds_number}
use Rattle.aql_plan_check.proofs.rows.add_number.Goals as goal

pub returns : goal.returns
returns c = adds_number c.args.var c.args.rows.now.keys c.insert.new.self.keys c.in_ok-insert.ensures.keys
