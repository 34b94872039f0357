use Rattle.std.proofs.Common.{rules, arith}
use Rattle.std.proofs.lemmas.Grind.{common_steps}
use Rattle.aql_scope.specs.Lifts.{visible}
use Rattle.aql_scope.proofs.Words.{object_members}
use Rattle.aql_scope.proofs.lift_collect.object_with.Goals as goal

pub returns : goal.returns
returns c =
    let e = object_members (visible c.args.scope.now) c.args.names.now in
    first_of (search rules, grind (arith, common_steps))
