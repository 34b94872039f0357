use Rattle.std.proofs.Common.{◌≡◌, map, take}
use Rattle.aql_tree.specs.View.{member_part}
use Rattle.aql_scope.specs.Lifts.{visible}
use Rattle.aql_scope.proofs.Words.{member_of}
use Rattle.aql_scope.proofs.lift_collect.object_with.Given as goal

abbrev pub invariant-loop-name : goal.invariant-loop-name
invariant-loop-name l =
    map member_part l.fields ≡ map (member_of (visible l.scope)) (take l.name-index l.names)
