use Rattle.std.proofs.Common.{◌≤◌, ◌-◌, length}
use Rattle.aql_index.proofs.entries.end_near.Given as goal

abbrev pub invariant-steps : goal.invariant-steps
invariant-steps l = (l.from ≤ l.end) × (l.end ≤ length l.entries) × (1 ≤ l.step)

abbrev pub decreases-steps : goal.decreases-steps
decreases-steps l = length l.entries - l.end
