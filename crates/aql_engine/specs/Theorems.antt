-- The laws of a plan's operators, each the contract of a public function.
use Rattle.std.specs.Prelude.{ℕ, ◌≡◌, [], false}
use Rattle.aql_meaning.specs.Row.{Row}
use Rattle.aql_plan.specs.declared.facts.Facts.{Facts}
use Rattle.aql_plan.specs.Plan.{Plan}
use Rattle.aql_plan.specs.Runs.{Dataset, Outside, Runs}
use Rattle.aql_plan.specs.Shapes.{Shape, Shaped, is_inside, HasNoFragment}
use Rattle.aql_plan.specs.View.{plan_tree}
use Rattle.aql_block.specs.declared.calls.Progress.TheVariants.{Done}
use Rattle.aql_exec.specs.Rests.{opened_on, Rest}
use Rattle.aql_exec.specs.Lines.{answered}
use Rattle.aql_exec.specs.Operators.{Produces, IsTree}
use Rattle.aql_net.specs.Logs.{in_flight, said_on, talk_on}
use Rattle.aql_engine.specs.OperatorsOf.{operators_of}
use Rattle.aql_engine.specs.EachFits.{EachFits, FewShards}
use Rattle.aql_engine.specs.Engine.{IsRunOver}
use Rattle.aql_engine.specs.NoLimit.{HasNoLimit}
use Rattle.aql_engine.specs.declared.engine.Ran.{Ran}

-- what they produce from a row is a list of the plan
abbrev pub OperatorsGiveRuns : Type 0
OperatorsGiveRuns = (w : Dataset) (p : Plan) (start : Row) (r : Rest)
    → Produces (operators_of w.facts p) w start r → Runs p w Outside start r.rows

-- they are a tree where the plan has the shape of a part that stands in no fragment
abbrev pub ShapedOperatorsAreTree : Type 0
ShapedOperatorsAreTree = (facts : Facts) (p : Plan) (s : Shape)
    → Shaped facts p s → is_inside s ≡ false → FewShards facts → IsTree facts (operators_of facts p)

-- and where it has no fragment and each node fits
abbrev pub PlainOperatorsAreTree : Type 0
PlainOperatorsAreTree = (facts : Facts) (p : Plan)
    → HasNoFragment p → EachFits facts p → IsTree facts (operators_of facts p)

-- where the plan of a run has no LIMIT, each link of its log stands for one of the Remotes that give its values, and
-- each of these has a link of the log
abbrev pub EachLinkIsOneRemote : Type 0
EachLinkIsOneRemote = (w : Dataset) (ran : Ran) (run : IsRunOver w ran) → HasNoLimit (plan_tree ran.plan)
    → (l : ℕ) → ((said_on l ran.log ≡ [] → ⊥) → run.rest.counts (opened_on l) ≡ 1)
    × (said_on l ran.log ≡ [] → run.rest.counts (opened_on l) ≡ 0)

-- and each ends in a reply that says Done, and all that was sent was taken
abbrev pub EachLinkEnds : Type 0
EachLinkEnds = (w : Dataset) (ran : Ran) → IsRunOver w ran → HasNoLimit (plan_tree ran.plan)
    → ((l : ℕ) → (said_on l ran.log ≡ [] → ⊥) → talk_on l ran.log ≡ answered Done)
    × (in_flight ran.log ≡ [])
