-- What distribute-filtercalc-to-cluster looks for.
use Rattle.std.specs.Prelude.{Bool, true, false, ◌&&◌}
use Rattle.aql_plan.specs.Plan.{Plan, Singleton, Over, Node, Calculation, Filter}
use Rattle.aql_rules_cluster.specs.inner.Fragments.{is_gathered}

-- a Filter or a Calculation
abbrev pub is_filtercalc : Node → Bool
is_filtercalc (Filter e) = true
is_filtercalc (Calculation x e) = true
is_filtercalc n = false

-- over the Gather of a fragment
abbrev pub goes_inside : Plan → Bool
goes_inside Singleton = false
goes_inside (Over b n) = is_filtercalc n && is_gathered b
