-- The steps from an id, way by way, over the edges that have the id at the end where the way begins.
use Rattle.std.specs.Prelude.{ℕ, List, [], ◌∷◌, cond, filter, flat_map}
use Rattle.aql_value.specs.Datum.{Datum, text}
use Rattle.aql_value.specs.Contents.{at_name, same}
use Rattle.aql_meaning.specs.Paths.{EdgeStep, leaves, along, against}
use Rattle.aql_local.specs.declared.edge_steps.Way.{Way}
use Rattle.aql_local.specs.declared.edge_steps.Way.TheVariants.{Along, Against, AgainstOthers}
use Rattle.aql_local.specs.declared.lookups.SystemAttribute.{SystemAttribute}
use Rattle.aql_local.specs.declared.lookups.SystemAttribute.TheVariants.{From, To}
use Rattle.aql_local.specs.inner.Lookups.{name_of}

abbrev pub near_end : Way → SystemAttribute
near_end Along = From
near_end Against = To
near_end AgainstOthers = To

-- the edges with the id there
abbrev pub edges_by : Way → List ℕ → List Datum → List Datum
edges_by way id es = filter (λ e. same (at_name e (name_of (near_end way))) (text id)) es

-- the step over such an edge; one that leaves the id too is left to the other way
abbrev pub step_over : Way → List ℕ → Datum → List EdgeStep
step_over Along id e = along e ∷ []
step_over Against id e = against e ∷ []
step_over AgainstOthers id e = cond (leaves id e) [] (against e ∷ [])

abbrev pub steps_by : Way → List ℕ → List Datum → List EdgeStep
steps_by way id es = flat_map (step_over way id) (edges_by way id es)
