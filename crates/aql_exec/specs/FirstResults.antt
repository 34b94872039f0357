-- What a RETURN DISTINCT may still give, of the rows that it holds and of those that come (AQL's high-level
-- operations, RETURN).
use Rattle.std.specs.Prelude.{◌≡◌, List, [], ◌∷◌, ◌++◌, map, cond, Bool, true, false, refl}
use Rattle.aql_value.specs.Datum.{Datum}
use Rattle.aql_value.specs.Contents.{is_in}
use Rattle.aql_tree.specs.Tree.{ExprTree}
use Rattle.aql_func.specs.Lists.{add_all}
use Rattle.aql_meaning.specs.Row.{Row}
use Rattle.aql_meaning.specs.AtRows.{values_of}
use Rattle.aql_plan.specs.Runs.{result_row}
use Rattle.aql_exec.specs.Rests.{Counter, Rest}
use Rattle.aql_exec.specs.Counting.{nothing}

-- the values that weren't seen, each at its first place
abbrev pub unseen : List Datum → List Datum → List Datum
unseen seen [] = []
unseen seen (t ∷ ts) = cond (is_in seen t) (unseen seen ts) (t ∷ unseen (seen ++ t ∷ []) ts)

abbrev pub results_of : ExprTree → List Datum → List Row → List Row
results_of e seen rows = map result_row (unseen seen (values_of e rows))

-- the rows of results of the rows that are held; once these were made, they are results themselves
abbrev pub shown : ExprTree → Bool → List Datum → List Row → List Row
shown e true seen held = held
shown e false seen held = results_of e seen held

-- the values that were seen with those that are held
abbrev pub seen_after : ExprTree → Bool → List Datum → List Row → List Datum
seen_after e true seen held = seen
seen_after e false seen held = add_all true seen (values_of e held)

abbrev pub left_results : ExprTree → Bool → List Datum → List Row → List Row → Rest → Type 0
left_results e made seen held rows r =
    (r.rows ≡ shown e made seen held ++ results_of e (seen_after e made seen held) rows)
    × ((c : Counter) → r.counts c ≡ 0)

pub some_results : (e : ExprTree) (made : Bool) (seen : List Datum) (held rows : List Row) → (r : Rest)
    × left_results e made seen held rows r
some_results e made seen held rows = (
  record {
    rows = shown e made seen held ++ results_of e (seen_after e made seen held) rows;
    counts = nothing;
  },
  (refl, λ c. refl),
)
