-- What a FILTER may still give, of the rows that it holds and of those that come.
use Rattle.std.specs.Prelude.{◌≡◌, ◌+◌, List, [], ◌++◌, filter, length, Bool, true, false, not, refl}
use Rattle.aql_tree.specs.Tree.{ExprTree}
use Rattle.aql_value.specs.Truth.{truth}
use Rattle.aql_meaning.specs.Row.{Row}
use Rattle.aql_meaning.specs.AtRows.{value_of}
use Rattle.aql_exec.specs.Rests.{Counter, Rest}
use Rattle.aql_exec.specs.Counting.{counts}

-- the rows at which the condition is true-like, and those at which it is not
abbrev pub passing : ExprTree → List Row → List Row
passing e rows = filter (λ row. truth (value_of e row)) rows

abbrev pub failing : ExprTree → List Row → List Row
failing e rows = filter (λ row. not (truth (value_of e row))) rows

-- of the rows that are held those that pass, and those that don't; once they were judged, all pass
abbrev pub kept_of : ExprTree → Bool → List Row → List Row
kept_of e true held = held
kept_of e false held = passing e held

abbrev pub lost_of : ExprTree → Bool → List Row → List Row
lost_of e true held = []
lost_of e false held = failing e held

abbrev pub left_keep : ExprTree → Bool → List Row → List Row → Rest → Type 0
left_keep e judged held rows r = (r.rows ≡ kept_of e judged held ++ passing e rows)
    × ((c : Counter) → r.counts c ≡ counts 0 0 (length (lost_of e judged held) + length (failing e rows)) c)

pub some_keep : (e : ExprTree) (judged : Bool) (held rows : List Row) → (r : Rest)
    × left_keep e judged held rows r
some_keep e judged held rows = (
  record {
    rows = kept_of e judged held ++ passing e rows;
    counts = counts 0 0 (length (lost_of e judged held) + length (failing e rows));
  },
  (refl, λ c. refl),
)
