-- LET of a subquery: what it may still give, of the rows that it holds and those that come, and of what its
-- body gave for the row at hand.
use Rattle.std.specs.Prelude.{◌≡◌, ℕ, zero, suc, ◌+◌, ◌-◌, ◌*◌, ◌<◌, ◌≤◌, ◌++◌, List, [], ◌∷◌, length, drop, map, Bool, true, false, cond}
use Rattle.aql_value.specs.Datum.{Datum}
use Rattle.aql_value.specs.Contents.{list}
use Rattle.aql_value.specs.View.{datums_in}
use Rattle.aql_tree.specs.declared.syntax.Ident.{Ident}
use Rattle.aql_tree.specs.declared.syntax.Ident.TheVariants.{Num}
use Rattle.aql_meaning.specs.Row.{Row, bind}
use Rattle.aql_meaning.specs.Clauses.{with_values}
use Rattle.aql_plan.specs.Runs.{Dataset, result_of}
use Rattle.aql_block.specs.declared.calls.Call.{Call}
use Rattle.aql_block.specs.Tables.{rows_of}
use Rattle.aql_exec.specs.Rests.{Counter, Counts, Rest}
use Rattle.aql_exec.specs.Steps.{IsCall}
use Rattle.aql_exec.specs.Operators.{EachRow, OperatorTree, Produces}
use Rattle.aql_exec_rows.specs.declared.subquery.Subquery.{Subquery}

-- each row with the array of what its body gives; where a body runs, it is that of the first of the rows, and
-- gives these results in all
abbrev pub Follow : Bool → (Row → Rest → Type 0) → Ident → List Datum → List Row → List Row → Counts → Type 0
Follow false body x results rows outs d = EachRow body x rows outs d
Follow true body x results [] outs d = ⊥
Follow true body x results (row ∷ rows) outs d = (others : List Row) × EachRow body x rows others d
    × (outs ≡ bind x row (list results) ∷ others)

-- the rows that are held whose values are known, with these, and those that follow
abbrev pub Leaves : Bool → Bool → (Row → Rest → Type 0) → Ident → List Row → List Datum → List Datum → Rest
    → Rest → Rest → Type 0
Leaves inside begun body x held values results below more r = (outs : List Row) × (d : Counts)
    × Follow inside body x (results ++ map result_of more.rows)
    (drop (length values) held ++ below.rows) outs d
    × (r.rows ≡ with_values x held values ++ outs)
    × ((c : Counter) → r.counts c ≡ below.counts c + (cond begun (more.counts c) 0 + d c))

abbrev pub gives_subquery : Subquery → Dataset → OperatorTree → (ℕ → Rest) → Rest → Type 0
gives_subquery s w body ins r = Leaves s.inside s.begun (Produces body w) (Num s.var) (rows_of s.held)
    (datums_in s.values.items) s.results (ins 0) (ins 1) r

-- ---- what it asks, and what it was told

abbrev pub started_subquery : Subquery → ℕ → Bool
started_subquery s zero = true
started_subquery s (suc zero) = s.begun
started_subquery s (suc (suc k)) = false

abbrev pub ended_subquery : Subquery → ℕ → Bool
ended_subquery s zero = s.done
ended_subquery s (suc zero) = s.body_done
ended_subquery s (suc (suc k)) = false

-- it waits for its body, where that runs
abbrev pub waited_subquery : Subquery → ℕ → Type 0
waited_subquery s k = (s.waiting ≡ true) × (k ≡ cond s.inside 1 0)

-- it counts for itself, so it asks for all rows
abbrev pub ForAll : Call → Type 0
ForAll c = (c.offset ≡ 0) × (c.soft ≤ 10000) × (c.hard ≡ 18446744073709551615)

-- it asks its body while that runs, and for more rows when all are given
abbrev pub AsksSubquery : Subquery → ℕ → Call → Type 0
AsksSubquery s zero c = ForAll c × (s.inside ≡ false) × (rows_of s.held ≡ []) × (s.values.items ≡ [])
    × (s.done ≡ false) × (s.waiting ≡ false)
AsksSubquery s (suc zero) c = ForAll c × (s.inside ≡ true) × (s.body_done ≡ false) × (s.waiting ≡ false)
AsksSubquery s (suc (suc k)) c = ⊥

abbrev pub asks_subquery : Subquery → ℕ → Call → Type 0
asks_subquery s zero c = IsCall c × (c.offset ≡ 0) × (c.hard ≡ 18446744073709551615) × (s.done ≡ false)
asks_subquery s (suc zero) c =
    IsCall c × (c.offset ≡ 0) × (c.hard ≡ 18446744073709551615) × (s.body_done ≡ false)
asks_subquery s (suc (suc k)) c = ⊥

-- of the rows that are held as many are ready as have a value; the body of the next runs, or the last that
-- began is done
pub record SubqueryIs (s : Subquery) : Type 0 where
  pub ready : length s.values.items ≤ length (rows_of s.held)
  pub running : s.inside ≡ true
      → (s.begun ≡ true) × (s.body_done ≡ false) × (length s.values.items < length (rows_of s.held))
  pub ended : s.inside ≡ false → s.begun ≡ true → s.body_done ≡ true

-- how many rows it may give and how many turns it may take, for each row that waits for its body
abbrev pub budget_of : Bool → Bool → ℕ → ℕ → ℕ → ℕ
budget_of done false f ready waiting = (ready + waiting * (f + 3)) + cond done 0 1
budget_of done true f ready waiting = ((ready + (waiting - 1) * (f + 3)) + 2) + cond done 0 1

abbrev pub budget_subquery : Subquery → ℕ → ℕ
budget_subquery s f = budget_of s.done s.inside f (length s.values.items)
    (length (rows_of s.held) - length s.values.items)

abbrev pub row_cost_subquery : ℕ → ℕ → ℕ
row_cost_subquery zero f = f + 4
row_cost_subquery (suc k) f = 1
