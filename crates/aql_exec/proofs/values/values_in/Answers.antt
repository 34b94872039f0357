use Rattle.std.proofs.Common.{◌≡◌, ℕ, ◌+◌, ◌<◌, ◌++◌, List, [], ◌∷◌, length, take, Some, None, sym, ap, ◌∙◌, arith}
use Rattle.std.specs.Prelude.{slice_get}
use Rattle.std.proofs.lemmas.List.{take_more, map-append}
use Rattle.std.proofs.lemmas.Option.{slice_get_within, slice_get-get_or, get_or_from_slice_get}
use Rattle.aql_value.specs.Datum.{Datum}
use Rattle.aql_value.specs.View.{datum_of, datums_in}
use Rattle.aql_tree.specs.View.{tree}
use Rattle.aql_tree.specs.Tree.{ExprTree}
use Rattle.aql_meaning.specs.Row.{Row, empty_row}
use Rattle.aql_meaning.specs.AtRows.{value_of, values_of}
use Rattle.aql_block.specs.Tables.{rows_of}
use Rattle.aql_block.specs.Rows.{row_of}
use Rattle.aql_exec.proofs.values.values_in.Goals.{in-Some+in_ok-value+in_ok-push, in_default}
use Rattle.aql_exec.proofs.values.values_in.Goals as goal

-- the value at one more row
one_more : (e : ExprTree) (rows : List Row) (at : ℕ) (row : Row) (vs : List Datum) (v : Datum)
    → Some row ≡ slice_get rows at → vs ≡ values_of e (take at rows) → v ≡ value_of e row
    → vs ++ v ∷ [] ≡ values_of e (take (at + 1) rows)
one_more e rows at row vs v s h k =
    let within = slice_get_within rows at row (sym s) in
    let more : take (at + 1) rows ≡ take at rows ++ row ∷ [] = take_more rows at row within
    ∙ ap (λ z. take at rows ++ z ∷ []) (get_or_from_slice_get rows at row row (sym s)) in
    ap (λ z. z ++ v ∷ []) h ∙ ap (λ z. values_of e (take at rows) ++ z ∷ []) k
    ∙ sym (ap (values_of e) more ∙ map-append (value_of e) (take at rows) (row ∷ []))

-- a row within the block is found
found : (rows : List Row) (at n : ℕ) → None ≡ slice_get rows at → at < n → n ≡ length rows → ⊥
found rows at n s l e =
    let f : slice_get rows at ≡ Some _ = slice_get-get_or rows at empty_row (omega (arith, l, e)) in
    let g = s ∙ f in cc g

-- src/values.rt:24:5
pub loop-at-preserved : goal.loop-at-preserved
loop-at-preserved c =
    let e = tree c.args.e.now in
    let rows = rows_of c.args.block.now in
    elim c.match-row.branch [
      | in-Some+in_ok-value+in_ok-push w ↦ rw w.values-is (rw w.in_ok-push.ensures.items
          (map-append datum_of c.loop-at.values.items (w.in_ok-value.value ∷ [])
          ∙ one_more e rows c.loop-at.at (row_of w.in-Some.row) (datums_in c.loop-at.values.items)
          (datum_of w.in_ok-value.value) w.in-Some.ensures c.loop-at.invariant w.in_ok-value.ensures.value))
      | in_default w ↦ absurd (found rows c.loop-at.at _ w.in_default.ensures
          c.loop-at-test.true c.len-at-end.ensures)
    ]
