use Rattle.std.proofs.Common.{◌≡◌, ℕ, ◌+◌, ◌<◌, ◌∙◌, ◌++◌, ◌∷◌, [], List, length, map, take, Some, None, sym, ap, subst, append_assoc, arith}
use Rattle.std.specs.Prelude.{slice_get}
use Rattle.std.proofs.lemmas.List.{take_more, map-append}
use Rattle.std.proofs.lemmas.Option.{slice_get_within, slice_get-get_or, get_or_from_slice_get}
use Rattle.aql_meaning.specs.Row.{Row, empty_row}
use Rattle.aql_meaning.specs.Groups.{GroupedRow}
use Rattle.aql_block.specs.Rows.{row_of}
use Rattle.aql_block.specs.Tables.{rows_of}
use Rattle.aql_exec_rows.specs.GroupStates.{seen, Holds}
use Rattle.aql_exec_rows.specs.declared.grouping.Grouping.{Grouping}
use Rattle.aql_exec_rows.proofs.groups.Groups.add_block.Goals.{in-Some+in_ok-add, in_default}
use Rattle.aql_exec_rows.proofs.groups.Groups.add_block.Goals as goal

-- one row more of the block
one_more : (g : Grouping) (rows : List GroupedRow) (block : List Row) (at : ℕ) (row : Row)
    → Some row ≡ slice_get block at
    → rows ++ map (seen g) (take (at + 1) block) ≡ (rows ++ map (seen g) (take at block)) ++ seen g row ∷ []
one_more g rows block at row s =
    let within = slice_get_within block at row (sym s) in
    let more : take (at + 1) block ≡ take at block ++ row ∷ [] = take_more block at row within
    ∙ ap (λ z. take at block ++ z ∷ []) (get_or_from_slice_get block at row row (sym s)) in
    ap (λ z. rows ++ map (seen g) z) more
    ∙ ap (λ z. rows ++ z) (map-append (seen g) (take at block) (row ∷ []))
    ∙ sym (append_assoc rows (map (seen g) (take at block)) (seen g row ∷ []))

-- a row within the block is found
found : (rows : List Row) (at n : ℕ) → None ≡ slice_get rows at → at < n → n ≡ length rows → ⊥
found rows at n s l e =
    let f : slice_get rows at ≡ Some _ = slice_get-get_or rows at empty_row (omega (arith, l, e)) in
    let g = s ∙ f in cc g

pub loop-at-preserved : goal.loop-at-preserved
loop-at-preserved c =
    let g = c.args.grouping.now in
    let kinds = c.args.kinds.now in
    let block = rows_of c.args.block in
    let at = c.loop-at.at in
    let before = c.loop-at.invariant in
    elim c.match-row.branch [
      | in-Some+in_ok-add w ↦
          let row = row_of w.in-Some.row in
          let counted = w.in_ok-add.ensures.count in
          let count = before.count in
          rw w.self-is (record {
            holds = (
              before.holds.0 ++ seen g row ∷ [],
              w.in_ok-add.ensures.held before.holds.0 before.holds.1,
            );
            held = λ rows h. subst (λ all. Holds g kinds all w.add.new.self)
                (sym (one_more g rows block at row w.in-Some.ensures))
                (w.in_ok-add.ensures.held (rows ++ map (seen g) (take at block)) (before.held rows h));
            count = omega (arith, counted, count);
          })
      | in_default w ↦ absurd (found block at _ w.in_default.ensures c.loop-at-test.true c.len-at-end.ensures)
    ]
