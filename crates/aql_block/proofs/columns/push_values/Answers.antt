use Rattle.std.proofs.Common.{◌∙◌, ◌<◌, ◌+◌, drop, length, set, get_or, ap, sym, subst, arith}
use Rattle.std.proofs.lemmas.List.{get_or_default}
use Rattle.aql_value.specs.View.{datum_of}
use Rattle.aql_block.specs.Rows.{row_of}
use Rattle.aql_block.specs.Columns.{ColumnView, moved_values}
use Rattle.aql_block.proofs.Steps.{Pushing, pushing_none, pushing_room, pushing_more, pushing_all, moved_more, has_all_more, with_value}
use Rattle.aql_block.proofs.Filled.{length-taken}
use Rattle.aql_block.proofs.columns.push_values.Goals as goal

pub loop-at-init : goal.loop-at-init
loop-at-init c =
    let all = moved_values c.args.registers.now (row_of c.args.row.now) in
    (pushing_none c.args.columns.now all, c.requires.all)

pub push-requires : goal.push-requires
push-requires c =
    let l : c.loop-at.at < length c.args.columns.now = omega arith in
    pushing_room c.loop-at.at c.loop-at.columns c.args.columns.now _ _ c.index-columns-at.result
    c.loop-at.invariant.0 c.requires.room l c.index-columns-at.is

pub loop-at-preserved : goal.loop-at-preserved
loop-at-preserved c =
    let xs = c.args.registers.now in
    let i = c.loop-at.at in
    let old = c.args.columns.now in
    let row = row_of c.loop-at.row in
    let next = row_of c.take-value.new.self in
    let all = moved_values xs (row_of c.args.row.now) in
    let left = moved_values (drop (i + 1) xs) next in
    let x = get_or xs i 0 in
    let v = datum_of c.take-value.result in
    let l = c.loop-at-test.true in
    let lo : i < length old = omega arith in
    let is = get_or_default xs i 0 x l in (
      subst (λ (p : ColumnView). Pushing (i + 1) (set c.loop-at.columns i p) old left all)
          (sym (c.push.ensures ∙ ap (λ (p : ColumnView). with_value p v) (sym c.index-columns-at.is)))
          (pushing_more i c.loop-at.columns old (moved_values (drop i xs) row) all
          c.index-columns-at.result v left c.loop-at.invariant.0 lo c.index-columns-at.is
          (moved_more xs i x row next v l is c.take-value.ensures.value c.take-value.ensures.rest)),
      has_all_more xs i x row next l is c.loop-at.invariant.1 c.take-value.ensures.rest,
    )

pub returns : goal.returns
returns c =
    let xs = c.args.registers.now in
    let row = row_of c.args.row.now in
    let e = length-taken xs row in
    pushing_all c.loop-at.at c.loop-at.columns c.args.columns.now _ (moved_values xs row)
    c.loop-at.invariant.0 (omega arith)
