use Rattle.std.proofs.Common.{◌≡◌, ◌∙◌, ◌<◌, ◌+◌, ◌∷◌, drop, length, set, get_or, ap, sym, subst, arith}
use Rattle.std.proofs.lemmas.List.{get_or_default}
use Rattle.std.proofs.lemmas.Result.{MatchResult-from_err}
use Rattle.aql_value.specs.declared.values.Value.{Value}
use Rattle.aql_value.specs.View.{datum_of}
use Rattle.aql_block.specs.Rows.{row_of}
use Rattle.aql_block.specs.Columns.{ColumnView, copied_values}
use Rattle.aql_block.proofs.Steps.{Pushing, pushing_none, pushing_room, pushing_more, pushing_all, pushing_back, copied_here, copied_other, with_value}
use Rattle.aql_block.proofs.Filled.{length-copied}
use Rattle.aql_block.proofs.columns.push_copies.Goals as goal
use Rattle.aql_block.proofs.columns.push_copies.Goals.{then-register-var, else-register-var+in_ok-next}

pub loop-at-init : goal.loop-at-init
loop-at-init c =
    pushing_none c.args.columns.now
    (copied_values c.args.registers.now c.args.var (row_of c.args.row.now) (datum_of c.args.value))

pub returns-in_err-next-clause-err : goal.returns-in_err-next-clause-err
returns-in_err-next-clause-err c =
    MatchResult-from_err c.from_residual.result _ _ c.from_residual.ensures.0
    (λ _ n h. pushing_back c.loop-at.at c.loop-at.columns c.args.columns.now _ _ n c.loop-at.invariant h)

pub push-requires : goal.push-requires
push-requires c =
    let l : c.loop-at.at < length c.args.columns.now = omega arith in
    pushing_room c.loop-at.at c.loop-at.columns c.args.columns.now _ _ c.index-columns-at.result
    c.loop-at.invariant c.requires.room l c.index-columns-at.is

pub loop-at-preserved : goal.loop-at-preserved
loop-at-preserved c =
    let xs = c.args.registers.now in
    let i = c.loop-at.at in
    let old = c.args.columns.now in
    let row = row_of c.args.row.now in
    let var = c.args.var in
    let was = datum_of c.loop-at.value in
    let all = copied_values xs var row (datum_of c.args.value) in
    let left = copied_values (drop (i + 1) xs) var row (datum_of c.if-register-var.value) in
    let x = get_or xs i 0 in
    let v = datum_of c.if-register-var.next in
    let l = c.loop-at-test.true in
    let lo : i < length old = omega arith in
    let is = get_or_default xs i 0 x l in
    let next : copied_values (drop i xs) var row was ≡ v ∷ left =
    elim c.if-register-var.branch [
      | then-register-var w ↦
          copied_here xs i x var row was (datum_of c.if-register-var.value) l is w.if-register-var.true
          (ap datum_of (w.value-is ∙ w.replace-next.ensures.after))
          ∙ ap (λ (u : Value). datum_of u ∷ left) (sym (w.next-is ∙ w.replace-next.ensures.value))
      | else-register-var+in_ok-next w ↦
          copied_other xs i x var row was v l is w.if-register-var.false
          (ap datum_of w.next-is ∙ w.in_ok-next.ensures)
          ∙ ap (λ (u : Value). v ∷ copied_values (drop (i + 1) xs) var row (datum_of u)) (sym w.value-is)
    ] in
    subst (λ (p : ColumnView). Pushing (i + 1) (set c.loop-at.columns i p) old left all)
    (sym (c.push.ensures ∙ ap (λ (p : ColumnView). with_value p v) (sym c.index-columns-at.is)))
    (pushing_more i c.loop-at.columns old (copied_values (drop i xs) var row was) all
    c.index-columns-at.result v left c.loop-at.invariant lo c.index-columns-at.is next)

pub returns-clause-ok : goal.returns-clause-ok
returns-clause-ok c =
    let xs = c.args.registers.now in
    let row = row_of c.args.row.now in
    let v = datum_of c.args.value in
    let e = length-copied xs c.args.var row v in
    pushing_all c.loop-at.at c.loop-at.columns c.args.columns.now _ (copied_values xs c.args.var row v)
    c.loop-at.invariant (omega arith)
