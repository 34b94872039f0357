use Rattle.std.proofs.Common.{◌≡◌, ◌+◌, inl, inr, sym, ap, ◌∙◌, refl, arith, subst}
use Rattle.std.specs.Prelude.{Result}
use Rattle.std.specs.Str.Lines.{strip_carriage_return}
use Rattle.aql_script.specs.Lines.{next, query, fault, with_query}
use Rattle.aql_script.specs.inner.Meets.{Meets}
use Rattle.aql_script.specs.LineEffects.{line_effect}
use Rattle.aql_script.specs.declared.loading.Loaded.{Loaded}
use Rattle.aql_script.specs.declared.faults.LoadFault.{LoadFault}
use Rattle.aql_script.specs.laws.Cuts.{cut_length, goes, ends}
use Rattle.aql_script.proofs.loading.load_lines.Goals as goal

pub lines-init : goal.lines-init
lines-init c = (omega arith, rw c.new-catalog.ensures refl)

pub lines-smaller : goal.lines-smaller
lines-smaller c =
    let shorter = cut_length 10 c.lines.rest.now c.in-Some.piece.now c.in-Some.after.now c.in-Some.ensures in
    omega (arith, shorter)

pub lines-preserved : goal.lines-preserved
lines-preserved c =
    let shorter = cut_length 10 c.lines.rest.now c.in-Some.piece.now c.in-Some.after.now c.in-Some.ensures in
    let dropped : c.without_cr.result.now
    ≡ strip_carriage_return c.in-Some.piece.now = c.without_cr.ensures in
    let did : line_effect (c.lines.line + 1) c.lines.catalog (strip_carriage_return c.in-Some.piece.now)
    ≡ next c.take_line.new.catalog =
    rw (c.in-Ok-true.field-0-test, dropped) at c.in-Ok-true.ensures in (
      omega (arith, c.lines.invariant.0, shorter),
      goes line_effect c.lines.line c.lines.catalog c.lines.rest.now _ _ _ _ c.in-Some.ensures
          c.lines.invariant.1
          did,
    )

pub returns-in-Ok-false : goal.returns-in-Ok-false
returns-in-Ok-false c =
    let dropped : c.without_cr.result.now
    ≡ strip_carriage_return c.in-Some.piece.now = c.without_cr.ensures in
    let did
    : (line_effect (c.lines.line + 1) c.lines.catalog (strip_carriage_return c.in-Some.piece.now) ≡ query)
    × (c.take_line.new.catalog ≡ c.lines.catalog) =
    rw (c.in-Ok-false.field-0-test, dropped) at c.in-Ok-false.ensures in
    let is = ap (λ held. with_query (c.lines.line + 1) held c.in-Some.after.now) did.1
    ∙ goes line_effect c.lines.line c.lines.catalog c.lines.rest.now _ _ _ query c.in-Some.ensures
    c.lines.invariant.1 did.0 in
    let P : Result Loaded LoadFault → Type 0 = λ r. Meets c.with_query.result r in
    subst P is c.with_query.ensures

pub returns-in-Err : goal.returns-in-Err
returns-in-Err c =
    let dropped : c.without_cr.result.now
    ≡ strip_carriage_return c.in-Some.piece.now = c.without_cr.ensures in
    elim (c.in-Err.ensures) [
      | inl m ↦ inl m
      | inr e ↦ inr
          (sym (goes line_effect c.lines.line c.lines.catalog c.lines.rest.now _ _ _ (fault c.in-Err.fault)
          c.in-Some.ensures c.lines.invariant.1
          (ap (line_effect (c.lines.line + 1) c.lines.catalog) (sym dropped) ∙ e)))
    ]

pub returns-in_default : goal.returns-in_default
returns-in_default c =
    let P : Result Loaded LoadFault → Type 0 = λ r. Meets c.load_last.result r in
    let is = ends line_effect c.lines.line c.lines.catalog c.lines.rest.now _ c.in_default.ensures
    c.lines.invariant.1 in
    subst P is c.load_last.ensures
