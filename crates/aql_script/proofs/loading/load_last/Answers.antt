use Rattle.std.proofs.Common.{◌≡◌, ◌<◌, ◌+◌, [], inl, inr, sym, ap, ◌∙◌, arith, subst, length}
use Rattle.std.specs.Prelude.{Result}
use Rattle.aql_script.specs.Lines.{next, query, fault, with_query}
use Rattle.aql_script.specs.inner.Meets.{Meets}
use Rattle.aql_script.specs.LineEffects.{line_effect}
use Rattle.aql_script.specs.declared.loading.Loaded.{Loaded}
use Rattle.aql_script.specs.declared.faults.LoadFault.{LoadFault}
use Rattle.aql_script.specs.laws.Cuts.{last_line, no_line}
use Rattle.aql_script.proofs.loading.load_last.Goals as goal

pub returns-then-bytes-eq0 : goal.returns-then-bytes-eq0
returns-then-bytes-eq0 c =
    inr (rw c.no_query.ensures
    (no_line line_effect c.args.before c.args.catalog c.args.bytes.now (omega arith)))

pub returns-in-Ok-true : goal.returns-in-Ok-true
returns-in-Ok-true c =
    let long : 0 < length c.args.bytes.now = omega arith in
    let did : line_effect (c.args.before + 1) c.args.catalog c.args.bytes.now ≡ next c.take_line.new.catalog =
    rw c.in-Ok-true.field-0-test at c.in-Ok-true.ensures in
    inr (rw c.no_query-in-Ok-true.ensures
    (last_line line_effect c.args.before c.args.catalog c.args.bytes.now _ long did))

pub returns-in-Ok-false : goal.returns-in-Ok-false
returns-in-Ok-false c =
    let long : 0 < length c.args.bytes.now = omega arith in
    let did : (line_effect (c.args.before + 1) c.args.catalog c.args.bytes.now ≡ query)
    × (c.take_line.new.catalog ≡ c.args.catalog) = rw c.in-Ok-false.field-0-test at c.in-Ok-false.ensures in
    let is = ap (λ held. with_query (c.args.before + 1) held []) did.1
    ∙ sym (last_line line_effect c.args.before c.args.catalog c.args.bytes.now query long did.0) in
    let P : Result Loaded LoadFault → Type 0 = λ r. Meets c.with_query.result r in
    subst P is c.with_query.ensures

pub returns-in-Err : goal.returns-in-Err
returns-in-Err c =
    let long : 0 < length c.args.bytes.now = omega arith in
    elim (c.in-Err.ensures) [
      | inl m ↦ inl m
      | inr e ↦ inr
          (last_line line_effect c.args.before c.args.catalog c.args.bytes.now (fault c.in-Err.fault) long e)
    ]
