use Rattle.std.proofs.Common.{rules, ◌≡◌, ◌-◌, length, map, ◌∙◌, ap, arith}
use Rattle.std.proofs.lemmas.Result.{IfOk-at_ok}
use Rattle.std.proofs.lemmas.Iterator.{items_from_collect, YieldsList-from_map, YieldsList-from_slice}
use Rattle.aql_value.specs.View.{datum_of}
use Rattle.aql_value.specs.Truth.{truth}
use Rattle.aql_tree.specs.View.{tree}
use Rattle.aql_block.specs.Tables.{rows_of}
use Rattle.aql_exec.specs.Rests.{saturated}
use Rattle.aql_exec.specs.Filters.{failing}
use Rattle.aql_exec.proofs.Keeping.{retained, both, rises_more}
use Rattle.aql_exec.proofs.filter.Keep.judge.Goals as goal

pub overflow_sub-before : goal.overflow_sub-before
overflow_sub-before c =
    let me = c.args.self.now in
    let values = c.in_ok-values.values.items in
    let marks : c.in_ok-marks.marks.items ≡ map (λ v. truth (datum_of v)) values =
    IfOk-at_ok _ c.in_ok-marks.was (items_from_collect _ c.collect.ensures.ran (YieldsList-from_map _
    (λ v. truth (datum_of v)) (YieldsList-from_slice values cc) c.map.ensures.closure
    (λ x r q k. search rules))) in
    let kept = retained (tree me.condition) (rows_of me.block)
    (rows_of c.retain.new.self) c.deref-2.result.now
    c.in_ok-marks.marks.items values datum_of c.retain.ensures.rows c.deref-2.ensures.value marks
    c.in_ok-values.ensures in
    let n = ap length kept in
    let m = both (tree me.condition) (rows_of me.block) in
    let before = c.len-before.ensures in
    let after = c.len.ensures in
    omega (arith, n, m, before, after)

pub returns-clause-rows : goal.returns-clause-rows
returns-clause-rows c =
    let me = c.args.self.now in
    let values = c.in_ok-values.values.items in
    let marks : c.in_ok-marks.marks.items ≡ map (λ v. truth (datum_of v)) values =
    IfOk-at_ok _ c.in_ok-marks.was (items_from_collect _ c.collect.ensures.ran (YieldsList-from_map _
    (λ v. truth (datum_of v)) (YieldsList-from_slice values cc) c.map.ensures.closure
    (λ x r q k. search rules))) in
    rw c.if-self.false (retained (tree me.condition) (rows_of me.block) (rows_of c.retain.new.self)
    c.deref-2.result.now c.in_ok-marks.marks.items values datum_of c.retain.ensures.rows c.deref-2.ensures.value
    marks c.in_ok-values.ensures)

pub returns-clause-tally : goal.returns-clause-tally
returns-clause-tally c =
    let me = c.args.self.now in
    let values = c.in_ok-values.values.items in
    let marks : c.in_ok-marks.marks.items ≡ map (λ v. truth (datum_of v)) values =
    IfOk-at_ok _ c.in_ok-marks.was (items_from_collect _ c.collect.ensures.ran (YieldsList-from_map _
    (λ v. truth (datum_of v)) (YieldsList-from_slice values cc) c.map.ensures.closure
    (λ x r q k. search rules))) in
    let kept = retained (tree me.condition) (rows_of me.block)
    (rows_of c.retain.new.self) c.deref-2.result.now
    c.in_ok-marks.marks.items values datum_of c.retain.ensures.rows c.deref-2.ensures.value marks
    c.in_ok-values.ensures in
    let n = ap length kept in
    let m = both (tree me.condition) (rows_of me.block) in
    let before = c.len-before.ensures in
    let after = c.len.ensures in
    let dropped : c.len-before.result - c.len.result ≡ length
    (failing (tree me.condition) (rows_of me.block)) =
    omega (arith, n, m, before, after) in
    rw c.if-self.false (rises_more _ _ _ _ dropped c.count_dropped.ensures.rises)

pub returns-clause-counted : goal.returns-clause-counted
returns-clause-counted c =
    let me = c.args.self.now in
    let values = c.in_ok-values.values.items in
    let marks : c.in_ok-marks.marks.items ≡ map (λ v. truth (datum_of v)) values =
    IfOk-at_ok _ c.in_ok-marks.was (items_from_collect _ c.collect.ensures.ran (YieldsList-from_map _
    (λ v. truth (datum_of v)) (YieldsList-from_slice values cc) c.map.ensures.closure
    (λ x r q k. search rules))) in
    let kept = retained (tree me.condition) (rows_of me.block)
    (rows_of c.retain.new.self) c.deref-2.result.now
    c.in_ok-marks.marks.items values datum_of c.retain.ensures.rows c.deref-2.ensures.value marks
    c.in_ok-values.ensures in
    let n = ap length kept in
    let m = both (tree me.condition) (rows_of me.block) in
    let before = c.len-before.ensures in
    let after = c.len.ensures in
    let dropped : c.len-before.result - c.len.result ≡ length
    (failing (tree me.condition) (rows_of me.block)) =
    omega (arith, n, m, before, after) in
    λ _. c.count_dropped.ensures.counted ∙ ap (saturated c.args.tally.now.filtered) dropped
