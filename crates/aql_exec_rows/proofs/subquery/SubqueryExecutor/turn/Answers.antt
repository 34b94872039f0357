use Rattle.std.proofs.Common.{◌≡◌, ◌∙◌, ◌+◌, ◌-◌, ◌*◌, ◌≤◌, inr, [], option_map, length, drop, true, refl, ap, sym, subst, arith}
use Rattle.std.proofs.lemmas.Option.{slice_get_within}
use Rattle.std.proofs.lemmas.List.{length-map, nil_from_length}
use mathlib.Core.Bool.{false≢true}
use Rattle.aql_value.specs.View.{datum_of, datums_in}
use Rattle.aql_tree.specs.declared.syntax.Ident.TheVariants.{Num}
use Rattle.aql_block.specs.Rows.{row_of}
use Rattle.aql_block.specs.Tables.{rows_of}
use Rattle.aql_exec.specs.Steps.{IsCall}
use Rattle.aql_exec.specs.Counting.{nothing}
use Rattle.aql_exec.specs.Operators.{Produces}
use Rattle.aql_exec.specs.laws.Telling.{no_other}
use Rattle.aql_exec_rows.specs.Subqueries.{Leaves, budget_of}
use Rattle.aql_exec_rows.specs.laws.SomeArrays.{not_one}
use Rattle.aql_exec.specs.laws.Counted.{rises_none, prefixed_none}
use Rattle.aql_exec_rows.proofs.Arrays.{still, rows_given, body_begun, none_left, passed, budget_begun}
use Rattle.aql_exec_rows.proofs.Keyings.{found}
use Rattle.aql_exec_rows.proofs.subquery.SubqueryExecutor.turn.Goals as goal

pub returns-then-self-clause-leads : goal.returns-then-self-clause-leads
returns-then-self-clause-leads g c =
    let me = c.args.self.now in
    let stock = g.W.Surroundings.stock c.args._world.now in
    let reported = c.nothing.ensures in (
      nothing,
      rises_none g.W.Surroundings c.args._tally.now c.args._world.now,
      λ v within body s ins ins' lens eqs ends.
          still (Produces body stock) (Num me.var) s ins ins' lens eqs me.inside me.begun (rows_of me.held)
          (datums_in me.values.items) me.results c.nothing.result reported.skipped reported.rows,
    )

pub returns-then-self-clause-other_ports : goal.returns-then-self-clause-other_ports
returns-then-self-clause-other_ports g c = (
  nothing,
  rises_none g.W.Surroundings c.args._tally.now c.args._world.now,
  λ v within p body s ins ins' r n b lens eqs ends h. absurd (no_other c.args._port p c.requires.port n b),
)

pub returns-then-self-2-clause-leads : goal.returns-then-self-2-clause-leads
returns-then-self-2-clause-leads g c = (
  nothing,
  rises_none g.W.Surroundings c.args._tally.now c.args._world.now,
  λ v within p body ins r ends h. (r, prefixed_none r, h),
)

pub returns-in-Some-clause-valid : goal.returns-in-Some-clause-valid
returns-in-Some-clause-valid g c =
    let me = c.args.self.now in
    let row = row_of c.in-Some.row in
    let at = sym c.in_ok-row.ensures ∙ ap (option_map row_of) c.in-Some.is in
    let n : c.len.result ≡ length me.values.items = c.len.ensures ∙ me.values.ok.0 in
    let within = slice_get_within (rows_of me.held) c.len.result row at in
    record {
      ready = c.requires.valid.ready;
      running = λ _. (refl, refl, omega (arith, n, within));
      ended = λ e. absurd (false≢true (sym e));
    }

pub returns-in-Some-clause-leads : goal.returns-in-Some-clause-leads
returns-in-Some-clause-leads g c =
    let me = c.args.self.now in
    let stock = g.W.Surroundings.stock c.args._world.now in
    let held = rows_of me.held in
    let values = datums_in me.values.items in
    let row = row_of c.in-Some.row in
    let at = sym c.in_ok-row.ensures ∙ ap (option_map row_of) c.in-Some.is in
    let n : length values ≡ c.len.result =
    length-map me.values.items datum_of ∙ sym (c.len.ensures ∙ me.values.ok.0) in
    let next = ap (λ k. drop k held) n ∙ found held c.len.result row at in (
      nothing,
      rises_none g.W.Surroundings c.args._tally.now c.args._world.now,
      λ v within p body ins ins' r others made ends h.
          (let made_by = Produces body stock in
          let new = subst (λ z. Leaves true true made_by (Num me.var) held values z (ins' 0) (ins' 1) r)
          c.new.ensures h in
          let same = subst (λ z. Leaves true true made_by (Num me.var) held values [] z (ins' 1) r)
          (others 0 not_one) new in
          let o = body_begun (Produces body stock) (Num me.var) me.begun held values me.results row
          (drop (c.len.result + 1) held) (ins 0) (ins 1) (ins' 1) r
          (λ b. (ends 1 (c.requires.valid.ended c.if-self-2.false b)).1) next made same in (
            o.0,
            o.1,
            subst (λ b. Leaves b me.begun (Produces body stock) (Num me.var) held values me.results
                (ins 0) (ins 1) o.0) (sym c.if-self-2.false) o.2,
          )),
    )

pub returns-in-Some-clause-budget : goal.returns-in-Some-clause-budget
returns-in-Some-clause-budget g c f =
    let me = c.args.self.now in
    let row = row_of c.in-Some.row in
    let at = sym c.in_ok-row.ensures ∙ ap (option_map row_of) c.in-Some.is in
    let n : c.len.result ≡ length me.values.items = c.len.ensures ∙ me.values.ok.0 in
    let within = slice_get_within (rows_of me.held) c.len.result row at in
    let ready = length me.values.items in
    let waiting = length (rows_of me.held) - ready in
    let some : 1 ≤ waiting = omega (arith, n, within) in
    subst (λ b. (budget_of me.done true f ready waiting + 1 * f) + 1 ≤ budget_of me.done b f ready waiting)
    (sym c.if-self-2.false) (budget_begun me.done f ready waiting some)

pub give-requires-clause-ready : goal.give-requires-clause-ready
give-requires-clause-ready g c =
    let me = c.args.self.now in
    let all = passed (rows_of me.held) c.len.result
    (sym (ap (option_map row_of) c.in_default.is) ∙ c.in_ok-row.ensures) in
    let n : c.len.result ≡ length me.values.items = c.len.ensures ∙ me.values.ok.0 in
    let ready = c.requires.valid.ready in
    omega (arith, all, n, ready)

pub returns-then-len-gt0-clause-leads : goal.returns-then-len-gt0-clause-leads
returns-then-len-gt0-clause-leads g c =
    let me = c.args.self.now in
    let stock = g.W.Surroundings.stock c.args._world.now in
    let given = c.in_ok-step.ensures.rows in
    let past = passed (rows_of me.held) c.len.result
    (sym (ap (option_map row_of) c.in_default.is) ∙ c.in_ok-row.ensures) in
    let n : c.len.result ≡ length me.values.items = c.len.ensures ∙ me.values.ok.0 in
    let ready = c.requires.valid.ready in
    let all : length me.values.items ≡ length (rows_of me.held) = omega (arith, past, n, ready) in (
      nothing,
      rises_none g.W.Surroundings c.args._tally.now c.args._world.now,
      λ v within body s ins ins' lens eqs ends.
          rows_given (Produces body stock) (Num me.var) s ins ins' lens eqs me.inside me.begun
          (rows_of me.held)
          (rows_of c.give.new.held) (datums_in me.values.items) (datums_in c.give.new.values.items) me.results
          c.in_ok-step.step given.0 c.if-self-2.false (length-map me.values.items datum_of ∙ all)
          (length-map c.give.new.values.items datum_of ∙ c.in_ok-step.ensures.ready) given.1 given.2,
    )

pub returns-then-len-gt0-clause-other_ports : goal.returns-then-len-gt0-clause-other_ports
returns-then-len-gt0-clause-other_ports g c = (
  nothing,
  rises_none g.W.Surroundings c.args._tally.now c.args._world.now,
  λ v within p body s ins ins' r n b lens eqs ends h. absurd (no_other c.args._port p c.requires.port n b),
)

pub returns-then-self-3-clause-leads : goal.returns-then-self-3-clause-leads
returns-then-self-3-clause-leads g c =
    let me = c.args.self.now in
    let stock = g.W.Surroundings.stock c.args._world.now in
    let reported = c.nothing-then-self-3.ensures in (
      nothing,
      rises_none g.W.Surroundings c.args._tally.now c.args._world.now,
      λ v within body s ins ins' lens eqs ends.
          still (Produces body stock) (Num me.var) s ins ins' lens eqs me.inside me.begun (rows_of me.held)
          (datums_in me.values.items) me.results c.nothing-then-self-3.result reported.skipped reported.rows,
    )

pub returns-then-self-3-clause-other_ports : goal.returns-then-self-3-clause-other_ports
returns-then-self-3-clause-other_ports g c = (
  nothing,
  rises_none g.W.Surroundings c.args._tally.now c.args._world.now,
  λ v within p body s ins ins' r n b lens eqs ends h. absurd (no_other c.args._port p c.requires.port n b),
)

pub returns-then-self-3-clause-done : goal.returns-then-self-3-clause-done
returns-then-self-3-clause-done g c =
    let me = c.args.self.now in
    let stock = g.W.Surroundings.stock c.args._world.now in
    let past = passed (rows_of me.held) c.len.result
    (sym (ap (option_map row_of) c.in_default.is) ∙ c.in_ok-row.ensures) in
    let none = c.if-len-gt0.false in
    let n = c.len.ensures in
    let m = c.len-2.ensures in
    let held : rows_of me.held ≡ [] = nil_from_length (rows_of me.held) (omega (arith, past, none, n, m)) in
    λ _. inr (λ v at within body ins ends r h.
    none_left (Produces body stock) (Num me.var) me.inside me.begun (rows_of me.held)
    (datums_in me.values.items)
    me.results (ins 0) (ins 1) r c.if-self-2.false held (ends 0 c.if-self-3.true)
    (λ b. (ends 1 (c.requires.valid.ended c.if-self-2.false b)).1) h)

pub returns-clause-asked : goal.returns-clause-asked
returns-clause-asked g c =
    let me = c.args.self.now in
    let call = c.requires.call in
    let some = call.some in
    let batch = call.batch in
    let past = passed (rows_of me.held) c.len.result
    (sym (ap (option_map row_of) c.in_default.is) ∙ c.in_ok-row.ensures) in
    let none = c.if-len-gt0.false in
    let n = c.len.ensures in
    let m = c.len-2.ensures in
    let v = me.values.ok.0 in
    let held : rows_of me.held ≡ [] = nil_from_length (rows_of me.held) (omega (arith, past, none, n, m)) in
    let values : me.values.items ≡ [] = nil_from_length me.values.items (omega (arith, none, m, v)) in
    let is_call : IsCall (record { offset = 0; soft = c.args.call.soft; hard = 18446744073709551615 }) =
    record { some = some; soft = omega (arith, batch); batch = batch } in (
      omega arith,
      refl,
      is_call,
      ((refl, batch, refl), c.if-self-2.false, held, values, c.if-self-3.false, c.if-self.false),
      (is_call, refl, refl, c.if-self-3.false),
      λ e. absurd (false≢true (sym c.if-self-3.false ∙ e)),
      λ e. absurd (false≢true (sym c.if-self.false ∙ e.0)),
      omega arith,
    )

pub returns-clause-leads : goal.returns-clause-leads
returns-clause-leads g c = (
  nothing,
  rises_none g.W.Surroundings c.args._tally.now c.args._world.now,
  λ v within p body ins r ends h. (r, prefixed_none r, h),
)
