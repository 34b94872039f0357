use Rattle.std.proofs.Common.{◌+◌, refl, sym, ap, ◌∙◌, arith}
use Rattle.std.proofs.lemmas.List.{nil_from_length}
use mathlib.Core.Bool.{false≢true}
use Rattle.aql_block.specs.Tables.{rows_of}
use Rattle.aql_block.specs.declared.calls.Call.{Call}
use Rattle.aql_exec.specs.laws.Telling.{only_input}
use Rattle.aql_exec.proofs.Limited.{limit_taken}
use Rattle.aql_exec.proofs.Asking.{same_follows, not_true}
use Rattle.aql_exec.proofs.limit.LimitExecutor.take.Goals as goal

pub returns-clause-leads : goal.returns-clause-leads
returns-clause-leads g c v w p body d s0 s ins' ins t b r l0 l1 a e' e os ends h =
    let me = c.args.self.now in
    let first = only_input c.args._input c.requires.input in
    let waits = c.requires.valid.1.waits (rw first at c.requires.asked.1).1 in
    let block = (c.requires.valid.1.not_held waits.1).1 in
    limit_taken me.skip me.left me.skipped c.args.step.skipped (rows_of me.block)
    (rows_of c.args.step.block) s0 s d
    (ins' 0) (ins 0) t b r block (rw first at l0) l1 a (rw first at e') (rw first at e) h

pub returns-clause-valid : goal.returns-clause-valid
returns-clause-valid g c w v =
    let me = c.args.self.now in
    let step = c.args.step in
    let first = only_input c.args._input c.requires.input in
    let asked = rw first at c.requires.asked.1 in
    let waits = v.waits asked.1 in
    let reach = waits.0 in
    let asks = v.asks waits.2 in
    let came = c.requires.asked.2.skipped in
    let rows = c.requires.asked.2.rows in
    let front = c.requires.asked.2.first in
    let offset = ap (λ (z : Call). z.offset) asked.0 in
    let soft = ap (λ (z : Call). z.soft) asked.0 in
    let len = c.len-self.ensures in
    let early = c.ended_early-self.ensures in
    let tells = c.tells-self.ensures in
    record {
      skip_in = v.skip_in;
      left_in = v.left_in;
      not_held = λ e. (let n = tells.none e in (n.1, nil_from_length (rows_of step.block) (sym len ∙ n.2)));
      idle = λ e. absurd (false≢true (sym e ∙ waits.2));
      asks = λ _. asks;
      waits = λ e. absurd (false≢true e);
      going = λ _ e. not_true _ (λ d. (let x = sym (early.early d).0 ∙ (tells.none e).0 in cc x));
      held = λ e. record {
        asked = waits.2;
        pending = refl;
        rows = len;
        skipped = omega (arith, came, offset, reach);
        rows_in = omega (arith, len, rows, soft);
        first = λ n. (let f = front (omega (arith, n, len)) in omega (arith, f, offset, reach));
        over = omega (arith, reach);
        ended = λ d. (early.early d).0;
        done = early.done;
        more = tells.some e;
      };
      next = λ _ _ e d i m. (let n = tells.none e in rw (m.0 waits.2)
          (same_follows me.call me.ask me.skip me.left (me.skipped + step.skipped) step.skipped _ step.progress
          n.0 n.2 n.1 (omega (arith, reach)) asks.3));
    }
