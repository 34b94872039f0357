use Rattle.std.proofs.lemmas.Result.{on_ok_weaker}
use Rattle.aql_show.proofs.Forms.{range_written, ternary_written}
use Rattle.aql_show.proofs.exprs.+exprs.Goals as goal

pub write_expr-returns-in_ok-write_after-in-Cond-2 : goal.write_expr-returns-in_ok-write_after-in-Cond-2
write_expr-returns-in_ok-write_after-in-Cond-2 t c =
    let n = c.in-Cond in
    on_ok_weaker c.put-in-Cond-2.result
    (λ h. ternary_written c.args.known.now.names.now c.args.expr.now n.test n.yes n.no
    c.deref-in-Cond.result.now c.deref-in-Cond-2.result.now c.args.out.now.items
    c.write_after-in-Cond.new.out.items c.put-in-Cond.new.out.items c.write_boxed.new.out.items
    c.write_after-in-Cond-2.new.out.items c.put-in-Cond-2.new.out.items
    n.is c.deref-in-Cond.ensures c.deref-in-Cond-2.ensures
    c.in_ok-write_after-in-Cond.ensures c.in_ok-put-in-Cond.ensures c.in_ok-write_boxed-in-Cond.ensures
    c.in_ok-write_after-in-Cond-2.ensures h)
    c.put-in-Cond-2.ensures

pub write_expr-returns-in_ok-write_after-in-Range-2 : goal.write_expr-returns-in_ok-write_after-in-Range-2
write_expr-returns-in_ok-write_after-in-Range-2 t c =
    let n = c.in-Range in
    on_ok_weaker c.put-in-Range.result
    (λ h. range_written c.args.known.now.names.now c.args.expr.now n.low n.high
    c.deref-in-Range.result.now c.deref-in-Range-2.result.now c.args.out.now.items
    c.write_after-in-Range.new.out.items c.write_after-in-Range-2.new.out.items c.put-in-Range.new.out.items
    n.is c.deref-in-Range.ensures c.deref-in-Range-2.ensures
    c.in_ok-write_after-in-Range.ensures c.in_ok-write_after-in-Range-2.ensures h)
    c.put-in-Range.ensures
