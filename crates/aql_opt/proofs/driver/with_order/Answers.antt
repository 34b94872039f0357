use Rattle.std.proofs.Common.{◌∙◌, ◌++◌, ap, sym, append-nil}
use Rattle.aql_opt.specs.laws.Cheapest.{order_names}
use Rattle.aql_opt.proofs.driver.with_order.Goals as goal

pub returns-then-reordered : goal.returns-then-reordered
returns-then-reordered c =
    c.in_ok-push.ensures.ok ∙ ap (λ b. c.args.applied ++ order_names b) (sym c.if-reordered.true)

pub returns : goal.returns
returns c =
    sym (append-nil c.args.applied) ∙ ap (λ b. c.args.applied ++ order_names b) (sym c.if-reordered.false)
