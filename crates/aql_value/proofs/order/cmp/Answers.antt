use Rattle.std.proofs.Common.{sym, subst}
use Rattle.aql_value.specs.View.{datum_of}
use Rattle.aql_value.specs.Order.{Compares}
use Rattle.aql_value.specs.laws.Ranks.{datum_ranks}
use Rattle.aql_value.proofs.order.cmp.Goals as goal

pub returns-clause-order : goal.returns-clause-order
returns-clause-order c =
    subst (λ o. Compares o (datum_of c.args.a.now) (datum_of c.args.b.now)) (sym c.order.ensures)
    (datum_ranks (datum_of c.args.a.now) (datum_of c.args.b.now))
