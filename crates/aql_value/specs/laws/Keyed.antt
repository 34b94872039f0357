-- Equal values are fed alike.
use Rattle.std.proofs.Common.{◌≡◌, Equal, ap, subst}
use Rattle.std.specs.Ordering.{is_eq}
use Rattle.std.specs.Prelude.{IsTrue}
use Rattle.std.specs.Cmp.{Equal-is}
use Rattle.aql_value.specs.Datum.{Datum}
use Rattle.aql_value.specs.Order.{Compares}
use Rattle.aql_value.specs.Compare.{compare}
use Rattle.aql_value.specs.HashInput.{datum_input}
use Rattle.aql_value.specs.laws.Ranks.{datum_ranks}

pub same_from_equal : (s t : Datum) → compare s t ≡ Equal → s ≡ t
same_from_equal s t e = subst (λ o. Compares o s t) e (datum_ranks s t)

pub same_input : (s t : Datum) → IsTrue (is_eq (compare s t)) → datum_input s ≡ datum_input t
same_input s t e = ap datum_input (same_from_equal s t ((Equal-is (compare s t)).0 e))
