use Rattle.std.proofs.Common.{◌≡◌, ℕ, ◌<◌, get_or, bytes_eq, false}
use Rattle.aql_doc.specs.Held.{Held}
use Rattle.aql_doc.proofs.catalog.Catalog.find.Given as goal

abbrev pub invariant-loop-i : goal.invariant-loop-i
invariant-loop-i l =
    (k : ℕ) (d : Held) → k < l.i → bytes_eq (get_or l.collection-items k d).info.name l.name ≡ false
