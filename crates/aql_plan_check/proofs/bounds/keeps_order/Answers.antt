-- The order is kept where the attributes are among those that are kept.
use Rattle.std.proofs.Common.{◌≡◌, ◌∙◌, ap, sym, subst, ℕ, List, Bool}
use Rattle.std.specs.Prelude.{◌↔◌, IsTrue, Option, Some, bytes_eq}
use Rattle.std.specs.List.{list_any, list_all}
use Rattle.aql_plan.specs.Fits.{KeepsOrder}
use Rattle.aql_plan_check.proofs.bounds.keeps_order.Goals as goal

kept_order : (r : Bool) (attributes lent names : List (List ℕ)) (kept : Option (List (List ℕ)))
    (ordered : Option Bool) (descending : Bool) → kept ≡ Some names → ordered ≡ Some descending → lent ≡ names
    → r ≡ list_all (λ a. list_any (bytes_eq a) lent) attributes → IsTrue r ↔ KeepsOrder attributes kept ordered
kept_order r attributes lent names kept ordered descending e f g h =
    let k = h ∙ ap (λ (l : List (List ℕ)). list_all (λ a. list_any (bytes_eq a) l) attributes) g in
    subst (λ (o : Option (List (List ℕ))). IsTrue r ↔ KeepsOrder attributes o ordered) (sym e)
    (subst (λ (o : Option Bool). IsTrue r ↔ KeepsOrder attributes (Some names) o) (sym f)
    ((λ t. sym k ∙ t), (λ t. k ∙ t)))

pub returns-in-Some-Some : goal.returns-in-Some-Some
returns-in-Some-Some c = kept_order c.are_among.result c.args.attributes.now c.as_slice.result.now
    c.in-Some-Some.names c.args.kept.now c.args.ordered c.in-Some-Some.field-0-1 c.in-Some-Some.is-0
    c.in-Some-Some.is-1 c.as_slice.ensures c.are_among.ensures
