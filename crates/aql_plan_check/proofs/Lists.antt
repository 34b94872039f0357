-- Lists of two nodes have the same length where they are the same.
use Rattle.std.proofs.Common.{◌≡◌, ◌∙◌, ap, sym, refl, subst, ℕ, suc, ◌<◌, ◌+◌, List, [], ◌∷◌, length, get_or, drop, map, Bool, true, false, true≢false}
use Rattle.std.specs.Prelude.{◌↔◌, IsTrue}
use Rattle.std.proofs.lemmas.List.{length-map}
use Rattle.aql_tree.specs.declared.syntax.Key.{Key}
use Rattle.aql_tree.specs.Tree.{ExprTree, AggregateTrees, no_aggregates, aggregate_then}
use Rattle.aql_tree.specs.View.{AggregatePart, aggregates as aggregate_trees, aggregate_part}
use Rattle.aql_tree.specs.declared.syntax.AggregateItem.{AggregateItem}
use Rattle.aql_plan_check.specs.inner.Sameness.{AggregatesSame, AreAttributes}
use Rattle.aql_plan_check.proofs.Tests.{left}

-- how many aggregates there are
aggregates_in : AggregateTrees → ℕ
aggregates_in no_aggregates = 0
aggregates_in (aggregate_then x name e rest) = suc (aggregates_in rest)

counted : (gs : List AggregatePart) → aggregates_in (aggregate_trees gs) ≡ length gs
unfolding aggregates_in
counted [] = refl
counted (g ∷ gs) = ap suc (counted gs)

pub same_length : (gs hs : List AggregateItem)
    → aggregate_trees (map aggregate_part gs) ≡ aggregate_trees (map aggregate_part hs) → length gs ≡ length hs
same_length gs hs e = sym (length-map gs aggregate_part) ∙ sym (counted (map aggregate_part gs))
    ∙ ap aggregates_in e ∙ counted (map aggregate_part hs) ∙ length-map hs aggregate_part

pub other_length : (gs hs : List AggregateItem) → (length gs ≡ length hs → ⊥)
    → IsTrue false ↔ AggregatesSame (map aggregate_part gs) (map aggregate_part hs)
other_length gs hs f =
    ((λ t. absurd (true≢false (sym t))), (λ h. absurd (f (same_length gs hs h.1))))

-- a key with more keys, and an attribute with more attributes
attributes_split : (k : Key) (ks : List Key) (var : ℕ) (n : List ℕ) (ns : List (List ℕ)) (d : Bool)
    → (AreAttributes (k ∷ []) var (n ∷ []) d × AreAttributes ks var ns d) ↔ AreAttributes (k ∷ ks) var (n ∷ ns) d
attributes_split k ks var n ns d = (
  (λ h. let a = h.0.0 in let b = h.1.0 in let e = h.0.1 in let f = h.1.1 in (cc, cc)),
  (λ h. let a = h.0 in let b = h.1 in ((cc, cc), (cc, cc))),
)

pub attributes_left : (ks : List Key) (var : ℕ) (ns : List (List ℕ)) (d : Bool) (i : ℕ) (k : Key) (n : List ℕ)
    → i < length ks → i < length ns → k ≡ get_or ks i k → n ≡ get_or ns i n
    → (AreAttributes (drop i ks) var (drop i ns) d ↔ AreAttributes ks var ns d)
    → (AreAttributes (k ∷ []) var (n ∷ []) d × AreAttributes (drop (i + 1) ks) var (drop (i + 1) ns) d)
    ↔ AreAttributes ks var ns d
attributes_left ks var ns d i k n f g e h inv =
    let s = attributes_split k (drop (i + 1) ks) var n (drop (i + 1) ns) d in
    let at = subst (λ (l : List Key). AreAttributes l var (n ∷ drop (i + 1) ns) d ↔ AreAttributes ks var ns d)
    (left ks i k f e)
    (subst (λ (l : List (List ℕ)). AreAttributes (drop i ks) var l d ↔ AreAttributes ks var ns d)
    (left ns i n g h) inv) in
    ((λ p. at.0 (s.0 p)), (λ w. s.1 (at.1 w)))
