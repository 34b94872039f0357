-- Objects compare at the least name at which they differ.
use Rattle.std.proofs.Common.{◌≡◌, ℕ, List, Option, Some, None, Ordering, Less, Equal, Greater, refl, sym, ap, ◌∙◌, subst, inl, inr}
use Rattle.std.specs.Ordering.{nat_cmp, match_ordering, MatchOrdering}
use Rattle.std.specs.Cmp.Lexicographic.{slice_cmp}
use Rattle.std.proofs.lemmas.Cmp.{nat_list_cmp_total, tied_itself}
use Rattle.aql_value.specs.Datum.{Datum, Fields, no_fields, field}
use Rattle.aql_value.specs.Order.{FieldsBelow, BytesBelow}
use Rattle.aql_value.specs.WellFormed.{FieldsWellFormed, IsBelowNames}
use Rattle.aql_value.specs.laws.Ranks.{fields_rank, same_bytes, above_bytes}
use Rattle.aql_value.specs.laws.Strict.{not_itself, chain}
use Rattle.aql_value.specs.TotalOrder.{field_at, MissingBelow, IsFirstBelowAt, ObjectsCompareAtLeastName}
use Rattle.aql_value.specs.laws.Kept.{above, below_later}

itself : (k : List ℕ) → slice_cmp nat_cmp k k ≡ Equal
itself k = tied_itself nat_list_cmp_total k

alike : (k l : List ℕ) → k ≡ l → slice_cmp nat_cmp k l ≡ Equal
alike k l e = ap (slice_cmp nat_cmp k) (sym e) ∙ itself k

none_at : (l : List ℕ) (fs : Fields) → IsBelowNames l fs → field_at l fs ≡ None
none_at l no_fields h = refl
none_at l (field m t fs) h = rw h.0 (none_at l fs h.1)

-- none before the first name
none_before : (m k : List ℕ) (t : Datum) (fs : Fields) → BytesBelow m k → IsBelowNames k fs
    → field_at m (field k t fs) ≡ None
none_before m k t fs b h = none_at m (field k t fs) (b, below_later m k fs b h)

not_missing_itself : (o : Option Datum) → MissingBelow o o → ⊥
not_missing_itself None h = h
not_missing_itself (Some t) h = not_itself t h

not_both : (o p : Option Datum) → MissingBelow o p → MissingBelow p o → ⊥
not_both None None h k = h
not_both None (Some u) h k = k
not_both (Some t) None h k = h
not_both (Some t) (Some u) h k = not_itself t (chain t u t h k)

some_there : (o p : Option Datum) → MissingBelow o p → p ≡ None → ⊥
some_there None None h e = h
some_there (Some t) None h e = h
some_there o (Some u) h e = absurd cc

above_at : (o : Ordering) (l n m : List ℕ) (u : Datum) (gs : Fields) → slice_cmp nat_cmp n m ≡ o
    → BytesBelow l m → (match_ordering o (field_at n gs) (Some u) (field_at n gs) ≡ None → ⊥)
    → ((field_at n gs ≡ None → ⊥) → BytesBelow l n) → BytesBelow l n
above_at Less l n m u gs e b h r = r h
above_at Equal l n m u gs e b h r = subst (BytesBelow l) (sym (same_bytes n m e)) b
above_at Greater l n m u gs e b h r = r h

above_first : (l n : List ℕ) (gs : Fields) → IsBelowNames l gs → (field_at n gs ≡ None → ⊥) → BytesBelow l n
above_first l n no_fields h some = absurd (some refl)
above_first l n (field m u gs) h some = above_at _ l n m u gs refl h.0 some (above_first l n gs h.1)

pub first : (fs gs : Fields) → FieldsWellFormed fs → FieldsWellFormed gs → FieldsBelow fs gs
    → (k : List ℕ) × IsFirstBelowAt k fs gs
first no_fields no_fields w v h = absurd h
first no_fields (field l u gs) w v h = (l, (rw (itself l) tt, λ m b. sym (none_before m l u gs b v.0)))
first (field k t fs) no_fields w v h = absurd h
first (field k t fs) (field l u gs) w v (inl b) = (
  l,
  (
    rw (none_before l k t fs b w.0, itself l) tt,
    λ m c. none_before m k t fs (nat_list_cmp_total.trans m l k c b) w.0
        ∙ sym (none_before m l u gs c v.0),
  ),
)
first (field k t fs) (field l u gs) w v (inr (e, inl b)) = (
  k,
  (
    rw (itself k, alike k l e) b,
    λ m c. none_before m k t fs c w.0
        ∙ sym (none_before m l u gs (subst (BytesBelow m) e c) v.0),
  ),
)
first (field k t fs) (field l u gs) w v (inr (e, inr (s, h))) =
    let r = first fs gs w.2 v.2 h in
    let later = above_first l r.0 gs v.0 (some_there _ _ r.1.0) in
    let from = subst (λ x. BytesBelow x r.0) (sym e) later in (
      r.0,
      (
        rw (above r.0 k from, above r.0 l later) r.1.0,
        λ m c i. match_ordering (slice_cmp nat_cmp m (e i)) (r.1.1 m c i) (Some (s i)) (r.1.1 m c i),
      ),
    )

meet : (o : Ordering) (k n : List ℕ) (fs gs : Fields) → slice_cmp nat_cmp k n ≡ o → IsFirstBelowAt k fs gs
    → IsFirstBelowAt n gs fs → ⊥
meet Less k n fs gs e p q =
    not_missing_itself (field_at k gs) (subst (λ x. MissingBelow x (field_at k gs)) (sym (q.1 k e)) p.0)
meet Equal k n fs gs e p q =
    not_both (field_at k fs) (field_at k gs) p.0
    (subst (λ x. MissingBelow (field_at x gs) (field_at x fs)) (sym (same_bytes k n e)) q.0)
meet Greater k n fs gs e p q =
    not_missing_itself (field_at n fs)
    (subst (λ x. MissingBelow x (field_at n fs)) (sym (p.1 n (above_bytes k n e))) q.0)

below_from : (o : Ordering) (fs gs : Fields) → FieldsWellFormed fs → FieldsWellFormed gs
    → MatchOrdering o (FieldsBelow fs gs) (fs ≡ gs) (FieldsBelow gs fs) → (k : List ℕ)
    → IsFirstBelowAt k fs gs → FieldsBelow fs gs
below_from Less fs gs w v h k p = h
below_from Equal fs gs w v h k p =
    absurd (not_missing_itself (field_at k gs)
    (subst (λ x. MissingBelow (field_at k x) (field_at k gs)) h p.0))
below_from Greater fs gs w v h k p = let q = first gs fs v w h in absurd (meet _ k q.0 fs gs refl p q.1)

pub at_least_name : ObjectsCompareAtLeastName
at_least_name fs gs w v = (first fs gs w v, λ p. below_from _ fs gs w v (fields_rank fs gs) p.0 p.1)
