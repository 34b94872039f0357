-- Members in another order have the same aggregate.
use Rattle.std.proofs.Common.{◌≡◌, suc, List, [], ◌∷◌, ◌++◌, map, length, append_assoc, subst, Bool, true, false, cond, ◌||◌, Option, Some, None, unwrap_or, option_map, refl, sym, ap, ◌∙◌, IsPermutation, arith}
use Rattle.std.specs.Prelude.{ℤ, pos, ◌+ℤ◌, flat_map}
use Rattle.std.proofs.lemmas.List.Sorted.{IsPermutation-refl, IsPermutation-append, IsPermutation-append_comm}
use Rattle.std.specs.List.{list_any}
use Rattle.std.specs.Ordering.{is_lt, ordering_reverse}
use Rattle.std.specs.declared.cmp.Ordering.{Ordering}
use Rattle.std.specs.declared.cmp.Ordering.TheVariants.{Less, Equal, Greater}
use Rattle.std.proofs.lemmas.Int.{ints}
use Rattle.aql_value.specs.Datum.{Datum, null}
use Rattle.aql_value.specs.Compare.{compare}
use Rattle.aql_value.specs.Contents.{list, elements, same, is_below}
use Rattle.aql_value.specs.Truth.{truth}
use Rattle.aql_value.specs.Convert.{to_number, number_or_null}
use Rattle.aql_value.specs.laws.Strict.{compare_total}
use Rattle.aql_value.specs.laws.Keyed.{same_from_equal}
use Rattle.aql_func.specs.Lists.{distinct}
use Rattle.aql_func.specs.Aggregates.{Aggregate, count, sum, min, max, sorted_unique, count_distinct, aggregate, join, is_null, is_bad, count_of, exact_sum, best, prefer, lesser, greater, join_counts, part_at, state_sum, is_spoilt}
use Rattle.aql_func.specs.laws.Shuffles.{Shuffled, none, skip, flip, chain, shuffled}
use Rattle.aql_func.specs.laws.Ascending.{below_order}
use Rattle.aql_aggregate.specs.laws.Counts.{total, total_cons}
use Rattle.aql_aggregate.specs.laws.Chosen.{Associates, lesser_associates, greater_associates}
use Rattle.aql_aggregate.specs.laws.Members.{distinct_alike}

same_length : {X : Type 0} {xs ys : List X} → Shuffled xs ys → length xs ≡ length ys
same_length none = refl
same_length (skip x s) = ap suc (same_length s)
same_length (flip x y xs) = refl
same_length (chain s t) = same_length s ∙ same_length t

same_total : {X : Type 0} (f : X → ℤ) {xs ys : List X} → Shuffled xs ys → total f xs ≡ total f ys
same_total f none = refl
same_total f (skip x {xs} {ys} s) = total_cons f x xs ∙ ap (λ z. f x +ℤ z) (same_total f s)
    ∙ sym (total_cons f x ys)
same_total f (flip x y xs) =
    let a = total_cons f x (y ∷ xs) in
    let b = total_cons f y xs in
    let c = total_cons f y (x ∷ xs) in
    let d = total_cons f x xs in
    omega (arith, ints, a, b, c, d)
same_total f (chain s t) = same_total f s ∙ same_total f t

pub same_any : {X : Type 0} (p : X → Bool) {xs ys : List X} → Shuffled xs ys → list_any p xs ≡ list_any p ys
same_any p none = refl
same_any p (skip x s) = ap (λ b. p x || b) (same_any p s)
same_any p (flip x y xs) = turned (p x) (p y) (list_any p xs)
  where
    turned : (a b c : Bool) → a || (b || c) ≡ b || (a || c)
    turned true true c = refl
    turned true false c = refl
    turned false b c = refl
same_any p (chain s t) = same_any p s ∙ same_any p t

abbrev Commutes : (Datum → Datum → Datum) → Type 0
Commutes pick = (t u : Datum) → pick t u ≡ pick u t

module _ (pick : Datum → Datum → Datum) (a : Associates pick) (c : Commutes pick) where
  turned_pick : (t u : Datum) (n m : Bool) (o : Option Datum)
      → cond n (cond m o (Some (unwrap_or (option_map (pick u) o) u)))
      (Some (unwrap_or (option_map (pick t) (cond m o (Some (unwrap_or (option_map (pick u) o) u)))) t))
      ≡ cond m (cond n o (Some (unwrap_or (option_map (pick t) o) t)))
      (Some (unwrap_or (option_map (pick u) (cond n o (Some (unwrap_or (option_map (pick t) o) t)))) u))
  turned_pick t u true true o = refl
  turned_pick t u true false o = refl
  turned_pick t u false true o = refl
  turned_pick t u false false None = ap Some (c t u)
  turned_pick t u false false (Some b) = ap Some (a t u b ∙ ap (λ s. pick s b) (c t u) ∙ sym (a u t b))

  same_best : {ts us : List Datum} → Shuffled ts us → best pick ts ≡ best pick us
  same_best none = refl
  same_best (skip t s) = ap (prefer pick t) (same_best s)
  same_best (flip t u ts) = turned_pick t u (is_null t) (is_null u) (best pick ts)
  same_best (chain s t) = same_best s ∙ same_best t

-- of two values of which neither is below the other there is one
one_value : (t u : Datum) → is_below u t ≡ false → is_below t u ≡ false → t ≡ u
one_value t u p q = by (compare t u) refl
  where
    by : (o : Ordering) → compare t u ≡ o → t ≡ u
    by Less e = absurd (let f = ap is_lt e in cc)
    by Equal e = same_from_equal t u e
    by Greater e = absurd (let f = ap is_lt (compare_total.antisymm u t ∙ ap ordering_reverse e) in cc)

lesser_commutes : Commutes lesser
lesser_commutes t u = by (is_below u t) refl (is_below t u) refl
  where
    by : (b : Bool) → is_below u t ≡ b → (c : Bool) → is_below t u ≡ c → cond b u t ≡ cond c t u
    by true p true q = absurd (let e = below_order.one_way u t p in cc)
    by true p false q = refl
    by false p true q = refl
    by false p false q = one_value t u p q

greater_commutes : Commutes greater
greater_commutes t u = by (is_below u t) refl (is_below t u) refl
  where
    by : (b : Bool) → is_below u t ≡ b → (c : Bool) → is_below t u ≡ c → cond c u t ≡ cond b t u
    by true p true q = absurd (let e = below_order.one_way u t p in cc)
    by true p false q = refl
    by false p true q = refl
    by false p false q = one_value t u p q

same_distinct : {ts us : List Datum} → Shuffled ts us → distinct ts ≡ distinct us
same_distinct {ts} {us} s = distinct_alike ts us (λ x. same_any (same x) s)

same_least : {ts us : List Datum} → Shuffled ts us → unwrap_or (best lesser ts) null
    ≡ unwrap_or (best lesser us) null
same_least s = ap (λ o. unwrap_or o null) (same_best lesser lesser_associates lesser_commutes s)

same_greatest : {ts us : List Datum} → Shuffled ts us
    → unwrap_or (best greater ts) null ≡ unwrap_or (best greater us) null
same_greatest s = ap (λ o. unwrap_or o null) (same_best greater greater_associates greater_commutes s)

pub same_aggregate : (kind : Aggregate) {ts us : List Datum} → Shuffled ts us → aggregate kind ts
    ≡ aggregate kind us
same_aggregate count s = ap (λ n. number_or_null (pos n)) (same_length s)
same_aggregate sum {ts} {us} s =
    ap (λ n. cond (is_null (number_or_null (pos n)) || list_any is_bad ts) null (number_or_null
    (exact_sum ts)))
    (same_length s)
    ∙ ap (λ b. cond (is_null (count_of us) || b) null (number_or_null (exact_sum ts))) (same_any is_bad s)
    ∙ ap (λ z. cond (is_null (count_of us) || list_any is_bad us) null (number_or_null z))
    (same_total to_number s)
same_aggregate min s = same_least s
same_aggregate max s = same_greatest s
same_aggregate sorted_unique s = ap list (same_distinct s)
same_aggregate count_distinct s = ap count_of (same_distinct s)

same_counts : {cs ds : List Datum} → Shuffled cs ds → join_counts cs ≡ join_counts ds
same_counts {cs} {ds} s = ap (λ b. cond b null (number_or_null (exact_sum cs))) (same_any is_null s)
    ∙ ap (λ z. cond (list_any is_null ds) null (number_or_null z)) (same_total to_number s)

pub mapped : {A B : Type 0} (f : A → B) {xs ys : List A} → Shuffled xs ys → Shuffled (map f xs) (map f ys)
mapped f none = none
mapped f (skip x s) = skip (f x) (mapped f s)
mapped f (flip x y xs) = flip (f x) (f y) (map f xs)
mapped f (chain s t) = chain (mapped f s) (mapped f t)

behind : {X : Type 0} (xs : List X) {ys zs : List X} → Shuffled ys zs → Shuffled (xs ++ ys) (xs ++ zs)
behind [] s = s
behind (x ∷ xs) s = skip x (behind xs s)

elements_in : {ss us : List Datum} → Shuffled ss us → Shuffled (flat_map elements ss) (flat_map elements us)
elements_in none = none
elements_in (skip t s) = behind (elements t) (elements_in s)
elements_in (flip t u ts) = exchanged (elements t) (elements u) (flat_map elements ts)
  where
    exchanged : (xs ys zs : List Datum) → Shuffled (xs ++ (ys ++ zs)) (ys ++ (xs ++ zs))
    exchanged xs ys zs = subst (λ l. Shuffled l (ys ++ (xs ++ zs))) (append_assoc xs ys zs)
        (subst (λ l. Shuffled ((xs ++ ys) ++ zs) l) (append_assoc ys xs zs)
        (shuffled _ _ (IsPermutation-append (xs ++ ys) (ys ++ xs) zs zs (IsPermutation-append_comm xs ys)
        (IsPermutation-refl zs))))
elements_in (chain s t) = chain (elements_in s) (elements_in t)

-- the states of the parts in another order have the same value
pub same_join : (kind : Aggregate) {ss us : List Datum} → Shuffled ss us → join kind ss ≡ join kind us
same_join count s = same_counts s
same_join sum {ss} {us} s =
    ap (λ t. cond (is_null t || list_any (λ s. truth (part_at (pos 1) s)) ss) null (number_or_null
    (total state_sum ss)))
    (same_counts (mapped (part_at (pos 0)) s))
    ∙ ap (λ b. cond (is_null (join_counts (map (part_at (pos 0)) us)) || b) null (number_or_null
    (total state_sum ss)))
    (same_any (λ s. truth (part_at (pos 1) s)) s)
    ∙ ap (λ z. cond (is_spoilt us) null (number_or_null z)) (same_total state_sum s)
same_join min s = same_least (elements_in s)
same_join max s = same_greatest (elements_in s)
same_join sorted_unique s = ap list (same_distinct (elements_in s))
same_join count_distinct s = ap count_of (same_distinct (elements_in s))

pub in_any_order : (kind : Aggregate) (ts us : List Datum) → IsPermutation ts us
    → (aggregate kind ts ≡ aggregate kind us) × (join kind ts ≡ join kind us)
in_any_order kind ts us p = (same_aggregate kind (shuffled ts us p), same_join kind (shuffled ts us p))
