-- Members with the same state stay so with more members.
use Rattle.std.proofs.Common.{◌≡◌, ℕ, ◌<◌, ◌≤◌, ◌^◌, length, ◌⊎◌, inl, inr, arith, List, [], ◌∷◌, ◌++◌, cond, ◌||◌, Option, Some, None, unwrap_or, refl, sym, ap, ◌∙◌}
use Rattle.std.specs.Prelude.{ℤ, pos, slice_get, FitsSigned}
use Rattle.std.specs.Int.{w64}
use Rattle.std.proofs.lemmas.Int.{ints}
use Rattle.std.proofs.lemmas.Bool.{cases_lt}
use mir.Val.{to_z, of_z}
use Rattle.aql_value.specs.Convert.{number_or_null}
use Rattle.aql_value.specs.Datum.{Datum, null, number}
use Rattle.aql_value.specs.Contents.{list, elements, is_in, same}
use Rattle.aql_value.specs.laws.Lists.{datum_list-array_of}
use Rattle.aql_func.specs.Lists.{distinct}
use Rattle.aql_func.specs.Aggregates.{Aggregate, min, max, sorted_unique, count_distinct, state, aggregate, is_null, count_of, best, lesser, greater, at_most_one}
use Rattle.aql_aggregate.specs.declared.accumulator.Accumulator.{Accumulator}
use Rattle.aql_aggregate.specs.States.{Keeps}
use Rattle.aql_aggregate.specs.PartialStates.{KeepsAlike}
use Rattle.aql_aggregate.specs.laws.Counts.{small, large}
use Rattle.aql_aggregate.specs.laws.Totals.{any_append}
use Rattle.aql_aggregate.specs.laws.Chosen.{meld, IsKept, best_append, best_kept, alone, lesser_associates, greater_associates, lesser_no_null, greater_no_null}
use Rattle.aql_aggregate.specs.laws.Members.{Alike, distinct_alike, in_distinct}

recover : (o : Option Datum) → slice_get (elements (at_most_one o)) 0 ≡ o
recover None = refl
recover (Some t) = refl

pub same_option : (o p : Option Datum) → at_most_one o ≡ at_most_one p → o ≡ p
same_option o p e = sym (recover o) ∙ ap (λ t. slice_get (elements t) 0) e ∙ recover p

pub same_distinct : (us ts : List Datum) → list (distinct us) ≡ list (distinct ts) → distinct us ≡ distinct ts
same_distinct us ts e = sym (datum_list-array_of (distinct us)) ∙ ap elements e
    ∙ datum_list-array_of (distinct ts)

-- one accumulator keeps more members than the other
abbrev Grows : Aggregate → Accumulator → Accumulator → List Datum → Type 0
Grows kind before after xs = (us : List Datum) → Keeps before kind us → Keeps after kind (us ++ xs)

pub least_more : (before after : Accumulator) (ts xs ys : List Datum) → Grows min before after xs
    → best lesser xs ≡ best lesser ys → KeepsAlike before min ts → KeepsAlike after min (ts ++ ys)
least_more before after ts xs ys f e h = (
  h.0 ++ xs,
  f h.0 h.1,
  ap at_most_one
      (best_append lesser lesser_associates lesser_no_null h.0 xs
      ∙ ap (λ o. meld lesser o (best lesser xs)) (same_option _ _ h.2)
      ∙ ap (meld lesser (best lesser ts)) e
      ∙ sym (best_append lesser lesser_associates lesser_no_null ts ys)),
)

pub greatest_more : (before after : Accumulator) (ts xs ys : List Datum) → Grows max before after xs
    → best greater xs ≡ best greater ys → KeepsAlike before max ts → KeepsAlike after max (ts ++ ys)
greatest_more before after ts xs ys f e h = (
  h.0 ++ xs,
  f h.0 h.1,
  ap at_most_one
      (best_append greater greater_associates greater_no_null h.0 xs
      ∙ ap (λ o. meld greater o (best greater xs)) (same_option _ _ h.2)
      ∙ ap (meld greater (best greater ts)) e
      ∙ sym (best_append greater greater_associates greater_no_null ts ys)),
)

pub unique_more : (before after : Accumulator) (ts xs ys : List Datum) → Grows sorted_unique before after xs
    → Alike xs ys → KeepsAlike before sorted_unique ts → KeepsAlike after sorted_unique (ts ++ ys)
unique_more before after ts xs ys f e h = (h.0 ++ xs, f h.0 h.1, ap list (distinct_alike _ _ both))
  where
    both : Alike (h.0 ++ xs) (ts ++ ys)
    both x = any_append (same x) h.0 xs
        ∙ ap (λ b. b || is_in xs x) (sym (in_distinct h.0 x)
        ∙ ap (λ l. is_in l x) (same_distinct h.0 ts h.2) ∙ in_distinct ts x)
        ∙ ap (λ b. is_in ts x || b) (e x) ∙ sym (any_append (same x) ts ys)

pub least_of_state : (p : Datum) (us : List Datum) → p ≡ state min us → best lesser (elements p)
    ≡ best lesser us
least_of_state p us e = ap (λ t. best lesser (elements t)) e
    ∙ alone lesser lesser_associates lesser_no_null (best lesser us)
    (best_kept lesser lesser_associates lesser_no_null us)

pub greatest_of_state : (p : Datum) (us : List Datum) → p ≡ state max us
    → best greater (elements p) ≡ best greater us
greatest_of_state p us e = ap (λ t. best greater (elements t)) e
    ∙ alone greater greater_associates greater_no_null (best greater us)
    (best_kept greater greater_associates greater_no_null us)

pub members_of_state : (p : Datum) (us : List Datum) → p ≡ list (distinct us) → Alike (elements p) us
members_of_state p us e x = ap (λ t. is_in (elements t) x) e
    ∙ ap (λ l. is_in l x) (datum_list-array_of (distinct us)) ∙ in_distinct us x

one_is : (o : Option Datum) → IsKept o
    → cond (is_null (unwrap_or o null)) (list []) (list (unwrap_or o null ∷ [])) ≡ at_most_one o
one_is None h = refl
one_is (Some t) h = ap (λ b. cond b (list []) (list (t ∷ []))) h

pub least_state : (v w : Datum) (us ts : List Datum) → w ≡ aggregate min us
    → v ≡ cond (is_null w) (list []) (list (w ∷ [])) → state min us ≡ state min ts → v ≡ state min ts
least_state v w us ts e f h = f ∙ ap (λ w. cond (is_null w) (list []) (list (w ∷ []))) e
    ∙ one_is (best lesser us) (best_kept lesser lesser_associates lesser_no_null us) ∙ h

pub greatest_state : (v w : Datum) (us ts : List Datum) → w ≡ aggregate max us
    → v ≡ cond (is_null w) (list []) (list (w ∷ [])) → state max us ≡ state max ts → v ≡ state max ts
greatest_state v w us ts e f h = f ∙ ap (λ w. cond (is_null w) (list []) (list (w ∷ []))) e
    ∙ one_is (best greater us) (best_kept greater greater_associates greater_no_null us) ∙ h

pub least_value : (us ts : List Datum) → state min us ≡ state min ts → aggregate min us ≡ aggregate min ts
least_value us ts h = ap (λ o. unwrap_or o null) (same_option _ _ h)

pub greatest_value : (us ts : List Datum) → state max us ≡ state max ts → aggregate max us ≡ aggregate max ts
greatest_value us ts h = ap (λ o. unwrap_or o null) (same_option _ _ h)

pub distinct_counted : (v w : Datum) (us ts : List Datum) → w ≡ aggregate sorted_unique us
    → v ≡ count_of (elements w) → state sorted_unique us ≡ state sorted_unique ts
    → v ≡ aggregate count_distinct ts
distinct_counted v w us ts e f h = f ∙ ap (λ t. count_of (elements t)) (e ∙ h)
    ∙ ap count_of (datum_list-array_of (distinct ts))

pub in_list : (s : Datum) (items ts : List Datum) → s ≡ list items → ts ≡ items → ts ≡ elements s
in_list s items ts e f = f ∙ sym (datum_list-array_of items) ∙ sym (ap elements e)

pub count_fits : (s : Datum) (items : List Datum) (n : ℕ) (z : ℤ) → s ≡ list items → n ≡ length items
    → FitsSigned w64 (pos n) → z ≡ pos n → number (to_z w64 (of_z w64 z)) ≡ count_of (elements s)
count_fits s items n z e l f h =
    let short : n < 2 ^ 63 = omega (arith, ints, f) in
    ap number (omega (arith, ints, f, h)) ∙ sym (small n short)
    ∙ ap (λ k. number_or_null (pos k)) (l ∙ ap length (in_list s items items e refl))

pub count_lost : (s : Datum) (items : List Datum) (n : ℕ) → s ≡ list items → n ≡ length items
    → (FitsSigned w64 (pos n) → ⊥) → null ≡ count_of (elements s)
count_lost s items n e l f = by (cases_lt n (2 ^ 63))
  where
    by : (n < 2 ^ 63) ⊎ (2 ^ 63 ≤ n) → null ≡ count_of (elements s)
    by (inl h) = absurd (f (omega (arith, ints, h)))
    by (inr h) = sym (large n h) ∙ ap (λ k. number_or_null (pos k)) (l
        ∙ ap length (in_list s items items e refl))
