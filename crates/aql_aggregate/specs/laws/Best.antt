-- The least and the greatest of members, with one member more at the end.
use Rattle.std.proofs.Common.{◌≡◌, List, [], ◌∷◌, ◌++◌, Bool, true, false, cond, Option, Some, None, unwrap_or, option_map, refl, sym, ap, ◌∙◌}
use Rattle.aql_value.specs.Datum.{Datum}
use Rattle.aql_value.specs.Contents.{is_below}
use Rattle.aql_func.specs.Aggregates.{is_null, best, prefer, lesser, greater}
use Rattle.aql_func.specs.laws.Ascending.{below_order}
use Rattle.aql_aggregate.specs.States.{better_if, better}
use Rattle.aql_value.specs.View.{datum_of}
use Rattle.aql_value.specs.declared.values.Value.{Value}
use Rattle.aql_value.specs.declared.values.Value.TheVariants.{Null, Bool as Truth, Num, Text, List as ListOf, Object}

-- of three, the first two first, or the last two
abbrev Associates : (Datum → Datum → Datum) → Type 0
Associates pick = (t b u : Datum) → pick t (pick b u) ≡ pick (pick t b) u

turned : (pick : Datum → Datum → Datum) → Associates pick → (u t : Datum) (n m : Bool) (o : Option Datum)
    → cond n (better_if pick m o t) (Some (unwrap_or (option_map (pick u) (better_if pick m o t)) u))
    ≡ better_if pick m (cond n o (Some (unwrap_or (option_map (pick u) o) u))) t
turned pick a u t true m o = refl
turned pick a u t false true o = refl
turned pick a u t false false None = refl
turned pick a u t false false (Some b) = ap Some (a u b t)

best_more : (pick : Datum → Datum → Datum) → Associates pick → (ts : List Datum) (t : Datum)
    → best pick (ts ++ t ∷ []) ≡ better_if pick (is_null t) (best pick ts) t
best_more pick a [] t = alone (is_null t)
  where
    alone : (m : Bool) → cond m None (Some t) ≡ better_if pick m None t
    alone true = refl
    alone false = refl
best_more pick a (u ∷ us) t = ap (prefer pick u) (best_more pick a us t)
    ∙ turned pick a u t (is_null u) (is_null t) (best pick us)

module _ (r : Datum → Datum → Bool) (one_way : (s t : Datum) → r s t ≡ true → r t s ≡ false)
    (chain : (s t u : Datum) → r s t ≡ false → r t u ≡ false → r s u ≡ false) where
  chosen : (t b u : Datum) → cond (r (cond (r u b) u b) t) (cond (r u b) u b) t
      ≡ cond (r u (cond (r b t) b t)) u (cond (r b t) b t)
  chosen t b u = by (r u b) refl (r b t) refl (r u t) refl
    where
      by : (x : Bool) → r u b ≡ x → (y : Bool) → r b t ≡ y → (z : Bool) → r u t ≡ z
          → cond (r (cond x u b) t) (cond x u b) t ≡ cond (r u (cond y b t)) u (cond y b t)
      by true p true q true s = rw (s, p) refl
      by true p true q false s = absurd (let e = chain u t b s (one_way b t q) in cc)
      by true p false q z s = refl
      by false p true q z s = rw (q, p) refl
      by false p false q true s = absurd (let e = chain u b t p q in cc)
      by false p false q false s = rw (q, s) refl

pub least_more : (o : Option Datum) (ts : List Datum) (t : Datum) → o ≡ best lesser ts
    → better_if lesser (is_null t) o t ≡ best lesser (ts ++ t ∷ [])
least_more o ts t h = ap (λ o. better_if lesser (is_null t) o t) h
    ∙ sym (best_more lesser (chosen is_below below_order.one_way below_order.chain) ts t)

pub greatest_more : (o : Option Datum) (ts : List Datum) (t : Datum) → o ≡ best greater ts
    → better_if greater (is_null t) o t ≡ best greater (ts ++ t ∷ [])
greatest_more o ts t h = ap (λ o. better_if greater (is_null t) o t) h
    ∙ sym (best_more greater (chosen (λ s t. is_below t s) (λ s t. below_order.one_way t s)
    (λ s t u p q. below_order.chain u t s q p)) ts t)

-- a value that is not null
pub not_null : (v : Value) → (v ≡ Null → ⊥) → is_null (datum_of v) ≡ false
not_null Null h = absurd (h refl)
not_null (Truth b) h = refl
not_null (Num n) h = refl
not_null (Text t) h = refl
not_null (ListOf ts) h = refl
not_null (Object fs) h = refl

-- what is kept, where a member is taken and where it is not
pub is_taken : (b : Bool) (t : Datum) (kept out : Option Datum) → b ≡ true → cond b (Some t) kept ≡ out
    → Some t ≡ out
is_taken b t kept out e h = rw e at h

pub is_left : (b : Bool) (t : Datum) (kept out : Option Datum) → b ≡ false → cond b (Some t) kept ≡ out
    → kept ≡ out
is_left b t kept out e h = rw e at h
