-- The least and the greatest member of several parts.
use Rattle.std.proofs.Common.{◌≡◌, List, [], ◌∷◌, ◌++◌, map, Bool, true, false, cond, Option, Some, None, unwrap_or, option_map, refl, sym, ap, ◌∙◌}
use Rattle.std.specs.Prelude.{flat_map}
use Rattle.aql_value.specs.Datum.{Datum}
use Rattle.aql_value.specs.Contents.{elements, is_below}
use Rattle.aql_func.specs.Aggregates.{is_null, best, prefer, lesser, greater, at_most_one}
use Rattle.aql_func.specs.laws.Ascending.{below_order}
use Rattle.aql_aggregate.specs.Theorems.{all_of}

-- of two that may be there, the one that `pick` prefers
abbrev pub meld : (Datum → Datum → Datum) → Option Datum → Option Datum → Option Datum
meld pick None o = o
meld pick (Some t) None = Some t
meld pick (Some t) (Some u) = Some (pick t u)

abbrev pub Associates : (Datum → Datum → Datum) → Type 0
Associates pick = (t b u : Datum) → pick t (pick b u) ≡ pick (pick t b) u

-- of two that are not null neither is picked as null
abbrev pub PicksNoNull : (Datum → Datum → Datum) → Type 0
PicksNoNull pick = (t u : Datum) → is_null t ≡ false → is_null u ≡ false → is_null (pick t u) ≡ false

-- what is kept is not null
abbrev pub IsKept : Option Datum → Type 0
IsKept None = Unit {0}
IsKept (Some t) = is_null t ≡ false

module _ (pick : Datum → Datum → Datum) (a : Associates pick) (n : PicksNoNull pick) where
  front : (t : Datum) (b : Bool) (o p : Option Datum)
      → cond b (meld pick o p) (Some (unwrap_or (option_map (pick t) (meld pick o p)) t))
      ≡ meld pick (cond b o (Some (unwrap_or (option_map (pick t) o) t))) p
  front t true o p = refl
  front t false None None = refl
  front t false None (Some u) = refl
  front t false (Some s) None = refl
  front t false (Some s) (Some u) = ap Some (a t s u)

  pub best_append : (ts us : List Datum) → best pick (ts ++ us) ≡ meld pick (best pick ts) (best pick us)
  best_append [] us = refl
  best_append (t ∷ ts) us = ap (prefer pick t) (best_append ts us)
      ∙ front t (is_null t) (best pick ts) (best pick us)

  preferred : (t : Datum) (b : Bool) → is_null t ≡ b → (o : Option Datum) → IsKept o
      → IsKept (cond b o (Some (unwrap_or (option_map (pick t) o) t)))
  preferred t true e o h = h
  preferred t false e None h = e
  preferred t false e (Some u) h = n t u e h

  pub best_kept : (ts : List Datum) → IsKept (best pick ts)
  best_kept [] = tt
  best_kept (t ∷ ts) = preferred t (is_null t) refl (best pick ts) (best_kept ts)

  pub alone : (o : Option Datum) → IsKept o → best pick (elements (at_most_one o)) ≡ o
  alone None h = refl
  alone (Some t) h = ap (λ b. cond b None (Some t)) h

  bests_joined : (parts : List (List Datum))
      → best pick (flat_map elements (map (λ ts. at_most_one (best pick ts)) parts))
      ≡ best pick (all_of parts)
  bests_joined [] = refl
  bests_joined (ts ∷ parts) =
      best_append (elements (at_most_one (best pick ts))) (flat_map elements (map (λ ts. at_most_one
      (best pick ts)) parts))
      ∙ ap (λ o. meld pick o (best pick (flat_map elements (map (λ ts. at_most_one (best pick ts)) parts))))
      (alone (best pick ts) (best_kept ts))
      ∙ ap (meld pick (best pick ts)) (bests_joined parts)
      ∙ sym (best_append ts (all_of parts))

module _ (r : Datum → Datum → Bool) (one_way : (s t : Datum) → r s t ≡ true → r t s ≡ false)
    (chain : (s t u : Datum) → r s t ≡ false → r t u ≡ false → r s u ≡ false) where
  chosen : (t b u : Datum) → cond (r (cond (r u b) u b) t) (cond (r u b) u b) t
      ≡ cond (r u (cond (r b t) b t)) u (cond (r b t) b t)
  chosen t b u = by (r u b) refl (r b t) refl (r u t) refl
    where
      by : (x : Bool) → r u b ≡ x → (y : Bool) → r b t ≡ y → (z : Bool) → r u t ≡ z
          → cond (r (cond x u b) t) (cond x u b) t ≡ cond (r u (cond y b t)) u (cond y b t)
      by true p true q true s = rw (s, p) refl
      by true p true q false s = absurd (let e = chain u t b s (one_way b t q) in cc)
      by true p false q z s = refl
      by false p true q z s = rw (q, p) refl
      by false p false q true s = absurd (let e = chain u b t p q in cc)
      by false p false q false s = rw (q, s) refl

either : (b : Bool) (t u : Datum) → is_null t ≡ false → is_null u ≡ false → is_null (cond b t u) ≡ false
either true t u p q = p
either false t u p q = q

pub lesser_associates : Associates lesser
lesser_associates = chosen is_below below_order.one_way below_order.chain

pub greater_associates : Associates greater
greater_associates = chosen (λ s t. is_below t s) (λ s t. below_order.one_way t s)
    (λ s t u p q. below_order.chain u t s q p)

pub lesser_no_null : PicksNoNull lesser
lesser_no_null t u p q = either (is_below u t) u t q p

pub greater_no_null : PicksNoNull greater
greater_no_null t u p q = either (is_below t u) u t q p

pub least_joined : (parts : List (List Datum))
    → best lesser (flat_map elements (map (λ ts. at_most_one (best lesser ts)) parts))
    ≡ best lesser (all_of parts)
least_joined parts = bests_joined lesser lesser_associates lesser_no_null parts

pub greatest_joined : (parts : List (List Datum))
    → best greater (flat_map elements (map (λ ts. at_most_one (best greater ts)) parts))
    ≡ best greater (all_of parts)
greatest_joined parts = bests_joined greater greater_associates (λ t u p q. either
    (is_below t u) u t q p) parts
