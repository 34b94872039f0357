-- The relation is a strict total order.
use Rattle.std.proofs.Common.{◌≡◌, ◌<◌, ◌≤◌, ℕ, List, Bool, true, false, sym, ◌∙◌, subst, inl, inr, arith, true≢false}
use Rattle.std.specs.declared.cmp.Ordering.{Ordering}
use Rattle.std.specs.declared.cmp.Ordering.TheVariants.{Less, Equal, Greater}
use Rattle.std.specs.Int.Signed.{<ℤ_irrefl}
use Rattle.std.specs.Cmp.{int_chain, IsTotalOrder, strict}
use Rattle.std.proofs.lemmas.Cmp.{nat_list_cmp_total, tied_itself}
use Rattle.aql_value.specs.Datum.{Datum, null, boolean, number, text, array, object, Datums, no_datums, datum_then, Fields, no_fields, field}
use Rattle.aql_value.specs.Order.{Below, ItemsBelow, FieldsBelow, BytesBelow, kind, Compares}
use Rattle.aql_value.specs.Compare.{compare}
use Rattle.aql_value.specs.TotalOrder.{ExactlyOne, BelowIsTotal, BelowIsTransitive}
use Rattle.aql_value.specs.laws.Ranks.{datum_ranks}

bytes_not_itself : (s : List ℕ) → BytesBelow s s → ⊥
bytes_not_itself s h = let e = tied_itself nat_list_cmp_total s in cc

mutual
  pub not_itself : (t : Datum) → Below t t → ⊥
  not_itself null h = omega arith
  not_itself (boolean b) h = true≢false (sym h.1 ∙ h.0)
  not_itself (number z) h = <ℤ_irrefl h
  not_itself (text s) h = bytes_not_itself s h
  not_itself (array ts) h = items_not_itself ts h
  not_itself (object fs) h = fields_not_itself fs h

  items_not_itself : (ts : Datums) → ItemsBelow ts ts → ⊥
  items_not_itself no_datums h = h
  items_not_itself (datum_then t ts) (inl h) = not_itself t h
  items_not_itself (datum_then t ts) (inr h) = items_not_itself ts h.1

  fields_not_itself : (fs : Fields) → FieldsBelow fs fs → ⊥
  fields_not_itself no_fields h = h
  fields_not_itself (field k t fs) (inl h) = bytes_not_itself k h
  fields_not_itself (field k t fs) (inr (e, inl h)) = not_itself t h
  fields_not_itself (field k t fs) (inr (e, inr h)) = fields_not_itself fs h.1

same_kind : (a b : ℕ) → a ≡ b → a ≤ b
same_kind a b e = omega arith

kinds_rise : (s t : Datum) → Below s t → kind s ≤ kind t
kinds_rise null null h = omega arith
kinds_rise (boolean a) (boolean b) h = omega arith
kinds_rise (number x) (number y) h = omega arith
kinds_rise (text x) (text y) h = omega arith
kinds_rise (array x) (array y) h = omega arith
kinds_rise (object x) (object y) h = omega arith
kinds_rise s t h = omega (arith, h)

apart : (s t : Datum) → kind s < kind t → Below s t
apart null null h = absurd (omega arith)
apart (boolean a) (boolean b) h = absurd (omega arith)
apart (number x) (number y) h = absurd (omega arith)
apart (text x) (text y) h = absurd (omega arith)
apart (array x) (array y) h = absurd (omega arith)
apart (object x) (object y) h = absurd (omega arith)
apart s t h = h

chain_booleans : (a b c : Bool) → (a ≡ false) × (b ≡ true) → (b ≡ false) × (c ≡ true)
    → (a ≡ false) × (c ≡ true)
chain_booleans a b c p q = (p.0, q.1)

mutual
  pub chain : (s t u : Datum) → Below s t → Below t u → Below s u
  chain (boolean a) (boolean b) (boolean c) p q = chain_booleans a b c p q
  chain (number x) (number y) (number z) p q = int_chain x y z p q
  chain (text x) (text y) (text z) p q = nat_list_cmp_total.trans x y z p q
  chain (array ts) (array us) (array vs) p q = items_chain ts us vs p q
  chain (object fs) (object gs) (object hs) p q = fields_chain fs gs hs p q
  chain null null null p q = absurd (omega arith)
  chain s t u p q = apart s u (omega (arith, p, q, kinds_rise s t p, kinds_rise t u q))

  items_chain : (ts us vs : Datums) → ItemsBelow ts us → ItemsBelow us vs → ItemsBelow ts vs
  items_chain no_datums no_datums vs p q = absurd p
  items_chain no_datums (datum_then u us) no_datums p q = absurd q
  items_chain no_datums (datum_then u us) (datum_then v vs) p q = tt
  items_chain (datum_then t ts) no_datums vs p q = absurd p
  items_chain (datum_then t ts) (datum_then u us) no_datums p q = absurd q
  items_chain (datum_then t ts) (datum_then u us) (datum_then v vs) (inl p) (inl q) = inl (chain t u v p q)
  items_chain (datum_then t ts) (datum_then u us) (datum_then v vs) (inl p) (inr q) =
      inl (subst (Below t) q.0 p)
  items_chain (datum_then t ts) (datum_then u us) (datum_then v vs) (inr p) (inl q) =
      inl (subst (λ x. Below x v) (sym p.0) q)
  items_chain (datum_then t ts) (datum_then u us) (datum_then v vs) (inr p) (inr q) =
      inr (p.0 ∙ q.0, items_chain ts us vs p.1 q.1)

  fields_chain : (fs gs hs : Fields) → FieldsBelow fs gs → FieldsBelow gs hs → FieldsBelow fs hs
  fields_chain no_fields no_fields hs p q = absurd p
  fields_chain no_fields (field l u gs) no_fields p q = absurd q
  fields_chain no_fields (field l u gs) (field m v hs) p q = tt
  fields_chain (field k t fs) no_fields hs p q = absurd p
  fields_chain (field k t fs) (field l u gs) no_fields p q = absurd q
  fields_chain (field k t fs) (field l u gs) (field m v hs) (inl p) (inl q) =
      inl (nat_list_cmp_total.trans m l k q p)
  fields_chain (field k t fs) (field l u gs) (field m v hs) (inl p) (inr q) =
      inl (subst (λ x. BytesBelow x k) q.0 p)
  fields_chain (field k t fs) (field l u gs) (field m v hs) (inr p) (inl q) =
      inl (subst (BytesBelow m) (sym p.0) q)
  fields_chain (field k t fs) (field l u gs) (field m v hs) (inr (d, inl p)) (inr (e, inl q)) =
      inr (d ∙ e, inl (chain t u v p q))
  fields_chain (field k t fs) (field l u gs) (field m v hs) (inr (d, inl p)) (inr (e, inr q)) =
      inr (d ∙ e, inl (subst (Below t) q.0 p))
  fields_chain (field k t fs) (field l u gs) (field m v hs) (inr (d, inr p)) (inr (e, inl q)) =
      inr (d ∙ e, inl (subst (λ x. Below x v) (sym p.0) q))
  fields_chain (field k t fs) (field l u gs) (field m v hs) (inr (d, inr p)) (inr (e, inr q)) =
      inr (d ∙ e, inr (p.0 ∙ q.0, fields_chain fs gs hs p.1 q.1))

one : (o : Ordering) (s t : Datum) → Compares o s t → ExactlyOne s t
one Less s t h = inl
    (h, (λ e. not_itself t (subst (λ x. Below x t) e h)), λ k. not_itself s (chain s t s h k))
one Equal s t h = inr
    (inl ((λ k. not_itself t (subst (λ x. Below x t) h k)), h, λ k. not_itself t (subst (Below t) h k)))
one Greater s t h = inr
    (inr ((λ k. not_itself s (chain s t s k h)), (λ e. not_itself t (subst (Below t) e h)), h))

pub total : BelowIsTotal
total s t = one (compare s t) s t (datum_ranks s t)

pub transitive : BelowIsTransitive
transitive s t u = chain s t u

pub compare_total : IsTotalOrder compare
compare_total = strict Below not_itself chain compare datum_ranks
