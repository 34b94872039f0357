-- What keeps values well formed.
use Rattle.std.proofs.Common.{◌≡◌, ◌<◌, ◌≤◌, ℕ, zero, suc, List, [], ◌∷◌, ◌++◌, length, take, drop, get_or, set, Some, None, refl, sym, ap, ◌∙◌, arith, subst}
use Rattle.aql_value.specs.Order.{BytesBelow}
use Rattle.aql_value.specs.inner.NameSearch.{EachBelow, StartsAt, StartsAbove}
use Rattle.aql_value.specs.Fields.{fields_in}
use Rattle.aql_value.specs.declared.values.Member.{Member}
use Rattle.std.specs.Prelude.{IsUtf8, insert, Result, Ok, Err, OnOk, OnErr}
use Rattle.std.specs.declared.cmp.Ordering.{Ordering}
use Rattle.std.specs.declared.cmp.Ordering.TheVariants.{Less, Equal, Greater}
use Rattle.std.specs.Ordering.{nat_cmp, match_ordering, ordering_reverse}
use Rattle.std.specs.Cmp.Lexicographic.{slice_cmp}
use Rattle.std.proofs.lemmas.Cmp.{nat_list_cmp_total, tied_itself}
use Rattle.aql_value.specs.Attributes.{with_attribute, attribute}
use Rattle.aql_value.specs.laws.Ranks.{same_bytes, above_bytes}
use Rattle.aql_value.specs.Datum.{Datum, array_of, object_of, Fields, no_fields, field}
use Rattle.aql_value.specs.View.{datum_of, datums_in}
use Rattle.aql_value.specs.WellFormed.{WellFormed, ItemsWellFormed, FieldsWellFormed, IsBelowNames}
use Rattle.aql_value.specs.declared.values.Value.{Value}

pub items_pushed : (vs : List Value) (v : Value) → ItemsWellFormed (array_of (datums_in vs))
    → WellFormed (datum_of v) → ItemsWellFormed (array_of (datums_in (vs ++ v ∷ [])))
items_pushed [] v h k = (k, tt)
items_pushed (w ∷ vs) v h k = (h.0, items_pushed vs v h.1 k)

-- ---- places of names

pub starts_at : (k : List ℕ) (es : List Member) (i : ℕ) (d : Member) → i < length es
    → (get_or es i d).name ≡ k → StartsAt k (drop i (fields_in es))
starts_at k [] i d lt e = absurd (omega arith)
starts_at k (m ∷ es) zero d lt e = e
starts_at k (m ∷ es) (suc i) d lt e = starts_at k es i d (omega arith) e

itself : (k : List ℕ) → slice_cmp nat_cmp k k ≡ Equal
itself k = tied_itself nat_list_cmp_total k

pub above : (k l : List ℕ) → BytesBelow l k → slice_cmp nat_cmp k l ≡ Greater
above k l b = nat_list_cmp_total.antisymm k l ∙ ap ordering_reverse b

pub equal : (k l : List ℕ) → l ≡ k → slice_cmp nat_cmp k l ≡ Equal
equal k l e = rw e (itself k)

-- ---- look-ups

pub attribute_at : (k : List ℕ) (es : List Member) (i : ℕ) (d : Member) → i < length es
    → EachBelow k (take i (fields_in es)) → StartsAt k (drop i (fields_in es))
    → attribute k (fields_in es) ≡ Some (datum_of (get_or es i d).value)
attribute_at k [] i d lt h s = absurd (omega arith)
attribute_at k (m ∷ es) zero d lt h s = rw (equal k m.name s) refl
attribute_at k (m ∷ es) (suc i) d lt h s = rw (above k m.name h.0) (attribute_at k es i d (omega arith) h.1 s)

pub below_later : (k l : List ℕ) (fs : Fields) → BytesBelow k l → IsBelowNames l fs → IsBelowNames k fs
below_later k l no_fields b h = tt
below_later k l (field m t fs) b h = (nat_list_cmp_total.trans k l m b h.0, below_later k l fs b h.1)

below_all : (k : List ℕ) (fs : List (List ℕ × Datum)) → IsBelowNames k (object_of fs) → attribute k fs ≡ None
below_all k [] h = refl
below_all k (f ∷ fs) h = rw h.0 (below_all k fs h.1)

pub attribute_absent : (k : List ℕ) (fs : List (List ℕ × Datum)) (i : ℕ) → FieldsWellFormed (object_of fs)
    → EachBelow k (take i fs) → StartsAbove k (drop i fs) → attribute k fs ≡ None
attribute_absent k [] i w h s = refl
attribute_absent k (f ∷ fs) zero w h s = rw s (below_all k fs (below_later k f.0 (object_of fs) s w.0))
attribute_absent k (f ∷ fs) (suc i) w h s = rw (above k f.0 h.0) (attribute_absent k fs i w.2 h.1 s)

-- ---- changes

pub replaced : (k : List ℕ) (v : Value) (es : List Member) (i : ℕ) (m : Member) → m.name ≡ k → m.value ≡ v
    → i < length es → EachBelow k (take i (fields_in es)) → StartsAt k (drop i (fields_in es))
    → fields_in (set es i m) ≡ with_attribute k (datum_of v) (fields_in es)
replaced k v [] i m n e lt h s = absurd (omega arith)
replaced k v (o ∷ es) zero m n e lt h s = rw (equal k o.name s) (λ j. (n j, datum_of (e j)) ∷ fields_in es)
replaced k v (o ∷ es) (suc i) m n e lt h s =
    rw (above k o.name h.0)
    (ap (λ r. (o.name, datum_of o.value) ∷ r) (replaced k v es i m n e (omega arith) h.1 s))

pub inserted : (k : List ℕ) (v : Value) (es : List Member) (i : ℕ) → i ≤ length es
    → EachBelow k (take i (fields_in es)) → StartsAbove k (drop i (fields_in es))
    → fields_in (insert es i (record { name = k; value = v }))
    ≡ with_attribute k (datum_of v) (fields_in es)
inserted k v [] zero lt h s = refl
inserted k v [] (suc i) lt h s = absurd (omega arith)
inserted k v (o ∷ es) zero lt h s = rw s refl
inserted k v (o ∷ es) (suc i) lt h s =
    rw (above k o.name h.0) (ap (λ r. (o.name, datum_of o.value) ∷ r) (inserted k v es i (omega arith) h.1 s))

below_with_at : (l k : List ℕ) (t : Datum) (f : List ℕ × Datum) (fs : List (List ℕ × Datum)) (o : Ordering)
    → BytesBelow l k → IsBelowNames l (object_of (f ∷ fs))
    → IsBelowNames l (object_of (with_attribute k t fs))
    → IsBelowNames l
    (object_of (match_ordering o ((k, t) ∷ f ∷ fs) ((k, t) ∷ fs) (f ∷ with_attribute k t fs)))
below_with_at l k t f fs Less b h r = (b, h)
below_with_at l k t f fs Equal b h r = (b, h.1)
below_with_at l k t f fs Greater b h r = (h.0, r)

below_with : (l k : List ℕ) (t : Datum) (fs : List (List ℕ × Datum)) → BytesBelow l k
    → IsBelowNames l (object_of fs) → IsBelowNames l (object_of (with_attribute k t fs))
below_with l k t [] b h = (b, tt)
below_with l k t (f ∷ fs) b h = below_with_at l k t f fs _ b h (below_with l k t fs b h.1)

well_with_at : (o : Ordering) (k : List ℕ) (t : Datum) (f : List ℕ × Datum) (fs : List (List ℕ × Datum))
    → slice_cmp nat_cmp k f.0 ≡ o → FieldsWellFormed (object_of (f ∷ fs)) → WellFormed t → IsUtf8 k
    → FieldsWellFormed (object_of (with_attribute k t fs))
    → FieldsWellFormed
    (object_of (match_ordering o ((k, t) ∷ f ∷ fs) ((k, t) ∷ fs) (f ∷ with_attribute k t fs)))
well_with_at Less k t f fs e w h u r = ((e, below_later k f.0 (object_of fs) e w.0), h, w, u)
well_with_at Equal k t f fs e w h u r =
    (subst (λ n. IsBelowNames n (object_of fs)) (sym (same_bytes k f.0 e)) w.0, h, w.2, u)
well_with_at Greater k t f fs e w h u r = (below_with f.0 k t fs (above_bytes k f.0 e) w.0, w.1, r, w.3)

pub well_with : (k : List ℕ) (t : Datum) (fs : List (List ℕ × Datum)) → FieldsWellFormed (object_of fs)
    → WellFormed t → IsUtf8 k → FieldsWellFormed (object_of (with_attribute k t fs))
well_with k t [] w h u = (tt, h, tt, u)
well_with k t (f ∷ fs) w h u = well_with_at _ k t f fs refl w h u (well_with k t fs w.2 h u)

pub length-fields_in : (es : List Member) → length (fields_in es) ≡ length es
length-fields_in [] = refl
length-fields_in (e ∷ es) = ap suc (length-fields_in es)

pub place_within : (es : List Member) (i : ℕ) → i < length (fields_in es) → i < length es
place_within es i h = omega (arith, length-fields_in es)

pub place_up_to : (es : List Member) (i : ℕ) → i ≤ length (fields_in es) → i ≤ length es
place_up_to es i h = omega (arith, length-fields_in es)

pub on_either : {T E : Type 0} (P Q R : Type 0) (r : Result T E) → OnOk r P → OnErr r Q → (P → R) → (Q → R)
    → R
on_either P Q R (Ok x) p q f g = f p
on_either P Q R (Err e) p q f g = g q

pub named_at : (k : List ℕ) (es : List Member) (i : ℕ) (d : Member) → i < length es
    → StartsAt k (drop i (fields_in es)) → (get_or es i d).name ≡ k
named_at k [] i d lt s = absurd (omega arith)
named_at k (m ∷ es) zero d lt s = s
named_at k (m ∷ es) (suc i) d lt s = named_at k es i d (omega arith) s
