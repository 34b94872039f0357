-- One more attribute of an object; and an attribute above all others goes last.
use Rattle.std.proofs.Common.{◌≡◌, ℕ, zero, suc, ◌+◌, ◌<◌, List, [], ◌∷◌, ◌++◌, Bool, true, false, cond, not, length, get_or, take, filter, refl, ap, sym, subst, ◌∙◌, arith}
use Rattle.std.specs.declared.cmp.Ordering.TheVariants.{Greater}
use Rattle.std.specs.Ordering.{nat_cmp, match_ordering, ordering_reverse}
use Rattle.std.specs.Cmp.Lexicographic.{slice_cmp}
use Rattle.std.proofs.lemmas.Cmp.{nat_list_cmp_total}
use Rattle.std.proofs.lemmas.List.{take_more, map-append}
use Rattle.std.proofs.lemmas.List.Sums.{fold-append}
use Rattle.std.proofs.lemmas.List.Elements.{filter-append}
use Rattle.aql_value.specs.declared.values.Member.{Member}
use Rattle.aql_value.specs.Datum.{Datum, text, object_of}
use Rattle.aql_value.specs.View.{datum_of}
use Rattle.aql_value.specs.Fields.{fields_in}
use Rattle.aql_value.specs.Order.{BytesBelow}
use Rattle.aql_value.specs.WellFormed.{FieldsWellFormed, IsBelowNames}
use Rattle.aql_value.specs.Attributes.{with_attribute}
use Rattle.aql_func.specs.inner.Choices.{choose}
use Rattle.aql_func.specs.Lists.{firsts}
use Rattle.aql_func.specs.Objects.{with_all}
use Rattle.aql_func.specs.laws.Firsts.{in_firsts}
use Rattle.aql_func.proofs.Sieves.{alike_tests}

abbrev pub entry : Member → List ℕ × Datum
entry m = (m.name, datum_of m.value)

pub done_fields : (ms : List Member) (i : ℕ) (m : Member) → i < length ms → m ≡ get_or ms i m
    → fields_in (take (i + 1) ms) ≡ fields_in (take i ms) ++ entry m ∷ []
done_fields ms i m h e = ap fields_in (subst (λ (x : Member). take (i + 1) ms ≡ take i ms ++ x ∷ []) (sym e)
    (take_more ms i m h)) ∙ map-append entry (take i ms) (m ∷ [])

pub set_more : (fs gs : List (List ℕ × Datum)) (k : List ℕ) (t : Datum)
    → with_all fs (gs ++ (k, t) ∷ []) ≡ with_attribute k t (with_all fs gs)
set_more fs gs k t = fold-append (λ ms (g : List ℕ × Datum). with_attribute g.0 g.1 ms) fs gs ((k, t) ∷ [])

-- each name is below k
abbrev pub AreBelow : List ℕ → List (List ℕ × Datum) → Type 0
AreBelow k [] = Unit {0}
AreBelow k (f ∷ fs) = BytesBelow f.0 k × AreBelow k fs

pub goes_last : (k : List ℕ) (t : Datum) (fs : List (List ℕ × Datum)) → AreBelow k fs
    → with_attribute k t fs ≡ fs ++ (k, t) ∷ []
goes_last k t [] h = refl
goes_last k t (f ∷ fs) h =
    let e : slice_cmp nat_cmp k f.0 ≡ Greater = nat_list_cmp_total.antisymm k f.0 ∙ ap ordering_reverse h.0 in
    ap (λ o. match_ordering o ((k, t) ∷ f ∷ fs) ((k, t) ∷ fs) (f ∷ with_attribute k t fs)) e
    ∙ ap (λ l. f ∷ l) (goes_last k t fs h.1)

filtered_below : (p : List ℕ × Datum → Bool) (k : List ℕ) (fs : List (List ℕ × Datum)) → AreBelow k fs
    → AreBelow k (filter p fs)
filtered_below p k [] h = tt
filtered_below p k (f ∷ fs) h = by (p f) (filtered_below p k fs h.1)
  where
    by : (b : Bool) → AreBelow k (filter p fs) → AreBelow k (cond b (f ∷ filter p fs) (filter p fs))
    by true g = (h.0, g)
    by false g = g

below_at : (k : List ℕ) (fs : List (List ℕ × Datum)) (j : ℕ) (d : List ℕ × Datum)
    → IsBelowNames k (object_of fs) → j < length fs → BytesBelow k (get_or fs j d).0
below_at k [] j d h l = absurd (omega arith)
below_at k (f ∷ fs) zero d h l = h.0
below_at k (f ∷ fs) (suc j) d h l = below_at k fs j d h.1 (omega arith)

before_at : (fs : List (List ℕ × Datum)) (i : ℕ) (d : List ℕ × Datum) → FieldsWellFormed (object_of fs)
    → i < length fs → AreBelow (get_or fs i d).0 (take i fs)
before_at [] i d w l = absurd (omega arith)
before_at (f ∷ fs) zero d w l = tt
before_at (f ∷ fs) (suc j) d w l = (below_at f.0 fs j d w.0 (omega arith), before_at fs j d w.2 (omega arith))

members_at : (ms : List Member) (i : ℕ) (m : Member) → i < length ms
    → get_or (fields_in ms) i (entry m) ≡ entry (get_or ms i m)
members_at [] i m h = absurd (omega arith)
members_at (x ∷ xs) zero m h = refl
members_at (x ∷ xs) (suc i) m h = members_at xs i m (omega arith)

members_taken : (i : ℕ) (ms : List Member) → fields_in (take i ms) ≡ take i (fields_in ms)
members_taken zero ms = refl
members_taken (suc i) [] = refl
members_taken (suc i) (m ∷ ms) = ap (λ l. entry m ∷ l) (members_taken i ms)

members_counted : (ms : List Member) → length (fields_in ms) ≡ length ms
members_counted [] = refl
members_counted (m ∷ ms) = ap suc (members_counted ms)

-- one more attribute is looked at, and set where p says so
pub chosen_more : (p : List ℕ × Datum → Bool) (ms : List Member) (i : ℕ) (m : Member)
    (out : List (List ℕ × Datum)) → FieldsWellFormed (object_of (fields_in ms)) → i < length ms
    → m ≡ get_or ms i m
    → out ≡ filter p (fields_in (take i ms))
    → cond (p (entry m)) (with_attribute m.name (datum_of m.value) out) out
    ≡ filter p (fields_in (take (i + 1) ms))
chosen_more p ms i m out w h e f =
    let c = members_counted ms in
    let l : i < length (fields_in ms) = subst (λ n. i < n) (sym c) h in
    let b = subst (λ (x : List ℕ × Datum). AreBelow x.0 (take i (fields_in ms))) (members_at ms i m h
    ∙ ap entry (sym e)) (before_at (fields_in ms) i (entry m) w l) in
    let g = goes_last m.name (datum_of m.value) (filter p (take i (fields_in ms)))
    (filtered_below p m.name (take i (fields_in ms)) b) in
    let o = f ∙ ap (filter p) (members_taken i ms) in
    by (p (entry m)) (filter p (take i (fields_in ms))) o g
    ∙ sym (ap (filter p) (done_fields ms i m h e ∙ ap (λ l. l ++ entry m ∷ []) (members_taken i ms))
    ∙ filter-append p (take i (fields_in ms)) (entry m ∷ []))
  where
    by : (b : Bool) (fs : List (List ℕ × Datum)) → out ≡ fs
        → with_attribute m.name (datum_of m.value) fs ≡ fs ++ entry m ∷ []
        → cond b (with_attribute m.name (datum_of m.value) out) out ≡ fs ++ cond b (entry m ∷ []) []
    by true fs o g = ap (with_attribute m.name (datum_of m.value)) o ∙ g
    by false fs o g = o ∙ sym (nil fs)
      where
        nil : (l : List (List ℕ × Datum)) → l ++ [] ≡ l
        nil [] = refl
        nil (x ∷ xs) = ap (λ r. x ∷ r) (nil xs)

-- the distinct names choose as all of them do
pub chosen_firsts : (present : Bool) (names : List Datum) (fs : List (List ℕ × Datum))
    → choose present (firsts names) fs ≡ choose present names fs
chosen_firsts present names fs = alike_tests _ _ (λ f. ap (λ b. cond present b (not b))
    (in_firsts names (text f.0))) fs
