-- The spans of several values: what is in one of them has one of the values.
use Rattle.std.proofs.Common.{◌≡◌, ◌∙◌, ◌+◌, ◌-◌, ◌<◌, ◌≤◌, ◌⊎◌, ℕ, suc, List, [], ◌∷◌, ◌++◌, length, take, drop, get_or, Bool, true, false, cond, not, ◌&&◌, ◌||◌, nat_lt, refl, sym, ap, ap₂, subst, inl, inr, arith, true≢false, ltb-true, ltb-false}
use Rattle.std.specs.Prelude.{filter, flat_map}
use Rattle.std.specs.List.{All, AllByRecursion, Contains, list_any}
use Rattle.std.specs.Ordering.{is_eq, ordering_then}
use Rattle.std.specs.declared.cmp.Ordering.{Ordering}
use Rattle.std.specs.declared.cmp.Ordering.TheVariants.{Less, Equal, Greater}
use Rattle.std.proofs.lemmas.Bool.{cases_lt, le-ltb, lt-ltb}
use Rattle.std.proofs.lemmas.List.{get_or-drop, length-drop, drop-drop, get_or-take, length-take}
use Rattle.std.proofs.lemmas.List.Folds.{list_any-append, list_any_more, list_any_at}
use Rattle.std.proofs.lemmas.List.Elements.{All-push, All-weaker, All-contains, Contains-get_or, recursion_from_All, filter_agree}
use Rattle.std.specs.List.Sorted.{IsNonDecreasingBy}
use Rattle.aql_value.specs.Datum.{Datum}
use Rattle.aql_value.specs.Compare.{compare}
use Rattle.aql_value.specs.Order.{Compares}
use Rattle.aql_value.specs.Contents.{elements, same}
use Rattle.aql_value.specs.laws.Ranks.{datum_ranks}
use Rattle.aql_meaning.specs.Documents.{no_last, one_of}
use Rattle.aql_index.specs.inner.Zones.{lone_zone, zone, in_zone}
use Rattle.aql_index.specs.Bounds.{keys_within}
use Rattle.aql_index.specs.Entries.{entries_within}
use Rattle.aql_index.specs.inner.Places.{holds, AreSpansOnce, IsSpanOf, Selects, no_span}
use Rattle.aql_index.specs.Spans.{spanned, AreApart}
use Rattle.aql_index.specs.declared.bounds.Span.{Span}
use Rattle.aql_index.specs.declared.entries.Entry.{Entry}
use Rattle.aql_index.proofs.MiddlePart.{passed, front_kept}
use Rattle.aql_index.proofs.Within.{both}

-- ---- values

is_same : (o : Ordering) (s t : Datum) → Compares o s t → is_eq o ≡ true → s ≡ t
is_same Less s t h e = absurd (true≢false (sym e))
is_same Equal s t h e = h
is_same Greater s t h e = absurd (true≢false (sym e))

rest_eq : (o q : Ordering) → is_eq (ordering_then o q) ≡ true → is_eq q ≡ true
rest_eq Less q e = absurd (true≢false (sym e))
rest_eq Equal q e = e
rest_eq Greater q e = absurd (true≢false (sym e))

-- an entry has one value of an attribute
pub one_value : (v w : Datum) (equal keys : List Datum) → in_zone (lone_zone v) equal keys ≡ true
    → in_zone (lone_zone w) equal keys ≡ true → v ≡ w
one_value v w [] [] e f = absurd (true≢false (sym e))
one_value v w [] (key ∷ keys) e f =
    sym (is_same (compare key v) key v (datum_ranks key v) e)
    ∙ is_same (compare key w) key w (datum_ranks key w) f
one_value v w (u ∷ equal) [] e f = absurd (true≢false (sym e))
one_value v w (u ∷ equal) (key ∷ keys) e f =
    one_value v w equal keys (rest_eq (compare key u) _ e) (rest_eq (compare key u) _ f)

or_false : (b : Bool) → b || false ≡ b
or_false true = refl
or_false false = refl

never : {X : Type 0} (xs : List X) → list_any (λ x. false) xs ≡ false
never [] = refl
never (x ∷ xs) = never xs

any_agree : {X : Type 0} (p q : X → Bool) → ((x : X) → p x ≡ q x) → (xs : List X)
    → list_any p xs ≡ list_any q xs
any_agree p q h [] = refl
any_agree p q h (x ∷ xs) = ap₂ (λ a b. a || b) (h x) (any_agree p q h xs)

any_and : {X : Type 0} (b : Bool) (p : X → Bool) (xs : List X)
    → list_any (λ x. b && p x) xs ≡ b && list_any p xs
any_and true p xs = refl
any_and false p xs = never xs

-- an entry has one of these values
pub one_of_them : (vs : List Datum) (l : Datum) → vs ≡ elements l → (equal keys : List Datum)
    → list_any (λ v. in_zone (lone_zone v) equal keys) vs ≡ keys_within equal (one_of l) keys
one_of_them vs l e [] [] = never vs
one_of_them vs l e [] (key ∷ keys) = ap (list_any (same key)) e
one_of_them vs l e (u ∷ equal) [] = never vs
one_of_them vs l e (u ∷ equal) (key ∷ keys) =
    any_agree _ (λ v. same key u && in_zone (lone_zone v) equal keys)
    (λ v. both (compare key u) (zone (lone_zone v) equal keys)) vs
    ∙ any_and (same key u) (λ v. in_zone (lone_zone v) equal keys) vs
    ∙ ap (λ b. same key u && b) (one_of_them vs l e equal keys)

and_true : (b : Bool) → b && true ≡ b
and_true true = refl
and_true false = refl

-- an entry has the equal values and then this one
pub one_value_more : (v : Datum) (equal keys : List Datum)
    → in_zone (lone_zone v) equal keys ≡ keys_within (equal ++ v ∷ []) no_last keys
one_value_more v [] [] = refl
one_value_more v [] (key ∷ keys) = sym (and_true (same key v))
one_value_more v (u ∷ equal) [] = refl
one_value_more v (u ∷ equal) (key ∷ keys) = both (compare key u) (zone (lone_zone v) equal keys)
    ∙ ap (λ b. same key u && b) (one_value_more v equal keys)

-- the span of one value, seen by the lookup
pub value_in : (v : Datum) (entries entries' : List Entry) (span : Span) → entries ≡ entries'
    → spanned entries span ≡ filter (λ (e : Entry). in_zone (lone_zone v) [] e.keys) entries
    → spanned entries' span ≡ entries_within (v ∷ []) no_last entries'
value_in v entries entries' span e h =
    subst (λ (es : List Entry). spanned es span ≡ entries_within (v ∷ []) no_last es) e
    (h ∙ filter_agree _ _ (λ (x : Entry). one_value_more v [] x.keys) entries)

-- the spans of the entries, seen by the index
pub spans_in : (entries entries' : List Entry) (equal equal' vs : List Datum) (l : Datum) (spans : List Span)
    → entries ≡ entries' → equal ≡ equal' → vs ≡ elements l
    → flat_map (spanned entries) spans
    ≡ filter (λ (e : Entry). list_any (λ v. in_zone (lone_zone v) equal e.keys) vs) entries
    → flat_map (spanned entries') spans ≡ entries_within equal' (one_of l) entries'
spans_in entries entries' equal equal' vs l spans e f g h =
    sym (ap (λ (es : List Entry). flat_map (spanned es) spans) e) ∙ h
    ∙ filter_agree _ _ (λ (x : Entry). one_of_them vs l g equal x.keys) entries
    ∙ ap₂ (λ (q : List Datum) (es : List Entry). entries_within q (one_of l) es) f e

-- ---- places in spans

pub not_past : (k : ℕ) (s : Span) → s.to ≤ k → holds k s ≡ false
not_past k s h = ap (λ b. b && not (nat_lt k s.from)) (le-ltb k s.to h)

and_false : (b : Bool) → b && false ≡ false
and_false true = refl
and_false false = refl

pub not_yet : (k : ℕ) (s : Span) → k < s.from → holds k s ≡ false
not_yet k s h = ap (λ b. nat_lt k s.to && not b) (lt-ltb k s.from h) ∙ and_false (nat_lt k s.to)

pub is_held : (k : ℕ) (s : Span) → s.from ≤ k → k < s.to → holds k s ≡ true
is_held k s h l = ap₂ (λ a b. a && not b) (lt-ltb k s.to l) (le-ltb k s.from h)

pub held_in : (k : ℕ) (s : Span) → holds k s ≡ true → (s.from ≤ k) × (k < s.to)
held_in k s e = by (nat_lt k s.to) (nat_lt k s.from) refl refl e
  where
    by : (a b : Bool) → nat_lt k s.to ≡ a → nat_lt k s.from ≡ b → a && not b ≡ true
        → (s.from ≤ k) × (k < s.to)
    by true true f g h = absurd (true≢false (sym h))
    by true false f g h = (ltb-false k s.from g, ltb-true k s.to f)
    by false b f g h = absurd (true≢false (sym h))

after_all : (start end k : ℕ) (spans : List Span) → AreApart start spans end → k < start
    → list_any (holds k) spans ≡ false
after_all start end k [] a l = refl
after_all start end k (s ∷ spans) a l =
    ap₂ (λ x y. x || y) (not_yet k s (omega (arith, a.0, l)))
    (after_all s.to end k spans a.2 (omega (arith, a.0, a.1, l)))

none_after : {X : Type 0} (p : X → Bool) (xs : List X)
    → ((k : ℕ) (d : X) → k < length xs → p (get_or xs k d) ≡ false) → filter p xs ≡ []
none_after p [] h = refl
none_after p (x ∷ xs) h =
    ap (λ b. cond b (x ∷ filter p xs) (filter p xs)) (h 0 x (omega arith))
    ∙ none_after p xs (λ k d l. h (suc k) d (omega (arith, l)))

-- what is in the spans from a place on is what passes from there on
pub spread : {X : Type 0} (p : X → Bool) (xs : List X) (spans : List Span) (start end : ℕ)
    → AreApart start spans end
    → ((k : ℕ) (d : X) → start ≤ k → k < length xs → p (get_or xs k d) ≡ list_any (holds k) spans)
    → flat_map (spanned xs) spans ≡ filter p (drop start xs)
spread p xs [] start end a h =
    sym (none_after p (drop start xs) (λ k d l. ap p (get_or-drop start xs k d)
    ∙ h (start + k) d (omega arith) (omega (arith, l, length-drop start xs))))
spread p xs (s ∷ spans) start end a h =
    let gap = s.from - start in
    let there : start + gap ≡ s.from = omega (arith, a.0) in
    let wide = s.to - s.from in
    let beyond : s.from + wide ≡ s.to = omega (arith, a.1) in
    let skip = passed p (drop start xs) gap (λ k d l m. ap p (get_or-drop start xs k d)
    ∙ h (start + k) d (omega arith) (omega (arith, m, length-drop start xs))
    ∙ ap₂ (λ x y. x || y) (not_yet (start + k) s (omega (arith, l, a.0)))
    (after_all s.to end (start + k) spans a.2 (omega (arith, l, a.0, a.1)))) in
    let keep = front_kept p (drop s.from xs) wide (λ k d l m. ap p (get_or-drop s.from xs k d)
    ∙ h (s.from + k) d (omega (arith, a.0)) (omega (arith, m, length-drop s.from xs))
    ∙ ap (λ x. x || list_any (holds (s.from + k)) spans)
    (is_held (s.from + k) s (omega arith) (omega (arith, l, a.1)))) in
    let more = spread p xs spans s.to end a.2 (λ k d l m. h k d (omega (arith, l, a.0, a.1)) m
    ∙ ap (λ x. x || list_any (holds k) spans) (not_past k s l)) in
    ap (λ ys. spanned xs s ++ ys) more
    ∙ sym (skip ∙ ap (filter p) (drop-drop gap start xs ∙ ap (λ n. drop n xs) there)
    ∙ keep ∙ ap (λ ys. take wide (drop s.from xs) ++ filter p ys)
    (drop-drop wide s.from xs ∙ ap (λ n. drop n xs) beyond))

-- spans that are apart and end at n at most
pub apart_within : (n start end : ℕ) (spans : List Span) → AreApart start spans end → start ≤ n
    → AllByRecursion (λ (s : Span). s.to ≤ n) spans → AreApart start spans n
apart_within n start end [] a l h = l
apart_within n start end (s ∷ spans) a l h = (a.0, a.1, apart_within n s.to end spans a.2 h.0 h.1)

-- one more span
pub apart_more : (start end : ℕ) (spans : List Span) (s : Span) → AreApart start spans end → end ≤ s.from
    → s.from < s.to → AreApart start (spans ++ s ∷ []) s.to
apart_more start end [] s a h l = (omega (arith, a, h), l, omega arith)
apart_more start end (t ∷ spans) s a h l = (a.0, a.1, apart_more t.to end spans s a.2 h l)

-- ---- spans of values

-- two that have a place in common are of one value
pub spans_once : (entries : List Entry) (equal : List Datum) (spans : List Span)
    → All (IsSpanOf entries equal) spans → AreSpansOnce spans
spans_once entries equal spans each i j k m li lj hi hj = by (cases_lt m (length entries))
  where
    s : Span
    s = get_or spans i no_span

    t : Span
    t = get_or spans j no_span

    si : IsSpanOf entries equal s
    si = each i no_span li

    tj : IsSpanOf entries equal t
    tj = each j no_span lj

    x : ℕ → List Datum
    x n = (get_or entries n (record { keys = []; place = 0 })).keys

    at : k < length entries
    at = let l = (held_in k s hi).1 in omega (arith, l, si.selects.within.1)

    same_value : si.value ≡ tj.value
    same_value = one_value si.value tj.value equal (x k) (sym (si.selects.each k _ at) ∙ hi)
        (sym (tj.selects.each k _ at) ∙ hj)

    by : (m < length entries) ⊎ (length entries ≤ m) → holds m s ≡ holds m t
    by (inl l) = si.selects.each m _ l ∙ ap (λ v. in_zone (lone_zone v) equal (x m)) same_value
        ∙ sym (tj.selects.each m _ l)
    by (inr g) = not_past m s (omega (arith, g, si.selects.within.1))
        ∙ sym (not_past m t (omega (arith, g, tj.selects.within.1)))

-- ---- one value after another

-- what was found of some values
pub record Found (entries : List Entry) (equal vs : List Datum) (spans : List Span) : Type 0 where
  pub each : All (IsSpanOf entries equal) spans
  pub all : (k : ℕ) (d : Entry) → k < length entries → list_any (holds k) spans
      ≡ list_any (λ v. in_zone (lone_zone v) equal (get_or entries k d).keys) vs

module _ (entries : List Entry) (equal : List Datum) (vs vs' : List Datum) (v : Datum)
    (more : vs' ≡ vs ++ v ∷ []) (spans : List Span) (s : Span)
    (selects : Selects entries (in_zone (lone_zone v) equal) s)
    (found : Found entries equal vs spans) where
  abbrev has : ℕ → Entry → Datum → Bool
  has k d v = in_zone (lone_zone v) equal (get_or entries k d).keys

  values_more : (k : ℕ) (d : Entry) → k < length entries
      → list_any (has k d) vs' ≡ list_any (holds k) spans || holds k s
  values_more k d l =
      ap (list_any (has k d)) more ∙ list_any-append (has k d) vs (v ∷ [])
      ∙ ap₂ (λ a b. a || b) (sym (found.all k d l)) (or_false (has k d v) ∙ sym (selects.each k d l))

  pub found_more : (spans' : List Span) → s.from < s.to → spans' ≡ spans ++ s ∷ []
      → Found entries equal vs' spans'
  found_more spans' l e = record {
    each = subst (All (IsSpanOf entries equal)) (sym e)
        (All-push (IsSpanOf entries equal) spans s found.each
        (record { value = v; some = l; selects = selects }));
    all = λ k d m. ap (list_any (holds k)) e ∙ list_any-append (holds k) spans (s ∷ [])
        ∙ ap (λ b. list_any (holds k) spans || b) (or_false (holds k s)) ∙ sym (values_more k d m);
  }

  empty_holds : (k : ℕ) → s.to ≤ s.from → holds k s ≡ false
  empty_holds k g = elim (cases_lt k s.to) [
    | inl l ↦ not_yet k s (omega (arith, g, l))
    | inr h ↦ not_past k s h
  ]

  pub found_same : (spans' : List Span) → s.to ≤ s.from → spans' ≡ spans → Found entries equal vs' spans'
  found_same spans' g e = record {
    each = subst (All (IsSpanOf entries equal)) (sym e) found.each;
    all = λ k d m. ap (list_any (holds k)) e ∙ sym (or_false (list_any (holds k) spans))
        ∙ ap (λ b. list_any (holds k) spans || b) (sym (empty_holds k g)) ∙ sym (values_more k d m);
  }

-- a span of one value, as a list of entries
pub span_of_value : (entries : List Entry) (equal : List Datum) (s : Span) → IsSpanOf entries equal s
    → (v : Datum) × (spanned entries s ≡ entries_within (equal ++ v ∷ []) no_last entries)
span_of_value entries equal s is = (
  is.value,
  is.selects.exactly ∙ filter_agree _ _ (λ (e : Entry). one_value_more is.value equal e.keys) entries,
)

-- the same of all spans
pub spans_of_values : (entries : List Entry) (equal : List Datum) (found out : List Span)
    → All (IsSpanOf entries equal) found → All (Contains found) out
    → All (λ span. (v : Datum) × (spanned entries span
    ≡ entries_within (equal ++ v ∷ []) no_last entries)) out
spans_of_values entries equal found out each of =
    All-weaker (Contains found) _ (λ s k. span_of_value entries equal s
    (All-contains (IsSpanOf entries equal) found s each k)) out of

-- they end in the index
pub apart_in : (entries : List Entry) (equal : List Datum) (found out : List Span) (end : ℕ)
    → All (IsSpanOf entries equal) found → All (Contains found) out → AreApart 0 out end
    → AreApart 0 out (length entries)
apart_in entries equal found out end each of apart =
    apart_within (length entries) 0 end out apart (omega arith) (recursion_from_All _ out
    (All-weaker (Contains found) (λ (s : Span). s.to ≤ length entries)
    (λ s k. (All-contains (IsSpanOf entries equal) found s each k).selects.within.1) out of))

-- ---- each once

pub record Once (spans : List Span) (at : ℕ) (out : List Span) (end : ℕ) : Type 0 where
  pub apart : AreApart 0 out end
  pub all : (k : ℕ) → list_any (holds k) out ≡ list_any (holds k) (take at spans)
  pub last : 0 < end → (j : ℕ) × (j < at) × ((get_or spans j no_span).to ≡ end)
  pub some_of_them : All (Contains spans) out

module _ (spans : List Span) (at : ℕ) (inside : at < length spans) (out : List Span) (end : ℕ)
    (so_far : Once spans at out end) where
  abbrev here : Span
  here = get_or spans at no_span

  pub taken : (out' : List Span) (end' : ℕ) → end ≤ here.from → here.from < here.to
      → out' ≡ out ++ here ∷ [] → end' ≡ here.to → Once spans (at + 1) out' end'
  taken out' end' h l e f = record {
    apart = subst (λ n. AreApart 0 out' n) (sym f) (subst (λ ss. AreApart 0 ss here.to) (sym e)
        (apart_more 0 end out here so_far.apart h l));
    all = λ k. ap (list_any (holds k)) e ∙ list_any-append (holds k) out (here ∷ [])
        ∙ ap₂ (λ a b. a || b) (so_far.all k) (or_false (holds k here))
        ∙ sym (list_any_more (holds k) spans at no_span inside);
    last = λ _. (at, omega arith, sym f);
    some_of_them = subst (All (Contains spans)) (sym e)
        (All-push (Contains spans) out here so_far.some_of_them (Contains-get_or spans at no_span inside));
  }

  pub skipped : (out' : List Span) (end' : ℕ) → IsNonDecreasingBy (λ (s : Span). s.from) spans
      → AreSpansOnce spans → here.from < here.to → here.from < end → out' ≡ out → end' ≡ end
      → Once spans (at + 1) out' end'
  skipped out' end' up once some h e f = record {
    apart = subst (λ n. AreApart 0 out' n) (sym f)
        (subst (λ ss. AreApart 0 ss end) (sym e) so_far.apart);
    all = λ k. ap (list_any (holds k)) e ∙ so_far.all k ∙ sym (or_false (list_any (holds k) (take at spans)))
        ∙ by k (holds k here) refl ∙ sym (list_any_more (holds k) spans at no_span inside);
    last = λ l. let before = so_far.last (omega (arith, l, f)) in
        (before.0, omega (arith, before.1), before.2 ∙ sym f);
    some_of_them = subst (All (Contains spans)) (sym e) so_far.some_of_them;
  }
    where
      before : (j : ℕ) × (j < at) × ((get_or spans j no_span).to ≡ end)
      before = so_far.last (omega (arith, h))

      t : Span
      t = get_or spans before.0 no_span

      low : t.from ≤ here.from
      low = up before.0 at no_span (omega (arith, before.1)) inside

      common : holds here.from t ≡ true
      common = is_held here.from t low (omega (arith, h, before.2))

      same_places : (k : ℕ) → holds k t ≡ holds k here
      same_places k = once before.0 at here.from k (omega (arith, before.1, inside)) inside common
          (is_held here.from here (omega arith) some)

      in_front : (k : ℕ) → holds k here ≡ true → list_any (holds k) (take at spans) ≡ true
      in_front k g = list_any_at (holds k) (take at spans) before.0 no_span
          (omega (arith, before.1, inside, length-take at spans))
          (ap (holds k) (get_or-take at spans before.0 no_span before.1) ∙ same_places k ∙ g)

      by : (k : ℕ) (b : Bool) → holds k here ≡ b
          → list_any (holds k) (take at spans) || false ≡ list_any (holds k) (take at spans) || holds k here
      by k true g = ap (λ x. x || false) (in_front k g) ∙ sym (ap (λ x. x || holds k here) (in_front k g))
      by k false g = ap (λ x. list_any (holds k) (take at spans) || x) (sym g)
