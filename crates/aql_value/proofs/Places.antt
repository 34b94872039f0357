-- Where a search by halves finds a name among ascending attributes.
use Rattle.std.proofs.Common.{◌≡◌, ◌<◌, ◌≤◌, ◌-◌, ℕ, zero, suc, List, [], ◌∷◌, length, take, drop, get_or, refl, sym, ap, ◌∙◌, true, true≢false, arith, subst, Result, Ok, Err}
use Rattle.std.specs.declared.cmp.Ordering.{Ordering}
use Rattle.std.specs.declared.cmp.Ordering.TheVariants.{Less, Equal, Greater}
use Rattle.std.specs.Ordering.{nat_cmp, is_lt, ordering_index}
use Rattle.std.specs.Cmp.Lexicographic.{slice_cmp}
use Rattle.std.specs.List.Sorted.{IsBinarySearchResult, IsSearchInRange, IsNonDecreasingBy}
use Rattle.std.proofs.lemmas.Cmp.{nat_list_cmp_total}
use Rattle.aql_value.specs.laws.Ranks.{same_bytes, above_bytes}
use Rattle.aql_value.specs.Order.{BytesBelow}
use Rattle.aql_value.specs.inner.NameSearch.{EachBelow, StartsAbove, IsSearchResult}
use Rattle.aql_value.specs.Fields.{fields_in}
use Rattle.aql_value.specs.Datum.{Datum, object_of}
use Rattle.aql_value.specs.WellFormed.{FieldsWellFormed, IsBelowNames}
use Rattle.aql_value.specs.declared.values.Member.{Member}
use Rattle.aql_value.specs.laws.Kept.{above, starts_at, length-fields_in}

abbrev Ascend : List Member → Type 0
Ascend es = FieldsWellFormed (object_of (fields_in es))

abbrev pub to_name : List ℕ → Member → Ordering
to_name k m = slice_cmp nat_cmp m.name k

below_name : (l : List ℕ) (es : List Member) (i : ℕ) (d : Member) → IsBelowNames l (object_of (fields_in es))
    → i < length es → BytesBelow l (get_or es i d).name
below_name l [] i d h lt = absurd (omega arith)
below_name l (e ∷ es) zero d h lt = h.0
below_name l (e ∷ es) (suc i) d h lt = below_name l es i d h.1 (omega arith)

each_before : (k : List ℕ) (es : List Member) (i : ℕ) (d : Member) → Ascend es → i < length es
    → (get_or es i d).name ≡ k → EachBelow k (take i (fields_in es))
each_before k [] i d w lt e = absurd (omega arith)
each_before k (m ∷ es) zero d w lt e = tt
each_before k (m ∷ es) (suc i) d w lt e =
    let here : i < length es = omega arith in (
      subst (BytesBelow m.name) e (below_name m.name es i d w.0 here),
      each_before k es i d w.2 here e,
    )

-- a greater name stands no lower beside k
rises : (k a b : List ℕ) (o : Ordering) → slice_cmp nat_cmp a k ≡ o → BytesBelow a b
    → ordering_index o ≤ ordering_index (slice_cmp nat_cmp b k)
rises k a b Less e h = omega arith
rises k a b Equal e h = rw (above b k (subst (λ x. BytesBelow x b) (same_bytes a k e) h)) (omega arith)
rises k a b Greater e h = rw (above b k (nat_list_cmp_total.trans k a b (above_bytes a k e) h)) (omega arith)

names_rise : (k : List ℕ) (es : List Member) → Ascend es
    → IsNonDecreasingBy (λ m. ordering_index (to_name k m)) es
names_rise k [] w i j d le lt = absurd (omega arith)
names_rise k (m ∷ es) w zero zero d le lt = omega arith
names_rise k (m ∷ es) w zero (suc j) d le lt =
    rises k m.name (get_or es j d).name _ refl (below_name m.name es j d w.0 (omega arith))
names_rise k (m ∷ es) w (suc i) zero d le lt = absurd (omega arith)
names_rise k (m ∷ es) w (suc i) (suc j) d le lt = names_rise k es w.2 i j d (omega arith) (omega arith)

each_below : (k : List ℕ) (es : List Member) (i : ℕ) → i ≤ length es
    → ((n : ℕ) (d : Member) → n < i → BytesBelow (get_or es n d).name k) → EachBelow k (take i (fields_in es))
each_below k [] zero h f = tt
each_below k [] (suc i) h f = tt
each_below k (m ∷ es) zero h f = tt
each_below k (m ∷ es) (suc i) h f = (
  f 0 m (omega arith),
  each_below k es i (omega arith) (λ n d lt. f (suc n) d (omega arith)),
)

starts : (k : List ℕ) (es : List Member) (i : ℕ) → i ≤ length es
    → ((d : Member) → i < length es → BytesBelow k (get_or es i d).name)
    → StartsAbove k (drop i (fields_in es))
starts k [] zero h f = tt
starts k [] (suc i) h f = tt
starts k (m ∷ es) zero h f = f m (omega arith)
starts k (m ∷ es) (suc i) h f = starts k es i (omega arith) (λ d lt. f d (omega arith))

found : (k : List ℕ) (m : Member) (es : List Member) (i : ℕ) → Ascend (m ∷ es) → i < length (m ∷ es)
    → to_name k (get_or (m ∷ es) i m) ≡ Equal → IsSearchResult (Ok i) k (fields_in (m ∷ es))
found k m es i w h e =
    let here = same_bytes (get_or (m ∷ es) i m).name k e in (
      rw (length-fields_in (m ∷ es)) h,
      each_before k (m ∷ es) i m w h here,
      starts_at k (m ∷ es) i m h here,
    )

pub place : (k : List ℕ) (es : List Member) (r : Result ℕ ℕ) → Ascend es → IsSearchInRange r (length es)
    → IsBinarySearchResult (to_name k) es r → IsSearchResult r k (fields_in es)
place k [] (Ok i) w h p = absurd (omega arith)
place k (m ∷ es) (Ok i) w h p = found k m es i w h (p m)
place k es (Err i) w h p =
    let parts = p (names_rise k es w) in (
      rw (length-fields_in es) h,
      each_below k es i h (λ n d lt. parts.0 n d (omega arith) lt),
      starts k es i h (λ d lt. above_bytes (get_or es i d).name k (parts.1 i d (omega arith) lt)),
    )

-- all names are less than k, since the last one is
all_below : (k : List ℕ) (m : Member) (es : List Member) (d : Member) → Ascend (m ∷ es)
    → BytesBelow (get_or (m ∷ es) (length es) d).name k
    → EachBelow k (take (length (fields_in (m ∷ es))) (fields_in (m ∷ es)))
all_below k m [] d w h = (h, tt)
all_below k m (e ∷ es) d w h = (
  nat_list_cmp_total.trans m.name (get_or (e ∷ es) (length es) d).name k
      (below_name m.name (e ∷ es) (length es) d w.0 (omega arith)) h,
  all_below k e es d w.2 h,
)

nothing_above : (k : List ℕ) (fs : List (List ℕ × Datum)) → StartsAbove k (drop (length fs) fs)
nothing_above k [] = tt
nothing_above k (f ∷ fs) = nothing_above k fs

pub behind : (k : List ℕ) (es : List Member) (d : Member) → Ascend es → 0 < length es
    → BytesBelow (get_or es (length es - 1) d).name k
    → IsSearchResult (Err (length es)) k (fields_in es)
behind k [] d w lt h = absurd (omega arith)
behind k (m ∷ es) d w lt h =
    let fs = fields_in (m ∷ es) in
    let last : length (m ∷ es) - 1 ≡ length es = omega arith in
    subst (λ n. (n ≤ length fs) × EachBelow k (take n fs) × StartsAbove k (drop n fs))
    (length-fields_in (m ∷ es)) (
      omega arith,
      all_below k m es d w (subst (λ n. BytesBelow (get_or (m ∷ es) n d).name k) last h),
      nothing_above k fs,
    )

pub less_bytes : (a k : List ℕ) (o : Ordering) → slice_cmp nat_cmp a k ≡ o
    → is_lt (slice_cmp nat_cmp a k) ≡ true → BytesBelow a k
less_bytes a k Less e h = e
less_bytes a k Equal e h = absurd (true≢false (sym h ∙ ap is_lt e))
less_bytes a k Greater e h = absurd (true≢false (sym h ∙ ap is_lt e))
