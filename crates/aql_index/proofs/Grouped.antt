-- Groups of entries with the same first values: in sorted entries they stand next to each other.
use Rattle.std.proofs.Common.{◌≡◌, ◌∙◌, ◌+◌, ◌-◌, ◌<◌, ◌≤◌, ◌⊎◌, ℕ, zero, suc, List, [], ◌∷◌, ◌++◌, length, map, take, get_or, Bool, true, false, cond, refl, sym, ap, ap₂, inl, inr, arith, true≢false, max, not, length-append}
use Rattle.std.specs.Prelude.{filter, fold}
use Rattle.std.specs.Ordering.{is_lt, is_eq, ordering_then, ordering_reverse, ord_max, nat_cmp}
use Rattle.std.specs.declared.cmp.Ordering.{Ordering}
use Rattle.std.specs.declared.cmp.Ordering.TheVariants.{Less, Equal, Greater}
use Rattle.std.specs.Cmp.{IsStrictWeakOrder, IsEquivalence}
use Rattle.std.specs.List.Sorted.{IsSortedBy}
use Rattle.std.proofs.lemmas.Bool.Decides.{nat_tests}
use Rattle.std.proofs.lemmas.Cmp.{eq_by_cmp_equiv, on_equiv}
use Rattle.std.proofs.lemmas.List.{take_more, get_or-take, length-take, get_or_default}
use Rattle.std.proofs.lemmas.List.Filters.{length-filter_both}
use Rattle.std.proofs.lemmas.List.Elements.{filter-append, filter_agree}
use Rattle.std.proofs.lemmas.List.Sorted.{ranks_by, sorted_far}
use Rattle.aql_value.specs.Datum.{Datum}
use Rattle.aql_value.specs.Compare.{compare}
use Rattle.aql_value.specs.Contents.{list, same, is_below}
use Rattle.aql_value.specs.laws.Strict.{compare_total}
use Rattle.aql_index.specs.Entries.{is_before}
use Rattle.aql_index.specs.Groups.{widest_of}
use Rattle.aql_index.specs.inner.Places.{no_entry}
use Rattle.aql_index.specs.declared.entries.Entry.{Entry}
use Rattle.aql_index.specs.laws.Order.{entries_order}

-- ---- a maximum

folded : {X : Type 0} (g : X → ℕ) (a : ℕ) (xs : List X) (x : X)
    → fold max a (map g (xs ++ x ∷ [])) ≡ max (fold max a (map g xs)) (g x)
folded g a [] x = refl
folded g a (y ∷ ys) x = folded g (max a (g y)) ys x

max_step : (a b m g f : ℕ) → (g ≡ f) ⊎ ((g ≡ m) × (f ≤ m)) → max a m ≡ max b m
    → max (max a g) m ≡ max (max b f) m
max_step a b m g f (inl e) h = omega (arith, e, h)
max_step a b m g f (inr e) h = omega (arith, e.0, e.1, h)

pub greater : (a b : ℕ) → ord_max nat_cmp a b ≡ max a b
greater a b = grind (arith, nat_tests)

-- values that differ only where they are m, or at most m
same_max : {X : Type 0} (f g : X → ℕ) (m : ℕ) → ((d : X) → (g d ≡ f d) ⊎ ((g d ≡ m) × (f d ≤ m)))
    → (xs : List X) (a b : ℕ) → max a m ≡ max b m
    → max (fold max a (map g xs)) m ≡ max (fold max b (map f xs)) m
same_max f g m h [] a b e = e
same_max f g m h (x ∷ xs) a b e =
    same_max f g m h xs (max a (g x)) (max b (f x)) (max_step a b m (g x) (f x) (h x) e)

module _ (width : ℕ) where
  abbrev first : Entry → Datum
  first e = list (take width e.keys)

  abbrev alike_to : Entry → Entry → Bool
  alike_to e f = same (first e) (first f)

  equal : IsEquivalence alike_to
  equal = on_equiv first (eq_by_cmp_equiv compare_total)

  abbrev size : List Entry → Entry → ℕ
  size xs e = length (filter (alike_to e) xs)

  -- entries that are alike have the same group
  same_group : (e f : Entry) → alike_to e f ≡ true → (xs : List Entry)
      → filter (alike_to e) xs ≡ filter (alike_to f) xs
  same_group e f h xs = filter_agree (alike_to e) (alike_to f) (λ z. equal.congr e f z h) xs

  one_more : (xs : List Entry) (e x : Entry) (b : Bool) → alike_to e x ≡ b
      → size (xs ++ x ∷ []) e ≡ size xs e + cond b 1 0
  one_more xs e x true h =
      ap length (filter-append (alike_to e) xs (x ∷ [])) ∙ length-append (filter (alike_to e) xs) _
      ∙ ap (λ b. size xs e + length (cond b (x ∷ []) [])) h
  one_more xs e x false h =
      ap length (filter-append (alike_to e) xs (x ∷ [])) ∙ length-append (filter (alike_to e) xs) _
      ∙ ap (λ b. size xs e + length (cond b (x ∷ []) [])) h

  grown : (xs : List Entry) (x e : Entry) (b : Bool) → alike_to e x ≡ b
      → (size (xs ++ x ∷ []) e ≡ size xs e)
      ⊎ ((size (xs ++ x ∷ []) e ≡ size xs x + 1) × (size xs e ≤ size xs x + 1))
  grown xs x e true h =
      let n = one_more xs e x true h in
      let m = ap length (same_group e x h xs) in
      inr (omega (arith, n, m), omega (arith, m))
  grown xs x e false h = let n = one_more xs e x false h in inl (omega (arith, n))

  -- one more entry
  pub widest_more : (xs : List Entry) (x : Entry)
      → widest_of width (xs ++ x ∷ []) ≡ max (widest_of width xs) (size xs x + 1)
  widest_more xs x =
      folded (size (xs ++ x ∷ [])) 0 xs x
      ∙ ap (λ n. max (fold max 0 (map (size (xs ++ x ∷ [])) xs)) n)
      (one_more xs x x true (equal.refl x))
      ∙ same_max (size xs) (size (xs ++ x ∷ [])) (size xs x + 1) (λ e. grown xs x e (alike_to e x) refl)
      xs 0 0 refl

  -- the group of one more entry, with it
  pub with_it : (entries : List Entry) (at : ℕ) → at < length entries
      → size (take at entries) (get_or entries at no_entry) + 1
      ≡ size (take (at + 1) entries) (get_or entries (at + 1 - 1) no_entry)
  with_it entries at l =
      let x = get_or entries at no_entry in
      sym (one_more (take at entries) x x true (equal.refl x))
      ∙ ap₂ size (sym (take_more entries at no_entry l))
      (ap (λ n. get_or entries n no_entry) (omega arith))

  -- the groups up to the next entry
  pub widest_next : (entries : List Entry) (at : ℕ) → at < length entries
      → max (widest_of width (take at entries)) (size (take at entries) (get_or entries at no_entry) + 1)
      ≡ widest_of width (take (at + 1) entries)
  widest_next entries at l =
      sym (widest_more (take at entries) (get_or entries at no_entry))
      ∙ ap (widest_of width) (sym (take_more entries at no_entry l))

  pub few_alike : (xs : List Entry) (e : Entry) → size xs e ≤ length xs
  few_alike xs e = omega (arith, length-filter_both (alike_to e) (λ z. not (alike_to e z)) (λ _. refl) xs)

  -- ---- neighbours

  abbrev first_before : Entry → Entry → Bool
  first_before e f = is_below (first e) (first f)

  order : IsStrictWeakOrder first_before
  order = ranks_by compare_total first

  prefix : (n : ℕ) (a b : List Datum) → is_lt (compare (list b) (list a)) ≡ false
      → is_lt (compare (list (take n b)) (list (take n a))) ≡ false
  prefix zero a b h = refl
  prefix (suc n) [] [] h = refl
  prefix (suc n) [] (y ∷ ys) h = refl
  prefix (suc n) (x ∷ xs) [] h = h
  prefix (suc n) (x ∷ xs) (y ∷ ys) h = by (compare y x) (prefix n xs ys) h
    where
      by : (o : Ordering) → (is_lt (compare (list ys) (list xs)) ≡ false
          → is_lt (compare (list (take n ys)) (list (take n xs))) ≡ false)
          → is_lt (ordering_then o (compare (list ys) (list xs))) ≡ false
          → is_lt (ordering_then o (compare (list (take n ys)) (list (take n xs)))) ≡ false
      by Less ih h = h
      by Equal ih h = ih h
      by Greater ih h = refl

  -- no first values are less than those before them
  firsts_rise : (entries : List Entry) → IsSortedBy is_before entries → (i j : ℕ) (d : Entry) → i ≤ j
      → j < length entries → first_before (get_or entries j d) (get_or entries i d) ≡ false
  firsts_rise entries up i j d l m = prefix width (get_or entries i d).keys (get_or entries j d).keys
      (sorted_far is_before entries_order entries up i j d l m)

  neither : (o : Ordering) → is_lt o ≡ false → is_lt (ordering_reverse o) ≡ false → is_eq o ≡ true
  neither Less f g = absurd (true≢false f)
  neither Equal f g = refl
  neither Greater f g = absurd (true≢false g)

  tie : (e f : Entry) → first_before e f ≡ false → first_before f e ≡ false → alike_to e f ≡ true
  tie e f g h = neither (compare (first e) (first f)) g
      (ap is_lt (sym (compare_total.antisymm (first f) (first e))) ∙ h)

  not_less : (o : Ordering) → is_eq o ≡ true → is_lt o ≡ false
  not_less Less e = sym e
  not_less Equal e = refl
  not_less Greater e = refl

  -- three entries in order of which the outer ones are alike
  between : (e p x : Entry) → first_before p e ≡ false → first_before x p ≡ false
      → alike_to x e ≡ true → alike_to p x ≡ true
  between e p x pe xp h =
      let ex = not_less (compare (first e) (first x)) (equal.symm e x ∙ h) in
      tie p x (order.chain p e x pe ex) xp

  unlike : (b : Bool) (P : Type 0) → (b ≡ true → P) → (P → ⊥) → b ≡ false
  unlike true P f g = absurd (g (f refl))
  unlike false P f g = refl

  none_pass : {X : Type 0} (p : X → Bool) (xs : List X) (d : X)
      → ((k : ℕ) → k < length xs → p (get_or xs k d) ≡ false) → filter p xs ≡ []
  none_pass p [] d h = refl
  none_pass p (x ∷ xs) d h =
      ap (λ b. cond b (x ∷ filter p xs) (filter p xs)) (h 0 (omega arith))
      ∙ none_pass p xs d (λ k l. h (suc k) (omega (arith, l)))

  module _ (entries : List Entry) (up : IsSortedBy is_before entries) (at : ℕ) (here : 0 < at)
      (inside : at < length entries) where
    abbrev this : Entry
    this = get_or entries at no_entry

    abbrev last : Entry
    last = get_or entries (at - 1) no_entry

    -- what the program compares
    pub agreed : (b : Bool) (k l : List Datum) (d e : Entry) → k ≡ (get_or entries (at - 1) d).keys
        → l ≡ (get_or entries at e).keys → b ≡ same (list (take width k)) (list (take width l))
        → alike_to last this ≡ b
    agreed b k l d e p q h =
        ap₂ (λ (x y : List Datum). same (list (take width x)) (list (take width y)))
        (ap (λ (x : Entry). x.keys)
        (get_or_default entries (at - 1) no_entry d (omega (arith, inside))) ∙ sym p)
        (ap (λ (x : Entry). x.keys) (get_or_default entries at no_entry e inside) ∙ sym q)
        ∙ sym h

    pub goes_on : alike_to last this ≡ true → size (take at entries) this ≡ size (take at entries) last
    goes_on h = sym (ap length (same_group last this h (take at entries)))

    pub starts : alike_to last this ≡ false → size (take at entries) this ≡ 0
    starts h = ap length (none_pass (alike_to this) (take at entries) no_entry (λ k l.
        let low : k < at = omega (arith, l, length-take at entries) in
        ap (alike_to this) (get_or-take at entries k no_entry low)
        ∙ unlike _ (alike_to last this ≡ true)
        (between (get_or entries k no_entry) last this
        (firsts_rise entries up k (at - 1) no_entry (omega (arith, low)) (omega (arith, inside)))
        (firsts_rise entries up (at - 1) at no_entry (omega arith) inside))
        (λ e. true≢false (sym e ∙ h))))
