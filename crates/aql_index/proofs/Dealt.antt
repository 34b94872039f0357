-- An index dealt out, one entry after another.
use Rattle.std.proofs.Common.{◌≡◌, ◌≢◌, ◌∙◌, ◌+◌, ◌<◌, ◌≤◌, zero, suc, ℕ, List, [], ◌∷◌, ◌++◌, length, map, take, set, get_or, Bool, true, false, cond, refl, sym, ap, ap₂, subst, arith, eqb-true, eq-eqb, ne_eqb}
use Rattle.std.specs.Prelude.{◌==◌, filter}
use Rattle.std.specs.List.{AllByRecursion}
use Rattle.std.proofs.lemmas.Bool.{eqb-false}
use Rattle.std.proofs.lemmas.List.{append-nil, length-map, length-set, length-take, length-take-le, map-append, map_push, get_or-map, get_or-set_same, get_or-set_other, ext_get_or}
use Rattle.std.proofs.lemmas.List.Elements.{All-from_recursion, filter_more, recursion_from_All}
use Rattle.std.proofs.lemmas.List.Filters.{length-filter_more}
use Rattle.std.proofs.lemmas.Option.{get_or_from_slice_get}
use Rattle.aql_plan.specs.Facts.{numbers_below}
use Rattle.aql_index.specs.declared.entries.Entry.{Entry}
use Rattle.aql_index.specs.Dealing.{count_on, shard_at, rank, is_on, ranked, entries_on, dealt, IsOver}
use Rattle.aql_index.specs.Entries.{IndexView, is_before, IsIndex}
use Rattle.aql_index.specs.laws.Filters.{all_filter}
use Rattle.aql_index.specs.laws.Numbers.{length-numbers_below, next_below, number_at}
use Rattle.aql_index.specs.laws.Order.{entries_order}
use Rattle.aql_index.specs.laws.Passing.{InPairs, pairs_filter, in_pairs, from_pairs}

-- ---- a list by number

module _ {X : Type 0} where
  long : (f : ℕ → X) (n : ℕ) → length (map f (numbers_below n)) ≡ n
  long f n = length-map (numbers_below n) f ∙ length-numbers_below n

  pub by_number : (f : ℕ → X) (n i : ℕ) (d : X) → i < n → get_or (map f (numbers_below n)) i d ≡ f i
  by_number f n i d h =
      get_or-map f (numbers_below n) i 0 d (omega (arith, h, length-numbers_below n))
      ∙ ap f (get_or_from_slice_get (numbers_below n) i i 0 (number_at n i h))

  -- one is changed
  changed : (f g : ℕ → X) (n k : ℕ) (x : X) → k < n → g k ≡ x → ((j : ℕ) → j ≢ k → g j ≡ f j)
      → set (map f (numbers_below n)) k x ≡ map g (numbers_below n)
  changed f g n k x h here others =
      ext_get_or x (set (map f (numbers_below n)) k x) (map g (numbers_below n))
      (length-set (map f (numbers_below n)) k x ∙ long f n ∙ sym (long g n))
      (λ i l. at i (omega (arith, l, length-set (map f (numbers_below n)) k x, long f n)) (i == k) refl)
    where
      at : (i : ℕ) → i < n → (b : Bool) → (i == k) ≡ b
          → get_or (set (map f (numbers_below n)) k x) i x ≡ get_or (map g (numbers_below n)) i x
      at i l true e =
          let same : i ≡ k = eqb-true i k e in
          ap (λ j. get_or (set (map f (numbers_below n)) k x) j x) same
          ∙ get_or-set_same (map f (numbers_below n)) k x x (omega (arith, h, long f n))
          ∙ sym here ∙ ap g (sym same) ∙ sym (by_number g n i x l)
      at i l false e =
          let other : i ≢ k = eqb-false i k e in
          get_or-set_other (map f (numbers_below n)) k i x x other
          ∙ by_number f n i x l ∙ sym (others i other) ∙ sym (by_number g n i x l)

-- ---- the ranks of documents

at_most : (shard : ℕ) (shards : List ℕ) → count_on shard shards ≤ length shards
at_most shard [] = omega arith
at_most shard (s ∷ shards) = by (s == shard) (at_most shard shards)
  where
    by : (b : Bool) → count_on shard shards ≤ length shards
        → length (cond b (s ∷ filter (λ n. n == shard) shards) (filter (λ n. n == shard) shards))
        ≤ suc (length shards)
    by true h = omega (arith, h)
    by false h = omega (arith, h)

module _ (shards : List ℕ) where
  -- how many of the first documents are on each shard, so many
  abbrev pub counts_to : ℕ → ℕ → List ℕ
  counts_to i count = map (λ shard. count_on shard (take i shards)) (numbers_below count)

  module _ (i count : ℕ) (counts : List ℕ) (is : counts ≡ counts_to i count) (below : shard_at shards i < count) where
    pub is_shard : shard_at shards i < length counts
    is_shard = omega (arith, below, ap length is, long (λ shard. count_on shard (take i shards)) count)

    pub rank_next : get_or counts (shard_at shards i) 0 ≡ rank shards i
    rank_next = ap (λ xs. get_or xs (shard_at shards i) 0) is
        ∙ by_number (λ shard. count_on shard (take i shards)) count (shard_at shards i) 0 below

    pub counts_next : i < length shards
        → set counts (shard_at shards i) (get_or counts (shard_at shards i) 0 + 1) ≡ counts_to (i + 1) count
    counts_next l =
        ap₂ (λ xs k. set xs (shard_at shards i) (k + 1)) is rank_next
        ∙ changed (λ shard. count_on shard (take i shards)) (λ shard. count_on shard (take (i + 1) shards))
        count (shard_at shards i) (rank shards i + 1) below
        (more (shard_at shards i) true (eq-eqb (shard_at shards i) (shard_at shards i) refl))
        (λ j other. more j false (ne_eqb (shard_at shards i) j (λ e. other (sym e))) ∙ omega arith)
      where
        more : (shard : ℕ) (b : Bool) → (shard_at shards i == shard) ≡ b
            → count_on shard (take (i + 1) shards) ≡ count_on shard (take i shards) + cond b 1 0
        more shard b e = length-filter_more (λ s. s == shard) shards i 0 l
            ∙ ap (λ c. count_on shard (take i shards) + cond c 1 0) e

  pub rank_fits : (i : ℕ) → i < length shards → rank shards i < length shards
  rank_fits i l = omega (arith, l, at_most (shard_at shards i) (take i shards), length-take-le i shards (omega (arith, l)))

  pub ranks_next : (ranks : List ℕ) (i : ℕ) → ranks ≡ map (rank shards) (numbers_below i)
      → ranks ++ rank shards i ∷ [] ≡ map (rank shards) (numbers_below (i + 1))
  ranks_next ranks i is = ap (λ rs. rs ++ rank shards i ∷ []) is
      ∙ sym (map_push (rank shards) (numbers_below i) i)
      ∙ ap (map (rank shards)) (sym (next_below i))

-- ---- the entries of a shard

module _ {X : Type 0} (lt : X → X → Bool) where
  all_taken : (P : X → Type 0) (n : ℕ) (xs : List X) → AllByRecursion P xs → AllByRecursion P (take n xs)
  all_taken P zero xs h = tt
  all_taken P (suc n) [] h = tt
  all_taken P (suc n) (x ∷ xs) h = (h.0, all_taken P n xs h.1)

  pairs_take : (n : ℕ) (xs : List X) → InPairs lt xs → InPairs lt (take n xs)
  pairs_take zero xs h = tt
  pairs_take (suc n) [] h = tt
  pairs_take (suc n) (x ∷ xs) h = (all_taken (λ w. lt w x ≡ false) n xs h.0, pairs_take n xs h.1)

module _ (shards : List ℕ) where
  all_ranked : (P Q : Entry → Type 0) → ((e : Entry) → P e → Q (ranked shards e)) → (es : List Entry)
      → AllByRecursion P es → AllByRecursion Q (map (ranked shards) es)
  all_ranked P Q f [] h = tt
  all_ranked P Q f (e ∷ es) h = (f e h.0, all_ranked P Q f es h.1)

  pairs_ranked : (es : List Entry) → InPairs is_before es → InPairs is_before (map (ranked shards) es)
  pairs_ranked [] h = tt
  pairs_ranked (e ∷ es) h = (
    all_ranked (λ w. is_before w e ≡ false) (λ w. is_before w (ranked shards e) ≡ false) (λ w k. k) es h.0,
    pairs_ranked es h.1,
  )

  fewer : (shard : ℕ) (es : List Entry) → length (entries_on shards shard es) ≤ length es
  fewer shard [] = omega arith
  fewer shard (e ∷ es) = by (is_on shards shard e) (fewer shard es)
    where
      by : (b : Bool) → length (entries_on shards shard es) ≤ length es
          → length (map (ranked shards) (cond b (e ∷ filter (is_on shards shard) es) (filter (is_on shards shard) es)))
          ≤ suc (length es)
      by true h = omega (arith, h)
      by false h = omega (arith, h)

  module _ (width : ℕ) (entries : List Entry) (whole : IsIndex width entries) (n shard : ℕ) where
    abbrev on : List Entry → List Entry
    on es = filter (is_on shards shard) es

    -- those of a shard are an index, as far as they are dealt out
    dealt_index : IsIndex width (entries_on shards shard (take n entries))
    dealt_index = record {
      sorted = from_pairs is_before entries_order _ (pairs_ranked (on (take n entries))
          (pairs_filter is_before (is_on shards shard) (take n entries)
          (pairs_take is_before n entries (in_pairs is_before entries_order entries whole.sorted))));
      wide = All-from_recursion _ _ (all_ranked (λ (e : Entry). length e.keys ≡ width)
          (λ (e : Entry). length e.keys ≡ width) (λ e k. k) (on (take n entries))
          (all_filter (λ (e : Entry). length e.keys ≡ width) (is_on shards shard) (take n entries)
          (all_taken is_before (λ (e : Entry). length e.keys ≡ width) n entries
          (recursion_from_All _ _ whole.wide))));
      few = (let a = fewer shard (take n entries) in let b = length-take n entries in let c = whole.few in
          omega (arith, a, b, c));
    }

  -- ---- one entry more

  -- what is dealt of the first entries
  abbrev pub dealt_to : ℕ → List Entry → ℕ → ℕ → IndexView
  dealt_to width entries n shard = dealt (record { width = width; entries = take n entries }) shards shard

  module _ (width : ℕ) (entries : List Entry) (i : ℕ) (e : Entry) (l : i < length entries)
      (there : e ≡ get_or entries i e) where
    more_on : (shard : ℕ) (b : Bool) → is_on shards shard e ≡ b
        → entries_on shards shard (take (i + 1) entries)
        ≡ entries_on shards shard (take i entries) ++ cond b (ranked shards e ∷ []) []
    more_on shard b h =
        ap (map (ranked shards)) (filter_more (is_on shards shard) entries i e l
        ∙ ap (λ (x : Entry). filter (is_on shards shard) (take i entries)
        ++ cond (is_on shards shard x) (x ∷ []) []) (sym there)
        ∙ ap (λ c. filter (is_on shards shard) (take i entries) ++ cond c (e ∷ []) []) h)
        ∙ map-append (ranked shards) (filter (is_on shards shard) (take i entries)) (cond b (e ∷ []) [])
        ∙ ap (λ es. entries_on shards shard (take i entries) ++ es) (by b)
      where
        by : (c : Bool) → map (ranked shards) (cond c (e ∷ []) []) ≡ cond c (ranked shards e ∷ []) []
        by true = refl
        by false = refl

    more_here : entries_on shards (shard_at shards e.place) (take (i + 1) entries)
        ≡ entries_on shards (shard_at shards e.place) (take i entries) ++ ranked shards e ∷ []
    more_here = more_on (shard_at shards e.place) true (eq-eqb (shard_at shards e.place) (shard_at shards e.place) refl)

    pub is_there : IsOver (length shards) (record { width = width; entries = entries }) → e.place < length shards
    is_there over = subst (λ (x : Entry). x.place < length shards) (sym there) (over i e l)

    pub goes_there : (count : ℕ) (all : List IndexView)
        → all ≡ map (dealt_to width entries i) (numbers_below count)
        → shard_at shards e.place < count → shard_at shards e.place < length all
    goes_there count all is below = omega (arith, below, ap length is, long (dealt_to width entries i) count)

    -- the index that the entry goes to, and the entry as it is there
    module _ (count : ℕ) (all : List IndexView) (is : all ≡ map (dealt_to width entries i) (numbers_below count))
        (below : shard_at shards e.place < count) (own : IndexView)
        (own_is : own ≡ get_or all (shard_at shards e.place) own) (new : Entry)
        (new_is : new ≡ ranked shards e) where
      own_so_far : own ≡ dealt_to width entries i (shard_at shards e.place)
      own_so_far = own_is ∙ ap (λ (xs : List IndexView). get_or xs (shard_at shards e.place) own) is
          ∙ by_number (dealt_to width entries i) count (shard_at shards e.place) own below

      grown : own.entries ++ new ∷ [] ≡ entries_on shards (shard_at shards e.place) (take (i + 1) entries)
      grown = ap₂ (λ (s : IndexView) (x : Entry). s.entries ++ x ∷ []) own_so_far new_is ∙ sym more_here

      pub is_appended : IsIndex width entries → IsIndex own.width (own.entries ++ new ∷ [])
      is_appended whole = subst (λ (w : ℕ). IsIndex w (own.entries ++ new ∷ []))
          (sym (ap (λ (s : IndexView). s.width) own_so_far))
          (subst (λ (es : List Entry). IsIndex width es) (sym grown)
          (dealt_index width entries whole (i + 1) (shard_at shards e.place)))

      pub dealt_next : (now : IndexView)
          → now ≡ record { width = own.width; entries = own.entries ++ new ∷ [] }
          → set all (shard_at shards e.place) now ≡ map (dealt_to width entries (i + 1)) (numbers_below count)
      dealt_next now now_is =
          ap (λ (xs : List IndexView). set xs (shard_at shards e.place) now) is
          ∙ changed (dealt_to width entries i) (dealt_to width entries (i + 1)) count (shard_at shards e.place) now below
          (sym (now_is ∙ ap₂ (λ w (es : List Entry). record { width = w; entries = es })
          (ap (λ (s : IndexView). s.width) own_so_far) grown))
          (λ j other. ap (λ (es : List Entry). record { width = width; entries = es })
          (more_on j false (ne_eqb (shard_at shards e.place) j (λ h. other (sym h))) ∙ append-nil _))

-- ---- at the beginning, and what is read of the ranks

pub none_dealt : (shards : List ℕ) (width : ℕ) (entries : List Entry) (count : ℕ)
    → map (λ _. record { width = width; entries = [] }) (map (λ shard. count_on shard shards) (numbers_below count))
    ≡ map (dealt_to shards width entries 0) (numbers_below count)
none_dealt shards width entries count = each (numbers_below count)
  where
    each : (ns : List ℕ) → map (λ _. record { width = width; entries = [] }) (map (λ shard. count_on shard shards) ns)
        ≡ map (dealt_to shards width entries 0) ns
    each [] = refl
    each (n ∷ ns) = ap (λ (vs : List IndexView). record { width = width; entries = [] } ∷ vs) (each ns)

module _ (shards ranks : List ℕ) (is : ranks ≡ map (rank shards) (numbers_below (length shards))) (place : ℕ)
    (below : place < length shards) where
  pub is_rank : place < length ranks
  is_rank = omega (arith, below, ap length is, long (rank shards) (length shards))

  pub rank_at : (read : ℕ) → read ≡ get_or ranks place read → read ≡ rank shards place
  rank_at read e = e ∙ ap (λ rs. get_or rs place read) is ∙ by_number (rank shards) (length shards) place read below
