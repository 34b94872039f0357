-- A merge of what passes a test of each list is what passes of a merge of the whole lists, where no list
-- descends: those that do not pass can be put in one by one.
use Rattle.std.proofs.Common.{◌≡◌, ◌∙◌, ℕ, zero, suc, List, [], ◌∷◌, ◌++◌, map, Bool, true, false, true≢false, cond, refl, ap, sym, subst, ◌⊎◌, inl, inr, append_assoc}
use Rattle.std.specs.Prelude.{filter, Some, slice_get, slice_set, IsPermutation}
use Rattle.std.specs.Cmp.{IsStrictWeakOrder}
use Rattle.std.specs.List.{AllByRecursion}
use Rattle.std.proofs.lemmas.Option.{same_Some}
use Rattle.std.proofs.lemmas.List.Elements.{filter-append}
use Rattle.aql_meaning.specs.Merges.{NotBefore, Merged}
use Rattle.aql_meaning.specs.Row.{Row}
use Rattle.aql_index.specs.laws.Passing.{InPairs, pairs_filter}
use Rattle.aql_plan.specs.laws.SomeMerge.{not_itself, none_before, still_none}
use Rattle.aql_rules_filter.specs.laws.Permuted.{passed_still}
use Rattle.aql_aggregate.specs.Theorems.{all_of}
use Rattle.aql_rules_cluster.specs.laws.Merging.{merged_permutes}

-- the second list is the first one with x somewhere in it
pub data Into {X : Type 0} (x : X) : List X → List X → Type 0 where
  here : {l : List X} → Into x l (x ∷ l)
  later : {y : X} {l m : List X} → Into x l m → Into x (y ∷ l) (y ∷ m)

-- and so in one of the lists
pub data IntoOne (x : Row) : List (List Row) → List (List Row) → Type 0 where
  this : {l m : List Row} {ls : List (List Row)} → Into x l m → IntoOne x (l ∷ ls) (m ∷ ls)
  next : {l : List Row} {ls ms : List (List Row)} → IntoOne x ls ms → IntoOne x (l ∷ ls) (l ∷ ms)

into_filtered : {X : Type 0} (p : X → Bool) (x : X) → p x ≡ false → {l m : List X} → Into x l m
    → filter p m ≡ filter p l
into_filtered p x h (here {l = l}) = ap (λ b. cond b (x ∷ filter p l) (filter p l)) h
into_filtered p x h (later {y = y} i) = ap (λ zs. cond (p y) (y ∷ zs) zs) (into_filtered p x h i)

into_middle : {X : Type 0} (x : X) (a l : List X) → Into x (a ++ l) (a ++ x ∷ l)
into_middle x [] l = here
into_middle x (y ∷ a) l = later (into_middle x a l)

into_one : (x : Row) (before after : List (List Row)) (a l : List Row)
    → IntoOne x (before ++ (a ++ l) ∷ after) (before ++ (a ++ x ∷ l) ∷ after)
into_one x [] after a l = this (into_middle x a l)
into_one x (m ∷ before) after a l = next (into_one x before after a l)

same_head : (x y : Row) (l m : List Row) → x ∷ l ≡ y ∷ m → x ≡ y
same_head x y l m e = cc

same_tail : (x y : Row) (l m : List Row) → x ∷ l ≡ y ∷ m → l ≡ m
same_tail x y l m e = cc

module _ (lt : Row → Row → Bool) (o : IsStrictWeakOrder lt) where
  -- the row that is taken is still the next one, or x stands before it
  abbrev Step : Row → List (List Row) → List (List Row) → ℕ → Row → List Row → Type 0
  Step x ls ms place row rest =
      ((more : List Row) × (slice_get ms place ≡ Some (row ∷ more))
      × IntoOne x (slice_set ls place rest) (slice_set ms place more))
      ⊎ ((slice_get ms place ≡ Some (x ∷ row ∷ rest)) × (slice_set ms place (row ∷ rest) ≡ ls))

  step_list : (x : Row) (ls : List (List Row)) (row : Row) (rest : List Row) {l m : List Row} → Into x l m
      → l ≡ row ∷ rest
      → ((more : List Row) × (Some m ≡ Some (row ∷ more)) × IntoOne x (rest ∷ ls) (more ∷ ls))
      ⊎ ((Some m ≡ Some (x ∷ row ∷ rest)) × ((row ∷ rest) ∷ ls ≡ l ∷ ls))
  step_list x ls row rest (here {l = l}) e =
      inr (ap (λ (k : List Row). Some (x ∷ k)) e, ap (λ (k : List Row). k ∷ ls) (sym e))
  step_list x ls row rest (later {y = y} {l = l} {m = m} i) e = inl (
    m,
    ap (λ (z : Row). Some (z ∷ m)) (same_head y row l rest e),
    subst (λ (k : List Row). IntoOne x (k ∷ ls) (m ∷ ls)) (same_tail y row l rest e) (this i),
  )

  step : (x : Row) {ls ms : List (List Row)} → IntoOne x ls ms → (place : ℕ) (row : Row) (rest : List Row)
      → slice_get ls place ≡ Some (row ∷ rest) → Step x ls ms place row rest
  step x (this {l = l} {ls = ls} i) zero row rest e = step_list x ls row rest i (same_Some l (row ∷ rest) e)
  step x (this i) (suc place) row rest e = inl (rest, e, this i)
  step x (next {ls = ls} {ms = ms} i) zero row rest e = inl (rest, e, next i)
  step x (next {l = l} {ls = ls} {ms = ms} i) (suc place) row rest e =
      after (step x i place row rest e)
    where
      after : Step x ls ms place row rest → Step x (l ∷ ls) (l ∷ ms) (suc place) row rest
      after (inl k) = inl (k.0, k.1, next k.2)
      after (inr k) = inr (k.0, ap (λ (n : List (List Row)). l ∷ n) k.1)

  -- what no next row comes before, x does not come before
  into_next : (x v : Row) → lt x v ≡ false → {l m : List Row} → Into x l m → NotBefore lt v l
      → NotBefore lt v m
  into_next x v h here n = h
  into_next x v h (later i) n = n

  still_next : (x v : Row) → lt x v ≡ false → {ls ms : List (List Row)} → IntoOne x ls ms
      → AllByRecursion (NotBefore lt v) ls → AllByRecursion (NotBefore lt v) ms
  still_next x v h (this i) n = (into_next x v h i n.0, n.1)
  still_next x v h (next i) n = (n.0, still_next x v h i n.1)

  x_is_next : (x row : Row) → lt row x ≡ false → {ls ms : List (List Row)} → IntoOne x ls ms
      → AllByRecursion (NotBefore lt row) ls → AllByRecursion (NotBefore lt x) ms
  x_is_next x row h {ls = ls} i n = still_next x x (not_itself lt o x) i (still_none lt o x row h ls n)

  -- x comes before what is next: then it stands first in its list
  abbrev Ready : Row → List (List Row) → List (List Row) → Type 0
  Ready x ls ms = (place : ℕ) × (rest : List Row) × (slice_get ms place ≡ Some (x ∷ rest))
      × (slice_set ms place rest ≡ ls)

  ready : (x row : Row) → lt x row ≡ true → {ls ms : List (List Row)} → IntoOne x ls ms
      → AllByRecursion (InPairs lt) ms → AllByRecursion (NotBefore lt row) ls → Ready x ls ms
  ready x row h (this {ls = ls} (here {l = l})) pairs n = (0, l, refl, refl)
  ready x row h (this (later {y = y} {m = m} i)) pairs n =
      absurd (true≢false (sym h ∙ o.chain x y row (behind i pairs.0.0) n.0))
    where
      behind : {l k : List Row} → Into x l k → AllByRecursion (λ w. lt w y ≡ false) k → lt x y ≡ false
      behind here a = a.0
      behind (later j) a = behind j a.1
  ready x row h (next {l = l} i) pairs n =
      let k = ready x row h i pairs.1 n.1 in
      (suc k.0, k.1, k.2, ap (λ (ms : List (List Row)). l ∷ ms) k.3)

  -- where nothing is left, x stands alone
  alone : (x : Row) {ls ms : List (List Row)} → IntoOne x ls ms → AllByRecursion (λ list. list ≡ []) ls
      → Ready x ls ms
  alone x (this (here {l = l})) h = (0, l, refl, refl)
  alone x (this (later {y = y} {l = l} i)) h = cc
  alone x (next {l = l} i) h =
      let k = alone x i h.1 in (suc k.0, k.1, k.2, ap (λ (ms : List (List Row)). l ∷ ms) k.3)

  rest_pairs : (ms : List (List Row)) → AllByRecursion (InPairs lt) ms → (place : ℕ) (row : Row)
      (rest : List Row) → slice_get ms place ≡ Some (row ∷ rest)
      → AllByRecursion (InPairs lt) (slice_set ms place rest)
  rest_pairs [] h place row rest e = tt
  rest_pairs (m ∷ ms) h zero row rest e =
      ((subst (InPairs lt) (same_Some m (row ∷ rest) e) h.0).1, h.1)
  rest_pairs (m ∷ ms) h (suc place) row rest e = (h.0, rest_pairs ms h.1 place row rest e)

  head_pairs : (ms : List (List Row)) → AllByRecursion (InPairs lt) ms → (place : ℕ) (x row : Row)
      (rest : List Row) → slice_get ms place ≡ Some (x ∷ row ∷ rest) → lt row x ≡ false
  head_pairs [] h place x row rest e = cc
  head_pairs (m ∷ ms) h zero x row rest e =
      (subst (InPairs lt) (same_Some m (x ∷ row ∷ rest) e) h.0).0.0
  head_pairs (m ∷ ms) h (suc place) x row rest e = head_pairs ms h.1 place x row rest e

  abbrev With : Row → List (List Row) → List Row → Type 0
  With x ms out = (mid : List Row) × Merged lt ms mid × Into x out mid

  pub put_in : (x : Row) (out : List Row) {ls ms : List (List Row)} → IntoOne x ls ms
      → AllByRecursion (InPairs lt) ms → Merged lt ls out → With x ms out
  put_in x [] {ls = ls} {ms = ms} i pairs m =
      let k = alone x i m in (
        x ∷ [],
        (
          k.0,
          k.1,
          k.2,
          still_next x x (not_itself lt o x) i (none_before lt o x ls m),
          subst (AllByRecursion (λ list. list ≡ [])) (sym k.3) m,
        ),
        here,
      )
  put_in x (row ∷ out) {ls = ls} {ms = ms} i pairs m =
      by (lt x row) refl (step x i m.0 row m.1 m.2)
      (λ more e j. put_in x out j (rest_pairs ms pairs m.0 row more e) m.4)
    where
      first : (place : ℕ) (rest : List Row) → slice_get ms place ≡ Some (x ∷ rest)
          → slice_set ms place rest ≡ ls → lt row x ≡ false → With x ms (row ∷ out)
      first place rest e f h = (
        x ∷ row ∷ out,
        (
          place,
          rest,
          e,
          x_is_next x row h i m.3,
          subst (λ (k : List (List Row)). Merged lt k (row ∷ out)) (sym f) m,
        ),
        here,
      )

      by : (b : Bool) → lt x row ≡ b → Step x ls ms m.0 row m.1
          → ((more : List Row) → slice_get ms m.0 ≡ Some (row ∷ more)
          → IntoOne x (slice_set ls m.0 m.1) (slice_set ms m.0 more)
          → With x (slice_set ms m.0 more) out)
          → With x ms (row ∷ out)
      by true h s rec =
          let k = ready x row h i pairs m.3 in first k.0 k.1 k.2 k.3 (o.one_way x row h)
      by false h (inl k) rec =
          let w = rec k.0 k.1 k.2 in
          (row ∷ w.0, (m.0, k.0, k.1, still_next x row h i m.3, w.1), later w.2)
      by false h (inr k) rec =
          first m.0 (row ∷ m.1) k.0 k.1 (head_pairs ms pairs m.0 x row m.1 k.0)

  -- ---- all that do not pass

  module _ (p : Row → Bool) where
    abbrev Lifted : List (List Row) → List Row → Type 0
    Lifted ms out = (mid : List Row) × Merged lt ms mid × (filter p mid ≡ filter p out)

    without : (a l : List Row) (x : Row) → InPairs lt (a ++ x ∷ l) → InPairs lt (a ++ l)
    without [] l x h = h.1
    without (y ∷ a) l x h = (shorter a h.0, without a l x h.1)
      where
        shorter : (b : List Row) → AllByRecursion (λ w. lt w y ≡ false) (b ++ x ∷ l)
            → AllByRecursion (λ w. lt w y ≡ false) (b ++ l)
        shorter [] k = k.1
        shorter (z ∷ b) k = (k.0, shorter b k.1)

    all_without : (before after : List (List Row)) (a l : List Row) (x : Row)
        → AllByRecursion (InPairs lt) (before ++ (a ++ x ∷ l) ∷ after)
        → AllByRecursion (InPairs lt) (before ++ (a ++ l) ∷ after)
    all_without [] after a l x h = (without a l x h.0, h.1)
    all_without (m ∷ before) after a l x h = (h.0, all_without before after a l x h.1)

    fill_list : (before after : List (List Row)) (a l : List Row) (out : List Row)
        → AllByRecursion (InPairs lt) (before ++ (a ++ l) ∷ after)
        → Merged lt (before ++ (a ++ filter p l) ∷ after) out → Lifted (before ++ (a ++ l) ∷ after) out
    fill_list before after a [] out h m = (out, m, refl)
    fill_list before after a (x ∷ l) out h m = by (p x) refl m
        (λ k. fill_list before after (a ++ x ∷ []) l out
        (subst (λ (n : List Row). AllByRecursion (InPairs lt) (before ++ n ∷ after))
        (sym (append_assoc a (x ∷ []) l)) h) k)
        (fill_list before after a l out (all_without before after a l x h))
      where
        by : (b : Bool) → p x ≡ b
            → Merged lt (before ++ (a ++ cond b (x ∷ filter p l) (filter p l)) ∷ after) out
            → (Merged lt (before ++ ((a ++ x ∷ []) ++ filter p l) ∷ after) out
            → Lifted (before ++ ((a ++ x ∷ []) ++ l) ∷ after) out)
            → (Merged lt (before ++ (a ++ filter p l) ∷ after) out
            → Lifted (before ++ (a ++ l) ∷ after) out)
            → Lifted (before ++ (a ++ x ∷ l) ∷ after) out
        by true e k stay go = subst (λ (n : List Row). Lifted (before ++ n ∷ after) out)
            (append_assoc a (x ∷ []) l)
            (stay (subst (λ (n : List Row). Merged lt (before ++ n ∷ after) out)
            (sym (append_assoc a (x ∷ []) (filter p l))) k))
        by false e k stay go =
            let mid = go k in
            let w = put_in x mid.0 (into_one x before after a l) h mid.1 in
            (w.0, w.1, into_filtered p x e w.2 ∙ mid.2)

    filtered_pairs : (before lists : List (List Row)) → AllByRecursion (InPairs lt) (before ++ lists)
        → AllByRecursion (InPairs lt) (before ++ map (filter p) lists)
    filtered_pairs [] [] h = tt
    filtered_pairs [] (l ∷ lists) h = (pairs_filter lt p l h.0, filtered_pairs [] lists h.1)
    filtered_pairs (m ∷ before) lists h = (h.0, filtered_pairs before lists h.1)

    first_filled : (before : List (List Row)) (l : List Row) (lists : List (List Row))
        → AllByRecursion (InPairs lt) (before ++ l ∷ lists)
        → AllByRecursion (InPairs lt) (before ++ l ∷ map (filter p) lists)
    first_filled [] l lists h = (h.0, filtered_pairs [] lists h.1)
    first_filled (m ∷ before) l lists h = (h.0, first_filled before l lists h.1)

    fill : (before lists : List (List Row)) (out : List Row) → AllByRecursion (InPairs lt) (before ++ lists)
        → Merged lt (before ++ map (filter p) lists) out → Lifted (before ++ lists) out
    fill before [] out h m = (out, m, refl)
    fill before (l ∷ lists) out h m =
        let one = fill_list before (map (filter p) lists) [] l out (first_filled before l lists h) m in
        let more = fill (before ++ l ∷ []) lists one.0
        (subst (AllByRecursion (InPairs lt)) (sym (append_assoc before (l ∷ []) lists)) h)
        (subst (λ (n : List (List Row)). Merged lt n one.0)
        (sym (append_assoc before (l ∷ []) (map (filter p) lists))) one.1) in (
          more.0,
          subst (λ (n : List (List Row)). Merged lt n more.0) (append_assoc before (l ∷ []) lists) more.1,
          more.2 ∙ one.2,
        )

    all_filtered : (lists : List (List Row)) → all_of (map (filter p) lists) ≡ filter p (all_of lists)
    all_filtered [] = refl
    all_filtered (l ∷ lists) = ap (λ rows. filter p l ++ rows) (all_filtered lists)
        ∙ sym (filter-append p l (all_of lists))

    -- a merge of what passes is what passes of a merge
    pub filter_of_merge : (lists : List (List Row)) (out : List Row) → AllByRecursion (InPairs lt) lists
        → Merged lt (map (filter p) lists) out
        → (mid : List Row) × Merged lt lists mid × (out ≡ filter p mid)
    filter_of_merge lists out h m =
        let k = fill [] lists out h m in
        let passed = passed_still p (all_of lists) out
        (subst (λ (rows : List Row). IsPermutation rows out) (all_filtered lists)
        (merged_permutes lt out (map (filter p) lists) m)) in
        (k.0, k.1, sym (k.2 ∙ passed))
