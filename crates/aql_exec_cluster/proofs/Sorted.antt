-- Queues of rows, and the merge of them.
use Rattle.std.proofs.Common.{◌≡◌, ℕ, zero, suc, ◌+◌, ◌<◌, ◌≤◌, ◌⊎◌, ◌++◌, inl, inr, List, [], ◌∷◌, length, map, min, append_assoc, get_or, Bool, true, false, Option, Some, None, refl, sym, ap, ◌∙◌, subst, arith}
use Rattle.std.specs.Prelude.{slice_set, MatchOption}
use Rattle.std.proofs.lemmas.Option.{slice_get_read}
use Rattle.std.specs.Cmp.{IsStrictWeakOrder}
use Rattle.std.specs.Ordering.{is_lt}
use Rattle.std.specs.List.{All}
use Rattle.std.proofs.lemmas.Bool.{cases_eq, cases_lt}
use Rattle.std.proofs.lemmas.List.{length-set, get_or_default, nil_from_length}
use Rattle.std.proofs.lemmas.List.Elements.{All-get_or}
use Rattle.std.proofs.lemmas.List.Sums.{sum_by-cons}
use Rattle.aql_value.specs.View.{datums_in}
use Rattle.aql_tree.specs.Tree.{ExprTrees}
use Rattle.aql_meaning.specs.Row.{Row}
use Rattle.aql_meaning.specs.AtRows.{row_before, keys_of}
use Rattle.aql_meaning.specs.Clauses.{keys_cmp}
use Rattle.aql_meaning.specs.laws.SomeOrder.{keyed_order}
use Rattle.aql_block.specs.declared.calls.Progress.{Progress}
use Rattle.aql_block.specs.declared.calls.Step.{Step}
use Rattle.aql_exec.specs.Rests.{Counts, Exact, Rest, Prefixed, IsOver, with_rows}
use Rattle.aql_exec.specs.Counting.{nothing}
use Rattle.aql_exec.specs.Steps.{given, reported, Continues}
use Rattle.aql_exec.specs.Operators.{MergedOf, counted}
use Rattle.aql_exec_cluster.specs.declared.queue.Queue.{Queue}
use Rattle.aql_exec_cluster.specs.Standing.{standing, is_done, after_answer}
use Rattle.aql_exec_cluster.specs.Queues.{rows_left, IsKeyed, left_at, count_left, lists_of, IsFirst, FirstUpTo, AreReady, Merges, Popped, HasRegisters}
use Rattle.aql_exec_cluster.specs.SortedGathering.{gives_sorted}
use Rattle.aql_exec_cluster.specs.laws.Counts.{prefixed_counted, none_counted}
use Rattle.aql_exec_cluster.specs.laws.Merging.{same_family, none_merged}
use Rattle.aql_exec_cluster.specs.laws.Taking.{same_inputs}
use Rattle.aql_exec_cluster.proofs.Stands.{woken}

-- ---- queues by number

not_both : (xs : List Row) (x : Row) (rest : List Row) → xs ≡ [] → xs ≡ x ∷ rest → ⊥
not_both xs x rest e f = absurd (cc)

pub left_there : (queues : List Queue) (k : ℕ) (q : Queue) → k < length queues
    → left_at (slice_set queues k q) k ≡ rows_left q
left_there [] k q l = absurd (omega (arith, l))
left_there (p ∷ ps) zero q l = refl
left_there (p ∷ ps) (suc k) q l = left_there ps k q (omega (arith, l))

pub left_elsewhere : (queues : List Queue) (k j : ℕ) (q : Queue) → (j ≡ k → ⊥)
    → left_at (slice_set queues k q) j ≡ left_at queues j
left_elsewhere [] k j q d = refl
left_elsewhere (p ∷ ps) zero zero q d = absurd (d refl)
left_elsewhere (p ∷ ps) zero (suc j) q d = refl
left_elsewhere (p ∷ ps) (suc k) zero q d = refl
left_elsewhere (p ∷ ps) (suc k) (suc j) q d = left_elsewhere ps k j q (λ e. d (ap suc e))

-- the queue that is found at a place
pub left_read : (queues : List Queue) (k : ℕ) (q : Queue) → k < length queues → q ≡ get_or queues k q
    → left_at queues k ≡ rows_left q
left_read [] k q l e = absurd (omega (arith, l))
left_read (p ∷ ps) zero q l e = ap rows_left (sym e)
left_read (p ∷ ps) (suc k) q l e = left_read ps k q (omega (arith, l)) e

-- its keys are those of its first row, and its variables those of all
pub keyed_read : (es : ExprTrees) (queues : List Queue) (k : ℕ) (q : Queue) → All (IsKeyed es) queues
    → k < length queues → q ≡ get_or queues k q → IsKeyed es q
keyed_read es queues k q h l e =
    subst (λ (z : Queue). IsKeyed es z) (sym e) (All-get_or (IsKeyed es) queues k q l h)

pub registers_read : (registers : List ℕ) (queues : List Queue) (k : ℕ) (q : Queue)
    → HasRegisters registers queues k → k < length queues → q ≡ get_or queues k q
    → q.block.registers ≡ registers
registers_read registers queues k q h l e =
    subst (λ o. MatchOption o ⊥ (λ (z : Queue). z.block.registers ≡ registers))
    (slice_get_read queues (length queues) k q refl l e) h

pub registers_are : (registers : List ℕ) (queues : List Queue) (k : ℕ) (q : Queue) → k < length queues
    → q ≡ get_or queues k q → q.block.registers ≡ registers → HasRegisters registers queues k
registers_are registers queues k q l e h =
    subst (λ o. MatchOption o ⊥ (λ (z : Queue). z.block.registers ≡ registers))
    (sym (slice_get_read queues (length queues) k q refl l e)) h

pub left_past : (queues : List Queue) (k : ℕ) → length queues ≤ k → left_at queues k ≡ []
left_past [] k l = refl
left_past (p ∷ ps) zero l = absurd (omega (arith, l))
left_past (p ∷ ps) (suc k) l = left_past ps k (omega (arith, l))

pub count_set : (queues : List Queue) (k : ℕ) (q : Queue) → k < length queues
    → count_left (slice_set queues k q) + length (left_at queues k) ≡ count_left queues + length (rows_left q)
count_set [] k q l = absurd (omega (arith, l))
count_set (p ∷ ps) zero q l =
    let a = sum_by-cons (λ (z : Queue). length (rows_left z)) q ps in
    let b = sum_by-cons (λ (z : Queue). length (rows_left z)) p ps in
    omega (arith, a, b)
count_set (p ∷ ps) (suc k) q l =
    let a = sum_by-cons (λ (z : Queue). length (rows_left z)) p (slice_set ps k q) in
    let b = sum_by-cons (λ (z : Queue). length (rows_left z)) p ps in
    let i = count_set ps k q (omega (arith, l)) in
    omega (arith, a, b, i)

-- the first row of a queue was moved out
pub popped_by : (queues : List Queue) (k : ℕ) (q q' : Queue) (row : Row) → k < length queues
    → q ≡ get_or queues k q → rows_left q ≡ row ∷ rows_left q' → Popped k row queues (slice_set queues k q')
popped_by queues k q q' row l e h =
    let here : left_at queues k ≡ row ∷ rows_left q' = left_read queues k q l e ∙ h in
    let n = ap length here in
    let s = count_set queues k q' l in
    record {
      count = length-set queues k q';
      here = here ∙ ap (λ z. row ∷ z) (sym (left_there queues k q' l));
      others = λ j d. left_elsewhere queues k j q' d;
      left = omega (arith, n, s);
    }

pub none_left : (queues : List Queue) → ((k : ℕ) → left_at queues k ≡ []) → count_left queues ≡ 0
none_left [] h = refl
none_left (p ∷ ps) h =
    let a = sum_by-cons (λ (z : Queue). length (rows_left z)) p ps in
    let b = ap length (h 0) in
    let i = none_left ps (λ k. h (suc k)) in
    omega (arith, a, b, i)

-- queues without rows
pub empty_push : (queues : List Queue) (q : Queue) → rows_left q ≡ [] → ((j : ℕ) → left_at queues j ≡ [])
    → (j : ℕ) → left_at (queues ++ q ∷ []) j ≡ []
empty_push [] q e h zero = e
empty_push [] q e h (suc j) = refl
empty_push (p ∷ ps) q e h zero = h zero
empty_push (p ∷ ps) q e h (suc j) = empty_push ps q e (λ i. h (suc i)) j

pub none_keyed : (es : ExprTrees) (queues : List Queue) → ((k : ℕ) → left_at queues k ≡ [])
    → All (IsKeyed es) queues
none_keyed es queues h = λ k d l row rows e.
    let q = get_or queues k d in
    let none : rows_left q ≡ [] =
    sym (left_read queues k q l (get_or_default queues k d q l)) ∙ h k in
    absurd (not_both (rows_left q) row rows none e)

pub all_empty : (queues : List Queue) (n : ℕ) → length queues ≤ n → ((j : ℕ) → j < n → left_at queues j ≡ [])
    → (j : ℕ) → left_at queues j ≡ []
all_empty queues n l h j = by (cases_lt j (length queues))
  where
    by : (j < length queues) ⊎ (length queues ≤ j) → left_at queues j ≡ []
    by (inl m) = h j (omega (arith, l, m))
    by (inr m) = left_past queues j m

-- where a queue has a row, so many are counted
pub count_more : (queues : List Queue) (k count more total : ℕ) → more ≡ length (left_at queues k)
    → total ≡ min (count + more) 18446744073709551615
    → ((j : ℕ) → j < k → 1 ≤ length (left_at queues j) → 1 ≤ count)
    → (j : ℕ) → j < k + 1 → 1 ≤ length (left_at queues j) → 1 ≤ total
count_more queues k count more total m t h j l some = by (cases_eq j k)
  where
    by : (j ≡ k) ⊎ (j ≡ k → ⊥) → 1 ≤ total
    by (inl e) =
        (let n : length (left_at queues j) ≡ length (left_at queues k) = ap (λ z. length (left_at queues z))
        e in
        omega (arith, m, t, some, n))
    by (inr d) = (let n = h j (omega (arith, l, d)) some in omega (arith, t, n))

pub count_all : (queues : List Queue) (n count : ℕ) → length queues ≤ n
    → ((j : ℕ) → j < n → 1 ≤ length (left_at queues j) → 1 ≤ count)
    → (j : ℕ) → 1 ≤ length (left_at queues j) → 1 ≤ count
count_all queues n count l h j some = by (cases_lt j (length queues))
  where
    by : (j < length queues) ⊎ (length queues ≤ j) → 1 ≤ count
    by (inl m) = h j (omega (arith, l, m)) some
    by (inr m) = (let none = ap length (left_past queues j m) in absurd (omega (arith, some, none)))

-- where no row is left, each input is done
pub all_done : (inputs woke : List Progress) (queues : List Queue) → woke ≡ map after_answer inputs
    → length inputs ≡ length queues → AreReady inputs queues → ((k : ℕ) → left_at queues k ≡ [])
    → (k : ℕ) → k < length inputs → is_done (standing woke k) ≡ true
all_done inputs woke queues e n ready none k l =
    (woken inputs woke e k).1 ∙ ready k (subst (λ z. k < z) n l) (none k)

-- where there is none at all, none has one
pub all_gone : (queues : List Queue) → count_left queues ≡ 0 → (k : ℕ) → left_at queues k ≡ []
all_gone [] e k = refl
all_gone (p ∷ ps) e zero =
    let a = sum_by-cons (λ (z : Queue). length (rows_left z)) p ps in
    nil_from_length (rows_left p) (omega (arith, a, e))
all_gone (p ∷ ps) e (suc k) =
    let a = sum_by-cons (λ (z : Queue). length (rows_left z)) p ps in
    all_gone ps (omega (arith, a, e)) k

-- ---- the first row

pub some_row : (xs : List Row) → 1 ≤ length xs → (x : Row) × (rest : List Row) × (xs ≡ x ∷ rest)
some_row [] l = absurd (omega (arith, l))
some_row (x ∷ xs) l = (x, xs, refl)

same_head : (x y : Row) (xs ys : List Row) → x ∷ xs ≡ y ∷ ys → x ≡ y
same_head x y xs ys e = cc

-- a place in front of the next one is in front of this one or it is this one
below_or_here : (j n : ℕ) → j < n + 1 → (j ≡ n) ⊎ (j < n)
below_or_here j n l = by (cases_eq j n)
  where
    by : (j ≡ n) ⊎ (j ≡ n → ⊥) → (j ≡ n) ⊎ (j < n)
    by (inl e) = inl e
    by (inr d) = inr (omega (arith, l, d))

module _ (directions : List Bool) (es : ExprTrees) where
  abbrev before : Row → Row → Bool
  before x y = row_before directions es x y

  order : IsStrictWeakOrder (row_before directions es)
  order = keyed_order directions (keys_of es)

  never_itself : (x : Row) → row_before directions es x x ≡ false
  never_itself x = by (row_before directions es x x) refl
    where
      by : (b : Bool) → row_before directions es x x ≡ b → row_before directions es x x ≡ false
      by true e = order.one_way x x e
      by false e = e

  -- the keys of two queues say which first row comes first
  pub keys_tell : (p q : Queue) (x y : Row) (xs ys : List Row) → IsKeyed es p → IsKeyed es q
      → rows_left p ≡ x ∷ xs → rows_left q ≡ y ∷ ys
      → is_lt (keys_cmp directions (datums_in p.keys.items) (datums_in q.keys.items))
      ≡ row_before directions es x y
  keys_tell p q x y xs ys a b e f = rw (a x xs e, b y ys f) refl

  -- one queue more has no row
  pub none_more : (queues : List Queue) (other : ℕ) (o : Option ℕ) → left_at queues other ≡ []
      → FirstUpTo (row_before directions es) queues other o
      → FirstUpTo (row_before directions es) queues (other + 1) o
  none_more queues other None none h = λ j l. by j (below_or_here j other l)
    where
      by : (j : ℕ) → (j ≡ other) ⊎ (j < other) → left_at queues j ≡ []
      by j (inl e) = ap (left_at queues) e ∙ none
      by j (inr l) = h j l
  none_more queues other (Some k) none h = record {
    within = h.within;
    row = h.row;
    rows = h.rows;
    here = h.here;
    least = λ j z zs l e. by j z zs e (below_or_here j other l);
  }
    where
      by : (j : ℕ) (z : Row) (zs : List Row) → left_at queues j ≡ z ∷ zs → (j ≡ other) ⊎ (j < other)
          → row_before directions es z h.row ≡ false
      by j z zs e (inl q) = absurd (not_both (left_at queues j) z zs (ap (left_at queues) q ∙ none) e)
      by j z zs e (inr l) = h.least j z zs l e

  -- its row is the only one
  pub first_one : (queues : List Queue) (other : ℕ) (x : Row) (xs : List Row) → other < length queues
      → left_at queues other ≡ x ∷ xs → ((j : ℕ) → j < other → left_at queues j ≡ [])
      → IsFirst (row_before directions es) queues (other + 1) other
  first_one queues other x xs l here none = record {
    within = l;
    row = x;
    rows = xs;
    here = here;
    least = λ j z zs m e. by j z zs e (below_or_here j other m);
  }
    where
      by : (j : ℕ) (z : Row) (zs : List Row) → left_at queues j ≡ z ∷ zs → (j ≡ other) ⊎ (j < other)
          → row_before directions es z x ≡ false
      by j z zs e (inl q) =
          subst (λ (y : Row). row_before directions es y x ≡ false)
          (same_head x z xs zs (sym here ∙ sym (ap (left_at queues) q) ∙ e)) (never_itself x)
      by j z zs e (inr m) = absurd (not_both (left_at queues j) z zs (none j m) e)

  -- its row comes first
  pub now_first : (queues : List Queue) (other best : ℕ) (x : Row) (xs : List Row) → other < length queues
      → (f : IsFirst (row_before directions es) queues other best) → left_at queues other ≡ x ∷ xs
      → row_before directions es x f.row ≡ true → IsFirst (row_before directions es) queues (other + 1) other
  now_first queues other best x xs l f here less = record {
    within = l;
    row = x;
    rows = xs;
    here = here;
    least = λ j z zs m e. by j z zs e (below_or_here j other m);
  }
    where
      by : (j : ℕ) (z : Row) (zs : List Row) → left_at queues j ≡ z ∷ zs → (j ≡ other) ⊎ (j < other)
          → row_before directions es z x ≡ false
      by j z zs e (inl q) =
          subst (λ (y : Row). row_before directions es y x ≡ false)
          (same_head x z xs zs (sym here ∙ sym (ap (left_at queues) q) ∙ e)) (never_itself x)
      by j z zs e (inr m) =
          order.chain z f.row x (f.least j z zs m e) (order.one_way x f.row less)

  -- its row does not come first
  pub still_first : (queues : List Queue) (other best : ℕ) (x : Row) (xs : List Row)
      → (f : IsFirst (row_before directions es) queues other best) → left_at queues other ≡ x ∷ xs
      → row_before directions es x f.row ≡ false → IsFirst (row_before directions es) queues (other + 1) best
  still_first queues other best x xs f here not_less = record {
    within = f.within;
    row = f.row;
    rows = f.rows;
    here = f.here;
    least = λ j z zs m e. by j z zs e (below_or_here j other m);
  }
    where
      by : (j : ℕ) (z : Row) (zs : List Row) → left_at queues j ≡ z ∷ zs → (j ≡ other) ⊎ (j < other)
          → row_before directions es z f.row ≡ false
      by j z zs e (inl q) =
          subst (λ (y : Row). row_before directions es y f.row ≡ false)
          (same_head x z xs zs (sym here ∙ sym (ap (left_at queues) q) ∙ e)) not_less
      by j z zs e (inr m) = f.least j z zs m e

-- ---- merges

-- the row of a queue that comes first, where each input that is not done has a row
pub merges_one : (before : Row → Row → Bool) (inputs : List Progress) (queues after : List Queue) (n k : ℕ)
    (row : Row) → n ≡ length queues → AreReady inputs queues → IsFirst before queues (length queues) k
    → Popped k row queues after → Merges before n inputs after (row ∷ []) queues
merges_one before inputs queues after n k row en ready f p = λ ins rest done m. (
  k,
  lists_of after ins,
  subst (λ z. k < z) (sym en) f.within,
  ap (λ z. z ++ (ins k).rows) p.here,
  (λ j d. ap (λ z. z ++ (ins j).rows) (p.others j d)),
  (λ j y ys l e. least ins done j y ys l e (left_at queues j) refl),
  m,
)
  where
    same : f.row ≡ row
    same = same_head f.row row f.rows (left_at after k) (sym f.here ∙ p.here)

    least : (ins : ℕ → Rest) → ((j : ℕ) → j < n → is_done (standing inputs j) ≡ true → (ins j).rows ≡ [])
        → (j : ℕ) (y : Row) (ys : List Row) → j < n → lists_of queues ins j ≡ y ∷ ys → (left : List Row)
        → left_at queues j ≡ left → before y row ≡ false
    least ins done j y ys l e [] q =
        absurd (not_both (lists_of queues ins j) y ys
        (ap (λ z. z ++ (ins j).rows) q ∙ done j l (ready j (subst (λ z. j < z) en l) q)) e)
    least ins done j y ys l e (z ∷ zs) q =
        subst (λ (x : Row). before y x ≡ false) same
        (subst (λ (x : Row). before x f.row ≡ false)
        (same_head z y (zs ++ (ins j).rows) ys (sym (ap (λ z. z ++ (ins j).rows) q) ∙ e))
        (f.least j z zs (subst (λ z. j < z) en l) q))

pub merges_none : (before : Row → Row → Bool) (inputs : List Progress) (queues : List Queue) (n : ℕ)
    → Merges before n inputs queues [] queues
merges_none before inputs queues n = λ ins rest done m. m

pub merges_then : (before : Row → Row → Bool) (inputs : List Progress) (queues after later : List Queue)
    (n : ℕ) (out more : List Row) → Merges before n inputs after out queues → Merges before n inputs later
    more after
    → Merges before n inputs later (out ++ more) queues
merges_then before inputs queues after later n out more a b = λ ins rest done m.
    subst (λ z. MergedOf before n (lists_of queues ins) z) (sym (append_assoc out more rest))
    (a ins (more ++ rest) done (b ins rest done m))

-- ---- what is given

-- the step of a merge
pub gave_sorted : {e : Exact} (directions : List Bool) (es : ExprTrees) (n n' : ℕ) (inputs : List Progress)
    (queues after : List Queue) (skipped : List Row) (s : ℕ → List Row) (ins' ins : ℕ → Rest) (step : Step)
    → ((j : ℕ) → length (s j) ≡ 0) → ((j : ℕ) → ins' j ≡ with_rows (s j) (ins j)) → n' ≡ n
    → ((k : ℕ) → k < n → is_done (standing inputs k) ≡ true → (ins' k).rows ≡ [])
    → length skipped ≡ step.skipped
    → Merges (row_before directions es) n inputs after (skipped ++ given step) queues
    → Continues e (gives_sorted directions es n queues ins') nothing step
    (gives_sorted directions es n' after ins)
gave_sorted directions es n n' inputs queues after skipped s ins' ins step l eqs en done len merges r h =
    let same = same_inputs s ins ins' l eqs in
    let now = subst (λ (z : ℕ → Rest). gives_sorted directions es n after z r) (sym same)
    (subst (λ z. gives_sorted directions es z after ins r) en h) in (
      skipped,
      record { rows = (skipped ++ given step) ++ r.rows; counts = r.counts },
      len,
      record { rows = refl; counts = λ c. omega arith; exact = λ c i. omega arith },
      (merges ins' r.rows done now.0, now.1),
    )

-- nothing is given
pub still_sorted : (directions : List Bool) (es : ExprTrees) (n n' : ℕ) (queues : List Queue)
    (s : ℕ → List Row) (ins' ins : ℕ → Rest) (r : Rest) → ((j : ℕ) → length (s j) ≡ 0)
    → ((j : ℕ) → ins' j ≡ with_rows (s j) (ins j)) → n' ≡ n → gives_sorted directions es n' queues ins r
    → gives_sorted directions es n queues ins' r
still_sorted directions es n n' queues s ins' ins r l eqs en h =
    subst (λ (z : ℕ → Rest). gives_sorted directions es n queues z r) (sym (same_inputs s ins ins' l eqs))
    (subst (λ z. gives_sorted directions es z queues ins r) en h)

-- a step that tells of nothing, in the place of one that did not either
pub quiet_step : {e : Exact} {before after : Rest → Type 0} (step step' : Step) → reported step ≡ 0
    → step'.skipped ≡ 0 → given step' ≡ [] → Continues e before nothing step after
    → Continues e before nothing step' after
quiet_step {e = e} step step' none s g k r h =
    let x = k r h in
    let len = x.2 in
    let skipped : x.0 ≡ [] = nil_from_length x.0 (omega (arith, len, none)) in
    let rows : given step ≡ [] = nil_from_length (given step) (omega (arith, none)) in (
      [],
      x.1,
      sym s,
      subst (λ (z : List Row). Prefixed e z nothing r x.1)
          (ap (λ z. z ++ given step) skipped ∙ rows ∙ sym g) x.3,
      x.4,
    )

-- a step that was taken of an input that had no row
pub sorted_taken : {e : Exact} (directions : List Bool) (es : ExprTrees) (n k : ℕ) (queues : List Queue)
    (queue : Queue) (rows : List Row) (d : Counts) (ins' ins : ℕ → Rest) (r : Rest) → k < n
    → n ≡ length queues → left_at queues k ≡ [] → rows_left queue ≡ rows → Prefixed e rows d (ins' k) (ins k)
    → ((j : ℕ) → (j ≡ k → ⊥) → ins' j ≡ ins j)
    → gives_sorted directions es n (slice_set queues k queue) ins' r
    → (q : Rest) × Prefixed e [] d r q × gives_sorted directions es n queues ins q
sorted_taken directions es n k queues queue rows d ins' ins r l en none all p o h =
    let within : k < length queues = subst (λ z. k < z) en l in
    let lists : lists_of (slice_set queues k queue) ins' ≡ lists_of queues ins =
    same_family k (lists_of (slice_set queues k queue) ins') (lists_of queues ins)
    (ap (λ z. z ++ (ins' k).rows) (left_there queues k queue within ∙ all) ∙ sym p.rows
    ∙ sym (ap (λ z. z ++ (ins k).rows) none))
    (λ j q. ap (λ z. z ++ (ins' j).rows) (left_elsewhere queues k j queue q)
    ∙ ap (λ (z : Rest). left_at queues j ++ z.rows) (o j q)) in (
      record { rows = r.rows; counts = counted n ins },
      prefixed_counted n k rows d ins' ins r l p o h.1,
      (subst (λ (z : ℕ → List Row). MergedOf (row_before directions es) n z r.rows) lists h.0, λ c. refl),
    )

-- no row is there and none comes
pub none_sorted : {e : Exact} (directions : List Bool) (es : ExprTrees) (n : ℕ) (queues : List Queue)
    (ins : ℕ → Rest) (r : Rest) → ((k : ℕ) → left_at queues k ≡ []) → ((k : ℕ) → k < n → IsOver e (ins k))
    → gives_sorted directions es n queues ins r → IsOver e r
none_sorted directions es n queues ins r none over h = (
  none_merged (row_before directions es) n (lists_of queues ins) r.rows
      (λ k l. ap (λ z. z ++ (ins k).rows) (none k) ∙ (over k l).0) h.0,
  λ c x. h.1 c ∙ none_counted n ins c (λ k l. (over k l).1 c x),
)
