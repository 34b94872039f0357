-- How counts rise one after another, and what is exact.
use Rattle.std.proofs.Common.{◌≡◌, ℕ, ◌+◌, ◌≤◌, ◌++◌, ◌⊎◌, inl, inr, List, [], ◌∷◌, min, refl, ap, ◌∙◌, arith}
use Rattle.aql_meaning.specs.Row.{Row}
use Rattle.aql_block.specs.declared.tally.Tally.{Tally}
use Rattle.aql_block.specs.declared.calls.Step.{Step}
use Rattle.aql_exec.specs.Lines.{Talk, fresh, asked, answered, Line, opened_by, closed_by}
use Rattle.aql_block.specs.declared.calls.Progress.TheVariants.{Waiting, HasMore, Done}
use Rattle.std.proofs.lemmas.Bool.{cases_eq}
use Rattle.aql_exec.specs.Rests.{Counter, Counts, Exact, Within, all_exact, Rest, Prefixed}
use Rattle.aql_exec.specs.Rising.{Rose, Rises, TallyRose}
use Rattle.aql_exec.specs.Links.{Taken}
use Rattle.aql_exec.specs.Promises.{IsStill}
use Rattle.aql_exec.specs.declared.turns.Message.{Message}
use Rattle.aql_exec.specs.Counting.{counts, nothing}
use Rattle.aql_exec.specs.Steps.{Continues}
use Rattle.aql_exec.specs.declared.surroundings.Surroundings

-- ---- a count

pub rose_none : (a : ℕ) → Rose a a 0
rose_none a = (omega arith, omega arith, inl (omega arith))

pub rose_same : (a b : ℕ) → b ≡ a → Rose a b 0
rose_same a b e = (omega (arith, e), omega (arith, e), inl (omega (arith, e)))

pub rose_then : (a b c m n : ℕ) → Rose a b m → Rose b c n → Rose a c (m + n)
rose_then a b c m n x y =
    let x0 = x.0 in let x1 = x.1 in let y0 = y.0 in let y1 = y.1 in
    (omega (arith, x0, y0), omega (arith, x1, y1), reach x.2 y.2)
  where
    reach : ((a + m ≤ b) ⊎ (18446744073709551615 ≤ b)) → ((b + n ≤ c) ⊎ (18446744073709551615 ≤ c))
        → ((a + (m + n) ≤ c) ⊎ (18446744073709551615 ≤ c))
    reach (inl i) (inl j) = inl (omega (arith, i, j))
    reach (inr i) (inl j) = (let y0 = y.0 in inr (omega (arith, i, y0)))
    reach i (inr j) = inr j

saturates : (a m : ℕ) → (a + m ≤ 18446744073709551615) ⊎ (18446744073709551615 ≤ a + m)
    → ((a + m ≤ min (a + m) 18446744073709551615) ⊎ (18446744073709551615 ≤ min (a + m) 18446744073709551615))
saturates a m (inl i) = inl (omega (arith, i))
saturates a m (inr i) = inr (omega (arith, i))

pub rose_saturated : (a b m : ℕ) → a ≤ 18446744073709551615 → b ≡ min (a + m) 18446744073709551615
    → Rose a b m
rose_saturated a b m l e =
    (omega (arith, l, e), omega (arith, e), rw e (saturates a m (grind arith)))

-- ---- all counts

module _ {W : Type 0} (p : Surroundings.Ghosts W) {x : Counter → Type 0} where
  -- nothing was counted
  pub rises_still : (t : Tally) (w w' : W) → p.counted w' ≡ p.counted w
      → ((l : ℕ) → p.flight w' l ≡ p.flight w l) → Rises p x t w t w' nothing
  rises_still t w w' c f = record {
    added = nothing;
    most = λ k. omega arith;
    exact = λ k i. omega arith;
    full = rose_none _;
    index = rose_none _;
    dropped = rose_none _;
    own_full = rose_same _ _ (ap (λ (z : Tally). z.scanned_full) c);
    own_index = rose_same _ _ (ap (λ (z : Tally). z.scanned_index) c);
    sent = λ l. (let e = ap (λ (z : Line). z.sent) (f l) in omega (arith, e));
    opened = λ l. (let e = ap (λ (z : Line). opened_by z.talk) (f l) in omega (arith, e));
    closed = λ l. (let e = ap (λ (z : Line). closed_by z.talk z.flying) (f l) in omega (arith, e));
  }

  pub rises_none : (t : Tally) (w : W) → Rises p x t w t w nothing
  rises_none t w = rises_still t w w refl (λ l. refl)

  -- the tally alone rose, by rows that a filter dropped
  pub rises_dropped : (t t' : Tally) (w : W) (n : ℕ) → TallyRose t t' 0 0 n
      → Rises p x t w t' w (counts 0 0 n)
  rises_dropped t t' w n h = record {
    added = counts 0 0 n;
    most = λ k. omega arith;
    exact = λ k i. omega arith;
    full = h.0;
    index = h.1;
    dropped = h.2;
    own_full = rose_none _;
    own_index = rose_none _;
    sent = λ l. omega arith;
    opened = λ l. omega arith;
    closed = λ l. omega arith;
  }

pub rises_weaker : {W : Type 0} (p : Surroundings.Ghosts W) {x y : Counter → Type 0} (t t' : Tally) (w w' : W)
    (d : Counts) → ((c : Counter) → y c → x c) → Rises p x t w t' w' d → Rises p y t w t' w' d
rises_weaker p t t' w w' d k h = record {
  added = h.added;
  most = h.most;
  exact = λ c i. h.exact c (k c i);
  full = h.full;
  index = h.index;
  dropped = h.dropped;
  own_full = h.own_full;
  own_index = h.own_index;
  sent = h.sent;
  opened = h.opened;
  closed = h.closed;
}

pub rises_then : {W : Type 0} (p : Surroundings.Ghosts W) {x : Counter → Type 0} (t t' t'' : Tally)
    (w w' w'' : W) (d d' : Counts) → Rises p x t w t' w' d → Rises p x t' w' t'' w'' d'
    → Rises p x t w t'' w'' (λ c. d c + d' c)
rises_then p t t' t'' w w' w'' d d' a b = record {
  added = λ c. a.added c + b.added c;
  most = λ c. (let i = a.most c in let j = b.most c in omega (arith, i, j));
  exact = λ c h. (let i = a.exact c h in let j = b.exact c h in omega (arith, i, j));
  full = rose_then _ _ _ _ _ a.full b.full;
  index = rose_then _ _ _ _ _ a.index b.index;
  dropped = rose_then _ _ _ _ _ a.dropped b.dropped;
  own_full = rose_then _ _ _ _ _ a.own_full b.own_full;
  own_index = rose_then _ _ _ _ _ a.own_index b.own_index;
  sent = λ l. (let i = a.sent l in let j = b.sent l in omega (arith, i, j));
  opened = λ l. (let i = a.opened l in let j = b.opened l in omega (arith, i, j));
  closed = λ l. (let i = a.closed l in let j = b.closed l in omega (arith, i, j));
}

-- ---- worlds in which nothing moved

module _ {W : Type 0} (p : Surroundings.Ghosts W) where
  pub still_same : (w : W) → IsStill p w w
  still_same w = record {
    stock = refl;
    deliveries = refl;
    batch = refl;
    links = refl;
    flight = λ l. refl;
  }

  pub still_then : (u v w : W) → IsStill p u v → IsStill p v w → IsStill p u w
  still_then u v w a b = record {
    stock = b.stock ∙ a.stock;
    deliveries = b.deliveries ∙ a.deliveries;
    batch = b.batch ∙ a.batch;
    links = b.links ∙ a.links;
    flight = λ l. b.flight l ∙ a.flight l;
  }

-- ---- a message that is taken

-- where something is in flight, a link is not closed
pub unclosed : {M : Type 0} (talk : Talk) (older newer : List M) (m : M) → closed_by talk (older ++ m ∷ newer) ≡ 0
unclosed fresh older newer m = refl
unclosed (asked c) older newer m = refl
unclosed (answered Waiting) older newer m = refl
unclosed (answered HasMore) older newer m = refl
unclosed (answered Done) [] newer m = refl
unclosed (answered Done) (n ∷ older) newer m = refl

-- a message was taken, whoever took it
pub rises_taken : {W : Type 0} (p : Surroundings.Ghosts W) {x : Counter → Type 0} (t : Tally) (w w' : W)
    (l : ℕ) (m : Message) → Taken p w w' l m → Rises p x t w t w' nothing
rises_taken p t w w' l m k = record {
  added = nothing;
  most = λ k. omega arith;
  exact = λ k i. omega arith;
  full = rose_none _;
  index = rose_none _;
  dropped = rose_none _;
  own_full = rose_same _ _ (ap (λ (z : Tally). z.scanned_full) k.counted_kept);
  own_index = rose_same _ _ (ap (λ (z : Tally). z.scanned_index) k.counted_kept);
  sent = λ j. (let e = k.sent_kept j in omega (arith, e));
  opened = λ j. (let e = ap opened_by (k.talk_kept j) in omega (arith, e));
  closed = λ j. elim (cases_eq j l) [
    | inl e ↦ (
        let before = ap (λ i. closed_by (p.flight w i).talk (p.flight w i).flying) e
        ∙ ap (closed_by (p.flight w l).talk) k.was
        ∙ unclosed (p.flight w l).talk k.older k.newer m in omega (arith, before))
    | inr d ↦ (
        let same = ap (λ (z : Line). closed_by z.talk z.flying) (k.others j d) in omega (arith, same))
  ];
}

-- ---- rests

pub prefixed_none : {e : Exact} (r : Rest) → Prefixed e [] nothing r r
prefixed_none r = record { rows = refl; counts = λ c. omega arith; exact = λ c i. omega arith }

pub prefixed_weaker : {e f : Exact} (s : List Row) (d : Counts) (r b : Rest) → Within e f → Prefixed f s d r b
    → Prefixed e s d r b
prefixed_weaker s d r b k h =
    record { rows = h.rows; counts = h.counts; exact = λ c i. h.exact c (k c i) }

pub prefixed_all : {e : Exact} (s : List Row) (d : Counts) (r b : Rest) → Prefixed all_exact s d r b
    → Prefixed e s d r b
prefixed_all s d r b h = record { rows = h.rows; counts = h.counts; exact = λ c i. h.exact c refl }

pub continues_all : {e : Exact} {before after : Rest → Type 0} (d : Counts) (step : Step)
    → Continues all_exact before d step after → Continues e before d step after
continues_all d step k r h =
    (let x = k r h in (x.0, x.1, x.2, prefixed_all _ d r x.1 x.3, x.4))
