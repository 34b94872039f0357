-- What goes on a link: which other links it leaves as they were, and how the counts rise.
use Rattle.std.proofs.Common.{◌≡◌, ℕ, ◌+◌, inl, inr, List, [], Bool, true, false, cond, refl, ap, arith}
use Rattle.std.specs.Prelude.{◌==◌}
use Rattle.std.proofs.lemmas.Bool.{cases_eq, eq-eqb, ne_eqb}
use Rattle.std.proofs.Math.Nat.{le_refl}
use Rattle.aql_block.specs.declared.calls.Progress.{Progress}
use Rattle.aql_block.specs.declared.calls.Progress.TheVariants.{Waiting, HasMore, Done}
use Rattle.aql_block.specs.declared.tally.Tally.{Tally}
use Rattle.aql_exec.specs.declared.surroundings.Surroundings
use Rattle.aql_exec.specs.declared.turns.Message.{Message}
use Rattle.aql_exec.specs.declared.turns.Message.TheVariants.{Ask, Reply}
use Rattle.aql_exec.specs.Rests.{Counter, scanned_full, scanned_index, filtered, sent_on, opened_on, closed_on}
use Rattle.aql_exec.specs.Operators.{on_this}
use Rattle.aql_exec.specs.Rising.{Rises}
use Rattle.aql_exec.specs.Lines.{Talk, fresh, asked, answered, Line, Next, with_message, opened_by, closed_by}
use Rattle.aql_exec.specs.laws.Counted.{rose_none, rose_same, unclosed}

-- ---- counts of one link

cond_plus : (b : Bool) (m n : ℕ) → ◌≡◌ {A = ℕ} (cond b (m + n) 0) (cond b m 0 + cond b n 0)
cond_plus true m n = refl
cond_plus false m n = refl

pub on_this_plus : (l a b n a' b' n' : ℕ) (c : Counter)
    → on_this l (a + a') (b + b') (n + n') c ≡ on_this l a b n c + on_this l a' b' n' c
on_this_plus l a b n a' b' n' scanned_full = refl
on_this_plus l a b n a' b' n' scanned_index = refl
on_this_plus l a b n a' b' n' filtered = refl
on_this_plus l a b n a' b' n' (sent_on j) = cond_plus (j == l) n n'
on_this_plus l a b n a' b' n' (opened_on j) = cond_plus (j == l) a a'
on_this_plus l a b n a' b' n' (closed_on j) = cond_plus (j == l) b b'

here : (l n j : ℕ) → j ≡ l → cond (j == l) n 0 ≡ n
here l n j e = ap (λ b. cond b n 0) (eq-eqb j l e)

elsewhere : (l n j : ℕ) → (j ≡ l → ⊥) → cond (j == l) n 0 ≡ 0
elsewhere l n j d = ap (λ b. cond b n 0) (ne_eqb j l d)

-- ---- what is said on a link

-- it is open then
pub said_opened : (line : Line) (m : Message) → opened_by (with_message line m).talk ≡ 1
said_opened line (Ask c) = refl
said_opened line (Reply step) = refl

-- and was not closed before, nor is it, since the message is in flight
pub unclosed_before : {M : Type 0} (batch : ℕ) (talk : Talk) (m : Message) (flying : List M)
    → Next batch talk m → closed_by talk flying ≡ 0
unclosed_before batch fresh m flying h = refl
unclosed_before batch (asked c) m flying h = refl
unclosed_before batch (answered Waiting) m flying h = refl
unclosed_before batch (answered HasMore) m flying h = refl
unclosed_before batch (answered Done) (Ask c) flying h = (let never = h.0 in absurd (cc never))
unclosed_before batch (answered Done) (Reply step) flying h = absurd h

pub said_unclosed : (line : Line) (m : Message)
    → closed_by (with_message line m).talk (with_message line m).flying ≡ 0
said_unclosed line (Ask c) = refl
said_unclosed line (Reply step) = unclosed (answered step.progress) line.flying [] (Reply step)

-- it is closed where the last reply came
pub closed_now : (progress : Progress) (done : Bool) → (done ≡ true → progress ≡ Done)
    → (progress ≡ Done → done ≡ true) → closed_by {M = Message} (answered progress) [] ≡ cond done 1 0
closed_now Waiting true d d' = (let never = d refl in absurd (cc never))
closed_now Waiting false d d' = refl
closed_now HasMore true d d' = (let never = d refl in absurd (cc never))
closed_now HasMore false d d' = refl
closed_now Done true d d' = refl
closed_now Done false d d' = (let never = d' refl in absurd (cc never))

-- ---- what happens on one link

-- so much is seen of a link
abbrev seen_sent : Line → ℕ
seen_sent line = line.sent

abbrev seen_opened : Line → ℕ
seen_opened line = opened_by line.talk

abbrev seen_closed : Line → ℕ
seen_closed line = closed_by line.talk line.flying

-- what is seen of each link rises by what is seen of the one on which something happened
rose_here : (see : Line → ℕ) (f f' : ℕ → Line) (l n : ℕ) → see (f' l) ≡ see (f l) + n
    → ((j : ℕ) → (j ≡ l → ⊥) → f' j ≡ f j) → (j : ℕ) → see (f' j) ≡ see (f j) + cond (j == l) n 0
rose_here see f f' l n more others j = elim (cases_eq j l) [
  | inl q ↦ (
      let at = here l n j q in let one = ap (λ k. see (f k)) q in let two = ap (λ k. see (f' k)) q in
      omega (arith, more, at, one, two))
  | inr d ↦ (
      let same = ap see (others j d) in let none = elsewhere l n j d in omega (arith, same, none))
]

module _ {W : Type 0} (p : Surroundings.Ghosts W) {x : Counter → Type 0} where
  -- of one link these counts rose
  pub rises_here : (t : Tally) (w w' : W) (l a b n : ℕ) → p.counted w' ≡ p.counted w
      → opened_by (p.flight w' l).talk ≡ opened_by (p.flight w l).talk + a
      → closed_by (p.flight w' l).talk (p.flight w' l).flying
      ≡ closed_by (p.flight w l).talk (p.flight w l).flying + b
      → (p.flight w' l).sent ≡ (p.flight w l).sent + n
      → ((j : ℕ) → (j ≡ l → ⊥) → p.flight w' j ≡ p.flight w j) → Rises p x t w t w' (on_this l a b n)
  rises_here t w w' l a b n e opened closed sent others = record {
    added = on_this l a b n;
    most = λ c. le_refl (on_this l a b n c);
    exact = λ c i. le_refl (on_this l a b n c);
    full = rose_none _;
    index = rose_none _;
    dropped = rose_none _;
    own_full = rose_same _ _ (ap (λ (z : Tally). z.scanned_full) e);
    own_index = rose_same _ _ (ap (λ (z : Tally). z.scanned_index) e);
    sent = rose_here seen_sent (p.flight w) (p.flight w') l n sent others;
    opened = rose_here seen_opened (p.flight w) (p.flight w') l a opened others;
    closed = λ j. (
        let z = rose_here seen_closed (p.flight w) (p.flight w') l b closed others j in omega (arith, z));
  }
