-- What steps tell: nothing, rows, or rows that were skipped.
use Rattle.std.proofs.Common.{◌≡◌, ℕ, ◌<◌, ◌⊎◌, inl, inr, List, [], ◌++◌, length, refl, sym, ap, ◌∙◌, arith}
use Rattle.std.proofs.lemmas.List.{append-nil}
use Rattle.aql_meaning.specs.Row.{Row}
use Rattle.aql_block.specs.declared.calls.Step.{Step}
use Rattle.aql_exec.specs.Rests.{Counts, Exact, Rest, Prefixed}
use Rattle.aql_exec.specs.Counting.{nothing}
use Rattle.aql_exec.specs.Steps.{given, Continues}
use Rattle.aql_exec.specs.Leaves.{gives_alone}

-- the step tells of nothing
pub led_none : {e : Exact} {before after : Rest → Type 0} (step : Step) → step.skipped ≡ 0 → given step ≡ []
    → ((r : Rest) → after r → before r) → Continues e before nothing step after
led_none step s g k r h = (
  [],
  r,
  sym s,
  record { rows = rw g refl; counts = λ c. omega arith; exact = λ c i. omega arith },
  k r h,
)

-- it gives rows
pub led_rows : {e : Exact} {before after : Rest → Type 0} (step : Step) (d : Counts) → step.skipped ≡ 0
    → ((r : Rest) → after r → (b : Rest) × Prefixed e (given step) d r b × before b) → Continues e before d step after
led_rows step d s k r h = (let b = k r h in ([], b.0, sym s, b.1, b.2))

-- the only input, and the only port
pub only_input : (input : ℕ) → input < 1 → input ≡ 0
only_input input h = omega (arith, h)

pub only_port : (port : ℕ) → (port ≡ 0) ⊎ (port < 1) → port ≡ 0
only_port port (inl e) = e
only_port port (inr h) = omega (arith, h)

-- a node with one port has no other port
pub no_other : (port p : ℕ) → (port ≡ 0) ⊎ (port < 1) → (p ≡ port → ⊥) → (p ≡ 0) ⊎ (p < 1) → ⊥
no_other port p a n b = n (only_port p b ∙ sym (only_port port a))

-- an executor without inputs tells of all its rows
pub all_reported : {e : Exact} (rows s left : List Row) (step : Step) → length s ≡ step.skipped → s ++ given step ≡ rows
    → left ≡ [] → Continues e (gives_alone rows) nothing step (gives_alone left)
all_reported rows s left step l e none r h = (
  s,
  record { rows = rows; counts = λ c. 0 },
  l,
  record {
    rows = sym e ∙ sym (append-nil (s ++ given step)) ∙ ap (λ z. (s ++ given step) ++ z) (sym (h.0 ∙ none));
    counts = λ c. (let n = h.1 c in omega (arith, n));
    exact = λ c i. omega arith;
  },
  (refl, λ c. refl),
)
