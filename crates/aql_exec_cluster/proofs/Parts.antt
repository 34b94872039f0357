-- The foot of a fragment: what is left after a step.
use Rattle.std.proofs.Common.{◌≡◌, ℕ, ◌+◌, ◌*◌, ◌<◌, ◌≤◌, List, ◌++◌, length, refl, sym, ap, ◌∙◌, arith, length-append}
use Rattle.aql_meaning.specs.Row.{Row}
use Rattle.aql_block.specs.declared.calls.Step.{Step}
use Rattle.aql_exec.specs.Rests.{Exact}
use Rattle.aql_exec.specs.Steps.{Continues, given, reported}
use Rattle.aql_exec.specs.Counting.{nothing}
use Rattle.aql_exec.specs.Leaves.{gives_alone}

-- a step tells of the first rows
pub handed : {e : Exact} (before after s : List Row) (step : Step) → length s ≡ step.skipped
    → before ≡ (s ++ given step) ++ after
    → Continues e (gives_alone before) nothing step (gives_alone after)
handed before after s step l is r h = (
  s,
  record { rows = before; counts = λ c. 0 },
  l,
  record {
    rows = is ∙ ap (λ z. (s ++ given step) ++ z) (sym h.0);
    counts = λ c. (let n = h.1 c in omega (arith, n));
    exact = λ c i. omega arith;
  },
  (refl, λ c. refl),
)

pub fewer : (before after s : List Row) (step : Step) → length s ≡ step.skipped
    → before ≡ (s ++ given step) ++ after → length after + reported step ≤ length before
fewer before after s step l is =
    let all = ap length is in
    let a = length-append (s ++ given step) after in
    let b = length-append s (given step) in
    omega (arith, all, a, b, l)

-- fewer than 2^64 blocks of fewer than 2^32 rows
pub all_few : (rows blocks : ℕ) → rows ≤ blocks * 4294967296 → blocks < 18446744073709551616
    → rows ≤ 79228162514264337593543950336
all_few rows blocks h l = omega (arith, h, l)
