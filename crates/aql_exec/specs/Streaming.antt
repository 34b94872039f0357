-- An executor by a transform: what it gives, asks and holds.
use Rattle.std.specs.Prelude.{◌≡◌, ℕ, zero, suc, ◌+◌, ◌≤◌, List, [], Bool, true, false, cond, refl}
use Rattle.std.proofs.Common.{arith}
use mathlib.Core.Bool.{false≢true}
use Rattle.aql_meaning.specs.Row.{Row}
use Rattle.aql_plan.specs.Runs.{Dataset}
use Rattle.aql_block.specs.declared.calls.Call.{Call}
use Rattle.aql_exec.specs.Rests.{Counter, Counts, Exact, Rest, Prefixed}
use Rattle.aql_exec.specs.Steps.{IsCall}
use Rattle.aql_exec.specs.Operators.{is_first}
use Rattle.aql_exec.specs.declared.transform.Transform
use Rattle.aql_exec.specs.declared.surroundings.Surroundings
use Rattle.aql_exec.specs.declared.stream.Stream.{Stream}

-- the one input of an executor
abbrev pub ended_first : Bool → ℕ → Bool
ended_first done zero = done
ended_first done (suc k) = false

abbrev pub waited_first : Bool → ℕ → Type 0
waited_first waiting zero = waiting ≡ true
waited_first waiting (suc k) = ⊥

-- an executor that counts for itself asks for all rows
abbrev pub asks_all : Bool → ℕ → Call → Type 0
asks_all done zero c = IsCall c × (c.offset ≡ 0) × (c.hard ≡ 18446744073709551615) × (done ≡ false)
asks_all done (suc k) c = ⊥

-- a rest whose rows are these, with what the input counts
abbrev pub Counting : Rest → Rest → Rest → Type 0
Counting input own r = (r.rows ≡ own.rows) × ((c : Counter) → r.counts c ≡ input.counts c + own.counts c)

module _ {T W : Type 0} (g : Transform.Ghosts T W) (p : Surroundings.Ghosts W) where
  abbrev pub gives_stream : Stream T → W → (ℕ → Rest) → Rest → Type 0
  gives_stream s w ins r =
      (own : Rest) × g.left s.transform (p.stock w) (ins 0).rows own × Counting (ins 0) own r

  abbrev pub stream_valid : Stream T → W → Type 0
  stream_valid s w = g.valid s.transform (p.stock w) × (g.closed s.transform ≡ s.done)

  abbrev pub stream_budget : Stream T → W → ℕ
  stream_budget s w = g.held s.transform (p.stock w) + cond s.done 0 1

  -- the call by which it asked, with nothing left to give
  abbrev pub AsksAll : Stream T → ℕ → Call → Type 0
  AsksAll s zero ask = (ask.offset ≡ 0) × (ask.soft ≤ 10000) × (ask.hard ≡ 18446744073709551615)
      × g.ready s.transform × (s.done ≡ false) × (s.waiting ≡ false)
  AsksAll s (suc k) ask = ⊥

  pub some_stream : ((t : T) (w : Dataset) (rows : List Row) → g.valid t w → (r : Rest) × g.left t w rows r)
      → (s : Stream T) (w : W) (ins : ℕ → Rest) → stream_valid s w → (r : Rest) × gives_stream s w ins r
  some_stream some s w ins v =
      let own = some s.transform (p.stock w) (ins 0).rows v.0 in (
        record { rows = own.0.rows; counts = λ c. (ins 0).counts c + own.0.counts c },
        (own.0, own.1, (refl, λ c. refl)),
      )

  pub more_stream : (x : Exact) (s : Stream T) (w : W) (k : ℕ) (d : Counts) (ins ins' : ℕ → Rest) (r : Rest)
      → is_first k ≡ true → Prefixed x [] d (ins k) (ins' k) → ((j : ℕ) → (j ≡ k → ⊥) → ins' j ≡ ins j)
      → gives_stream s w ins r → (b : Rest) × Prefixed x [] d r b × gives_stream s w ins' b
  more_stream x s w zero d ins ins' r e a o h = (
    record { rows = r.rows; counts = λ c. (ins' 0).counts c + h.0.counts c },
    record {
      rows = refl;
      counts = λ c. (let m = a.counts c in let n = h.2.1 c in omega (arith, m, n));
      exact = λ c i. (let m = a.exact c i in let n = h.2.1 c in omega (arith, m, n));
    },
    (h.0, rw a.rows h.1, (h.2.0, λ c. refl)),
  )
  more_stream x s w (suc k) d ins ins' r e a o h = absurd (false≢true e)
