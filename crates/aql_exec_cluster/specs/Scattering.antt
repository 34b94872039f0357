-- A Scatter or Distribute: what it may still give at each port, and what it asks.
use Rattle.std.specs.Prelude.{◌≡◌, ℕ, zero, suc, ◌+◌, ◌*◌, ◌<◌, ◌++◌, List, [], length, slice_index_or, Bool, true, false, Option, Some, None, refl}
use Rattle.std.proofs.Common.{arith, inl, inr, sym, ap, subst, ◌∙◌}
use Rattle.std.proofs.lemmas.Bool.{cases_eq}
use mathlib.Core.Bool.{false≢true}
use Rattle.aql_meaning.specs.Row.{Row}
use Rattle.aql_block.specs.declared.calls.Call.{Call}
use Rattle.aql_block.specs.Tables.{Table}
use Rattle.aql_plan.specs.Plan.{Node}
use Rattle.aql_plan.specs.Runs.{Dataset}
use Rattle.aql_exec.specs.Rests.{Counter, Counts, Exact, Rest, Prefixed, with_rows}
use Rattle.aql_exec.specs.Steps.{IsCall}
use Rattle.aql_exec.specs.Operators.{is_first, rows_for, AtPort}
use Rattle.aql_engine.specs.Run.{rows_in}
use Rattle.aql_exec_cluster.specs.declared.scatter.Filled.{Filled}
use Rattle.aql_exec_cluster.specs.Standing.{ForAll}
use Rattle.aql_exec_cluster.specs.Ports.{rows_at_port, count_ports}

abbrev pub is_filled : Option Filled → Bool
is_filled None = false
is_filled (Some filled) = true

-- the rows that came and were not given at a port
abbrev pub port_rows : List Table → Option Filled → ℕ → List Row
port_rows kept None p = rows_in kept
port_rows kept (Some filled) p = rows_at_port filled.blocks.value filled.places.items p

-- at the port of a shard, of these rows and those to come, the ones that come to it; no row at the port at
-- which it is filled
abbrev pub gives_scatter : Node → Dataset → List ℕ → (ℕ → List Row) → ℕ → (ℕ → Rest) → Rest → Type 0
gives_scatter n w shards left p ins r = AtPort n w shards p (with_rows (left p) (ins 0)) r

-- a place for each shard
abbrev pub ScatterIs : ℕ → Option Filled → Type 0
ScatterIs n None = Unit {0}
ScatterIs n (Some filled) = length filled.places.items ≡ n

abbrev pub budget_scatter : ℕ → List Table → Option Filled → ℕ
budget_scatter n kept None = n * length (rows_in kept) + 1
budget_scatter n kept (Some filled) = count_ports filled.blocks.value filled.places.items

abbrev pub waited_scatter : Bool → ℕ → Type 0
waited_scatter waiting zero = waiting ≡ true
waited_scatter waiting (suc k) = ⊥

-- it asks its input as long as that is not done
abbrev pub AsksScatter : Bool → Bool → ℕ → Call → Type 0
AsksScatter filled waiting zero c = ForAll c × (filled ≡ false) × (waiting ≡ false)
AsksScatter filled waiting (suc k) c = ⊥

abbrev pub asks_scatter : Bool → ℕ → Call → Type 0
asks_scatter filled zero c = IsCall c × (c.offset ≡ 0) × (c.hard ≡ 18446744073709551615) × (filled ≡ false)
asks_scatter filled (suc k) c = ⊥

no_both : {p n : ℕ} → p < n → p ≡ n → ⊥
no_both l e = absurd (omega (arith, l, e))

next_one : (a b : ℕ) → suc a ≡ suc b → b ≡ a
next_one a b e = omega (arith, e)

module _ (n : Node) (w : Dataset) (shards : List ℕ) (left : ℕ → List Row) where
  pub some_scatter : (p : ℕ) (ins : ℕ → Rest) → (r : Rest) × gives_scatter n w shards left p ins r
  some_scatter p ins = elim (cases_eq p (length shards)) [
    | inl e ↦ (
      record { rows = []; counts = (ins 0).counts },
      ((λ l. absurd (no_both l e)), (λ i. refl), λ c. refl),
    )
    | inr d ↦ (
      record {
        rows = rows_for n w (slice_index_or shards p 0) (left p ++ (ins 0).rows);
        counts = (ins 0).counts;
      },
      ((λ l. refl), (λ e. absurd (d e)), λ c. refl),
    )
  ]

  pub more_scatter : (e : Exact) (p k : ℕ) (d : Counts) (ins ins' : ℕ → Rest) (r : Rest)
      → is_first k ≡ true → Prefixed e [] d (ins k) (ins' k) → gives_scatter n w shards left p ins r
      → (b : Rest) × Prefixed e [] d r b × gives_scatter n w shards left p ins' b
  more_scatter e p zero d ins ins' r f a h = (
    record { rows = r.rows; counts = (ins' 0).counts },
    record {
      rows = refl;
      counts = λ c. (let m = a.counts c in let x = h.2 c in omega (arith, m, x));
      exact = λ c i. (let m = a.exact c i in let x = h.2 c in omega (arith, m, x));
    },
    (
      (λ l. h.0 l ∙ ap (λ z. rows_for n w (slice_index_or shards p 0) (left p ++ z)) (sym a.rows)),
      h.1,
      λ c. refl,
    ),
  )
  more_scatter e p (suc k) d ins ins' r f a h = absurd (false≢true f)

  -- over the same documents it may give the same
  pub kept_scatter : (v : Dataset) (p : ℕ) (ins : ℕ → Rest) (r : Rest) → v ≡ w
      → gives_scatter n v shards left p ins r → gives_scatter n w shards left p ins r
  kept_scatter v p ins r e h = subst (λ (z : Dataset). gives_scatter n z shards left p ins r) e h

  pub silent_scatter : (m : ℕ) (ins : ℕ → Rest) (r : Rest) → suc (length shards) ≡ suc m
      → gives_scatter n w shards left m ins r
      → (r.rows ≡ []) × ((c : Counter) → r.counts c ≡ (ins 0).counts c)
  silent_scatter m ins r e h = (h.1 (next_one (length shards) m e), h.2)
