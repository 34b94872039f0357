-- A Gather with keys: what it may still give, of the rows that came and those to come.
use Rattle.std.specs.Prelude.{◌≡◌, ℕ, ◌+◌, ◌++◌, List, [], length, Bool, true, refl}
use Rattle.std.specs.List.{All}
use Rattle.std.proofs.Common.{sym, ap, subst}
use Rattle.aql_tree.specs.Tree.{ExprTrees}
use Rattle.aql_meaning.specs.Row.{Row}
use Rattle.aql_meaning.specs.AtRows.{row_before}
use Rattle.aql_block.specs.declared.calls.Progress.{Progress}
use Rattle.aql_exec.specs.Rests.{Counter, Counts, Exact, Rest, Prefixed}
use Rattle.aql_exec.specs.Operators.{MergedOf, counted, is_below}
use Rattle.aql_exec.specs.laws.SomeMerge.{some_merge}
use Rattle.aql_exec_cluster.specs.declared.queue.Queue.{Queue}
use Rattle.aql_exec_cluster.specs.Standing.{count_going}
use Rattle.aql_exec_cluster.specs.Queues.{IsKeyed, left_at, count_left, lists_of}
use Rattle.aql_exec_cluster.specs.laws.Counts.{prefixed_counted}
use Rattle.aql_exec_cluster.specs.laws.Merging.{same_family}
use Rattle.aql_exec_cluster.specs.laws.Places.{below_is}

-- a merge of the rows that came and those of so many inputs
abbrev pub gives_sorted : List Bool → ExprTrees → ℕ → List Queue → (ℕ → Rest) → Rest → Type 0
gives_sorted directions es n queues ins r = MergedOf (row_before directions es) n (lists_of queues ins) r.rows
    × ((c : Counter) → r.counts c ≡ counted n ins c)

-- a queue for each input, with the keys of its first row
pub record QueuesAre (es : ExprTrees) (n : ℕ) (queues : List Queue) : Type 0 where
  pub count : n ≡ length queues
  pub keyed : All (IsKeyed es) queues

abbrev pub budget_sorted : List Queue → List Progress → ℕ
budget_sorted queues inputs = count_left queues + count_going inputs

pub some_sorted : (directions : List Bool) (es : ExprTrees) (n : ℕ) (queues : List Queue) (ins : ℕ → Rest)
    → (r : Rest) × gives_sorted directions es n queues ins r
some_sorted directions es n queues ins =
    let m = some_merge directions es n (lists_of queues ins) in
    (record { rows = m.0; counts = counted n ins }, (m.1, λ c. refl))

pub more_sorted : (e : Exact) (directions : List Bool) (es : ExprTrees) (n : ℕ) (queues : List Queue) (k : ℕ)
    (d : Counts) (ins ins' : ℕ → Rest) (r : Rest) → is_below n k ≡ true
    → Prefixed e [] d (ins k) (ins' k) → ((j : ℕ) → (j ≡ k → ⊥) → ins' j ≡ ins j)
    → gives_sorted directions es n queues ins r
    → (b : Rest) × Prefixed e [] d r b × gives_sorted directions es n queues ins' b
more_sorted e directions es n queues k d ins ins' r l p o h =
    let lists : lists_of queues ins ≡ lists_of queues ins' =
    same_family k (lists_of queues ins) (lists_of queues ins') (ap (λ z. left_at queues k ++ z) (sym p.rows))
    (λ j q. ap (λ (z : Rest). left_at queues j ++ z.rows) (sym (o j q))) in (
      record { rows = r.rows; counts = counted n ins' },
      prefixed_counted n k [] d ins ins' r (below_is n k l) p (λ j q. sym (o j q)) h.1,
      (subst (λ (z : ℕ → List Row). MergedOf (row_before directions es) n z r.rows) lists h.0, λ c. refl),
    )
