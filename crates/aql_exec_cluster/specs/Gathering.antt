-- A Gather without keys: what it may still give, of the rows that it holds and those to come.
use Rattle.std.specs.Prelude.{◌≡◌, ℕ, ◌++◌, List, [], true, refl}
use Rattle.std.proofs.Common.{sym, ap, subst}
use Rattle.aql_tree.specs.Tree.{no_exprs}
use Rattle.aql_meaning.specs.Row.{Row}
use Rattle.aql_meaning.specs.AtRows.{row_before}
use Rattle.aql_exec.specs.Rests.{Counter, Counts, Exact, Rest, Prefixed}
use Rattle.aql_exec.specs.Operators.{MergedOf, counted, is_below}
use Rattle.aql_exec.specs.laws.SomeMerge.{some_merge}
use Rattle.aql_exec_cluster.specs.laws.Counts.{prefixed_counted}
use Rattle.aql_exec_cluster.specs.laws.Merging.{same_family}
use Rattle.aql_exec_cluster.specs.laws.Places.{below_is}

-- the rows that it holds, and after them those of so many inputs in any order
abbrev pub gives_gather : ℕ → List Row → (ℕ → Rest) → Rest → Type 0
gives_gather n held ins r = (out : List Row) × MergedOf (row_before [] no_exprs) n (λ k. (ins k).rows) out
    × (r.rows ≡ held ++ out) × ((c : Counter) → r.counts c ≡ counted n ins c)

pub some_gather : (n : ℕ) (held : List Row) (ins : ℕ → Rest) → (r : Rest) × gives_gather n held ins r
some_gather n held ins =
    let m = some_merge [] no_exprs n (λ k. (ins k).rows) in
    (record { rows = held ++ m.0; counts = counted n ins }, (m.0, m.1, refl, λ c. refl))

pub more_gather : (e : Exact) (n : ℕ) (held : List Row) (k : ℕ) (d : Counts) (ins ins' : ℕ → Rest) (r : Rest)
    → is_below n k ≡ true → Prefixed e [] d (ins k) (ins' k) → ((j : ℕ) → (j ≡ k → ⊥) → ins' j ≡ ins j)
    → gives_gather n held ins r → (b : Rest) × Prefixed e [] d r b × gives_gather n held ins' b
more_gather e n held k d ins ins' r l p o h =
    let lists : (λ j. (ins j).rows) ≡ (λ j. (ins' j).rows) =
    same_family k (λ j. (ins j).rows) (λ j. (ins' j).rows) (sym p.rows)
    (λ j q. ap (λ (z : Rest). z.rows) (sym (o j q))) in (
      record { rows = r.rows; counts = counted n ins' },
      prefixed_counted n k [] d ins ins' r (below_is n k l) p (λ j q. sym (o j q)) h.3,
      (
        h.0,
        subst (λ (z : ℕ → List Row). MergedOf (row_before [] no_exprs) n z h.0) lists h.1,
        h.2,
        λ c. refl,
      ),
    )
