-- The trees of a fragment, one for each shard, give a list for each shard that the plan reaches.
use Rattle.std.proofs.Common.{◌≡◌, ℕ, suc, ◌<◌, List, [], ◌∷◌, refl, length, arith}
use Rattle.std.specs.Prelude.{slice_index_or, Some, None}
use Rattle.std.specs.List.{AllZip}
use Rattle.aql_meaning.specs.Row.{Row}
use Rattle.aql_plan.specs.Plan.{Plan, Singleton, Over, Scatter, Distribute}
use Rattle.aql_plan.specs.Runs.{Dataset, targets, sent_to}
use Rattle.aql_exec.specs.Rests.{Rest}
use Rattle.aql_exec.specs.Operators.{OperatorTree, rows_for, Fragments, ProducesOver}
use Rattle.aql_engine.specs.OperatorsOf.{foot, shards_of, each_tree}
use Rattle.aql_engine.specs.laws.Merging.{first_lists}

-- which shards a fragment reaches is known from the facts
pub shards_are : (w : Dataset) (b : Plan) → shards_of w.facts b ≡ targets b w
shards_are w Singleton = refl
shards_are w (Over b (Scatter coll (Some shard))) = refl
shards_are w (Over b (Scatter coll None)) = refl
shards_are w (Over b (Distribute coll es)) = refl
shards_are w (Over b n) = shards_are w b

-- what comes to a shard is said by the foot
pub rows_are : (w : Dataset) (b : Plan) (shard : ℕ) (rows : List Row)
    → rows_for (foot b) w shard rows ≡ sent_to b w shard rows
rows_are w Singleton shard rows = refl
rows_are w (Over b (Scatter coll only)) shard rows = refl
rows_are w (Over b (Distribute coll es)) shard rows = refl
rows_are w (Over b n) shard rows = rows_are w b shard rows

module _ (w : Dataset) (row : Row) (tree : ℕ → OperatorTree) (part : ℕ → List Row)
    (R : ℕ → List Row → Type 0)
    (gives : (shard : ℕ) (came : List Row) (r : Rest) → came ≡ part shard
    → ProducesOver (tree shard) w came row r → R shard r.rows) where
  pub each_list : (shards : List ℕ) (parts : ℕ → Rest → Type 0) (lists : ℕ → Rest)
      → ((k : ℕ) (p : Rest) → parts k p → k < length shards → p.rows ≡ part (slice_index_or shards k 0))
      → Fragments (each_tree tree shards) w row parts lists
      → AllZip R shards (first_lists (length shards) (λ k. (lists k).rows))
  each_list [] parts lists is h = tt
  each_list (shard ∷ shards) parts lists is h = (
    gives shard h.0.0.rows (lists 0) (is 0 h.0.0 h.0.1 (omega arith)) h.0.2,
    each_list shards (λ k. parts (suc k)) (λ k. lists (suc k))
        (λ k p a l. is (suc k) p a (omega (arith, l))) h.1,
  )
