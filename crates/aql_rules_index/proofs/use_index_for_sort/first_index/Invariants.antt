use Rattle.std.proofs.Common.{ℕ, ◌<◌}
use Rattle.aql_tree.specs.declared.syntax.Ident.TheVariants.{Num}
use Rattle.aql_plan.specs.View.{key_trees}
use Rattle.aql_rules_index.specs.inner.Ordering.{KeysBegin}
use Rattle.aql_rules_index.proofs.use_index_for_sort.first_index.Given as goal

abbrev pub invariant-loop-place : goal.invariant-loop-place
invariant-loop-place l =
    (n : ℕ) → n < l.place → KeysBegin l.facts l.fn.coll.0 (Num l.var) (key_trees l.keys) n → ⊥
