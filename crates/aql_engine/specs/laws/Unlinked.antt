-- A tree of executors whose plan reads little has no link.
use Rattle.std.specs.Prelude.{ℕ, ◌≡◌, ◌⊎◌, Bool, true, false, cond, not, refl, ◌&&◌}
use Rattle.std.proofs.Common.{inl, inr}
use Rattle.std.proofs.lemmas.Bool.{false≢true}
use Rattle.aql_exec.specs.declared.feed.Executor.{Ghosts}
use Rattle.aql_exec.specs.declared.surroundings.Surroundings
use Rattle.aql_exec.specs.Operators.{Operator, OperatorTree, leaf, over, within, StartRow, NoRows, ShardRows, OnRows, WithBody, Remote, Scatter, Gather, Shards}
use Rattle.aql_exec.specs.Reads.{hands_on, scans_all, is_limit, has_limit, is_unlinked, has_no_link, reads_none, reads_little}
use Rattle.aql_engine.specs.declared.tree.Tree.{Tree, Leaf, Sub'}
use Rattle.aql_engine.specs.laws.Exactness.{and_left, and_right}
use Rattle.aql_engine.specs.Tree.{tree_plan, TreeOwn}

both : (a b : Bool) → a ≡ true → b ≡ true → a && b ≡ true
both true b e f = f
both false b e f = absurd (false≢true e)

pub either : (a b c : Bool) → cond a b c ≡ true → ((a ≡ true) × (b ≡ true)) ⊎ (c ≡ true)
either true b c h = inl (refl, h)
either false b c h = inr h

hands_unlinked : (o : Operator) → hands_on o ≡ true → is_unlinked o ≡ true
hands_unlinked Remote h = absurd (false≢true h)
hands_unlinked (Shards a b ts) h = absurd (false≢true h)
hands_unlinked StartRow h = refl
hands_unlinked NoRows h = refl
hands_unlinked ShardRows h = refl
hands_unlinked (OnRows n) h = refl
hands_unlinked (WithBody x) h = refl
hands_unlinked (Scatter n shards) h = refl
hands_unlinked (Gather n directions es) h = refl

scans_unlinked : (o : Operator) → scans_all o ≡ true → is_unlinked o ≡ true
scans_unlinked Remote h = absurd (false≢true h)
scans_unlinked (Shards a b ts) h = absurd (false≢true h)
scans_unlinked StartRow h = refl
scans_unlinked NoRows h = refl
scans_unlinked ShardRows h = refl
scans_unlinked (OnRows n) h = refl
scans_unlinked (WithBody x) h = refl
scans_unlinked (Scatter n shards) h = refl
scans_unlinked (Gather n directions es) h = refl

none_unlinked : (t : OperatorTree) → reads_none t ≡ true → has_no_link t ≡ true
none_unlinked (leaf o) h = hands_unlinked o h
none_unlinked (over o below) h =
    both _ _ (hands_unlinked o (and_left _ _ h)) (none_unlinked below (and_right _ _ h))
none_unlinked (within o below body) h =
    let k = and_left (hands_on o && reads_none below) (has_no_link body) h in
    both _ _ (both _ _ (hands_unlinked o (and_left _ _ k)) (none_unlinked below (and_right _ _ k)))
    (and_right (hands_on o && reads_none below) (has_no_link body) h)

-- a plan that reads little, where it has no LIMIT below another
abbrev some : Operator → OperatorTree → Bool
some o below = reads_little below && not (is_limit o && has_limit below)

above_unlinked : (o : Operator) (below : OperatorTree)
    → (reads_little below ≡ true → has_no_link below ≡ true)
    → cond (hands_on o) (some o below) (scans_all o && reads_none below) ≡ true
    → is_unlinked o && has_no_link below ≡ true
above_unlinked o below k h =
    elim (either (hands_on o) (some o below) (scans_all o && reads_none below) h) [
      | inl q ↦
          both _ _ (hands_unlinked o q.0) (k (and_left (reads_little below) (not (is_limit o && has_limit below)) q.1))
      | inr q ↦ both _ _ (scans_unlinked o (and_left _ _ q)) (none_unlinked below (and_right _ _ q))
    ]

pub little_unlinked : (t : OperatorTree) → reads_little t ≡ true → has_no_link t ≡ true
little_unlinked (leaf o) h = hands_unlinked o h
little_unlinked (over o below) h = above_unlinked o below (λ k. little_unlinked below k) h
little_unlinked (within o below body) h =
    both _ _ (above_unlinked o below (λ k. little_unlinked below k)
    (and_left (cond (hands_on o) (some o below) (scans_all o && reads_none below))
    (has_no_link body) h))
    (and_right (cond (hands_on o) (some o below) (scans_all o && reads_none below))
    (has_no_link body) h)

module _ {X W : Type 0} (g : Ghosts X W) (p : Surroundings.Ghosts W) where
  no_link_own : ((s : X) (l : ℕ) → g.ours s l → is_unlinked (g.node s) ≡ true → ⊥)
      → (t : Tree X) (l : ℕ) → TreeOwn g p t l → has_no_link (tree_plan g p t) ≡ true → ⊥
  no_link_own f (Leaf x) l o h = f x l o h
  no_link_own f (Sub' x q below s body) l o h =
      let k = and_left (is_unlinked (g.node x) && has_no_link (tree_plan g p below))
      (has_no_link (tree_plan g p body)) h in
      elim o [
        | inl o ↦ f x l o (and_left _ _ k)
        | inr o ↦ elim o [
          | inl o ↦ no_link_own f below l o (and_right _ _ k)
          | inr o ↦ no_link_own f body l o.1
              (and_right (is_unlinked (g.node x) && has_no_link (tree_plan g p below))
              (has_no_link (tree_plan g p body)) h)
        ]
      ]

  pub tree_no_link : ((s : X) (l : ℕ) → g.ours s l → is_unlinked (g.node s) ≡ true → ⊥)
      → (t : Tree X) (l : ℕ) → TreeOwn g p t l → reads_little (tree_plan g p t) ≡ true → ⊥
  tree_no_link f t l o h = no_link_own f t l o (little_unlinked (tree_plan g p t) h)
