-- The budget of a node through the loop: the measure by which the loop ends.
use Rattle.std.proofs.Common.{ℕ, zero, suc, ◌≡◌, ◌+◌, ◌*◌, ◌<◌, ◌≤◌, ◌⊎◌, inl, inr, Bool, true, refl, arith, cond, mul-add}
use Rattle.std.proofs.Math.Nat.{mul-le-mul_left}
use Rattle.aql_exec.specs.declared.feed.Executor.{Ghosts}
use Rattle.aql_exec.specs.declared.surroundings.Surroundings
use Rattle.aql_exec.specs.Steps.{weight}
use Rattle.aql_engine.specs.declared.tree.Tree.{Tree}
use Rattle.aql_engine.specs.Tree.{TreeOwn, tree_full, tree_budget, NodeBudget}
use Rattle.aql_engine.specs.laws.TreesKept.{KeptBudget, tree_kept_budget, cond_more}
use Rattle.aql_engine.proofs.Inputs.{Turned, at_most}

-- ---- the measure

pub falls : (R R' P P' u : ℕ) → R' + u ≤ R → P' + 1 ≤ P + u * weight → R' * weight + P' < R * weight + P
falls R R' P P' u h i = omega arith

pub starts : (R R' P P' : ℕ) → R' + 1 ≤ R → P' < P + weight → R' * weight + P' < R * weight + P
starts R R' P P' h i = omega arith

pub more_waits_left : (a b c d : ℕ) → a + 1 ≤ b + d → b ≤ c → a + 1 ≤ c + d
more_waits_left a b c d h i = omega (arith, h, i)

-- ---- the parts of the budget

-- an input that an executor row_costs c a row gave t rows
pub budget_pulled : (c X X1 X2 B B2 t u : ℕ) → X2 + u ≤ X1 + c * t → X1 ≤ X → B2 + t ≤ B
    → (X2 + c * B2) + u ≤ X + c * B
budget_pulled c X X1 X2 B B2 t u h i j =
    let m : c * (B2 + t) ≤ c * B = mul-le-mul_left c j in
    let e : c * (B2 + t) ≡ c * B2 + c * t = mul-add c B2 t in
    omega (arith, m, e)

pub body_budget : (b b' : Bool) (m n c : ℕ) → b' ≡ b → (b ≡ true → m ≤ n) → c * cond b' m 0 ≤ c * cond b n 0
body_budget b b' m n c e h = rw e (cond_more b m n c h)

pub conds : (b : Bool) (n : ℕ) → b ≡ true → cond b n 0 ≡ n
conds b n e = rw e refl

pub times : (c : ℕ) {k m n : ℕ} → k ≤ m → m ≤ n → c * k ≤ c * n
times c h i = mul-le-mul_left c (omega (arith, h, i))

pub budget_started : (c0 c1 X X1 B B' D F Y : ℕ) → (X1 + c1 * F) + 1 ≤ X → D ≤ F → B' ≤ B
    → ((X1 + c0 * B') + c1 * D) + 1 ≤ (X + c0 * B) + Y
budget_started c0 c1 X X1 B B' D F Y h i j =
    let a : c1 * D ≤ c1 * F = mul-le-mul_left c1 i in
    let b : c0 * B' ≤ c0 * B = mul-le-mul_left c0 j in
    omega (arith, a, b)

pub budget_first : (a a' d d' u : ℕ) → a' + u ≤ a → d' ≤ d → (a' + d') + u ≤ a + d
budget_first a a' d d' u h i = omega (arith, h, i)

pub budget_second : (a a' b b' d d' u : ℕ) → (a' + d') + u ≤ a + d → b' ≤ b → ((a' + b') + d') + u ≤ (a + b) + d
budget_second a a' b b' d d' u h i = omega (arith, h, i)

pub budget_given : (a a' b b' d d' t z : ℕ) → a' + t ≤ a → b' ≤ b → d' ≤ d → (a + b) + d ≤ z
    → ((a' + b') + d') + t ≤ z
budget_given a a' b b' d d' t z h i j k = omega (arith, h, i, j, k)

pub le_more : (a b c u : ℕ) → a + u ≤ b → b ≤ c → a ≤ c
le_more a b c u h i = omega (arith, h, i)

-- ---- the budget of a node. A turn of its executor led from x in the world w to x1 in w1; then an input was
-- pulled, which led to w2, and its step was taken by x2

module _ {X W : Type 0} (g : Ghosts X W) (p : Surroundings.Ghosts W) where
  pub below_pulled : KeptBudget g p → {port : ℕ} (x0 x x1 x2 : X) (body0 below below2 body : Tree X)
      (w w1 w2 : W)
      (t u : ℕ) → Turned g p port x x1 below body w w1 → p.stock w1 ≡ p.stock w → p.stock w2 ≡ p.stock w1
      → ((l : ℕ) → g.ours x1 l → p.flight w2 l ≡ p.flight w1 l)
      → (g.started x 1 ≡ true → (l : ℕ) → TreeOwn g p body l → p.flight w2 l ≡ p.flight w1 l)
      → g.started x2 1 ≡ g.started x 1 → ((k f : ℕ) → g.row_cost x1 k f ≡ g.row_cost x0 k f)
      → ((f : ℕ) → g.budget x1 w1 f ≤ g.budget x w f)
      → ((f : ℕ) → g.budget x2 w2 f + u ≤ g.budget x1 w2 f + g.row_cost x1 0 f * t)
      → tree_budget g p below2 w2 + t ≤ tree_budget g p below w1
      → NodeBudget g p x0 body0 x2 below2 body w2 + u ≤ NodeBudget g p x0 body0 x below body w
  below_pulled kr x0 x x1 x2 body0 below below2 body w w1 w2 t u a s1 s2 x_kept d_kept started row_cost turned
      taken pulled =
      let f = tree_full g p body0 in
      let took = rw (row_cost 0 f) at (taken f) in
      let b = tree_kept_budget g p kr below w w1 s1 a.below_kept in
      let r1 = budget_pulled (g.row_cost x0 0 f) (g.budget x w f) (g.budget x1 w2 f) (g.budget x2 w2 f)
      (tree_budget g p below w) (tree_budget g p below2 w2) t u took
      (at_most (kr x1 w1 w2 s2 x_kept f) (turned f)) (at_most pulled b) in
      let r2 = body_budget (g.started x 1) (g.started x2 1) (tree_budget g p body w2) (tree_budget g p body w)
      (g.row_cost x0 1 f) started (λ s. at_most (tree_kept_budget g p kr body w1 w2 s2 (d_kept s))
      (tree_kept_budget g p kr body w w1 s1 (a.body_kept s))) in
      budget_first _ _ _ _ _ r1 r2

  pub body_pulled : KeptBudget g p → {port : ℕ} (x0 x x1 x2 : X) (body0 below body body2 : Tree X) (w w1 w2 : W)
      (t u : ℕ) → Turned g p port x x1 below body w w1 → p.stock w1 ≡ p.stock w → p.stock w2 ≡ p.stock w1
      → ((l : ℕ) → g.ours x1 l → p.flight w2 l ≡ p.flight w1 l)
      → ((l : ℕ) → TreeOwn g p below l → p.flight w2 l ≡ p.flight w1 l)
      → g.started x 1 ≡ true → g.started x2 1 ≡ true → ((k f : ℕ) → g.row_cost x1 k f ≡ g.row_cost x0 k f)
      → ((f : ℕ) → g.budget x1 w1 f ≤ g.budget x w f)
      → ((f : ℕ) → g.budget x2 w2 f + u ≤ g.budget x1 w2 f + g.row_cost x1 1 f * t)
      → tree_budget g p body2 w2 + t ≤ tree_budget g p body w1
      → NodeBudget g p x0 body0 x2 below body2 w2 + u ≤ NodeBudget g p x0 body0 x below body w
  body_pulled kr x0 x x1 x2 body0 below body body2 w w1 w2 t u a s1 s2 x_kept b_kept begun started
      row_cost turned
      taken pulled =
      let f = tree_full g p body0 in
      let took = rw (row_cost 1 f) at (taken f) in
      let d = tree_kept_budget g p kr body w w1 s1 (a.body_kept begun) in
      let r = budget_pulled (g.row_cost x0 1 f) (g.budget x w f) (g.budget x1 w2 f) (g.budget x2 w2 f)
      (tree_budget g p body w) (tree_budget g p body2 w2) t u took
      (at_most (kr x1 w1 w2 s2 x_kept f) (turned f)) (at_most pulled d) in
      let r1 = rw (
        ← conds (g.started x 1) (tree_budget g p body w) begun,
        ← conds (g.started x2 1) (tree_budget g p body2 w2) started,
      ) at r in
      let r2 = times (g.row_cost x0 0 f) (tree_kept_budget g p kr below w1 w2 s2 b_kept)
      (tree_kept_budget g p kr below w w1 s1 a.below_kept) in
      budget_second _ _ _ _ _ _ _ r1 r2

  pub body_begun : KeptBudget g p → {port : ℕ} (x0 x x1 : X) (body0 below body body1 : Tree X) (w w1 : W)
      → Turned g p port x x1 below body w w1 → p.stock w1 ≡ p.stock w
      → g.started x1 1 ≡ true → ((k f : ℕ) → g.row_cost x k f ≡ g.row_cost x0 k f)
      → ((f : ℕ) → g.budget x1 w1 f + g.row_cost x 1 f * f + 1 ≤ g.budget x w f)
      → tree_budget g p body1 w1 ≤ tree_full g p body0
      → NodeBudget g p x0 body0 x1 below body1 w1 + 1 ≤ NodeBudget g p x0 body0 x below body w
  body_begun kr x0 x x1 body0 below body body1 w w1 a s1 started row_cost turned full =
      let f = tree_full g p body0 in
      let began = rw (row_cost 1 f) at (turned f) in
      let b = tree_kept_budget g p kr below w w1 s1 a.below_kept in
      let r = budget_started (g.row_cost x0 0 f) (g.row_cost x0 1 f) (g.budget x w f) (g.budget x1 w1 f)
      (tree_budget g p below w) (tree_budget g p below w1) (tree_budget g p body1 w1) f
      (g.row_cost x0 1 f * cond (g.started x 1) (tree_budget g p body w) 0) began full b in
      rw (← conds (g.started x1 1) (tree_budget g p body1 w1) started) at r

  pub node_given : KeptBudget g p → {port : ℕ} (x0 x x1 : X) (body0 below body : Tree X) (w w1 : W) (t z : ℕ)
      → Turned g p port x x1 below body w w1 → p.stock w1 ≡ p.stock w
      → g.started x1 1 ≡ g.started x 1 → ((f : ℕ) → g.budget x1 w1 f + t ≤ g.budget x w f)
      → NodeBudget g p x0 body0 x below body w ≤ z
      → NodeBudget g p x0 body0 x1 below body w1 + t ≤ z
  node_given kr x0 x x1 body0 below body w w1 t z a s1 started turned kept =
      let f = tree_full g p body0 in
      let r1 = mul-le-mul_left (g.row_cost x0 0 f) (tree_kept_budget g p kr below w w1 s1 a.below_kept) in
      let r2 = body_budget (g.started x 1) (g.started x1 1) (tree_budget g p body w1) (tree_budget g p body w)
      (g.row_cost x0 1 f) started (λ s. tree_kept_budget g p kr body w w1 s1 (a.body_kept s)) in
      budget_given _ _ _ _ _ _ _ _ (turned f) r1 r2 kept

-- ---- inputs by number

pub of_two : (P : ℕ → Type 0) (k : ℕ) → k < 2 → P k → P 0 ⊎ P 1
of_two P zero h q = inl q
of_two P (suc zero) h q = inr q
of_two P (suc (suc k)) h q = absurd (omega arith)

pub below_two : (k n m : ℕ) → k < n → n ≡ m → m ≤ 2 → k < 2
below_two k n m l e h = omega (arith, l, e, h)

at_second : (at : ℕ) → (at ≡ 0 → ⊥) → at < 2 → at ≡ 1
at_second zero h l = absurd (h refl)
at_second (suc zero) h l = refl
at_second (suc (suc k)) h l = absurd (omega arith)

-- an input other than 0 is 1, where a node like this one has at most two
pub at_body : (at n m : ℕ) → (at ≡ 0 → ⊥) → at < n → n ≡ m → m ≤ 2 → at ≡ 1
at_body at n m h l e k = at_second at h (omega (arith, l, e, k))
