-- What holds of every tree of executors: there is always a rest, and what happens elsewhere in the world
-- keeps its rests, what is true of it, and its budget.
use Rattle.std.specs.Prelude.{ℕ, zero, suc, ◌≡◌, ◌+◌, ◌*◌, ◌<◌, ◌≤◌, Bool, true, false, cond, refl}
use Rattle.std.proofs.Common.{arith, inl, inr}
use Rattle.std.proofs.Math.Nat.{le_refl, mul-le-mul_left}
use Rattle.std.proofs.lemmas.Bool.{false≢true}
use Rattle.aql_exec.specs.declared.feed.Executor.{Ghosts}
use Rattle.aql_exec.specs.declared.surroundings.Surroundings
use Rattle.aql_exec.specs.Rests.{Exact, Rest, IsOver, Over}
use Rattle.aql_exec.specs.Operators.{OperatorTree, leaf, StartRow, no_rest, exact_tree}
use Rattle.aql_engine.specs.declared.tree.Tree.{Tree, Leaf, Sub'}
use Rattle.aql_engine.specs.laws.Exactness.{exact_below, exact_body, over_weaker}
use Rattle.aql_engine.specs.Tree.{Flies, tree_plan, node_exact, TreeRests, TreeOwn, TreeValid, tree_full, tree_budget}

pub cond_more : (b : Bool) (m n c : ℕ) → (b ≡ true → m ≤ n) → c * cond b m 0 ≤ c * cond b n 0
cond_more true m n c h = let k : m ≤ n = h refl in mul-le-mul_left c k
cond_more false m n c h = le_refl (c * 0)

-- a rest of an input, one with no rows where it ended
pub choose : (e : Exact) (started ended : Bool) (R : Rest → Type 0)
    → (started ≡ true → ended ≡ true → Over e R) → (started ≡ true → (r : Rest) × R r)
    → (r : Rest) × (ended ≡ true → IsOver e r) × (started ≡ true → R r)
choose v true true R f s = (let o = s refl in (o.0, λ _. f refl refl o.0 o.1, λ _. o.1))
choose v true false R f s = (let o = s refl in (o.0, λ e. absurd (false≢true e), λ _. o.1))
choose v false ended R f s = (no_rest, (λ _. (refl, λ c i. refl)), λ e. absurd (false≢true e))

-- the rests of two inputs
abbrev pub two : Rest → Rest → ℕ → Rest
two a b zero = a
two a b (suc zero) = b
two a b (suc (suc k)) = no_rest

pub two_end : (v : Exact) (a b : Rest) (ended : ℕ → Bool) → (ended 0 ≡ true → IsOver v a)
    → (ended 1 ≡ true → IsOver v b) → (k : ℕ) → ended k ≡ true → IsOver v (two a b k)
two_end v a b ended f g zero e = f e
two_end v a b ended f g (suc zero) e = g e
two_end v a b ended f g (suc (suc k)) e = (refl, λ c i. refl)

pub three : (a b c d e f : ℕ) → a ≤ b → c ≤ d → e ≤ f → (a + c) + e ≤ (b + d) + f
three a b c d e f h i j = omega arith

module _ {X W : Type 0} (g : Ghosts X W) (p : Surroundings.Ghosts W) where
  pub tree_some : ((s : X) (w : W) (k : ℕ) (plan : OperatorTree) (ins : ℕ → Rest) → g.valid s w
      → (r : Rest) × g.gives s w k plan ins r)
      → (t : Tree X) (w : W) → TreeValid g p t w → (r : Rest) × TreeRests g p t w r
  tree_some some (Leaf x) w h = some x w 0 (leaf StartRow) (λ k. no_rest) h.0
  tree_some some (Sub' x q below s body) w h =
      let v = node_exact g p x below body in
      let a = choose v (g.started x 0) (g.ended x 0) (TreeRests g p below w)
      (λ s e r q. over_weaker v (exact_tree (tree_plan g p below)) r
      (exact_below (g.node x) (tree_plan g p below) (tree_plan g p body)) (h.below_is.none_left s e r q))
      (λ b. tree_some some below w (h.below_is.input_valid b)) in
      let b = choose v (g.started x 1) (g.ended x 1) (TreeRests g p body w)
      (λ s e r q. over_weaker v (exact_tree (tree_plan g p body)) r
      (exact_body (g.node x) (tree_plan g p below) (tree_plan g p body)) (h.body_is.none_left s e r q))
      (λ b. tree_some some body w (h.body_is.input_valid b)) in
      let o = some x w 0 (tree_plan g p body) (two a.0 b.0) h.executor_valid in
      (o.0, (two a.0 b.0, two_end v a.0 b.0 (g.ended x) a.1 b.1, a.2 h.begun_is, b.2, o.1))

  abbrev pub KeptGives : Type 0
  KeptGives =
      (s : X) (w w' : W) → p.stock w' ≡ p.stock w → ((l : ℕ) → g.ours s l → p.flight w' l ≡ p.flight w l)
      → (k : ℕ) (plan : OperatorTree) (ins : ℕ → Rest) (r : Rest)
      → g.gives s w' k plan ins r → g.gives s w k plan ins r

  pub tree_kept_rests : KeptGives → (t : Tree X) (w w' : W) → p.stock w' ≡ p.stock w
      → ((l : ℕ) → TreeOwn g p t l → p.flight w' l ≡ p.flight w l) → (r : Rest) → TreeRests g p t w' r
      → TreeRests g p t w r
  tree_kept_rests k (Leaf x) w w' e f r h = k x w w' e f 0 (leaf StartRow) (λ k. no_rest) r h
  tree_kept_rests k (Sub' x q below s body) w w' e f r h = (
    h.0,
    h.1,
    tree_kept_rests k below w w' e (λ l o. f l (inr (inl o))) (h.0 0) h.2,
    (λ b. tree_kept_rests k body w w' e (λ l o. f l (inr (inr (b, o)))) (h.0 1) (h.3 b)),
    k x w w' e (λ l o. f l (inl o)) 0 (tree_plan g p body) h.0 r h.4,
  )

  abbrev pub KeptValid : Type 0
  KeptValid =
      (s : X) (w w' : W) → p.stock w' ≡ p.stock w → p.batch w' ≡ p.batch w → p.links w ≤ p.links w'
      → ((l : ℕ) → g.ours s l → p.flight w' l ≡ p.flight w l) → g.valid s w → g.valid s w'

  pub flies_kept : (w w' : W) (l : ℕ) → p.flight w' l ≡ p.flight w l → Flies g p w l → Flies g p w' l
  flies_kept w w' l e h = rw e h

  pub tree_kept_valid : KeptGives → KeptValid → (t : Tree X) (w w' : W) → p.stock w' ≡ p.stock w
      → p.batch w' ≡ p.batch w → p.links w ≤ p.links w'
      → ((l : ℕ) → TreeOwn g p t l → p.flight w' l ≡ p.flight w l) → TreeValid g p t w → TreeValid g p t w'
  tree_kept_valid k v (Leaf x) w w' e b n f h = (v x w w' e b n f h.0, h.1, h.2, h.3)
  tree_kept_valid k v (Sub' x q below s body) w w' e b n f h = record {
    executor_valid = v x w w' e b n (λ l o. f l (inl o)) h.executor_valid;
    below_is = record {
      input_valid =
          λ d. tree_kept_valid k v below w w' e b n (λ l o. f l (inr (inl o))) (h.below_is.input_valid d);
      may_ask = h.below_is.may_ask;
      none_left =
          λ s d r o. h.below_is.none_left s d r
          (tree_kept_rests k below w w' e (λ l o. f l (inr (inl o))) r o);
      in_flight =
          λ a. (let o = h.below_is.in_flight a
          in (o.0, o.1, o.2, flies_kept w w' o.1 (f o.1 (inr (inl o.2))) o.3));
    };
    body_is = record {
      input_valid =
          λ d. tree_kept_valid k v body w w' e b n (λ l o. f l (inr (inr (d, o)))) (h.body_is.input_valid d);
      may_ask = h.body_is.may_ask;
      none_left =
          λ s d r o. h.body_is.none_left s d r
          (tree_kept_rests k body w w' e (λ l q. f l (inr (inr (s, q)))) r o);
      in_flight =
          λ a. (let o = h.body_is.in_flight a
          in (o.0, o.1, o.2, flies_kept w w' o.1 (f o.1 (inr (inr (o.0, o.2)))) o.3));
    };
    begun_is = h.begun_is;
    none_unreported = h.none_unreported;
    none_waits = h.none_waits;
    idle = h.idle;
    from_below = h.from_below;
    from_body = h.from_body;
    between = h.between;
  }

  abbrev pub KeptBudget : Type 0
  KeptBudget =
      (s : X) (w w' : W) → p.stock w' ≡ p.stock w → ((l : ℕ) → g.ours s l → p.flight w' l ≡ p.flight w l)
      → (f : ℕ) → g.budget s w' f ≤ g.budget s w f

  pub tree_kept_budget : KeptBudget → (t : Tree X) (w w' : W) → p.stock w' ≡ p.stock w
      → ((l : ℕ) → TreeOwn g p t l → p.flight w' l ≡ p.flight w l)
      → tree_budget g p t w' ≤ tree_budget g p t w
  tree_kept_budget k (Leaf x) w w' e f = k x w w' e f 0
  tree_kept_budget k (Sub' x q below s body) w w' e f =
      let a = k x w w' e (λ l o. f l (inl o)) (tree_full g p body) in
      let b = tree_kept_budget k below w w' e (λ l o. f l (inr (inl o))) in
      let c = cond_more (g.started x 1) (tree_budget g p body w') (tree_budget g p body w)
      (g.row_cost x 1 (tree_full g p body))
      (λ t. tree_kept_budget k body w w' e (λ l o. f l (inr (inr (t, o))))) in
      three _ _ _ _ _ _ a (mul-le-mul_left (g.row_cost x 0 (tree_full g p body)) b) c

  abbrev pub OwnLinks : Type 0
  OwnLinks = (s : X) (w : W) → g.valid s w → (l : ℕ) → g.ours s l → l < p.links w

  pub tree_own_links : OwnLinks → (t : Tree X) (w : W) → TreeValid g p t w → (l : ℕ) → TreeOwn g p t l
      → l < p.links w
  tree_own_links k (Leaf x) w h l o = k x w h.0 l o
  tree_own_links k (Sub' x q below s body) w h l o =
      elim o [
        | inl o ↦ k x w h.executor_valid l o
        | inr o ↦ elim o [
          | inl o ↦ tree_own_links k below w (h.below_is.input_valid h.begun_is) l o
          | inr o ↦ tree_own_links
              k body w (h.body_is.input_valid o.0) l o.1
        ]
      ]
