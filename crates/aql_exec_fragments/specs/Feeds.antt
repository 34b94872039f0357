-- Feeds that one executor gathers, each as an input: their trees, the rests that are possible, their links,
-- their budget, and what is true of them and of the executor between two calls.
use Rattle.std.specs.Prelude.{ℕ, suc, ◌≡◌, ◌+◌, ◌*◌, ◌<◌, List, [], ◌∷◌, length, true, Some, slice_get, ◌&&◌}
use Rattle.aql_plan.specs.declared.facts.Facts.{Facts}
use Rattle.aql_exec.specs.declared.feed.Executor.{Ghosts}
use Rattle.aql_exec.specs.declared.feed.Feed
use Rattle.aql_exec.specs.declared.surroundings.Surroundings
use Rattle.aql_exec.specs.Rests.{Exact, Rest, Ends}
use Rattle.aql_exec.specs.Operators.{OperatorTree, leaf, StartRow, OperatorTrees, no_trees, tree_then, arity, begins, exact_at, exact_tree, exact_in, IsOperator, AreTrees}
use Rattle.aql_engine.specs.Tree.{Input, Disjoint, Flies}

-- an executor without a body
abbrev pub no_body : OperatorTree
no_body = leaf StartRow

-- a bound for each, where one at the first place counts so often, and so on
abbrev pub total : {A : Type 0} → (A → ℕ) → (ℕ → ℕ) → List A → ℕ
total bound cost [] = 0
total bound cost (f ∷ fs) = cost 0 * bound f + total bound (λ k. cost (suc k)) fs

module _ {F W : Type 0} (h : Feed.Ghosts F W) where
  abbrev pub trees_of : List F → OperatorTrees
  trees_of [] = no_trees
  trees_of (f ∷ fs) = tree_then (h.plan f) (trees_of fs)

  -- the rests of what stands at a place
  abbrev pub RestsAt : List F → W → ℕ → Rest → Type 0
  RestsAt feeds w k r = (f : F) → slice_get feeds k ≡ Some f → h.rests f w r

  abbrev pub OwnOfAny : List F → ℕ → Type 0
  OwnOfAny feeds l = (k : ℕ) × (f : F) × (slice_get feeds k ≡ Some f) × h.ours f l

  -- no link is of two of them
  abbrev pub AllApart : List F → Type 0
  AllApart feeds = (j k : ℕ) (a b : F) → slice_get feeds j ≡ Some a → slice_get feeds k ≡ Some b
      → (j ≡ k → ⊥) → Disjoint (h.ours a) (h.ours b)

  -- these feeds run the same trees, and start with the same budgets
  pub record SameFeeds (feeds feeds' : List F) : Type 0 where
    pub trees : trees_of feeds' ≡ trees_of feeds
    pub fulls : (cost : ℕ → ℕ) → total h.full cost feeds' ≡ total h.full cost feeds
    pub count : length feeds' ≡ length feeds

module _ {X F W : Type 0} (g : Ghosts X W) (h : Feed.Ghosts F W) (p : Surroundings.Ghosts W) where
  -- what the executor and all of them count exactly
  abbrev pub exact_over : X → List F → Exact
  exact_over x feeds c = exact_at (g.node x) c && exact_in (trees_of h feeds) c

  abbrev pub GatheredRests : X → List F → W → Rest → Type 0
  GatheredRests x feeds w r = (lists : ℕ → Rest) × Ends (exact_over x feeds) (g.ended x) lists
      × ((k : ℕ) → RestsAt h feeds w k (lists k)) × g.gives x w 0 no_body lists r

  -- what is known of a feed as this input
  abbrev pub InputIs : X → F → W → ℕ → Type 0
  InputIs x f w k = Input (h.valid f w) true (g.ended x k) (g.waited x k) (g.asks x k) (h.may f)
      (exact_tree (h.plan f)) (h.rests f w) (h.ours f) (Flies g p w)

  -- what is true between two calls
  pub record Gathering (x : X) (feeds : List F) (w : W) : Type 0 where
    pub executor_valid : g.valid x w
    pub begun : (k : ℕ) → k < length feeds → g.started x k ≡ true
    pub inputs : (k : ℕ) (f : F) → slice_get feeds k ≡ Some f → InputIs x f w k
    pub none_unreported : (k : ℕ) → g.unreported x k ≡ 0
    pub none_waits : (k : ℕ) → g.waited x k → ⊥
    pub apart : AllApart h feeds

  -- the executor has an input for each of them, and all inputs begin with it
  pub record Gathers (facts : Facts) (x : X) (feeds : List F) : Type 0 where
    pub is_operator : IsOperator facts (g.node x)
    pub as_many : arity (g.node x) ≡ length feeds
    pub at_once : (k : ℕ) → k < arity (g.node x) → begins (g.node x) k ≡ true
    pub are_trees : AreTrees facts (trees_of h feeds)

  -- the budget, by what rows of inputs counted at first
  abbrev pub gathered_budget : X → X → List F → W → ℕ
  gathered_budget x0 x feeds w =
      g.budget x w 0 + total (λ f. h.budget f w) (λ k. g.row_cost x0 k 0) feeds
