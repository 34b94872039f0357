-- A tree of executors as one feed: its plan, its possible rests, its links, and what is true of it between
-- two calls. What is said of a node with two inputs is said of its parts first, since a loop over the node
-- works on the parts.
use Rattle.std.specs.Prelude.{ℕ, ◌≡◌, ◌+◌, ◌*◌, ◌<◌, ◌⊎◌, length, Bool, true, cond}
use Rattle.aql_block.specs.declared.calls.Call.{Call}
use Rattle.aql_exec.specs.declared.feed.Executor.{Ghosts}
use Rattle.aql_exec.specs.declared.surroundings.Surroundings
use Rattle.aql_exec.specs.Rests.{Exact, Rest, Over, Ends}
use Rattle.aql_exec.specs.Operators.{OperatorTree, arity, drains, leaf, within, StartRow, no_rest, exact_tree}
use Rattle.aql_engine.specs.declared.tree.Tree.{Tree, Leaf, Sub'}

-- what is known of an input of a node; `waits` says that it was found waiting
pub record Input (valid : Type 0) (started ended : Bool) (waits : Type 0) (asks may : Call → Type 0)
    (e : Exact) (rests : Rest → Type 0) (own flies : ℕ → Type 0) : Type 0 where
  pub input_valid : started ≡ true → valid
  pub may_ask : started ≡ true → (c : Call) → asks c → may c
  pub none_left : started ≡ true → ended ≡ true → Over e rests
  pub in_flight : waits → (started ≡ true) × (l : ℕ) × own l × flies l

-- no link is of both
abbrev pub Disjoint : (ℕ → Type 0) → (ℕ → Type 0) → Type 0
Disjoint a b = (l : ℕ) → a l → b l → ⊥

-- what is true of a node with two inputs between two calls
pub record AtRest (executor below body begun : Type 0) (unreported : ℕ → ℕ) (waited : ℕ → Type 0)
    (busy apart_below apart_body apart : Type 0) : Type 0 where
  pub executor_valid : executor
  pub below_is : below
  pub body_is : body
  pub begun_is : begun
  pub none_unreported : (k : ℕ) → unreported k ≡ 0
  pub none_waits : (k : ℕ) → waited k → ⊥
  pub idle : busy → ⊥
  pub from_below : apart_below
  pub from_body : apart_body
  pub between : apart

module _ {X W : Type 0} (g : Ghosts X W) (p : Surroundings.Ghosts W) where
  -- ---- a node with two inputs, by what is said of each

  -- a message is on the link
  abbrev pub Flies : W → ℕ → Type 0
  Flies w l = 0 < length (p.flight w l).flying

  -- an input was found waiting, as its executor holds, also since an earlier Give
  abbrev pub Waits : X → ℕ → Type 0
  Waits x k = g.waited x k ⊎ g.stuck x k

  -- the same in the midst of the work of a port: what an earlier Give left counts at port 0 alone
  abbrev pub WaitsAt : ℕ → X → ℕ → Type 0
  WaitsAt port x k = g.waited x k ⊎ ((port ≡ 0) × g.stuck x k)

  -- a rest of the node, for rests of its inputs
  abbrev pub RestsOf : Exact → X → W → OperatorTree → (Rest → Type 0) → (Rest → Type 0) → Rest → Type 0
  RestsOf e x w plan below body r = (ins : ℕ → Rest) × Ends e (g.ended x) ins × below (ins 0)
      × (g.started x 1 ≡ true → body (ins 1)) × g.gives x w 0 plan ins r

  -- the links of the body count while it runs
  abbrev pub OwnOf : X → (ℕ → Type 0) → (ℕ → Type 0) → ℕ → Type 0
  OwnOf x below body l = g.ours x l ⊎ below l ⊎ ((g.started x 1 ≡ true) × body l)

  abbrev pub ValidOf : (X → ℕ → Type 0) → X → W → Type 0 → (Call → Type 0) → Exact → (Rest → Type 0)
      → (ℕ → Type 0) → Type 0 → (Call → Type 0) → Exact → (Rest → Type 0) → (ℕ → Type 0) → Type 0
  ValidOf waits x w below may e rests own body body_may body_e body_rests body_own = AtRest (g.valid x w)
      (Input below (g.started x 0) (g.ended x 0) (waits x 0) (g.asks x 0) may e rests own (Flies w))
      (Input body (g.started x 1) (g.ended x 1) (waits x 1) (g.asks x 1) body_may body_e body_rests body_own
      (Flies w))
      (g.started x 0 ≡ true) (g.unreported x) (g.waited x) (g.busy x) (Disjoint (g.ours x) own)
      (Disjoint (g.ours x) (λ l. (g.started x 1 ≡ true) × body_own l))
      (Disjoint own (λ l. (g.started x 1 ≡ true) × body_own l))

  -- ---- a tree

  abbrev pub tree_plan : Tree X → OperatorTree
  tree_plan (Leaf x) = leaf (g.node x)
  tree_plan (Sub' x q below s body) = within (g.node x) (tree_plan below) (tree_plan body)

  -- what a node with these inputs counts exactly
  abbrev pub node_exact : X → Tree X → Tree X → Exact
  node_exact x below body = exact_tree (within (g.node x) (tree_plan below) (tree_plan body))

  abbrev pub TreeRests : Tree X → W → Rest → Type 0
  TreeRests (Leaf x) w r = g.gives x w 0 (leaf StartRow) (λ k. no_rest) r
  TreeRests (Sub' x q below s body) w r =
      RestsOf (node_exact x below body) x w (tree_plan body) (TreeRests below w) (TreeRests body w) r

  abbrev pub TreeOwn : Tree X → ℕ → Type 0
  TreeOwn (Leaf x) l = g.ours x l
  TreeOwn (Sub' x q below s body) l = OwnOf x (TreeOwn below) (TreeOwn body) l

  abbrev pub TreeMay : Tree X → Call → Type 0
  TreeMay (Leaf x) c = g.may x 0 c
  TreeMay (Sub' x q below s body) c = g.may x 0 c

  abbrev pub TreeValid : Tree X → W → Type 0
  TreeValid (Leaf x) w =
      g.valid x w × ((k : ℕ) → g.unreported x k ≡ 0) × ((k : ℕ) → g.waited x k → ⊥) × (g.busy x → ⊥)
  TreeValid (Sub' x q below s body) w = ValidOf Waits x w
      (TreeValid below w) (TreeMay below) (exact_tree (tree_plan below)) (TreeRests below w) (TreeOwn below)
      (TreeValid body w) (TreeMay body) (exact_tree (tree_plan body)) (TreeRests body w) (TreeOwn body)

  -- the inputs of a node were done before they had given all that was wanted of them
  abbrev pub NodeDrained : X → Type 0
  NodeDrained x = drains (g.node x) 0 ≡ true → (k : ℕ) → k < arity (g.node x) → g.started x k ≡ true
      → g.ended x k ≡ true

  abbrev pub TreeDrained : Tree X → Type 0
  TreeDrained (Leaf x) = Unit {0}
  TreeDrained (Sub' x q below s body) = NodeDrained x

  abbrev pub tree_full : Tree X → ℕ
  tree_full (Leaf x) = g.full x 0
  tree_full (Sub' x q below s body) =
      g.full x (tree_full body) + g.row_cost x 0 (tree_full body) * tree_full below

  abbrev pub tree_budget : Tree X → W → ℕ
  tree_budget (Leaf x) w = g.budget x w 0
  tree_budget (Sub' x q below s body) w =
      (g.budget x w (tree_full body) + g.row_cost x 0 (tree_full body) * tree_budget below w)
      + g.row_cost x 1 (tree_full body) * cond (g.started x 1) (tree_budget body w) 0

  -- ---- the parts of a node of a tree

  abbrev pub NodeRests : X → Tree X → Tree X → W → Rest → Type 0
  NodeRests x below body w r =
      RestsOf (node_exact x below body) x w (tree_plan body) (TreeRests below w) (TreeRests body w) r

  abbrev pub NodeOwn : X → Tree X → Tree X → ℕ → Type 0
  NodeOwn x below body l = OwnOf x (TreeOwn below) (TreeOwn body) l

  abbrev pub NodeValid : (X → ℕ → Type 0) → X → Tree X → Tree X → W → Type 0
  NodeValid waits x below body w = ValidOf waits x w
      (TreeValid below w) (TreeMay below) (exact_tree (tree_plan below)) (TreeRests below w) (TreeOwn below)
      (TreeValid body w) (TreeMay body) (exact_tree (tree_plan body)) (TreeRests body w) (TreeOwn body)

  -- the budget, by what rows of inputs counted at first
  abbrev pub NodeBudget : X → Tree X → X → Tree X → Tree X → W → ℕ
  NodeBudget x0 body0 x below body w =
      (g.budget x w (tree_full body0) + g.row_cost x0 0 (tree_full body0) * tree_budget below w)
      + g.row_cost x0 1 (tree_full body0) * cond (g.started x 1) (tree_budget body w) 0

  -- the links of the body, while it runs
  abbrev pub BodyOwn : X → Tree X → ℕ → Type 0
  BodyOwn x body l = (g.started x 1 ≡ true) × TreeOwn body l
