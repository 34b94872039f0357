-- What the loop over a node of a tree keeps, while its executor is turned at a port.
use Rattle.std.specs.Prelude.{ℕ, ◌≡◌, ◌<◌, ◌≤◌, ◌⊎◌, List, [], length, Bool, true}
use Rattle.aql_meaning.specs.Row.{Row}
use Rattle.aql_block.specs.declared.calls.Call.{Call}
use Rattle.aql_block.specs.declared.tally.Tally.{Tally}
use Rattle.aql_exec.specs.declared.feed.Executor.{Ghosts}
use Rattle.aql_exec.specs.declared.surroundings.Surroundings
use Rattle.aql_exec.specs.Rests.{Counts, Exact, Rest, with_rows, Prefixed, Ends}
use Rattle.aql_exec.specs.Rising.{ExactFor, Rises}
use Rattle.aql_exec.specs.Operators.{exact_tree}
use Rattle.aql_engine.specs.declared.tree.Tree.{Tree}
use Rattle.aql_engine.proofs.Reading.{ReadSoFar}
use Rattle.aql_engine.specs.Tree.{Input, Disjoint, Flies, WaitsAt, tree_plan, node_exact, TreeRests, TreeOwn, TreeMay, TreeValid, tree_full, NodeRests, NodeOwn, NodeBudget, BodyOwn}

-- each rest that is possible now leads to one that was possible before, past the rows that are unreported
abbrev pub Leads : Exact → (Rest → Type 0) → Type 0 → (Rest → Type 0) → (ℕ → Bool) → (ℕ → ℕ)
    → ((ℕ → Rest) → Rest → Type 0) → Counts → (Rest → Type 0) → Type 0
Leads e below begun body ended unreported gives d before =
    (ins : ℕ → Rest) → Ends e ended ins → below (ins 0) → (begun → body (ins 1))
    → (s : ℕ → List Row) × ((k : ℕ) → length (s k) ≡ unreported k)
    × ((ins' : ℕ → Rest) → ((k : ℕ) → ins' k ≡ with_rows (s k) (ins k)) → (r : Rest) → gives ins' r
    → (b : Rest) × Prefixed e [] d r b × before b)

module _ {X W : Type 0} (g : Ghosts X W) (p : Surroundings.Ghosts W) where
  -- the node as it was before the loop is x0 over below0 and body0, in the world w0, with the tally t0
  pub record Turning (port : ℕ) (call : Call) (x0 : X) (below0 body0 : Tree X) (w0 : W) (t0 : Tally) (x : X)
      (below body : Tree X) (w : W) (t : Tally) : Type 0 where
    pub executor_valid : g.valid x w
    pub below_is : Input (TreeValid g p below w) (g.started x 0) (g.ended x 0) (WaitsAt g p port x 0)
        (g.asks x 0) (TreeMay g p below) (exact_tree (tree_plan g p below)) (TreeRests g p below w)
        (TreeOwn g p below) (Flies g p w)
    pub body_is : Input (TreeValid g p body w) (g.started x 1) (g.ended x 1) (WaitsAt g p port x 1)
        (g.asks x 1) (TreeMay g p body) (exact_tree (tree_plan g p body)) (TreeRests g p body w)
        (TreeOwn g p body) (Flies g p w)
    pub begun_is : g.started x 0 ≡ true
    pub reads : ReadSoFar (g.node x0) (tree_plan g p below0) call.offset (g.held x) t0.scanned_full t.scanned_full
    pub added : Counts
    pub rises : Rises p (ExactFor (node_exact g p x0 below0 body0) call) t0 w0 t w added
    pub leads : Leads (node_exact g p x0 below0 body0) (TreeRests g p below w) (g.started x 1 ≡ true) (TreeRests g p body w) (g.ended x)
        (g.unreported x) (g.gives x w 0 (tree_plan g p body0)) added (NodeRests g p x0 below0 body0 w0)

  pub record Kept (port : ℕ) (x0 : X) (below0 body0 : Tree X) (w0 : W) (x : X) (below body : Tree X)
      (w : W) (call : Call) : Type 0 where
    pub node_kept : g.node x ≡ g.node x0
    pub plan_kept : tree_plan g p below ≡ tree_plan g p below0
    pub body_plan_kept : tree_plan g p body ≡ tree_plan g p body0
    pub full_kept : (f : ℕ) → g.full x f ≡ g.full x0 f
    pub row_cost_kept : (k f : ℕ) → g.row_cost x k f ≡ g.row_cost x0 k f
    pub below_full_kept : tree_full g p below ≡ tree_full g p below0
    pub body_full_kept : tree_full g p body ≡ tree_full g p body0
    pub stock_kept : p.stock w ≡ p.stock w0
    pub batch_kept : p.batch w ≡ p.batch w0
    pub grows : p.links w0 ≤ p.links w
    pub deliveries_kept : p.deliveries w ≡ p.deliveries w0
    pub may_come : g.may x port call
    pub other_ports : (q : ℕ) (c : Call) → (q ≡ port → ⊥) → g.may x0 q c → g.may x q c
    pub idle : port ≡ 0 → g.busy x → ⊥
    pub budget_kept : NodeBudget g p x0 body0 x below body w ≤ NodeBudget g p x0 body0 x0 below0 body0 w0

  pub record Linked (x0 : X) (below0 body0 : Tree X) (w0 : W) (x : X) (below body : Tree X) (w : W)
      : Type 0 where
    pub from_below : Disjoint (g.ours x) (TreeOwn g p below)
    pub from_body : Disjoint (g.ours x) (BodyOwn g p x body)
    pub between : Disjoint (TreeOwn g p below) (BodyOwn g p x body)
    pub ours_new : (l : ℕ) → NodeOwn g p x below body l → NodeOwn g p x0 below0 body0 l ⊎ (p.links w0 ≤ l)
    pub others : (l : ℕ) → l < p.links w0 → (NodeOwn g p x0 below0 body0 l → ⊥)
        → p.flight w l ≡ p.flight w0 l
