-- What executors and feeds promise of several members at once.
use Rattle.std.specs.Prelude.{ℕ, ◌≡◌, ◌<◌, ◌≤◌, Bool, false}
use Rattle.aql_block.specs.declared.calls.Call.{Call}
use Rattle.aql_exec.specs.Steps.{IsCall}
use Rattle.aql_exec.specs.Operators.{Operator, begins}
use Rattle.aql_exec.specs.declared.surroundings.Surroundings

-- an executor runs the node that it ran, and a row is worth as much to it
pub record SameNode (node node' : Operator) (full full' : ℕ → ℕ)
    (row_cost row_cost' : ℕ → ℕ → ℕ) : Type 0 where
  pub node_is : node' ≡ node
  pub full_is : (f : ℕ) → full' f ≡ full f
  pub row_cost_is : (k f : ℕ) → row_cost' k f ≡ row_cost k f

-- it was begun: its inputs are as they begin, and any call may come
pub record Begun (node : Operator) (unreported : ℕ → ℕ) (ours waited stuck : ℕ → Type 0) (busy : Type 0)
    (may asks : ℕ → Call → Type 0) (ended started : ℕ → Bool) : Type 0 where
  pub none_unreported : (k : ℕ) → unreported k ≡ 0
  pub no_link : (l : ℕ) → ours l → ⊥
  pub none_waited : (k : ℕ) → waited k → ⊥
  pub none_stuck : (k : ℕ) → stuck k → ⊥
  pub idle : busy → ⊥
  pub may_come : (c : Call) → IsCall c → may 0 c
  pub asks_calls : (k : ℕ) (c : Call) → asks k c → IsCall c
  pub none_ended : (k : ℕ) → ended k ≡ false
  pub started_is : (k : ℕ) → started k ≡ begins node k

-- nothing in the surroundings moved; the servers may have counted
pub record IsStill {W : Type 0} (p : Surroundings.Ghosts W) (w w' : W) : Type 0 where
  pub stock : p.stock w' ≡ p.stock w
  pub deliveries : p.deliveries w' ≡ p.deliveries w
  pub batch : p.batch w' ≡ p.batch w
  pub links : p.links w' ≡ p.links w
  pub flight : (l : ℕ) → p.flight w' l ≡ p.flight w l

-- what a feed with these links leaves of its surroundings: the documents, the deliveries, the batch, and all
-- other links
pub record Beside {W : Type 0} (p : Surroundings.Ghosts W) (own : ℕ → Type 0) (w w' : W) : Type 0 where
  pub stock : p.stock w' ≡ p.stock w
  pub deliveries : p.deliveries w' ≡ p.deliveries w
  pub batch : p.batch w' ≡ p.batch w
  pub grows : p.links w ≤ p.links w'
  pub others : (l : ℕ) → l < p.links w → (own l → ⊥) → p.flight w' l ≡ p.flight w l
