-- What a node leaves of its surroundings, after its executor was turned and after an input was pulled.
use Rattle.std.proofs.Common.{ℕ, ◌∙◌, inl, inr}
use Rattle.aql_block.specs.declared.calls.Call.{Call}
use Rattle.aql_exec.specs.declared.feed.Executor.{Ghosts}
use Rattle.aql_exec.specs.declared.surroundings.Surroundings
use Rattle.aql_exec.specs.Promises.{Beside}
use Rattle.aql_engine.specs.declared.tree.Tree.{Tree}
use Rattle.aql_engine.specs.Tree.{NodeOwn}
use Rattle.aql_engine.proofs.Loops.{Kept, Linked}
use Rattle.aql_engine.proofs.Inputs.{at_most, is_below, not_new}

module _ {X W : Type 0} (g : Ghosts X W) (p : Surroundings.Ghosts W) {port : ℕ} {call : Call} {x0 x : X}
    {below0 body0 below body : Tree X} {w0 w : W} (kept : Kept g p port x0 below0 body0 w0 x below body w call)
    (links : Linked g p x0 below0 body0 w0 x below body w) where
  abbrev own : ℕ → Type 0
  own = NodeOwn g p x0 below0 body0

  pub turned_beside : (w1 : W) → Beside p (g.ours x) w w1 → Beside p own w0 w1
  turned_beside w1 t = record {
    stock = t.stock ∙ kept.stock_kept;
    deliveries = t.deliveries ∙ kept.deliveries_kept;
    batch = t.batch ∙ kept.batch_kept;
    grows = at_most kept.grows t.grows;
    others = λ l n no.
        t.others l (is_below n kept.grows)
        (λ q. elim (links.ours_new l (inl q)) [ inl z ↦ no z | inr z ↦ not_new n z ])
        ∙ links.others l n no;
  }

  -- the links of the input were the node's
  pub pulled_beside : (w1 w2 : W) (input : ℕ → Type 0) → ((l : ℕ) → input l → NodeOwn g p x below body l)
      → Beside p own w0 w1 → Beside p input w1 w2 → Beside p own w0 w2
  pulled_beside w1 w2 input is_own t q = record {
    stock = q.stock ∙ t.stock;
    deliveries = q.deliveries ∙ t.deliveries;
    batch = q.batch ∙ t.batch;
    grows = at_most t.grows q.grows;
    others = λ l n no.
        q.others l (is_below n t.grows)
        (λ o. elim (links.ours_new l (is_own l o)) [ inl z ↦ no z | inr z ↦ not_new n z ])
        ∙ t.others l n no;
  }
