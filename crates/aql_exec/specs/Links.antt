-- Deliveries: one message is taken off its link, at the place that was picked.
use Rattle.std.specs.Prelude.{ℕ, ◌≡◌, ◌<◌, List, [], ◌∷◌, ◌++◌, length}
use Rattle.aql_exec.specs.declared.turns.Message.{Message}
use Rattle.aql_exec.specs.Lines.{Flying, Deliveries}
use Rattle.aql_exec.specs.declared.surroundings.Surroundings

-- a message was taken off its link, and nothing else happened
pub record Taken {W : Type 0} (p : Surroundings.Ghosts W) (w w' : W) (l : ℕ) (m : Message) : Type 0 where
  pub stock_kept : p.stock w' ≡ p.stock w
  pub batch_kept : p.batch w' ≡ p.batch w
  pub links_kept : p.links w' ≡ p.links w
  pub counted_kept : p.counted w' ≡ p.counted w
  pub older : List Message
  pub newer : List Message
  pub was : (p.flight w l).flying ≡ older ++ (m ∷ newer)
  pub is : (p.flight w' l).flying ≡ older ++ newer
  pub talk_kept : (j : ℕ) → (p.flight w' j).talk ≡ (p.flight w j).talk
  pub sent_kept : (j : ℕ) → (p.flight w' j).sent ≡ (p.flight w j).sent
  pub others : (j : ℕ) → (j ≡ l → ⊥) → p.flight w' j ≡ p.flight w j

-- of these messages the one at the place was taken
pub record TakenAt (place : ℕ) (before after : List Flying) (l : ℕ) (m : Message) : Type 0 where
  pub older : List Flying
  pub newer : List Flying
  pub was : before ≡ older ++ (record { link = l; message = m } ∷ newer)
  pub is : after ≡ older ++ newer
  pub at : length older ≡ place

-- one delivery more
pub record Delivers (among place : ℕ) (before after : Deliveries) : Type 0 where
  pub picks : after.picks ≡ before.picks ++ (record { among = among; place = place } ∷ [])
  pub left : after.left < before.left
