-- Where a law holds of both executors, it holds of one of them.
use Rattle.std.specs.Prelude.{◌≡◌, ℕ, ◌≤◌, ◌<◌, [], Bool, true}
use Rattle.aql_block.specs.declared.calls.Call.{Call}
use Rattle.aql_exec.specs.declared.feed.Executor.{Ghosts}
use Rattle.aql_exec.specs.declared.surroundings.Surroundings
use Rattle.aql_exec.specs.Rests.{Exact, Rest, Counts, Prefixed}
use Rattle.aql_exec.specs.Operators.{OperatorTree, Operator, ports}
use Rattle.aql_exec.specs.Reads.{is_unlinked}
use Rattle.aql_engine.specs.declared.choice.Choice.{Choice}
use Rattle.aql_engine.specs.declared.choice.Choice.TheVariants.{First, Second}
use Rattle.aql_engine.specs.Choices.{on, On}

module _ {A B W : Type 0} (ga : Ghosts A W) (gb : Ghosts B W) where
  abbrev Some : {Y : Type 0} → Ghosts Y W → Type 0
  Some {Y} g = (s : Y) (w : W) (p : ℕ) (body : OperatorTree) (ins : ℕ → Rest) → g.valid s w
      → (r : Rest) × g.gives s w p body ins r

  pub choice_some : Some ga → Some gb → (s : Choice A B) (w : W) (p : ℕ) (body : OperatorTree)
      (ins : ℕ → Rest) → On (λ a. ga.valid a w) (λ b. gb.valid b w) s
      → (r : Rest) × On (λ a. ga.gives a w p body ins r) (λ b. gb.gives b w p body ins r) s
  choice_some f h (First a) w p body ins v = f a w p body ins v
  choice_some f h (Second b) w p body ins v = h b w p body ins v

  abbrev More : {Y : Type 0} → Ghosts Y W → Type 0
  More {Y} g =
      (v : Exact) (s : Y) (w : W) (p : ℕ) (body : OperatorTree) (k : ℕ) (d : Counts) (ins ins' : ℕ → Rest)
      (r : Rest) → g.started s k ≡ true → Prefixed v [] d (ins k) (ins' k)
      → ((j : ℕ) → (j ≡ k → ⊥) → ins' j ≡ ins j) → g.gives s w p body ins r
      → (b : Rest) × Prefixed v [] d r b × g.gives s w p body ins' b

  pub choice_more : More ga → More gb
      → (v : Exact) (s : Choice A B) (w : W) (p : ℕ) (body : OperatorTree) (k : ℕ)
      (d : Counts) (ins ins' : ℕ → Rest) (r : Rest)
      → on (λ a. ga.started a k) (λ b. gb.started b k) s ≡ true → Prefixed v [] d (ins k) (ins' k)
      → ((j : ℕ) → (j ≡ k → ⊥) → ins' j ≡ ins j)
      → On (λ a. ga.gives a w p body ins r) (λ b. gb.gives b w p body ins r) s
      → (c : Rest) × Prefixed v [] d r c
      × On (λ a. ga.gives a w p body ins' c) (λ b. gb.gives b w p body ins' c) s
  choice_more f h v (First a) w p body k d ins ins' r e q o g = f v a w p body k d ins ins' r e q o g
  choice_more f h v (Second b) w p body k d ins ins' r e q o g = h v b w p body k d ins ins' r e q o g

module _ {A B W : Type 0} (ga : Ghosts A W) (gb : Ghosts B W) (p : Surroundings.Ghosts W) where
  abbrev KeptGives : {Y : Type 0} → Ghosts Y W → Type 0
  KeptGives {Y} g = (s : Y) (w w' : W) → p.stock w' ≡ p.stock w
      → ((l : ℕ) → g.ours s l → p.flight w' l ≡ p.flight w l)
      → (k : ℕ) (body : OperatorTree) (ins : ℕ → Rest) (r : Rest) → g.gives s w' k body ins r
      → g.gives s w k body ins r

  pub choice_gives : KeptGives ga → KeptGives gb → (s : Choice A B) (w w' : W) → p.stock w' ≡ p.stock w
      → ((l : ℕ) → On (λ a. ga.ours a l) (λ b. gb.ours b l) s → p.flight w' l ≡ p.flight w l)
      → (k : ℕ) (body : OperatorTree) (ins : ℕ → Rest) (r : Rest)
      → On (λ a. ga.gives a w' k body ins r) (λ b. gb.gives b w' k body ins r) s
      → On (λ a. ga.gives a w k body ins r) (λ b. gb.gives b w k body ins r) s
  choice_gives f h (First a) w w' e o k body ins r g = f a w w' e o k body ins r g
  choice_gives f h (Second b) w w' e o k body ins r g = h b w w' e o k body ins r g

  abbrev KeptValid : {Y : Type 0} → Ghosts Y W → Type 0
  KeptValid {Y} g = (s : Y) (w w' : W) → p.stock w' ≡ p.stock w → p.batch w' ≡ p.batch w
      → p.links w ≤ p.links w' → ((l : ℕ) → g.ours s l → p.flight w' l ≡ p.flight w l)
      → g.valid s w → g.valid s w'

  pub choice_valid : KeptValid ga → KeptValid gb → (s : Choice A B) (w w' : W) → p.stock w' ≡ p.stock w
      → p.batch w' ≡ p.batch w → p.links w ≤ p.links w'
      → ((l : ℕ) → On (λ a. ga.ours a l) (λ b. gb.ours b l) s → p.flight w' l ≡ p.flight w l)
      → On (λ a. ga.valid a w) (λ b. gb.valid b w) s → On (λ a. ga.valid a w') (λ b. gb.valid b w') s
  choice_valid f h (First a) w w' e c n o v = f a w w' e c n o v
  choice_valid f h (Second b) w w' e c n o v = h b w w' e c n o v

  abbrev KeptBudget : {Y : Type 0} → Ghosts Y W → Type 0
  KeptBudget {Y} g = (s : Y) (w w' : W) → p.stock w' ≡ p.stock w
      → ((l : ℕ) → g.ours s l → p.flight w' l ≡ p.flight w l) → (f : ℕ) → g.budget s w' f ≤ g.budget s w f

  pub choice_budget : KeptBudget ga → KeptBudget gb → (s : Choice A B) (w w' : W) → p.stock w' ≡ p.stock w
      → ((l : ℕ) → On (λ a. ga.ours a l) (λ b. gb.ours b l) s → p.flight w' l ≡ p.flight w l) → (f : ℕ)
      → on (λ a. ga.budget a w' f) (λ b. gb.budget b w' f) s ≤ on (λ a. ga.budget a w f)
      (λ b. gb.budget b w f) s
  choice_budget f h (First a) w w' e o n = f a w w' e o n
  choice_budget f h (Second b) w w' e o n = h b w w' e o n

  abbrev OwnLinks : {Y : Type 0} → Ghosts Y W → Type 0
  OwnLinks {Y} g = (s : Y) (w : W) → g.valid s w → (l : ℕ) → g.ours s l → l < p.links w

  pub choice_links : OwnLinks ga → OwnLinks gb → (s : Choice A B) (w : W)
      → On (λ a. ga.valid a w) (λ b. gb.valid b w) s
      → (l : ℕ) → On (λ a. ga.ours a l) (λ b. gb.ours b l) s → l < p.links w
  choice_links f h (First a) w v l o = f a w v l o
  choice_links f h (Second b) w v l o = h b w v l o

  abbrev NoLink : {Y : Type 0} → Ghosts Y W → Type 0
  NoLink {Y} g = (s : Y) (l : ℕ) → g.ours s l → is_unlinked (g.node s) ≡ true → ⊥

  pub choice_no_link : NoLink ga → NoLink gb → (s : Choice A B) (l : ℕ)
      → On (λ a. ga.ours a l) (λ b. gb.ours b l) s → is_unlinked (on ga.node gb.node s) ≡ true → ⊥
  choice_no_link f h (First a) l o = f a l o
  choice_no_link f h (Second b) l o = h b l o

pub choice_none : {A B : Type 0} (fa : A → ℕ → Type 0) (fb : B → ℕ → Type 0)
    → ((s : A) (l : ℕ) → fa s l → ⊥) → ((s : B) (l : ℕ) → fb s l → ⊥)
    → (s : Choice A B) (l : ℕ) → On (λ a. fa a l) (λ b. fb b l) s → ⊥
choice_none fa fb f h (First a) l o = f a l o
choice_none fa fb f h (Second b) l o = h b l o

pub choice_stuck : {A B : Type 0} (fa : A → ℕ → Type 0) (fb : B → ℕ → Type 0) (sa : A → Bool) (sb : B → Bool)
    → ((s : A) (k : ℕ) → fa s k → sa s ≡ true) → ((s : B) (k : ℕ) → fb s k → sb s ≡ true)
    → (s : Choice A B) (k : ℕ) → On (λ a. fa a k) (λ b. fb b k) s → on sa sb s ≡ true
choice_stuck fa fb sa sb f h (First a) k o = f a k o
choice_stuck fa fb sa sb f h (Second b) k o = h b k o

pub choice_may : {A B : Type 0} (fa : A → ℕ → Call → Type 0) (fb : B → ℕ → Call → Type 0)
    (sa : A → Bool) (sb : B → Bool) → ((s : A) (c : Call) → sa s ≡ true → fa s 1 c)
    → ((s : B) (c : Call) → sb s ≡ true → fb s 1 c)
    → (s : Choice A B) (c : Call) → on sa sb s ≡ true → On (λ a. fa a 1 c) (λ b. fb b 1 c) s
choice_may fa fb sa sb f h (First a) c e = f a c e
choice_may fa fb sa sb f h (Second b) c e = h b c e

pub choice_ports : {A B : Type 0} (na : A → Operator) (nb : B → Operator) (sa : A → Bool) (sb : B → Bool)
    → ((s : A) → sa s ≡ true → 1 < ports (na s)) → ((s : B) → sb s ≡ true → 1 < ports (nb s))
    → (s : Choice A B) → on sa sb s ≡ true → 1 < ports (on na nb s)
choice_ports na nb sa sb f h (First a) e = f a e
choice_ports na nb sa sb f h (Second b) e = h b e
