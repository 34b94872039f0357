-- What happens elsewhere in the world keeps what is known of feeds; each has a rest.
use Rattle.std.proofs.Common.{ℕ, zero, suc, ◌≡◌, ◌<◌, ◌≤◌, inl, inr, List, [], ◌∷◌, Bool, true, Some, refl, subst}
use Rattle.std.specs.Prelude.{slice_get}
use Rattle.std.proofs.lemmas.Option.{none-some, same_Some}
use Rattle.aql_block.specs.declared.calls.Call.{Call}
use Rattle.aql_exec.specs.declared.feed.Executor.{Ghosts}
use Rattle.aql_exec.specs.declared.feed.Feed
use Rattle.aql_exec.specs.declared.surroundings.Surroundings
use Rattle.aql_exec.specs.Rests.{Exact, Within, Rest, IsOver}
use Rattle.aql_exec.specs.Promises.{Beside}
use Rattle.aql_exec.specs.Operators.{no_rest, exact_at, exact_tree, exact_in}
use Rattle.aql_engine.specs.Tree.{Input, Flies}
use Rattle.aql_engine.specs.laws.Exactness.{and_left, and_right, over_weaker}
use Rattle.aql_engine.specs.laws.TreesKept.{choose, flies_kept}
use Rattle.aql_exec_fragments.specs.Feeds.{trees_of, RestsAt, exact_over, InputIs}
use Rattle.aql_exec_fragments.specs.laws.Places.{same_at, at_or_none}

-- the world w' comes later than w
pub record IsLater {W : Type 0} (p : Surroundings.Ghosts W) (w w' : W) : Type 0 where
  pub stock : p.stock w' ≡ p.stock w
  pub batch : p.batch w' ≡ p.batch w
  pub grows : p.links w ≤ p.links w'

pub later_beside : {W : Type 0} (p : Surroundings.Ghosts W) {own : ℕ → Type 0} {w w' : W} → Beside p own w w'
    → IsLater p w w'
later_beside p b = record { stock = b.stock; batch = b.batch; grows = b.grows }

module _ {Y W : Type 0} (g : Ghosts Y W) (p : Surroundings.Ghosts W) where
  abbrev pub NoLinks : Type 0
  NoLinks = (s : Y) (l : ℕ) → g.ours s l → ⊥

module _ {F W : Type 0} (h : Feed.Ghosts F W) (p : Surroundings.Ghosts W) where
  abbrev pub KeepsRests : Type 0
  KeepsRests = (s : F) (w w' : W) → p.stock w' ≡ p.stock w
      → ((l : ℕ) → h.ours s l → p.flight w' l ≡ p.flight w l) → (r : Rest) → h.rests s w' r → h.rests s w r

  abbrev pub KeepsValid : Type 0
  KeepsValid = (s : F) (w w' : W) → p.stock w' ≡ p.stock w → p.batch w' ≡ p.batch w → p.links w ≤ p.links w'
      → ((l : ℕ) → h.ours s l → p.flight w' l ≡ p.flight w l) → h.valid s w → h.valid s w'

  abbrev pub KeepsBudget : Type 0
  KeepsBudget = (s : F) (w w' : W) → p.stock w' ≡ p.stock w
      → ((l : ℕ) → h.ours s l → p.flight w' l ≡ p.flight w l) → h.budget s w' ≤ h.budget s w

  abbrev pub LinksAreMade : Type 0
  LinksAreMade = (s : F) (w : W) → h.valid s w → (l : ℕ) → h.ours s l → l < p.links w

  abbrev pub HasRest : Type 0
  HasRest = (s : F) (w : W) → h.valid s w → (r : Rest) × h.rests s w r

-- what is exact of all of them is exact of each
pub exact_each : {F W : Type 0} (h : Feed.Ghosts F W) (feeds : List F) (k : ℕ) (f : F)
    → slice_get feeds k ≡ Some f → Within (exact_in (trees_of h feeds)) (exact_tree (h.plan f))
exact_each h [] k f e c i = absurd (none-some f e)
exact_each h (x ∷ xs) zero f e c i =
    subst (λ z. exact_tree (h.plan z) c ≡ true) (same_Some x f e)
    (and_left (exact_tree (h.plan x) c) (exact_in (trees_of h xs) c) i)
exact_each h (x ∷ xs) (suc k) f e c i =
    exact_each h xs k f e c (and_right (exact_tree (h.plan x) c) (exact_in (trees_of h xs) c) i)

module _ {X F W : Type 0} (g : Ghosts X W) (h : Feed.Ghosts F W) (p : Surroundings.Ghosts W) where
  pub exact_executor : (x : X) (feeds : List F) → Within (exact_over g h p x feeds) (exact_at (g.node x))
  exact_executor x feeds c i = and_left (exact_at (g.node x) c) (exact_in (trees_of h feeds) c) i

  pub exact_feeds : (x : X) (feeds : List F) → Within (exact_over g h p x feeds) (exact_in (trees_of h feeds))
  exact_feeds x feeds c i = and_right (exact_at (g.node x) c) (exact_in (trees_of h feeds) c) i

  pub exact_feed : (x : X) (feeds : List F) (k : ℕ) (f : F) → slice_get feeds k ≡ Some f
      → Within (exact_over g h p x feeds) (exact_tree (h.plan f))
  exact_feed x feeds k f e c i = exact_each h feeds k f e c (exact_feeds x feeds c i)

  -- what happens elsewhere keeps what is known of a feed
  pub feed_kept : KeepsRests h p → KeepsValid h p → (f : F) (w w' : W) {started ended : Bool} {waits : Type 0}
      {asks : Call → Type 0} {e : Exact} → IsLater p w w'
      → ((l : ℕ) → h.ours f l → p.flight w' l ≡ p.flight w l)
      → Input (h.valid f w) started ended waits asks (h.may f) e (h.rests f w) (h.ours f) (Flies g p w)
      → Input (h.valid f w') started ended waits asks (h.may f) e (h.rests f w') (h.ours f) (Flies g p w')
  feed_kept kr kv f w w' later same i = record {
    input_valid = λ b. kv f w w' later.stock later.batch later.grows same (i.input_valid b);
    may_ask = i.may_ask;
    none_left = λ b d r q. i.none_left b d r (kr f w w' later.stock same r q);
    in_flight = λ a. (let q = i.in_flight a in
        (q.0, q.1, q.2, flies_kept g p w w' q.1 (same q.1 q.2) q.3));
  }

  -- a rest at each place, one with no row where it ended
  pub rest_at : HasRest h p → (x : X) (feeds : List F) (w : W)
      → ((k : ℕ) (f : F) → slice_get feeds k ≡ Some f → InputIs g h p x f w k) → (k : ℕ)
      → (r : Rest) × (g.ended x k ≡ true → IsOver (exact_over g h p x feeds) r) × RestsAt h feeds w k r
  rest_at some x feeds w inputs k = elim (at_or_none feeds k) [
    | inl q ↦ (let i = inputs k q.0 q.1 in
        let v = exact_over g h p x feeds in
        let o = choose v true (g.ended x k) (h.rests q.0 w)
        (λ s e r c. over_weaker v (exact_tree (h.plan q.0)) r (exact_feed x feeds k q.0 q.1)
        (i.none_left s e r c)) (λ b. some q.0 w (i.input_valid b)) in
        (o.0, o.1, λ f e. subst (λ z. h.rests z w o.0) (same_at feeds k q.0 f q.1 e) (o.2 refl)))
    | inr q ↦ (no_rest, (λ e. (refl, λ c i. refl)), λ f e. absurd (q f e))
  ]
