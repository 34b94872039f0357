-- Feeds after a turn of the executor that gathers them, and after one of them was pulled.
use Rattle.std.proofs.Common.{ℕ, zero, suc, ◌≡◌, ◌+◌, ◌*◌, ◌<◌, ◌≤◌, ◌⊎◌, inl, inr, List, [], ◌∷◌, length, Some, refl, sym, ap, ◌∙◌, subst, arith}
use Rattle.std.specs.Prelude.{slice_get, slice_set, slice_index_or}
use Rattle.std.proofs.lemmas.List.{length-set}
use Rattle.std.proofs.lemmas.Option.{none-some, same_Some, slice_get_read}
use Rattle.aql_plan.specs.declared.facts.Facts.{Facts}
use Rattle.aql_block.specs.declared.calls.Call.{Call}
use Rattle.aql_block.specs.declared.tally.Tally.{Tally}
use Rattle.aql_exec.specs.declared.feed.Executor.{Ghosts}
use Rattle.aql_exec.specs.declared.feed.Feed
use Rattle.aql_exec.specs.declared.surroundings.Surroundings
use Rattle.aql_exec.specs.Promises.{Beside}
use Rattle.aql_exec.specs.Operators.{tree_then, IsTree, AreTrees, arity, count_of}
use Rattle.aql_engine.specs.laws.TreesKept.{KeptBudget}
use Rattle.aql_engine.proofs.Inputs.{at_most, is_below, not_new}
use Rattle.aql_exec_fragments.specs.Feeds.{total, trees_of, OwnOfAny, AllApart, SameFeeds, InputIs, Gathers, gathered_budget}
use Rattle.aql_exec_fragments.specs.laws.Places.{at_set, total_fell, total_same, total_less}
use Rattle.aql_exec_fragments.specs.laws.Kept.{NoLinks, KeepsRests, KeepsValid, KeepsBudget, LinksAreMade, later_beside, feed_kept}
use Rattle.aql_exec_fragments.proofs.Loops.{Turning, Kept, Linked}

-- ---- trees by place

pub each_tree : {F W : Type 0} (h : Feed.Ghosts F W) (facts : Facts) (feeds : List F)
    → AreTrees facts (trees_of h feeds) → (k : ℕ) (f : F) → slice_get feeds k ≡ Some f
    → IsTree facts (h.plan f)
each_tree h facts [] i k f e = absurd (none-some f e)
each_tree h facts (x ∷ xs) i zero f e = subst (λ z. IsTree facts (h.plan z)) (same_Some x f e) i.0
each_tree h facts (x ∷ xs) i (suc k) f e = each_tree h facts xs i.1 k f e

pub count_trees : {F W : Type 0} (h : Feed.Ghosts F W) (feeds : List F)
    → count_of (trees_of h feeds) ≡ length feeds
count_trees h [] = refl
count_trees h (x ∷ xs) = ap suc (count_trees h xs)

trees_set : {F W : Type 0} (h : Feed.Ghosts F W) (feeds : List F) (k : ℕ) (f f' : F)
    → slice_get feeds k ≡ Some f → h.plan f' ≡ h.plan f → trees_of h (slice_set feeds k f') ≡ trees_of h feeds
trees_set h [] k f f' e q = absurd (none-some f e)
trees_set h (x ∷ xs) zero f f' e q = rw (same_Some x f e, q) refl
trees_set h (x ∷ xs) (suc k) f f' e q = ap (λ z. tree_then (h.plan x) z) (trees_set h xs k f f' e q)

-- a feed in place of another that runs the same tree
pub same_set : {F W : Type 0} (h : Feed.Ghosts F W) (feeds : List F) (k : ℕ) (f f' : F)
    → slice_get feeds k ≡ Some f → h.plan f' ≡ h.plan f → h.full f' ≡ h.full f
    → SameFeeds h feeds (slice_set feeds k f')
same_set h feeds k f f' e plan full = record {
  trees = trees_set h feeds k f f' e plan;
  fulls = λ cost. total_same h.full cost feeds k f f' e full;
  count = length-set feeds k f';
}

pub same_all : {F W : Type 0} (h : Feed.Ghosts F W) (feeds : List F) → SameFeeds h feeds feeds
same_all h feeds = record { trees = refl; fulls = λ cost. refl; count = refl }

pub same_then : {F W : Type 0} (h : Feed.Ghosts F W) (feeds feeds1 feeds2 : List F) → SameFeeds h feeds feeds1
    → SameFeeds h feeds1 feeds2 → SameFeeds h feeds feeds2
same_then h feeds feeds1 feeds2 a b = record {
  trees = b.trees ∙ a.trees;
  fulls = λ cost. b.fulls cost ∙ a.fulls cost;
  count = b.count ∙ a.count;
}

-- ---- links

-- no link is of two of them, where one got new ones
pub apart_set : {F W : Type 0} (h : Feed.Ghosts F W) (feeds : List F) (k : ℕ) (f f' : F) (n : ℕ)
    → slice_get feeds k ≡ Some f → AllApart h feeds → ((l : ℕ) → h.ours f' l → h.ours f l ⊎ (n ≤ l))
    → ((j : ℕ) (b : F) → slice_get feeds j ≡ Some b → (l : ℕ) → h.ours b l → l < n)
    → AllApart h (slice_set feeds k f')
apart_set h feeds k f f' n e apart new links i j a b ma mb ne l oa ob = elim (at_set feeds k i f' a ma) [
  | inl qa ↦ elim (at_set feeds k j f' b mb) [
    | inl qb ↦ absurd (ne (qa.0 ∙ sym qb.0))
    | inr qb ↦ elim (new l (subst (λ z. h.ours z l) (sym qa.1) oa)) [
      | inl o ↦ apart k j f b e qb.1 (λ q. qb.0 (sym q)) l o ob
      | inr o ↦ not_new (links j b qb.1 l ob) o
    ]
  ]
  | inr qa ↦ elim (at_set feeds k j f' b mb) [
    | inl qb ↦ elim (new l (subst (λ z. h.ours z l) (sym qb.1) ob)) [
      | inl o ↦ apart i k a f qa.1 e qa.0 l oa o
      | inr o ↦ not_new (links i a qa.1 l oa) o
    ]
    | inr qb ↦ apart i j a b qa.1 qb.1 ne l oa ob
  ]
]

pub own_set : {F W : Type 0} (h : Feed.Ghosts F W) (feeds : List F) (k : ℕ) (f f' : F) (n : ℕ)
    → slice_get feeds k ≡ Some f → ((l : ℕ) → h.ours f' l → h.ours f l ⊎ (n ≤ l)) → (l : ℕ)
    → OwnOfAny h (slice_set feeds k f') l → OwnOfAny h feeds l ⊎ (n ≤ l)
own_set h feeds k f f' n e new l o = elim (at_set feeds k o.0 f' o.1 o.2) [
  | inl q ↦ elim (new l (subst (λ z. h.ours z l) (sym q.1) o.3)) [
    | inl a ↦ inl (k, f, e, a)
    | inr a ↦ inr a
  ]
  | inr q ↦ inl (o.0, o.1, q.1, o.3)
]

-- ---- numbers

pub is_less : {k a b : ℕ} → k < a → a ≡ b → k < b
is_less l e = omega (arith, l, e)

pub at_least : {k n : ℕ} → k < n → 1 ≤ n
at_least l = omega (arith, l)

pub at_most_same : {k a b : ℕ} → k ≤ a → b ≡ a → k ≤ b
at_most_same l e = omega (arith, l, e)

pub less_or_at : {j k : ℕ} → j < k + 1 → (j ≡ k → ⊥) → j < k
less_or_at l n = omega (arith, l, n)

pub still_in : {A : Type 0} {k : ℕ} (xs : List A) (i : ℕ) (a : A) → k < length (slice_set xs i a)
    → k < length xs
still_in xs i a l = is_less l (length-set xs i a)

pulled_sum : (X X1 X2 T T2 c u : ℕ) → X2 + u ≤ X1 + c → X1 ≤ X → T2 + c ≤ T → (X2 + T2) + u ≤ X + T
pulled_sum X X1 X2 T T2 c u l m n = omega (arith, l, m, n)

given_sum : (X X1 T T1 t z : ℕ) → X1 + t ≤ X → T1 ≤ T → X + T ≤ z → (X1 + T1) + t ≤ z
given_sum X X1 T T1 t z l m n = omega (arith, l, m, n)

module _ {X F W : Type 0} (g : Ghosts X W) (h : Feed.Ghosts F W) (p : Surroundings.Ghosts W) where
  -- the feeds after a turn of the executor x, from the world w to w1
  pub record Turned (x : X) (feeds : List F) (w w1 : W) : Type 0 where
    pub links : (j : ℕ) (b : F) → slice_get feeds j ≡ Some b → (l : ℕ) → h.ours b l → l < p.links w
    pub kept : (j : ℕ) (b : F) → slice_get feeds j ≡ Some b → (l : ℕ) → h.ours b l
        → p.flight w1 l ≡ p.flight w l
    pub inputs : (j : ℕ) (b : F) → slice_get feeds j ≡ Some b → InputIs g h p x b w1 j

  pub turned_feeds : KeepsRests h p → KeepsValid h p → LinksAreMade h p → NoLinks g p → {call : Call}
      {x0 : X} {feeds0 : List F} {w0 : W} {t0 t : Tally} {x : X} {feeds : List F} {w : W}
      → Turning g h p call x0 feeds0 w0 t0 x feeds w t → (w1 : W) → Beside p (g.ours x) w w1
      → Turned x feeds w w1
  turned_feeds kr kv made none {x} {feeds} {w} inv w1 beside =
      let inputs = inv.inputs in
      let links : (j : ℕ) (b : F) → slice_get feeds j ≡ Some b → (l : ℕ) → h.ours b l → l < p.links w =
      λ j b e. made b w ((inputs j b e).input_valid refl) in
      let kept : (j : ℕ) (b : F) → slice_get feeds j ≡ Some b → (l : ℕ) → h.ours b l
      → p.flight w1 l ≡ p.flight w l =
      λ j b e l o. beside.others l (links j b e l o) (none x l) in
      record {
        links = links;
        kept = kept;
        inputs = λ j b e. feed_kept g h p kr kv b w w1 (later_beside p beside) (kept j b e) (inputs j b e);
      }

  -- the feed that was asked
  pub asked_feed : {facts : Facts} {x0 x : X} {feeds0 feeds : List F} {w0 w : W} {call : Call}
      → Gathers g h p facts x0 feeds0 → Kept g h p x0 feeds0 w0 x feeds w call → (k : ℕ) (f : F)
      → k < arity (g.node x) → f ≡ slice_index_or feeds k f → slice_get feeds k ≡ Some f
  asked_feed {x} {feeds} fits kept k f l e =
      slice_get_read feeds (arity (g.node x)) k f
      (ap arity kept.node_kept ∙ fits.as_many ∙ sym kept.feeds_kept.count) l e

  -- ---- what a turn, and a pull after it, leave of the surroundings

  pub turned_beside : NoLinks g p → {feeds0 feeds : List F} {w0 w : W} → Linked g h p feeds0 w0 feeds w
      → (x : X)
      (w1 : W) → Beside p (g.ours x) w w1 → Beside p (OwnOfAny h feeds0) w0 w1
  turned_beside none linked x w1 turned =
      let b = linked.beside in
      record {
        stock = turned.stock ∙ b.stock;
        deliveries = turned.deliveries ∙ b.deliveries;
        batch = turned.batch ∙ b.batch;
        grows = at_most b.grows turned.grows;
        others = λ l n no. turned.others l (is_below n b.grows) (none x l) ∙ b.others l n no;
      }

  pub pulled_beside : {feeds0 feeds : List F} {w0 w : W} → Linked g h p feeds0 w0 feeds w → (k : ℕ) (f : F)
      → slice_get feeds k ≡ Some f → (w1 w2 : W) → Beside p (OwnOfAny h feeds0) w0 w1
      → Beside p (h.ours f) w1 w2 → Beside p (OwnOfAny h feeds0) w0 w2
  pulled_beside linked k f e w1 w2 b pulled = record {
    stock = pulled.stock ∙ b.stock;
    deliveries = pulled.deliveries ∙ b.deliveries;
    batch = pulled.batch ∙ b.batch;
    grows = at_most b.grows pulled.grows;
    others = λ l n no.
        pulled.others l (is_below n b.grows)
        (λ o. elim (linked.ours_new l (k, f, e, o)) [ inl z ↦ no z | inr z ↦ not_new n z ])
        ∙ b.others l n no;
  }

  -- ---- the budget

  pub pulled_budget : KeepsBudget h p → KeptBudget g p → NoLinks g p → (x0 x x1 x2 : X) (feeds : List F)
      (w w1 w2 : W) (k : ℕ) (f f2 : F) (t u : ℕ) → Turned x feeds w w1 → slice_get feeds k ≡ Some f
      → p.stock w1 ≡ p.stock w → p.stock w2 ≡ p.stock w1
      → ((j : ℕ) (b : F) → (j ≡ k → ⊥) → slice_get feeds j ≡ Some b → (l : ℕ) → h.ours b l
      → p.flight w2 l ≡ p.flight w1 l)
      → ((k f : ℕ) → g.row_cost x1 k f ≡ g.row_cost x0 k f)
      → ((f : ℕ) → g.budget x1 w1 f ≤ g.budget x w f)
      → ((f : ℕ) → g.budget x2 w2 f + u ≤ g.budget x1 w2 f + g.row_cost x1 k f * t)
      → h.budget f2 w2 + t ≤ h.budget f w1
      → gathered_budget g h p x0 x2 (slice_set feeds k f2) w2 + u ≤ gathered_budget g h p x0 x feeds w
  pulled_budget kb kx none x0 x x1 x2 feeds w w1 w2 k f f2 t u a e s1 s2 others row_cost turned taken pulled =
      let took = rw (row_cost k 0) at (taken 0) in
      let mine = at_most (kx x1 w1 w2 s2 (λ l o. absurd (none x1 l o)) 0) (turned 0) in
      let here = at_most pulled (kb f w w1 s1 (a.kept k f e)) in
      let all = total_fell (λ z. h.budget z w) (λ z. h.budget z w2) (λ j. g.row_cost x0 j 0) feeds k f f2 t e
      here
      (λ j b n m. at_most (kb b w1 w2 s2 (others j b n m)) (kb b w w1 s1 (a.kept j b m))) in
      pulled_sum (g.budget x w 0) (g.budget x1 w2 0) (g.budget x2 w2 0) _ _ (g.row_cost x0 k 0 * t) u took
      mine all

  pub given_budget : KeepsBudget h p → (x0 x x1 : X) (feeds : List F) (w w1 : W) (t z : ℕ)
      → Turned x feeds w w1 → p.stock w1 ≡ p.stock w
      → ((f : ℕ) → g.budget x1 w1 f + t ≤ g.budget x w f) → gathered_budget g h p x0 x feeds w ≤ z
      → gathered_budget g h p x0 x1 feeds w1 + t ≤ z
  given_budget kb x0 x x1 feeds w w1 t z a s1 turned kept =
      let all = total_less (λ f. h.budget f w) (λ f. h.budget f w1) (λ j. g.row_cost x0 j 0) feeds
      (λ j b e. kb b w w1 s1 (a.kept j b e)) in
      given_sum (g.budget x w 0) (g.budget x1 w1 0) (total (λ f. h.budget f w) (λ j. g.row_cost x0 j 0) feeds)
      (total (λ f. h.budget f w1) (λ j. g.row_cost x0 j 0) feeds) t z (turned 0) all kept
