-- A Gather over its fragments: before its Scatter is filled, when it is, and after that.
use Rattle.std.proofs.Common.{ℕ, zero, suc, ◌≡◌, ◌+◌, ◌<◌, ◌≤◌, ◌⊎◌, ◌++◌, inr, List, [], ◌∷◌, length, Bool, true, false, Some, cond, refl, sym, ap, ◌∙◌, subst, arith}
use Rattle.std.specs.Prelude.{slice_get, ◌&&◌}
use Rattle.std.proofs.lemmas.Bool.{false≢true}
use Rattle.std.proofs.lemmas.List.{nil_from_length}
use Rattle.std.proofs.lemmas.Option.{none-some, same_Some, slice_get_within}
use Rattle.aql_meaning.specs.Row.{Row}
use Rattle.aql_block.specs.Rows.{row_of}
use Rattle.aql_block.specs.declared.calls.Call.{Call}
use Rattle.aql_block.specs.declared.calls.Step.{Step}
use Rattle.aql_block.specs.declared.tally.Tally.{Tally}
use Rattle.aql_plan.specs.declared.facts.Facts.{Facts}
use Rattle.aql_plan.specs.Runs.{Dataset}
use Rattle.aql_exec.specs.declared.feed.Executor.{Ghosts}
use Rattle.aql_exec.specs.declared.feed.Feed
use Rattle.aql_exec.specs.declared.surroundings.Surroundings
use Rattle.aql_exec.specs.Rests.{Counter, Counts, Exact, Within, Rest, with_rows, Prefixed, EndsUnreported, Ends}
use Rattle.aql_exec.specs.Rising.{ExactFor, Rises}
use Rattle.aql_exec.specs.Promises.{SameNode, Begun, Beside}
use Rattle.aql_exec.specs.Steps.{IsCall, given, Continues}
use Rattle.aql_exec.specs.Operators.{Shards, OperatorTree, OperatorTrees, no_trees, tree_then, no_rest, Fragments, ProducesOver, arity, ports, begins, count_of, exact_at, exact_in, IsOperator, AreTrees}
use Rattle.aql_exec.specs.laws.Counted.{rises_weaker}
use Rattle.aql_engine.specs.laws.Exactness.{and_left, and_right, over_weaker}
use Rattle.aql_engine.specs.laws.TreesKept.{KeptGives, KeptValid, KeptBudget}
use Rattle.aql_engine.proofs.Inputs.{at_most, is_below}
use Rattle.aql_exec_fragments.specs.declared.gather_node.GatherNode.{GatherNode}
use Rattle.aql_exec_fragments.specs.Feeds.{no_body, total, trees_of, SameFeeds, exact_over, GatheredRests, Gathering, Gathers}
use Rattle.aql_exec_fragments.specs.Filling.{IsFresh}
use Rattle.aql_exec_fragments.specs.GatherNodes.{FragmentGives, NodeGives, NodeIs, own_of}
use Rattle.aql_exec_fragments.specs.laws.Places.{total_by}
use Rattle.aql_exec_fragments.specs.laws.Kept.{NoLinks}
use Rattle.aql_exec_fragments.specs.laws.GatherNodes.{SomeGiven}
use Rattle.aql_exec_fragments.proofs.Pulling.{count_trees, is_less}

-- ---- ports and lists

-- the port of a shard, and that at which it is filled
pub shard_port : (k n ports : ℕ) → k < n → ports ≡ suc n → k < ports
shard_port k n ports l e = omega (arith, l, e)

pub last_port : (n ports : ℕ) → ports ≡ suc n → n < ports
last_port n ports e = omega (arith, e)

pub not_last : {k n : ℕ} → k < n → k ≡ n → ⊥
not_last l e = omega (arith, l, e)

pub one_input : {n : ℕ} → n ≡ 1 → 1 ≤ n
one_input e = omega (arith, e)

first_of_one : {n : ℕ} → n ≡ 1 → 0 < n
first_of_one e = omega (arith, e)

both : (a b : Bool) → a ≡ true → b ≡ true → a && b ≡ true
both true b e f = f
both false b e f = absurd (false≢true e)

pub few : (m n k l : ℕ) → m ≡ n → m < 4294967296 → k ≡ l → l ≡ n → k < 4294967296
few m n k l e h i j = omega (arith, e, h, i, j)

one_more : (n : ℕ) → suc n ≡ 0 → ⊥
one_more n e = absurd (omega (arith, e))

not_nil : (x : Row) (xs : List Row) → x ∷ xs ≡ [] → ⊥
not_nil x xs e = one_more (length xs) (ap length e)

-- lists with nothing in them together
pub both_empty : (a b c : List Row) → (a ++ b) ++ c ≡ [] → (a ≡ []) × (b ≡ [])
both_empty [] [] c e = (refl, refl)
both_empty [] (x ∷ b) c e = absurd (not_nil _ _ e)
both_empty (x ∷ a) b c e = absurd (not_nil _ _ e)

-- ---- numbers

left_sum : (r o f d f' : ℕ) → r ≡ o + f → f + d ≤ f' → r + d ≤ o + f'
left_sum r o f d f' e l = omega (arith, e, l)

left_exact : (r o f d f' : ℕ) → r ≡ o + f → f' ≤ f + d → o + f' ≤ r + d
left_exact r o f d f' e l = omega (arith, e, l)

rest_sum : (r o f d q : ℕ) → r ≡ o + f → o + d ≤ q → r + d ≤ q + f
rest_sum r o f d q e l = omega (arith, e, l)

rest_most : (r o f d q : ℕ) → r ≡ o + f → q ≤ o + d → q + f ≤ r + d
rest_most r o f d q e l = omega (arith, e, l)

pub both_zero : {r o f : ℕ} → r ≡ o + f → o ≡ 0 → f ≡ 0 → r ≡ 0
both_zero e l m = omega (arith, e, l, m)

-- a sum of parts of which the chosen one is known
pub budget_ran : (b : Bool) (x x' t t' t'' y z u : ℕ) → b ≡ true → t'' ≡ t' → (x' + t') + u ≤ x + t
    → (x' + cond b t'' y) + u ≤ x + cond b t z
budget_ran true x x' t t' t'' y z u e f l = rw f l
budget_ran false x x' t t' t'' y z u e f l = absurd (false≢true e)

pub budget_kept : (b : Bool) (a a' m m' y z : ℕ) → b ≡ true → a' + m' ≤ a + m
    → a' + cond b m' y ≤ a + cond b m z
budget_kept true a a' m m' y z e l = l
budget_kept false a a' m m' y z e l = absurd (false≢true e)

pub budget_asked : (b : Bool) (x x' t t' y y' f : ℕ) → b ≡ false → x' ≤ x → y' ≤ y
    → x' + cond b t' (y' + f) ≤ x + cond b t (y + f)
budget_asked true x x' t t' y y' f e l m = absurd (false≢true (sym e))
budget_asked false x x' t t' y y' f e l m = omega (arith, l, m)

pub budget_gave : (b : Bool) (x x' t t' y y' f u : ℕ) → b ≡ false → x' ≤ x → y' + u ≤ y
    → (x' + cond b t' (y' + f)) + u ≤ x + cond b t (y + f)
budget_gave true x x' t t' y y' f u e l m = absurd (false≢true (sym e))
budget_gave false x x' t t' y y' f u e l m = omega (arith, l, m)

pub budget_filled : (b : Bool) (x x1 z t y f u T : ℕ) → b ≡ false → x1 ≤ x → T ≤ f → z + u ≤ x1 + T
    → z + u ≤ x + cond b t (y + f)
budget_filled true x x1 z t y f u T e l m n = absurd (false≢true (sym e))
budget_filled false x x1 z t y f u T e l m n = omega (arith, l, m, n)

less_soft : (a soft hard : ℕ) → a ≡ 0 → 1 ≤ soft → soft ≤ hard → a < hard
less_soft a soft hard e l m = omega (arith, e, l, m)

pub none_given : (rows : List Row) (hard : ℕ) {soft : ℕ} → 1 ≤ soft → soft ≤ hard → rows ≡ []
    → length rows < hard
none_given rows hard l m e = less_soft (length rows) _ hard (ap length e) l m

-- what the Scatter counts is counted beside what the Gather gives
pub rest_led : {v : Exact} (s : List Row) (d : Counts) (own q : Rest) (f : Counts) (r : Rest)
    → r.rows ≡ own.rows
    → ((i : _) → r.counts i ≡ own.counts i + f i) → Prefixed v s d own q
    → Prefixed v s d r (record { rows = q.rows; counts = λ i. q.counts i + f i })
rest_led s d own q f r e n a = record {
  rows = a.rows ∙ ap (λ z. s ++ z) (sym e);
  counts = λ i. rest_sum _ _ _ _ _ (n i) (a.counts i);
  exact = λ i y. rest_most _ _ _ _ _ (n i) (a.exact i y);
}

tail_of : (s t : List Row) → s ++ t ≡ [] → t ≡ []
tail_of [] t e = e
tail_of (x ∷ s) t e = absurd (not_nil x (s ++ t) e)

-- where nothing is unreported, an input that ended gives nothing
pub ends_of : {v : Exact} (ended : ℕ → Bool) (unreported : ℕ → ℕ) (s : ℕ → List Row) (ins ins' : ℕ → Rest)
    → ((k : ℕ) → unreported k ≡ 0) → ((k : ℕ) → ins' k ≡ with_rows (s k) (ins k))
    → EndsUnreported v ended unreported ins' → Ends v ended ins
ends_of ended unreported s ins ins' none e ends k q = (
  tail_of (s k) (ins k).rows (sym (ap (λ (z : Rest). z.rows) (e k))
      ∙ nil_from_length (ins' k).rows ((ends k q).0 ∙ none k)),
  λ c y. ap (λ (z : Rest). z.counts c) (sym (e k)) ∙ (ends k q).1 c y,
)

-- ---- the surroundings

pub beside_weaker : {W : Type 0} (p : Surroundings.Ghosts W) {own own' : ℕ → Type 0} {w w' : W}
    → ((l : ℕ) → own l → own' l) → Beside p own w w' → Beside p own' w w'
beside_weaker p k b = record {
  stock = b.stock;
  deliveries = b.deliveries;
  batch = b.batch;
  grows = b.grows;
  others = λ l n no. b.others l n (λ o. no (k l o));
}

pub beside_then : {W : Type 0} (p : Surroundings.Ghosts W) {own : ℕ → Type 0} {w w1 w2 : W}
    → Beside p own w w1 → Beside p own w1 w2 → Beside p own w w2
beside_then p a b = record {
  stock = b.stock ∙ a.stock;
  deliveries = b.deliveries ∙ a.deliveries;
  batch = b.batch ∙ a.batch;
  grows = at_most a.grows b.grows;
  others = λ l n no. b.others l (is_below n a.grows) no ∙ a.others l n no;
}

-- ---- trees

pub fragments_of : {F W : Type 0} (h : Feed.Ghosts F W) (feeds : List F) (w : Dataset) (row : Row)
    (parts : ℕ → Rest → Type 0) (lists : ℕ → Rest)
    → ((j : ℕ) (f : F) → slice_get feeds j ≡ Some f
    → (q : Rest) × parts j q × ProducesOver (h.plan f) w q.rows row (lists j))
    → Fragments (trees_of h feeds) w row parts lists
fragments_of h [] w row parts lists all = tt
fragments_of h (x ∷ xs) w row parts lists all = (
  all 0 x refl,
  fragments_of h xs w row (λ k. parts (suc k)) (λ k. lists (suc k)) (λ j f e. all (suc j) f e),
)

abbrev first_tree : OperatorTrees → OperatorTree → OperatorTree
first_tree no_trees other = other
first_tree (tree_then t ts) other = t

abbrev rest_of : OperatorTrees → OperatorTrees
rest_of no_trees = no_trees
rest_of (tree_then t ts) = ts

abbrev IsNone : OperatorTrees → Type 0
IsNone no_trees = Unit {0}
IsNone (tree_then t ts) = ⊥

-- feeds that run the same trees do so place by place
same_plan : {F W : Type 0} (h : Feed.Ghosts F W) (feeds feeds' : List F)
    → trees_of h feeds' ≡ trees_of h feeds
    → (k : ℕ) (f : F) → slice_get feeds k ≡ Some f
    → (f' : F) × (slice_get feeds' k ≡ Some f') × (h.plan f' ≡ h.plan f)
same_plan h [] feeds' e k f m = absurd (none-some f m)
same_plan h (x ∷ xs) [] e k f m = absurd (subst IsNone e tt)
same_plan h (x ∷ xs) (y ∷ ys) e zero f m =
    (y, refl, ap (λ z. first_tree z (h.plan x)) e ∙ ap h.plan (same_Some x f m))
same_plan h (x ∷ xs) (y ∷ ys) e (suc k) f m = same_plan h xs ys (ap rest_of e) k f m

-- ---- what a Give of a Scatter says, from s in the world w to s' in w'

-- at the port at which it gave
abbrev pub GaveAt : {S W : Type 0} → Ghosts S W → S → W → S → W → ℕ → Counts → Step → Type 0
GaveAt gs s w s' w' port d step = (e : Exact) → Within e (exact_at (gs.node s)) → (body : OperatorTree)
    (so : ℕ → List Row) (ins ins' : ℕ → Rest) → ((j : ℕ) → length (so j) ≡ gs.unreported s j)
    → ((j : ℕ) → ins' j ≡ with_rows (so j) (ins j)) → EndsUnreported e (gs.ended s) (gs.unreported s) ins'
    → Continues e (gs.gives s w port body ins') d step (gs.gives s' w' port body ins)

-- at its other ports
abbrev pub GaveBeside : {S W : Type 0} → Ghosts S W → S → W → S → W → ℕ → Counts → Type 0
GaveBeside gs s w s' w' port d = (e : Exact) → Within e (exact_at (gs.node s)) → (k : ℕ) (body : OperatorTree)
    (so : ℕ → List Row) (ins ins' : ℕ → Rest) (r : Rest) → (k ≡ port → ⊥)
    → (k ≡ 0) ⊎ (k < ports (gs.node s)) → ((j : ℕ) → length (so j) ≡ gs.unreported s j)
    → ((j : ℕ) → ins' j ≡ with_rows (so j) (ins j)) → EndsUnreported e (gs.ended s) (gs.unreported s) ins'
    → gs.gives s' w' k body ins r → (b : Rest) × Prefixed e [] d r b × gs.gives s w k body ins' b

-- no row at the port at which it is filled
abbrev pub IsSilent : {S W : Type 0} → Ghosts S W → Type 0
IsSilent {S} {W} gs = (s : S) (w : W) (n : ℕ) (body : OperatorTree) (ins : ℕ → Rest) (r : Rest)
    → ports (gs.node s) ≡ suc n → gs.gives s w n body ins r
    → (r.rows ≡ []) × ((c : Counter) → r.counts c ≡ (ins 0).counts c)

-- an executor is the one that it was
pub same_executor : {Y W : Type 0} (g : Ghosts Y W) (y : Y)
    → SameNode (g.node y) (g.node y) (g.full y) (g.full y) (g.row_cost y) (g.row_cost y)
same_executor g y = record { node_is = refl; full_is = λ f. refl; row_cost_is = λ k f. refl }

module _ {X S F W : Type 0} (gx : Ghosts X W) (gs : Ghosts S W) (h : Feed.Ghosts F W)
    (p : Surroundings.Ghosts W) where
  pub gathers_of : (facts : Facts) (x : X) (feeds : List F) → arity (gx.node x) ≡ count_of (trees_of h feeds)
      → ((k : ℕ) → k < count_of (trees_of h feeds) → begins (gx.node x) k ≡ true)
      → AreTrees facts (trees_of h feeds) → IsOperator facts (gx.node x) → Gathers gx h p facts x feeds
  gathers_of facts x feeds a b t o = record {
    is_operator = o;
    as_many = a ∙ count_trees h feeds;
    at_once = λ k l. b k (is_less l a);
    are_trees = t;
  }

  -- ---- what stays

  pub same_node : (x x' : X) (s s' : S) (feeds feeds' : List F)
      → SameNode (gx.node x) (gx.node x') (gx.full x) (gx.full x') (gx.row_cost x) (gx.row_cost x')
      → SameNode (gs.node s) (gs.node s') (gs.full s) (gs.full s') (gs.row_cost s) (gs.row_cost s')
      → SameFeeds h feeds feeds'
      → SameNode (Shards (gx.node x) (gs.node s) (trees_of h feeds))
      (Shards (gx.node x') (gs.node s') (trees_of h feeds'))
      (λ f. gx.full x 0 + (gs.full s 0 + total h.full (λ k. gx.row_cost x k 0) feeds))
      (λ f. gx.full x' 0 + (gs.full s' 0 + total h.full (λ k. gx.row_cost x' k 0) feeds'))
      (λ k f. gs.row_cost s k 0) (λ k f. gs.row_cost s' k 0)
  same_node x x' s s' feeds feeds' a b same = record {
    node_is = rw (a.node_is, b.node_is, same.trees) refl;
    full_is = λ f. rw (
      a.full_is 0,
      b.full_is 0,
      total_by h.full (λ k. gx.row_cost x k 0) (λ k. gx.row_cost x' k 0) feeds' (λ k. a.row_cost_is k 0),
      same.fulls (λ k. gx.row_cost x k 0),
    ) refl;
    row_cost_is = λ k f. b.row_cost_is k 0;
  }

  -- what is exact of all of it is exact of the Scatter, and of the Gather with its fragments
  pub exact_scatter : (x : X) (s : S) (feeds : List F)
      → Within (exact_at (Shards (gx.node x) (gs.node s) (trees_of h feeds))) (exact_at (gs.node s))
  exact_scatter x s feeds c i =
      and_right (exact_at (gx.node x) c) (exact_at (gs.node s) c)
      (and_left (exact_at (gx.node x) c && exact_at (gs.node s) c) (exact_in (trees_of h feeds) c) i)

  pub exact_fragments : (x : X) (s : S) (feeds : List F)
      → Within (exact_at (Shards (gx.node x) (gs.node s) (trees_of h feeds))) (exact_over gx h p x feeds)
  exact_fragments x s feeds c i =
      both (exact_at (gx.node x) c) (exact_in (trees_of h feeds) c)
      (and_left (exact_at (gx.node x) c) (exact_at (gs.node s) c)
      (and_left (exact_at (gx.node x) c && exact_at (gs.node s) c) (exact_in (trees_of h feeds) c) i))
      (and_right (exact_at (gx.node x) c && exact_at (gs.node s) c) (exact_in (trees_of h feeds) c) i)

  pub rises_scatter : (x : X) (s : S) (feeds : List F) (call : Call) {t t' : Tally} {w w' : W} {d : Counts}
      → Rises p (ExactFor (exact_at (gs.node s)) call) t w t' w' d
      → Rises p (ExactFor (exact_at (Shards (gx.node x) (gs.node s) (trees_of h feeds))) call) t w t' w' d
  rises_scatter x s feeds call r = rises_weaker p _ _ _ _ _ (λ j i. (i.0, exact_scatter x s feeds j i.1)) r

  pub rises_fragments : (x : X) (s : S) (feeds : List F) (call : Call) {t t' : Tally} {w w' : W} {d : Counts}
      → Rises p (ExactFor (exact_over gx h p x feeds) call) t w t' w' d
      → Rises p (ExactFor (exact_at (Shards (gx.node x) (gs.node s) (trees_of h feeds))) call) t w t' w' d
  rises_fragments x s feeds call r =
      rises_weaker p _ _ _ _ _ (λ j i. (i.0, exact_fragments x s feeds j i.1)) r

  -- ---- before it is filled

  -- a turn of the Scatter, from the world w to w', leaves the Gather as it was
  pub record GatherStays (c : GatherNode X S F) (w w' : W) : Type 0 where
    pub gather_valid : gx.valid c.gather w'
    pub gather_gives : (lists : ℕ → Rest) (q : Rest) → gx.gives c.gather w' 0 no_body lists q
        → gx.gives c.gather w 0 no_body lists q
    pub gather_budget : gx.budget c.gather w' 0 ≤ gx.budget c.gather w 0
    pub beside : Beside p (own_of gx gs h p c) w w'

  pub scatter_turned : KeptGives gx p → KeptValid gx p → KeptBudget gx p → NoLinks gx p → NoLinks gs p
      → (c : GatherNode X S F) {w w' : W} → NodeIs gx gs h p c w → Beside p (gs.ours c.scatter) w w'
      → GatherStays c w w'
  scatter_turned kg kv kb nx ns c {w} {w'} v beside =
      let same : (l : ℕ) → gx.ours c.gather l → p.flight w' l ≡ p.flight w l =
      λ l o. absurd (nx c.gather l o) in
      record {
        gather_valid = kv c.gather w w' beside.stock beside.batch beside.grows same v.gather_valid;
        gather_gives = λ lists q z. kg c.gather w w' beside.stock same 0 no_body lists q z;
        gather_budget = kb c.gather w w' beside.stock same 0;
        beside = beside_weaker p (λ l o. absurd (ns c.scatter l o)) beside;
      }

  fragment_back : (b : Bool) (s s' : S) (start : Row) (w w' : W) (ins ins' : ℕ → Rest) (k : ℕ) (f : F)
      (r : Rest)
      → b ≡ false → p.stock w' ≡ p.stock w
      → ((a : Rest) → gs.gives s' w' k no_body ins' a
      → (q : Rest) × (q.rows ≡ a.rows) × gs.gives s w k no_body ins q)
      → FragmentGives gx gs h p b s' start w' ins' k f r → FragmentGives gx gs h p b s start w ins k f r
  fragment_back true s s' start w w' ins ins' k f r e st back d = absurd (false≢true (sym e))
  fragment_back false s s' start w w' ins ins' k f r e st back d =
      let t = back d.0 d.1 in (
        t.0,
        t.2,
        subst (λ z. ProducesOver (h.plan f) z t.0.rows start r) st
            (subst (λ z. ProducesOver (h.plan f) (p.stock w') z start r) (sym t.1) d.2),
      )

  -- a turn of the Scatter that asks, or a step that it takes
  pub given_back : {v : Exact} (c : GatherNode X S F) (s : S) → c.filled ≡ false → (w w' : W)
      → p.stock w' ≡ p.stock w → (ins ins' : ℕ → Rest) (d : Counts)
      → ((lists : ℕ → Rest) (q : Rest) → gx.gives c.gather w' 0 no_body lists q
      → gx.gives c.gather w 0 no_body lists q)
      → ((k : ℕ) (a : Rest) → gs.gives s w' k no_body ins' a
      → (q : Rest) × Prefixed v [] d a q × gs.gives c.scatter w k no_body ins q)
      → (r : Rest) → NodeGives gx gs h p (record c { scatter = s }) w' ins' r
      → (q : Rest) × Prefixed v [] d r q × NodeGives gx gs h p c w ins q
  given_back c s e w w' st ins ins' d kept back r g =
      let t = back (length c.fragments.items) g.filling g.fills in (
        record { rows = g.own.rows; counts = λ i. g.own.counts i + t.0.counts i },
        record {
          rows = sym g.rows;
          counts = λ i. left_sum _ _ _ _ _ (g.counts i) (t.1.counts i);
          exact = λ i y. left_exact _ _ _ _ _ (g.counts i) (t.1.exact i y);
        },
        record {
          lists = g.lists;
          own = g.own;
          filling = t.0;
          ends = g.ends;
          each = λ k f m. fragment_back c.filled c.scatter s (row_of c.start) w w' ins ins' k f (g.lists k) e
              st
              (λ a z. (let u = back k a z in (u.0, u.1.rows, u.2))) (g.each k f m);
          fills = t.2;
          gathers = kept g.lists g.own g.gathers;
          rows = refl;
          counts = λ i. refl;
        },
      )

  -- the Scatter gave at the port at which it is filled: nothing, and each rest after that was possible before
  pub gave_nothing : IsSilent gs → (c : GatherNode X S F) (s : S) → c.filled ≡ false → {w w' : W}
      → GatherStays c w w' → p.stock w' ≡ p.stock w
      → ports (gs.node c.scatter) ≡ suc (length c.fragments.items)
      → (d d' : Counts) (step : Step) → GaveAt gs c.scatter w s w' (length c.fragments.items) d step
      → GaveBeside gs c.scatter w s w' (length c.fragments.items) d' → (e : Exact)
      → Within e (exact_at (Shards (gx.node c.gather) (gs.node c.scatter) (trees_of h c.fragments.items)))
      → (so : ℕ → List Row) (ins ins' : ℕ → Rest) → ((j : ℕ) → length (so j) ≡ gs.unreported c.scatter j)
      → ((j : ℕ) → ins' j ≡ with_rows (so j) (ins j))
      → EndsUnreported e (gs.ended c.scatter) (gs.unreported c.scatter) ins' → (r : Rest)
      → NodeGives gx gs h p (record c { scatter = s }) w' ins r
      → (step.skipped ≡ 0) × (given step ≡ [])
      × ((q : Rest) × Prefixed e [] d r q × NodeGives gx gs h p c w ins' q)
  gave_nothing silent c s e {w} {w'} stays st many d d' step leads other v ex so ins ins' lens eqs ends r g =
      let n = length c.fragments.items in
      let within : Within v (exact_at (gs.node c.scatter)) =
      λ i y. exact_scatter c.gather c.scatter c.fragments.items i (ex i y) in
      let t = leads v within no_body so ins ins' lens eqs ends g.filling g.fills in
      let none = both_empty t.0 (given step) g.filling.rows
      (sym t.3.rows ∙ (silent c.scatter w n no_body ins' t.1 many t.4).0) in
      let back : (k : ℕ) (a : Rest) → k < n → gs.gives s w' k no_body ins a
      → (q : Rest) × (q.rows ≡ a.rows) × gs.gives c.scatter w k no_body ins' q =
      λ k a l z. (let u = other v within k no_body so ins ins' a (not_last l) (inr (shard_port k n _ l many))
      lens eqs ends z in (u.0, u.1.rows, u.2)) in (
        sym t.2 ∙ ap length none.0,
        none.1,
        (
          record { rows = g.own.rows; counts = λ i. g.own.counts i + t.1.counts i },
          record {
            rows = sym g.rows;
            counts = λ i. left_sum _ _ _ _ _ (g.counts i) (t.3.counts i);
            exact = λ i y. left_exact _ _ _ _ _ (g.counts i) (t.3.exact i y);
          },
          record {
            lists = g.lists;
            own = g.own;
            filling = t.1;
            ends = g.ends;
            each = λ k f m. fragment_back c.filled c.scatter s (row_of c.start) w w' ins' ins k f (g.lists k)
                e st
                (λ a z. back k a (slice_get_within c.fragments.items k f m) z) (g.each k f m);
            fills = t.4;
            gathers = stays.gather_gives g.lists g.own g.gathers;
            rows = refl;
            counts = λ i. refl;
          },
        ),
      )

  -- ---- when it is filled

  -- where the Scatter is done at the port at which it is filled, so is its input
  pub ended_at_done : IsSilent gs → SomeGiven gs → (s s' : S) (n : ℕ) (w w' : W) (call : Call) (step : Step)
      (d : Counts) → IsCall call → ((k : ℕ) → gs.unreported s k ≡ 0) → gs.valid s' w'
      → ports (gs.node s) ≡ suc n → GaveAt gs s w s' w' n d step
      → (length (given step) < call.hard → (k : ℕ) → k < arity (gs.node s) → gs.started s' k ≡ true
      → gs.ended s' k ≡ true)
      → arity (gs.node s) ≡ 1 → gs.started s' 0 ≡ true → gs.ended s' 0 ≡ true
  ended_at_done silent some s s' n w w' call step d is_call none valid many leads drained one begun =
      let empty : ℕ → Rest = λ k. no_rest in
      let o = some s' w' n no_body empty valid in
      let led = leads (λ c. false) (λ c i. absurd (false≢true i)) no_body (λ j. []) empty empty
      (λ j. sym (none j)) (λ j. refl) (λ j i. (sym (none j), λ c y. absurd (false≢true y))) o.0 o.1 in
      let no_rows = (both_empty led.0 (given step) o.0.rows
      (sym led.3.rows ∙ (silent s w n no_body empty led.1 many led.4).0)).1 in
      drained (none_given (given step) call.hard is_call.some is_call.soft no_rows) 0 (first_of_one one) begun

  -- what is exact of some feeds is exact of others that run the same trees
  pub exact_same : (x : X) (feeds feeds' : List F) → trees_of h feeds' ≡ trees_of h feeds
      → Within (exact_over gx h p x feeds) (exact_over gx h p x feeds')
  exact_same x feeds feeds' e c i = rw e i

  -- what the fragments begin with was possible before
  pub fill_back : (c : GatherNode X S F) → c.filled ≡ false → (feeds : List F)
      → SameFeeds h c.fragments.items feeds → (w : W)
      → ((k : ℕ) (f : F) → slice_get feeds k ≡ Some f
      → IsFresh gs h p c.scatter (p.stock w) (row_of c.start) k f)
      → (ins : ℕ → Rest) → (ins 0).rows ≡ [] → (own filling : Rest)
      → GatheredRests gx h p c.gather feeds w own
      → gs.gives c.scatter w (length c.fragments.items) no_body ins filling
      → NodeGives gx gs h p c w ins
      (record { rows = own.rows; counts = λ i. own.counts i + filling.counts i })
  fill_back c e feeds same w fresh ins none own filling o fills = record {
    lists = o.0;
    own = own;
    filling = filling;
    ends = λ k q. over_weaker (exact_over gx h p c.gather c.fragments.items)
        (exact_over gx h p c.gather feeds)
        (o.0 k) (exact_same c.gather c.fragments.items feeds same.trees) (o.1 k q);
    each = λ k f m. subst (λ z. FragmentGives gx gs h p z c.scatter (row_of c.start) w ins k f (o.0 k)) (sym e)
        (
        let n = same_plan h c.fragments.items feeds same.trees k f m in
        let a = (fresh k n.0 n.1).produces w (o.0 k) (o.2 k n.0 n.1) in
        let u = a.1 w ins refl none in (
          u.0,
          u.2,
          subst (λ z. ProducesOver (h.plan f) (p.stock w) z (row_of c.start) (o.0 k)) (sym u.1)
              (subst (λ z. ProducesOver z (p.stock w) a.0 (row_of c.start) (o.0 k)) n.2 a.2),
        ));
    fills = fills;
    gathers = o.3;
    rows = refl;
    counts = λ i. refl;
  }

  -- the Gather begins over fresh fragments
  pub gathering_begun : (x : X) (s : S) (stock : Dataset) (start : Row) (feeds : List F) (w : W)
      → gx.valid x w
      → Begun (gx.node x) (gx.unreported x) (gx.ours x) (gx.waited x) (gx.stuck x) (gx.busy x) (gx.may x)
      (gx.asks x) (gx.ended x) (gx.started x)
      → ((k : ℕ) → k < length feeds → begins (gx.node x) k ≡ true)
      → ((k : ℕ) (f : F) → slice_get feeds k ≡ Some f → IsFresh gs h p s stock start k f)
      → Gathering gx h p x feeds w
  gathering_begun x s stock start feeds w v new begin fresh = record {
    executor_valid = v;
    begun = λ k l. new.started_is k ∙ begin k l;
    inputs = λ k f m. record {
      input_valid = λ b. (fresh k f m).valid w;
      may_ask = λ b q a. (fresh k f m).may_come q (new.asks_calls k q a);
      none_left = λ b z. absurd (false≢true (sym (new.none_ended k) ∙ z));
      in_flight = λ z. absurd (new.none_waited k z);
    };
    none_unreported = new.none_unreported;
    none_waits = new.none_waited;
    apart = λ j k a b ma mb n l o z. absurd ((fresh j a ma).no_link l o);
  }

  -- ---- after it is filled

  -- what the fragments have left, of a rest of the node
  pub rests_of : (c : GatherNode X S F) (w : W) (ins : ℕ → Rest) (r : Rest) → c.filled ≡ true
      → (d : NodeGives gx gs h p c w ins r) → GatheredRests gx h p c.gather c.fragments.items w d.own
  rests_of c w ins r filled d = (
    d.lists,
    d.ends,
    (λ k f m. subst (λ z. FragmentGives gx gs h p z c.scatter (row_of c.start) w ins k f (d.lists k)) filled
        (d.each k f m)),
    d.gathers,
  )

  -- and a rest of the node for what they have left
  pub given_of : (c : GatherNode X S F) (w : W) (ins : ℕ → Rest) (own filling : Rest) → c.filled ≡ true
      → GatheredRests gx h p c.gather c.fragments.items w own
      → gs.gives c.scatter w (length c.fragments.items) no_body ins filling
      → NodeGives gx gs h p c w ins
      (record { rows = own.rows; counts = λ i. own.counts i + filling.counts i })
  given_of c w ins own filling filled o fills = record {
    lists = o.0;
    own = own;
    filling = filling;
    ends = o.1;
    each = λ k f m. subst (λ z. FragmentGives gx gs h p z c.scatter (row_of c.start) w ins k f (o.0 k))
        (sym filled) (o.2 k f m);
    fills = fills;
    gathers = o.3;
    rows = refl;
    counts = λ i. refl;
  }
