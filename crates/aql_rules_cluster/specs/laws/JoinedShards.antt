-- What remove-unnecessary-remote-scatter makes of a part, the part may give: of a fragment on one shard over
-- another one on one shard, the upper one may take the list that the lower one gives.
use Rattle.std.proofs.Common.{◌≡◌, ◌∙◌, ℕ, List, [], ◌∷◌, Bool, true, false, true≢false, refl, ap, sym, subst}
use Rattle.std.specs.Prelude.{filter, Option, Some, None, is_some}
use Rattle.std.specs.List.{AllZip}
use Rattle.aql_value.specs.Database.{Database}
use Rattle.aql_tree.specs.declared.syntax.Ident.{Ident}
use Rattle.aql_tree.specs.Tree.{ExprTrees}
use Rattle.aql_meaning.specs.AtRows.{value_of, keys_of, passes, row_before}
use Rattle.aql_meaning.specs.Documents.{last_map, in_bounds, Scanned, ScannedInOrder}
use Rattle.aql_meaning.specs.Merges.{Merged}
use Rattle.aql_meaning.specs.Row.{Row}
use Rattle.aql_meaning.specs.Uses.{Uses, Agree}
use Rattle.aql_meaning.specs.laws.SomeOrder.{keyed_order}
use Rattle.aql_plan.specs.declared.facts.Facts.{Facts}
use Rattle.aql_plan.specs.Above.{input_inside}
use Rattle.aql_plan.specs.Facts.{Meets, attributes_in, numbers_below}
use Rattle.aql_plan.specs.Plan.{Plan, Over, Node, EnumerateCollection, Index, Filter, Calculation, Subquery, NoResults, Scatter, Distribute, Remote, Gather}
use Rattle.aql_plan.specs.Refines.{dataset, RefinesFor}
use Rattle.aql_plan.specs.Runs.{Dataset, Site, Inside, Outside, Runs, Feeds, Gives, targets, sent_to, read}
use Rattle.aql_plan.specs.Shapes.{Shape, Foot, Fragment, States, Sent, ReadsShard, KeepsRowOrder, IsSent, Shaped, calculated, with_subquery, plain_rows, ordered_rows, scatter, distribute, remote, lowest, lowest_in_order, other_reading, passing, sorting, gather, gather_in_order, partial, joining, finishing, returning, is_inside}
use Rattle.aql_plan_laws.specs.laws.Agreement.{rows_agree}
use Rattle.aql_plan_laws.specs.laws.ShapesKept.{under_top}
use Rattle.aql_rewrite.specs.declared.swap.Rename.{Rename}
use Rattle.aql_rewrite.specs.Placed.{Placed}
use Rattle.aql_rewrite.specs.Swaps.{Replaced}
use Rattle.aql_rules_cluster.specs.DistributeFiltercalcToCluster.{gathered}
use Rattle.aql_rules_cluster.specs.FragmentParts.{over_link, is_above_foot, ReadsHere, SameAbove, none_above, one_above}
use Rattle.aql_rules_cluster.specs.RemoveUnnecessaryRemoteScatter.{RunsOnOne, named, scattered, distributed, above_foot, with_shard, Joins, joined}
use Rattle.aql_rules_cluster.specs.laws.AlikeInside.{ReadsSame, gives_there}
use Rattle.aql_rules_cluster.specs.laws.KeptAbove.{inside_above}

-- ---- a fragment on one shard

over_targets : (b : Plan) (n : Node) (w : Dataset) → is_above_foot n ≡ true
    → targets (Over b n) w ≡ targets b w
over_targets b (Scatter coll only) w h = absurd (true≢false (sym h))
over_targets b (Distribute coll es) w h = absurd (true≢false (sym h))
over_targets b n w h = refl

pub one_target : {facts : Facts} {f : Plan} {coll shard : ℕ} → RunsOnOne facts f coll shard → (db : Database)
    → targets f (dataset facts db) ≡ shard ∷ []
one_target named db = refl
one_target (scattered e) db = ap numbers_below e
one_target (distributed e) db = ap numbers_below e
one_target {facts = facts} (above_foot {b = b} {n = n} i h) db =
    over_targets b n (dataset facts db) i ∙ one_target h db

-- ---- nodes that go by their rows alone

-- they read nothing, or a shard of their own
abbrev pub ReadsApart : Node → Type 0
ReadsApart (EnumerateCollection x) = is_some x.shard ≡ true
ReadsApart (Index x index equal last ordered) = is_some x.shard ≡ true
ReadsApart NoResults = ⊥
ReadsApart (Subquery x s) = ⊥
ReadsApart (Scatter coll only) = ⊥
ReadsApart (Distribute coll es) = ⊥
ReadsApart (Gather directions es) = ⊥
ReadsApart n = Unit {0}

read_apart : (w : Dataset) (k l : Site) (coll : ℕ) (own : Option ℕ) → is_some own ≡ true
    → read w coll own k ≡ read w coll own l
read_apart w k l coll None h = absurd (true≢false (sym h))
read_apart w k l coll (Some s) h = refl

reads_apart : (n : Node) → ReadsApart n → (w : Dataset) (k l : Site) → ReadsSame n w k l
reads_apart (EnumerateCollection x) h w k l = read_apart w k l x.coll x.shard h
reads_apart (Index x index equal last ordered) h w k l = read_apart w k l x.coll x.shard h
reads_apart n h w k l = tt

-- ---- what a fragment gives on its shard

-- q runs on one shard, p on one, and what q gives there p gives with some list at its foot
pub record OneForOne (facts : Facts) (q p : Plan) : Type 0 where
  pub low : ℕ
  pub high : ℕ
  pub q_on : (db : Database) → targets q (dataset facts db) ≡ low ∷ []
  pub p_on : (db : Database) → targets p (dataset facts db) ≡ high ∷ []
  pub gives : (db : Database) → Meets facts db → (start : Row) (taken out : List Row)
      → Feeds q (dataset facts db) start taken
      → Runs q (dataset facts db) (Inside low (sent_to q (dataset facts db) low taken)) start out
      → (other : List Row) × Feeds p (dataset facts db) start other
      × Runs p (dataset facts db) (Inside high (sent_to p (dataset facts db) high other)) start out

-- below a node of a fragment
one_below : (n : Node) → ReadsApart n → (facts : Facts) (q p : Plan) → OneForOne facts q p
    → OneForOne facts (Over q n) (Over p n)
one_below NoResults i facts q p h = absurd i
one_below (Subquery x s) i facts q p h = absurd i
one_below (Scatter coll only) i facts q p h = absurd i
one_below (Distribute coll es) i facts q p h = absurd i
one_below (Gather directions es) i facts q p h = absurd i
one_below n i facts q p h = record {
  low = h.low;
  high = h.high;
  q_on = h.q_on;
  p_on = h.p_on;
  gives = λ db meets start taken out fed g.
      let w = dataset facts db in
      let k = h.gives db meets start taken g.0 fed g.1 in (
        k.0,
        k.1,
        (
          g.0,
          k.2,
          gives_there n w (Inside h.low (sent_to q w h.low taken))
              (Inside h.high (sent_to p w h.high k.0)) start g.0 out
              (reads_apart n i w (Inside h.low (sent_to q w h.low taken))
              (Inside h.high (sent_to p w h.high k.0)))
              g.2,
        ),
      );
}

-- at a Gather
one_at_gather : (facts : Facts) (us : Uses) (directions : List Bool) (keys : ExprTrees) (q p : Plan)
    → OneForOne facts q p
    → RefinesFor us facts (Over q (Gather directions keys)) (Over p (Gather directions keys))
one_at_gather facts us directions keys q p h db meets start out (taken, lists, fed, each, m) =
    alone lists (subst (λ (ss : List ℕ). AllZip (λ shard rows. Runs q (dataset facts db)
    (Inside shard (sent_to q (dataset facts db) shard taken)) start rows) ss lists) (h.q_on db) each) m
  where
    alone : (ls : List (List Row))
        → AllZip (λ shard rows. Runs q (dataset facts db)
        (Inside shard (sent_to q (dataset facts db) shard taken)) start rows) (h.low ∷ []) ls
        → Merged (row_before directions keys) ls out
        → (other : List Row) × Runs (Over p (Gather directions keys)) (dataset facts db) Outside start other
        × AllZip (Agree us) out other
    alone [] g n = absurd g
    alone (l ∷ k ∷ ls) g n = absurd g.1
    alone (l ∷ []) g n =
        let k = h.gives db meets start taken l fed g.0 in (
          out,
          (
            k.0,
            l ∷ [],
            k.1,
            subst (λ (ss : List ℕ). AllZip (λ shard rows. Runs p (dataset facts db)
                (Inside shard (sent_to p (dataset facts db) shard k.0)) start rows) ss (l ∷ []))
                (sym (h.p_on db)) (k.2, tt),
            n,
          ),
          rows_agree us out,
        )

-- ---- the lowest node of the upper fragment

-- a list alone is a merge of itself
merged_self : (own : List Bool) (es : ExprTrees) (rows : List Row)
    → Merged (row_before own es) (rows ∷ []) rows
merged_self own es [] = (refl, tt)
merged_self own es (row ∷ rows) =
    (0, rows, refl, (itself (row_before own es row row) refl, tt), merged_self own es rows)
  where
    itself : (b : Bool) → row_before own es row row ≡ b → row_before own es row row ≡ false
    itself true e = (keyed_order own (keys_of es)).one_way row row e
    itself false e = e

-- it reads a shard of its own, or that of its fragment
lowest_gives : (n : Node) (coll high : ℕ) → ReadsHere coll n → (w : Dataset) (site : Site) (start : Row)
    (rows out : List Row) → Gives (with_shard high n) w site start rows out
    → Gives n w (Inside high rows) start rows out
lowest_gives (EnumerateCollection x) coll high h w site start rows out g =
    subst (λ (o : Option ℕ). Scanned x.var (passes x.filter) x.attrs
    (λ row. read w x.coll o (Inside high rows)) rows out) (sym h.1) g
lowest_gives (Index x index equal last None) coll high h w site start rows out g =
    subst (λ (o : Option ℕ). Scanned x.var (passes x.filter) x.attrs (λ row. filter
    (in_bounds (attributes_in w.facts x.coll index) (keys_of equal row) (last_map (λ e. value_of e row) last))
    (read w x.coll o (Inside high rows))) rows out) (sym h.1) g
lowest_gives (Index x index equal last (Some descending)) coll high h w site start rows out g =
    subst (λ (o : Option ℕ). ScannedInOrder (attributes_in w.facts x.coll index) descending x.var
    (passes x.filter) x.attrs (λ row. filter
    (in_bounds (attributes_in w.facts x.coll index) (keys_of equal row) (last_map (λ e. value_of e row) last))
    (read w x.coll o (Inside high rows))) rows out) (sym h.1) g
lowest_gives n coll high h w site start rows out g = absurd h

-- the lower fragment, gathered, gives what its shard gives
gathered_gives : (facts : Facts) (f : Plan) (directions : List Bool) (keys : ExprTrees) (low : ℕ)
    (db : Database) → targets f (dataset facts db) ≡ low ∷ [] → (start : Row) (taken rows : List Row)
    → Feeds f (dataset facts db) start taken
    → Runs f (dataset facts db) (Inside low (sent_to f (dataset facts db) low taken)) start rows
    → Runs (gathered directions keys f) (dataset facts db) Outside start rows
gathered_gives facts f directions keys low db on start taken rows fed run = (
  taken,
  rows ∷ [],
  fed,
  subst (λ (ss : List ℕ). AllZip (λ shard list. Runs (Over f Remote) (dataset facts db)
      (Inside shard (sent_to f (dataset facts db) shard taken)) start list) ss (rows ∷ [])) (sym on)
      ((rows, run, refl), tt),
  merged_self directions keys rows,
)

module _ (facts : Facts) (f : Plan) (low_coll low coll high : ℕ) (only : Option ℕ) (directions : List Bool)
    (keys : ExprTrees) (lower : RunsOnOne facts f low_coll low)
    (upper : RunsOnOne facts (Over (gathered directions keys f) (Scatter coll only)) coll high) where
  abbrev foot : Plan
  foot = Over (gathered directions keys f) (Scatter coll only)

  one_lowest : (n : Node) → ReadsHere coll n
      → OneForOne facts (Over f (with_shard high n)) (over_link foot n)
  one_lowest (EnumerateCollection x) h = record {
    low = low;
    high = high;
    q_on = λ db. one_target lower db;
    p_on = λ db. one_target upper db;
    gives = λ db meets start taken out fed g. (
      g.0,
      gathered_gives facts f directions keys low db (one_target lower db) start taken g.0 fed g.1,
      (
        g.0,
        (g.0, refl, refl),
        lowest_gives (EnumerateCollection x) coll high h (dataset facts db)
            (Inside low (sent_to f (dataset facts db) low taken)) start g.0 out g.2,
      ),
    );
  }
  one_lowest (Index x index equal last ordered) h = record {
    low = low;
    high = high;
    q_on = λ db. one_target lower db;
    p_on = λ db. one_target upper db;
    gives = λ db meets start taken out fed g. (
      g.0,
      gathered_gives facts f directions keys low db (one_target lower db) start taken g.0 fed g.1,
      (
        g.0,
        (g.0, refl, refl),
        lowest_gives (Index x index equal last ordered) coll high h (dataset facts db)
            (Inside low (sent_to f (dataset facts db) low taken)) start g.0 out g.2,
      ),
    );
  }
  one_lowest n h = absurd h

-- ---- the nodes above it

-- in a well-formed plan they stand over what a fragment gives
abbrev IsGiven : Shape → Type 0
IsGiven (Fragment o) = Unit {0}
IsGiven (States xs es gs) = Unit {0}
IsGiven (Sent s) = IsGiven s
IsGiven s = ⊥

sent_inside : (s : Shape) → IsSent s → is_inside s ≡ true
sent_inside (Foot coll one) h = refl
sent_inside (Fragment o) h = refl
sent_inside (States xs es gs) h = refl
sent_inside s h = absurd h

shard_apart : (n : Node) → ReadsShard n → ReadsApart n
shard_apart (EnumerateCollection x) h = h
shard_apart (Index x index equal last None) h = h
shard_apart (Index x index equal last (Some descending)) h = absurd h
shard_apart n h = absurd h

order_apart : (n : Node) → KeepsRowOrder n → ReadsApart n
order_apart (Filter e) h = tt
order_apart (Calculation x e) h = tt
order_apart n h = absurd h

lowest_given : (facts : Facts) (b : Plan) (n : Node) (coll : ℕ) (s : Shape) → ReadsHere coll n
    → is_inside s ≡ true → Shaped facts (Over b n) s → IsGiven s
lowest_given facts b n coll s i e (calculated f h) = absurd i
lowest_given facts b n coll s i e (with_subquery g h) = absurd i
lowest_given facts b n coll s i e (plain_rows k f h) = absurd (true≢false (sym e))
lowest_given facts b n coll s i e (ordered_rows k f h) = absurd (true≢false (sym e))
lowest_given facts b n coll s i e (scatter f h) = absurd i
lowest_given facts b n coll s i e (distribute f h) = absurd i
lowest_given facts b n coll s i e (remote k h) = absurd i
lowest_given facts b n coll s i e (lowest k f h) = tt
lowest_given facts b n coll s i e (lowest_in_order k f h) = tt
lowest_given facts b n coll s i e (other_reading k f h) = tt
lowest_given facts b n coll s i e (passing k f h) = tt
lowest_given facts b n coll s i e (sorting f h) = tt
lowest_given facts b n coll s i e (gather h) = absurd i
lowest_given facts b n coll s i e (gather_in_order f h) = absurd i
lowest_given facts b n coll s i e (partial f h) = tt
lowest_given facts b n coll s i e (joining h) = absurd i
lowest_given facts b n coll s i e (finishing f h) = absurd i
lowest_given facts b n coll s i e (returning f h) = absurd i

above_given : (facts : Facts) (b : Plan) (n : Node) (s : Shape) → is_above_foot n ≡ true → is_inside s ≡ true
    → ((t : Shape) → is_inside t ≡ true → Shaped facts b t → IsGiven t) → Shaped facts (Over b n) s
    → IsGiven s × ReadsApart n
above_given facts b n s i e k (calculated f h) = absurd (true≢false (sym e))
above_given facts b n s i e k (with_subquery g h) = absurd (true≢false (sym e))
above_given facts b n s i e k (plain_rows j f h) = absurd (true≢false (sym e))
above_given facts b n s i e k (ordered_rows j f h) = absurd (true≢false (sym e))
above_given facts b n s i e k (scatter f h) = absurd (true≢false (sym i))
above_given facts b n s i e k (distribute f h) = absurd (true≢false (sym i))
above_given facts b n s i e k (remote {s = t} j h) = (k t (sent_inside t j) h, tt)
above_given facts b n s i e k (lowest j f h) = absurd (k _ refl h)
above_given facts b n s i e k (lowest_in_order j f h) = absurd (k _ refl h)
above_given facts b n s i e k (other_reading {n = m} j f h) = (tt, shard_apart m j)
above_given facts b n s i e k (passing {n = m} j f h) = (tt, order_apart m j)
above_given facts b n s i e k (sorting f h) = (tt, tt)
above_given facts b n s i e k (gather h) = absurd (true≢false (sym e))
above_given facts b n s i e k (gather_in_order f h) = absurd (true≢false (sym e))
above_given facts b n s i e k (partial f h) = (tt, tt)
above_given facts b n s i e k (joining h) = absurd (true≢false (sym e))
above_given facts b n s i e k (finishing f h) = absurd (true≢false (sym e))
above_given facts b n s i e k (returning f h) = absurd (true≢false (sym e))

module _ (facts : Facts) (old new : Plan)
    (given : (s : Shape) → is_inside s ≡ true → Shaped facts old s → IsGiven s) where
  all_given : {p q : Plan} → SameAbove old new p q → (s : Shape) → is_inside s ≡ true → Shaped facts p s
      → IsGiven s
  all_given none_above s e h = given s e h
  all_given (one_above {p = p} {n = n} i k) s e h =
      (above_given facts p n s i e (λ t j g. all_given k t j g) h).0

  one_through : {p q : Plan} → SameAbove old new p q → OneForOne facts new old → (s : Shape)
      → is_inside s ≡ true → Shaped facts p s → OneForOne facts q p
  one_through none_above one s e h = one
  one_through (one_above {p = p} {q = q} {n = n} i k) one s e h =
      let below = under_top facts p n s h in
      one_below n (above_given facts p n s i e (λ t j g. all_given k t j g) h).1 facts q p
      (one_through k one below.0 (below.1 ∙ ap (input_inside n) e ∙ inside_above n i) below.2)

-- ---- the rule

pub joins_refine : (facts : Facts) (outer away : List Ident) (us : Uses) (p q : Plan) (r : Option Rename)
    → Placed true false facts outer away us p → Joins facts us p q r → Replaced true facts us p q r
joins_refine facts outer away _ _ _ _ placed (joined {us = us} {f = f} {p = p} {q = q} {n = n}
    {low_coll = low_coll} {low = low} {coll = coll} {high = high} {only = only} {between = between}
    {directions = directions} {between_keys = between_keys} {keys = keys} servers lower upper same here
    above) =
    let old = over_link (Over (gathered between between_keys f) (Scatter coll only)) n in
    let new = Over f (with_shard high n) in
    let sent = under_top facts (Over p Remote) (Gather directions keys) placed.shaped.0 placed.shaped.2 in
    let inside = under_top facts p Remote sent.0 sent.2 in
    one_at_gather facts us directions keys (Over q Remote) (Over p Remote) (one_below Remote tt facts q p
    (one_through facts old new
    (λ s e h. lowest_given facts (Over (Over (gathered between between_keys f) (Scatter coll only)) Remote) n
    coll s here e h) above
    (one_lowest facts f low_coll low coll high only between between_keys lower upper n here)
    inside.0 (inside.1 ∙ sent.1) inside.2))
