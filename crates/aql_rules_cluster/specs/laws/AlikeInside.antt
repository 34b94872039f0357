-- Another foot or lowest node may stand in a fragment where it gives the same lists on each shard: the nodes
-- above give the same then, and so does the Gather.
use Rattle.std.proofs.Common.{◌≡◌, ℕ, List, Bool, true, true≢false, refl, sym, subst}
use Rattle.std.specs.Prelude.{filter, Option, Some, None}
use Rattle.std.specs.List.{AllZip}
use Rattle.aql_value.specs.Datum.{Datum}
use Rattle.aql_value.specs.Database.{Database}
use Rattle.aql_tree.specs.Tree.{ExprTree, ExprTrees}
use Rattle.aql_meaning.specs.AtRows.{value_of, keys_of, passes}
use Rattle.aql_meaning.specs.Documents.{Last, last_map, in_bounds, Scanned, ScannedInOrder}
use Rattle.aql_meaning.specs.Row.{Row}
use Rattle.aql_meaning.specs.Uses.{Uses}
use Rattle.aql_plan.specs.declared.facts.Facts.{Facts}
use Rattle.aql_plan.specs.Facts.{Meets, attributes_in}
use Rattle.aql_plan.specs.Plan.{Reading, Plan, Over, Node, EnumerateCollection, Index, Subquery, NoResults, Scatter, Distribute, Remote, Gather}
use Rattle.aql_plan.specs.Refines.{dataset, RefinesFor}
use Rattle.aql_plan.specs.Runs.{Dataset, Site, Inside, Runs, Feeds, Gives, targets, sent_to, read, Indexed}
use Rattle.aql_plan_laws.specs.laws.Agreement.{rows_agree}
use Rattle.aql_plan_laws.specs.laws.Lists.{weaker}
use Rattle.aql_rules_cluster.specs.DistributeFiltercalcToCluster.{gathered}
use Rattle.aql_rules_cluster.specs.FragmentParts.{is_above_foot, SameAbove, none_above, one_above}

-- ---- a node goes by its site only where it reads

index_there : (x : Reading) (index : ℕ) (equal : ExprTrees) (last : Last ExprTree) (ordered : Option Bool)
    (w : Dataset) (k l : Site) (rows out : List Row) → read w x.coll x.shard k ≡ read w x.coll x.shard l
    → Indexed w k x index equal last ordered rows out → Indexed w l x index equal last ordered rows out
index_there x index equal last None w k l rows out e g =
    subst (λ (ds : List Datum). Scanned x.var (passes x.filter) x.attrs (λ row. filter
    (in_bounds (attributes_in w.facts x.coll index) (keys_of equal row) (last_map (λ e. value_of e row) last))
    ds) rows out) e g
index_there x index equal last (Some descending) w k l rows out e g =
    subst (λ (ds : List Datum). ScannedInOrder (attributes_in w.facts x.coll index) descending x.var
    (passes x.filter) x.attrs (λ row. filter
    (in_bounds (attributes_in w.facts x.coll index) (keys_of equal row) (last_map (λ e. value_of e row) last))
    ds) rows out) e g

-- where a node reads the same, it gives the same
abbrev pub ReadsSame : Node → Dataset → Site → Site → Type 0
ReadsSame (EnumerateCollection x) w k l = read w x.coll x.shard k ≡ read w x.coll x.shard l
ReadsSame (Index x index equal last ordered) w k l = read w x.coll x.shard k ≡ read w x.coll x.shard l
ReadsSame n w k l = Unit {0}

pub gives_there : (n : Node) (w : Dataset) (k l : Site) (start : Row) (rows out : List Row)
    → ReadsSame n w k l → Gives n w k start rows out → Gives n w l start rows out
gives_there (EnumerateCollection x) w k l start rows out e g =
    subst (λ (ds : List Datum). Scanned x.var (passes x.filter) x.attrs (λ row. ds) rows out) e g
gives_there (Index x index equal last ordered) w k l start rows out e g =
    index_there x index equal last ordered w k l rows out e g
gives_there n w k l start rows out e g = g

-- on one shard all nodes do, whatever rows came there
same_read : (w : Dataset) (s : ℕ) (rows others : List Row) (coll : ℕ) (own : Option ℕ)
    → read w coll own (Inside s rows) ≡ read w coll own (Inside s others)
same_read w s rows others coll None = refl
same_read w s rows others coll (Some shard) = refl

pub same_reads : (n : Node) (w : Dataset) (s : ℕ) (rows others : List Row)
    → ReadsSame n w (Inside s rows) (Inside s others)
same_reads (EnumerateCollection x) w s rows others = same_read w s rows others x.coll x.shard
same_reads (Index x index equal last ordered) w s rows others = same_read w s rows others x.coll x.shard
same_reads n w s rows others = tt

-- ---- parts of fragments that give the same lists

-- q may stand for p: their feet take the same list and reach the same shards, and each shard gives the same
pub record AlikeInside (facts : Facts) (q p : Plan) : Type 0 where
  pub feeds : (db : Database) → Meets facts db → (start : Row) (taken : List Row)
      → Feeds q (dataset facts db) start taken → Feeds p (dataset facts db) start taken
  pub shards : (w : Dataset) → targets q w ≡ targets p w
  pub runs : (db : Database) → Meets facts db → (start : Row) (taken : List Row) (shard : ℕ) (out : List Row)
      → Runs q (dataset facts db) (Inside shard (sent_to q (dataset facts db) shard taken)) start out
      → Runs p (dataset facts db) (Inside shard (sent_to p (dataset facts db) shard taken)) start out

-- one node of a fragment
alike_below : (n : Node) → is_above_foot n ≡ true → (facts : Facts) (q p : Plan) → AlikeInside facts q p
    → AlikeInside facts (Over q n) (Over p n)
alike_below (Scatter coll only) i facts q p h = absurd (true≢false (sym i))
alike_below (Distribute coll es) i facts q p h = absurd (true≢false (sym i))
alike_below (Gather directions es) i facts q p h = absurd (true≢false (sym i))
alike_below (Subquery x s) i facts q p h = absurd (true≢false (sym i))
alike_below NoResults i facts q p h = record {
  feeds = h.feeds;
  shards = h.shards;
  runs = λ db meets start taken shard out g. g;
}
alike_below n i facts q p h = record {
  feeds = h.feeds;
  shards = h.shards;
  runs = λ db meets start taken shard out g. (
    g.0,
    h.runs db meets start taken shard g.0 g.1,
    gives_there n (dataset facts db) (Inside shard (sent_to q (dataset facts db) shard taken))
        (Inside shard (sent_to p (dataset facts db) shard taken)) start g.0 out
        (same_reads n (dataset facts db) shard (sent_to q (dataset facts db) shard taken)
        (sent_to p (dataset facts db) shard taken)) g.2,
  );
}

pub alike_above : {facts : Facts} {old new p q : Plan} → AlikeInside facts new old → SameAbove old new p q
    → AlikeInside facts q p
alike_above h none_above = h
alike_above {facts = facts} h (one_above {p = p} {q = q} {n = n} i s) =
    alike_below n i facts q p (alike_above h s)

-- the link below the Gather
alike_sent : (facts : Facts) (q p : Plan) → AlikeInside facts q p
    → AlikeInside facts (Over q Remote) (Over p Remote)
alike_sent facts q p h = alike_below Remote refl facts q p h

-- at the Gather the fragment with the one refines that with the other
alike_at_gather : (facts : Facts) (us : Uses) (directions : List Bool) (keys : ExprTrees) (q p : Plan)
    → AlikeInside facts q p
    → RefinesFor us facts (Over q (Gather directions keys)) (Over p (Gather directions keys))
alike_at_gather facts us directions keys q p h db meets start out g =
    let w = dataset facts db in (
      out,
      (
        g.0,
        g.1,
        h.feeds db meets start g.0 g.2,
        subst (λ (ss : List ℕ). AllZip
            (λ shard rows. Runs p w (Inside shard (sent_to p w shard g.0)) start rows) ss g.1) (h.shards w)
            (weaker (λ shard rows. Runs q w (Inside shard (sent_to q w shard g.0)) start rows)
            (λ shard rows. Runs p w (Inside shard (sent_to p w shard g.0)) start rows)
            (λ shard rows k. h.runs db meets start g.0 shard rows k) (targets q w) g.1 g.3),
        g.4,
      ),
      rows_agree us out,
    )

pub foot_may_be_replaced : (facts : Facts) (us : Uses) (directions : List Bool) (keys : ExprTrees)
    (old new p q : Plan) → AlikeInside facts new old → SameAbove old new p q
    → RefinesFor us facts (gathered directions keys q) (gathered directions keys p)
foot_may_be_replaced facts us directions keys old new p q h s =
    alike_at_gather facts us directions keys (Over q Remote) (Over p Remote)
    (alike_sent facts q p (alike_above h s))
