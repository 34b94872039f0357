-- A part of a plan may be replaced by one that refines it for what the nodes above use: below any node, in
-- the body of a subquery, and below the foot of a fragment.
use Rattle.std.proofs.Common.{◌≡◌, ◌∙◌, ℕ, List, [], ◌∷◌, ◌++◌, map, Bool, true, false, refl, ap, ap₂, sym, subst}
use Rattle.std.specs.Prelude.{Option, Some, None, ◌==◌}
use Rattle.std.specs.Ordering.{is_lt}
use Rattle.std.specs.List.{AllZip}
use Rattle.aql_value.specs.Datum.{null}
use Rattle.aql_value.specs.Contents.{list}
use Rattle.aql_value.specs.Database.{Database}
use Rattle.aql_tree.specs.declared.syntax.Ident.{Ident}
use Rattle.aql_tree.specs.Tree.{ExprTrees}
use Rattle.aql_meaning.specs.Row.{Row, bind}
use Rattle.aql_meaning.specs.Clauses.{keys_cmp}
use Rattle.aql_meaning.specs.Uses.{Uses, Agree, all_uses}
use Rattle.aql_meaning.specs.laws.Agrees.{agree_split, values_same}
use Rattle.aql_value.specs.Shards.{shard_of}
use Rattle.aql_plan.specs.declared.facts.Facts.{Facts}
use Rattle.aql_plan.specs.Facts.{Meets, shards_in}
use Rattle.aql_plan.specs.Plan.{Plan, Over, Node, Subquery, NoResults, Scatter, Distribute, Gather}
use Rattle.aql_plan.specs.Runs.{Dataset, Site, Outside, Inside, read, result_of, targets, sent_to, Runs, Feeds}
use Rattle.aql_meaning.specs.AtRows.{keys_of, row_before}
use Rattle.aql_plan.specs.Needs.{result_uses, under}
use Rattle.aql_plan.specs.Above.{raised, input_inside, stands_inside, uses_above}
use Rattle.aql_plan.specs.Refines.{dataset, RefinesFor, Refines}
use Rattle.aql_plan_laws.specs.laws.Lists.{weaker, map_equal, filter_related, chosen, related_through}
use Rattle.aql_plan_laws.specs.laws.MergesAlike.{merged_alike}
use Rattle.aql_plan_laws.specs.laws.Agreement.{agree_through, rows_agree, gives_agree}

pub refines_self : (us : Uses) (facts : Facts) (p : Plan) → RefinesFor us facts p p
refines_self us facts p db meets start out g = (out, g, rows_agree us out)

pub refines_through : (us : Uses) (facts : Facts) (q p o : Plan)
    → RefinesFor us facts q p → RefinesFor us facts p o → RefinesFor us facts q o
refines_through us facts q p o h k db meets start out g =
    let a = h db meets start out g in
    let b = k db meets start a.0 a.1 in
    (b.0, b.1, related_through (Agree us) (Agree us) (Agree us) (agree_through us) out a.0 b.0 a.2 b.2)

pub results_agree : (rows others : List Row) → AllZip (Agree result_uses) rows others
    → map result_of rows ≡ map result_of others
results_agree rows others h =
    map_equal (Agree result_uses) result_of result_of (λ r s k. k.0) rows others h

pub refines_answers : (facts : Facts) (q p : Plan) → RefinesFor result_uses facts q p → Refines facts q p
refines_answers facts q p h db meets start vs g =
    let a = h db meets start g.0 g.1 in
    (a.0, a.1, g.2 ∙ results_agree g.0 a.0 a.2)

-- below every node but a Gather, whose input is a fragment
abbrev pub IsNoGather : Node → Type 0
IsNoGather (Gather directions es) = ⊥
IsNoGather n = Unit {0}

pub refines_below : (n : Node) → IsNoGather n → (us : Uses) (facts : Facts) (q p : Plan)
    → RefinesFor (under n us) facts q p → RefinesFor us facts (Over q n) (Over p n)
refines_below NoResults plain us facts q p h db meets start out g = (out, g, rows_agree us out)
refines_below (Scatter coll only) plain us facts q p h db meets start out g = (out, g, rows_agree us out)
refines_below (Distribute coll es) plain us facts q p h db meets start out g = (out, g, rows_agree us out)
refines_below (Gather directions es) plain us facts q p h db meets start out g = absurd plain
refines_below n plain us facts q p h db meets start out g =
    let a = h db meets start g.0 g.1 in
    let b = gives_agree n us (dataset facts db) Outside Outside start
    (λ coll shard. refl) g.0 a.0 out a.2 g.2 in
    (b.0, (a.0, a.1, b.1), b.2)

-- a body needs no more than to give the same values
pub refines_body : (x : Ident) (us : Uses) (facts : Facts) (b q p : Plan)
    → Refines facts q p → RefinesFor us facts (Over b (Subquery x q)) (Over b (Subquery x p))
refines_body x us facts b q p h db meets start out g = (
  out,
  (
    g.0,
    g.1,
    weaker
        (λ row given. (results : List Row) × Runs q (dataset facts db) Outside row results
        × (given ≡ bind x row (list (map result_of results))))
        (λ row given. (results : List Row) × Runs p (dataset facts db) Outside row results
        × (given ≡ bind x row (list (map result_of results))))
        (λ row given a.
        let k = h db meets row (map result_of a.0) (a.0, a.1, refl) in
        (k.0, k.1, a.2 ∙ ap (λ vs. bind x row (list vs)) k.2)) g.0 out g.2,
  ),
  rows_agree us out,
)

-- ---- fragments

-- within a fragment: the list that the foot takes, what each shard gives of it, and which shards are reached
pub record RefinesInside (us : Uses) (facts : Facts) (q p : Plan) : Type 0 where
  -- what is used of the rows that come to the foot
  pub feet : Uses
  pub feeds : (db : Database) → Meets facts db → (start : Row) (taken : List Row)
      → Feeds q (dataset facts db) start taken
      → (more : List Row) × Feeds p (dataset facts db) start more × AllZip (Agree feet) taken more
  pub runs : (db : Database) → Meets facts db → (start : Row) (shard : ℕ) (taken more out : List Row)
      → AllZip (Agree feet) taken more → Runs q (dataset facts db) (Inside shard taken) start out
      → (other : List Row) × Runs p (dataset facts db) (Inside shard more) start other
      × AllZip (Agree us) out other
  pub shards : (w : Dataset) → targets q w ≡ targets p w
  pub split : (w : Dataset) (shard : ℕ) (taken more : List Row) → AllZip (Agree feet) taken more
      → AllZip (Agree feet) (sent_to q w shard taken) (sent_to p w shard more)

scatter_stands : (coll : ℕ) (only : Option ℕ) (us : Uses) (facts : Facts) (q p : Plan)
    → RefinesFor us facts q p
    → RefinesInside us facts (Over q (Scatter coll only)) (Over p (Scatter coll only))
scatter_stands coll only us facts q p h = record {
  feet = us;
  feeds = h;
  runs = λ db meets start shard taken more out a g.
      (more, refl, subst (λ (o : List Row). AllZip (Agree us) o more) (sym g) a);
  shards = λ w. same only w;
  split = λ w shard taken more a. a;
}
  where
    same : (only : Option ℕ) (w : Dataset)
        → targets (Over q (Scatter coll only)) w ≡ targets (Over p (Scatter coll only)) w
    same None w = refl
    same (Some shard) w = refl

distribute_stands : (coll : ℕ) (es : ExprTrees) (us : Uses) (facts : Facts) (q p : Plan)
    → RefinesFor (all_uses es ++ us) facts q p
    → RefinesInside us facts (Over q (Distribute coll es)) (Over p (Distribute coll es))
distribute_stands coll es us facts q p h = record {
  feet = all_uses es ++ us;
  feeds = h;
  runs = λ db meets start shard taken more out a g. (
    more,
    refl,
    subst (λ (o : List Row). AllZip (Agree us) o more) (sym g)
        (weaker (Agree (all_uses es ++ us)) (Agree us)
        (λ r s k. (agree_split (all_uses es) us r s k).1) taken more a),
  );
  shards = λ w. refl;
  split = λ w shard taken more a. filter_related (Agree (all_uses es ++ us)) (Agree (all_uses es ++ us))
      (λ row. shard_of (shards_in w.facts coll) (keys_of es row) == shard)
      (λ row. shard_of (shards_in w.facts coll) (keys_of es row) == shard)
      (λ r s k. ap (λ vs. shard_of (shards_in w.facts coll) vs == shard)
      (values_same es null r s (agree_split (all_uses es) us r s k).0))
      (λ r s k. k) taken more a;
}

-- the lists of the shards, merged
gather_gives : (directions : List Bool) (es : ExprTrees) (us : Uses) (facts : Facts) (q p : Plan)
    → RefinesInside (all_uses es ++ us) facts q p → (db : Database) → Meets facts db
    → (k l : Site) (start : Row)
    → (out : List Row) → Runs (Over q (Gather directions es)) (dataset facts db) k start out
    → (other : List Row) × Runs (Over p (Gather directions es)) (dataset facts db) l start other
    × AllZip (Agree us) out other
gather_gives directions es us facts q p h db meets k l start out g =
    let vs : Uses = all_uses es ++ us in
    let w = dataset facts db in
    let fed = h.feeds db meets start g.0 g.2 in
    let lists = chosen (AllZip (Agree vs))
    (λ shard rows. Runs q w (Inside shard (sent_to q w shard g.0)) start rows)
    (λ shard rows. Runs p w (Inside shard (sent_to p w shard fed.0)) start rows)
    (λ shard rows run. h.runs db meets start shard (sent_to q w shard g.0) (sent_to p w shard fed.0) rows
    (h.split w shard g.0 fed.0 fed.2) run) (targets p w) g.1
    (subst (λ (shards : List ℕ). AllZip
    (λ shard rows. Runs q w (Inside shard (sent_to q w shard g.0)) start rows) shards g.1) (h.shards w) g.3)
    in
    let merged = merged_alike (Agree vs) (row_before directions es) (row_before directions es)
    (λ r s x y a c. ap₂ (λ u v. is_lt (keys_cmp directions u v))
    (values_same es null r s (agree_split (all_uses es) us r s a).0)
    (values_same es null x y (agree_split (all_uses es) us x y c).0)) out g.1 lists.0 lists.2 g.4 in (
      merged.0,
      (fed.0, lists.0, fed.1, lists.1, merged.1),
      weaker (Agree vs) (Agree us) (λ r s a. (agree_split (all_uses es) us r s a).1) out merged.0 merged.2,
    )

reads_alike : (w : Dataset) (shard : ℕ) (taken more : List Row) (coll : ℕ) (own : Option ℕ)
    → read w coll own (Inside shard taken) ≡ read w coll own (Inside shard more)
reads_alike w shard taken more coll None = refl
reads_alike w shard taken more coll (Some s) = refl

-- ---- a part anywhere

abbrev pub Stands : Bool → Uses → Facts → Plan → Plan → Type 0
Stands false us facts q p = RefinesFor us facts q p
Stands true us facts q p = RefinesInside us facts q p

inside_below : (n : Node) (us : Uses) (facts : Facts) (q p : Plan)
    → Stands (input_inside n true) (under n us) facts q p → RefinesInside us facts (Over q n) (Over p n)
inside_below (Scatter coll only) us facts q p h = scatter_stands coll only us facts q p h
inside_below (Distribute coll es) us facts q p h = distribute_stands coll es us facts q p h
inside_below (Gather directions es) us facts q p h = record {
  feet = h.feet;
  feeds = h.feeds;
  runs = λ db meets start shard taken more out a g.
      gather_gives directions es us facts q p h db meets (Inside shard taken) (Inside shard more) start out g;
  shards = h.shards;
  split = h.split;
}
inside_below NoResults us facts q p h = record {
  feet = h.feet;
  feeds = h.feeds;
  runs = λ db meets start shard taken more out a g. (out, g, rows_agree us out);
  shards = h.shards;
  split = h.split;
}
inside_below n us facts q p h = record {
  feet = h.feet;
  feeds = h.feeds;
  runs = λ db meets start shard taken more out a g.
      let b = h.runs db meets start shard taken more g.0 a g.1 in
      let c = gives_agree n us (dataset facts db) (Inside shard taken) (Inside shard more) start
      (reads_alike (dataset facts db) shard taken more) g.0 b.0 out b.2 g.2 in
      (c.0, (b.0, b.1, c.1), c.2);
  shards = h.shards;
  split = h.split;
}

outside_below : (n : Node) (us : Uses) (facts : Facts) (q p : Plan)
    → Stands (input_inside n false) (under n us) facts q p → RefinesFor us facts (Over q n) (Over p n)
outside_below (Gather directions es) us facts q p h db meets start out g =
    gather_gives directions es us facts q p h db meets Outside Outside start out g
outside_below (Scatter coll only) us facts q p h db meets start out g = (out, g, rows_agree us out)
outside_below (Distribute coll es) us facts q p h db meets start out g = (out, g, rows_agree us out)
outside_below n us facts q p h db meets start out g = refines_below n tt us facts q p h db meets start out g

pub stands_below : (n : Node) (inside : Bool) (us : Uses) (facts : Facts) (q p : Plan)
    → Stands (input_inside n inside) (under n us) facts q p → Stands inside us facts (Over q n) (Over p n)
stands_below n true us facts q p h = inside_below n us facts q p h
stands_below n false us facts q p h = outside_below n us facts q p h

pub stands_anywhere : (ns : List Node) (us : Uses) (facts : Facts) (q p : Plan)
    → Stands (stands_inside ns) (uses_above ns us) facts q p → RefinesFor us facts (raised q ns) (raised p ns)
stands_anywhere [] us facts q p h = h
stands_anywhere (n ∷ ns) us facts q p h =
    stands_anywhere ns us facts (Over q n) (Over p n)
    (stands_below n (stands_inside ns) (uses_above ns us) facts q p h)

pub refines_anywhere : (ns : List Node) → stands_inside ns ≡ false → (us : Uses) (facts : Facts) (q p : Plan)
    → RefinesFor (uses_above ns us) facts q p → RefinesFor us facts (raised q ns) (raised p ns)
refines_anywhere ns e us facts q p h = stands_anywhere ns us facts q p
    (subst (λ (inside : Bool). Stands inside (uses_above ns us) facts q p) (sym e) h)
