-- What restrict-to-single-shard makes of a part, the part may give.
use Rattle.std.proofs.Common.{◌≡◌, ◌∙◌, ℕ, List, [], ◌∷◌, Bool, true, false, true≢false, cond, refl, ap, ap₂, sym, subst}
use Rattle.std.specs.Prelude.{◌==◌, filter, Option, Some}
use Rattle.std.proofs.lemmas.Bool.{eq-eqb}
use Rattle.aql_value.specs.Database.{Database}
use Rattle.aql_value.specs.Datum.{null}
use Rattle.aql_value.specs.Shards.{shard_of}
use Rattle.aql_tree.specs.Tree.{ExprTree, ExprTrees, no_exprs, expr_then}
use Rattle.aql_meaning.specs.AtRows.{keys_of}
use Rattle.aql_meaning.specs.Plain.{AllPlain}
use Rattle.aql_meaning.specs.Row.{Row, empty_row}
use Rattle.aql_meaning.specs.Uses.{Uses}
use Rattle.aql_plan.specs.declared.facts.Facts.{Facts}
use Rattle.aql_plan.specs.Facts.{shards_in, numbers_below}
use Rattle.aql_plan.specs.Plan.{Plan, Over, Node, EnumerateCollection, Index, Scatter, Remote}
use Rattle.aql_plan.specs.Refines.{dataset}
use Rattle.aql_plan.specs.Runs.{Dataset, Inside, Outside, Runs, Feeds, Gives, targets, sent_to}
use Rattle.aql_rewrite.specs.Constant.{IsConstant}
use Rattle.aql_rewrite.specs.declared.swap.Rename.{Rename}
use Rattle.aql_rewrite.specs.Swaps.{Replaced}
use Rattle.aql_rewrite.specs.laws.Constants.{constant_value, constant_plain}
use Rattle.aql_rules_index.specs.Choice.{Item}
use Rattle.aql_rules_cluster.specs.declared.key_items.Wanted.TheVariants.{Apart, Constant}
use Rattle.aql_rules_cluster.specs.FragmentParts.{over_link, ReadsHere, one_above}
use Rattle.aql_rules_cluster.specs.KeyItems.{FirstFor, here, later, FirstForEach, GivesKeys}
use Rattle.aql_rules_cluster.specs.RestrictToSingleShard.{TakesToAll, all_rows, sent_rows, shard_for, Narrows, Restricts, restricted}
use Rattle.aql_rules_cluster.specs.laws.KeyItems.{keys_given}
use Rattle.aql_rules_cluster.specs.laws.NoneOfNone.{gives_nothing, one_above_foot}
use Rattle.aql_rules_cluster.specs.laws.OneShard.{not_equal, OnOneShard, one_shard_at_gather}
use Rattle.aql_rules_cluster.specs.laws.RowsSent.{gives_of_sent}
use Rattle.aql_rules_cluster.specs.laws.SentRows.{gives_of_all}
use Rattle.aql_shard.specs.laws.Split.{shard_below}

-- ---- constants

module _ (W : ExprTree → Type 0) (constant : (e : ExprTree) → W e → IsConstant e) where
  first_constant : (key : List ℕ) (is : List Item) (e : ExprTree) → FirstFor W key is e → IsConstant e
  first_constant key _ _ (here {i = i} g) = constant i.other g.wanted
  first_constant key _ _ (later {is = is} {e = e} n f) = first_constant key is e f

  each_plain : (is : List Item) (keys : List (List ℕ)) (es : ExprTrees) → FirstForEach W is keys es
      → AllPlain es
  each_plain is [] no_exprs h = tt
  each_plain is [] (expr_then e es) h = absurd h
  each_plain is (key ∷ keys) no_exprs h = absurd h
  each_plain is (key ∷ keys) (expr_then e es) h =
      (constant_plain (first_constant key is e h.0), each_plain is keys es h.1)

  each_same : (is : List Item) (keys : List (List ℕ)) (es : ExprTrees) → FirstForEach W is keys es
      → (row start : Row) → keys_of es row ≡ keys_of es start
  each_same is [] no_exprs h row start = refl
  each_same is [] (expr_then e es) h row start = absurd h
  each_same is (key ∷ keys) no_exprs h row start = absurd h
  each_same is (key ∷ keys) (expr_then e es) h row start =
      ap₂ (λ v vs. v ∷ vs) (constant_value (first_constant key is e h.0) null null row start)
      (each_same is keys es h.1 row start)

-- the constants that give the shard keys have no subquery, and the same values at all rows
pub given_plain : (facts : Facts) (n : Node) (es : ExprTrees) → GivesKeys facts Constant n es → AllPlain es
given_plain facts (EnumerateCollection x) es h = each_plain IsConstant (λ e k. k) _ _ es h
given_plain facts (Index x index equal last ordered) es h = each_plain IsConstant (λ e k. k) _ _ es h
given_plain facts n es h = absurd h

given_same : (facts : Facts) (n : Node) (es : ExprTrees) → GivesKeys facts Constant n es → (row start : Row)
    → keys_of es row ≡ keys_of es start
given_same facts (EnumerateCollection x) es h row start = each_same IsConstant (λ e k. k) _ _ es h row start
given_same facts (Index x index equal last ordered) es h row start =
    each_same IsConstant (λ e k. k) _ _ es h row start
given_same facts n es h row start = absurd h

-- ---- the lowest node, over both feet

none_pass : {X : Type 0} (test : X → Bool) → ((x : X) → test x ≡ false) → (xs : List X) → filter test xs ≡ []
none_pass test no_one [] = refl
none_pass test no_one (x ∷ xs) =
    ap (λ b. cond b (x ∷ filter test xs) (filter test xs)) (no_one x) ∙ none_pass test no_one xs

turned : (n m : ℕ) → (m == n) ≡ false → (n == m) ≡ false
turned n m e = not_equal n m (λ d. true≢false (sym (eq-eqb m n (sym d)) ∙ e))

reader_gives_none : (coll : ℕ) (n : Node) → ReadsHere coll n → (w : Dataset) (s : ℕ) (start : Row)
    → Gives n w (Inside s []) start [] []
reader_gives_none coll (EnumerateCollection x) r w s start =
    gives_nothing (EnumerateCollection x) refl refl w (Inside s []) start
reader_gives_none coll (Index x index equal last ordered) r w s start =
    gives_nothing (Index x index equal last ordered) refl refl w (Inside s []) start
reader_gives_none coll n r w s start = absurd r

module _ (facts : Facts) (b : Plan) (coll : ℕ) (foot : Node) where
  module _ {n : Node} (takes : TakesToAll facts coll n foot) where
    feeds_foot : (w : Dataset) (start : Row) (taken : List Row) → Runs b w Outside start taken
        → Feeds (Over b foot) w start taken
    feeds_foot w start taken h = by takes
      where
        by : {m : Node} → TakesToAll facts coll n m → Feeds (Over b m) w start taken
        by all_rows = h
        by (sent_rows p g) = h

    all_foot : (db : Database)
        → targets (Over b foot) (dataset facts db) ≡ numbers_below (shards_in facts coll)
    all_foot db = by takes
      where
        by : {m : Node} → TakesToAll facts coll n m
            → targets (Over b m) (dataset facts db) ≡ numbers_below (shards_in facts coll)
        by all_rows = refl
        by (sent_rows p g) = refl

    from_foot : (w : Dataset) (s : ℕ) (rows : List Row) (start : Row)
        → Runs (Over b foot) w (Inside s rows) start rows
    from_foot w s rows start = by takes
      where
        by : {m : Node} → TakesToAll facts coll n m → Runs (Over b m) w (Inside s rows) start rows
        by all_rows = refl
        by (sent_rows p g) = refl

  -- the rows that come to a shard
  abbrev come : Database → ℕ → List Row → List Row
  come db s taken = sent_to (Over b foot) (dataset facts db) s taken

  module _ (n : Node) (es : ExprTrees) (reads : ReadsHere coll n) (takes : TakesToAll facts coll n foot)
      (given : GivesKeys facts Constant n es) where
    -- of them the node makes what it makes of all
    of_those : (db : Database) (s : ℕ) (start : Row) (taken out : List Row)
        → Gives n (dataset facts db) (Inside s taken) start taken out
        → Gives n (dataset facts db) (Inside s (come db s taken)) start (come db s taken) out
    of_those db s start taken out h = by takes
      where
        by : {m : Node} → TakesToAll facts coll n m → Gives n (dataset facts db)
            (Inside s (sent_to (Over b m) (dataset facts db) s taken)) start
            (sent_to (Over b m) (dataset facts db) s taken) out
        by all_rows = h
        by (sent_rows {es = others} p g) = gives_of_sent n (dataset facts db) coll others s start taken out
            reads (keys_given facts Apart n coll others reads g) h

    -- on other shards it finds nothing
    nothing_there : (db : Database) (s : ℕ) (start : Row) (rows : List Row)
        → (s == shard_for facts coll es) ≡ false → Gives n (dataset facts db) (Inside s rows) start rows []
    nothing_there db s start rows apart =
        let w = dataset facts db in
        let none = none_pass (λ row. shard_of (shards_in facts coll) (keys_of es row) == s)
        (λ row. ap (λ vs. shard_of (shards_in facts coll) vs == s) (given_same facts n es given row empty_row)
        ∙ turned (shard_for facts coll es) s apart) rows in
        gives_of_all n w coll es s start rows [] reads (keys_given facts Constant n coll es reads given)
        (subst (λ (rs : List Row). Gives n w (Inside s rs) start rs []) (sym none)
        (reader_gives_none coll n reads w s start))

    -- the rows that come over the link of a Scatter are all
    all_come : (db : Database) (s shard : ℕ) (start : Row) (taken out rows : List Row)
        → Runs (Over (Over b (Scatter coll (Some s))) Remote) (dataset facts db) (Inside shard taken) start
        rows
        → Gives n (dataset facts db) (Inside shard taken) start rows out
        → Gives n (dataset facts db) (Inside shard taken) start taken out
    all_come db s shard start taken out rows h g = subst (λ (rs : List Row).
        Gives n (dataset facts db) (Inside shard taken) start rs out) (h.2 ∙ h.1) g

    -- what the node gives over the foot, as a plan with the node at its top gives it
    abbrev Low : Database → ℕ → Row → List Row → List Row → Type 0
    Low db s start taken out = (rows : List Row)
        × Runs (Over (Over b foot) Remote) (dataset facts db) (Inside s (come db s taken)) start rows
        × Gives n (dataset facts db) (Inside s (come db s taken)) start rows out

    low_of : (db : Database) (s : ℕ) (start : Row) (taken out : List Row)
        → Gives n (dataset facts db) (Inside s (come db s taken)) start (come db s taken) out
        → Low db s start taken out
    low_of db s start taken out h = (
      come db s taken,
      (come db s taken, from_foot takes (dataset facts db) s (come db s taken) start, refl),
      h,
    )

    low_runs : (db : Database) (s shard : ℕ) (start : Row) (taken out rows : List Row)
        → Runs (Over (Over b (Scatter coll (Some s))) Remote) (dataset facts db) (Inside shard taken) start
        rows
        → Gives n (dataset facts db) (Inside shard taken) start rows out → Low db shard start taken out
    low_runs db s shard start taken out rows h g = low_of db shard start taken out
        (of_those db shard start taken out (all_come db s shard start taken out rows h g))

    low_nothing : (db : Database) (s : ℕ) (start : Row) (taken : List Row)
        → (s == shard_for facts coll es) ≡ false → Low db s start taken []
    low_nothing db s start taken apart =
        low_of db s start taken [] (nothing_there db s start (come db s taken) apart)

abbrev OnTheOne : Facts → Plan → ℕ → Node → Node → ExprTrees → Type 0
OnTheOne facts b coll foot n es = OnOneShard facts (shard_for facts coll es) (shards_in facts coll)
    (over_link (Over b (Scatter coll (Some (shard_for facts coll es)))) n) (over_link (Over b foot) n)

lowest_on_one : (facts : Facts) (b : Plan) (coll : ℕ) (foot n : Node) (es : ExprTrees) → ReadsHere coll n
    → TakesToAll facts coll n foot → GivesKeys facts Constant n es → OnTheOne facts b coll foot n es
lowest_on_one facts b coll foot (EnumerateCollection x) es reads takes given =
    let n = EnumerateCollection x in
    let shard = shard_for facts coll es in record {
      feeds = λ db meets start taken h. feeds_foot facts b coll foot takes (dataset facts db) start taken h;
      one = λ db. refl;
      all = λ db. all_foot facts b coll foot takes db;
      runs = λ db meets start taken out g. low_runs facts b coll foot n es reads takes given db shard shard
          start taken out g.0 g.1 g.2;
      nothing = λ db meets start taken s apart.
          low_nothing facts b coll foot n es reads takes given db s start taken apart;
    }
lowest_on_one facts b coll foot (Index x index equal last ordered) es reads takes given =
    let n = Index x index equal last ordered in
    let shard = shard_for facts coll es in record {
      feeds = λ db meets start taken h. feeds_foot facts b coll foot takes (dataset facts db) start taken h;
      one = λ db. refl;
      all = λ db. all_foot facts b coll foot takes db;
      runs = λ db meets start taken out g. low_runs facts b coll foot n es reads takes given db shard shard
          start taken out g.0 g.1 g.2;
      nothing = λ db meets start taken s apart.
          low_nothing facts b coll foot n es reads takes given db s start taken apart;
    }
lowest_on_one facts b coll foot n es reads takes given = absurd reads

-- ---- the rule

narrowed_on_one : (facts : Facts) (b : Plan) (n foot narrower : Node) (k : Narrows facts n foot narrower)
    → OnOneShard facts (shard_for facts k.coll k.constants) (shards_in facts k.coll)
    (over_link (Over b narrower) n) (over_link (Over b foot) n)
narrowed_on_one facts b n foot narrower k =
    let shard = shard_for facts k.coll k.constants in
    subst (λ (m : Node). OnOneShard facts shard (shards_in facts k.coll) (over_link (Over b m) n)
    (over_link (Over b foot) n)) (sym k.is)
    (lowest_on_one facts b k.coll foot n k.constants k.reads k.takes k.given)

pub restricts_refine : (facts : Facts) (us : Uses) (p q : Plan) (r : Option Rename)
    → Restricts facts us p q r → Replaced true facts us p q r
restricts_refine facts _ _ _ _ (restricted {us = us} {b = b} {p = p} {q = q} {n = n} {foot = foot}
    {narrower = narrower} {directions = directions} {keys = keys} servers k same none) =
    let shard = shard_for facts k.coll k.constants in
    let shards = shards_in facts k.coll in
    one_shard_at_gather facts us directions keys shard shards (Over q Remote) (Over p Remote)
    (shard_below shards (keys_of k.constants empty_row) k.some_shard)
    (one_above_foot facts shard shards (one_above refl same) none
    (λ h. narrowed_on_one facts b n foot narrower k))
