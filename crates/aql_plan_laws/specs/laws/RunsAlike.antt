-- The law of a plan and its rows: from rows that are related in what the plan needs, a plan with other
-- expressions gives lists that are related in what is used of them. The expressions are those of the second
-- plan under f; with the function that changes nothing this is the law that a plan gives alike lists from
-- rows that agree in what it needs.
use Rattle.std.proofs.Common.{◌≡◌, ◌∙◌, ℕ, List, [], ◌∷◌, ◌++◌, map, take, drop, Bool, refl, ap, ap₂, sym, subst}
use Rattle.std.specs.Prelude.{Option, Some, None, option_to_list, filter, ◌==◌}
use Rattle.std.specs.Ordering.{is_lt}
use Rattle.std.specs.List.{AllZip, AllByRecursion}
use Rattle.aql_value.specs.Datum.{Datum}
use Rattle.aql_value.specs.Contents.{list}
use Rattle.aql_tree.specs.declared.syntax.Ident.{Ident}
use Rattle.aql_tree.specs.declared.syntax.Ident.TheVariants.{Num}
use Rattle.aql_tree.specs.Tree.{ExprTree, ExprTrees, AggregateTrees, IntoTree}
use Rattle.aql_meaning.specs.Row.{Row, empty_row, bind}
use Rattle.aql_meaning.specs.Clauses.{keys_cmp, return_values, with_values, with_elements, filter_true, Sorts}
use Rattle.aql_meaning.specs.Groups.{GroupedRow, Collects}
use Rattle.aql_meaning.specs.Paths.{Traverses}
use Rattle.aql_meaning.specs.Visible.{aggregate_vars, into_var}
use Rattle.aql_meaning.specs.Uses.{Uses, uses, all_uses, maybe_uses}
use Rattle.aql_meaning.specs.declared.grouping.Stage.{Stage}
use Rattle.aql_value.specs.Shards.{shard_of}
use Rattle.aql_meaning.specs.Documents.{Last, last_map, in_bounds}
use Rattle.aql_meaning.specs.Stages.{stage_functions, grouped_row_at}
use Rattle.aql_plan.specs.Facts.{shards_in, attributes_in}
use Rattle.aql_plan.specs.Plan.{Reading, Plan, Singleton, Over, Node, EnumerateCollection, Index, EnumerateList, Traversal, Calculation, Subquery, Filter, Sort, Limit, Collect, Return, NoResults, Scatter, Distribute, Remote, Gather}
use Rattle.aql_plan.specs.Runs.{Dataset, Site, Outside, Inside, read, read_in_bounds, Indexed, edges_in, result_row, result_of, targets, sent_to, came, Runs, Feeds, Gives}
use Rattle.aql_meaning.specs.AtRows.{value_of, values_of, keys_of, passes, stops, row_before}
use Rattle.aql_meaning.specs.Stages.{Grouped}
use Rattle.aql_meaning.specs.Clauses.{first_rows}
use Rattle.aql_plan.specs.Renaming.{PlanSets, NodeSets}
use Rattle.aql_plan.specs.Needs.{last_uses, own_uses, result_uses, under, needs}
use Rattle.aql_plan_laws.specs.laws.Lists.{take_related, drop_related, weaker, map_equal, filter_related, chosen, carried}
use Rattle.aql_plan.specs.Exprs.{map_exprs, map_maybe, map_aggregates, map_into, map_reading, map_plan, map_node}
use Rattle.aql_plan_laws.specs.laws.Mapped.{vars_kept, functions_kept, into_kept}
use Rattle.aql_plan_laws.specs.laws.SortsAlike.{sorted_alike}
use Rattle.aql_plan_laws.specs.laws.MergesAlike.{merged_alike}
use Rattle.aql_plan_laws.specs.laws.Carried.{Carries, binds_to, keys_carried, passes_carried, stops_carried, last_carried, member_carried, values_carried}
use Rattle.aql_plan_laws.specs.laws.NodesAlike.{kept_related, first_related, elements_related, bound_related, scanned_alike, in_order_alike, walked_alike, collected_alike}

-- what is used of the rows that come to the foot of a fragment
abbrev pub foot_uses : Plan → Uses → Uses
foot_uses Singleton us = us
foot_uses (Over b (Scatter coll only)) us = us
foot_uses (Over b (Distribute coll es)) us = all_uses es ++ us
foot_uses (Over b n) us = foot_uses b (under n us)

module _ (f : ExprTree → ExprTree) (Free : Ident → Type 0) (S : Uses → Row → Row → Type 0)
    (carry : Carries f Free S) (zero_free : Free (Num 0)) where
  -- ---- places

  abbrev pub SamePlace : Uses → Site → Site → Type 0
  SamePlace us Outside Outside = Unit {0}
  SamePlace us Outside (Inside t others) = ⊥
  SamePlace us (Inside s rows) Outside = ⊥
  SamePlace us (Inside s rows) (Inside t others) = (s ≡ t) × AllZip (S us) rows others

  read_same : (us : Uses) (w : Dataset) (k l : Site) → SamePlace us k l → (coll : ℕ) (shard : Option ℕ)
      → read w coll shard k ≡ read w coll shard l
  read_same us w k l h coll (Some s) = refl
  read_same us w Outside Outside h coll None = refl
  read_same us w Outside (Inside t others) h coll None = absurd h
  read_same us w (Inside s rows) Outside h coll None = absurd h
  read_same us w (Inside s rows) (Inside t others) h coll None =
      ap (λ n. read w coll None (Inside n rows)) h.0

  came_related : (us : Uses) (k l : Site) → SamePlace us k l → AllZip (S us) (came k) (came l)
  came_related us Outside Outside h = tt
  came_related us Outside (Inside t others) h = absurd h
  came_related us (Inside s rows) Outside h = absurd h
  came_related us (Inside s rows) (Inside t others) h = h.1

  -- ---- rows

  lefts : (us vs : Uses) (rows others : List Row) → AllZip (S (us ++ vs)) rows others
      → AllZip (S us) rows others
  lefts us vs rows others h =
      weaker (S (us ++ vs)) (S us) (λ r s k. (carry.parts us vs r s k).0) rows others h

  rights : (us vs : Uses) (rows others : List Row) → AllZip (S (us ++ vs)) rows others
      → AllZip (S vs) rows others
  rights us vs rows others h =
      weaker (S (us ++ vs)) (S vs) (λ r s k. (carry.parts us vs r s k).1) rows others h

  by_function : (us : Uses) (out xs ys : List Row) → out ≡ xs → AllZip (S us) xs ys
      → (more : List Row) × (more ≡ ys) × AllZip (S us) out more
  by_function us out xs ys e h = (ys, refl, subst (λ (o : List Row). AllZip (S us) o ys) (sym e) h)

  results_related : (us : Uses) (vs : List Datum) → AllZip (S us) (map result_row vs) (map result_row vs)
  results_related us [] = tt
  results_related us (v ∷ vs) =
      (carry.binds us (Num 0) empty_row empty_row v zero_free (carry.empty us), results_related us vs)

  -- ---- the shards of a fragment

  targets_same : (p : Plan) (w : Dataset) → targets (map_plan f p) w ≡ targets p w
  targets_same Singleton w = refl
  targets_same (Over b (Scatter coll (Some shard))) w = refl
  targets_same (Over b (Scatter coll None)) w = refl
  targets_same (Over b (Distribute coll es)) w = refl
  targets_same (Over b n) w = targets_same b w

  part_related : (p : Plan) (us : Uses) (w : Dataset) (shard : ℕ) (rows others : List Row)
      → AllZip (S (foot_uses p us)) rows others
      → AllZip (S (foot_uses p us)) (sent_to (map_plan f p) w shard rows) (sent_to p w shard others)
  part_related Singleton us w shard rows others h = h
  part_related (Over b (Scatter coll only)) us w shard rows others h = h
  part_related (Over b (Distribute coll es)) us w shard rows others h =
      filter_related (S (all_uses es ++ us)) (S (all_uses es ++ us))
      (λ row. shard_of (shards_in w.facts coll) (keys_of (map_exprs f es) row) == shard)
      (λ row. shard_of (shards_in w.facts coll) (keys_of es row) == shard)
      (λ r s k. ap (λ vs. shard_of (shards_in w.facts coll) vs == shard)
      (keys_carried f Free S carry es r s (carry.parts (all_uses es) us r s k).0))
      (λ r s k. k) rows others h
  part_related (Over b n) us w shard rows others h = part_related b (under n us) w shard rows others h

  -- ---- nodes of more than one line

  bounds_same : (us : Uses) (w : Dataset) (k l : Site)
      → ((coll : ℕ) (shard : Option ℕ) → read w coll shard k ≡ read w coll shard l)
      → (x : Reading) (index : ℕ) (equal : ExprTrees) (last : Last ExprTree) (r s : Row)
      → S (all_uses equal) r s → S (last_uses last) r s
      → read_in_bounds w k (map_reading f x) index (map_exprs f equal) (last_map f last) r
      ≡ read_in_bounds w l x index equal last s
  bounds_same us w k l reads x index equal last r s h m =
      ap₂ (λ vs b. filter (in_bounds (attributes_in w.facts x.coll index) vs b) (read w x.coll x.shard k))
      (keys_carried f Free S carry equal r s h) (last_carried f Free S carry last r s m)
      ∙ ap (filter (in_bounds (attributes_in w.facts x.coll index) (keys_of equal s)
      (last_map (λ e. value_of e s) last))) (reads x.coll x.shard)

  indexed_alike : (us : Uses) (w : Dataset) (k l : Site)
      → ((coll : ℕ) (shard : Option ℕ) → read w coll shard k ≡ read w coll shard l)
      → (x : Reading) → Free x.var → (index : ℕ) (equal : ExprTrees) (last : Last ExprTree)
      → (ordered : Option Bool) (rows others out : List Row)
      → AllZip (S ((all_uses equal ++ (last_uses last ++ maybe_uses x.filter)) ++ us)) rows others
      → Indexed w k (map_reading f x) index (map_exprs f equal) (last_map f last) ordered rows out
      → (more : List Row) × Indexed w l x index equal last ordered others more × AllZip (S us) out more
  indexed_alike us w k l reads x free index equal last ordered rows others out h = by ordered
    where
      own : Uses
      own = all_uses equal ++ (last_uses last ++ maybe_uses x.filter)

      from : Row → List Datum
      from = read_in_bounds w k (map_reading f x) index (map_exprs f equal) (last_map f last)

      other : Row → List Datum
      other = read_in_bounds w l x index equal last

      read_alike : AllZip (λ r s. S us r s × S (maybe_uses x.filter) r s × (from r ≡ other s)) rows others
      read_alike = weaker (S (own ++ us)) (λ r s. S us r s × S (maybe_uses x.filter) r s × (from r ≡ other s))
          (λ r s a.
          let b = carry.parts own us r s a in
          let c = carry.parts (all_uses equal) (last_uses last ++ maybe_uses x.filter) r s b.0 in
          let d = carry.parts (last_uses last) (maybe_uses x.filter) r s c.1 in
          (b.1, d.1, bounds_same us w k l reads x index equal last r s c.0 d.0)) rows others h

      by : (ordered : Option Bool)
          → Indexed w k (map_reading f x) index (map_exprs f equal) (last_map f last) ordered rows out
          → (more : List Row) × Indexed w l x index equal last ordered others more × AllZip (S us) out more
      by None g = scanned_alike f Free S carry us (maybe_uses x.filter) x.var free x.attrs
          (passes (map_maybe f x.filter)) (passes x.filter) (passes_carried f Free S carry x.filter)
          from other rows others out read_alike g
      by (Some descending) g = in_order_alike f Free S carry us (maybe_uses x.filter) x.var free x.attrs
          (passes (map_maybe f x.filter)) (passes x.filter) (passes_carried f Free S carry x.filter)
          (attributes_in w.facts x.coll index) descending from other rows others out read_alike g

  grouped_alike : (us : Uses) (xs : List Ident) (es : ExprTrees) (gs : AggregateTrees) (i : IntoTree)
      (s : Stage)
      → AllByRecursion Free xs → AllByRecursion Free (aggregate_vars gs)
      → AllByRecursion Free (option_to_list (into_var i))
      → (start other : Row) → S us start other → (rows others out : List Row)
      → AllZip (S (own_uses (Collect xs es gs i s))) rows others
      → Grouped xs (map_exprs f es) (map_aggregates f gs) (map_into f i) s start rows out
      → (more : List Row) × Grouped xs es gs i s other others more × AllZip (S us) out more
  grouped_alike us xs es gs i s xs_free ys_free into_free start other h rows others out k g =
      collected_alike f Free S carry us xs (aggregate_vars gs) (stage_functions s gs) (into_var i)
      xs_free ys_free into_free start other h (map (grouped_row_at s xs es gs i) others) out
      (subst (λ (members : List GroupedRow).
      Collects xs (aggregate_vars gs) (stage_functions s gs) (into_var i) start members out)
      (map_equal (S (own_uses (Collect xs es gs i s)))
      (grouped_row_at s xs (map_exprs f es) (map_aggregates f gs) (map_into f i))
      (grouped_row_at s xs es gs i)
      (member_carried f Free S carry s xs es gs i xs_free ys_free) rows others k)
      (subst (λ (x : Option Ident). Collects xs (aggregate_vars gs) (stage_functions s gs) x start
      (map (grouped_row_at s xs (map_exprs f es) (map_aggregates f gs) (map_into f i)) rows) out)
      (into_kept f i)
      (subst (λ (fs : List (List Datum → Datum)). Collects xs (aggregate_vars gs) fs
      (into_var (map_into f i)) start
      (map (grouped_row_at s xs (map_exprs f es) (map_aggregates f gs) (map_into f i)) rows) out)
      (functions_kept f s gs)
      (subst (λ (ys : List Ident). Collects xs ys (stage_functions s (map_aggregates f gs))
      (into_var (map_into f i))
      start (map (grouped_row_at s xs (map_exprs f es) (map_aggregates f gs) (map_into f i)) rows) out)
      (vars_kept f gs) g))))

  -- only a Collect looks at the start row
  abbrev pub StartsAlike : Uses → Node → Row → Row → Type 0
  StartsAlike us (Collect xs es gs i s) start other = S us start other
  StartsAlike us n start other = Unit {0}

  mutual
    pub runs_alike : (p : Plan) → PlanSets Free p → (us : Uses) (w : Dataset) (k l : Site) (r s : Row)
        → (out : List Row) → SamePlace (foot_uses p us) k l → S (needs p us) r s
        → Runs (map_plan f p) w k r out
        → (more : List Row) × Runs p w l s more × AllZip (S us) out more
    runs_alike Singleton clear us w k l r s out place h g = by_function us out (r ∷ []) (s ∷ []) g (h, tt)
    runs_alike (Over b NoResults) clear us w k l r s out place h g = by_function us out [] [] g tt
    runs_alike (Over b (Scatter coll only)) clear us w k l r s out place h g =
        by_function us out (came k) (came l) g (came_related us k l place)
    runs_alike (Over b (Distribute coll es)) clear us w k l r s out place h g =
        by_function us out (came k) (came l) g
        (rights (all_uses es) us (came k) (came l) (came_related (all_uses es ++ us) k l place))
    runs_alike (Over b (Gather directions es)) clear us w k l r s out place h g =
        let vs : Uses = all_uses es ++ us in
        let fed = feeds_alike b clear.0 vs w r s g.0 h g.2 in
        let lists = chosen (AllZip (S vs))
        (λ shard rows. Runs (map_plan f b) w (Inside shard (sent_to (map_plan f b) w shard g.0)) r rows)
        (λ shard rows. Runs b w (Inside shard (sent_to b w shard fed.0)) s rows)
        (λ shard rows run. runs_alike b clear.0 vs w (Inside shard (sent_to (map_plan f b) w shard g.0))
        (Inside shard (sent_to b w shard fed.0)) r s rows
        (refl, part_related b vs w shard g.0 fed.0 fed.2) h run) (targets b w) g.1
        (subst (λ (shards : List ℕ). AllZip
        (λ shard rows. Runs (map_plan f b) w (Inside shard (sent_to (map_plan f b) w shard g.0)) r rows)
        shards g.1) (targets_same b w) g.3) in
        let merged = merged_alike (S vs) (row_before directions (map_exprs f es)) (row_before directions es)
        (λ q t x y a c. ap₂ (λ u v. is_lt (keys_cmp directions u v))
        (keys_carried f Free S carry es q t (carry.parts (all_uses es) us q t a).0)
        (keys_carried f Free S carry es x y (carry.parts (all_uses es) us x y c).0)) out g.1 lists.0 lists.2
        g.4 in
        (merged.0, (fed.0, lists.0, fed.1, lists.1, merged.1), rights (all_uses es) us out merged.0 merged.2)
    runs_alike (Over b (Collect xs es gs i t)) clear us w k l r s out place h g =
        let a = carry.parts (needs b (own_uses (Collect xs es gs i t))) us r s h in
        let rows = runs_alike b clear.0 (own_uses (Collect xs es gs i t)) w k l r s g.0 place a.0 g.1 in
        let given =
        grouped_alike us xs es gs i t clear.1.0 clear.1.1 clear.1.2 r s a.1 g.0 rows.0 out rows.2 g.2 in
        (given.0, (rows.0, rows.1, given.1), given.2)
    runs_alike (Over b n) clear us w k l r s out place h g =
        let rows = runs_alike b clear.0 (under n us) w k l r s g.0 place h g.1 in
        let given = gives_alike n clear.1 us w k l r s tt (read_same (foot_uses b (under n us)) w k l place)
        g.0 rows.0 out rows.2 g.2 in
        (given.0, (rows.0, rows.1, given.1), given.2)

    pub feeds_alike : (p : Plan) → PlanSets Free p → (us : Uses) (w : Dataset) (r s : Row) (taken : List Row)
        → S (needs p us) r s → Feeds (map_plan f p) w r taken
        → (more : List Row) × Feeds p w s more × AllZip (S (foot_uses p us)) taken more
    feeds_alike Singleton clear us w r s taken h g = by_function us taken [] [] g tt
    feeds_alike (Over b (Scatter coll only)) clear us w r s taken h g =
        runs_alike b clear.0 us w Outside Outside r s taken tt h g
    feeds_alike (Over b (Distribute coll es)) clear us w r s taken h g =
        runs_alike b clear.0 (all_uses es ++ us) w Outside Outside r s taken tt h g
    feeds_alike (Over b (Collect xs es gs i t)) clear us w r s taken h g =
        feeds_alike b clear.0 (own_uses (Collect xs es gs i t)) w r s taken
        (carry.parts (needs b (own_uses (Collect xs es gs i t))) us r s h).0 g
    feeds_alike (Over b n) clear us w r s taken h g = feeds_alike b clear.0 (under n us) w r s taken h g

    pub gives_alike : (n : Node) → NodeSets Free n
        → (us : Uses) (w : Dataset) (k l : Site) (start other : Row)
        → StartsAlike us n start other
        → ((coll : ℕ) (shard : Option ℕ) → read w coll shard k ≡ read w coll shard l)
        → (rows others out : List Row) → AllZip (S (under n us)) rows others
        → Gives (map_node f n) w k start rows out
        → (more : List Row) × Gives n w l other others more × AllZip (S us) out more
    gives_alike (EnumerateCollection x) clear us w k l start other a reads rows others out h g =
        scanned_alike f Free S carry us (maybe_uses x.filter) x.var clear x.attrs
        (passes (map_maybe f x.filter)) (passes x.filter) (passes_carried f Free S carry x.filter)
        (λ row. read w x.coll x.shard k) (λ row. read w x.coll x.shard l) rows others out
        (weaker (S (maybe_uses x.filter ++ us)) (λ r s. S us r s × S (maybe_uses x.filter) r s
        × (read w x.coll x.shard k ≡ read w x.coll x.shard l))
        (λ r s b. let c = carry.parts (maybe_uses x.filter) us r s b in (c.1, c.0, reads x.coll x.shard))
        rows others h) g
    gives_alike (Index x index equal last ordered) clear us w k l start other a reads rows others out h g =
        indexed_alike us w k l reads x clear index equal last ordered rows others out h g
    gives_alike (EnumerateList x e) clear us w k l start other a reads rows others out h g =
        by_function us out (with_elements x rows (values_of e others))
        (with_elements x others (values_of e others))
        (g ∙ ap (with_elements x rows)
        (values_carried f Free S carry e rows others (lefts (uses e) us rows others h)))
        (elements_related f Free S carry us x clear rows others (values_of e others)
        (rights (uses e) us rows others h))
    gives_alike (Traversal shape e colls prune keep) clear us w k l start other a reads rows others out h g =
        let own : Uses = uses e ++ (maybe_uses prune ++ maybe_uses keep) in
        let starts = values_carried f Free S carry e rows others
        (lefts (uses e) (maybe_uses prune ++ maybe_uses keep) rows others (lefts own us rows others h)) in
        let walked = walked_alike f Free S carry (maybe_uses keep ++ us) (maybe_uses prune) w.db shape
        (edges_in w.db colls) clear.0 clear.1 clear.2 (stops (map_maybe f prune)) (stops prune)
        (stops_carried f Free S carry prune) rows others (values_of e others) g.0
        (weaker (S (own ++ us)) (λ r s. S (maybe_uses keep ++ us) r s × S (maybe_uses prune) r s)
        (λ r s b.
        let c = carry.parts own us r s b in
        let d = carry.parts (uses e) (maybe_uses prune ++ maybe_uses keep) r s c.0 in
        let m = carry.parts (maybe_uses prune) (maybe_uses keep) r s d.1 in
        (carry.join (maybe_uses keep) us r s m.1 c.1, m.0)) rows others h)
        (subst
        (λ (vs : List Datum). Traverses w.db shape (edges_in w.db colls) (stops (map_maybe f prune)) rows
        vs g.0) starts g.1) in
        let given =
        by_function us out (filter (passes (map_maybe f keep)) g.0) (filter (passes keep) walked.0) g.2
        (filter_related (S (maybe_uses keep ++ us)) (S us) (passes (map_maybe f keep)) (passes keep)
        (λ r s b. passes_carried f Free S carry keep r s (carry.parts (maybe_uses keep) us r s b).0)
        (λ r s b. (carry.parts (maybe_uses keep) us r s b).1) g.0 walked.0 walked.2) in
        (given.0, (walked.0, walked.1, given.1), given.2)
    gives_alike (Calculation x e) clear us w k l start other a reads rows others out h g =
        by_function us out (with_values x rows (values_of e others))
        (with_values x others (values_of e others))
        (g ∙ ap (with_values x rows)
        (values_carried f Free S carry e rows others (lefts (uses e) us rows others h)))
        (bound_related f Free S carry us x clear rows others (values_of e others)
        (rights (uses e) us rows others h))
    gives_alike (Subquery x b) clear us w k l start other a reads rows others out h g =
        carried (S us) (S (needs b result_uses ++ us))
        (λ row given. (results : List Row) × Runs (map_plan f b) w Outside row results
        × (given ≡ bind x row (list (map result_of results))))
        (λ row given. (results : List Row) × Runs b w Outside row results
        × (given ≡ bind x row (list (map result_of results))))
        (λ r s given m n.
        let c = carry.parts (needs b result_uses) us r s m in
        let run = runs_alike b clear.1 result_uses w Outside Outside r s n.0 tt c.0 n.1 in
        let same = map_equal (S result_uses) result_of result_of
        (λ q t d. carry.whole (Num 0) q t zero_free d) n.0 run.0 run.2 in (
          bind x s (list (map result_of run.0)),
          (run.0, run.1, refl),
          subst (λ (q : Row). S us q (bind x s (list (map result_of run.0)))) (sym n.2)
              (binds_to f Free S carry us x r s (list (map result_of n.0))
              (list (map result_of run.0)) clear.0
              (ap list same) c.1),
        ))
        rows others out h g
    gives_alike (Filter e) clear us w k l start other a reads rows others out h g =
        by_function us out (filter_true rows (values_of e others)) (filter_true others (values_of e others))
        (g ∙ ap (filter_true rows)
        (values_carried f Free S carry e rows others (lefts (uses e) us rows others h)))
        (kept_related (S us) rows others (values_of e others) (rights (uses e) us rows others h))
    gives_alike (Sort directions es n) clear us w k l start other a reads rows others out h g =
        let same = map_equal (S (all_uses es)) (keys_of (map_exprs f es)) (keys_of es)
        (keys_carried f Free S carry es) rows others (lefts (all_uses es) us rows others h) in
        let sorted = sorted_alike (S us) directions (map (keys_of es) others) rows others g.0
        (rights (all_uses es) us rows others h)
        (subst (λ (keys : List (List Datum)). Sorts directions keys rows g.0) same g.1) in
        let given =
        by_function us out (first_rows n g.0) (first_rows n sorted.0) g.2
        (first_related (S us) n g.0 sorted.0 sorted.2) in
        (given.0, (sorted.0, sorted.1, given.1), given.2)
    gives_alike (Limit offset count) clear us w k l start other a reads rows others out h g =
        by_function us out (take count (drop offset rows)) (take count (drop offset others)) g
        (take_related (S us) count (drop offset rows) (drop offset others)
        (drop_related (S us) offset rows others h))
    gives_alike (Collect xs es gs i s) clear us w k l start other a reads rows others out h g =
        grouped_alike us xs es gs i s clear.0 clear.1 clear.2 start other a rows others out h g
    gives_alike (Return distinct e) clear us w k l start other a reads rows others out h g =
        by_function us out (map result_row (return_values distinct (values_of e others)))
        (map result_row (return_values distinct (values_of e others)))
        (g ∙ ap (λ vs. map result_row (return_values distinct vs))
        (values_carried f Free S carry e rows others h))
        (results_related us (return_values distinct (values_of e others)))
    gives_alike NoResults clear us w k l start other a reads rows others out h g =
        by_function us out rows others g h
    gives_alike (Scatter coll only) clear us w k l start other a reads rows others out h g =
        by_function us out rows others g h
    gives_alike (Distribute coll es) clear us w k l start other a reads rows others out h g =
        by_function us out rows others g (rights (all_uses es) us rows others h)
    gives_alike Remote clear us w k l start other a reads rows others out h g =
        by_function us out rows others g h
    gives_alike (Gather directions es) clear us w k l start other a reads rows others out h g =
        by_function us out rows others g (rights (all_uses es) us rows others h)
