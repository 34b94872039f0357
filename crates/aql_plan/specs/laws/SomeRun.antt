-- Every plan gives a list, well formed or not. The functions give the list with the proof that it is one.
use Rattle.std.proofs.Common.{◌≡◌, ℕ, List, [], ◌∷◌, map, Bool, refl}
use Rattle.std.specs.Prelude.{Option, Some, None, filter}
use Rattle.std.proofs.lemmas.List.Sorted.{IsPermutation-refl}
use Rattle.aql_value.specs.Datum.{Datum}
use Rattle.aql_value.specs.Contents.{list}
use Rattle.aql_tree.specs.Tree.{ExprTree, ExprTrees}
use Rattle.aql_meaning.specs.Row.{Row, bind}
use Rattle.aql_meaning.specs.Visible.{aggregate_vars, into_var}
use Rattle.aql_meaning.specs.laws.SomeAnswer.{all_some, some_collect, some_sort, some_traversal}
use Rattle.aql_meaning.specs.laws.SomeOrder.{keyed_order, some_order}
use Rattle.aql_meaning.specs.Documents.{Last, index_keys, InIndexOrder, documents_kept}
use Rattle.aql_meaning.specs.Stages.{stage_functions, grouped_row_at}
use Rattle.aql_plan.specs.Facts.{attributes_in}
use Rattle.aql_plan.specs.Plan.{Reading, Plan, Singleton, Over, Node, EnumerateCollection, Index, EnumerateList, Traversal, Calculation, Subquery, Filter, Sort, Limit, Collect, Return, NoResults, Scatter, Distribute, Remote, Gather}
use Rattle.aql_plan.specs.Runs.{Dataset, Site, Outside, Inside, read_in_bounds, Indexed, edges_in, result_of, targets, sent_to, came, Runs, Feeds, Gives}
use Rattle.aql_meaning.specs.AtRows.{values_of, keys_of, passes, stops, row_before}
use Rattle.aql_meaning.specs.Clauses.{with_each, first_rows}
use Rattle.aql_plan.specs.laws.SomeMerge.{some_merged}

abbrev some_indexed : (w : Dataset) (place : Site) (x : Reading) (index : ℕ) (equal : ExprTrees)
    (last : Last ExprTree) (ordered : Option Bool) (rows : List Row)
    → (out : List Row) × Indexed w place x index equal last ordered rows out
some_indexed w place x index equal last None rows = (_, IsPermutation-refl _)
some_indexed w place x index equal last (Some descending) rows =
    let names = attributes_in w.facts x.coll index in
    let lists = all_some
    (λ row list. (sorted : List Datum)
    × InIndexOrder names descending (read_in_bounds w place x index equal last row) sorted
    × (list ≡ documents_kept x.var (passes x.filter) x.attrs row sorted))
    (λ row.
    let s = some_order (map (λ name. descending) names) (index_keys names)
    (read_in_bounds w place x index equal last row) in
    (documents_kept x.var (passes x.filter) x.attrs row s.0, (s.0, (s.1, s.2), refl))) rows in
    (with_each (bind x.var) rows lists.0, (lists.0, lists.1, refl))

abbrev mutual
  pub some_run : (p : Plan) (w : Dataset) (place : Site) (start : Row) → (out : List Row)
      × Runs p w place start out
  some_run Singleton w place start = (start ∷ [], refl)
  some_run (Over b NoResults) w place start = ([], refl)
  some_run (Over b (Scatter coll only)) w place start = (came place, refl)
  some_run (Over b (Distribute coll es)) w place start = (came place, refl)
  some_run (Over b (Gather directions es)) w place start =
      let taken = some_feed b w start in
      let lists = all_some (λ shard rows. Runs b w (Inside shard (sent_to b w shard taken.0)) start rows)
      (λ shard. some_run b w (Inside shard (sent_to b w shard taken.0)) start) (targets b w) in
      let out = some_merged (row_before directions es) (keyed_order directions (keys_of es)) lists.0 in
      (out.0, (taken.0, lists.0, taken.1, lists.1, out.1))
  some_run (Over b n) w place start =
      let rows = some_run b w place start in
      let out = some_given n w place start rows.0 in
      (out.0, (rows.0, rows.1, out.1))

  some_feed : (p : Plan) (w : Dataset) (start : Row) → (taken : List Row) × Feeds p w start taken
  some_feed Singleton w start = ([], refl)
  some_feed (Over b (Scatter coll only)) w start = some_run b w Outside start
  some_feed (Over b (Distribute coll es)) w start = some_run b w Outside start
  some_feed (Over b n) w start = some_feed b w start

  pub some_given : (n : Node) (w : Dataset) (place : Site) (start : Row) (rows : List Row)
      → (out : List Row) × Gives n w place start rows out
  some_given (EnumerateCollection x) w place start rows = (_, IsPermutation-refl _)
  some_given (Index x index equal last ordered) w place start rows =
      some_indexed w place x index equal last ordered rows
  some_given (EnumerateList x e) w place start rows = (_, refl)
  some_given (Traversal shape e colls prune keep) w place start rows =
      let walked = some_traversal w.db shape (edges_in w.db colls) (stops prune) rows (values_of e rows) in
      (filter (passes keep) walked.0, (walked.0, walked.1, refl))
  some_given (Calculation x e) w place start rows = (_, refl)
  some_given (Subquery x b) w place start rows =
      all_some (λ row given. (results : List Row) × Runs b w Outside row results
      × (given ≡ bind x row (list (map result_of results))))
      (λ row.
      let results = some_run b w Outside row in
      (bind x row (list (map result_of results.0)), (results.0, results.1, refl))) rows
  some_given (Filter e) w place start rows = (_, refl)
  some_given (Sort directions es n) w place start rows =
      let sorted = some_sort directions (map (keys_of es) rows) rows in
      (first_rows n sorted.0, (sorted.0, sorted.1, refl))
  some_given (Limit offset count) w place start rows = (_, refl)
  some_given (Collect xs es gs i s) w place start rows = some_collect xs (aggregate_vars gs)
      (stage_functions s gs) (into_var i) start (map (grouped_row_at s xs es gs i) rows)
  some_given (Return distinct e) w place start rows = (_, refl)
  some_given NoResults w place start rows = (_, refl)
  some_given (Scatter coll only) w place start rows = (_, refl)
  some_given (Distribute coll es) w place start rows = (_, refl)
  some_given Remote w place start rows = (_, refl)
  some_given (Gather directions es) w place start rows = (_, refl)
