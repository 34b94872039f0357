-- What an operator makes of rows at a shard, its node gives in a fragment on this shard.
use Rattle.std.proofs.Common.{◌≡◌, ℕ, List, refl, subst}
use Rattle.std.specs.Prelude.{Option, Some, None, unwrap_or, filter}
use Rattle.aql_value.specs.Datum.{Datum}
use Rattle.aql_tree.specs.Tree.{ExprTree, ExprTrees}
use Rattle.aql_meaning.specs.Row.{Row}
use Rattle.aql_meaning.specs.AtRows.{value_of, keys_of, passes}
use Rattle.aql_meaning.specs.Documents.{Last, last_map, in_bounds, Scanned, ScannedInOrder}
use Rattle.aql_plan.specs.Facts.{attributes_in}
use Rattle.aql_plan.specs.Plan.{Reading, Node, EnumerateCollection, Index, EnumerateList, Traversal, Calculation, Subquery, Filter, Sort, Limit, Collect, Return, NoResults, Scatter, Distribute, Remote, Gather}
use Rattle.aql_plan.specs.Runs.{Dataset, Site, Outside, Inside, read, Gives}
use Rattle.aql_exec.specs.Rests.{Counts}
use Rattle.aql_exec.specs.Counting.{GivesCounting}
use Rattle.aql_engine.specs.OperatorsOf.{node_at}

-- outside fragments, or in one on a shard with the rows that came there
abbrev pub place_at : Option ℕ → List Row → Site
place_at None rows = Outside
place_at (Some shard) rows = Inside shard rows

read_on : (w : Dataset) (coll shard : ℕ) (own : Option ℕ) (rows : List Row)
    → read w coll (Some (unwrap_or own shard)) Outside ≡ read w coll own (Inside shard rows)
read_on w coll shard None rows = refl
read_on w coll shard (Some other) rows = refl

-- of these documents, those in the bounds of an index
abbrev in_index : Dataset → Reading → ℕ → ExprTrees → Last ExprTree → List Datum → Row → List Datum
in_index w x index equal last documents row = filter
    (in_bounds (attributes_in w.facts x.coll index) (keys_of equal row) (last_map (λ e. value_of e row) last))
    documents

module _ (w : Dataset) (came : List Row) (start : Row) (rows out : List Row) (d : Counts) where
  given_shard : (shard : ℕ) (n : Node) → GivesCounting (node_at (Some shard) n) w start rows out d
      → Gives n w (Inside shard came) start rows out
  given_shard shard (EnumerateCollection x) h =
      subst (λ documents. Scanned x.var (passes x.filter) x.attrs (λ row. documents) rows out)
      (read_on w x.coll shard x.shard came) h.0
  given_shard shard (Index x index equal last None) h =
      subst (λ documents. Scanned x.var (passes x.filter) x.attrs (in_index w x index equal last documents)
      rows out)
      (read_on w x.coll shard x.shard came) h.0
  given_shard shard (Index x index equal last (Some descending)) h =
      subst (λ documents. ScannedInOrder (attributes_in w.facts x.coll index) descending x.var
      (passes x.filter) x.attrs (in_index w x index equal last documents) rows out)
      (read_on w x.coll shard x.shard came) h.0
  given_shard shard (EnumerateList x e) h = h.0
  given_shard shard (Traversal shape e colls prune keep) h = (h.1, (h.0, h.2, h.3), h.4)
  given_shard shard (Calculation x e) h = h.0
  given_shard shard (Subquery x b) h = h.0
  given_shard shard (Filter e) h = h.0
  given_shard shard (Sort directions es n) h = h.0
  given_shard shard (Limit offset count) h = h.0
  given_shard shard (Collect xs es gs i s) h = h.0
  given_shard shard (Return distinct e) h = h.0
  given_shard shard NoResults h = h.0
  given_shard shard (Scatter coll only) h = h.0
  given_shard shard (Distribute coll es) h = h.0
  given_shard shard Remote h = h.0
  given_shard shard (Gather directions es) h = h.0

  given_outside : (n : Node) → GivesCounting (node_at None n) w start rows out d
      → Gives n w Outside start rows out
  given_outside (EnumerateCollection x) h = h.0
  given_outside (Index x index equal last ordered) h = h.0
  given_outside (Traversal shape e colls prune keep) h = (h.1, (h.0, h.2, h.3), h.4)
  given_outside (EnumerateList x e) h = h.0
  given_outside (Calculation x e) h = h.0
  given_outside (Subquery x b) h = h.0
  given_outside (Filter e) h = h.0
  given_outside (Sort directions es n) h = h.0
  given_outside (Limit offset count) h = h.0
  given_outside (Collect xs es gs i s) h = h.0
  given_outside (Return distinct e) h = h.0
  given_outside NoResults h = h.0
  given_outside (Scatter coll only) h = h.0
  given_outside (Distribute coll es) h = h.0
  given_outside Remote h = h.0
  given_outside (Gather directions es) h = h.0

  pub given : (at : Option ℕ) (n : Node) → GivesCounting (node_at at n) w start rows out d
      → Gives n w (place_at at came) start rows out
  given None n h = given_outside n h
  given (Some shard) n h = given_shard shard n h
