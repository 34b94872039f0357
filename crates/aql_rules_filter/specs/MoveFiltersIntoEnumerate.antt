-- The rule move-filters-into-enumerate: a Filter over an EnumerateCollection or an Index that keeps all
-- attributes of its documents goes into it. The items of the condition come after those of the node's filter.
use Rattle.std.specs.Prelude.{ℕ, ◌≡◌, Bool, Option, None}
use Rattle.aql_tree.specs.Tree.{ExprTree, ExprTrees, one_expr}
use Rattle.aql_meaning.specs.Documents.{Last}
use Rattle.aql_meaning.specs.Uses.{Uses}
use Rattle.aql_plan.specs.Plan.{Reading, Plan, Over, EnumerateCollection, Index, Filter}
use Rattle.aql_rewrite.specs.declared.swap.Rename.{Rename}
use Rattle.aql_rules_filter.specs.Conditions.{joined}

-- the reading with another filter
abbrev pub filtered_by : Reading → ExprTree → Reading
filtered_by x e = record {
  var = x.var;
  coll = x.coll;
  filter = one_expr e;
  attrs = x.attrs;
  shard = x.shard;
}

abbrev pub with_condition : Reading → ExprTree → Reading
with_condition x c = filtered_by x (joined x.filter c)

pub data MovesIn : Uses → Plan → Plan → Option Rename → Type 0 where
  into_enumerate : {us : Uses} {b : Plan} {x : Reading} {c : ExprTree} → x.attrs ≡ None
      → MovesIn us (Over (Over b (EnumerateCollection x)) (Filter c))
      (Over b (EnumerateCollection (with_condition x c))) None
  into_index : {us : Uses} {b : Plan} {x : Reading} {index : ℕ} {equal : ExprTrees} {last : Last ExprTree}
      {ordered : Option Bool} {c : ExprTree} → x.attrs ≡ None
      → MovesIn us (Over (Over b (Index x index equal last ordered)) (Filter c))
      (Over b (Index (with_condition x c) index equal last ordered)) None
