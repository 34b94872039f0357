-- What expressions without a subquery say of rows, outside of inline expressions (AQL's high-level
-- operations): a value of each row, the keys by which SORT compares two rows, whether a filter lets a row
-- pass, and whether a traversal stops after a path (Graphs, Traversals: pruning).
use Rattle.std.specs.Prelude.{List, map, Bool, true, false}
use Rattle.std.specs.Ordering.{is_lt}
use Rattle.aql_value.specs.Datum.{Datum, null, boolean}
use Rattle.aql_value.specs.Truth.{truth}
use Rattle.aql_tree.specs.Tree.{ExprTree, ExprTrees, MaybeExpr}
use Rattle.aql_meaning.specs.Row.{Row}
use Rattle.aql_meaning.specs.Value.{value, values, value_or}
use Rattle.aql_meaning.specs.Clauses.{keys_cmp}

-- the value of an expression at a row, and at each row
abbrev pub value_of : ExprTree → Row → Datum
value_of e row = value e null row

abbrev pub values_of : ExprTree → List Row → List Datum
values_of e rows = map (value_of e) rows

-- the values of several expressions at a row
abbrev pub keys_of : ExprTrees → Row → List Datum
keys_of es row = values es null row

-- a row comes before another by these keys
abbrev pub row_before : List Bool → ExprTrees → Row → Row → Bool
row_before directions es row other = is_lt (keys_cmp directions (keys_of es row) (keys_of es other))

-- whether the filter lets a row pass; where there is none, each row passes
abbrev pub passes : MaybeExpr → Row → Bool
passes filter row = truth (value_or filter null row (boolean true))

-- whether PRUNE holds at a row; where there is none, it holds nowhere
abbrev pub stops : MaybeExpr → Row → Bool
stops prune row = truth (value_or prune null row (boolean false))
