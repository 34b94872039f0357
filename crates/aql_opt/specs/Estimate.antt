-- The estimate of a plan (Execution and performance, the query optimizer: cost-based): how many rows it gives
-- and what these cost, a line for each node. Sums and products end at the greatest number of 64 bits, and
-- halves are rounded up.
use Rattle.std.specs.Prelude.{ℕ, zero, suc, ◌+◌, ◌-◌, ◌*◌, ◌^◌, min, ℤ, List, [], ◌∷◌, cond, Option, Some, None, nat_le}
use Rattle.aql_value.specs.Datum.{number}
use Rattle.aql_func.specs.Operators.{range_length}
use Rattle.aql_tree.specs.declared.syntax.Ident.{Ident}
use Rattle.aql_tree.specs.Tree.{ExprTree, literal, array_literal, range_of, MaybeExpr, no_expr, one_expr}
use Rattle.aql_plan.specs.declared.facts.Facts.{Facts}
use Rattle.aql_plan.specs.Facts.{shards_in}
use Rattle.aql_plan.specs.Fits.{exprs_in}
use Rattle.aql_plan.specs.Plan.{Plan, Singleton, Over, Node, EnumerateCollection, Index, EnumerateList, Traversal, Calculation, Subquery, Filter, Sort, Limit, Collect, Return, NoResults, Scatter, Distribute, Remote, Gather}
use Rattle.aql_index.specs.Guess.{greatest, times, half, documents_in, guess}
use Rattle.aql_opt.specs.declared.estimates.Cost.{Cost}

-- ---- numbers

abbrev pub plus : ℕ → ℕ → ℕ
plus a b = min (a + b) greatest

-- how many powers of two, of those below 2 ^ k, are at most n
abbrev pub digits_upto : ℕ → ℕ → ℕ
digits_upto zero n = 0
digits_upto (suc k) n = cond (nat_le (2 ^ k) n) (suc k) (digits_upto k n)

-- how many digits a number of 64 bits has in binary, where 0 has none
unfoldable pub binary_digits : ℕ → ℕ
binary_digits n = digits_upto 64 n

-- ---- elements

-- the elements of a range, of which there are none where they are too many
abbrev pub range_size : ℤ → ℤ → ℕ
range_size a b = cond (nat_le (range_length a b) 1000000) (range_length a b) 0

-- the elements of an array literal, or of a range of two numbers; of another expression the number given
abbrev pub elements_in : ℕ → ExprTree → ℕ
elements_in other (array_literal es) = exprs_in es
elements_in other (range_of (literal (number a)) (literal (number b))) = range_size a b
elements_in other e = other

-- ---- nodes

-- a filter keeps half of the rows
abbrev pub filtered : MaybeExpr → ℕ → ℕ
filtered no_expr rows = rows
filtered (one_expr e) rows = half rows

abbrev pub at_most : Option ℕ → ℕ → ℕ
at_most None rows = rows
at_most (Some limit) rows = min rows limit

-- without criteria a COLLECT gives one row
abbrev pub grouped : List Ident → ℕ → ℕ
grouped [] rows = 1
grouped (x ∷ xs) rows = half rows

abbrev pub shards_reached : Facts → ℕ → Option ℕ → ℕ
shards_reached facts coll None = shards_in facts coll
shards_reached facts coll (Some shard) = 1

-- so many rows of a node, which cost so much beside its input
abbrev pub gives : Cost → ℕ → ℕ → Cost
gives input rows more = record { rows = rows; cost = plus input.cost more }

module _ (facts : Facts) where
  abbrev mutual
    pub estimate : Plan → Cost
    estimate Singleton = record { rows = 1; cost = 1 }
    estimate (Over b n) = node_estimate n (estimate b)

    -- a node, by what its input gives and costs
    pub node_estimate : Node → Cost → Cost
    node_estimate (EnumerateCollection x) i =
        let rows = times i.rows (documents_in facts x.coll) in gives i (filtered x.filter rows) rows
    node_estimate (Index x index equal last ordered) i =
        let found = guess facts x.coll index (exprs_in equal) last in
        gives i (filtered x.filter (times i.rows found)) (times i.rows (plus found 1))
    node_estimate (EnumerateList x e) i =
        let rows = times i.rows (elements_in 100 e) in gives i rows rows
    node_estimate (Traversal w e colls prune keep) i =
        gives i (times i.rows (10 * (w.max - w.min + 1))) (times i.rows (10 * (w.max + 1)))
    node_estimate (Subquery x b) i = gives i i.rows (times i.rows (estimate b).cost)
    node_estimate (Filter e) i = gives i (half i.rows) i.rows
    node_estimate (Sort directions es limit) i =
        gives i (at_most limit i.rows) (times i.rows (1 + binary_digits i.rows))
    node_estimate (Limit offset count) i = let rows = min (i.rows - offset) count in gives i rows rows
    node_estimate (Collect xs es gs taken stage) i = gives i (grouped xs i.rows) i.rows
    node_estimate NoResults i = record { rows = 0; cost = 1 }
    node_estimate (Scatter coll only) i = gives i i.rows (times i.rows (shards_reached facts coll only))
    -- Calculation, Return, Distribute, Remote and Gather
    node_estimate n i = gives i i.rows i.rows
