-- Plans with their estimates, computed from the definition: a lookup by an index with one document a value; a
-- filter over two shards of a collection with two documents; and one node after another over three documents.
use Rattle.std.specs.Prelude.{ℕ, ◌≡◌, List, [], ◌∷◌, true, false, Some, None, codes}
use Rattle.aql_value.specs.Datum.{null}
use Rattle.aql_tree.specs.declared.syntax.Ident.TheVariants.{Num}
use Rattle.aql_tree.specs.Tree.{ExprTree, literal, array_literal, ExprTrees, no_exprs, expr_then, no_expr, one_expr, no_aggregates, no_into}
use Rattle.aql_meaning.specs.Documents.{no_last, one_of}
use Rattle.aql_meaning.specs.declared.grouping.Stage.TheVariants.{Whole}
use Rattle.aql_plan.specs.declared.facts.Facts.{Facts}
use Rattle.aql_plan.specs.declared.facts.IndexKind.TheVariants.{Sorted}
use Rattle.aql_plan.specs.Plan.{Reading, Plan, Singleton, Over, EnumerateCollection, Index, EnumerateList, Subquery, Filter, Limit, Collect, Return, NoResults, Scatter, Remote, Gather}
use Rattle.aql_opt.specs.declared.estimates.Cost.{Cost}
use Rattle.aql_opt.specs.Estimate.{estimate}

-- one collection with so many documents and shards, and an index with so many documents a value
abbrev known : ℕ → ℕ → ℕ → Facts
known documents shards width = record {
  servers = 0;
  collections = record {
    name = codes "c";
    edge = false;
    documents = documents;
    shards = shards;
    keys = codes "_key" ∷ [];
    indexes = record { kind = Sorted; attributes = codes "a" ∷ []; widths = documents ∷ width ∷ [] } ∷ [];
  } ∷ [];
}

abbrev reading : Reading
reading = record { var = Num 1; coll = 0; filter = no_expr; attrs = None; shard = None }

abbrev any : ExprTree
any = literal null

abbrev costs : ℕ → ℕ → Cost
costs rows cost = record { rows = rows; cost = cost }

abbrev returned : Plan → Plan
returned b = Over b (Return false any)

abbrev documents : Plan
documents = Over Singleton (EnumerateCollection reading)

abbrev in_fragment : Plan
in_fragment =
    Over (Over (Over Singleton (Scatter 0 None)) Remote) (EnumerateCollection reading)

abbrev over_shards : Plan
over_shards = Over (Over in_fragment Remote) (Gather [] no_exprs)

abbrev two : ExprTree
two = array_literal (expr_then any (expr_then any no_exprs))

abbrev pub WorkedEstimates : Type 0
WorkedEstimates =
    (estimate (known 9 1 1)
    (returned (Over Singleton (Index reading 0 (expr_then any no_exprs) no_last None))) ≡ costs 1 4)
    × (estimate (known 2 2 1) (returned (Over over_shards (Filter any))) ≡ costs 1 13)
    × (estimate (known 9 1 5) (Over Singleton (Index reading 0 no_exprs (one_of two) None)) ≡ costs 9 11)
    × (estimate (known 3 1 1) documents ≡ costs 3 4)
    × (estimate (known 3 1 1) (Over documents (Filter any)) ≡ costs 2 7)
    × (estimate (known 3 1 1) (Over documents (EnumerateList (Num 2) any)) ≡ costs 300 304)
    × (estimate (known 3 1 1) (Over documents (Subquery (Num 2) (returned documents))) ≡ costs 3 25)
    × (estimate (known 3 1 1) (Over documents (Limit 1 9)) ≡ costs 2 6)
    × (estimate (known 3 1 1) (Over documents (Collect [] no_exprs no_aggregates no_into Whole)) ≡ costs 1 7)
    × (estimate (known 3 1 1) (Over documents NoResults) ≡ costs 0 1)
    × (estimate (known 18446744073709551615 1 1) (Over documents (EnumerateCollection reading))
    ≡ costs 18446744073709551615 18446744073709551615)
