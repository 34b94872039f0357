-- The rule reduce-extraction-to-projection: where a node reads documents whole, and the nodes above look at
-- the documents by the names of at most five attributes alone, only these are kept of each document. The
-- attributes of an ordered Index count as looked at.
use Rattle.std.specs.Prelude.{ℕ, ◌≡◌, ◌≤◌, ◌+◌, List, [], ◌++◌, map, length, fold, Bool, false, cond, Option, Some, None}
use Rattle.std.specs.List.{list_any}
use Rattle.std.specs.Ordering.{nat_cmp}
use Rattle.std.specs.Cmp.Lexicographic.{slice_cmp}
use Rattle.std.specs.BTreeSet.{insert_key}
use Rattle.aql_tree.specs.declared.syntax.Ident.{Ident}
use Rattle.aql_tree.specs.Tree.{ExprTree, ExprTrees}
use Rattle.aql_meaning.specs.Row.{same_ident}
use Rattle.aql_meaning.specs.Documents.{Last}
use Rattle.aql_meaning.specs.Uses.{Use, Whole, Attribute, Uses}
use Rattle.aql_plan.specs.declared.facts.Facts.{Facts}
use Rattle.aql_plan.specs.Facts.{attributes_in}
use Rattle.aql_plan.specs.Plan.{Reading, Plan, Singleton, Over, Node, EnumerateCollection, Index, Subquery}
use Rattle.aql_rewrite.specs.declared.swap.Rename.{Rename}

-- x is used as a whole
abbrev pub is_whole : Ident → Use → Bool
is_whole x (Whole y) = same_ident x y
is_whole x (Attribute y name) = false

abbrev pub used_whole : Ident → Uses → Bool
used_whole x us = list_any (is_whole x) us

-- the names in ascending order, each once, with one more
abbrev pub with_name : List (List ℕ) → List ℕ → List (List ℕ)
with_name names name = insert_key (slice_cmp nat_cmp) names name

abbrev pub with_use : Ident → List (List ℕ) → Use → List (List ℕ)
with_use x names (Whole y) = names
with_use x names (Attribute y name) = cond (same_ident x y) (with_name names name) names

-- the names of the attributes of x that are used, in ascending order, each once
abbrev pub names_used : Ident → Uses → List (List ℕ)
names_used x us = fold (with_use x) [] us

-- the attributes of an index, if it is ordered
abbrev pub order_uses : Facts → Reading → ℕ → Option Bool → Uses
order_uses facts x index None = []
order_uses facts x index (Some descending) =
    map (λ name. Attribute x.var name) (attributes_in facts x.coll index)

abbrev pub keeping : List (List ℕ) → Reading → Reading
keeping names x = record {
  var = x.var;
  coll = x.coll;
  filter = x.filter;
  attrs = Some names;
  shard = x.shard;
}

-- documents are read whole, and the variable is used by names alone, at most five
abbrev pub MayKeep : Option (List (List ℕ)) → Ident → Uses → Type 0
MayKeep attrs x us = (attrs ≡ None) × (used_whole x us ≡ false) × (length (names_used x us) ≤ 5)

pub data Reduces (facts : Facts) : Uses → Plan → Plan → Option Rename → Type 0 where
  enumeration : {us : Uses} {b : Plan} {x : Reading} → MayKeep x.attrs x.var us
      → Reduces facts us (Over b (EnumerateCollection x))
      (Over b (EnumerateCollection (keeping (names_used x.var us) x))) None
  by_index : {us : Uses} {b : Plan} {x : Reading} {index : ℕ} {equal : ExprTrees} {last : Last ExprTree}
      {ordered : Option Bool} → MayKeep x.attrs x.var (us ++ order_uses facts x index ordered)
      → Reduces facts us (Over b (Index x index equal last ordered))
      (Over b (Index (keeping (names_used x.var (us ++ order_uses facts x index ordered)) x)
      index equal last ordered)) None
