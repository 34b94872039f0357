-- What is kept of documents, step by step: for the contracts of private functions alone.
use Rattle.std.specs.Prelude.{ℕ, ◌≡◌, ◌≤◌, List, [], length, fold, Bool, true, false, Option, Some, None}
use Rattle.aql_tree.specs.declared.syntax.Ident.{Ident}
use Rattle.aql_meaning.specs.Uses.{Uses}
use Rattle.aql_plan.specs.declared.facts.Facts.{Facts}
use Rattle.aql_plan.specs.Facts.{attributes_in}
use Rattle.aql_plan.specs.Plan.{Plan, Singleton, Over, Node, EnumerateCollection, Index}
use Rattle.aql_rules_calc.specs.ReduceExtractionToProjection.{used_whole, with_use, keeping}

-- the answer tells whether the variable is used by names alone and these are, with those before, at most
-- five; they are then added
abbrev pub AreAdded : Bool → List (List ℕ) → Ident → Uses → List (List ℕ) → Type 0
AreAdded true before x us names =
    (names ≡ fold (with_use x) before us) × (used_whole x us ≡ false) × (length names ≤ 5)
AreAdded false before x us names =
    used_whole x us ≡ false → length (fold (with_use x) before us) ≤ 5 → ⊥

-- the names to keep, where there is something to leave out
abbrev pub AreKept : Option (List (List ℕ)) → Ident → Uses → Type 0
AreKept None x us = AreAdded false [] x us []
AreKept (Some names) x us = AreAdded true [] x us names

abbrev pub order_of : Facts → ℕ → ℕ → Option Bool → List (List ℕ)
order_of facts coll index None = []
order_of facts coll index (Some descending) = attributes_in facts coll index

-- the variable of a node that reads documents whole, and the attributes of its order
abbrev pub where_whole : Option (List (List ℕ)) → Ident → List (List ℕ) → Option (Ident × List (List ℕ))
where_whole None x order = Some (x, order)
where_whole (Some names) x order = None

abbrev pub read_whole : Facts → Node → Option (Ident × List (List ℕ))
read_whole facts (EnumerateCollection x) = where_whole x.attrs x.var []
read_whole facts (Index x index equal last ordered) =
    where_whole x.attrs x.var (order_of facts x.coll index ordered)
read_whole facts n = None

-- a node that reads, with these attributes kept
abbrev pub node_with_attrs : List (List ℕ) → Node → Node
node_with_attrs names (EnumerateCollection x) = EnumerateCollection (keeping names x)
node_with_attrs names (Index x index equal last ordered) = Index (keeping names x) index equal last ordered
node_with_attrs names n = n

abbrev pub with_attrs : List (List ℕ) → Plan → Plan
with_attrs names Singleton = Singleton
with_attrs names (Over b n) = Over b (node_with_attrs names n)
