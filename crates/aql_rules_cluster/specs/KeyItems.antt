-- Which expressions give the shard keys (Cluster: sharding) of the documents that a node finds: of each key
-- the first that stands equal to it among the equal bounds of an Index, and then among the items of the
-- node's own filter, as it stands or mirrored.
use Rattle.std.specs.Prelude.{ℕ, ◌≡◌, List, [], ◌∷◌, ◌++◌, false}
use Rattle.aql_value.specs.declared.operators.BinOp.TheVariants.{Eq}
use Rattle.aql_tree.specs.declared.syntax.Ident.{Ident}
use Rattle.aql_tree.specs.Tree.{ExprTree, ExprTrees, no_exprs, expr_then, MaybeExpr, no_expr, one_expr}
use Rattle.aql_meaning.specs.Uses.{uses, is_used}
use Rattle.aql_plan.specs.declared.facts.Facts.{Facts}
use Rattle.aql_plan.specs.Facts.{keys_in, attributes_in}
use Rattle.aql_plan.specs.FirstPlan.{conjuncts}
use Rattle.aql_plan.specs.Plan.{Node, EnumerateCollection, Index}
use Rattle.aql_rewrite.specs.Constant.{IsConstant}
use Rattle.aql_rules_index.specs.Choice.{Item, items_of, make_item}
use Rattle.aql_rules_cluster.specs.declared.key_items.Wanted.{Wanted}
use Rattle.aql_rules_cluster.specs.declared.key_items.Wanted.TheVariants.{Apart, Constant}

-- ---- items

-- the equal bounds of an Index, attribute by attribute
abbrev pub bound_items : List (List ℕ) → ExprTrees → List Item
bound_items (name ∷ names) (expr_then e es) = make_item e name Eq ∷ bound_items names es
bound_items names es = []

-- the items of the node's own filter
abbrev pub filter_items : Ident → MaybeExpr → List Item
filter_items x no_expr = []
filter_items x (one_expr c) = items_of x (conjuncts c)

-- ---- the expressions that are wanted

-- those that do not use the document, or those that are constant
abbrev pub Wants : Wanted → Ident → ExprTree → Type 0
Wants Apart x e = is_used x (uses e) ≡ false
Wants Constant x e = IsConstant e

-- the item has a wanted expression stand equal to the key
pub record GivesKey (W : ExprTree → Type 0) (key : List ℕ) (i : Item) : Type 0 where
  pub on_key : i.name ≡ key
  pub equal : i.op ≡ Eq
  pub wanted : W i.other

-- of the first such item this is the expression
pub data FirstFor (W : ExprTree → Type 0) (key : List ℕ) : List Item → ExprTree → Type 0 where
  here : {i : Item} {is : List Item} → GivesKey W key i → FirstFor W key (i ∷ is) i.other
  later : {i : Item} {is : List Item} {e : ExprTree} → (GivesKey W key i → ⊥) → FirstFor W key is e
      → FirstFor W key (i ∷ is) e

-- and so for each key
abbrev pub FirstForEach : (ExprTree → Type 0) → List Item → List (List ℕ) → ExprTrees → Type 0
FirstForEach W is [] no_exprs = Unit {0}
FirstForEach W is (key ∷ keys) (expr_then e es) = FirstFor W key is e × FirstForEach W is keys es
FirstForEach W is keys es = ⊥

-- ---- nodes

-- those that the items of a node give for the shard keys of the collection that it reads
abbrev pub KeysBy : Facts → Wanted → Ident → ℕ → List Item → ExprTrees → Type 0
KeysBy facts wanted x coll is es = FirstForEach (Wants wanted x) is (keys_in facts coll) es

abbrev pub GivesKeys : Facts → Wanted → Node → ExprTrees → Type 0
GivesKeys facts wanted (EnumerateCollection x) es =
    KeysBy facts wanted x.var x.coll (filter_items x.var x.filter) es
GivesKeys facts wanted (Index x index equal last ordered) es = KeysBy facts wanted x.var x.coll
    (bound_items (attributes_in facts x.coll index) equal ++ filter_items x.var x.filter) es
GivesKeys facts wanted n es = ⊥
