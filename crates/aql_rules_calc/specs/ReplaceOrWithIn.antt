-- The rule replace-or-with-in: a `||` chain whose every part is `e == k` or `e IN [k, ..]`, with one e, which
-- is not constant, and constant k, one or more, becomes `e IN` the array of all k, in order.
use Rattle.std.specs.Prelude.{◌≡◌, List, [], ◌∷◌, ◌++◌, Bool, true, false, ◌&&◌}
use Rattle.aql_value.specs.declared.operators.BinOp.{BinOp}
use Rattle.aql_value.specs.declared.operators.BinOp.TheVariants.{Or, Eq, IsIn}
use Rattle.aql_tree.specs.Tree.{ExprTree, array_literal, chain, ExprTrees, expr_then, LinkTrees, no_links, link_then}
use Rattle.aql_tree.specs.View.{trees}
use Rattle.aql_meaning.specs.Plain.{IsPlain}
use Rattle.aql_rewrite.specs.Constant.{IsConstant}
use Rattle.aql_rewrite.specs.Children.{list_children, link_children}

abbrev pub is_or : BinOp → Bool
is_or Or = true
is_or op = false

abbrev pub each_or : LinkTrees → Bool
each_or no_links = true
each_or (link_then op e ls) = is_or op && each_or ls

-- the links of a `||` chain
abbrev pub is_or_chain : LinkTrees → Bool
is_or_chain no_links = false
is_or_chain (link_then op e ls) = is_or op && each_or ls

-- `e op k`
abbrev pub operation : ExprTree → BinOp → ExprTree → ExprTree
operation e op k = chain e (link_then op k no_links)

-- d compares e, which holds no subquery, with the constants ks
pub data Compares (e : ExprTree) : ExprTree → List ExprTree → Type 0 where
  equal_to : {k : ExprTree} → IsPlain e → IsConstant k → Compares e (operation e Eq k) (k ∷ [])
  one_of : {k : ExprTree} {ks : ExprTrees} → IsPlain e → IsConstant (array_literal (expr_then k ks))
      → Compares e (operation e IsIn (array_literal (expr_then k ks))) (list_children (expr_then k ks))

-- each expression of a list does, and ks is what they compare it with, in order
pub data AllCompare (e : ExprTree) : List ExprTree → List ExprTree → Type 0 where
  no_more : AllCompare e [] []
  compares_then : {d : ExprTree} {ds ks js : List ExprTree} → Compares e d ks → AllCompare e ds js
      → AllCompare e (d ∷ ds) (ks ++ js)

pub data Replaces : ExprTree → ExprTree → Type 0 where
  by_in : {e d : ExprTree} {ls : LinkTrees} {ks : List ExprTree} → is_or_chain ls ≡ true
      → (IsConstant e → ⊥) → AllCompare e (d ∷ link_children ls) ks
      → Replaces (chain d ls) (operation e IsIn (array_literal (trees ks)))
