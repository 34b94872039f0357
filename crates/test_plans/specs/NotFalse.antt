-- The rule of the tests of rewriting: `!false` becomes `true`.
use Rattle.std.specs.Prelude.{◌≡◌, ◌<◌, true, false, refl}
use Rattle.std.proofs.Common.{sym, subst₂, arith}
use Rattle.aql_value.specs.Datum.{boolean}
use Rattle.aql_value.specs.declared.operators.UnaryOp.TheVariants.{Not}
use Rattle.aql_tree.specs.Tree.{ExprTree, literal, unary_of}
use Rattle.aql_rewrite.specs.Keeps.{Keeps}
use Rattle.aql_rewrite.specs.Size.{size}

abbrev pub not_false : ExprTree
not_false = unary_of Not (literal (boolean false))

abbrev pub IsTurned : ExprTree → ExprTree → Type 0
IsTurned p q = (p ≡ not_false) × (q ≡ literal (boolean true))

not_false_kept : Keeps not_false (literal (boolean true))
not_false_kept = record {
  plain = λ h. tt;
  same_value = λ h cur row. refl;
  no_variable = λ x h. h;
  no_current = λ h. h;
}

pub turned_keeps : (p q : ExprTree) → IsTurned p q → Keeps p q
turned_keeps p q h = subst₂ (λ (a b : ExprTree). Keeps a b) (sym h.0) (sym h.1) not_false_kept

pub turned_falls : (p q : ExprTree) → IsTurned p q → size q < size p
turned_falls p q h = subst₂ (λ (a b : ExprTree). size b < size a) (sym h.0) (sym h.1) (omega arith)
