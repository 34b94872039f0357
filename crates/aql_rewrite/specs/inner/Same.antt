-- Whether two expressions without a subquery are the same, form by form: for the contracts of private
-- functions. The public one says it without this.
use Rattle.std.specs.Prelude.{ℕ, Bool, true, false, ◌&&◌, ◌==◌, bytes_eq}
use Rattle.aql_value.specs.Contents.{same}
use Rattle.aql_value.specs.declared.operators.BinOp.{BinOp}
use Rattle.aql_value.specs.declared.operators.BinOp.TheVariants.{And, Or, Eq, Ne, Lt, Le, Gt, Ge, IsIn, NotIn}
use Rattle.aql_value.specs.declared.operators.BinOp.TheVariants.{Like, NotLike, Add, Sub, Mul, Div, Rem}
use Rattle.aql_value.specs.declared.operators.UnaryOp.{UnaryOp}
use Rattle.aql_value.specs.declared.operators.UnaryOp.TheVariants.{Plus, Minus, Not}
use Rattle.aql_tree.specs.declared.syntax.QuantKind.{QuantKind}
use Rattle.aql_tree.specs.declared.syntax.QuantKind.TheVariants.{All, Any, None}
use Rattle.aql_tree.specs.Tree.{ExprTree, literal, variable, current, array_literal, object_literal, access}
use Rattle.aql_tree.specs.Tree.{function_call, unary_of, chain, array_comparison, ternary, range_of}
use Rattle.aql_tree.specs.Tree.{ExprTrees, no_exprs, expr_then, MaybeExpr, no_expr, one_expr}
use Rattle.aql_tree.specs.Tree.{MemberTrees, no_members, named_then, computed_then}
use Rattle.aql_tree.specs.Tree.{StepTrees, no_steps, name_then, at_then, inline_then}
use Rattle.aql_tree.specs.Tree.{LinkTrees, no_links, link_then}
use Rattle.aql_tree.specs.View.{maybe, MemberPart, named, computed, StepPart, name, at, inline, LinkPart}
use Rattle.aql_meaning.specs.Row.{same_ident}

-- ---- a number for each operator

abbrev pub op_number : BinOp → ℕ
op_number And = 0
op_number Or = 1
op_number Eq = 2
op_number Ne = 3
op_number Lt = 4
op_number Le = 5
op_number Gt = 6
op_number Ge = 7
op_number IsIn = 8
op_number NotIn = 9
op_number Like = 10
op_number NotLike = 11
op_number Add = 12
op_number Sub = 13
op_number Mul = 14
op_number Div = 15
op_number Rem = 16

abbrev pub sign_number : UnaryOp → ℕ
sign_number Plus = 0
sign_number Minus = 1
sign_number Not = 2

abbrev pub kind_number : QuantKind → ℕ
kind_number All = 0
kind_number Any = 1
kind_number None = 2

-- ---- form by form

abbrev mutual
  pub same_expr : ExprTree → ExprTree → Bool
  same_expr (literal v) (literal w) = same v w
  same_expr (variable x) (variable y) = same_ident x y
  same_expr current current = true
  same_expr (array_literal es) (array_literal ds) = same_list es ds
  same_expr (object_literal ms) (object_literal ns) = same_members ms ns
  same_expr (access e ss) (access d rs) = same_expr e d && same_steps ss rs
  same_expr (function_call n es) (function_call m ds) = bytes_eq n m && same_list es ds
  same_expr (unary_of op e) (unary_of o d) = (sign_number op == sign_number o) && same_expr e d
  same_expr (chain e ls) (chain d ks) = same_expr e d && same_links ls ks
  same_expr (array_comparison a k op b) (array_comparison c l o d) =
      (kind_number k == kind_number l) && ((op_number op == op_number o) && (same_expr a c && same_expr b d))
  same_expr (ternary t m o) (ternary s n p) = same_expr t s && (same_maybe m n && same_expr o p)
  same_expr (range_of a b) (range_of c d) = same_expr a c && same_expr b d
  same_expr e d = false

  pub same_list : ExprTrees → ExprTrees → Bool
  same_list no_exprs no_exprs = true
  same_list (expr_then e es) (expr_then d ds) = same_expr e d && same_list es ds
  same_list es ds = false

  pub same_maybe : MaybeExpr → MaybeExpr → Bool
  same_maybe no_expr no_expr = true
  same_maybe (one_expr e) (one_expr d) = same_expr e d
  same_maybe e d = false

  pub same_members : MemberTrees → MemberTrees → Bool
  same_members no_members no_members = true
  same_members (named_then n e ms) (named_then m d ns) = (bytes_eq n m && same_expr e d) && same_members ms ns
  same_members (computed_then n e ms) (computed_then m d ns) =
      (same_expr n m && same_expr e d) && same_members ms ns
  same_members ms ns = false

  pub same_steps : StepTrees → StepTrees → Bool
  same_steps no_steps no_steps = true
  same_steps (name_then n ss) (name_then m rs) = bytes_eq n m && same_steps ss rs
  same_steps (at_then e ss) (at_then d rs) = same_expr e d && same_steps ss rs
  same_steps (inline_then f p ss) (inline_then g q rs) =
      (same_maybe f g && same_maybe p q) && same_steps ss rs
  same_steps ss rs = false

  pub same_links : LinkTrees → LinkTrees → Bool
  same_links no_links no_links = true
  same_links (link_then op e ls) (link_then o d ks) =
      ((op_number op == op_number o) && same_expr e d) && same_links ls ks
  same_links ls ks = false

-- ---- one member, step and link, as the program holds them

abbrev pub same_member : MemberPart → MemberPart → Bool
same_member (named n e) (named m d) = bytes_eq n m && same_expr e d
same_member (computed n e) (computed m d) = same_expr n m && same_expr e d
same_member a b = false

abbrev pub same_step : StepPart → StepPart → Bool
same_step (name n) (name m) = bytes_eq n m
same_step (at e) (at d) = same_expr e d
same_step (inline f p) (inline g q) = same_maybe (maybe f) (maybe g) && same_maybe (maybe p) (maybe q)
same_step a b = false

abbrev pub same_link : LinkPart → LinkPart → Bool
same_link a b = (op_number a.0 == op_number b.0) && same_expr a.1 b.1
