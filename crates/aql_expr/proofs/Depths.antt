-- The depth of an expression that may be absent.
use Rattle.std.proofs.Common.{ℕ, Option, None, Some, Box, Global}
use Rattle.aql_tree.specs.declared.syntax.Expr.{Expr, size-Expr}

abbrev pub maybe_depth : Option Expr → ℕ
maybe_depth None = 0
maybe_depth (Some e) = size-Expr e

abbrev pub boxed_depth : Option (Box Expr Global) → ℕ
boxed_depth None = 0
boxed_depth (Some b) = size-Expr b.value
