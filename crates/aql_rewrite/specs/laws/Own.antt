-- What an expression has of its own, without its parts: it stays over other parts.
use Rattle.std.proofs.Common.{ℕ, ◌≡◌, List, [], ◌∷◌, refl}
use Rattle.aql_tree.specs.declared.syntax.Ident.{Ident}
use Rattle.aql_tree.specs.Tree.{ExprTree, literal, variable, current, array_literal, object_literal, access}
use Rattle.aql_tree.specs.Tree.{function_call, unary_of, chain, array_comparison, ternary, range_of, subquery}
use Rattle.aql_rewrite.specs.OverChildren.{over_children}

abbrev pub own_size : ExprTree → ℕ
own_size (literal v) = 1
own_size e = 2

abbrev pub own_variables : ExprTree → List Ident
own_variables (variable x) = x ∷ []
own_variables e = []

pub record KeepsOwn (e f : ExprTree) : Type 0 where
  pub same_size : own_size f ≡ own_size e
  pub same_variables : own_variables f ≡ own_variables e

pub own_kept : (e : ExprTree) (ps : List ExprTree) → KeepsOwn e (over_children e ps)
own_kept (literal v) ps = record { same_size = refl; same_variables = refl }
own_kept (variable x) ps = record { same_size = refl; same_variables = refl }
own_kept current ps = record { same_size = refl; same_variables = refl }
own_kept (array_literal es) ps = record { same_size = refl; same_variables = refl }
own_kept (object_literal ms) ps = record { same_size = refl; same_variables = refl }
own_kept (access e ss) ps = record { same_size = refl; same_variables = refl }
own_kept (function_call name es) ps = record { same_size = refl; same_variables = refl }
own_kept (unary_of op e) ps = record { same_size = refl; same_variables = refl }
own_kept (chain e ls) ps = record { same_size = refl; same_variables = refl }
own_kept (array_comparison a kind op b) ps = record { same_size = refl; same_variables = refl }
own_kept (ternary test middle other) ps = record { same_size = refl; same_variables = refl }
own_kept (range_of a b) ps = record { same_size = refl; same_variables = refl }
own_kept (subquery q) ps = record { same_size = refl; same_variables = refl }
