-- Renamings one after another: a variable goes by the first, what that gives by the next, and so on.
use Rattle.std.specs.Prelude.{List, [], ◌∷◌, Some}
use Rattle.aql_tree.specs.declared.syntax.Ident.TheVariants.{Num}
use Rattle.aql_tree.specs.Tree.{ExprTree, variable}
use Rattle.aql_meaning.specs.Substitution.{put}
use Rattle.aql_plan.specs.Plan.{Plan, Singleton, Over, Node}
use Rattle.aql_rewrite.specs.declared.swap.Rename.{Rename}
use Rattle.aql_rewrite.specs.Places.{renamed_by}

abbrev pub each : {A : Type 0} → (Rename → A → A) → List Rename → A → A
each f [] a = a
each f (r ∷ rs) a = each f rs (f r a)

abbrev pub renaming : Rename → ExprTree → ExprTree
renaming r = put (Num r.from) (variable (Num r.to))

abbrev pub put_each : List Rename → ExprTree → ExprTree
put_each rs e = each renaming rs e

abbrev pub renamed_by_each : List Rename → Node → Node
renamed_by_each rs n = each (λ r m. renamed_by (Some r) m) rs n

-- in the node at the top of a plan
abbrev pub top_each : List Rename → Plan → Plan
top_each rs Singleton = Singleton
top_each rs (Over b n) = Over b (renamed_by_each rs n)

-- the node at the top of a plan over another input
abbrev pub over_each : List Rename → Plan → Plan → Plan
over_each rs Singleton b = Singleton
over_each rs (Over c n) b = Over b (renamed_by_each rs n)
