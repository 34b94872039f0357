-- What an access uses, by the attribute that it looks at; and what is appended piece by piece.
use Rattle.std.proofs.Common.{◌≡◌, ◌∙◌, List, ◌∷◌, ◌++◌, refl, ap, append_assoc}
use Rattle.std.specs.Prelude.{Some, None}
use Rattle.aql_tree.specs.Tree.{ExprTree, variable, access, StepTrees, name_then}
use Rattle.aql_meaning.specs.Uses.{Use, uses, step_uses}
use Rattle.aql_plan.specs.Used.{attribute_used}

pub used_whole : (e : ExprTree) (ss : StepTrees) → attribute_used e ss ≡ None
    → uses (access e ss) ≡ uses e ++ step_uses ss
used_whole (variable x) (name_then name ss) h = cc
used_whole (variable x) ss h = refl
used_whole e ss h = refl

pub used_part : (e : ExprTree) (ss : StepTrees) (u : Use) → attribute_used e ss ≡ Some u
    → uses (access e ss) ≡ u ∷ step_uses ss
used_part (variable x) (name_then name ss) u h = cc
used_part (variable x) ss u h = cc
used_part e ss u h = cc

pub three_appended : (a b c d x y z : List Use) → b ≡ a ++ x → c ≡ b ++ y → d ≡ c ++ z
    → d ≡ a ++ (x ++ (y ++ z))
three_appended a b c d x y z e f g =
    g ∙ ap (λ (l : List Use). l ++ z) (f ∙ ap (λ (l : List Use). l ++ y) e)
    ∙ append_assoc (a ++ x) y z ∙ append_assoc a x (y ++ z)
