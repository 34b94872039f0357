-- The lists of a node over other expressions, as the program holds them.
use Rattle.std.specs.Prelude.{Bool, List, [], ◌∷◌, Option, Some, None}
use Rattle.aql_tree.specs.Tree.{ExprTree}
use Rattle.aql_tree.specs.View.{KeyPart, LetPart, AggregatePart, IntoPart}
use Rattle.aql_rewrite.specs.OverChildren.{first_or, after_first}
use Rattle.aql_rewrite.specs.ExprView.{option_over, after_option}

-- what is left of new expressions after one for each of a list
abbrev pub after_each : List ExprTree → List ExprTree → List ExprTree
after_each [] ps = ps
after_each (e ∷ es) ps = after_each es (after_first ps)

abbrev pub keys_over : List KeyPart → List ExprTree → List KeyPart
keys_over [] ps = []
keys_over (k ∷ ks) ps = (first_or k.0 ps, k.1) ∷ keys_over ks (after_first ps)

abbrev pub lets_over : List LetPart → List ExprTree → List LetPart
lets_over [] ps = []
lets_over (l ∷ ls) ps = (l.0, first_or l.1 ps) ∷ lets_over ls (after_first ps)

abbrev pub aggregates_over : List AggregatePart → List ExprTree → List AggregatePart
aggregates_over [] ps = []
aggregates_over (a ∷ rest) ps = (a.0, a.1, option_over a.2 ps) ∷ aggregates_over rest (after_option a.2 ps)

abbrev pub after_each_aggregate : List AggregatePart → List ExprTree → List ExprTree
after_each_aggregate [] ps = ps
after_each_aggregate (a ∷ rest) ps = after_each_aggregate rest (after_option a.2 ps)

abbrev pub into_over : Option IntoPart → List ExprTree → Option IntoPart
into_over None ps = None
into_over (Some i) ps = Some (i.0, option_over i.1 ps, i.2)
