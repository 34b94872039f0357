use Rattle.std.proofs.Common.{◌≡◌, ◌∙◌, ap, sym, refl, ◌+◌, List, [], ◌∷◌, length, map, add-one}
use Rattle.std.proofs.lemmas.List.{length-map}
use Rattle.aql_tree.specs.Tree.{ExprTree}
use Rattle.aql_tree.specs.View.{tree, trees}
use Rattle.aql_plan.specs.Fits.{exprs_in}
use Rattle.aql_plan_check.proofs.fits.count.Goals as goal

counted : (es : List ExprTree) → length es ≡ exprs_in (trees es)
counted [] = refl
counted (e ∷ es) = sym (add-one (length es)) ∙ ap (λ n. n + 1) (counted es)

pub returns : goal.returns
returns c = sym (length-map c.args.exprs.now tree) ∙ counted (map tree c.args.exprs.now)
