-- How many conditions a chain has.
use Rattle.std.proofs.Common.{◌≡◌, ◌∙◌, suc, List, [], ◌∷◌, length, map, true, cond, refl, ap}
use Rattle.aql_tree.specs.declared.syntax.Link.{Link}
use Rattle.aql_tree.specs.Tree.{ExprTree, chain}
use Rattle.aql_tree.specs.View.{LinkPart, links, link_part}
use Rattle.aql_tree.specs.laws.Parts.{link_is}
use Rattle.aql_plan.specs.FirstPlan.{all_and, right_sides, conjuncts}

sides_counted : (ls : List Link) → length (right_sides (links (map link_part ls))) ≡ length ls
sides_counted [] = refl
sides_counted (l ∷ ls) =
    ap (λ (p : LinkPart). length (right_sides (links (p ∷ map link_part ls)))) (link_is l)
    ∙ ap suc (sides_counted ls)

-- an `&&` chain has one condition more than links
pub conjuncts_counted : (e : ExprTree) (ls : List Link) → all_and (links (map link_part ls)) ≡ true
    → length (conjuncts (chain e (links (map link_part ls)))) ≡ suc (length ls)
conjuncts_counted e ls h =
    let sides = links (map link_part ls) in
    ap (λ b. length (cond b (e ∷ right_sides sides) (chain e sides ∷ []))) h ∙ ap suc (sides_counted ls)
