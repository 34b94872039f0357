-- The items of a list move into the plan one after another; what stays in their places is not looked at.
use Rattle.std.proofs.Common.{◌≡◌, ◌∙◌, ℕ, Bool, ◌+◌, ◌<◌, ◌≤◌, List, [], ◌∷◌, length, get_or, drop, map, sym, ap, subst}
use Rattle.std.proofs.lemmas.List.{drop_all}
use Rattle.aql_tree.specs.declared.syntax.Link.{Link}
use Rattle.aql_tree.specs.declared.syntax.Clause.{Clause}
use Rattle.aql_tree.specs.View.{tree, links, LinkPart, link_part, clauses, clause_tree}
use Rattle.aql_meaning.specs.Numbered.{ClauseNumbered, ClausesNumbered}
use Rattle.aql_scope.specs.laws.Turns.{Unvisited, from_here, same_item}
use Rattle.aql_tree.specs.laws.Parts.{link_is}
use Rattle.aql_plan.specs.declared.facts.Facts.{Facts}
use Rattle.aql_plan.specs.Plan.{Plan, Over, Filter}
use Rattle.aql_plan.specs.FirstPlan.{right_sides, filters, after_clause, after_clauses}

-- the item at hand, and the rest
pub at_hand : {X : Type 0} (all : List X) (i : ℕ) (items start : List X) (d : X) → Unvisited all i items
    → start ≡ all → i < length start → d ≡ get_or items i d → drop i all ≡ get_or items i d ∷ drop (i + 1) all
at_hand all i items start d ahead began lt is =
    from_here all i (get_or items i d) (subst (λ xs. i < length xs) began lt) (same_item all i items ahead d is)

-- none is left
pub none_left : {X : Type 0} (all : List X) (i : ℕ) (start : List X) → start ≡ all → length start ≤ i
    → drop i all ≡ []
none_left all i start began past = drop_all i all (subst (λ xs. length xs ≤ i) began past)

-- one more side of a chain is a Filter
pub side_moved : (all : List Link) (i : ℕ) (x : Link) (plan then whole : Plan)
    → drop i all ≡ x ∷ drop (i + 1) all
    → filters plan (right_sides (links (map link_part (drop i all)))) ≡ whole
    → then ≡ Over plan (Filter (tree x.right))
    → filters then (right_sides (links (map link_part (drop (i + 1) all)))) ≡ whole
side_moved all i x plan then whole here h is =
    let rest = map link_part (drop (i + 1) all) in
    ap (λ (p : Plan). filters p (right_sides (links rest))) is
    ∙ ap (λ (l : LinkPart). filters plan (right_sides (links (l ∷ rest)))) (sym (link_is x))
    ∙ ap (λ (ls : List Link). filters plan (right_sides (links (map link_part ls)))) (sym here)
    ∙ h

pub sides_moved : (all : List Link) (i : ℕ) (plan whole : Plan) → drop i all ≡ []
    → filters plan (right_sides (links (map link_part (drop i all)))) ≡ whole → plan ≡ whole
sides_moved all i plan whole none h =
    ap (λ (ls : List Link). filters plan (right_sides (links (map link_part ls)))) (sym none) ∙ h

module _ (facts : Facts) (split : Bool) where
  -- one more clause has its nodes
  pub clause_moved : (all : List Clause) (i : ℕ) (x : Clause) (plan then whole : Plan)
      → drop i all ≡ x ∷ drop (i + 1) all
      → after_clauses facts split plan (clauses (map clause_tree (drop i all))) ≡ whole
      → then ≡ after_clause facts split plan (clause_tree x)
      → after_clauses facts split then (clauses (map clause_tree (drop (i + 1) all))) ≡ whole
  clause_moved all i x plan then whole here h is =
      ap (λ (p : Plan). after_clauses facts split p (clauses (map clause_tree (drop (i + 1) all)))) is
      ∙ ap (λ (cs : List Clause). after_clauses facts split plan (clauses (map clause_tree cs))) (sym here)
      ∙ h

  pub clauses_moved : (all : List Clause) (i : ℕ) (plan whole : Plan) → drop i all ≡ []
      → after_clauses facts split plan (clauses (map clause_tree (drop i all))) ≡ whole → plan ≡ whole
  clauses_moved all i plan whole none h =
      ap (λ (cs : List Clause). after_clauses facts split plan (clauses (map clause_tree cs))) (sym none) ∙ h

-- the clause at hand has numbers, and the rest
pub numbers_split : (all : List Clause) (i : ℕ) (x : Clause) → drop i all ≡ x ∷ drop (i + 1) all
    → ClausesNumbered (clauses (map clause_tree (drop i all)))
    → ClauseNumbered (clause_tree x) × ClausesNumbered (clauses (map clause_tree (drop (i + 1) all)))
numbers_split all i x here h =
    subst (λ (cs : List Clause). ClausesNumbered (clauses (map clause_tree cs))) here h
