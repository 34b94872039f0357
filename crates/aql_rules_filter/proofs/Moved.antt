-- The items of a condition, moved out of it one after another.
use Rattle.std.proofs.Common.{◌≡◌, ◌∙◌, ℕ, ◌+◌, ◌<◌, ◌≤◌, ◌≢◌, List, [], ◌∷◌, ◌++◌, length, get_or, set, take, map, refl, ap, ap₂, sym, append_assoc, arith}
use Rattle.std.proofs.lemmas.List.{map_push, map_more, get_or-set_other, length-set}
use Rattle.aql_tree.specs.declared.syntax.Link.{Link}
use Rattle.aql_tree.specs.View.{links, link_part, LinkPart}
use Rattle.aql_plan.specs.FirstPlan.{right_sides}
use Rattle.aql_rules_filter.specs.Readers.{and_link}

-- the right side of a link, as a link of an `&&` chain
abbrev pub anded : Link → LinkPart
anded x = and_link (link_part x).1

pub sides_anded : (xs : List Link) → map anded xs ≡ map and_link (right_sides (links (map link_part xs)))
sides_anded [] = refl
sides_anded (x ∷ xs) = ap (λ (ls : List LinkPart). anded x ∷ ls) (sides_anded xs)

-- the links from i on are those of the list `all`
abbrev pub Unmoved : List Link → ℕ → List Link → Type 0
Unmoved all i xs = (length xs ≡ length all) × ((k : ℕ) (d : Link) → i ≤ k → get_or xs k d ≡ get_or all k d)

module _ (all : List Link) (i : ℕ) (xs : List Link) (ahead : Unmoved all i xs) where
  pub one_further : (y : Link) → Unmoved all (i + 1) (set xs i y)
  one_further y = (
    length-set xs i y ∙ ahead.0,
    λ k d h. let other : k ≢ i = omega arith in get_or-set_other xs i k y d other ∙ ahead.1 k d (omega arith),
  )

  pub one_moved : (start to new : List Link) (d l : Link) → i < length all
      → map link_part to ≡ map link_part start ++ map anded (take i all)
      → link_part l ≡ anded (get_or xs i d) → new ≡ to ++ l ∷ []
      → map link_part new ≡ map link_part start ++ map anded (take (i + 1) all)
  one_moved start to new d l h before e more =
      ap (map link_part) more ∙ map_push link_part to l
      ∙ ap₂ (λ (ls : List LinkPart) m. ls ++ m ∷ []) before (e ∙ ap anded (ahead.1 i d (omega arith)))
      ∙ append_assoc (map link_part start) (map anded (take i all)) (anded (get_or all i d) ∷ [])
      ∙ ap (λ ls. map link_part start ++ ls) (sym (map_more anded all i d h))
