-- The keys of a Gather that merges in the order of an index.
use Rattle.std.proofs.Common.{◌≡◌, ◌∙◌, ℕ, List, [], ◌∷◌, map, Bool, refl, ap}
use Rattle.aql_tree.specs.declared.syntax.Ident.{Ident}
use Rattle.aql_tree.specs.declared.syntax.Key.{Key}
use Rattle.aql_tree.specs.Tree.{access, variable, name_then, no_steps, expr_then}
use Rattle.aql_tree.specs.View.{trees, key_part, KeyPart}
use Rattle.aql_plan.specs.Fits.{attribute_keys}
use Rattle.aql_plan.specs.View.{directions, key_trees}
use Rattle.aql_rules_cluster.specs.inner.Gathers.{key_by}

module _ (x : Ident) (descending : Bool) where
  each_direction : (names : List (List ℕ))
      → map (λ (k : KeyPart). k.1) (map (key_by x descending) names) ≡ map (λ name. descending) names
  each_direction [] = refl
  each_direction (name ∷ names) = ap (λ ds. descending ∷ ds) (each_direction names)

  each_attribute : (names : List (List ℕ))
      → trees (map (λ (k : KeyPart). k.0) (map (key_by x descending) names)) ≡ attribute_keys x names
  each_attribute [] = refl
  each_attribute (name ∷ names) =
      ap (expr_then (access (variable x) (name_then name no_steps))) (each_attribute names)

  pub directions_are : (keys : List Key) (names : List (List ℕ))
      → map key_part keys ≡ map (key_by x descending) names
      → directions keys ≡ map (λ name. descending) names
  directions_are keys names e = ap (map (λ (k : KeyPart). k.1)) e ∙ each_direction names

  pub attributes_are : (keys : List Key) (names : List (List ℕ))
      → map key_part keys ≡ map (key_by x descending) names → key_trees keys ≡ attribute_keys x names
  attributes_are keys names e =
      ap (λ (ks : List KeyPart). trees (map (λ (k : KeyPart). k.0) ks)) e ∙ each_attribute names
