-- Lists of two nodes that are the same and hold no subquery, and one aggregate: for the contracts of private
-- functions.
use Rattle.std.specs.Prelude.{ℕ, ◌≡◌, List, map, Bool, MatchOption}
use Rattle.aql_tree.specs.declared.syntax.Key.{Key}
use Rattle.aql_tree.specs.declared.syntax.Ident.TheVariants.{Num}
use Rattle.aql_tree.specs.View.{LetPart, KeyPart, AggregatePart, trees, maybe, aggregates as aggregate_trees}
use Rattle.aql_meaning.specs.Plain.{AllPlain}
use Rattle.aql_meaning.specs.Lifted.{AggregatesPlain}
use Rattle.aql_func.specs.Aggregates.{aggregate_named}
use Rattle.aql_plan.specs.Fits.{HasArgument, attribute_keys}
use Rattle.aql_plan.specs.View.{directions, key_trees}

abbrev pub LetsSame : List LetPart → List LetPart → Type 0
LetsSame ks ls = AllPlain (trees (map (λ l. l.1) ks)) × (map (λ l. l.0) ks ≡ map (λ l. l.0) ls)
    × (trees (map (λ l. l.1) ks) ≡ trees (map (λ l. l.1) ls))

abbrev pub KeysSame : List KeyPart → List KeyPart → Type 0
KeysSame ks ls = AllPlain (trees (map (λ k. k.0) ks)) × (map (λ k. k.1) ks ≡ map (λ k. k.1) ls)
    × (trees (map (λ k. k.0) ks) ≡ trees (map (λ k. k.0) ls))

abbrev pub AggregatesSame : List AggregatePart → List AggregatePart → Type 0
AggregatesSame gs hs = AggregatesPlain (aggregate_trees gs) × (aggregate_trees gs ≡ aggregate_trees hs)

-- the keys are these attributes of a variable, all in one direction
abbrev pub AreAttributes : List Key → ℕ → List (List ℕ) → Bool → Type 0
AreAttributes keys var names descending = (directions keys ≡ map (λ name. descending) names)
    × (key_trees keys ≡ attribute_keys (Num var) names)

-- an aggregate is known and has its argument
abbrev pub IsKnown : AggregatePart → Type 0
IsKnown a = MatchOption (aggregate_named a.1) ⊥ (λ kind. HasArgument kind (maybe a.2))
