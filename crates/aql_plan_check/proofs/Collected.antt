-- A Collect over states.
use Rattle.std.proofs.Common.{◌≡◌, sym, subst, List, map, Bool, false, true≢false}
use Rattle.std.specs.Prelude.{Option, Some, None, MatchOption, IsTrue, ◌↔◌}
use Rattle.aql_func.specs.Aggregates.{Aggregate, count, sum, min, max, sorted_unique, count_distinct, aggregate_named}
use Rattle.aql_tree.specs.Tree.{MaybeExpr, no_expr, one_expr, AggregateTrees, no_aggregates, aggregate_then}
use Rattle.aql_tree.specs.View.{trees, let_part, aggregate_part, aggregates as aggregate_trees}
use Rattle.aql_meaning.specs.Plain.{AllPlain, MaybePlain}
use Rattle.aql_meaning.specs.Lifted.{AggregatesPlain}
use Rattle.aql_plan.specs.declared.facts.Facts.{Facts}
use Rattle.aql_plan.specs.Fits.{AllKnown, HasArgument}
use Rattle.aql_plan.specs.Plan.{Node}
use Rattle.aql_plan.specs.Shapes.{Shape}
use Rattle.aql_plan_check.specs.inner.Standing.{MayStand, next}
use Rattle.aql_plan_check.specs.inner.Sameness.{LetsSame, AggregatesSame}
use Rattle.aql_plan_check.specs.declared.shapes.States.{States}
use Rattle.aql_plan_check.specs.declared.shapes.Shape.{Shape as Code}
use Rattle.aql_plan_check.specs.inner.View.{all_states_of, shape_of}

-- what is told of a node over a part of this shape
abbrev pub Stood : Facts → Option Code → Node → Shape → Type 0
Stood facts r n t =
    MatchOption r (MayStand n t → ⊥) (λ s. MayStand n t × (shape_of s ≡ next facts n t))

pub collected : (facts : Facts) (r : Option Code) (n : Node) (t : Shape)
    → MatchOption r (MayStand n t → ⊥) (λ s. MayStand n t × ((facts : Facts) → shape_of s ≡ next facts n t))
    → Stood facts r n t
collected facts None n t m = m
collected facts (Some s) n t m = (m.0, m.1 facts)

-- aggregates that are known hold no subquery
has_plain : (a : Aggregate) (e : MaybeExpr) → HasArgument a e → MaybePlain e
has_plain count e h = h
has_plain sum no_expr h = tt
has_plain sum (one_expr e) h = h
has_plain min no_expr h = tt
has_plain min (one_expr e) h = h
has_plain max no_expr h = tt
has_plain max (one_expr e) h = h
has_plain sorted_unique no_expr h = tt
has_plain sorted_unique (one_expr e) h = h
has_plain count_distinct no_expr h = tt
has_plain count_distinct (one_expr e) h = h

known_plain : (gs : AggregateTrees) → AllKnown gs → AggregatesPlain gs
known_plain no_aggregates h = tt
known_plain (aggregate_then x name e rest) h = (by (aggregate_named name) h.0, known_plain rest h.1)
  where
    by : (o : Option Aggregate) → MatchOption o ⊥ (λ a. HasArgument a e) → MaybePlain e
    by None k = absurd k
    by (Some a) k = has_plain a e k

-- whether states are of the same
abbrev pub AreSame : States → States → Type 0
AreSame states all = LetsSame (map let_part states.groups.now) (map let_part all.groups.now)
    × AggregatesSame (map aggregate_part states.aggregates.now) (map aggregate_part all.aggregates.now)

pub are_states : (states all : States) → AreSame states all → all_states_of all ≡ all_states_of states
are_states states all h = let a = h.0.1 in let b = h.0.2 in let d = h.1.1 in cc

pub no_states : (states all : States) → AllPlain (trees (map (λ l. l.1) (map let_part states.groups.now)))
    → AllKnown (aggregate_trees (map aggregate_part states.aggregates.now)) → (AreSame states all → ⊥)
    → all_states_of all ≡ all_states_of states → ⊥
no_states states all plain known different e =
    different ((plain, cc, cc), (known_plain (aggregate_trees (map aggregate_part states.aggregates.now)) known, cc))
