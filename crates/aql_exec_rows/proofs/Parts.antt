-- The parts of the settings of a COLLECT, one after another.
use Rattle.std.proofs.Common.{◌≡◌, ℕ, zero, suc, ◌+◌, ◌<◌, List, [], ◌∷◌, ◌++◌, length, map, drop, get_or, true, Option, Some, None, option_map, refl, sym, ap, ◌∙◌, rules, append_assoc}
use Rattle.std.specs.Prelude.{MatchOption}
use Rattle.std.specs.List.{list_all, AllByRecursion}
use Rattle.std.proofs.lemmas.List.{drop_more, length-map}
use Rattle.aql_func.specs.Aggregates.{Aggregate, count, sum, min, max, sorted_unique, count_distinct, aggregate_named}
use Rattle.aql_tree.specs.declared.syntax.Ident.{Ident}
use Rattle.aql_tree.specs.declared.syntax.Ident.TheVariants.{Name, Num}
use Rattle.aql_tree.specs.declared.syntax.Let.{Let}
use Rattle.aql_tree.specs.declared.syntax.AggregateItem.{AggregateItem}
use Rattle.aql_tree.specs.declared.syntax.Into.{Into, the_lemmas as into_lemmas}
use Rattle.aql_tree.specs.Tree.{MaybeExpr, no_expr, one_expr, expr_then, aggregate_then}
use Rattle.aql_tree.specs.View.{tree, LetPart, AggregatePart, aggregate_part, into_part, maybe, aggregates}
use Rattle.aql_meaning.specs.declared.grouping.Stage.{Stage}
use Rattle.aql_meaning.specs.declared.grouping.Stage.TheVariants as stage
use Rattle.aql_meaning.specs.Row.{Row, value_at}
use Rattle.aql_meaning.specs.Plain.{MaybePlain}
use Rattle.aql_meaning.specs.Numbered.{IsNumber}
use Rattle.aql_meaning.specs.Stages.{arguments_at}
use Rattle.aql_meaning.specs.Visible.{aggregate_vars}
use Rattle.aql_plan.specs.Fits.{HasArgument}
use Rattle.aql_plan.specs.View.{maybe_tree}
use Rattle.aql_aggregate.specs.declared.staged.StagedKind.{StagedKind}
use Rattle.aql_aggregate.specs.Staged.{Staged, staged}
use Rattle.aql_exec_rows.specs.Settings.{is_number, criteria_vars, criteria_trees, aggregate_trees, in_stage, seen_by, AreKinds}
use Rattle.aql_tree.specs.laws.Parts.{let_is, aggregate_is}

-- the item at a place, with those after it
pub here : {X : Type 0} (xs : List X) (i : ℕ) (x : X) → x ≡ get_or xs i x → i < length xs
    → drop i xs ≡ x ∷ drop (i + 1) xs
here xs i x e l = drop_more xs i x l ∙ ap (λ y. y ∷ drop (i + 1) xs) (sym e)

pub into_is : (x : Into) → into_part x ≡ (x.var, option_map tree x.what, x.keep)
into_is x = search (rules, into_lemmas)

pub criteria_here : (ls : List Let) (i : ℕ) (x : Let) → x ≡ get_or ls i x → i < length ls
    → criteria_trees (drop i ls) ≡ expr_then (tree x.expr) (criteria_trees (drop (i + 1) ls))
criteria_here ls i x e l = ap criteria_trees (here ls i x e l)
    ∙ ap (λ (p : LetPart). expr_then p.1 (criteria_trees (drop (i + 1) ls))) (let_is x)

pub vars_here : (ls : List Let) (i : ℕ) (x : Let) → x ≡ get_or ls i x → i < length ls
    → criteria_vars (drop i ls) ≡ x.var ∷ criteria_vars (drop (i + 1) ls)
vars_here ls i x e l = ap criteria_vars (here ls i x e l)
    ∙ ap (λ (p : LetPart). p.0 ∷ criteria_vars (drop (i + 1) ls)) (let_is x)

pub aggregates_here : (gs : List AggregateItem) (i : ℕ) (x : AggregateItem) → x ≡ get_or gs i x → i < length gs
    → aggregate_trees (drop i gs)
    ≡ aggregate_then x.var x.name (maybe_tree x.arg) (aggregate_trees (drop (i + 1) gs))
aggregates_here gs i x e l = ap aggregate_trees (here gs i x e l)
    ∙ ap (λ (p : AggregatePart). aggregate_then p.0 p.1 (maybe p.2) (aggregate_trees (drop (i + 1) gs)))
    (aggregate_is x)

abbrev pub named : Stage → List AggregateItem → List (Option Staged)
named s gs = map (λ (g : AggregatePart). in_stage s (aggregate_named g.1)) (map aggregate_part gs)

pub named_here : (s : Stage) (gs : List AggregateItem) (i : ℕ) (x : AggregateItem) → x ≡ get_or gs i x
    → i < length gs → named s (drop i gs) ≡ in_stage s (aggregate_named x.name) ∷ named s (drop (i + 1) gs)
named_here s gs i x e l = ap (named s) (here gs i x e l)
    ∙ ap (λ (p : AggregatePart). in_stage s (aggregate_named p.1) ∷ named s (drop (i + 1) gs)) (aggregate_is x)

-- one more at the end of a list, whose others come after it
pub one_more_of : {X : Type 0} (done done' left left' all : List X) (x : X) → left ≡ x ∷ left'
    → done' ≡ done ++ x ∷ [] → done ++ left ≡ all → done' ++ left' ≡ all
one_more_of done done' left left' all x l d h =
    ap (λ z. z ++ left') d ∙ append_assoc done (x ∷ []) left' ∙ ap (λ z. done ++ z) (sym l) ∙ h

-- an aggregate that has its argument has no subquery
pub has_plain : (o : Option Aggregate) (e : MaybeExpr) → MatchOption o ⊥ (λ a. HasArgument a e) → MaybePlain e
has_plain None e h = absurd h
has_plain (Some count) e h = h
has_plain (Some sum) no_expr h = absurd h
has_plain (Some sum) (one_expr e) h = h
has_plain (Some min) no_expr h = absurd h
has_plain (Some min) (one_expr e) h = h
has_plain (Some max) no_expr h = absurd h
has_plain (Some max) (one_expr e) h = h
has_plain (Some sorted_unique) no_expr h = absurd h
has_plain (Some sorted_unique) (one_expr e) h = h
has_plain (Some count_distinct) no_expr h = absurd h
has_plain (Some count_distinct) (one_expr e) h = h

-- each aggregate has an argument, and a kind
as_many_arguments : (gs : List AggregatePart) (row : Row)
    → length (arguments_at (aggregates gs) row) ≡ length gs
as_many_arguments [] row = refl
as_many_arguments (g ∷ gs) row = ap suc (as_many_arguments gs row)

as_many_found : (gs : List AggregatePart) (row : Row)
    → length (map (value_at row) (aggregate_vars (aggregates gs))) ≡ length gs
as_many_found [] row = refl
as_many_found (g ∷ gs) row = ap suc (as_many_found gs row)

pub as_many_kinds : (s : Stage) (ls : List Let) (gs : List AggregateItem) (i : Option Into)
    (kinds : List StagedKind) (row : Row) → AreKinds s gs kinds
    → length (seen_by s ls gs i row).arguments ≡ length kinds
as_many_kinds s ls gs i kinds row e = by s
    ∙ sym (length-map (map aggregate_part gs) (λ (g : AggregatePart). in_stage s (aggregate_named g.1)))
    ∙ sym (ap length e) ∙ length-map kinds (λ k. Some (staged k))
  where
    by : (s : Stage) → length (seen_by s ls gs i row).arguments ≡ length (map aggregate_part gs)
    by stage.Whole = as_many_arguments (map aggregate_part gs) row
    by stage.Partial = as_many_arguments (map aggregate_part gs) row
    by stage.Final = as_many_found (map aggregate_part gs) row

-- numbers from 1 on are numbers
pub numbers_all : (xs : List Ident) → AllByRecursion IsNumber xs → list_all is_number xs ≡ true
numbers_all [] h = refl
numbers_all (Name name ∷ xs) h = absurd h.0
numbers_all (Num zero ∷ xs) h = absurd h.0
numbers_all (Num (suc n) ∷ xs) h = numbers_all xs h.1
