-- What collect-in-cluster makes of a part, the part may give.
use Rattle.std.proofs.Common.{◌≡◌, ◌∙◌, ℕ, ◌+◌, ◌≤◌, List, [], ◌∷◌, ◌++◌, length, Bool, true, false, true≢false, ⊎_elim, refl, ap, sym, subst, arith}
use Rattle.std.specs.Prelude.{not, ◌&&◌, Option}
use Rattle.std.specs.List.{list_any, AllByRecursion, AllZip}
use Rattle.std.proofs.lemmas.Bool.{cases_lt}
use Rattle.std.proofs.lemmas.List.{append-nil}
use Rattle.aql_value.specs.laws.Alls.{all_parts}
use Rattle.aql_tree.specs.declared.syntax.Ident.{Ident}
use Rattle.aql_tree.specs.declared.syntax.Ident.TheVariants.{Num}
use Rattle.aql_tree.specs.Tree.{ExprTrees, no_exprs, expr_then, AggregateTrees, no_into}
use Rattle.aql_meaning.specs.declared.grouping.Stage.TheVariants.{Partial}
use Rattle.aql_meaning.specs.AtRows.{keys_of, row_before}
use Rattle.aql_meaning.specs.Numbered.{IsNumber}
use Rattle.aql_meaning.specs.Row.{Row, same_ident}
use Rattle.aql_meaning.specs.Stages.{Grouped}
use Rattle.aql_meaning.specs.Uses.{Uses}
use Rattle.aql_meaning.specs.Visible.{aggregate_vars}
use Rattle.aql_meaning.specs.laws.SomeOrder.{keyed_order}
use Rattle.aql_plan.specs.declared.facts.Facts.{Facts}
use Rattle.aql_plan.specs.Fits.{exprs_in}
use Rattle.aql_plan.specs.Plan.{Plan, Over, Collect, Remote, Gather}
use Rattle.aql_plan.specs.Refines.{dataset}
use Rattle.aql_plan.specs.Runs.{Dataset, Inside, Runs, targets, sent_to}
use Rattle.aql_plan.specs.Variables.{are_distinct as plan_distinct, vars_set, count}
use Rattle.aql_plan.specs.laws.SomeMerge.{some_merged}
use Rattle.aql_plan_laws.specs.laws.Agreement.{rows_agree}
use Rattle.aql_plan_laws.specs.laws.Among.{count_append, counted_has, once_distinct}
use Rattle.aql_plan_laws.specs.laws.RenamedPlaces.{number_is_no_result}
use Rattle.aql_rewrite.specs.declared.swap.Rename.{Rename}
use Rattle.aql_rewrite.specs.Placed.{Placed}
use Rattle.aql_rewrite.specs.Swaps.{Replaced}
use Rattle.aql_aggregate.specs.Theorems.{are_distinct, HandsOn}
use Rattle.aql_aggregate.proofs.Stages.{two_stages}
use Rattle.aql_rules_cluster.specs.CollectInCluster.{CollectsInside, collected}
use Rattle.aql_rules_cluster.specs.laws.CollectsStayWell.{whole_outside}
use Rattle.aql_rules_cluster.specs.laws.Merging.{merged_permutes}

-- ---- the variables that a Collect sets

-- as many values of the criteria as criteria
as_many : (es : ExprTrees) (row : Row) → length (keys_of es row) ≡ exprs_in es
as_many no_exprs row = refl
as_many (expr_then e es) row = let k : length (keys_of es row) ≡ exprs_in es = as_many es row in omega (arith, k)

same_distinct : (xs : List Ident) → are_distinct xs ≡ plan_distinct xs
same_distinct [] = refl
same_distinct (x ∷ xs) = ap (λ b. not (list_any (same_ident x) xs) && b) (same_distinct xs)

-- none is there twice, since each is set once in the plan
set_apart : (zs others : List Ident) (rest : Ident → ℕ)
    → ((z : Ident) → same_ident z (Num 0) ≡ false → count z (zs ++ others) + rest z ≤ 1)
    → AllByRecursion IsNumber (zs ++ others) → are_distinct zs ≡ true
set_apart zs others rest once numbers = same_distinct zs ∙ once_distinct zs each
  where
    each : (z : Ident) → count z zs ≤ 1
    each z = by (same_ident z (Num 0)) refl
      where
        by : (b : Bool) → same_ident z (Num 0) ≡ b → count z zs ≤ 1
        by false e = omega (arith, once z e, count_append z zs others)
        by true e = ⊎_elim
            (λ none. omega (arith, none))
            (λ there. absurd (true≢false (sym e ∙ number_is_no_result z
            (counted_has IsNumber z zs there (all_parts IsNumber zs others numbers).0))))
            (cases_lt (count z zs) 1)

-- ---- what the shards give

module _ (w : Dataset) (f : Plan) (start : Row) (taken : List Row) (xs : List Ident) (es : ExprTrees)
    (gs : AggregateTrees) where
  abbrev GivesGroups : ℕ → List Row → Type 0
  GivesGroups shard rows = Runs (Over (Over f (Collect xs es gs no_into Partial)) Remote) w
      (Inside shard (sent_to f w shard taken)) start rows

  abbrev GivesRows : ℕ → List Row → Type 0
  GivesRows shard rows = Runs (Over f Remote) w (Inside shard (sent_to f w shard taken)) start rows

  -- the rows of each shard, and what the first stage makes of them
  record Shards (shards : List ℕ) (lists : List (List Row)) : Type 0 where
    pub parts : List (List Row)
    pub given : AllZip GivesRows shards parts
    pub handed : AllZip (HandsOn xs es gs) parts lists

  shards_of : (shards : List ℕ) (lists : List (List Row)) → AllZip GivesGroups shards lists
      → Shards shards lists
  shards_of [] [] h = record { parts = []; given = tt; handed = tt }
  shards_of [] (l ∷ lists) h = absurd h
  shards_of (shard ∷ shards) [] h = absurd h
  shards_of (shard ∷ shards) (l ∷ lists) h =
      let more = shards_of shards lists h.1 in
      let rows = h.0.1.0 in record {
        parts = rows ∷ more.parts;
        given = ((rows, h.0.1.1, refl), more.given);
        handed = (
          (start, subst (Grouped xs es gs no_into Partial start rows) (sym h.0.2) h.0.1.2),
          more.handed,
        );
      }

-- ---- the rule

pub collects_refine : (facts : Facts) (outer away : List Ident) (us : Uses) (p q : Plan) (r : Option Rename)
    → Placed true false facts outer away us p → CollectsInside facts us p q r
    → Replaced true facts us p q r
collects_refine facts outer away _ _ _ _ placed (collected {us = us} {fragment = f} {directions = directions}
    {keys = keys} {xs = xs} {es = es} {gs = gs} servers) = λ db meets start out g.
    let w = dataset facts db in
    let inner = g.1 in
    let k = shards_of w f start inner.0 xs es gs (targets f w) inner.1 inner.3 in
    let mid = some_merged (row_before directions keys) (keyed_order directions (keys_of keys)) k.parts in
    let set = xs ++ (aggregate_vars gs ++ []) in
    let apart = set_apart set (vars_set f) (λ z. count z away + count z outer) placed.once placed.numbers in
    let shaped = placed.shaped in
    let stands = whole_outside facts (Over (Over f Remote) (Gather directions keys)) xs es gs shaped.0
    shaped.1 shaped.2 in
    let law = two_stages xs es gs
    (subst (λ (ys : List Ident). are_distinct (xs ++ ys) ≡ true) (append-nil (aggregate_vars gs)) apart)
    (λ row. as_many es row ∙ stands.1.3) k.parts inner.1 k.handed mid.0
    (merged_permutes (row_before directions keys) mid.0 k.parts mid.1) g.0
    (merged_permutes (row_before [] no_exprs) g.0 inner.1 inner.4) start out in
    (out, (mid.0, (inner.0, k.parts, inner.2, k.given, mid.1), law.0 g.2), rows_agree us out)
