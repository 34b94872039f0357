-- A relation of rows under which an expression has at one row the value that another expression has at the
-- other row, and which clauses and nodes carry on from their input to their rows.
use Rattle.std.proofs.Common.{◌≡◌, ◌∙◌, List, [], ◌∷◌, ◌++◌, map, Bool, true, false, refl, ap, ap₂, subst}
use Rattle.std.specs.Prelude.{Option, Some, None, option_map, option_to_list}
use Rattle.std.specs.List.{AllZip, AllByRecursion}
use Rattle.aql_value.specs.Datum.{Datum, null, boolean}
use Rattle.aql_value.specs.Truth.{truth}
use Rattle.aql_tree.specs.declared.syntax.Ident.{Ident}
use Rattle.aql_tree.specs.Tree.{ExprTree, ExprTrees, no_exprs, expr_then, MaybeExpr, no_expr, one_expr, AggregateTrees, no_aggregates, aggregate_then, IntoTree, no_into, into}
use Rattle.aql_meaning.specs.Row.{Row, empty_row, bind, bind_maybe, bind_all, value_at}
use Rattle.aql_meaning.specs.Value.{value, value_or}
use Rattle.aql_meaning.specs.Groups.{GroupedRow}
use Rattle.aql_meaning.specs.Visible.{aggregate_vars}
use Rattle.aql_meaning.specs.Uses.{Whole, Uses, uses, all_uses, maybe_uses, aggregate_uses, into_uses}
use Rattle.aql_meaning.specs.declared.grouping.Stage.{Stage}
use Rattle.aql_meaning.specs.declared.grouping.Stage.TheVariants as stage
use Rattle.aql_meaning.specs.Documents.{End, Last, no_last, one_of, between, last_map, end_map}
use Rattle.aql_meaning.specs.Stages.{arguments_at, taken_at, grouped_row_at}
use Rattle.aql_plan.specs.Plan.{Collect}
use Rattle.aql_meaning.specs.AtRows.{value_of, values_of, keys_of, passes, stops}
use Rattle.aql_plan.specs.Needs.{end_uses, last_uses, as_wholes, own_uses}
use Rattle.aql_plan_laws.specs.laws.Lists.{map_equal}
use Rattle.aql_plan.specs.Exprs.{map_exprs, map_maybe, map_aggregates, map_into}
use Rattle.aql_plan_laws.specs.laws.Mapped.{vars_kept}

-- f is applied to the expressions at the first row; the variables that are set are free
pub record Carries (f : ExprTree → ExprTree) (Free : Ident → Type 0) (S : Uses → Row → Row
    → Type 0) : Type 0 where
  pub parts : (us vs : Uses) (r s : Row) → S (us ++ vs) r s → S us r s × S vs r s
  pub join : (us vs : Uses) (r s : Row) → S us r s → S vs r s → S (us ++ vs) r s
  pub binds : (us : Uses) (x : Ident) (r s : Row) (v : Datum) → Free x → S us r s
      → S us (bind x r v) (bind x s v)
  pub gives : (e : ExprTree) (r s : Row) → S (uses e) r s → value (f e) null r ≡ value e null s
  pub whole : (x : Ident) (r s : Row) → Free x → S (Whole x ∷ []) r s → value_at r x ≡ value_at s x
  pub empty : (us : Uses) → S us empty_row empty_row

module _ (f : ExprTree → ExprTree) (Free : Ident → Type 0) (S : Uses → Row → Row → Type 0)
    (carry : Carries f Free S) where
  -- ---- values

  pub binds_to : (us : Uses) (x : Ident) (r s : Row) (v w : Datum) → Free x → v ≡ w → S us r s
      → S us (bind x r v) (bind x s w)
  binds_to us x r s v w free e h =
      subst (λ (u : Datum). S us (bind x r v) (bind x s u)) e (carry.binds us x r s v free h)

  pub binds_maybe : (us : Uses) (x : Option Ident) (r s : Row) (v : Datum)
      → AllByRecursion Free (option_to_list x) → S us r s → S us (bind_maybe x r v) (bind_maybe x s v)
  binds_maybe us None r s v free h = h
  binds_maybe us (Some x) r s v free h = carry.binds us x r s v free.0 h

  pub binds_all : (us : Uses) (xs : List Ident) (vs : List Datum) (r s : Row)
      → AllByRecursion Free xs → S us r s → S us (bind_all xs vs r) (bind_all xs vs s)
  binds_all us [] vs r s free h = h
  binds_all us (x ∷ xs) [] r s free h = binds_all us xs [] (bind x r null) (bind x s null) free.1
      (carry.binds us x r s null free.0 h)
  binds_all us (x ∷ xs) (v ∷ vs) r s free h = binds_all us xs vs (bind x r v) (bind x s v) free.1
      (carry.binds us x r s v free.0 h)

  pub keys_carried : (es : ExprTrees) (r s : Row) → S (all_uses es) r s
      → keys_of (map_exprs f es) r ≡ keys_of es s
  keys_carried no_exprs r s h = refl
  keys_carried (expr_then e es) r s h =
      let k = carry.parts (uses e) (all_uses es) r s h in
      ap₂ (λ v vs. v ∷ vs) (carry.gives e r s k.0) (keys_carried es r s k.1)

  pub or_carried : (e : MaybeExpr) (d : Datum) (r s : Row) → S (maybe_uses e) r s
      → value_or (map_maybe f e) null r d ≡ value_or e null s d
  or_carried no_expr d r s h = refl
  or_carried (one_expr e) d r s h = carry.gives e r s h

  pub passes_carried : (e : MaybeExpr) (r s : Row) → S (maybe_uses e) r s
      → passes (map_maybe f e) r ≡ passes e s
  passes_carried e r s h = ap truth (or_carried e (boolean true) r s h)

  pub stops_carried : (e : MaybeExpr) (r s : Row) → S (maybe_uses e) r s
      → stops (map_maybe f e) r ≡ stops e s
  stops_carried e r s h = ap truth (or_carried e (boolean false) r s h)

  abbrev ending : Datum → Bool → End Datum
  ending v inclusive = record { limit = v; inclusive = inclusive }

  end_carried : (e : Option (End ExprTree)) (r s : Row) → S (end_uses e) r s
      → option_map (end_map (λ g. value_of g r)) (option_map (end_map f) e)
      ≡ option_map (end_map (λ g. value_of g s)) e
  end_carried None r s h = refl
  end_carried (Some e) r s h =
      ap (λ v. Some (ending v e.inclusive)) (carry.gives e.limit r s h)

  pub last_carried : (last : Last ExprTree) (r s : Row) → S (last_uses last) r s
      → last_map (λ e. value_of e r) (last_map f last) ≡ last_map (λ e. value_of e s) last
  last_carried no_last r s h = refl
  last_carried (one_of e) r s h = ap one_of (carry.gives e r s h)
  last_carried (between low high) r s h =
      let k = carry.parts (end_uses low) (end_uses high) r s h in
      ap₂ between (end_carried low r s k.0) (end_carried high r s k.1)

  arguments_carried : (gs : AggregateTrees) (r s : Row) → S (aggregate_uses gs) r s
      → arguments_at (map_aggregates f gs) r ≡ arguments_at gs s
  arguments_carried no_aggregates r s h = refl
  arguments_carried (aggregate_then x name e rest) r s h =
      let k = carry.parts (maybe_uses e) (aggregate_uses rest) r s h in
      ap₂ (λ v vs. v ∷ vs) (or_carried e null r s k.0) (arguments_carried rest r s k.1)

  taken_carried : (i : IntoTree) (r s : Row) → S (into_uses i) r s → taken_at (map_into f i) r ≡ taken_at i s
  taken_carried no_into r s h = refl
  taken_carried (into x what keep) r s h = or_carried what null r s h

  wholes_carried : (xs : List Ident) (r s : Row) → AllByRecursion Free xs → S (as_wholes xs) r s
      → map (value_at r) xs ≡ map (value_at s) xs
  wholes_carried [] r s free h = refl
  wholes_carried (x ∷ xs) r s free h =
      let k = carry.parts (Whole x ∷ []) (as_wholes xs) r s h in
      ap₂ (λ v vs. v ∷ vs) (carry.whole x r s free.0 k.0) (wholes_carried xs r s free.1 k.1)

  -- ---- what a Collect sees of a row

  abbrev member : List Datum → List Datum → Datum → GroupedRow
  member criteria arguments taken = record { criteria = criteria; arguments = arguments; into_value = taken }

  evaluated : (xs : List Ident) (es : ExprTrees) (gs : AggregateTrees) (i : IntoTree) (r s : Row)
      → S (all_uses es ++ (aggregate_uses gs ++ into_uses i)) r s
      → member (keys_of (map_exprs f es) r) (arguments_at (map_aggregates f gs) r) (taken_at (map_into f i) r)
      ≡ member (keys_of es s) (arguments_at gs s) (taken_at i s)
  evaluated xs es gs i r s h =
      let k = carry.parts (all_uses es) (aggregate_uses gs ++ into_uses i) r s h in
      let l = carry.parts (aggregate_uses gs) (into_uses i) r s k.1 in
      ap₂ (λ c a. member c a (taken_at (map_into f i) r)) (keys_carried es r s k.0)
      (arguments_carried gs r s l.0)
      ∙ ap (member (keys_of es s) (arguments_at gs s)) (taken_carried i r s l.1)

  pub member_carried : (s : Stage) (xs : List Ident) (es : ExprTrees) (gs : AggregateTrees) (i : IntoTree)
      → AllByRecursion Free xs → AllByRecursion Free (aggregate_vars gs)
      → (q t : Row) → S (own_uses (Collect xs es gs i s)) q t
      → grouped_row_at s xs (map_exprs f es) (map_aggregates f gs) (map_into f i) q
      ≡ grouped_row_at s xs es gs i t
  member_carried stage.Final xs es gs i free named q t h =
      let k = carry.parts (as_wholes xs) (as_wholes (aggregate_vars gs)) q t h in
      ap₂ (λ c a. member c a null) (wholes_carried xs q t free k.0)
      (ap (map (value_at q)) (vars_kept f gs) ∙ wholes_carried (aggregate_vars gs) q t named k.1)
  member_carried stage.Whole xs es gs i free named q t h = evaluated xs es gs i q t h
  member_carried stage.Partial xs es gs i free named q t h = evaluated xs es gs i q t h

  -- the values of an expression at all rows
  pub values_carried : (e : ExprTree) (rows others : List Row) → AllZip (S (uses e)) rows others
      → values_of (f e) rows ≡ values_of e others
  values_carried e rows others h =
      map_equal (S (uses e)) (value_of (f e)) (value_of e) (carry.gives e) rows others h
