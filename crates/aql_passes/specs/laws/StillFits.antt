-- A node fits over new expressions that stand for the old ones.
use Rattle.std.proofs.Common.{◌≡◌, ◌∙◌, ℕ, ◌+◌, List, [], ◌++◌, length, refl, ap, sym, subst}
use Rattle.std.specs.Prelude.{Bool, Option, Some, None, slice_get, MatchOption}
use Rattle.aql_func.specs.Aggregates.{Aggregate, count, aggregate_named}
use Rattle.aql_tree.specs.Tree.{ExprTree, ExprTrees, no_exprs, expr_then, MaybeExpr, no_expr, one_expr}
use Rattle.aql_tree.specs.Tree.{AggregateTrees, no_aggregates, aggregate_then, IntoTree, no_into, into}
use Rattle.aql_meaning.specs.Plain.{AllPlain, MaybePlain}
use Rattle.aql_meaning.specs.Lifted.{IntoPlain}
use Rattle.aql_meaning.specs.Documents.{End, Last, no_last, one_of, between}
use Rattle.aql_plan.specs.declared.facts.Facts.{Facts}
use Rattle.aql_plan.specs.declared.facts.IndexFact.{IndexFact}
use Rattle.aql_plan.specs.declared.facts.IndexKind.{IndexKind}
use Rattle.aql_plan.specs.declared.facts.IndexKind.TheVariants as kind
use Rattle.aql_plan.specs.Facts.{indexes_in}
use Rattle.aql_plan.specs.Fits.{EndPlain, LastPlain, HasArgument, AllKnown, exprs_in, BoundsFit, LookupFits, KindFits, IndexFits, Fits}
use Rattle.aql_plan.specs.Plan.{Reading, Node, EnumerateCollection, Index, EnumerateList, Traversal, Calculation, Subquery, Filter, Sort, Limit, Collect, Return, NoResults, Scatter, Distribute, Remote, Gather}
use Rattle.aql_plan.specs.Shapes.{IsNoFragment}
use Rattle.aql_rewrite.specs.Children.{list_children, maybe_children}
use Rattle.aql_rewrite.specs.OverChildren.{after_first, over_list, over_maybe, after_maybe}
use Rattle.aql_rewrite.specs.laws.Related.{rest_related, after_maybe_related}
use Rattle.aql_rewrite.specs.NodeExprs.{end_exprs, last_exprs, aggregate_exprs, into_exprs, node_exprs, after_list, over_end, after_end, over_last, after_last, over_aggregates, after_aggregates, over_into, over_reading, over_exprs}
use Rattle.aql_passes.specs.laws.Standing.{StandsFor, AllStand, first_stands, alone, regrouped}
use Rattle.aql_passes.specs.laws.ExprsLeft.{after_list_left, after_end_left, after_last_left, after_aggregates_left}

-- ---- no subquery comes in

plain_maybe : (e : MaybeExpr) (fs ps : List ExprTree) → AllStand (maybe_children e ++ fs) ps
    → MaybePlain (over_maybe e ps)
plain_maybe no_expr fs ps h = tt
plain_maybe (one_expr e) fs ps h = (first_stands e fs ps h).plain

plain_list : (es : ExprTrees) (fs ps : List ExprTree) → AllStand (list_children es ++ fs) ps
    → AllPlain (over_list es ps)
plain_list no_exprs fs ps h = tt
plain_list (expr_then e es) fs ps h = (
  (first_stands e (list_children es ++ fs) ps h).plain,
  plain_list es fs (after_first ps) (rest_related StandsFor e (list_children es ++ fs) ps h),
)

plain_end : (e : Option (End ExprTree)) (fs ps : List ExprTree) → AllStand (end_exprs e ++ fs) ps
    → EndPlain (over_end e ps)
plain_end None fs ps h = tt
plain_end (Some e) fs ps h = (first_stands e.limit fs ps h).plain

plain_last : (l : Last ExprTree) (fs ps : List ExprTree) → AllStand (last_exprs l ++ fs) ps
    → LastPlain (over_last l ps)
plain_last no_last fs ps h = tt
plain_last (one_of e) fs ps h = (first_stands e fs ps h).plain
plain_last (between low high) fs ps h =
    let k = regrouped StandsFor (end_exprs low) (end_exprs high) fs ps h in (
      plain_end low (end_exprs high ++ fs) ps k,
      plain_end high fs (after_end low ps) (after_end_left StandsFor low (end_exprs high ++ fs) ps k),
    )

has_argument : (a : Aggregate) (e : MaybeExpr) (ps : List ExprTree) → MaybePlain (over_maybe e ps)
    → HasArgument a e → HasArgument a (over_maybe e ps)
has_argument count e ps k h = k
has_argument a no_expr ps k h = h
has_argument a (one_expr e) ps k h = k

known_argument : (o : Option Aggregate) (e : MaybeExpr) (ps : List ExprTree) → MaybePlain (over_maybe e ps)
    → MatchOption o ⊥ (λ a. HasArgument a e) → MatchOption o ⊥ (λ a. HasArgument a (over_maybe e ps))
known_argument None e ps k h = h
known_argument (Some a) e ps k h = has_argument a e ps k h

known_aggregates : (gs : AggregateTrees) (fs ps : List ExprTree) → AllStand (aggregate_exprs gs ++ fs) ps
    → AllKnown gs → AllKnown (over_aggregates gs ps)
known_aggregates no_aggregates fs ps h f = tt
known_aggregates (aggregate_then x name e rest) fs ps h f =
    let k = regrouped StandsFor (maybe_children e) (aggregate_exprs rest) fs ps h in (
      known_argument (aggregate_named name) e ps (plain_maybe e (aggregate_exprs rest ++ fs) ps k) f.0,
      known_aggregates rest fs (after_maybe e ps)
          (after_maybe_related StandsFor e (aggregate_exprs rest ++ fs) ps k) f.1,
    )

plain_into : (i : IntoTree) (fs ps : List ExprTree) → AllStand (into_exprs i ++ fs) ps → IntoPlain i
    → IntoPlain (over_into i ps)
plain_into no_into fs ps h f = f
plain_into (into x no_expr keep) fs ps h f = f
plain_into (into x (one_expr e) keep) fs ps h f = (first_stands e fs ps h).plain

-- ---- an index may be used as before

same_number : (es : ExprTrees) (ps : List ExprTree) → exprs_in es ≡ exprs_in (over_list es ps)
same_number no_exprs ps = refl
same_number (expr_then e es) ps = ap (λ n. n + 1) (same_number es (after_first ps))

bounds_fit : (attributes equal : ℕ) (l : Last ExprTree) (ps : List ExprTree) → BoundsFit attributes equal l
    → BoundsFit attributes equal (over_last l ps)
bounds_fit attributes equal no_last ps h = h
bounds_fit attributes equal (one_of e) ps h = h
bounds_fit attributes equal (between low high) ps h = h

lookup_fits : (equal : ℕ) (l : Last ExprTree) (ps : List ExprTree) (ordered : Option Bool)
    → LookupFits equal l ordered → LookupFits equal (over_last l ps) ordered
lookup_fits equal no_last ps ordered h = h
lookup_fits equal (one_of e) ps None h = h
lookup_fits equal (one_of e) ps (Some descending) h = h
lookup_fits equal (between low high) ps ordered h = h

kind_fits : (k : IndexKind) (equal : ℕ) (l : Last ExprTree) (ps : List ExprTree) (ordered : Option Bool)
    → KindFits k equal l ordered → KindFits k equal (over_last l ps) ordered
kind_fits kind.Sorted equal l ps ordered h = h
kind_fits kind.Primary equal l ps ordered h = lookup_fits equal l ps ordered h
kind_fits kind.Edge equal l ps ordered h = lookup_fits equal l ps ordered h

index_fits : (o : Option IndexFact) (x : Reading) (qs : List ExprTree) (equal : ℕ) (l : Last ExprTree)
    (ps : List ExprTree) (ordered : Option Bool)
    → MatchOption o ⊥ (λ i. IndexFits i x equal l ordered)
    → MatchOption o ⊥ (λ i. IndexFits i (over_reading x qs) equal (over_last l ps) ordered)
index_fits None x qs equal l ps ordered h = h
index_fits (Some i) x qs equal l ps ordered h = (
  bounds_fit (length i.attributes) equal l ps h.0,
  kind_fits i.kind equal l ps ordered h.1,
  h.2,
)

-- ---- nodes

pub still_fits : (facts : Facts) (n : Node) (ps : List ExprTree) → AllStand (node_exprs n) ps → IsNoFragment n
    → Fits facts n → Fits facts (over_exprs n ps)
still_fits facts (EnumerateCollection x) ps h i f =
    (f.0, plain_maybe x.filter [] ps (alone StandsFor (maybe_children x.filter) ps h))
still_fits facts (Index x index equal last ordered) ps h i f =
    let filters = maybe_children x.filter in
    let qs = after_list equal ps in
    let rs = after_last last qs in
    let k = after_list_left StandsFor equal (last_exprs last ++ filters) ps h in
    let l = after_last_left StandsFor last filters qs k in (
      f.0,
      plain_maybe x.filter [] rs (alone StandsFor filters rs l),
      plain_list equal (last_exprs last ++ filters) ps h,
      plain_last last filters qs k,
      subst (λ (m : ℕ). MatchOption (slice_get (indexes_in facts x.coll) index) ⊥
          (λ i. IndexFits i (over_reading x rs) m (over_last last qs) ordered)) (same_number equal ps)
          (index_fits (slice_get (indexes_in facts x.coll) index) x rs (exprs_in equal) last qs ordered f.4),
    )
still_fits facts (EnumerateList x e) ps h i f = (first_stands e [] ps h).plain
still_fits facts (Traversal w e colls prune keep) ps h i f =
    let qs = after_first ps in
    let k = rest_related StandsFor e (maybe_children prune ++ maybe_children keep) ps h in
    let rs = after_maybe prune qs in
    let l = after_maybe_related StandsFor prune (maybe_children keep) qs k in (
      (first_stands e (maybe_children prune ++ maybe_children keep) ps h).plain,
      plain_maybe prune (maybe_children keep) qs k,
      plain_maybe keep [] rs (alone StandsFor (maybe_children keep) rs l),
      f.3,
      f.4,
      f.5,
    )
still_fits facts (Calculation x e) ps h i f = (first_stands e [] ps h).plain
still_fits facts (Subquery x s) ps h i f = tt
still_fits facts (Filter e) ps h i f = (first_stands e [] ps h).plain
still_fits facts (Sort directions es n) ps h i f =
    (plain_list es [] ps (alone StandsFor (list_children es) ps h), f.1)
still_fits facts (Limit offset most) ps h i f = f
still_fits facts (Collect xs es gs j s) ps h i f =
    let qs = after_list es ps in
    let k = after_list_left StandsFor es (aggregate_exprs gs ++ into_exprs j) ps h in
    let rs = after_aggregates gs qs in
    let l = after_aggregates_left StandsFor gs (into_exprs j) qs k in (
      plain_list es (aggregate_exprs gs ++ into_exprs j) ps h,
      known_aggregates gs (into_exprs j) qs k f.1,
      plain_into j [] rs (alone StandsFor (into_exprs j) rs l) f.2,
      sym (same_number es ps) ∙ f.3,
    )
still_fits facts (Return distinct e) ps h i f = (first_stands e [] ps h).plain
still_fits facts NoResults ps h i f = tt
still_fits facts (Scatter coll only) ps h i f = absurd i
still_fits facts (Distribute coll es) ps h i f = absurd i
still_fits facts Remote ps h i f = absurd i
still_fits facts (Gather directions es) ps h i f = absurd i
