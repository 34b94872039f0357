-- A plan without fragments keeps its shape with a function at each of its expressions that leaves them plain.
use Rattle.std.proofs.Common.{◌≡◌, ◌∙◌, ℕ, ◌+◌, Bool, true, false, true≢false, refl, ap, sym, subst}
use Rattle.std.specs.Prelude.{Option, Some, None, option_map, MatchOption, slice_get, length}
use Rattle.aql_func.specs.Aggregates.{Aggregate, count, aggregate_named}
use Rattle.aql_tree.specs.Tree.{ExprTree, ExprTrees, no_exprs, expr_then, MaybeExpr, no_expr, one_expr, AggregateTrees, no_aggregates, aggregate_then, IntoTree, no_into, into}
use Rattle.aql_meaning.specs.Plain.{IsPlain, AllPlain, MaybePlain}
use Rattle.aql_meaning.specs.Lifted.{IntoPlain}
use Rattle.aql_plan.specs.declared.facts.IndexKind.{IndexKind}
use Rattle.aql_plan.specs.declared.facts.IndexKind.TheVariants as kind
use Rattle.aql_meaning.specs.declared.grouping.Stage.TheVariants as stage
use Rattle.aql_meaning.specs.Documents.{End, Last, no_last, one_of, between, last_map, end_map}
use Rattle.aql_plan.specs.declared.facts.Facts.{Facts}
use Rattle.aql_plan.specs.declared.facts.IndexFact.{IndexFact}
use Rattle.aql_plan.specs.Facts.{indexes_in, keys_in}
use Rattle.aql_plan.specs.Plan.{Reading, Plan, Singleton, Over, Node, EnumerateCollection, Index, EnumerateList, Traversal, Calculation, Subquery, Filter, Sort, Limit, Collect, Return, NoResults, Scatter, Distribute, Remote, Gather}
use Rattle.aql_plan.specs.Fits.{EndPlain, LastPlain, HasArgument, AllKnown, exprs_in, BoundsFit, LookupFits, KindFits, IndexFits}
use Rattle.aql_plan.specs.Fits.{Fits}
use Rattle.aql_plan.specs.Shapes.{Shape, Rows, Result, IsOuter, Shaped, one_row, calculated, with_subquery, plain_rows, ordered_rows, scatter, distribute, remote, lowest, lowest_in_order, other_reading, passing, sorting, gather, gather_in_order, partial, joining, finishing, returning, is_inside, HasNoFragment}
use Rattle.aql_plan.specs.Exprs.{map_exprs, map_maybe, map_aggregates, map_into, map_reading, map_plan, map_node}

module _ (f : ExprTree → ExprTree) (plain : (e : ExprTree) → IsPlain e → IsPlain (f e)) where
  exprs_plain : (es : ExprTrees) → AllPlain es → AllPlain (map_exprs f es)
  exprs_plain no_exprs h = tt
  exprs_plain (expr_then e es) h = (plain e h.0, exprs_plain es h.1)

  maybe_plain : (e : MaybeExpr) → MaybePlain e → MaybePlain (map_maybe f e)
  maybe_plain no_expr h = tt
  maybe_plain (one_expr e) h = plain e h

  end_plain : (e : Option (End ExprTree)) → EndPlain e → EndPlain (option_map (end_map f) e)
  end_plain None h = tt
  end_plain (Some e) h = plain e.limit h

  last_plain : (l : Last ExprTree) → LastPlain l → LastPlain (last_map f l)
  last_plain no_last h = tt
  last_plain (one_of e) h = plain e h
  last_plain (between low high) h = (end_plain low h.0, end_plain high h.1)

  into_fit : (i : IntoTree) → IntoPlain i → IntoPlain (map_into f i)
  into_fit no_into h = tt
  into_fit (into x no_expr keep) h = absurd h
  into_fit (into x (one_expr e) keep) h = plain e h

  argument_kept : (a : Aggregate) (e : MaybeExpr) → HasArgument a e → HasArgument a (map_maybe f e)
  argument_kept count e h = maybe_plain e h
  argument_kept a no_expr h = h
  argument_kept a (one_expr e) h = plain e h

  all_known : (gs : AggregateTrees) → AllKnown gs → AllKnown (map_aggregates f gs)
  all_known no_aggregates h = tt
  all_known (aggregate_then x name e rest) h = (by (aggregate_named name) h.0, all_known rest h.1)
    where
      by : (o : Option Aggregate) → MatchOption o ⊥ (λ a. HasArgument a e)
          → MatchOption o ⊥ (λ a. HasArgument a (map_maybe f e))
      by None h = h
      by (Some a) h = argument_kept a e h

  counted : (es : ExprTrees) → exprs_in (map_exprs f es) ≡ exprs_in es
  counted no_exprs = refl
  counted (expr_then e es) = ap (λ n. n + 1) (counted es)

  bounds_fit : (n m : ℕ) (l : Last ExprTree) → BoundsFit n m l → BoundsFit n m (last_map f l)
  bounds_fit n m no_last h = h
  bounds_fit n m (one_of e) h = h
  bounds_fit n m (between low high) h = h

  lookup_fits : (n : ℕ) (l : Last ExprTree) (o : Option Bool) → LookupFits n l o
      → LookupFits n (last_map f l) o
  lookup_fits n no_last None h = h
  lookup_fits n (one_of e) None h = h
  lookup_fits n l o h = absurd h

  kind_fits : (k : IndexKind) (n : ℕ) (l : Last ExprTree) (o : Option Bool) → KindFits k n l o
      → KindFits k n (last_map f l) o
  kind_fits kind.Sorted n l o h = h
  kind_fits kind.Primary n l o h = lookup_fits n l o h
  kind_fits kind.Edge n l o h = lookup_fits n l o h

  index_fits : (x : Reading) (es : ExprTrees) (l : Last ExprTree) (o : Option Bool) (i : Option IndexFact)
      → MatchOption i ⊥ (λ i. IndexFits i x (exprs_in es) l o)
      → MatchOption i ⊥ (λ i. IndexFits i (map_reading f x) (exprs_in (map_exprs f es)) (last_map f l) o)
  index_fits x es l o None h = h
  index_fits x es l o (Some i) h =
      subst (λ (n : ℕ). IndexFits i (map_reading f x) n (last_map f l) o) (sym (counted es))
      (bounds_fit (length i.attributes) (exprs_in es) l h.0, kind_fits i.kind (exprs_in es) l o h.1, h.2)

  pub mapped_fit : (facts : Facts) (n : Node) → Fits facts n → Fits facts (map_node f n)
  mapped_fit facts (EnumerateCollection x) h = (h.0, maybe_plain x.filter h.1)
  mapped_fit facts (Index x index equal last ordered) h = (
    h.0,
    maybe_plain x.filter h.1,
    exprs_plain equal h.2,
    last_plain last h.3,
    index_fits x equal last ordered (slice_get (indexes_in facts x.coll) index) h.4,
  )
  mapped_fit facts (EnumerateList x e) h = plain e h
  mapped_fit facts (Traversal w e colls prune keep) h =
      (plain e h.0, maybe_plain prune h.1, maybe_plain keep h.2, h.3, h.4, h.5)
  mapped_fit facts (Calculation x e) h = plain e h
  mapped_fit facts (Subquery x s) h = tt
  mapped_fit facts (Filter e) h = plain e h
  mapped_fit facts (Sort directions es n) h = (exprs_plain es h.0, h.1)
  mapped_fit facts (Limit offset most) h = h
  mapped_fit facts (Collect xs es gs i s) h =
      (exprs_plain es h.0, all_known gs h.1, into_fit i h.2, counted es ∙ h.3)
  mapped_fit facts (Return distinct e) h = plain e h
  mapped_fit facts NoResults h = tt
  mapped_fit facts (Scatter coll only) h = h
  mapped_fit facts (Distribute coll es) h =
      (h.0, exprs_plain es h.1, subst (λ (n : ℕ). n ≡ length (keys_in facts coll)) (sym (counted es)) h.2)
  mapped_fit facts Remote h = tt
  mapped_fit facts (Gather directions es) h = exprs_plain es h

  pub mapped_outer : (n : Node) → IsOuter n → IsOuter (map_node f n)
  mapped_outer (EnumerateCollection x) h = h
  mapped_outer (Index x index equal last None) h = h
  mapped_outer (Index x index equal last (Some descending)) h = absurd h
  mapped_outer (EnumerateList x e) h = tt
  mapped_outer (Traversal w e colls prune keep) h = tt
  mapped_outer (Filter e) h = tt
  mapped_outer (Sort directions es n) h = tt
  mapped_outer (Limit offset most) h = tt
  mapped_outer (Collect xs es gs i stage.Whole) h = tt
  mapped_outer NoResults h = tt
  mapped_outer n h = absurd h

  pub mapped_shaped : (facts : Facts) {p : Plan} {s : Shape} → Shaped facts p s → HasNoFragment p
      → is_inside s ≡ false → Shaped facts (map_plan f p) s
  mapped_shaped facts one_row lone e = one_row
  mapped_shaped facts (calculated {x = x} {e = c} g h) lone e =
      calculated (plain c g) (mapped_shaped facts h lone.0 refl)
  mapped_shaped facts (with_subquery g h) lone e =
      with_subquery (mapped_shaped facts g lone.1 refl) (mapped_shaped facts h lone.0 refl)
  mapped_shaped facts (plain_rows {n = n} i g h) lone e =
      plain_rows (mapped_outer n i) (mapped_fit facts n g) (mapped_shaped facts h lone.0 refl)
  mapped_shaped facts
      (ordered_rows {x = x} {index = index} {equal = equal} {last = last} {descending = descending} i g h)
      lone e =
      ordered_rows i (mapped_fit facts (Index x index equal last (Some descending)) g)
      (mapped_shaped facts h lone.0 refl)
  mapped_shaped facts (returning {e = c} g h) lone e =
      returning (plain c g) (mapped_shaped facts h lone.0 refl)
  mapped_shaped facts (gather h) lone e = absurd lone.1
  mapped_shaped facts (gather_in_order g h) lone e = absurd lone.1
  mapped_shaped facts (joining h) lone e = absurd lone.1
  mapped_shaped facts (finishing g h) lone e = absurd lone.1
  mapped_shaped facts h lone e = absurd (true≢false e)
