-- A traversal without a variable that is not used gives the same rows, but for that variable.
use Rattle.std.proofs.Common.{◌≡◌, ◌∙◌, ℕ, zero, suc, List, ◌++◌, map, Bool, false, refl, ap, ap₂, subst}
use Rattle.std.specs.Prelude.{Option, Some, None, filter, flat_map, zip, not}
use Rattle.std.specs.List.{AllZip}
use mathlib.Core.Path.{fun_ext}
use Rattle.aql_value.specs.Database.{Database}
use Rattle.aql_value.specs.Datum.{Datum, null}
use Rattle.aql_value.specs.Truth.{truth}
use Rattle.aql_func.specs.Objects.{id_text}
use Rattle.aql_tree.specs.declared.syntax.Ident.{Ident}
use Rattle.aql_tree.specs.declared.syntax.UniqueVertices.{UniqueVertices}
use Rattle.aql_tree.specs.declared.syntax.UniqueVertices.TheVariants as vertices
use Rattle.aql_tree.specs.Tree.{MaybeExpr, no_expr, one_expr, TraversalShape}
use Rattle.aql_meaning.specs.AtRows.{passes, stops}
use Rattle.aql_meaning.specs.Paths.{Path, paths_of_length, paths_up_to, extensions, TraversesBy, TraversesFrom, TraversesPaths, Traverses, path_row, long_paths, with_paths, vertex_of, end_of, last_edge, path_value}
use Rattle.aql_meaning.specs.Row.{Row, bind, bind_maybe}
use Rattle.aql_meaning.specs.Uses.{Uses, Agree, maybe_uses, is_used}
use Rattle.aql_meaning.specs.laws.Agrees.{agree_split, value_same}
use Rattle.aql_meaning.specs.laws.RowByRow.{each_related}
use Rattle.aql_meaning.specs.laws.Shuffles.{alike_permutation}
use Rattle.aql_plan_laws.specs.laws.Agreement.{agree_bind}
use Rattle.aql_plan_laws.specs.laws.Lists.{weaker, filter_related, related_self}
use Rattle.aql_rules_filter.specs.OptimizeTraversals.{with_vars, tests_use}
use Rattle.aql_rewrite.specs.laws.Unused.{agree_unused}

-- ---- the paths do not depend on the variables

module _ (w : TraversalShape) (edge path : Option Ident) (es : List Datum) (pruned : Path → Bool)
    (start : List ℕ) where
  paths_same : (n : ℕ) → paths_of_length (with_vars w edge path) es pruned start n
      ≡ paths_of_length w es pruned start n
  paths_same zero = refl
  paths_same (suc n) =
      ap (λ ts. flat_map (extensions w es pruned start) (filter (λ t. not (pruned t)) ts)) (paths_same n)

  up_to_same : (n : ℕ) → paths_up_to (with_vars w edge path) es pruned start n
      ≡ paths_up_to w es pruned start n
  up_to_same zero = refl
  up_to_same (suc n) = ap₂ (λ ts us. ts ++ us) (up_to_same n) (paths_same (suc n))

  by_same : (u : UniqueVertices) (paths : List Path)
      → TraversesBy (with_vars w edge path) es pruned start u paths → TraversesBy w es pruned start u paths
  by_same vertices.Global paths h = record {
    holds_empty = h.holds_empty;
    built = h.built;
    short = h.short;
    apart = h.apart;
    reaches = h.reaches;
  }
  by_same vertices.None paths h = h ∙ up_to_same w.max
  by_same vertices.Path paths h = h ∙ up_to_same w.max

from_same : (w : TraversalShape) (edge path : Option Ident) (es : List Datum) (pruned : Path → Bool)
    (id : Option (List ℕ)) (paths : List Path) → TraversesFrom (with_vars w edge path) es pruned id paths
    → TraversesFrom w es pruned id paths
from_same w edge path es pruned None paths h = h
from_same w edge path es pruned (Some id) paths h =
    by_same w edge path es pruned id w.options.vertices paths h

-- ---- what is tested

stops_same : (prune : MaybeExpr) (r s : Row) → Agree (maybe_uses prune) r s → stops prune r ≡ stops prune s
stops_same no_expr r s h = refl
stops_same (one_expr e) r s h = ap truth (value_same e null r s h)

passes_same : (keep : MaybeExpr) (r s : Row) → Agree (maybe_uses keep) r s → passes keep r ≡ passes keep s
passes_same no_expr r s h = refl
passes_same (one_expr e) r s h = ap truth (value_same e null r s h)

-- ---- the rows

module _ (us : Uses) (prune keep : MaybeExpr) (w : TraversalShape) (edge path : Option Ident) (db : Database)
  where
    abbrev pub all_uses : Uses
    all_uses = us ++ tests_use prune keep

    -- the rows of paths agree in all that is used of them
    abbrev pub PathsAgree : Type 0
    PathsAgree = (row : Row) (t : Path)
        → Agree all_uses (path_row db (with_vars w edge path) row t) (path_row db w row t)

    module _ (es : List Datum) (agree : PathsAgree) where
      abbrev ends : TraversalShape → Row → Path → Bool
      ends v row t = stops prune (path_row db v row t)

      same_pruned : (row : Row) → ends (with_vars w edge path) row ≡ ends w row
      same_pruned row = fun_ext (λ t.
          stops_same prune (path_row db (with_vars w edge path) row t) (path_row db w row t)
          (agree_split (maybe_uses prune) (maybe_uses keep) _ _
          (agree_split us (tests_use prune keep) _ _ (agree row t)).1).0)

      same_walks : (rows : List Row) (starts : List Datum) (paths : List (List Path))
          → TraversesPaths db (with_vars w edge path) es (stops prune) rows starts paths
          → TraversesPaths db w es (stops prune) rows starts paths
      same_walks rows starts paths h = weaker
          (λ (from : Row × Datum) walked. TraversesFrom (with_vars w edge path) es
          (λ t. stops prune (path_row db (with_vars w edge path) from.0 t)) (id_text from.1) walked)
          (λ (from : Row × Datum) walked.
          TraversesFrom w es (λ t. stops prune (path_row db w from.0 t)) (id_text from.1) walked)
          (λ from walked k. subst (λ (f : Path → Bool). TraversesFrom w es f (id_text from.1) walked)
          (same_pruned from.0)
          (from_same w edge path es (λ t. stops prune (path_row db (with_vars w edge path) from.0 t))
          (id_text from.1) walked k))
          (zip rows starts) paths h

      rows_alike : (rows : List Row) (paths : List (List Path))
          → AllZip (Agree all_uses) (with_paths db (with_vars w edge path) rows paths)
          (with_paths db w rows paths)
      rows_alike rows paths = each_related (λ (r s : Row). r ≡ s) (Agree all_uses)
          (path_row db (with_vars w edge path)) (path_row db w)
          (λ r s t e. subst (λ (q : Row). Agree all_uses (path_row db (with_vars w edge path) r t)
          (path_row db w q t)) e (agree r t))
          rows rows (map (long_paths w) paths) (related_self (λ (r s : Row). r ≡ s) (λ r. refl) rows)

      pub traverses_alike : (rows out : List Row) (starts : List Datum)
          → Traverses db (with_vars w edge path) es (stops prune) rows starts out
          → (other : List Row) × Traverses db w es (stops prune) rows starts other
          × AllZip (Agree us) (filter (passes keep) out) (filter (passes keep) other)
      traverses_alike rows out starts h =
          let k = alike_permutation (Agree all_uses) (with_paths db (with_vars w edge path) rows h.0) out
          (with_paths db w rows h.0) h.2 (rows_alike rows h.0) in (
            k.0,
            (h.0, same_walks rows starts h.0 h.1, k.1),
            filter_related (Agree all_uses) (Agree us) (passes keep) (passes keep)
                (λ r s a. passes_same keep r s (agree_split (maybe_uses prune) (maybe_uses keep) r s
                (agree_split us (tests_use prune keep) r s a).1).1)
                (λ r s a. (agree_split us (tests_use prune keep) r s a).0) out k.0 k.2,
          )

bind_more : (us : Uses) (x : Option Ident) (r s : Row) (v : Datum) → Agree us r s
    → Agree us (bind_maybe x r v) (bind_maybe x s v)
bind_more us None r s v h = h
bind_more us (Some x) r s v h = agree_bind us x r s v h

pub without_edge_agrees : (us : Uses) (prune keep : MaybeExpr) (w : TraversalShape) (x : Ident)
    (path : Option Ident) (db : Database) → is_used x (us ++ tests_use prune keep) ≡ false
    → PathsAgree us prune keep (with_vars w (Some x) path) None path db
without_edge_agrees us prune keep w x path db h row t =
    let vs : Uses = us ++ tests_use prune keep in
    let base = bind w.vertex row (vertex_of db (end_of t)) in
    bind_more vs path base (bind x base (last_edge t.steps)) (path_value db t)
    (agree_unused vs x base (last_edge t.steps) h)

pub without_path_agrees : (us : Uses) (prune keep : MaybeExpr) (w : TraversalShape) (x : Ident)
    (edge : Option Ident) (db : Database) → is_used x (us ++ tests_use prune keep) ≡ false
    → PathsAgree us prune keep (with_vars w edge (Some x)) edge None db
without_path_agrees us prune keep w x edge db h row t =
    let base = bind_maybe edge (bind w.vertex row (vertex_of db (end_of t))) (last_edge t.steps) in
    agree_unused (us ++ tests_use prune keep) x base (path_value db t) h
