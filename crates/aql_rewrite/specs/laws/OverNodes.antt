-- A node over its expressions with a function at each is the node with the function at each of its
-- expressions.
use Rattle.std.proofs.Common.{◌≡◌, ◌∙◌, ℕ, Bool, List, [], ◌∷◌, ◌++◌, map, refl, ap, ap₂, sym, subst}
use Rattle.std.specs.Prelude.{Option, Some, None, option_map}
use Rattle.std.proofs.lemmas.List.{map-append}
use Rattle.aql_tree.specs.declared.syntax.Ident.{Ident}
use Rattle.aql_tree.specs.Tree.{TraversalShape, ExprTree, ExprTrees, no_exprs, expr_then, MaybeExpr, no_expr, one_expr, AggregateTrees, no_aggregates, aggregate_then, IntoTree, no_into, into}
use Rattle.aql_meaning.specs.Documents.{End, Last, no_last, one_of, between, last_map, end_map}
use Rattle.aql_meaning.specs.declared.grouping.Stage.{Stage}
use Rattle.aql_plan.specs.Plan.{Reading, Node, EnumerateCollection, Index, EnumerateList, Traversal, Calculation, Subquery, Filter, Sort, Limit, Collect, Return, NoResults, Scatter, Distribute, Remote, Gather}
use Rattle.aql_plan.specs.Exprs.{map_exprs, map_maybe, map_aggregates, map_into, map_reading, map_node}
use Rattle.aql_plan.specs.Nodes.{body_in}
use Rattle.aql_rewrite.specs.Children.{list_children, maybe_children}
use Rattle.aql_rewrite.specs.OverChildren.{over_list, over_maybe, after_maybe}
use Rattle.aql_rewrite.specs.NodeExprs.{end_exprs, last_exprs, aggregate_exprs, into_exprs, node_exprs, after_list, over_end, after_end, over_last, after_last, over_aggregates, after_aggregates, over_into, over_exprs}

abbrev pub with_filter : Reading → MaybeExpr → Reading
with_filter x e = record { var = x.var; coll = x.coll; filter = e; attrs = x.attrs; shard = x.shard }

module _ (f : ExprTree → ExprTree) where
  -- new expressions for these, and others after them
  abbrev Then : List ExprTree → List ExprTree → List ExprTree
  Then es more = map f es ++ more

  mapped_append : (es fs more : List ExprTree) → Then (es ++ fs) more ≡ Then es (Then fs more)
  mapped_append [] fs more = refl
  mapped_append (e ∷ es) fs more = ap (λ (ds : List ExprTree). f e ∷ ds) (mapped_append es fs more)

  list_over : (es : ExprTrees) (more : List ExprTree)
      → (over_list es (Then (list_children es) more) ≡ map_exprs f es)
      × (after_list es (Then (list_children es) more) ≡ more)
  list_over no_exprs more = (refl, refl)
  list_over (expr_then e es) more = let k = list_over es more in (ap (expr_then (f e)) k.0, k.1)

  maybe_over : (e : MaybeExpr) (more : List ExprTree)
      → (over_maybe e (Then (maybe_children e) more) ≡ map_maybe f e)
      × (after_maybe e (Then (maybe_children e) more) ≡ more)
  maybe_over no_expr more = (refl, refl)
  maybe_over (one_expr e) more = (refl, refl)

  end_over : (e : Option (End ExprTree)) (more : List ExprTree)
      → (over_end e (Then (end_exprs e) more) ≡ option_map (end_map f) e)
      × (after_end e (Then (end_exprs e) more) ≡ more)
  end_over None more = (refl, refl)
  end_over (Some e) more = (refl, refl)

  last_over : (l : Last ExprTree) (more : List ExprTree)
      → (over_last l (Then (last_exprs l) more) ≡ last_map f l)
      × (after_last l (Then (last_exprs l) more) ≡ more)
  last_over no_last more = (refl, refl)
  last_over (one_of e) more = (refl, refl)
  last_over (between low high) more =
      let l = end_over low (Then (end_exprs high) more) in
      let h = end_over high more in
      subst (λ (ps : List ExprTree). (over_last (between low high) ps ≡ last_map f (between low high))
      × (after_last (between low high) ps ≡ more))
      (sym (mapped_append (end_exprs low) (end_exprs high) more)) (
        ap₂ between l.0 (ap (over_end high) l.1 ∙ h.0),
        ap (after_end high) l.1 ∙ h.1,
      )

  aggregates_over : (gs : AggregateTrees) (more : List ExprTree)
      → (over_aggregates gs (Then (aggregate_exprs gs) more) ≡ map_aggregates f gs)
      × (after_aggregates gs (Then (aggregate_exprs gs) more) ≡ more)
  aggregates_over no_aggregates more = (refl, refl)
  aggregates_over (aggregate_then x name e rest) more =
      let m = maybe_over e (Then (aggregate_exprs rest) more) in
      let k = aggregates_over rest more in
      subst (λ (ps : List ExprTree). (over_aggregates (aggregate_then x name e rest) ps
      ≡ map_aggregates f (aggregate_then x name e rest))
      × (after_aggregates (aggregate_then x name e rest) ps ≡ more))
      (sym (mapped_append (maybe_children e) (aggregate_exprs rest) more)) (
        ap₂ (aggregate_then x name) m.0 (ap (over_aggregates rest) m.1 ∙ k.0),
        ap (after_aggregates rest) m.1 ∙ k.1,
      )

  -- where no others come after them
  list_alone : (es : ExprTrees) → over_list es (map f (list_children es)) ≡ map_exprs f es
  list_alone no_exprs = refl
  list_alone (expr_then e es) = ap (expr_then (f e)) (list_alone es)

  maybe_alone : (e : MaybeExpr) → over_maybe e (map f (maybe_children e)) ≡ map_maybe f e
  maybe_alone no_expr = refl
  maybe_alone (one_expr e) = refl

  into_alone : (i : IntoTree) → over_into i (map f (into_exprs i)) ≡ map_into f i
  into_alone no_into = refl
  into_alone (into x what keep) = ap (λ m. into x m keep) (maybe_alone what)

  -- ---- nodes

  index_over : (x : Reading) (index : ℕ) (equal : ExprTrees) (last : Last ExprTree) (ordered : Option Bool)
      → over_exprs (Index x index equal last ordered) (map f (node_exprs (Index x index equal last ordered)))
      ≡ map_node f (Index x index equal last ordered)
  index_over x index equal last ordered =
      let filters = map f (maybe_children x.filter) in
      let bounds = Then (last_exprs last) filters in
      let e = list_over equal bounds in
      let l = last_over last filters in
      ap (over_exprs (Index x index equal last ordered))
      (map-append f (list_children equal) (last_exprs last ++ maybe_children x.filter)
      ∙ ap (Then (list_children equal)) (map-append f (last_exprs last) (maybe_children x.filter)))
      ∙ ap₂ (λ m es. Index (with_filter x m) index es
      (over_last last (after_list equal (Then (list_children equal) bounds))) ordered)
      (ap (over_maybe x.filter) (ap (after_last last) e.1 ∙ l.1) ∙ maybe_alone x.filter) e.0
      ∙ ap (λ m. Index (map_reading f x) index (map_exprs f equal) m ordered)
      (ap (over_last last) e.1 ∙ l.0)

  traversal_over : (w : TraversalShape) (e : ExprTree) (colls : List ℕ) (prune keep : MaybeExpr)
      → over_exprs (Traversal w e colls prune keep) (map f (node_exprs (Traversal w e colls prune keep)))
      ≡ map_node f (Traversal w e colls prune keep)
  traversal_over w e colls prune keep =
      let p = maybe_over prune (map f (maybe_children keep)) in
      ap (λ (ps : List ExprTree). over_exprs (Traversal w e colls prune keep) (f e ∷ ps))
      (map-append f (maybe_children prune) (maybe_children keep))
      ∙ ap₂ (Traversal w (f e) colls) p.0 (ap (over_maybe keep) p.1 ∙ maybe_alone keep)

  collect_over : (xs : List Ident) (es : ExprTrees) (gs : AggregateTrees) (i : IntoTree) (s : Stage)
      → over_exprs (Collect xs es gs i s) (map f (node_exprs (Collect xs es gs i s)))
      ≡ map_node f (Collect xs es gs i s)
  collect_over xs es gs i s =
      let last = map f (into_exprs i) in
      let arguments = Then (aggregate_exprs gs) last in
      let e = list_over es arguments in
      let g = aggregates_over gs last in
      ap (over_exprs (Collect xs es gs i s))
      (map-append f (list_children es) (aggregate_exprs gs ++ into_exprs i)
      ∙ ap (Then (list_children es)) (map-append f (aggregate_exprs gs) (into_exprs i)))
      ∙ ap₂ (λ m j. Collect xs (over_list es (Then (list_children es) arguments)) m j s)
      (ap (over_aggregates gs) e.1 ∙ g.0)
      (ap (over_into i) (ap (after_aggregates gs) e.1 ∙ g.1) ∙ into_alone i)
      ∙ ap (λ m. Collect xs m (map_aggregates f gs) (map_into f i) s) e.0

  pub node_over : (n : Node) → body_in n ≡ None → over_exprs n (map f (node_exprs n)) ≡ map_node f n
  node_over (EnumerateCollection x) e =
      ap (λ m. EnumerateCollection (with_filter x m)) (maybe_alone x.filter)
  node_over (Index x index equal last ordered) e = index_over x index equal last ordered
  node_over (EnumerateList x d) e = refl
  node_over (Traversal w d colls prune keep) e = traversal_over w d colls prune keep
  node_over (Calculation x d) e = refl
  node_over (Subquery x s) e = cc
  node_over (Filter d) e = refl
  node_over (Sort directions es n) e = ap (λ ds. Sort directions ds n) (list_alone es)
  node_over (Limit offset most) e = refl
  node_over (Collect xs es gs i s) e = collect_over xs es gs i s
  node_over (Return distinct d) e = refl
  node_over NoResults e = refl
  node_over (Scatter coll only) e = refl
  node_over (Distribute coll es) e = ap (Distribute coll) (list_alone es)
  node_over Remote e = refl
  node_over (Gather directions es) e = ap (Gather directions) (list_alone es)
