-- The paths walked don't depend on the names of a traversal.
use Rattle.std.proofs.Common.{◌≡◌, ℕ, suc, List, ◌∷◌, ◌++◌, map, Bool, subst, arith}
use mathlib.Core.Path.{fun_ext}
use Rattle.std.specs.Prelude.{Option, Some, None, option_to_list, zip}
use Rattle.std.specs.List.{AllZip}
use Rattle.aql_value.specs.Datum.{Datum}
use Rattle.aql_value.specs.Database.{Database}
use Rattle.aql_func.specs.Objects.{id_text}
use Rattle.aql_tree.specs.declared.syntax.Ident.{Ident}
use Rattle.aql_tree.specs.declared.syntax.UniqueVertices.{UniqueVertices}
use Rattle.aql_tree.specs.declared.syntax.UniqueVertices.TheVariants as vertices
use Rattle.aql_tree.specs.Tree.{TraversalShape}
use Rattle.aql_meaning.specs.Row.{Row, bind_maybe}
use Rattle.aql_meaning.specs.Paths.{Path, TraversesBy, TraversesFrom, Traverses, long_paths, path_row, path_value, vertex_of, end_of, last_edge}
use Rattle.aql_meaning.specs.laws.Shuffles.{alike_permutation}
use Rattle.aql_meaning.specs.laws.RowByRow.{each_related}
use Rattle.aql_scope.specs.Numbering.{Numbering, number_traversal, traversal_names, maybe_number, number_after, enter}
use Rattle.aql_scope.specs.laws.Alike.{Alike, Below, below_bind, alike_bind}
use Rattle.aql_scope.specs.laws.Named.{named_given, below_entered}
use Rattle.aql_scope.proofs.Lists.{zip_join, zip_starts}

same_traversal_by : (n : ℕ) (w : TraversalShape) (es : List Datum) (pruned : Path → Bool) (id : List ℕ)
    (paths : List Path)
    (u : UniqueVertices) → TraversesBy (number_traversal n w) es pruned id u paths
    → TraversesBy w es pruned id u paths
same_traversal_by n w es pruned id paths vertices.Global h = record {
  holds_empty = h.holds_empty;
  built = h.built;
  short = h.short;
  apart = h.apart;
  reaches = h.reaches;
}
same_traversal_by n w es pruned id paths vertices.None h = h
same_traversal_by n w es pruned id paths vertices.Path h = h

same_traversal : (n : ℕ) (w : TraversalShape) (es : List Datum) (pruned : Path → Bool) (id : Option (List ℕ))
    (paths : List Path) → TraversesFrom (number_traversal n w) es pruned id paths
    → TraversesFrom w es pruned id paths
same_traversal n w es pruned None paths h = h
same_traversal n w es pruned (Some id) paths h = same_traversal_by n w es pruned id paths w.options.vertices h

-- ---- the names of a traversal

alike_given : (o : Option Ident) (k : ℕ) (own outer : Numbering) (s r : Row) (v : Datum)
    → Below k (own ++ outer)
    → Alike (own ++ outer) s r
    → Alike (enter (option_to_list o) (option_to_list (maybe_number k o)) own ++ outer)
    (bind_maybe (maybe_number k o) s v) (bind_maybe o r v)
alike_given None k own outer s r v b a = a
alike_given (Some x) k own outer s r v b a = alike_bind (own ++ outer) k x s r v b a

module _ (db : Database) (n : ℕ) (w : TraversalShape) (own outer : Numbering)
    (b : Below n (own ++ outer)) where
  path_alike : (s r : Row) (t : Path) → Alike (own ++ outer) s r
      → Alike (traversal_names n w own ++ outer) (path_row db (number_traversal n w) s t) (path_row db w r t)
  path_alike s r t a =
      let b' = below_bind n (suc n) (own ++ outer) w.vertex (omega arith) b in
      alike_given w.path (number_after (option_to_list w.edge) (suc n)) _ outer _ _ (path_value db t)
      (below_entered ((w.vertex, n) ∷ own) outer (named_given w.edge (suc n)) b')
      (alike_given w.edge (suc n) ((w.vertex, n) ∷ own) outer _ _ (last_edge t.steps) b'
      (alike_bind (own ++ outer) n w.vertex s r (vertex_of db (end_of t)) b a))

  -- `scoped` and `written` are the tests of PRUNE
  module _ (es : List Datum) (scoped written : Row → Bool)
      (same : (t r : Row) → Alike (traversal_names n w own ++ outer) t r → scoped t ≡ written r) where
    pub traversal_back : (ss rs : List Row) (vs : List Datum) (out : List Row)
        → AllZip (Alike (own ++ outer)) ss rs
        → Traverses db (number_traversal n w) es scoped ss vs out
        → (behind : List Row) × Traverses db w es written rs vs behind
        × AllZip (Alike (traversal_names n w own ++ outer)) out behind
    traversal_back ss rs vs out a k =
        let more = traversal_names n w own ++ outer in
        let walked = zip_join
        (λ (p q : Row × Datum). Alike (own ++ outer) p.0 q.0 × (p.1 ≡ q.1))
        (λ (p : Row × Datum) paths.
        TraversesFrom (number_traversal n w) es (λ t. scoped (path_row db (number_traversal n w) p.0 t))
        (id_text p.1)
        paths)
        (λ (q : Row × Datum) paths. TraversesFrom w es (λ t. written (path_row db w q.0 t))
        (id_text q.1) paths)
        (λ p q paths e h.
        subst (λ (v : Datum). TraversesFrom w es (λ t. written (path_row db w q.0 t)) (id_text v) paths) e.1
        (subst (λ (pruned : Path → Bool). TraversesFrom w es pruned (id_text p.1) paths)
        (fun_ext (λ t. same _ _ (path_alike p.0 q.0 t e.0)))
        (same_traversal n w es (λ t. scoped (path_row db (number_traversal n w) p.0 t))
        (id_text p.1) paths h)))
        (zip ss vs) (zip rs vs) k.0 (zip_starts (Alike (own ++ outer)) ss rs vs a) k.1 in
        let rows = each_related (Alike (own ++ outer)) (Alike more) (path_row db (number_traversal n w))
        (path_row db w) (λ s r t h. path_alike s r t h) ss rs (map (long_paths w) k.0) a in
        let p = alike_permutation (Alike more) _ out _ k.2 rows in
        (p.0, (k.0, walked, p.1), p.2)
