-- A well-formed plan stays so under distribute-sort-to-cluster, and sets no more.
use Rattle.std.proofs.Common.{◌≡◌, ℕ, ◌+◌, ◌<◌, ◌^◌, List, Bool, true, false, Option, None, Some, refl, sym, subst, arith}
use Rattle.aql_tree.specs.declared.syntax.Ident.{Ident}
use Rattle.aql_tree.specs.Tree.{ExprTrees}
use Rattle.aql_meaning.specs.Uses.{Uses}
use Rattle.aql_plan.specs.declared.facts.Facts.{Facts}
use Rattle.aql_plan.specs.Fits.{Fits}
use Rattle.aql_plan.specs.Plan.{Plan, Over, Sort, Limit, Remote, Gather}
use Rattle.aql_plan.specs.Shapes.{Shape, Rows, Fragment, Sent, Order, by_keys, is_inside, Shaped, plain_rows, remote, lowest, other_reading, passing, sorting, gather, gather_in_order, joining}
use Rattle.aql_rewrite.specs.declared.swap.Rename.{Rename}
use Rattle.aql_rewrite.specs.Placed.{Placed}
use Rattle.aql_rewrite.specs.Swaps.{KeepsPlaced}
use Rattle.aql_rules_cluster.specs.DistributeSortToCluster.{sorted_on_shards, SortsInside, sorted, sorted_first}

-- ---- how the nodes stand

-- a Sort outside fragments stands over rows
sort_outside : (facts : Facts) (b : Plan) (directions : List Bool) (es : ExprTrees) (limit : Option ℕ)
    (s : Shape) → is_inside s ≡ false → Shaped facts (Over b (Sort directions es limit)) s
    → (s ≡ Rows false) × Fits facts (Sort directions es limit) × Shaped facts b (Rows false)
sort_outside facts b directions es limit s o (plain_rows i f h) = (refl, f, h)
sort_outside facts b directions es limit s o (lowest i f h) = absurd i
sort_outside facts b directions es limit s o (other_reading i f h) = absurd i
sort_outside facts b directions es limit s o (passing i f h) = absurd i
sort_outside facts b directions es limit s o (sorting f h) = cc

-- a Gather that gives rows stands over what a fragment sends
pub gathered_rows : (facts : Facts) (b : Plan) (directions : List Bool) (es : ExprTrees) (s : Shape)
    → s ≡ Rows false → Shaped facts (Over b (Gather directions es)) s
    → (o : Order) × Shaped facts b (Sent (Fragment o))
gathered_rows facts b directions es s e (gather {o = o} h) = (o, h)
gathered_rows facts b directions es s e (gather_in_order f h) = (by_keys directions es, h)
gathered_rows facts b directions es s e (joining h) = cc
gathered_rows facts b directions es s e (plain_rows i f h) = absurd i
gathered_rows facts b directions es s e (lowest i f h) = absurd i
gathered_rows facts b directions es s e (other_reading i f h) = absurd i
gathered_rows facts b directions es s e (passing i f h) = absurd i

pub sent_fragment : (facts : Facts) (b : Plan) (s t : Shape) → s ≡ Sent t → Shaped facts (Over b Remote) s
    → Shaped facts b t
sent_fragment facts b s t e (remote {s = u} i h) =
    let same : u ≡ t = cc in subst (Shaped facts b) same h
sent_fragment facts b s t e (plain_rows i f h) = absurd i
sent_fragment facts b s t e (lowest i f h) = absurd i
sent_fragment facts b s t e (other_reading i f h) = absurd i
sent_fragment facts b s t e (passing i f h) = absurd i

module _ (facts : Facts) (f : Plan) (old directions : List Bool) (old_keys es : ExprTrees)
    (limit : Option ℕ) where
  record Stands (s : Shape) : Type 0 where
    pub rows : s ≡ Rows false
    pub fits : Fits facts (Sort directions es limit)
    pub sorts : Shaped facts (sorted_on_shards f directions es limit) (Rows false)

  stands : (s : Shape) → is_inside s ≡ false
      → Shaped facts (Over (Over (Over f Remote) (Gather old old_keys)) (Sort directions es limit)) s
      → Stands s
  stands s o h =
      let k = sort_outside facts (Over (Over f Remote) (Gather old old_keys)) directions es limit s o h in
      let g = gathered_rows facts (Over f Remote) old old_keys (Rows false) refl k.2 in
      let inside = sent_fragment facts f (Sent (Fragment g.0)) (Fragment g.0) refl g.1 in record {
        rows = k.0;
        fits = k.1;
        sorts = gather_in_order k.1.0 (remote tt (sorting k.1 inside));
      }

-- ---- the rule

pub sorts_keep : (facts : Facts) (outer away : List Ident) (us : Uses) (p q : Plan) (r : Option Rename)
    → Placed true false facts outer away us p → SortsInside facts us p q r
    → KeepsPlaced true false facts outer us p q r
sorts_keep facts outer away _ _ _ _ placed (sorted {us = us} {fragment = f} {old = old}
    {directions = directions} {old_keys = old_keys} {keys = es} servers) =
    let found = placed.found in record {
      suits = placed.suits;
      shape = λ s e h.
          let k = stands facts f old directions old_keys es None s e h in
          subst (Shaped facts (sorted_on_shards f directions es None)) (sym k.rows) k.sorts;
      found = (((found.0.0.0, found.1, refl, tt), refl, refl, tt), found.1, refl, tt);
      vars = λ z used h. h;
      fewer = λ z. omega arith;
    }
sorts_keep facts outer away _ _ _ _ placed (sorted_first {us = us} {fragment = f} {old = old}
    {directions = directions} {old_keys = old_keys} {keys = es} {limit = limit} servers) =
    let found = placed.found in record {
      suits = placed.suits;
      shape = λ s e h.
          let k = stands facts f old directions old_keys es (Some limit) s e h in
          let range : 0 + limit < 2 ^ 64 = omega (arith, k.fits.1) in
          subst (Shaped facts (Over (sorted_on_shards f directions es (Some limit)) (Limit 0 limit)))
          (sym k.rows) (plain_rows tt range k.sorts);
      found = ((((found.0.0.0, found.1, refl, tt), refl, refl, tt), found.1, refl, tt), refl, refl, tt);
      vars = λ z used h. h;
      fewer = λ z. omega arith;
    }
