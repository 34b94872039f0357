-- What the rule use-index-for-sort shows of itself beside what it gives: a well-formed plan stays so, and its
-- pass ends.
use Rattle.std.proofs.Common.{◌≡◌, ◌∙◌, ◌<◌, ◌≤◌, ℕ, List, [], Bool, true, false, true≢false, Option, Some, None, refl, sym, subst, arith, get_or, ◌⊎◌, inl, inr}
use Rattle.std.proofs.lemmas.Option.{slice_get_cases}
use Rattle.std.specs.Prelude.{slice_get, option_map, unwrap_or, length, MatchOption}
use Rattle.aql_tree.specs.declared.syntax.Ident.{Ident}
use Rattle.aql_tree.specs.Tree.{ExprTree, ExprTrees, no_exprs}
use Rattle.aql_meaning.specs.Documents.{Last, no_last}
use Rattle.aql_meaning.specs.Uses.{Uses}
use Rattle.aql_plan.specs.declared.facts.Facts.{Facts}
use Rattle.aql_plan.specs.declared.facts.IndexFact.{IndexFact}
use Rattle.aql_plan.specs.declared.facts.IndexKind.{IndexKind}
use Rattle.aql_plan.specs.declared.facts.IndexKind.TheVariants as kind
use Rattle.aql_plan.specs.Facts.{indexes_in}
use Rattle.aql_plan.specs.Fits.{exprs_in, KindFits, KeepsOrder, IndexFits, BoundsFit}
use Rattle.aql_plan.specs.Needs.{result_uses}
use Rattle.aql_plan.specs.Nodes.{weight}
use Rattle.aql_plan.specs.Plan.{Reading, Plan, Singleton, Over, Node, EnumerateCollection, Index, Calculation, Subquery, Filter, Sort}
use Rattle.aql_plan.specs.Shapes.{Rows, Shaped, one_row, calculated, with_subquery, plain_rows, ordered_rows, lowest, other_reading, passing, KeepsShape}
use Rattle.aql_rewrite.specs.declared.swap.Rename.{Rename}
use Rattle.aql_rewrite.specs.Placed.{IsWhole, Placed}
use Rattle.aql_rewrite.specs.Places.{First}
use Rattle.aql_rewrite.specs.Swaps.{KeepsPlaced}
use Rattle.aql_rewrite.specs.laws.Carried.{Lowers, first_lowers}
use Rattle.aql_rewrite.specs.laws.PlacedBelow.{whole_placed}
use Rattle.aql_rewrite.specs.laws.Weights.{weight_lifts}
use Rattle.aql_rules_order.specs.InlineSubqueries.{is_single}
use Rattle.aql_rules_order.specs.RemoveRedundantSorts.{here}
use Rattle.aql_rules_order.specs.laws.SortsRemoved.{frame_without}
use Rattle.aql_rules_order.specs.laws.Spine.{takes_rows, SameFrame, frame_over, frame_kept}
use Rattle.aql_rules_index.specs.UseIndexForSort.{directions_of, leaves_order, IsSorted, Orders, enumeration, by_index, below, SortsByIndex, sorted}
use Rattle.aql_rules_index.specs.laws.Shrinking.{as_heavy}

-- ---- a well-formed plan stays so

-- a plan of one row has the shape of one
shaped_single : (facts : Facts) (b : Plan) → is_single b ≡ true → Shaped facts b (Rows false)
    → Shaped facts b (Rows true)
shaped_single facts Singleton l h = one_row
shaped_single facts (Over b (Calculation x e)) l (calculated f h) = calculated f (shaped_single facts b l h)
shaped_single facts (Over b (Calculation x e)) l (plain_rows i f h) = absurd i
shaped_single facts (Over b (Subquery x s)) l (with_subquery g h) =
    with_subquery g (shaped_single facts b l h)
shaped_single facts (Over b (Subquery x s)) l (plain_rows i f h) = absurd i
shaped_single facts (Over b n) l h = absurd (true≢false (sym l))

-- an element that is there
not_missing : {X : Type 0} (xs : List X) (i : ℕ) → i < length xs → slice_get xs i ≡ None → ⊥
not_missing xs i h e = by (slice_get_cases xs i).1
  where
    by : ((x : _) × (i < length xs) × (slice_get xs i ≡ Some x) × (get_or xs i x ≡ x))
        ⊎ ((length xs ≤ i) × (slice_get xs i ≡ None)) → ⊥
    by (inl k) = absurd (let f = k.2 in cc)
    by (inr k) = absurd (omega (arith, k.0, h))

-- a sorted index may be used in its order
module _ (facts : Facts) (x : Reading) (index : ℕ) (descending : Bool) (whole : x.attrs ≡ None) where
  sorted_fits : (f : IndexFact) → f.kind ≡ kind.Sorted → (n : ℕ) (last : Last ExprTree)
      → BoundsFit (length f.attributes) n last → IndexFits f x n last (Some descending)
  sorted_fits f k n last h = (
    h,
    subst (λ (k : IndexKind). KindFits k n last (Some descending)) (sym k) tt,
    subst (λ (names : Option (List (List ℕ))). KeepsOrder f.attributes names (Some descending)) (sym whole) tt,
  )

  -- without bounds
  free_fits : IsSorted facts x.coll index
      → MatchOption (slice_get (indexes_in facts x.coll) index) ⊥
      (λ f. IndexFits f x 0 no_last (Some descending))
  free_fits (there, kind_is) = by (slice_get (indexes_in facts x.coll) index) refl kind_is
    where
      by : (o : Option IndexFact) → slice_get (indexes_in facts x.coll) index ≡ o
          → unwrap_or (option_map (λ (i : IndexFact). i.kind) o) kind.Sorted ≡ kind.Sorted
          → MatchOption o ⊥ (λ f. IndexFits f x 0 no_last (Some descending))
      by None e k = absurd (not_missing (indexes_in facts x.coll) index there e)
      by (Some f) e k = let free : 0 ≤ length f.attributes = omega arith in sorted_fits f k 0 no_last free

  -- with the bounds that it has
  bound_fits : (n : ℕ) (last : Last ExprTree) → IsSorted facts x.coll index
      → MatchOption (slice_get (indexes_in facts x.coll) index) ⊥ (λ f. IndexFits f x n last None)
      → MatchOption (slice_get (indexes_in facts x.coll) index) ⊥
      (λ f. IndexFits f x n last (Some descending))
  bound_fits n last (there, kind_is) h = by (slice_get (indexes_in facts x.coll) index) kind_is h
    where
      by : (o : Option IndexFact)
          → unwrap_or (option_map (λ (i : IndexFact). i.kind) o) kind.Sorted ≡ kind.Sorted
          → MatchOption o ⊥ (λ f. IndexFits f x n last None)
          → MatchOption o ⊥ (λ f. IndexFits f x n last (Some descending))
      by None k h = h
      by (Some f) k h = sorted_fits f k n last h.0

module _ (facts : Facts) (descending : Bool) (names : List (List ℕ)) (es : ExprTrees) where
  enumeration_shaped : (b : Plan) (x : Reading) (index : ℕ) → is_single b ≡ true → x.attrs ≡ None
      → IsSorted facts x.coll index
      → KeepsShape false facts (Over b (Index x index no_exprs no_last (Some descending)))
      (Over b (EnumerateCollection x))
  enumeration_shaped b x index single whole sorts s out (plain_rows i f h) =
      ordered_rows i (f.0, f.1, tt, tt, free_fits facts x index descending whole sorts)
      (shaped_single facts b single h)
  enumeration_shaped b x index single whole sorts s out (lowest i f h) = absurd (true≢false out)
  enumeration_shaped b x index single whole sorts s out (other_reading i f h) = absurd (true≢false out)
  enumeration_shaped b x index single whole sorts s out (passing i f h) = absurd i

  index_shaped : (b : Plan) (x : Reading) (index : ℕ) (equal : ExprTrees) (last : Last ExprTree)
      → is_single b ≡ true → x.attrs ≡ None → IsSorted facts x.coll index
      → KeepsShape false facts (Over b (Index x index equal last (Some descending)))
      (Over b (Index x index equal last None))
  index_shaped b x index equal last single whole sorts s out (plain_rows i f h) =
      ordered_rows i
      (f.0, f.1, f.2, f.3, bound_fits facts x index descending whole (exprs_in equal) last sorts f.4)
      (shaped_single facts b single h)
  index_shaped b x index equal last single whole sorts s out (lowest i f h) = absurd (true≢false out)
  index_shaped b x index equal last single whole sorts s out (other_reading i f h) = absurd (true≢false out)
  index_shaped b x index equal last single whole sorts s out (passing i f h) = absurd i

  order_takes : (n : Node) → leaves_order n ≡ true → takes_rows n ≡ true
  order_takes (Filter e) h = refl
  order_takes (Calculation x e) h = refl
  order_takes n h = absurd (true≢false (sym h))

  frame_ordered : (outer : List Ident) {b c : Plan} → Orders facts descending names es b c
      → SameFrame facts outer b c
  frame_ordered outer (enumeration {b = b} {x = x} {index = index} single a keys first) = record {
    suits = λ k. k;
    shape = enumeration_shaped b x index single a first.0.0;
    found = λ k. (k.0, refl, k.2, tt);
    vars = refl;
    set = refl;
  }
  frame_ordered outer
      (by_index {b = b} {x = x} {index = index} {equal = equal} {last = last} single a keys sorts range first) =
      record {
        suits = λ k. k;
        shape = index_shaped b x index equal last single a sorts;
        found = λ k. k;
        vars = refl;
        set = refl;
      }
  frame_ordered outer (below {b = b} {c = c} {n = n} l h) =
      frame_over facts outer b c n (order_takes n l) (frame_ordered outer h)

-- one frame after another
frame_after : (facts : Facts) (outer : List Ident) (p b c : Plan) → SameFrame facts outer p b
    → SameFrame facts outer b c → SameFrame facts outer p c
frame_after facts outer p b c h k = record {
  suits = λ l. k.suits (h.suits l);
  shape = λ s out l. k.shape s out (h.shape s out l);
  found = λ l. k.found (h.found l);
  vars = h.vars ∙ k.vars;
  set = h.set ∙ k.set;
}

pub sorts_keep : (facts : Facts) (outer away : List Ident) (us : Uses) (p q : Plan) (r : Option Rename)
    → Placed false false facts outer away us p → SortsByIndex facts us p q r
    → KeepsPlaced false false facts outer us p q r
sorts_keep facts outer away _ _ _ _ placed
    (sorted {us = us} {b = b} {c = c} {descending = descending} {names = names} {es = es} o) =
    let p = Over b (Sort (directions_of descending names) es None) in
    frame_kept facts outer us p c
    (frame_after facts outer p b c (frame_without facts outer here)
    (frame_ordered facts descending names es outer o)) placed.suits placed.found

-- ---- the pass ends

sorts_lower : (facts : Facts) (us : Uses) (p q : Plan) (r : Option Rename) → SortsByIndex facts us p q r
    → Lowers weight weight p q
sorts_lower facts _ _ _ _ (sorted o) =
    record { falls = omega (arith, as_heavy o); stays = omega (arith, as_heavy o) }

pub sorts_fall : (facts : Facts) (p q : Plan) (r : Option Rename) → IsWhole false facts p
    → First (SortsByIndex facts) false result_uses p q r → weight q < weight p
sorts_fall facts p q r whole h =
    (first_lowers false facts (SortsByIndex facts) weight weight weight_lifts
    (λ outer away us p q r placed k. sorts_lower facts us p q r k) h [] []
    (whole_placed false facts p whole)).falls
