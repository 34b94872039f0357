-- What a plan gives without a redundant Sort, it gave with it.
use Rattle.std.proofs.Common.{◌≡◌, ◌∙◌, ◌<◌, List, [], ◌∷◌, map, Bool, true, false, true≢false, refl, ap₂, sym, subst, subst₂, arith, ℕ, ◌+◌, ◌≤◌}
use Rattle.std.specs.Prelude.{zip, IsPermutation, Option, None}
use Rattle.std.specs.Cmp.{IsStrictWeakOrder}
use Rattle.std.proofs.lemmas.List.Sorted.{IsPermutation-refl, IsPermutation-map}
use Rattle.aql_value.specs.Datum.{Datum, null}
use Rattle.aql_tree.specs.declared.syntax.Ident.{Ident}
use Rattle.aql_tree.specs.Tree.{ExprTrees, no_exprs, expr_then}
use Rattle.aql_meaning.specs.AtRows.{keys_of}
use Rattle.aql_meaning.specs.Clauses.{KeyedRow, comes_before, Sorts}
use Rattle.aql_meaning.specs.Row.{Row}
use Rattle.aql_meaning.specs.Uses.{Uses}
use Rattle.aql_meaning.specs.laws.SomeAnswer.{some_sort}
use Rattle.aql_meaning.specs.laws.SomeOrder.{Ascends, AscendsAll, sorted_of_ascends, keyed_order}
use Rattle.aql_plan.specs.declared.facts.Facts.{Facts}
use Rattle.aql_plan.specs.Needs.{result_uses}
use Rattle.aql_plan.specs.Nodes.{weight, over}
use Rattle.aql_plan.specs.Plan.{Plan, Singleton, Over, Node, NoResults, Scatter, Distribute, Gather, Sort, top}
use Rattle.aql_plan.specs.Refines.{dataset, RefinesFor}
use Rattle.aql_plan.specs.Runs.{Dataset, Outside, Runs}
use Rattle.aql_plan.specs.Shapes.{plain_rows, lowest, other_reading, passing, sorting, KeepsShape}
use Rattle.aql_plan_laws.specs.laws.Agreement.{rows_agree}
use Rattle.aql_rewrite.specs.Constant.{AreConstant, constant_then}
use Rattle.aql_rewrite.specs.Children.{list_children}
use Rattle.aql_rewrite.specs.laws.Constants.{constant_value}
use Rattle.aql_rewrite.specs.declared.swap.Rename.{Rename}
use Rattle.aql_rewrite.specs.Changed.{IsChanged}
use Rattle.aql_rewrite.specs.Places.{Stays, First}
use Rattle.aql_rewrite.specs.Placed.{IsWhole, Placed}
use Rattle.aql_rewrite.specs.Swaps.{Replaced, KeepsPlaced}
use Rattle.aql_rewrite.specs.laws.Carried.{Lowers, first_lowers}
use Rattle.aql_rewrite.specs.laws.PlacedBelow.{whole_placed}
use Rattle.aql_rewrite.specs.laws.Weights.{weight_lifts}
use Rattle.aql_rules_order.specs.Readers.{is_open_sort, Becomes, InputBecomes}
use Rattle.aql_rules_order.specs.RemoveRedundantSorts.{IsIdle, goes_by_row, ignores_order, WithoutSort, here, below, Unsorts, constant_keys, order_lost}
use Rattle.aql_rules_order.specs.laws.Permuted.{unkeyed}
use Rattle.aql_rules_order.specs.laws.RowsPermuted.{row_by_row, order_free}
use Rattle.aql_rules_order.specs.laws.Spine.{takes_rows, made, run_of, SameFrame, frame_over, frame_kept}
use Rattle.aql_rewrite.specs.Sums.{total}

-- ---- constant keys leave the order open

same_keys : (es : ExprTrees) → AreConstant (list_children es) → (row other : Row)
    → keys_of es row ≡ keys_of es other
same_keys no_exprs h row other = refl
same_keys (expr_then e es) (constant_then h k) row other =
    ap₂ (λ v vs. v ∷ vs) (constant_value h null null row other) (same_keys es k row other)

not_itself : {X : Type 0} (lt : X → X → Bool) → IsStrictWeakOrder lt → (x : X) → lt x x ≡ false
not_itself lt o x = by (lt x x) refl
  where
    by : (b : Bool) → lt x x ≡ b → lt x x ≡ false
    by true e = o.one_way x x e
    by false e = e

module _ (directions : List Bool) (es : ExprTrees) (h : AreConstant (list_children es)) where
  abbrev lt : KeyedRow → KeyedRow → Bool
  lt = comes_before directions

  abbrev order : IsStrictWeakOrder lt
  order = keyed_order directions (λ (k : KeyedRow). k.0)

  tied : (row other : Row) → lt (keys_of es other, other) (keys_of es row, row) ≡ false
  tied row other =
      subst (λ (ks : List Datum). lt (ks, other) (keys_of es row, row) ≡ false) (same_keys es h row other)
      (not_itself (λ (a b : Row). lt (keys_of es row, a) (keys_of es row, b)) (record {
        one_way = λ a b. order.one_way (keys_of es row, a) (keys_of es row, b);
        chain = λ a b c. order.chain (keys_of es row, a) (keys_of es row, b) (keys_of es row, c);
      }) row)

  ascends_still : (row : Row) (rows : List Row)
      → Ascends lt order (keys_of es row, row) (zip (map (keys_of es) rows) rows)
  ascends_still row [] = tt
  ascends_still row (other ∷ rows) = (tied row other, ascends_still other rows)

  all_ascend : (rows : List Row) → AscendsAll lt order (zip (map (keys_of es) rows) rows)
  all_ascend [] = tt
  all_ascend (row ∷ rows) = ascends_still row rows

  sorted_already : (rows : List Row) → Sorts directions (map (keys_of es) rows) rows rows
  sorted_already rows = (
    zip (map (keys_of es) rows) rows,
    IsPermutation-refl _,
    sorted_of_ascends lt order _ (all_ascend rows),
    sym (unkeyed es rows),
  )

idle_refines : (us : Uses) (facts : Facts) (b : Plan) (n : Node) → IsIdle n → RefinesFor us facts b (Over b n)
idle_refines us facts b (Sort directions es None) h = λ db meets start out g.
    (out, (out, g, (out, sorted_already directions es h out, refl)), rows_agree us out)
idle_refines us facts b n h = absurd h

-- ---- without a Sort below nodes that go by row, the rows are permuted

by_row_takes : (n : Node) → goes_by_row n ≡ true → takes_rows n ≡ true
by_row_takes NoResults l = l
by_row_takes (Scatter coll only) l = l
by_row_takes (Distribute coll es) l = l
by_row_takes (Gather directions es) l = l
by_row_takes n l = refl

free_takes : (n : Node) → ignores_order n ≡ true → takes_rows n ≡ true
free_takes NoResults l = l
free_takes (Scatter coll only) l = l
free_takes (Distribute coll es) l = l
free_takes (Gather directions es) l = l
free_takes n l = refl

sort_permutes : (directions : List Bool) (es : ExprTrees) (rows out : List Row)
    → Sorts directions (map (keys_of es) rows) rows out → IsPermutation rows out
sort_permutes directions es rows out s =
    subst₂ (λ (xs ys : List Row). IsPermutation xs ys) (unkeyed es rows) (sym s.3)
    (IsPermutation-map (λ (k : KeyedRow). k.1) (zip (map (keys_of es) rows) rows) s.0 s.1)

some_with : {p c : Plan} → WithoutSort p c → (w : Dataset) (start : Row) (rows : List Row)
    → Runs c w Outside start rows
    → (others : List Row) × Runs p w Outside start others × IsPermutation rows others
some_with (here {directions = directions} {es = es}) w start rows g =
    let s = some_sort directions (map (keys_of es) rows) rows in
    (s.0, (rows, g, (s.0, s.1, refl)), sort_permutes directions es rows s.0 s.1)
some_with (below {b = b} {c = c} {n = n} l h) w start rows g =
    let k = made n (by_row_takes n l) c w start rows g in
    let before = some_with h w start k.0 k.1 in
    let after = row_by_row n w start k.0 before.0 rows l before.2 k.2 in
    (after.0, run_of n (by_row_takes n l) b w start after.0 (before.0, before.1, after.1), after.2)

pub unsorts_refine : (facts : Facts) (outer away : List Ident) (us : Uses) (p q : Plan) (r : Option Rename)
    → Placed false false facts outer away us p → Unsorts us p q r → Replaced false facts us p q r
unsorts_refine facts outer away _ _ _ _ placed (constant_keys {us = us} {b = b} {n = n} h) =
    idle_refines us facts b n h
unsorts_refine facts outer away _ _ _ _ placed (order_lost {us = us} {b = b} {c = c} {n = n} l other h) =
    λ db meets start out g.
    let w = dataset facts db in
    let k = made n (free_takes n l) c w start out g in
    let before = some_with h w start k.0 k.1 in (
      out,
      run_of n (free_takes n l) b w start out
          (before.0, before.1, order_free n w start k.0 before.0 out l placed.suits.1 before.2 k.2),
      rows_agree us out,
    )

-- ---- a well-formed plan stays so

sort_off : (facts : Facts) (b : Plan) (directions : List Bool) (es : ExprTrees)
    → KeepsShape false facts b (Over b (Sort directions es None))
sort_off facts b directions es s o (plain_rows i f h) = h
sort_off facts b directions es s o (lowest i f h) = absurd i
sort_off facts b directions es s o (other_reading i f h) = absurd i
sort_off facts b directions es s o (passing i f h) = absurd i
sort_off facts b directions es s o (sorting f h) = absurd (true≢false o)

pub frame_without : (facts : Facts) (outer : List Ident) {p c : Plan} → WithoutSort p c
    → SameFrame facts outer p c
frame_without facts outer (here {b = b} {directions = directions} {es = es}) = record {
  suits = λ k. k.0;
  shape = sort_off facts b directions es;
  found = λ f. f.0;
  vars = refl;
  set = refl;
}
frame_without facts outer (below {b = b} {c = c} {n = n} l h) =
    frame_over facts outer b c n (by_row_takes n l) (frame_without facts outer h)

frame_idle : (facts : Facts) (outer : List Ident) (b : Plan) (n : Node) → IsIdle n
    → SameFrame facts outer (Over b n) b
frame_idle facts outer b (Sort directions es None) h = frame_without facts outer here
frame_idle facts outer b n h = absurd h

pub unsorts_keep : (facts : Facts) (outer away : List Ident) (us : Uses) (p q : Plan) (r : Option Rename)
    → Placed false false facts outer away us p → Unsorts us p q r
    → KeepsPlaced false false facts outer us p q r
unsorts_keep facts outer away _ _ _ _ placed (constant_keys {us = us} {b = b} {n = n} h) =
    frame_kept facts outer us (Over b n) b (frame_idle facts outer b n h) placed.suits placed.found
unsorts_keep facts outer away _ _ _ _ placed (order_lost {us = us} {b = b} {c = c} {n = n} l other h) =
    frame_kept facts outer us (Over b n) (Over c n)
    (frame_over facts outer b c n (free_takes n l) (frame_without facts outer h)) placed.suits placed.found

-- ---- the pass ends

lighter : {p c : Plan} → WithoutSort p c → weight c < weight p
lighter here = omega arith
lighter (below l h) = omega (arith, lighter h)

unsorts_lower : (us : Uses) (p q : Plan) (r : Option Rename) → Unsorts us p q r → Lowers weight weight p q
unsorts_lower _ _ _ _ (constant_keys h) = record { falls = omega arith; stays = omega arith }
unsorts_lower _ _ _ _ (order_lost l other h) =
    record { falls = omega (arith, lighter h); stays = omega (arith, lighter h) }

pub unsorts_fall : (facts : Facts) (p q : Plan) (r : Option Rename) → IsWhole false facts p
    → First Unsorts false result_uses p q r → weight q < weight p
unsorts_fall facts p q r whole h =
    (first_lowers false facts Unsorts weight weight weight_lifts
    (λ outer away us p q r placed k. unsorts_lower us p q r k) h [] []
    (whole_placed false facts p whole)).falls

abbrev pub nothing : Node → ℕ
nothing n = 0

no_more : {p c : Plan} → WithoutSort p c → total nothing c ≤ total nothing p
no_more here = omega arith
no_more (below l h) = omega (arith, no_more h)

pub unsorts_blind : (us vs : Uses) (p q : Plan) (r : Option Rename) → Unsorts us p q r → Unsorts vs p q r
unsorts_blind _ vs _ _ _ (constant_keys h) = (constant_keys h)
unsorts_blind _ vs _ _ _ (order_lost l other h) = (order_lost l other h)

pub unsorts_nameless : (us : Uses) (p q : Plan) (r : Option Rename) → Unsorts us p q r → r ≡ None
unsorts_nameless _ _ _ _ (constant_keys h) = refl
unsorts_nameless _ _ _ _ (order_lost l other h) = refl

pub unsorts_shrink : (us : Uses) (p q : Plan) (r : Option Rename) → Unsorts us p q r
    → weight q + total nothing q < weight p + total nothing p
unsorts_shrink _ _ _ _ (constant_keys h) = omega arith
unsorts_shrink _ _ _ _ (order_lost l other h) = omega (arith, lighter h, no_more h)

-- ---- what the rule finds

open_sort : (b : Plan) (n : Node) → is_open_sort n ≡ true → WithoutSort (Over b n) b
open_sort b (Sort directions es None) h = here
open_sort b n h = absurd (true≢false (sym h))

pub sort_out_at : (p q : Plan) → is_open_sort (top p) ≡ true → p ≡ over p q → WithoutSort p q
sort_out_at Singleton q h e = absurd (true≢false (sym h))
sort_out_at (Over b n) q h e = subst (λ (p : Plan). WithoutSort p q) (sym e) (open_sort q n h)

pub no_sort_here : (p : Plan) → is_open_sort (top p) ≡ false → goes_by_row (top p) ≡ false
    → (q : Plan) → WithoutSort p q → ⊥
no_sort_here _ h l _ here = true≢false h
no_sort_here _ h l _ (below m k) = true≢false (sym m ∙ l)

no_sort_below : (p : Plan) → is_open_sort (top p) ≡ false
    → ((b c : Plan) → p ≡ Over b (top p) → WithoutSort b c → ⊥) → (q : Plan) → WithoutSort p q → ⊥
no_sort_below _ h f _ here = true≢false h
no_sort_below _ h f _ (below {b = b} {c = c} m k) = f b c refl k

pub sort_through : (p q : Plan) (removed : Bool) → is_open_sort (top p) ≡ false
    → goes_by_row (top p) ≡ true → InputBecomes WithoutSort p q removed → Becomes WithoutSort p q removed
sort_through p q true h l k =
    subst₂ (λ (m s : Plan). WithoutSort m s) (sym k.2) (sym k.3) (below l k.4)
sort_through p q false h l k = (no_sort_below p h k.0, k.1)

pub idle_at : (us : Uses) (p q : Plan) → IsIdle (top p) → p ≡ over p q → Unsorts us p q None
idle_at us Singleton q h e = absurd h
idle_at us (Over b n) q h e = subst (λ (p : Plan). Unsorts us p q None) (sym e) (constant_keys h)

pub stays_sorted : (us : Uses) (p : Plan) → (IsIdle (top p) → ⊥) → ignores_order (top p) ≡ false
    → Stays Unsorts us p
stays_sorted us _ f l _ _ (constant_keys h) = f h
stays_sorted us _ f l _ _ (order_lost m other h) = true≢false (sym m ∙ l)

stays_without : (us : Uses) (p : Plan) → (IsIdle (top p) → ⊥)
    → ((b c : Plan) → p ≡ Over b (top p) → WithoutSort b c → ⊥) → Stays Unsorts us p
stays_without us _ f g _ _ (constant_keys h) = f h
stays_without us _ f g _ _ (order_lost {b = b} {c = c} m other h) = g b c refl h

pub order_lost_at : (us : Uses) (p q : Plan) (removed : Bool) → (IsIdle (top p) → ⊥)
    → ignores_order (top p) ≡ true → InputBecomes WithoutSort p q removed → IsChanged Unsorts us p q removed
order_lost_at us p q true f l k =
    subst₂ (λ (m s : Plan). Unsorts us m s None) (sym k.2) (sym k.3) (order_lost l f k.4)
order_lost_at us p q false f l k = (stays_without us p f k.0, k.1)
