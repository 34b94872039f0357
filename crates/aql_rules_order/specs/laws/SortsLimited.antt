-- What a plan gives with a limit at a Sort below a Limit, it gave without.
use Rattle.std.proofs.Common.{◌≡◌, ◌∙◌, ℕ, zero, suc, ◌+◌, ◌<◌, ◌^◌, List, [], ◌∷◌, map, take, drop, Bool, true, false, true≢false, refl, ap, sym, subst, subst₂, arith}
use Rattle.std.specs.Prelude.{Option, Some, None}
use Rattle.std.specs.List.{AllZip}
use Rattle.std.proofs.lemmas.List.{drop-take}
use Rattle.aql_value.specs.Contents.{list}
use Rattle.aql_tree.specs.declared.syntax.Ident.{Ident}
use Rattle.aql_tree.specs.Tree.{ExprTree, ExprTrees}
use Rattle.aql_meaning.specs.AtRows.{value_of, values_of}
use Rattle.aql_meaning.specs.Clauses.{with_values, limit_rows}
use Rattle.aql_meaning.specs.Row.{Row, bind}
use Rattle.aql_meaning.specs.Uses.{Uses}
use Rattle.aql_meaning.specs.laws.SomeAnswer.{all_some}
use Rattle.aql_plan.specs.declared.facts.Facts.{Facts}
use Rattle.aql_plan.specs.Exprs.{map_node}
use Rattle.aql_plan.specs.Needs.{result_uses}
use Rattle.aql_plan.specs.Nodes.{weight}
use Rattle.aql_plan.specs.Plan.{Plan, Singleton, Over, Node, NoResults, Scatter, Distribute, Gather, Calculation, Subquery, Sort, Limit, top}
use Rattle.aql_plan.specs.Refines.{dataset}
use Rattle.aql_plan.specs.Runs.{Dataset, Outside, Runs, Gives, result_of}
use Rattle.aql_plan.specs.Shapes.{Shape, Shaped, is_inside, plain_rows, lowest, other_reading, passing, sorting, KeepsShape}
use Rattle.aql_plan_laws.specs.laws.Agreement.{rows_agree}
use Rattle.aql_plan.specs.laws.SomeRun.{some_run}
use Rattle.aql_rewrite.specs.declared.swap.Rename.{Rename}
use Rattle.aql_rewrite.specs.Changed.{IsChanged}
use Rattle.aql_rewrite.specs.Places.{Stays, First}
use Rattle.aql_rewrite.specs.Placed.{IsWhole, Placed, IsPlaced}
use Rattle.aql_rewrite.specs.Swaps.{Replaced, KeepsPlaced}
use Rattle.aql_rewrite.specs.Sums.{total}
use Rattle.aql_rewrite.specs.laws.Falling.{total_falls}
use Rattle.aql_rules_order.specs.Readers.{is_open_sort, with_limit, limit_in, Becomes, InputBecomes}
use Rattle.aql_rules_order.specs.SortLimit.{sets_value, Limited, here, below, Limits, limited}
use Rattle.aql_rules_order.specs.Measures.{is_unlimited}
use Rattle.aql_rules_order.specs.laws.Spine.{takes_rows, made, run_of, SameFrame, frame_over, frame_kept}

-- ---- the first rows

take_twice : {X : Type 0} (n : ℕ) (xs : List X) → take n (take n xs) ≡ take n xs
take_twice zero xs = refl
take_twice (suc n) [] = refl
take_twice (suc n) (x ∷ xs) = ap (λ ys. x ∷ ys) (take_twice n xs)

limited_same : (offset most : ℕ) (rows : List Row)
    → limit_rows offset most (take (offset + most) rows) ≡ limit_rows offset most rows
limited_same offset most rows =
    ap (take most) (drop-take offset most rows) ∙ take_twice most (drop offset rows)

bound_first : (x : Ident) (e : ExprTree) (limit : ℕ) (rows : List Row)
    → with_values x (take limit rows) (values_of e (take limit rows))
    ≡ take limit (with_values x rows (values_of e rows))
bound_first x e zero rows = refl
bound_first x e (suc limit) [] = refl
bound_first x e (suc limit) (row ∷ rows) =
    ap (λ rs. bind x row (value_of e row) ∷ rs) (bound_first x e limit rows)

-- what belongs to the first rows goes on to all rows
given_first : (G : Row → Row → Type 0) → ((row : Row) → (given : Row) × G row given) → (limit : ℕ)
    → (rows out : List Row) → AllZip G (take limit rows) out
    → (more : List Row) × AllZip G rows more × (out ≡ take limit more)
given_first G some zero rows [] h = let a = all_some G some rows in (a.0, a.1, refl)
given_first G some zero rows (y ∷ out) h = absurd h
given_first G some (suc limit) [] [] h = ([], tt, refl)
given_first G some (suc limit) [] (y ∷ out) h = absurd h
given_first G some (suc limit) (row ∷ rows) [] h = absurd h
given_first G some (suc limit) (row ∷ rows) (y ∷ out) h =
    let a = given_first G some limit rows out h.1 in
    (y ∷ a.0, (h.0, a.1), ap (λ ys. y ∷ ys) a.2)

first_given : (n : Node) (w : Dataset) (start : Row) (limit : ℕ) (rows out : List Row) → sets_value n ≡ true
    → Gives n w Outside start (take limit rows) out
    → (more : List Row) × Gives n w Outside start rows more × (out ≡ take limit more)
first_given (Calculation x e) w start limit rows out l g =
    (with_values x rows (values_of e rows), refl, g ∙ bound_first x e limit rows)
first_given (Subquery x s) w start limit rows out l g = given_first
    (λ row given. (results : List Row) × Runs s w Outside row results
    × (given ≡ bind x row (list (map result_of results))))
    (λ row. let a = some_run s w Outside row in (bind x row (list (map result_of a.0)), (a.0, a.1, refl)))
    limit rows out g
first_given n w start limit rows out l g = absurd (true≢false (sym l))

value_takes : (n : Node) → sets_value n ≡ true → takes_rows n ≡ true
value_takes NoResults l = l
value_takes (Scatter coll only) l = l
value_takes (Distribute coll es) l = l
value_takes (Gather directions es) l = l
value_takes n l = refl

unlimited_run : {limit : ℕ} {p c : Plan} → Limited limit p c → (w : Dataset) (start : Row) (out : List Row)
    → Runs c w Outside start out
    → (more : List Row) × Runs p w Outside start more × (out ≡ take limit more)
unlimited_run here w start out g = (g.2.0, (g.0, g.1, (g.2.0, g.2.1, refl)), g.2.2)
unlimited_run {limit} (below {b = b} {c = c} {n = n} l h) w start out g =
    let k = made n (value_takes n l) c w start out g in
    let before = unlimited_run h w start k.0 k.1 in
    let after = first_given n w start limit before.0 out l
    (subst (λ (rows : List Row). Gives n w Outside start rows out) before.2 k.2) in
    (after.0, run_of n (value_takes n l) b w start after.0 (before.0, before.1, after.1), after.2)

pub limits_refine : (facts : Facts) (us : Uses) (p q : Plan) (r : Option Rename) → Limits us p q r
    → Replaced false facts us p q r
limits_refine facts _ _ _ _ (limited {us = us} {offset = offset} {most = most} h) = λ db meets start out g.
    let k = unlimited_run h (dataset facts db) start g.0 g.1 in (
      out,
      (k.0, k.1, g.2 ∙ ap (limit_rows offset most) k.2 ∙ limited_same offset most k.0),
      rows_agree us out,
    )

-- ---- a well-formed plan stays so

limit_on : (facts : Facts) (b : Plan) (directions : List Bool) (es : ExprTrees) (limit : ℕ) → limit < 2 ^ 64
    → KeepsShape false facts (Over b (Sort directions es (Some limit))) (Over b (Sort directions es None))
limit_on facts b directions es limit l s o (plain_rows i f h) = plain_rows tt (f.0, l) h
limit_on facts b directions es limit l s o (lowest i f h) = absurd i
limit_on facts b directions es limit l s o (other_reading i f h) = absurd i
limit_on facts b directions es limit l s o (passing i f h) = absurd i
limit_on facts b directions es limit l s o (sorting f h) = absurd (true≢false o)

frame_limited : (facts : Facts) (outer : List Ident) {limit : ℕ} {p c : Plan} → limit < 2 ^ 64
    → Limited limit p c → SameFrame facts outer p c
frame_limited facts outer {limit} l (here {b = b} {directions = directions} {es = es}) = record {
  suits = λ k. k;
  shape = limit_on facts b directions es limit l;
  found = λ f. f;
  vars = refl;
  set = refl;
}
frame_limited facts outer l (below {b = b} {c = c} {n = n} m h) =
    frame_over facts outer b c n (value_takes n m) (frame_limited facts outer l h)

-- the numbers of a Limit are in range together
fits_range : (facts : Facts) (b : Plan) (offset most : ℕ) (s : Shape) → is_inside s ≡ false
    → Shaped facts (Over b (Limit offset most)) s → offset + most < 2 ^ 64
fits_range facts b offset most s o (plain_rows i f h) = f
fits_range facts b offset most s o (lowest i f h) = absurd i
fits_range facts b offset most s o (other_reading i f h) = absurd i
fits_range facts b offset most s o (passing i f h) = absurd i

pub in_range : (facts : Facts) (us : Uses) (p : Plan) (offset most : ℕ) → IsPlaced false false facts us p
    → top p ≡ Limit offset most → offset + most < 2 ^ 64
in_range facts us Singleton offset most placed e = cc
in_range facts us (Over b n) offset most placed e =
    let s = placed.2.shaped in
    fits_range facts b offset most s.0 s.1 (subst (λ (m : Node). Shaped facts (Over b m) s.0) e s.2)

pub limits_keep : (facts : Facts) (outer away : List Ident) (us : Uses) (p q : Plan) (r : Option Rename)
    → Placed false false facts outer away us p → Limits us p q r
    → KeepsPlaced false false facts outer us p q r
limits_keep facts outer away _ _ _ _ placed
    (limited {us = us} {b = b} {c = c} {offset = offset} {most = most} h) =
    let s = placed.shaped in
    let l = fits_range facts b offset most s.0 s.1 s.2 in
    frame_kept facts outer us (Over b (Limit offset most)) (Over c (Limit offset most))
    (frame_over facts outer b c (Limit offset most) refl (frame_limited facts outer l h)) placed.suits
    placed.found

-- ---- the pass ends

same_unlimited : (f : ExprTree → ExprTree) (n : Node) → is_unlimited (map_node f n) ≡ is_unlimited n
same_unlimited f (Sort directions es None) = refl
same_unlimited f (Sort directions es (Some limit)) = refl
same_unlimited f n = refl

fewer : {limit : ℕ} {p c : Plan} → Limited limit p c → total is_unlimited c < total is_unlimited p
fewer here = omega arith
fewer (below l h) = omega (arith, fewer h)

limits_lower : (us : Uses) (p q : Plan) (r : Option Rename) → Limits us p q r
    → total is_unlimited q < total is_unlimited p
limits_lower _ _ _ _ (limited h) = omega (arith, fewer h)

as_many : {limit : ℕ} {p c : Plan} → Limited limit p c → weight c ≡ weight p
as_many here = refl
as_many (below l h) = omega (arith, as_many h)

pub limits_blind : (us vs : Uses) (p q : Plan) (r : Option Rename) → Limits us p q r → Limits vs p q r
limits_blind _ vs _ _ _ (limited h) = (limited h)

pub limits_nameless : (us : Uses) (p q : Plan) (r : Option Rename) → Limits us p q r → r ≡ None
limits_nameless _ _ _ _ (limited h) = refl

pub limits_shrink : (us : Uses) (p q : Plan) (r : Option Rename) → Limits us p q r
    → weight q + total is_unlimited q < weight p + total is_unlimited p
limits_shrink _ _ _ _ (limited h) = omega (arith, fewer h, as_many h)

pub limits_fall : (facts : Facts) (p q : Plan) (r : Option Rename) → IsWhole false facts p
    → First Limits false result_uses p q r → total is_unlimited q < total is_unlimited p
limits_fall facts = total_falls is_unlimited same_unlimited facts Limits limits_lower

-- ---- what the rule finds

open_limited : (limit : ℕ) (b : Plan) (n : Node) → is_open_sort n ≡ true
    → Limited limit (Over b n) (with_limit limit (Over b n))
open_limited limit b (Sort directions es None) h = here
open_limited limit b n h = absurd (true≢false (sym h))

pub limit_at : (limit : ℕ) (p q : Plan) → is_open_sort (top p) ≡ true → q ≡ with_limit limit p
    → Limited limit p q
limit_at limit Singleton q h e = absurd (true≢false (sym h))
limit_at limit (Over b n) q h e = subst (Limited limit (Over b n)) (sym e) (open_limited limit b n h)

pub no_limit_here : (limit : ℕ) (p : Plan) → is_open_sort (top p) ≡ false → sets_value (top p) ≡ false
    → (q : Plan) → Limited limit p q → ⊥
no_limit_here limit _ h l _ here = true≢false h
no_limit_here limit _ h l _ (below m k) = true≢false (sym m ∙ l)

no_limit_below : (limit : ℕ) (p : Plan) → is_open_sort (top p) ≡ false
    → ((b c : Plan) → p ≡ Over b (top p) → Limited limit b c → ⊥) → (q : Plan) → Limited limit p q → ⊥
no_limit_below limit _ h f _ here = true≢false h
no_limit_below limit _ h f _ (below {b = b} {c = c} m k) = f b c refl k

pub limit_through : (limit : ℕ) (p q : Plan) (changed : Bool) → is_open_sort (top p) ≡ false
    → sets_value (top p) ≡ true → InputBecomes (Limited limit) p q changed
    → Becomes (Limited limit) p q changed
limit_through limit p q true h l k =
    subst₂ (λ (m s : Plan). Limited limit m s) (sym k.2) (sym k.3) (below l k.4)
limit_through limit p q false h l k = (no_limit_below limit p h k.0, k.1)

pub no_limit_at : (us : Uses) (p : Plan) → limit_in (top p) ≡ None → Stays Limits us p
no_limit_at us _ h _ _ (limited k) = cc

not_limited : (us : Uses) (p : Plan) (offset most : ℕ) → top p ≡ Limit offset most
    → ((b c : Plan) → p ≡ Over b (top p) → Limited (offset + most) b c → ⊥) → Stays Limits us p
not_limited us _ offset most e f _ _ (limited {b = b} {c = c} {offset = first} {most = count} h) =
    let i : first ≡ offset = cc in
    let j : count ≡ most = cc in
    f b c refl (subst₂ (λ (n m : ℕ). Limited (n + m) b c) i j h)

pub limits_changed : (us : Uses) (p q : Plan) (offset most : ℕ) (changed : Bool)
    → top p ≡ Limit offset most → InputBecomes (Limited (offset + most)) p q changed
    → IsChanged Limits us p q changed
limits_changed us p q offset most true e k =
    subst₂ (λ (m s : Plan). Limits us m s None) (sym (k.2 ∙ ap (Over k.0) e)) (sym (k.3 ∙ ap (Over k.1) e))
    (limited k.4)
limits_changed us p q offset most false e k = (not_limited us p offset most e k.0, k.1)
