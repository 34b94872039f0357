-- A Calculation or a Subquery whose variable is not used goes.
use Rattle.std.proofs.Common.{◌≡◌, ◌∙◌, ℕ, suc, ◌<◌, ◌≤◌, List, [], ◌∷◌, ◌++◌, map, Bool, true, false, true≢false, cond, refl, ap, sym, subst₂, arith, ◌+◌}
use Rattle.std.specs.Prelude.{not, Option, None}
use Rattle.std.specs.List.{AllZip}
use Rattle.aql_value.specs.Contents.{list}
use Rattle.aql_tree.specs.declared.syntax.Ident.{Ident}
use Rattle.aql_tree.specs.Tree.{ExprTree}
use Rattle.aql_meaning.specs.AtRows.{value_of, values_of}
use Rattle.aql_meaning.specs.Clauses.{with_values}
use Rattle.aql_meaning.specs.Row.{Row, bind, same_ident}
use Rattle.aql_meaning.specs.Uses.{Uses, Agree, is_used}
use Rattle.aql_plan.specs.declared.facts.Facts.{Facts}
use Rattle.aql_plan.specs.Plan.{Plan, Singleton, Over, Node, Calculation, Subquery, top}
use Rattle.aql_plan.specs.Needs.{result_uses}
use Rattle.aql_plan.specs.Nodes.{over, weight}
use Rattle.aql_plan.specs.Refines.{dataset}
use Rattle.aql_plan.specs.Runs.{Outside, Runs, result_of}
use Rattle.aql_plan.specs.Shapes.{calculated, with_subquery as subquery_shaped, plain_rows, lowest, other_reading, passing, KeepsShape}
use Rattle.aql_plan.specs.Variables.{vars_of, vars_set, count}
use Rattle.aql_plan_laws.specs.laws.Among.{count_append}
use Rattle.aql_plan.specs.laws.SomeRun.{some_run}
use Rattle.aql_rewrite.specs.declared.swap.Rename.{Rename}
use Rattle.aql_rewrite.specs.Places.{Stays, First}
use Rattle.aql_rewrite.specs.Placed.{IsWhole, Placed}
use Rattle.aql_rewrite.specs.Swaps.{Replaced, KeepsPlaced}
use Rattle.aql_rewrite.specs.laws.Carried.{Lowers, first_lowers}
use Rattle.aql_rewrite.specs.laws.PlacedBelow.{whole_placed}
use Rattle.aql_rewrite.specs.laws.Weights.{weight_lifts}
use Rattle.aql_rules_calc.specs.Readers.{is_unneeded}
use Rattle.aql_rules_calc.specs.RemoveUnnecessaryCalculations.{Removes, calculation, with_subquery}
use Rattle.aql_rewrite.specs.laws.Unused.{agree_unused, one_gone}
use Rattle.aql_rewrite.specs.Sums.{total}

-- ---- the lists are the same in what is used

bound_more : (us : Uses) (x : Ident) (e : ExprTree) → is_used x us ≡ false → (rows : List Row)
    → AllZip (Agree us) rows (with_values x rows (values_of e rows))
bound_more us x e h [] = tt
bound_more us x e h (row ∷ rows) = (agree_unused us x row (value_of e row) h, bound_more us x e h rows)

given_more : (us : Uses) (G : Row → Row → Type 0) → ((row : Row) → (s : Row) × G row s × Agree us row s)
    → (rows : List Row) → (out : List Row) × AllZip G rows out × AllZip (Agree us) rows out
given_more us G f [] = ([], tt, tt)
given_more us G f (row ∷ rows) =
    let a = f row in
    let k = given_more us G f rows in
    (a.0 ∷ k.0, (a.1, k.1), (a.2, k.2))

pub removes_refine : (facts : Facts) (us : Uses) (p q : Plan) (r : Option Rename) → Removes us p q r
    → Replaced false facts us p q r
removes_refine facts _ _ _ _ (calculation {us = us} {x = x} {e = e} h) = λ db meets start out g.
    (with_values x out (values_of e out), (out, g, refl), bound_more us x e h out)
removes_refine facts _ _ _ _ (with_subquery {us = us} {s = s} {x = x} h) = λ db meets start out g.
    let k = given_more us
    (λ row given. (results : List Row) × Runs s (dataset facts db) Outside row results
    × (given ≡ bind x row (list (map result_of results))))
    (λ row. let a = some_run s (dataset facts db) Outside row in (
      bind x row (list (map result_of a.0)),
      (a.0, a.1, refl),
      agree_unused us x row (list (map result_of a.0)) h,
    ))
    out in
    (k.0, (out, g, k.1), k.2)

-- ---- a well-formed plan stays so

pub more : (t : Bool) (m n : ℕ) → n ≤ m → n ≤ cond t (suc m) m
more true m n h = omega (arith, h)
more false m n h = h

pub calculation_off : (facts : Facts) (b : Plan) (x : Ident) (e : ExprTree)
    → KeepsShape false facts b (Over b (Calculation x e))
calculation_off facts b x e s o (calculated f h) = h
calculation_off facts b x e s o (plain_rows i f h) = absurd i
calculation_off facts b x e s o (lowest i f h) = absurd i
calculation_off facts b x e s o (other_reading i f h) = absurd i
calculation_off facts b x e s o (passing i f h) = cc

subquery_off : (facts : Facts) (b : Plan) (x : Ident) (t : Plan)
    → KeepsShape false facts b (Over b (Subquery x t))
subquery_off facts b x t s o (subquery_shaped g h) = h
subquery_off facts b x t s o (plain_rows i f h) = absurd i
subquery_off facts b x t s o (lowest i f h) = absurd i
subquery_off facts b x t s o (other_reading i f h) = absurd i
subquery_off facts b x t s o (passing i f h) = absurd i

pub removes_keep : (facts : Facts) (outer away : List Ident) (us : Uses) (p q : Plan) (r : Option Rename)
    → Placed false false facts outer away us p → Removes us p q r
    → KeepsPlaced false false facts outer us p q r
removes_keep facts outer away _ _ _ _ placed (calculation {us = us} {b = b} {x = x} {e = e} h) = record {
  suits = placed.suits.0;
  shape = calculation_off facts b x e;
  found = placed.found.0;
  vars = one_gone us x (vars_of outer b) h;
  fewer = λ z. more (same_ident z x) (count z (vars_set b)) (count z (vars_set b)) (omega arith);
}
removes_keep facts outer away _ _ _ _ placed (with_subquery {us = us} {b = b} {s = s} {x = x} h) = record {
  suits = placed.suits.0;
  shape = subquery_off facts b x s;
  found = placed.found.0;
  vars = one_gone us x (vars_of outer b) h;
  fewer = λ z. more (same_ident z x) (count z (vars_set s ++ vars_set b)) (count z (vars_set b))
      (omega (arith, count_append z (vars_set s) (vars_set b)));
}

-- ---- the pass ends

removes_lower : (us : Uses) (p q : Plan) (r : Option Rename) → Removes us p q r → Lowers weight weight p q
removes_lower _ _ _ _ (calculation h) = record { falls = omega arith; stays = omega arith }
removes_lower _ _ _ _ (with_subquery h) = record { falls = omega arith; stays = omega arith }

pub removes_fall : (facts : Facts) (p q : Plan) (r : Option Rename) → IsWhole false facts p
    → First Removes false result_uses p q r → weight q < weight p
removes_fall facts p q r whole h =
    (first_lowers false facts Removes weight weight weight_lifts
    (λ outer away us p q r placed k. removes_lower us p q r k) h [] []
    (whole_placed false facts p whole)).falls

abbrev pub nothing : Node → ℕ
nothing n = 0

pub removes_nameless : (us : Uses) (p q : Plan) (r : Option Rename) → Removes us p q r → r ≡ None
removes_nameless _ _ _ _ (calculation h) = refl
removes_nameless _ _ _ _ (with_subquery h) = refl

pub removes_shrink : (us : Uses) (p q : Plan) (r : Option Rename) → Removes us p q r
    → weight q + total nothing q < weight p + total nothing p
removes_shrink _ _ _ _ (calculation h) = omega arith
removes_shrink _ _ _ _ (with_subquery h) = omega arith

-- ---- what the rule finds

pub needed_stays : (us : Uses) (p : Plan) → is_unneeded us (top p) ≡ false → Stays Removes us p
needed_stays us _ h _ _ (calculation {x = x} k) = true≢false (sym (ap not k) ∙ h)
needed_stays us _ h _ _ (with_subquery {x = x} k) = true≢false (sym (ap not k) ∙ h)

unused : (b : Bool) → not b ≡ true → b ≡ false
unused true h = absurd (true≢false (sym h))
unused false h = refl

removes_top : (us : Uses) (b : Plan) (n : Node) → is_unneeded us n ≡ true → Removes us (Over b n) b None
removes_top us b (Calculation x e) h = calculation (unused (is_used x us) h)
removes_top us b (Subquery x s) h = with_subquery (unused (is_used x us) h)
removes_top us b n h = absurd (true≢false (sym h))

pub removes_at : (us : Uses) (p b q : Plan) → p ≡ Over b (top p) → is_unneeded us (top p) ≡ true → q ≡ b
    → Removes us p q None
removes_at us p b q i h k =
    subst₂ (λ (m s : Plan). Removes us m s None) (sym i) (sym k) (removes_top us b (top p) h)

-- the input that a part gives back
pub removes_back : (us : Uses) (p b q : Plan) → p ≡ over p b → is_unneeded us (top p) ≡ true → q ≡ b
    → Removes us p q None
removes_back us Singleton b q i h k = absurd (true≢false (sym h))
removes_back us (Over c n) b q i h k = removes_at us (Over c n) b q i h k
