-- A part of a placed part is placed: the input of a node, and the body of a subquery.
use Rattle.std.proofs.Common.{◌≡◌, ◌∙◌, ℕ, suc, ◌+◌, ◌≤◌, List, [], ◌∷◌, ◌++◌, Bool, true, false, cond, refl, ap, sym, subst, arith}
use Rattle.aql_value.specs.laws.Alls.{all_parts}
use Rattle.aql_tree.specs.declared.syntax.Ident.{Ident}
use Rattle.aql_tree.specs.declared.syntax.Ident.TheVariants.{Num}
use Rattle.aql_meaning.specs.Row.{same_ident}
use Rattle.aql_meaning.specs.Numbered.{IsNumber}
use Rattle.aql_meaning.specs.Uses.{Uses}
use Rattle.aql_meaning.specs.declared.grouping.Stage.TheVariants as stage
use Rattle.aql_plan.specs.declared.facts.Facts.{Facts}
use Rattle.aql_plan.specs.Plan.{Plan, Singleton, Over, Node, Subquery, Collect, Return}
use Rattle.aql_plan.specs.Needs.{sets, under, result_uses}
use Rattle.aql_plan.specs.Above.{input_inside}
use Rattle.aql_plan.specs.Variables.{vars_of, vars_set, set_once, count}
use Rattle.aql_plan.specs.Shapes.{Shape, Result, Shaped}
use Rattle.aql_plan_laws.specs.laws.ShapesKept.{under_top, body_shaped}
use Rattle.aql_plan_laws.specs.laws.Among.{count_append, counted_once}
use Rattle.aql_rewrite.specs.Placed.{Suits, IsWhole, Placed}
use Rattle.aql_rewrite.specs.laws.Among.{within_back, within_self, among_within}
use Rattle.aql_rewrite.specs.laws.UsesFound.{final_set, results_found, has_body, used_below}

suits_below : (k : Bool) (facts : Facts) (b : Plan) (n : Node) → Suits k facts (Over b n) → Suits k facts b
suits_below true facts b n h = h
suits_below false facts b n h = h.0

suits_body : (k : Bool) (facts : Facts) (b s : Plan) (x : Ident) → Suits k facts (Over b (Subquery x s))
    → Suits k facts s
suits_body true facts b s x h = h
suits_body false facts b s x h = h.1

sum_below : (a b c xs ys zs : ℕ) → a ≡ xs + ys → b ≡ xs + zs → a + (zs + c) ≤ 1 → ys + (b + c) ≤ 1
sum_below a b c xs ys zs e f h = omega (arith, e, f, h)

pub placed_below : (k inside : Bool) (facts : Facts) (outer away : List Ident) (us : Uses) (n : Node)
    (b : Plan)
    → Placed k inside facts outer away us (Over b n)
    → Placed k (input_inside n inside) facts outer (set_once n ++ away) (under n us) b
placed_below k inside facts outer away us n b h =
    let a = under_top facts b n h.shaped.0 h.shaped.2 in record {
      known = h.known;
      suits = suits_below k facts b n h.suits;
      shaped = (a.0, a.1 ∙ ap (input_inside n) h.shaped.1, a.2);
      found = h.found.0;
      used = used_below facts outer away us n b (has_body facts h.shaped.0 b n h.shaped.2) h.found h.used;
      once =
          λ z e. sum_below (count z (set_once n ++ vars_set b)) (count z (set_once n ++ away)) (count z outer)
          (count z (set_once n)) (count z (vars_set b)) (count z away) (count_append z (set_once n)
          (vars_set b))
          (count_append z (set_once n) away) (h.once z e);
      numbers = (all_parts IsNumber (set_once n) (vars_set b) h.numbers).1;
    }

-- the variables of rows are set below or outer
vars_counted : (facts : Facts) (outer : List Ident) (p : Plan) (s : Shape) → Shaped facts p s
    → (z : Ident) → same_ident z (Num 0) ≡ false
    → count z (vars_of outer p) ≤ count z (vars_set p) + count z outer
vars_counted facts outer Singleton s shaped z e = omega arith
vars_counted facts outer (Over b (Collect xs es gs i stage.Final)) s shaped z e =
    let ys = sets (Collect xs es gs i stage.Final) in
    let f = final_set facts s b xs es gs i shaped in
    omega (arith, count_append z ys outer, count_append z ys f.0, ap (count z) f.1)
vars_counted facts outer (Over b (Collect xs es gs i c)) s shaped z e =
    let ys = sets (Collect xs es gs i c) in
    omega (arith, count_append z ys outer, count_append z ys (vars_set b))
vars_counted facts outer (Over b (Return distinct f)) s shaped z e =
    subst (λ (t : Bool). cond t 1 0 ≤ count z (vars_set b) + count z outer) (sym e) (omega arith)
vars_counted facts outer (Over b (Subquery x t)) s shaped z e =
    let a = under_top facts b (Subquery x t) s shaped in
    by (same_ident z x) (count_append z (vars_set t) (vars_set b)) (vars_counted facts outer b a.0 a.2 z e)
  where
    by : (c : Bool) → count z (vars_set t ++ vars_set b) ≡ count z (vars_set t) + count z (vars_set b)
        → count z (vars_of outer b) ≤ count z (vars_set b) + count z outer
        → cond c (suc (count z (vars_of outer b))) (count z (vars_of outer b))
        ≤ cond c (suc (count z (vars_set t ++ vars_set b)))
        (count z (vars_set t ++ vars_set b)) + count z outer
    by true f k = omega (arith, f, k)
    by false f k = omega (arith, f, k)
vars_counted facts outer (Over b n) s shaped z e =
    let a = under_top facts b n s shaped in
    let k = vars_counted facts outer b a.0 a.2 z e in
    omega (arith, k, count_append z (sets n) (vars_of outer b), count_append z (sets n) (vars_set b))

pub placed_body : (k inside : Bool) (facts : Facts) (outer away : List Ident) (us : Uses) (x : Ident)
    (s b : Plan)
    → Placed k inside facts outer away us (Over b (Subquery x s))
    → Placed k false facts (vars_of outer b) (x ∷ away) result_uses s
placed_body k inside facts outer away us x s b h =
    let a = under_top facts b (Subquery x s) h.shaped.0 h.shaped.2 in
    let r = body_shaped facts h.shaped.0 b x s h.shaped.2 in record {
      known = h.known;
      suits = suits_body k facts b s x h.suits;
      shaped = (Result, refl, r);
      found = h.found.3;
      used =
          among_within result_uses ([] ++ vars_of (vars_of outer b) s) ((x ∷ away)
          ++ vars_of (vars_of outer b) s)
          (within_back (vars_of (vars_of outer b) s) (x ∷ away) (vars_of (vars_of outer b) s)
          (within_self (vars_of (vars_of outer b) s))) (results_found facts (vars_of outer b) s r);
      once = λ z e. by z (same_ident z x) (h.once z e) (vars_counted facts outer b a.0 a.2 z e)
          (count_append z (vars_set s) (vars_set b));
      numbers = (all_parts IsNumber (vars_set s) (vars_set b) h.numbers.1).0;
    }
  where
    by : (z : Ident) (t : Bool)
        → cond t (suc (count z (vars_set s ++ vars_set b))) (count z (vars_set s ++ vars_set b))
        + (count z away + count z outer) ≤ 1
        → count z (vars_of outer b) ≤ count z (vars_set b) + count z outer
        → count z (vars_set s ++ vars_set b) ≡ count z (vars_set s) + count z (vars_set b)
        → count z (vars_set s) + (cond t (suc (count z away)) (count z away) + count z (vars_of outer b)) ≤ 1
    by z true h k e = omega (arith, h, k, e)
    by z false h k e = omega (arith, h, k, e)

-- a whole plan is placed
pub whole_placed : (k : Bool) (facts : Facts) (p : Plan) → IsWhole k facts p
    → Placed k false facts [] [] result_uses p
whole_placed k facts p h = record {
  known = h.0.0;
  suits = h.1;
  shaped = (Result, refl, h.0.1);
  found = h.0.2;
  used = results_found facts [] p h.0.1;
  once = λ z e. omega (arith, counted_once (vars_set p ++ []) h.0.3 z, count_append z (vars_set p) []);
  numbers = h.0.4;
}
