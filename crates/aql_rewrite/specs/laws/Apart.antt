-- In a plan without fragments a variable that a node sets is set nowhere below it, so none of the rows that
-- the node takes has it.
use Rattle.std.proofs.Common.{◌≡◌, suc, ◌+◌, ◌≤◌, List, ◌∷◌, ◌++◌, Bool, true, false, cond, sym, subst, arith}
use Rattle.aql_tree.specs.declared.syntax.Ident.{Ident}
use Rattle.aql_tree.specs.declared.syntax.Ident.TheVariants.{Num}
use Rattle.aql_meaning.specs.Numbered.{IsNumber}
use Rattle.aql_meaning.specs.Row.{same_ident}
use Rattle.aql_meaning.specs.Uses.{Uses}
use Rattle.aql_meaning.specs.declared.grouping.Stage.TheVariants as stage
use Rattle.aql_plan.specs.declared.facts.Facts.{Facts}
use Rattle.aql_plan.specs.Plan.{Plan, Singleton, Over, Node, Subquery, Collect, Return}
use Rattle.aql_plan.specs.Needs.{sets}
use Rattle.aql_plan.specs.Shapes.{HasNoFragment}
use Rattle.aql_plan.specs.Variables.{vars_of, vars_set, set_once, count}
use Rattle.aql_plan_laws.specs.laws.Among.{count_append, counted_has, none_in}
use Rattle.aql_meaning.specs.laws.Idents.{same_self}
use Rattle.aql_plan_laws.specs.laws.RenamedPlaces.{number_is_no_result}
use Rattle.aql_rewrite.specs.Placed.{Placed}
use Rattle.aql_rewrite.specs.laws.Among.{has}

-- the variables of rows are set below or outer
pub vars_counted : (outer : List Ident) (p : Plan) → HasNoFragment p
    → (z : Ident) → same_ident z (Num 0) ≡ false
    → count z (vars_of outer p) ≤ count z (vars_set p) + count z outer
vars_counted outer Singleton plain z e = omega arith
vars_counted outer (Over b (Collect xs es gs i stage.Whole)) plain z e =
    let ys = sets (Collect xs es gs i stage.Whole) in
    omega (arith, count_append z ys outer, count_append z ys (vars_set b))
vars_counted outer (Over b (Collect xs es gs i stage.Partial)) plain z e = absurd plain.1
vars_counted outer (Over b (Collect xs es gs i stage.Final)) plain z e = absurd plain.1
vars_counted outer (Over b (Return distinct f)) plain z e =
    subst (λ (t : Bool). cond t 1 0 ≤ count z (vars_set b) + count z outer) (sym e) (omega arith)
vars_counted outer (Over b (Subquery x s)) plain z e =
    by (same_ident z x) (count_append z (vars_set s) (vars_set b)) (vars_counted outer b plain.0 z e)
  where
    by : (t : Bool) → count z (vars_set s ++ vars_set b) ≡ count z (vars_set s) + count z (vars_set b)
        → count z (vars_of outer b) ≤ count z (vars_set b) + count z outer
        → cond t (suc (count z (vars_of outer b))) (count z (vars_of outer b))
        ≤ cond t (suc (count z (vars_set s ++ vars_set b)))
        (count z (vars_set s ++ vars_set b)) + count z outer
    by true f k = omega (arith, f, k)
    by false f k = omega (arith, f, k)
vars_counted outer (Over b n) plain z e =
    let k = vars_counted outer b plain.0 z e in
    omega (arith, k, count_append z (sets n) (vars_of outer b), count_append z (sets n) (vars_set b))

pub counts_itself : (x : Ident) (ys : List Ident) → 1 ≤ count x (x ∷ ys)
counts_itself x ys =
    subst (λ (t : Bool). 1 ≤ cond t (suc (count x ys)) (count x ys)) (sym (same_self x)) (omega arith)

module _ {facts : Facts} {outer away : List Ident} {us : Uses} {b : Plan} {n : Node}
    (placed : Placed false false facts outer away us (Over b n)) (x : Ident)
    (set : 1 ≤ count x (set_once n)) where
  pub no_result : same_ident x (Num 0) ≡ false
  no_result = number_is_no_result x (counted_has IsNumber x (set_once n ++ vars_set b)
      (omega (arith, set, count_append x (set_once n) (vars_set b))) placed.numbers)

  pub set_nowhere : (count x (vars_set b) ≤ 0) × (count x outer ≤ 0)
  set_nowhere =
      let h = placed.once x no_result in
      let e = count_append x (set_once n) (vars_set b) in
      (omega (arith, set, h, e), omega (arith, set, h, e))

  pub not_there : has x (vars_of outer b) ≡ false
  not_there =
      let k = set_nowhere in
      none_in x (vars_of outer b)
      (omega (arith, k.0, k.1, vars_counted outer b placed.suits.0 x no_result))
