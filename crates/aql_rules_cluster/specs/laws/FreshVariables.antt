-- A Calculation sets a variable that is not there below it, in plans with fragments too.
use Rattle.std.proofs.Common.{◌≡◌, suc, ◌+◌, ◌≤◌, List, ◌∷◌, ◌++◌, Bool, true, false, cond, ap, subst, sym, arith}
use Rattle.std.specs.List.{AllByRecursion}
use Rattle.aql_value.specs.laws.Alls.{all_parts}
use Rattle.aql_tree.specs.declared.syntax.Ident.{Ident}
use Rattle.aql_tree.specs.declared.syntax.Ident.TheVariants.{Num}
use Rattle.aql_tree.specs.Tree.{ExprTree}
use Rattle.aql_meaning.specs.Numbered.{IsNumber}
use Rattle.aql_meaning.specs.Row.{same_ident}
use Rattle.aql_meaning.specs.declared.grouping.Stage.TheVariants as stage
use Rattle.aql_meaning.specs.laws.Idents.{same_self}
use Rattle.aql_plan.specs.declared.facts.Facts.{Facts}
use Rattle.aql_plan.specs.Needs.{sets}
use Rattle.aql_plan.specs.Plan.{Plan, Singleton, Over, Node, Calculation, Subquery, Collect, Return}
use Rattle.aql_plan.specs.Shapes.{Shape, Shaped}
use Rattle.aql_plan.specs.Variables.{vars_of, vars_set, set_once, count}
use Rattle.aql_plan_laws.specs.laws.Among.{count_append, none_in}
use Rattle.aql_plan_laws.specs.laws.RenamedPlaces.{number_is_no_result}
use Rattle.aql_plan_laws.specs.laws.ShapesKept.{under_top}
use Rattle.aql_rewrite.specs.laws.Among.{has}
use Rattle.aql_rewrite.specs.laws.UsesFound.{final_set}

-- the variables of rows are set below or outer
vars_counted : (facts : Facts) (outer : List Ident) (p : Plan) (s : Shape) → Shaped facts p s
    → (z : Ident) → same_ident z (Num 0) ≡ false
    → count z (vars_of outer p) ≤ count z (vars_set p) + count z outer
vars_counted facts outer Singleton s shaped z e = omega arith
vars_counted facts outer (Over b (Collect xs es gs i stage.Final)) s shaped z e =
    let ys = sets (Collect xs es gs i stage.Final) in
    let f = final_set facts s b xs es gs i shaped in
    omega (arith, count_append z ys outer, count_append z ys f.0, ap (count z) f.1)
vars_counted facts outer (Over b (Collect xs es gs i c)) s shaped z e =
    let ys = sets (Collect xs es gs i c) in
    omega (arith, count_append z ys outer, count_append z ys (vars_set b))
vars_counted facts outer (Over b (Return distinct f)) s shaped z e =
    subst (λ (t : Bool). cond t 1 0 ≤ count z (vars_set b) + count z outer) (sym e) (omega arith)
vars_counted facts outer (Over b (Subquery x t)) s shaped z e =
    let a = under_top facts b (Subquery x t) s shaped in
    by (same_ident z x) (count_append z (vars_set t) (vars_set b)) (vars_counted facts outer b a.0 a.2 z e)
  where
    by : (c : Bool) → count z (vars_set t ++ vars_set b) ≡ count z (vars_set t) + count z (vars_set b)
        → count z (vars_of outer b) ≤ count z (vars_set b) + count z outer
        → cond c (suc (count z (vars_of outer b))) (count z (vars_of outer b))
        ≤ cond c (suc (count z (vars_set t ++ vars_set b)))
        (count z (vars_set t ++ vars_set b)) + count z outer
    by true f k = omega (arith, f, k)
    by false f k = omega (arith, f, k)
vars_counted facts outer (Over b n) s shaped z e =
    let a = under_top facts b n s shaped in
    let k = vars_counted facts outer b a.0 a.2 z e in
    omega (arith, k, count_append z (sets n) (vars_of outer b), count_append z (sets n) (vars_set b))

-- a part sets no variable twice, nor one of the start row, and all that it sets are numbers
pub record SetsOnce (outer : List Ident) (p : Plan) : Type 0 where
  pub once : (z : Ident) → same_ident z (Num 0) ≡ false → count z (vars_set p) + count z outer ≤ 1
  pub numbers : AllByRecursion IsNumber (vars_set p)

pub once_below : (outer : List Ident) (b : Plan) (n : Node) → SetsOnce outer (Over b n) → SetsOnce outer b
once_below outer b n h = record {
  once = λ z e. omega (arith, h.once z e, count_append z (set_once n) (vars_set b));
  numbers = (all_parts IsNumber (set_once n) (vars_set b) h.numbers).1;
}

pub not_below : (facts : Facts) (outer : List Ident) (b : Plan) (x : Ident) (e : ExprTree) (s : Shape)
    → Shaped facts b s → SetsOnce outer (Over b (Calculation x e)) → has x (vars_of outer b) ≡ false
not_below facts outer b x e s shaped h =
    let real = number_is_no_result x h.numbers.0 in
    let itself : count x (x ∷ vars_set b) ≡ suc (count x (vars_set b))
    = ap (λ t. cond t (suc (count x (vars_set b))) (count x (vars_set b))) (same_self x) in
    none_in x (vars_of outer b)
    (omega (arith, h.once x real, itself, vars_counted facts outer b s shaped x real))
