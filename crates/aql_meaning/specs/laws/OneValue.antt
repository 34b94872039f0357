-- An expression without a subquery has the value that the function `value` gives, and no other.
use Rattle.std.proofs.Common.{◌≡◌, ◌∙◌, ℕ, List, [], ◌∷◌, map, Bool, true, false, cond, refl, ap, ap₂, subst}
use Rattle.std.specs.Bool.{MatchBool}
use Rattle.std.specs.List.{AllZip}
use Rattle.aql_value.specs.Datum.{Datum, boolean}
use Rattle.aql_value.specs.Contents.{list, elements, at_name, at_value}
use Rattle.aql_value.specs.Convert.{to_number, to_text}
use Rattle.aql_value.specs.Database.{Database}
use Rattle.aql_value.specs.Truth.{truth}
use Rattle.aql_value.specs.declared.operators.BinOp.{BinOp}
use Rattle.aql_value.specs.declared.operators.BinOp.TheVariants.{And, Or}
use Rattle.aql_func.specs.Operators.{binary, unary, range}
use Rattle.aql_func.specs.Named.{call_named}
use Rattle.aql_tree.specs.Tree.{ExprTree, literal, variable, current, array_literal, object_literal, access, function_call, unary_of, chain, array_comparison, ternary, range_of, subquery, ExprTrees, no_exprs, expr_then, MaybeExpr, no_expr, one_expr, MemberTrees, no_members, named_then, computed_then, StepTrees, no_steps, name_then, at_then, inline_then, LinkTrees, no_links, link_then}
use Rattle.aql_meaning.specs.Row.{Row}
use Rattle.aql_meaning.specs.Expressions.{quantify, object_value, LinkGives}
use Rattle.aql_meaning.specs.Clauses.{filter_true}
use Rattle.aql_meaning.specs.Value.{value, values, value_or, members, steps_value, links_value}
use Rattle.aql_meaning.specs.Plain.{IsPlain, AllPlain, MaybePlain, MembersPlain, StepsPlain, LinksPlain}
use Rattle.aql_meaning.specs.Meaning.{Evaluates, EvaluatesAll, EvaluatesOr, EvaluatesMembers, EvaluatesSteps, EvaluatesLinks}

-- P holds of x and of nothing else
abbrev pub Only : {X : Type 0} → (X → Type 0) → X → Type 0
Only {X} P x = P x × ((y : X) → P y → y ≡ x)

either : (b : Bool) (P Q : Datum → Type 0) (x y : Datum) → Only P x → Only Q y
    → Only (λ v. MatchBool b (P v) (Q v)) (cond b x y)
either true P Q x y h k = h
either false P Q x y h k = k

only_linked : (op : BinOp) (P : Datum → Type 0) (a b : Datum) → Only P b
    → Only (LinkGives op P a) (binary op a b)
only_linked And P a b h = either (truth a) P (λ v. v ≡ a) b a h (refl, λ y e. e)
only_linked Or P a b h = either (truth a) (λ v. v ≡ a) P a b (refl, λ y e. e) h
only_linked op P a b h = ((b, h.0, refl), λ y k. k.2 ∙ ap (binary op a) (h.1 k.0 k.1))

-- place by place
pub only_zip : {A B : Type 0} (P : A → B → Type 0) (f : A → B) → ((a : A) → Only (P a) (f a))
    → (xs : List A) → Only (AllZip P xs) (map f xs)
only_zip {A = A} {B = B} P f h [] = (tt, λ ys k. none ys k)
  where
    none : (ys : List B) → AllZip P [] ys → ys ≡ []
    none [] k = refl
    none (y ∷ ys) k = absurd k
only_zip {A = A} {B = B} P f h (x ∷ xs) =
    let rest = only_zip P f h xs in
    (((h x).0, rest.0), λ ys k. by rest.1 ys k)
  where
    by : ((us : List B) → AllZip P xs us → us ≡ map f xs) → (ys : List B) → AllZip P (x ∷ xs) ys
        → ys ≡ f x ∷ map f xs
    by rest [] k = absurd k
    by rest (y ∷ ys) k = ap₂ (λ v vs. v ∷ vs) ((h x).1 y k.0) (rest ys k.1)

module _ (db : Database) where
  mutual
    pub one_value : (e : ExprTree) → IsPlain e → (cur : Datum) (row : Row)
        → Only (Evaluates db e cur row) (value e cur row)
    one_value (literal t) h cur row = (refl, λ y e. e)
    one_value (variable x) h cur row = (refl, λ y e. e)
    one_value current h cur row = (refl, λ y e. e)
    one_value (array_literal es) h cur row =
        let x = one_values es h cur row in
        ((values es cur row, x.0, refl), λ y k. k.2 ∙ ap list (x.1 k.0 k.1))
    one_value (object_literal ms) h cur row =
        let x = one_members ms h cur row in
        ((members ms cur row, x.0, refl), λ y k. k.2 ∙ ap object_value (x.1 k.0 k.1))
    one_value (access e ss) h cur row = let x = one_value e h.0 cur row in (
      (value e cur row, x.0, (one_step ss h.1 cur row (value e cur row)).0),
      λ y k. (one_step ss h.1 cur row (value e cur row)).1 y
          (subst (λ (d : Datum). EvaluatesSteps db ss cur row d y) (x.1 k.0 k.1) k.2),
    )
    one_value (function_call name es) h cur row =
        let x = one_values es h cur row in
        ((values es cur row, x.0, refl), λ y k. k.2 ∙ ap (call_named name) (x.1 k.0 k.1))
    one_value (unary_of op e) h cur row =
        let x = one_value e h cur row in
        ((value e cur row, x.0, refl), λ y k. k.2 ∙ ap (unary op) (x.1 k.0 k.1))
    one_value (chain e ls) h cur row = let x = one_value e h.0 cur row in (
      (value e cur row, x.0, (one_link ls h.1 cur row (value e cur row)).0),
      λ y k. (one_link ls h.1 cur row (value e cur row)).1 y
          (subst (λ (d : Datum). EvaluatesLinks db ls cur row d y) (x.1 k.0 k.1) k.2),
    )
    one_value (array_comparison e kind op f) h cur row =
        let x = one_value e h.0 cur row in
        let z = one_value f h.1 cur row in (
          (value e cur row, value f cur row, x.0, z.0, refl),
          λ y k. k.4 ∙ ap₂ (quantify kind op) (x.1 k.0 k.2) (z.1 k.1 k.3),
        )
    one_value (ternary t o n) h cur row =
        let x = one_value t h.0 cur row in
        let a = value t cur row in
        let z = either (truth a) (EvaluatesOr db o cur row a) (Evaluates db n cur row) _ _
        (one_or o h.1 cur row a) (one_value n h.2 cur row) in (
          (a, x.0, z.0),
          λ y k. z.1 y (subst
              (λ (d : Datum). MatchBool (truth d) (EvaluatesOr db o cur row d y) (Evaluates db n cur row y))
              (x.1 k.0 k.1) k.2),
        )
    one_value (range_of e f) h cur row =
        let x = one_value e h.0 cur row in
        let z = one_value f h.1 cur row in (
          (value e cur row, value f cur row, x.0, z.0, refl),
          λ y k. k.4 ∙ ap₂ (λ a b. range (to_number a) (to_number b)) (x.1 k.0 k.2) (z.1 k.1 k.3),
        )
    one_value (subquery q) h cur row = absurd h

    pub one_values : (es : ExprTrees) → AllPlain es → (cur : Datum) (row : Row)
        → Only (EvaluatesAll db es cur row) (values es cur row)
    one_values no_exprs h cur row = (tt, λ ys k. by ys k)
      where
        by : (ys : List Datum) → EvaluatesAll db no_exprs cur row ys → ys ≡ []
        by [] k = refl
        by (y ∷ ys) k = absurd k
    one_values (expr_then e es) h cur row =
        let x = one_value e h.0 cur row in
        let z = one_values es h.1 cur row in
        ((x.0, z.0), λ ys k. by x.1 z.1 ys k)
      where
        by : ((v : Datum) → Evaluates db e cur row v → v ≡ value e cur row)
            → ((vs : List Datum) → EvaluatesAll db es cur row vs → vs ≡ values es cur row)
            → (ys : List Datum) → EvaluatesAll db (expr_then e es) cur row ys
            → ys ≡ value e cur row ∷ values es cur row
        by x z [] k = absurd k
        by x z (y ∷ ys) k = ap₂ (λ v vs. v ∷ vs) (x y k.0) (z ys k.1)

    one_or : (m : MaybeExpr) → MaybePlain m → (cur : Datum) (row : Row) (d : Datum)
        → Only (EvaluatesOr db m cur row d) (value_or m cur row d)
    one_or no_expr h cur row d = (refl, λ y e. e)
    one_or (one_expr e) h cur row d = one_value e h cur row

    one_members : (ms : MemberTrees) → MembersPlain ms → (cur : Datum) (row : Row)
        → Only (EvaluatesMembers db ms cur row) (members ms cur row)
    one_members no_members h cur row = (tt, λ fs k. by fs k)
      where
        by : (fs : List (List ℕ × Datum)) → EvaluatesMembers db no_members cur row fs → fs ≡ []
        by [] k = refl
        by (f ∷ fs) k = absurd k
    one_members (named_then name e ms) h cur row =
        let x = one_value e h.0 cur row in
        let z = one_members ms h.1 cur row in
        ((refl, x.0, z.0), λ fs k. by x.1 z.1 fs k)
      where
        by : ((v : Datum) → Evaluates db e cur row v → v ≡ value e cur row)
            → ((gs : List (List ℕ × Datum)) → EvaluatesMembers db ms cur row gs → gs ≡ members ms cur row)
            → (fs : List (List ℕ × Datum)) → EvaluatesMembers db (named_then name e ms) cur row fs
            → fs ≡ (name, value e cur row) ∷ members ms cur row
        by x z [] k = absurd k
        by x z (f ∷ fs) k = ap₂ (λ g gs. g ∷ gs) (ap₂ (λ a b. (a, b)) k.0 (x f.1 k.1)) (z fs k.2)
    one_members (computed_then n e ms) h cur row =
        let w = one_value n h.0 cur row in
        let x = one_value e h.1 cur row in
        let z = one_members ms h.2 cur row in
        ((value n cur row, w.0, refl, x.0, z.0), λ fs k. by w.1 x.1 z.1 fs k)
      where
        by : ((v : Datum) → Evaluates db n cur row v → v ≡ value n cur row)
            → ((v : Datum) → Evaluates db e cur row v → v ≡ value e cur row)
            → ((gs : List (List ℕ × Datum)) → EvaluatesMembers db ms cur row gs → gs ≡ members ms cur row)
            → (fs : List (List ℕ × Datum)) → EvaluatesMembers db (computed_then n e ms) cur row fs
            → fs ≡ (to_text (value n cur row), value e cur row) ∷ members ms cur row
        by w x z [] k = absurd k
        by w x z (f ∷ fs) k =
            ap₂ (λ g gs. g ∷ gs) (ap₂ (λ a b. (a, b)) (k.2 ∙ ap to_text (w k.0 k.1)) (x f.1 k.3)) (z fs k.4)

    one_step : (ss : StepTrees) → StepsPlain ss → (cur : Datum) (row : Row) (d : Datum)
        → Only (EvaluatesSteps db ss cur row d) (steps_value ss cur row d)
    one_step no_steps h cur row d = (refl, λ y e. e)
    one_step (name_then name ss) h cur row d = one_step ss h cur row (at_name d name)
    one_step (at_then e ss) h cur row d =
        let x = one_value e h.0 cur row in
        let z = one_step ss h.1 cur row (at_value d (value e cur row)) in (
          (value e cur row, x.0, z.0),
          λ y k. z.1 y
              (subst (λ (i : Datum). EvaluatesSteps db ss cur row (at_value d i) y) (x.1 k.0 k.1) k.2),
        )
    one_step (inline_then f p ss) h cur row d =
        let tests = only_zip (λ c b. EvaluatesOr db f c row (boolean true) b)
        (λ c. value_or f c row (boolean true))
        (λ c. one_or f h.0 c row (boolean true)) (elements d) in
        let given = only_zip (λ c w. EvaluatesOr db p c row c w) (λ c. value_or p c row c)
        (λ c. one_or p h.1 c row c) in
        let ends = only_zip (λ w u. EvaluatesSteps db ss cur row w u) (λ w. steps_value ss cur row w)
        (λ w. one_step ss h.2 cur row w) in
        let ts = map (λ c. value_or f c row (boolean true)) (elements d) in
        let gs = map (λ c. value_or p c row c) (filter_true (elements d) ts) in (
          (
            ts,
            gs,
            map (λ w. steps_value ss cur row w) gs,
            tests.0,
            (given (filter_true (elements d) ts)).0,
            (ends gs).0,
            refl,
          ),
          λ y k.
              let e = (given (filter_true (elements d) k.0)).1 k.1 k.4
              ∙ ap (λ us. map (λ c. value_or p c row c) (filter_true (elements d) us)) (tests.1 k.0 k.3) in
              k.6 ∙ ap list ((ends k.1).1 k.2 k.5 ∙ ap (map (λ w. steps_value ss cur row w)) e),
        )

    one_link : (ls : LinkTrees) → LinksPlain ls → (cur : Datum) (row : Row) (a : Datum)
        → Only (EvaluatesLinks db ls cur row a) (links_value ls cur row a)
    one_link no_links h cur row a = (refl, λ y e. e)
    one_link (link_then op e ls) h cur row a =
        let x = only_linked op (Evaluates db e cur row) a (value e cur row) (one_value e h.0 cur row) in
        let z = one_link ls h.1 cur row (binary op a (value e cur row)) in (
          (binary op a (value e cur row), x.0, z.0),
          λ y k. z.1 y (subst (λ (b : Datum). EvaluatesLinks db ls cur row b y) (x.1 k.0 k.1) k.2),
        )

  pub has_value : (e : ExprTree) → IsPlain e → (cur : Datum) (row : Row)
      → Evaluates db e cur row (value e cur row)
  has_value e h cur row = (one_value e h cur row).0

  pub only_value : (e : ExprTree) → IsPlain e → (cur : Datum) (row : Row) (v : Datum)
      → Evaluates db e cur row v
      → v ≡ value e cur row
  only_value e h cur row v k = (one_value e h cur row).1 v k
