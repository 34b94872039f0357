-- One expression may stand for another at any place of a tree, also within a subquery.
use Rattle.std.proofs.Common.{◌≡◌, ◌∙◌, ℕ, List, [], ◌∷◌, map, Bool, true, false, cond, refl, ap, ap₂, sym, subst}
use Rattle.std.specs.Prelude.{Option, Some, None, MatchOption, option_to_list}
use Rattle.std.specs.Bool.{MatchBool}
use Rattle.std.specs.List.{AllZip}
use mathlib.Core.Path.{fun_ext}
use Rattle.aql_value.specs.Datum.{Datum, null, boolean}
use Rattle.aql_value.specs.Contents.{list, elements, at_name, at_value}
use Rattle.aql_value.specs.Convert.{to_number, to_text}
use Rattle.aql_value.specs.Database.{Database}
use Rattle.aql_value.specs.Truth.{truth}
use Rattle.aql_value.specs.declared.operators.BinOp.{BinOp}
use Rattle.aql_value.specs.declared.operators.BinOp.TheVariants.{And, Or}
use Rattle.aql_func.specs.Operators.{binary, unary, range}
use Rattle.aql_func.specs.Named.{call_named}
use Rattle.aql_tree.specs.declared.syntax.Ident.{Ident}
use Rattle.aql_tree.specs.Tree.{ExprTree, literal, variable, current, array_literal, object_literal, access, function_call, unary_of, chain, array_comparison, ternary, range_of, subquery, ExprTrees, no_exprs, expr_then, MaybeExpr, no_expr, one_expr, MemberTrees, no_members, named_then, computed_then, StepTrees, no_steps, name_then, at_then, inline_then, LinkTrees, no_links, link_then, ClauseTree, for_each, for_documents, traversal, filter_by, let_be, sort_by, limit, collect, AggregateTrees, no_aggregates, aggregate_then, IntoTree, no_into, into, ClauseTrees, no_clauses, clause_then, QueryTree, query}
use Rattle.aql_meaning.specs.Row.{Row, same_ident}
use Rattle.aql_meaning.specs.Expressions.{quantify, object_value, LinkGives}
use Rattle.aql_meaning.specs.Value.{value, values, value_or, members, steps_value, links_value}
use Rattle.aql_meaning.specs.Clauses.{filter_true}
use Rattle.aql_meaning.specs.Groups.{GroupedRow, Collects, aggregate_of}
use Rattle.aql_meaning.specs.Paths.{Traverses}
use Rattle.aql_meaning.specs.Options.{with_settings}
use Rattle.aql_meaning.specs.Visible.{aggregate_vars, aggregate_functions, into_var, onto, vars_after, collection_meant, edges_named}
use Rattle.aql_meaning.specs.Meaning.{Evaluates, EvaluatesAll, EvaluatesOr, EvaluatesMembers, EvaluatesSteps, EvaluatesLinks, EvaluatesArguments, EvaluatesInto, Changes, Through, IsAnswer}
use Rattle.aql_meaning.specs.Substitution.{put, put_all, put_maybe, put_members, put_steps, put_links, put_clause, put_aggregates, put_into, put_clauses, put_query, StandsFor}
use Rattle.aql_meaning.specs.Plain.{IsPlain}
use Rattle.aql_meaning.specs.laws.OneValue.{has_value, only_value}
use Rattle.aql_meaning.specs.laws.Agrees.{map_same}

pub all_map : {A B : Type 0} (P Q : A → B → Type 0) → ((a : A) (b : B) → P a b → Q a b)
    → (xs : List A) (ys : List B) → AllZip P xs ys → AllZip Q xs ys
all_map P Q f [] [] h = tt
all_map P Q f [] (y ∷ ys) h = absurd h
all_map P Q f (x ∷ xs) [] h = absurd h
all_map P Q f (x ∷ xs) (y ∷ ys) h = (f x y h.0, all_map P Q f xs ys h.1)

pub either_map : (b : Bool) (P Q R S : Type 0) → (P → R) → (Q → S) → MatchBool b P Q → MatchBool b R S
either_map true P Q R S f g h = f h
either_map false P Q R S f g h = g h

pub link_map : (op : BinOp) (P Q : Datum → Type 0) → ((b : Datum) → P b → Q b)
    → (a v : Datum) → LinkGives op P a v → LinkGives op Q a v
link_map And P Q f a v h = either_map (truth a) (P v) (v ≡ a) (Q v) (v ≡ a) (f v) (λ e. e) h
link_map Or P Q f a v h = either_map (truth a) (v ≡ a) (P v) (v ≡ a) (Q v) (λ e. e) (f v) h
link_map op P Q f a v h = (h.0, f h.0 h.1, h.2)

option_map_along : (m n : Option (List ℕ)) (P Q : Type 0) (R : List ℕ → Type 0) → m ≡ n → (P → Q)
    → MatchOption m P R → MatchOption n Q R
option_map_along m n P Q R e f h = by n (subst (λ o. MatchOption o P R) e h)
  where
    by : (o : Option (List ℕ)) → MatchOption o P R → MatchOption o Q R
    by None h = f h
    by (Some name) h = h

module _ (db : Database) (x : Ident) (q e : ExprTree) (s : StandsFor db q e) where
  mutual
    same_value : (t : ExprTree) (cur : Datum) (row : Row)
        → value (put x q t) cur row ≡ value (put x e t) cur row
    same_value (literal v) cur row = refl
    same_value (variable y) cur row = by (same_ident x y)
      where
        by : (b : Bool) → value (cond b q (variable y)) cur row ≡ value (cond b e (variable y)) cur row
        by true = s.plain cur row
        by false = refl
    same_value current cur row = refl
    same_value (array_literal es) cur row = ap list (same_values es cur row)
    same_value (object_literal ms) cur row = ap object_value (same_members ms cur row)
    same_value (access a ss) cur row =
        ap (steps_value (put_steps x q ss) cur row) (same_value a cur row)
        ∙ same_steps ss cur row (value (put x e a) cur row)
    same_value (function_call name es) cur row = ap (call_named name) (same_values es cur row)
    same_value (unary_of op a) cur row = ap (unary op) (same_value a cur row)
    same_value (chain a ls) cur row =
        ap (links_value (put_links x q ls) cur row) (same_value a cur row)
        ∙ same_links ls cur row (value (put x e a) cur row)
    same_value (array_comparison a kind op b) cur row =
        ap₂ (quantify kind op) (same_value a cur row) (same_value b cur row)
    same_value (ternary test first other) cur row =
        ap (λ a. cond (truth a) (value_or (put_maybe x q first) cur row a) (value (put x q other) cur row))
        (same_value test cur row)
        ∙ ap₂ (λ a b. cond (truth (value (put x e test) cur row)) a b)
        (same_or first cur row (value (put x e test) cur row)) (same_value other cur row)
    same_value (range_of a b) cur row =
        ap₂ (λ c d. range (to_number c) (to_number d)) (same_value a cur row) (same_value b cur row)
    same_value (subquery a) cur row = refl

    same_values : (es : ExprTrees) (cur : Datum) (row : Row)
        → values (put_all x q es) cur row ≡ values (put_all x e es) cur row
    same_values no_exprs cur row = refl
    same_values (expr_then a es) cur row =
        ap₂ (λ v vs. v ∷ vs) (same_value a cur row) (same_values es cur row)

    same_or : (m : MaybeExpr) (cur : Datum) (row : Row) (d : Datum)
        → value_or (put_maybe x q m) cur row d ≡ value_or (put_maybe x e m) cur row d
    same_or no_expr cur row d = refl
    same_or (one_expr a) cur row d = same_value a cur row

    same_members : (ms : MemberTrees) (cur : Datum) (row : Row)
        → members (put_members x q ms) cur row ≡ members (put_members x e ms) cur row
    same_members no_members cur row = refl
    same_members (named_then name a ms) cur row =
        ap₂ (λ v vs. (name, v) ∷ vs) (same_value a cur row) (same_members ms cur row)
    same_members (computed_then n a ms) cur row =
        ap₂ (λ f fs. f ∷ fs) (ap₂ (λ k v. (to_text k, v)) (same_value n cur row) (same_value a cur row))
        (same_members ms cur row)

    same_steps : (ss : StepTrees) (cur : Datum) (row : Row) (d : Datum)
        → steps_value (put_steps x q ss) cur row d ≡ steps_value (put_steps x e ss) cur row d
    same_steps no_steps cur row d = refl
    same_steps (name_then name ss) cur row d = same_steps ss cur row (at_name d name)
    same_steps (at_then a ss) cur row d =
        ap (λ i. steps_value (put_steps x q ss) cur row (at_value d i)) (same_value a cur row)
        ∙ same_steps ss cur row (at_value d (value (put x e a) cur row))
    same_steps (inline_then f p ss) cur row d =
        ap list (
        ap (λ ts. map (λ w. steps_value (put_steps x q ss) cur row w)
        (map (λ c. value_or (put_maybe x q p) c row c) (filter_true (elements d) ts)))
        (map_same (λ c. value_or (put_maybe x q f) c row (boolean true))
        (λ c. value_or (put_maybe x e f) c row (boolean true))
        (λ c. same_or f c row (boolean true)) (elements d))
        ∙ ap (map (λ w. steps_value (put_steps x q ss) cur row w))
        (map_same (λ c. value_or (put_maybe x q p) c row c) (λ c. value_or (put_maybe x e p) c row c)
        (λ c. same_or p c row c) _)
        ∙ map_same (λ w. steps_value (put_steps x q ss) cur row w)
        (λ w. steps_value (put_steps x e ss) cur row w)
        (λ w. same_steps ss cur row w) _)

    same_links : (ls : LinkTrees) (cur : Datum) (row : Row) (a : Datum)
        → links_value (put_links x q ls) cur row a ≡ links_value (put_links x e ls) cur row a
    same_links no_links cur row a = refl
    same_links (link_then op b ls) cur row a =
        ap (λ c. links_value (put_links x q ls) cur row (binary op a c)) (same_value b cur row)
        ∙ same_links ls cur row (binary op a (value (put x e b) cur row))

  same_collection : (t : ExprTree) (start : Row) (vars : List Ident)
      → collection_meant (put x q t) start vars ≡ collection_meant (put x e t) start vars
  same_collection (literal v) start vars = refl
  same_collection (variable y) start vars = by (same_ident x y)
    where
      by : (b : Bool) → collection_meant (cond b q (variable y)) start vars ≡ collection_meant
          (cond b e (variable y)) start vars
      by true = s.after_in start vars
      by false = refl
  same_collection current start vars = refl
  same_collection (array_literal es) start vars = refl
  same_collection (object_literal ms) start vars = refl
  same_collection (access a ss) start vars = refl
  same_collection (function_call name es) start vars = refl
  same_collection (unary_of op a) start vars = refl
  same_collection (chain a ls) start vars = refl
  same_collection (array_comparison a kind op b) start vars = refl
  same_collection (ternary test first other) start vars = refl
  same_collection (range_of a b) start vars = refl
  same_collection (subquery a) start vars = refl

  same_aggregate_vars : (gs : AggregateTrees)
      → aggregate_vars (put_aggregates x q gs) ≡ aggregate_vars (put_aggregates x e gs)
  same_aggregate_vars no_aggregates = refl
  same_aggregate_vars (aggregate_then y name a gs) = ap (λ ys. y ∷ ys) (same_aggregate_vars gs)

  same_functions : (gs : AggregateTrees)
      → aggregate_functions (put_aggregates x q gs) ≡ aggregate_functions (put_aggregates x e gs)
  same_functions no_aggregates = refl
  same_functions (aggregate_then y name a gs) = ap (λ fs. aggregate_of name ∷ fs) (same_functions gs)

  same_into : (i : IntoTree) → into_var (put_into x q i) ≡ into_var (put_into x e i)
  same_into no_into = refl
  same_into (into y what keep) = refl

  same_vars : (c : ClauseTree) (vars : List Ident)
      → vars_after (put_clause x q c) vars ≡ vars_after (put_clause x e c) vars
  same_vars (for_each y a) vars = refl
  same_vars (for_documents y name) vars = refl
  same_vars (traversal w a names prune settings) vars = refl
  same_vars (filter_by a) vars = refl
  same_vars (let_be y a) vars = refl
  same_vars (sort_by directions es) vars = refl
  same_vars (limit offset count) vars = refl
  same_vars (collect xs es gs i) vars =
      ap₂ (λ ys z. onto (option_to_list z) (onto ys (onto xs []))) (same_aggregate_vars gs) (same_into i)

  mutual
    pub replace : (t : ExprTree) (cur : Datum) (row : Row) (v : Datum) → Evaluates db (put x q t) cur row v
        → Evaluates db (put x e t) cur row v
    replace (literal d) cur row v h = h
    replace (variable y) cur row v h = by (same_ident x y) h
      where
        by : (b : Bool) → Evaluates db (cond b q (variable y)) cur row v
            → Evaluates db (cond b e (variable y)) cur row v
        by true h = s.values cur row v h
        by false h = h
    replace current cur row v h = h
    replace (array_literal es) cur row v h = (h.0, all_replaced es cur row h.0 h.1, h.2)
    replace (object_literal ms) cur row v h = (h.0, members_replaced ms cur row h.0 h.1, h.2)
    replace (access a ss) cur row v h =
        (h.0, replace a cur row h.0 h.1, steps_replaced ss cur row h.0 v h.2)
    replace (function_call name es) cur row v h = (h.0, all_replaced es cur row h.0 h.1, h.2)
    replace (unary_of op a) cur row v h = (h.0, replace a cur row h.0 h.1, h.2)
    replace (chain a ls) cur row v h = (h.0, replace a cur row h.0 h.1, links_replaced ls cur row h.0 v h.2)
    replace (array_comparison a kind op b) cur row v h =
        (h.0, h.1, replace a cur row h.0 h.2, replace b cur row h.1 h.3, h.4)
    replace (ternary test first other) cur row v h = (
      h.0,
      replace test cur row h.0 h.1,
      either_map (truth h.0) _ _ _ _ (or_replaced first cur row h.0 v) (replace other cur row v) h.2,
    )
    replace (range_of a b) cur row v h =
        (h.0, h.1, replace a cur row h.0 h.2, replace b cur row h.1 h.3, h.4)
    replace (subquery a) cur row v h = (h.0, replace_in_answer a row h.0 h.1, h.2)

    all_replaced : (es : ExprTrees) (cur : Datum) (row : Row) (vs : List Datum)
        → EvaluatesAll db (put_all x q es) cur row vs → EvaluatesAll db (put_all x e es) cur row vs
    all_replaced no_exprs cur row vs h = h
    all_replaced (expr_then a es) cur row [] h = absurd h
    all_replaced (expr_then a es) cur row (v ∷ vs) h =
        (replace a cur row v h.0, all_replaced es cur row vs h.1)

    or_replaced : (m : MaybeExpr) (cur : Datum) (row : Row) (d v : Datum)
        → EvaluatesOr db (put_maybe x q m) cur row d v → EvaluatesOr db (put_maybe x e m) cur row d v
    or_replaced no_expr cur row d v h = h
    or_replaced (one_expr a) cur row d v h = replace a cur row v h

    members_replaced : (ms : MemberTrees) (cur : Datum) (row : Row) (fs : List (List ℕ × Datum))
        → EvaluatesMembers db (put_members x q ms) cur row fs
        → EvaluatesMembers db (put_members x e ms) cur row fs
    members_replaced no_members cur row fs h = h
    members_replaced (named_then name a ms) cur row [] h = absurd h
    members_replaced (named_then name a ms) cur row (f ∷ fs) h =
        (h.0, replace a cur row f.1 h.1, members_replaced ms cur row fs h.2)
    members_replaced (computed_then n a ms) cur row [] h = absurd h
    members_replaced (computed_then n a ms) cur row (f ∷ fs) h =
        (h.0, replace n cur row h.0 h.1, h.2, replace a cur row f.1 h.3, members_replaced ms cur row fs h.4)

    steps_replaced : (ss : StepTrees) (cur : Datum) (row : Row) (d v : Datum)
        → EvaluatesSteps db (put_steps x q ss) cur row d v → EvaluatesSteps db (put_steps x e ss) cur row d v
    steps_replaced no_steps cur row d v h = h
    steps_replaced (name_then name ss) cur row d v h = steps_replaced ss cur row (at_name d name) v h
    steps_replaced (at_then a ss) cur row d v h =
        (h.0, replace a cur row h.0 h.1, steps_replaced ss cur row (at_value d h.0) v h.2)
    steps_replaced (inline_then f p ss) cur row d v h = (
      h.0,
      h.1,
      h.2,
      all_map _ _ (λ c b k. or_replaced f c row (boolean true) b k) (elements d) h.0 h.3,
      all_map _ _ (λ c w k. or_replaced p c row c w k) (filter_true (elements d) h.0) h.1 h.4,
      all_map _ _ (λ w u k. steps_replaced ss cur row w u k) h.1 h.2 h.5,
      h.6,
    )

    links_replaced : (ls : LinkTrees) (cur : Datum) (row : Row) (a v : Datum)
        → EvaluatesLinks db (put_links x q ls) cur row a v → EvaluatesLinks db (put_links x e ls) cur row a v
    links_replaced no_links cur row a v h = h
    links_replaced (link_then op b ls) cur row a v h =
        (h.0, link_map op _ _ (λ c k. replace b cur row c k) a h.0 h.1, links_replaced ls cur row h.0 v h.2)

    arguments_replaced : (gs : AggregateTrees) (row : Row) (vs : List Datum)
        → EvaluatesArguments db (put_aggregates x q gs) row vs
        → EvaluatesArguments db (put_aggregates x e gs) row vs
    arguments_replaced no_aggregates row vs h = h
    arguments_replaced (aggregate_then y name a gs) row [] h = absurd h
    arguments_replaced (aggregate_then y name a gs) row (v ∷ vs) h =
        (or_replaced a null row null v h.0, arguments_replaced gs row vs h.1)

    taken_replaced : (i : IntoTree) (vars : List Ident) (row : Row) (v : Datum)
        → EvaluatesInto db (put_into x q i) vars row v → EvaluatesInto db (put_into x e i) vars row v
    taken_replaced no_into vars row v h = h
    taken_replaced (into y what keep) vars row v h = or_replaced what null row _ v h

    clause_replaced : (c : ClauseTree) (start : Row) (vars : List Ident) (rows out : List Row)
        → Changes db (put_clause x q c) start vars rows out
        → Changes db (put_clause x e c) start vars rows out
    clause_replaced (for_each y a) start vars rows out h =
        option_map_along _ _ _ _ _ (same_collection a start vars)
        (λ k. (k.0, all_map _ _ (λ r v j. replace a null r v j) rows k.0 k.1, k.2)) h
    clause_replaced (for_documents y name) start vars rows out h = h
    clause_replaced (traversal w a names prune settings) start vars rows out h = (
      h.0,
      all_map _ _ (λ r v j. replace a null r v j) rows h.0 h.1,
      subst (λ (holds : Row → Bool). Traverses db (with_settings settings w)
          (edges_named db names) holds rows h.0 out)
          (fun_ext (λ row. ap truth (same_or prune null row (boolean false)))) h.2,
    )
    clause_replaced (filter_by a) start vars rows out h =
        (h.0, all_map _ _ (λ r v j. replace a null r v j) rows h.0 h.1, h.2)
    clause_replaced (let_be y a) start vars rows out h =
        (h.0, all_map _ _ (λ r v j. replace a null r v j) rows h.0 h.1, h.2)
    clause_replaced (sort_by directions es) start vars rows out h =
        (h.0, all_map _ _ (λ r vs j. all_replaced es null r vs j) rows h.0 h.1, h.2)
    clause_replaced (limit offset count) start vars rows out h = h
    clause_replaced (collect xs es gs i) start vars rows out h = (
      h.0,
      all_map _ _
          (λ r (m : GroupedRow) j. record {
            criteria = all_replaced es null r m.criteria j.criteria;
            arguments = arguments_replaced gs r m.arguments j.arguments;
            into_value = taken_replaced i vars r m.into_value j.into_value;
          }) rows h.0 h.1,
      subst (λ ys. Collects xs ys (aggregate_functions (put_aggregates x e gs))
          (into_var (put_into x e i)) start h.0 out)
          (same_aggregate_vars gs)
          (subst (λ fs. Collects xs (aggregate_vars (put_aggregates x q gs)) fs
          (into_var (put_into x e i)) start h.0 out)
          (same_functions gs)
          (subst (λ z. Collects xs (aggregate_vars (put_aggregates x q gs))
          (aggregate_functions (put_aggregates x q gs)) z start h.0 out)
          (same_into i) h.2)),
    )

    clauses_replaced : (cs : ClauseTrees) (start : Row) (vars : List Ident) (rows out : List Row)
        → Through db (put_clauses x q cs) start vars rows out
        → Through db (put_clauses x e cs) start vars rows out
    clauses_replaced no_clauses start vars rows out h = h
    clauses_replaced (clause_then c cs) start vars rows out h = (
      h.0,
      clause_replaced c start vars rows h.0 h.1,
      subst (λ us. Through db (put_clauses x e cs) start us h.0 out) (same_vars c vars)
          (clauses_replaced cs start (vars_after (put_clause x q c) vars) h.0 out h.2),
    )

    pub replace_in_answer : (a : QueryTree) (start : Row) (out : List Datum)
        → IsAnswer db (put_query x q a) start out → IsAnswer db (put_query x e a) start out
    replace_in_answer (query with cs distinct a) start out h = (
      h.0,
      h.1,
      clauses_replaced cs start [] (start ∷ []) h.0 h.2,
      all_map _ _ (λ r v j. replace a null r v j) h.0 h.1 h.3,
      h.4,
    )

  pub stands_in : (t : ExprTree) → StandsFor db (put x q t) (put x e t)
  stands_in t = record { values = replace t; plain = same_value t; after_in = same_collection t }

pub equal_stand_for : (db : Database) (q e : ExprTree) → IsPlain q → IsPlain e
    → ((cur : Datum) (row : Row) → value q cur row ≡ value e cur row)
    → ((start : Row) (vars : List Ident) → collection_meant q start vars ≡ collection_meant e start vars)
    → StandsFor db q e
equal_stand_for db q e p o same meant = record {
  values = λ cur row v h.
      subst (Evaluates db e cur row) (sym (only_value db q p cur row v h ∙ same cur row))
      (has_value db e o cur row);
  plain = same;
  after_in = meant;
}
