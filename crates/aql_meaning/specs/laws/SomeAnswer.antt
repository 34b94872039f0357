-- Each expression has a value, each clause makes some list of the rows, and each query has an answer. The
-- functions give the value with the proof that it is one, so that `.0` computes an answer.
use Rattle.std.proofs.Common.{◌≡◌, ℕ, List, [], ◌∷◌, map, Bool, true, false, refl}
use Rattle.std.specs.Prelude.{Option, Some, None, MatchOption, zip, flat_map, IsPermutation}
use Rattle.std.specs.Bool.{MatchBool}
use Rattle.std.specs.List.{AllZip}
use Rattle.std.proofs.lemmas.List.Sorted.{IsPermutation-refl}
use Rattle.aql_value.specs.Datum.{Datum, null, boolean}
use Rattle.aql_value.specs.Contents.{list, elements, at_name, at_value}
use Rattle.aql_value.specs.Convert.{to_number, to_text}
use Rattle.aql_value.specs.Database.{Database, documents_named}
use Rattle.aql_value.specs.Truth.{truth}
use Rattle.aql_value.specs.declared.operators.BinOp.{BinOp}
use Rattle.aql_value.specs.declared.operators.BinOp.TheVariants.{And, Or}
use Rattle.aql_func.specs.Named.{call_named}
use Rattle.aql_func.specs.Objects.{id_text}
use Rattle.aql_func.specs.Operators.{binary, unary, range}
use Rattle.aql_tree.specs.declared.syntax.Ident.{Ident}
use Rattle.aql_tree.specs.declared.syntax.UniqueVertices.{UniqueVertices}
use Rattle.aql_tree.specs.declared.syntax.UniqueVertices.TheVariants as vertices
use Rattle.aql_tree.specs.Tree.{TraversalShape, ExprTree, literal, variable, current, array_literal, object_literal, access, function_call, unary_of, chain, array_comparison, ternary, range_of, subquery, ExprTrees, no_exprs, expr_then, MaybeExpr, no_expr, one_expr, MemberTrees, no_members, named_then, computed_then, StepTrees, no_steps, name_then, at_then, inline_then, LinkTrees, no_links, link_then, ClauseTree, for_each, for_documents, traversal, filter_by, let_be, sort_by, limit, collect, AggregateTrees, no_aggregates, aggregate_then, IntoTree, no_into, into, ClauseTrees, no_clauses, clause_then, QueryTree, query}
use Rattle.aql_meaning.specs.Row.{Row, value_at}
use Rattle.aql_meaning.specs.Expressions.{quantify, object_value, LinkGives}
use Rattle.aql_meaning.specs.Value.{value_or}
use Rattle.aql_meaning.specs.Clauses.{KeyedRow, with_elements, with_documents, filter_true, with_values, limit_rows, return_values, Sorts}
use Rattle.aql_meaning.specs.Groups.{GroupedRow, IsGroupedRow, groups, rows_of_group, group_row, WithInto, Collects, variables_object}
use Rattle.aql_meaning.specs.Paths.{Path, TraversesBy, TraversesFrom, Traverses, path_row, with_paths, paths_up_to}
use Rattle.aql_meaning.specs.Options.{with_settings}
use Rattle.aql_meaning.specs.Visible.{aggregate_vars, aggregate_functions, into_var, vars_after, collection_meant, edges_named}
use Rattle.aql_meaning.specs.Meaning.{Evaluates, EvaluatesAll, EvaluatesOr, EvaluatesMembers, EvaluatesSteps, EvaluatesLinks, EvaluatesArguments, EvaluatesInto, Changes, Through, IsAnswer}
use Rattle.aql_meaning.specs.laws.SomeTraversal.{traversal_exists}
use Rattle.aql_meaning.specs.laws.SomeOrder.{some_order}

-- for each element there is one that it is related to
abbrev pub all_some : {A B : Type 0} (P : A → B → Type 0) → ((a : A) → (b : B) × P a b)
    → (xs : List A) → (ys : List B) × AllZip P xs ys
all_some P f [] = ([], tt)
all_some P f (x ∷ xs) = let y = f x in let ys = all_some P f xs in (y.0 ∷ ys.0, (y.1, ys.1))

abbrev pick : (b : Bool) (P Q : Datum → Type 0) → ((v : Datum) × P v) → ((v : Datum) × Q v)
    → (v : Datum) × MatchBool b (P v) (Q v)
pick true P Q x y = x
pick false P Q x y = y

abbrev some_linked : (op : BinOp) (Right : Datum → Type 0) → ((b : Datum) × Right b)
    → (a : Datum) → (v : Datum) × LinkGives op Right a v
some_linked And Right x a = pick (truth a) Right (λ v. v ≡ a) x (a, refl)
some_linked Or Right x a = pick (truth a) (λ v. v ≡ a) Right (a, refl) x
some_linked op Right x a = (binary op a x.0, (x.0, x.1, refl))

abbrev some_into : (i : Option Ident) (grouped : List GroupedRow) (row : Row)
    → (out : Row) × WithInto i grouped row out
some_into None grouped row = (row, refl)
some_into (Some x) grouped row =
    (_, (map (λ (from : GroupedRow). from.into_value) grouped, IsPermutation-refl _, refl))

abbrev pub some_collect : (xs ys : List Ident) (fs : List (List Datum → Datum)) (i : Option Ident)
    (start : Row)
    (grouped : List GroupedRow) → (out : List Row) × Collects xs ys fs i start grouped out
some_collect xs ys fs i start grouped =
    all_some (λ c row. WithInto i (rows_of_group c grouped) (group_row xs ys fs start grouped c) row)
    (λ c. some_into i (rows_of_group c grouped) (group_row xs ys fs start grouped c)) (groups xs grouped)

abbrev pub some_sort : (directions : List Bool) (keys : List (List Datum)) (rows : List Row)
    → (out : List Row) × Sorts directions keys rows out
some_sort directions keys rows =
    let s = some_order directions (λ (p : KeyedRow). p.0) (zip keys rows) in
    (map (λ (p : KeyedRow). p.1) s.0, (s.0, s.1, s.2, refl))

abbrev some_traversal_by : (w : TraversalShape) (es : List Datum) (pruned : Path → Bool) (id : List ℕ)
    (u : UniqueVertices)
    → (paths : List Path) × TraversesBy w es pruned id u paths
some_traversal_by w es pruned id vertices.Global = traversal_exists w es pruned id w.max
some_traversal_by w es pruned id vertices.None = (paths_up_to w es pruned id w.max, refl)
some_traversal_by w es pruned id vertices.Path = (paths_up_to w es pruned id w.max, refl)

abbrev some_traversal_from : (w : TraversalShape) (es : List Datum) (pruned : Path → Bool)
    (id : Option (List ℕ))
    → (paths : List Path) × TraversesFrom w es pruned id paths
some_traversal_from w es pruned None = ([], refl)
some_traversal_from w es pruned (Some id) = some_traversal_by w es pruned id w.options.vertices

abbrev pub some_traversal : (db : Database) (w : TraversalShape) (es : List Datum) (prune : Row → Bool)
    (rows : List Row)
    (starts : List Datum) → (out : List Row) × Traverses db w es prune rows starts out
some_traversal db w es prune rows starts =
    let paths = all_some
    (λ (from : Row × Datum) walked.
    TraversesFrom w es (λ t. prune (path_row db w from.0 t)) (id_text from.1) walked)
    (λ (from : Row × Datum). some_traversal_from w es (λ t. prune (path_row db w from.0 t)) (id_text from.1))
    (zip rows starts) in
    (with_paths db w rows paths.0, (paths.0, paths.1, IsPermutation-refl _))

module _ (db : Database) where
  abbrev mutual
    pub some_value : (e : ExprTree) (cur : Datum) (row : Row) → (v : Datum) × Evaluates db e cur row v
    some_value (literal t) cur row = (t, refl)
    some_value (variable x) cur row = (value_at row x, refl)
    some_value current cur row = (cur, refl)
    some_value (array_literal es) cur row = let x = some_values es cur row in (list x.0, (x.0, x.1, refl))
    some_value (object_literal ms) cur row =
        let x = some_members ms cur row in (object_value x.0, (x.0, x.1, refl))
    some_value (access e ss) cur row =
        let x = some_value e cur row in
        let y = some_step ss cur row x.0 in
        (y.0, (x.0, x.1, y.1))
    some_value (function_call name es) cur row =
        let x = some_values es cur row in
        (call_named name x.0, (x.0, x.1, refl))
    some_value (unary_of op e) cur row = let x = some_value e cur row in (unary op x.0, (x.0, x.1, refl))
    some_value (chain e ls) cur row =
        let x = some_value e cur row in
        let y = some_link ls cur row x.0 in
        (y.0, (x.0, x.1, y.1))
    some_value (array_comparison e kind op f) cur row =
        let x = some_value e cur row in
        let y = some_value f cur row in
        (quantify kind op x.0 y.0, (x.0, y.0, x.1, y.1, refl))
    some_value (ternary t y n) cur row =
        let x = some_value t cur row in
        let z = pick (truth x.0) (EvaluatesOr db y cur row x.0) (Evaluates db n cur row)
        (some_or y cur row x.0)
        (some_value n cur row) in
        (z.0, (x.0, x.1, z.1))
    some_value (range_of e f) cur row =
        let x = some_value e cur row in
        let y = some_value f cur row in
        (range (to_number x.0) (to_number y.0), (x.0, y.0, x.1, y.1, refl))
    some_value (subquery q) cur row = let x = some_answer q row in (list x.0, (x.0, x.1, refl))

    pub some_values : (es : ExprTrees) (cur : Datum) (row : Row) → (vs : List Datum)
        × EvaluatesAll db es cur row vs
    some_values no_exprs cur row = ([], tt)
    some_values (expr_then e es) cur row =
        let x = some_value e cur row in
        let y = some_values es cur row in
        (x.0 ∷ y.0, (x.1, y.1))

    some_or : (m : MaybeExpr) (cur : Datum) (row : Row) (d : Datum) → (v : Datum)
        × EvaluatesOr db m cur row d v
    some_or no_expr cur row d = (d, refl)
    some_or (one_expr e) cur row d = some_value e cur row

    some_members : (ms : MemberTrees) (cur : Datum) (row : Row)
        → (fs : List (List ℕ × Datum)) × EvaluatesMembers db ms cur row fs
    some_members no_members cur row = ([], tt)
    some_members (named_then name e ms) cur row =
        let x = some_value e cur row in
        let y = some_members ms cur row in
        ((name, x.0) ∷ y.0, (refl, x.1, y.1))
    some_members (computed_then n e ms) cur row =
        let k = some_value n cur row in
        let x = some_value e cur row in
        let y = some_members ms cur row in
        ((to_text k.0, x.0) ∷ y.0, (k.0, k.1, refl, x.1, y.1))

    some_step : (ss : StepTrees) (cur : Datum) (row : Row) (d : Datum) → (v : Datum)
        × EvaluatesSteps db ss cur row d v
    some_step no_steps cur row d = (d, refl)
    some_step (name_then name ss) cur row d = some_step ss cur row (at_name d name)
    some_step (at_then e ss) cur row d =
        let x = some_value e cur row in
        let y = some_step ss cur row (at_value d x.0) in
        (y.0, (x.0, x.1, y.1))
    some_step (inline_then f p ss) cur row d =
        let tests = all_some (λ c b. EvaluatesOr db f c row (boolean true) b)
        (λ c. some_or f c row (boolean true))
        (elements d) in
        let given = all_some (λ c w. EvaluatesOr db p c row c w) (λ c. some_or p c row c)
        (filter_true (elements d) tests.0) in
        let ends = all_some (λ w u. EvaluatesSteps db ss cur row w u) (λ w. some_step ss cur row w) given.0 in
        (list ends.0, (tests.0, given.0, ends.0, tests.1, given.1, ends.1, refl))

    some_link : (ls : LinkTrees) (cur : Datum) (row : Row) (a : Datum) → (v : Datum)
        × EvaluatesLinks db ls cur row a v
    some_link no_links cur row a = (a, refl)
    some_link (link_then op e ls) cur row a =
        let x = some_linked op (Evaluates db e cur row) (some_value e cur row) a in
        let y = some_link ls cur row x.0 in
        (y.0, (x.0, x.1, y.1))

    some_arguments : (gs : AggregateTrees) (row : Row) → (vs : List Datum) × EvaluatesArguments db gs row vs
    some_arguments no_aggregates row = ([], tt)
    some_arguments (aggregate_then y' name e gs) row =
        let x = some_or e null row null in
        let y = some_arguments gs row in
        (x.0 ∷ y.0, (x.1, y.1))

    some_taken : (i : IntoTree) (vars : List Ident) (row : Row) → (v : Datum) × EvaluatesInto db i vars row v
    some_taken no_into vars row = (null, refl)
    some_taken (into x what keep) vars row = some_or what null row (variables_object vars keep row)

    some_change : (c : ClauseTree) (start : Row) (vars : List Ident) (rows : List Row)
        → (out : List Row) × Changes db c start vars rows out
    some_change (for_each x e) start vars rows =
        by (collection_meant e start vars) (all_some (Evaluates db e null) (some_value e null) rows)
      where
        by : (m : Option (List ℕ)) → ((vs : List Datum) × AllZip (Evaluates db e null) rows vs)
            → (out : List Row) × MatchOption m
            ((vs : List Datum) × AllZip (Evaluates db e null) rows vs × (out ≡ with_elements x rows vs))
            (λ name. IsPermutation (with_documents x (documents_named db name) rows) out)
        by None vs = (with_elements x rows vs.0, (vs.0, vs.1, refl))
        by (Some name) vs = (with_documents x (documents_named db name) rows, IsPermutation-refl _)
    some_change (for_documents x name) start vars rows =
        (with_documents x (documents_named db name) rows, IsPermutation-refl _)
    some_change (traversal w e names prune settings) start vars rows =
        let vs = all_some (Evaluates db e null) (some_value e null) rows in
        let x = some_traversal db (with_settings settings w) (edges_named db names)
        (λ row. truth (value_or prune null row (boolean false))) rows vs.0 in
        (x.0, (vs.0, vs.1, x.1))
    some_change (filter_by e) start vars rows =
        let vs = all_some (Evaluates db e null) (some_value e null) rows in
        (filter_true rows vs.0, (vs.0, vs.1, refl))
    some_change (let_be x e) start vars rows =
        let vs = all_some (Evaluates db e null) (some_value e null) rows in
        (with_values x rows vs.0, (vs.0, vs.1, refl))
    some_change (sort_by directions es) start vars rows =
        let keys = all_some (EvaluatesAll db es null) (some_values es null) rows in
        let x = some_sort directions keys.0 rows in
        (x.0, (keys.0, keys.1, x.1))
    some_change (limit offset count) start vars rows = (limit_rows offset count rows, refl)
    some_change (collect xs es gs i) start vars rows =
        let grouped = all_some
        (λ row one. IsGroupedRow (EvaluatesAll db es null row) (EvaluatesArguments db gs row)
        (EvaluatesInto db i vars row) one)
        (λ row.
        let a = some_values es null row in
        let b = some_arguments gs row in
        let t = some_taken i vars row in (
          record { criteria = a.0; arguments = b.0; into_value = t.0 },
          record { criteria = a.1; arguments = b.1; into_value = t.1 },
        ))
        rows in
        let x = some_collect xs (aggregate_vars gs) (aggregate_functions gs) (into_var i) start grouped.0 in
        (x.0, (grouped.0, grouped.1, x.1))

    pub some_rows : (cs : ClauseTrees) (start : Row) (vars : List Ident) (rows : List Row)
        → (out : List Row) × Through db cs start vars rows out
    some_rows no_clauses start vars rows = (rows, refl)
    some_rows (clause_then c cs) start vars rows =
        let x = some_change c start vars rows in
        let y = some_rows cs start (vars_after c vars) x.0 in
        (y.0, (x.0, x.1, y.1))

    pub some_answer : (q : QueryTree) (start : Row) → (out : List Datum) × IsAnswer db q start out
    some_answer (query with cs distinct e) start =
        let x = some_rows cs start [] (start ∷ []) in
        let vs = all_some (Evaluates db e null) (some_value e null) x.0 in
        (return_values distinct vs.0, (x.0, vs.0, x.1, vs.1, refl))
