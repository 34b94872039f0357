-- Each list of the first plan of a scoped query is an answer of the query.
use Rattle.std.proofs.Common.{◌≡◌, ◌∙◌, ℕ, suc, List, [], ◌∷◌, ◌++◌, map, Bool, true, false, true≢false, cond, refl, ap, ap₂, sym, subst}
use Rattle.std.specs.Prelude.{Option, None, MatchOption, filter, flat_map, bytes_eq, IsPermutation, ◌&&◌}
use Rattle.std.specs.List.{AllZip}
use Rattle.aql_value.specs.Datum.{Datum, null}
use Rattle.aql_value.specs.Contents.{list}
use Rattle.aql_value.specs.Truth.{truth}
use Rattle.aql_value.specs.Database.{Database, documents_named, documents_of}
use Rattle.aql_value.specs.declared.operators.BinOp.TheVariants.{And}
use Rattle.aql_func.specs.Operators.{binary}
use Rattle.aql_tree.specs.declared.syntax.Ident.{Ident}
use Rattle.aql_tree.specs.declared.syntax.Ident.TheVariants.{Name, Num}
use Rattle.aql_tree.specs.Tree.{ExprTree, variable, chain, subquery, ExprTrees, no_exprs, expr_then, MaybeExpr, no_expr, one_expr, no_members, named_then, computed_then, LinkTrees, no_links, link_then, ClauseTree, for_each, for_documents, traversal, filter_by, let_be, sort_by, limit, collect, AggregateTrees, no_aggregates, aggregate_then, IntoTree, no_into, into, ClauseTrees, no_clauses, clause_then, QueryTree, query}
use Rattle.aql_meaning.specs.Row.{Row, bind}
use Rattle.aql_meaning.specs.Value.{value, value_or, links_value}
use Rattle.aql_meaning.specs.Clauses.{with_each, with_elements, with_documents, filter_true, with_values, return_values, Sorts}
use Rattle.aql_meaning.specs.Groups.{GroupedRow, IsGroupedRow}
use Rattle.aql_meaning.specs.Paths.{Traverses}
use Rattle.aql_meaning.specs.Visible.{vars_after, collection_meant, edges_named, each_once}
use Rattle.aql_meaning.specs.Plain.{IsPlain, AllPlain, MaybePlain}
use Rattle.aql_meaning.specs.Lifted.{IsNoName, AggregatesPlain, IntoPlain, ClauseLifted, ClausesLifted, IsLifted}
use Rattle.aql_meaning.specs.Meaning.{Evaluates, EvaluatesAll, EvaluatesOr, EvaluatesArguments, EvaluatesInto, Changes, Through, IsAnswer}
use Rattle.aql_meaning.specs.laws.OneValue.{has_value}
use Rattle.aql_meaning.specs.declared.grouping.Stage.TheVariants.{Whole}
use Rattle.aql_meaning.specs.Documents.{projection, documents_kept}
use Rattle.aql_meaning.specs.Stages.{arguments_at, taken_at, grouped_row_at}
use Rattle.aql_plan.specs.declared.facts.Facts.{Facts}
use Rattle.aql_plan.specs.declared.facts.CollFact.{CollFact}
use Rattle.aql_plan.specs.Facts.{MeetsCollection, Meets}
use Rattle.aql_plan.specs.Plan.{Plan, Singleton, Over, Filter}
use Rattle.aql_plan.specs.Runs.{Dataset, Outside, edges_in, result_row, result_of, Runs}
use Rattle.aql_meaning.specs.AtRows.{values_of, keys_of, passes, stops}
use Rattle.aql_plan.specs.Refines.{dataset, Answers}
use Rattle.aql_plan.specs.FirstPlan.{number_among, coll_number, all_and, right_sides, conjuncts, has_few_conditions, conditions_of, filters, after_clause, after_clauses, plan_of, first_plan}

-- ---- words of clauses and of nodes

all_pass : {X : Type 0} (xs : List X) → filter (λ x. true) xs ≡ xs
all_pass [] = refl
all_pass (x ∷ xs) = ap (λ ys. x ∷ ys) (all_pass xs)

-- each document passes where there is no filter, and is kept whole
all_kept : (documents : List Datum) → map (projection None) (filter (λ d. true) documents) ≡ documents
all_kept [] = refl
all_kept (d ∷ documents) = ap (λ ds. d ∷ ds) (all_kept documents)

pub documents_read : (x : Ident) (documents : List Datum) (rows : List Row)
    → with_each (bind x) rows (map (λ row. documents_kept x (passes no_expr) None row documents) rows)
    ≡ with_documents x documents rows
documents_read x documents rows =
    ap (λ (filter_true : List Datum). with_each (bind x) rows (map (λ row. filter_true) rows))
    (all_kept documents)

-- the documents of a name are those of its number
pub documents_found : (fs : List CollFact) (db : Database) → AllZip MeetsCollection fs db → (name : List ℕ)
    → documents_of db (number_among fs name) ≡ documents_named db name
documents_found [] [] h name = refl
documents_found [] (c ∷ db) h name = absurd h
documents_found (f ∷ fs) [] h name = absurd h
documents_found (f ∷ fs) (c ∷ db) h name =
    ap (λ (n : List ℕ). documents_of (c ∷ db) (cond (bytes_eq n name) 0 (suc (number_among fs name)))) h.0.0
    ∙ by (bytes_eq c.name name) (documents_found fs db h.1 name)
  where
    by : (b : Bool) → documents_of db (number_among fs name) ≡ documents_named db name
        → documents_of (c ∷ db) (cond b 0 (suc (number_among fs name)))
        ≡ cond b c.documents (documents_named db name)
    by true e = refl
    by false e = e

edges_found : (facts : Facts) (db : Database) → Meets facts db → (names : List (List ℕ))
    → edges_in db (map (coll_number facts) names) ≡ flat_map (documents_named db) names
edges_found facts db meets [] = refl
edges_found facts db meets (name ∷ names) =
    ap₂ ◌++◌ (documents_found facts.collections db meets name) (edges_found facts db meets names)

-- FILTER over an `&&` chain, part by part
kept_of : (e : ExprTree) (rows : List Row) → filter_true rows (values_of e rows)
    ≡ filter (λ row. truth (value e null row)) rows
kept_of e [] = refl
kept_of e (row ∷ rows) =
    ap (λ rest. cond (truth (value e null row)) (row ∷ rest) rest) (kept_of e rows)

abbrev all_hold : List ExprTree → Row → Bool
all_hold [] row = true
all_hold (e ∷ es) row = truth (value e null row) && all_hold es row

filter_twice : (p q : Row → Bool) (rows : List Row)
    → filter q (filter p rows) ≡ filter (λ row. p row && q row) rows
filter_twice p q [] = refl
filter_twice p q (row ∷ rows) = by (p row) (q row) (filter_twice p q rows)
  where
    by : (a b : Bool) → filter q (filter p rows) ≡ filter (λ row. p row && q row) rows
        → filter q (cond a (row ∷ filter p rows) (filter p rows))
        ≡ cond (a && q row) (row ∷ filter (λ row. p row && q row) rows) (filter (λ row. p row && q row) rows)
    by true b e = ap (λ rest. cond (q row) (row ∷ rest) rest) e
    by false b e = e

same_filter : (p q : Row → Bool) → ((row : Row) → p row ≡ q row) → (rows : List Row) → filter p rows
    ≡ filter q rows
same_filter p q h [] = refl
same_filter p q h (row ∷ rows) =
    ap₂ (λ b rest. cond b (row ∷ rest) rest) (h row) (same_filter p q h rows)

filters_run : (w : Dataset) (es : List ExprTree) (b : Plan) (start : Row) (out : List Row)
    → Runs (filters b es) w Outside start out
    → (rows : List Row) × Runs b w Outside start rows × (out ≡ filter (all_hold es) rows)
filters_run w [] b start out g = (out, g, sym (all_pass out))
filters_run w (e ∷ es) b start out g =
    let more = filters_run w es (Over b (Filter e)) start out g in
    let mid = more.1 in (
      mid.0,
      mid.1,
      more.2 ∙ ap (filter (all_hold es)) (mid.2 ∙ kept_of e mid.0)
          ∙ filter_twice (λ row. truth (value e null row)) (all_hold es) mid.0,
    )

and_truth : (a b : Datum) → truth (binary And a b) ≡ (truth a && truth b)
and_truth a b = by (truth a) refl
  where
    by : (c : Bool) → truth a ≡ c → truth (cond c b a) ≡ (c && truth b)
    by true e = refl
    by false e = e

and_true : (b : Bool) → b ≡ (b && true)
and_true true = refl
and_true false = refl

and_grouped : (a b c : Bool) → ((a && b) && c) ≡ (a && (b && c))
and_grouped true b c = refl
and_grouped false b c = refl

linked_truth : (ls : LinkTrees) → all_and ls ≡ true → (row : Row) (a : Datum)
    → truth (links_value ls null row a) ≡ (truth a && all_hold (right_sides ls) row)
linked_truth no_links h row a = and_true (truth a)
linked_truth (link_then And e ls) h row a =
    linked_truth ls h row (binary And a (value e null row))
    ∙ ap (λ b. b && all_hold (right_sides ls) row) (and_truth a (value e null row))
    ∙ and_grouped (truth a) (truth (value e null row)) (all_hold (right_sides ls) row)
linked_truth (link_then op e ls) h row a = absurd (true≢false (sym h))

conjuncts_hold : (e : ExprTree) (row : Row) → truth (value e null row) ≡ all_hold (conjuncts e) row
conjuncts_hold (chain e ls) row = by (all_and ls) refl
  where
    by : (b : Bool) → all_and ls ≡ b
        → truth (links_value ls null row (value e null row))
        ≡ all_hold (cond b (e ∷ right_sides ls) (chain e ls ∷ [])) row
    by true h = linked_truth ls h row (value e null row)
    by false h = and_true (truth (links_value ls null row (value e null row)))
conjuncts_hold e row = and_true (truth (value e null row))

conditions_hold : (split : Bool) (e : ExprTree) (row : Row)
    → truth (value e null row) ≡ all_hold (conditions_of split e) row
conditions_hold true e row = conjuncts_hold e row
conditions_hold false e row = and_true (truth (value e null row))

no_collection : (e : ExprTree) → IsNoName e → (start : Row) (vars : List Ident)
    → collection_meant e start vars ≡ None
no_collection (variable (Name n)) h start vars = absurd h
no_collection (variable (Num n)) h start vars = refl
no_collection e h start vars = refl

results_back : (vs : List Datum) → map result_of (map result_row vs) ≡ vs
results_back [] = refl
results_back (v ∷ vs) = ap (λ ws. v ∷ ws) (results_back vs)

module _ (facts : Facts) (db : Database) (meets : Meets facts db) (split : Bool) where
  plain_values : (e : ExprTree) → IsPlain e → (rows : List Row)
      → AllZip (Evaluates db e null) rows (values_of e rows)
  plain_values e h [] = tt
  plain_values e h (row ∷ rows) = (has_value db e h null row, plain_values e h rows)

  plain_all : (es : ExprTrees) → AllPlain es → (row : Row) → EvaluatesAll db es null row (keys_of es row)
  plain_all no_exprs h row = tt
  plain_all (expr_then e es) h row = (has_value db e h.0 null row, plain_all es h.1 row)

  plain_keys : (es : ExprTrees) → AllPlain es → (rows : List Row)
      → AllZip (EvaluatesAll db es null) rows (map (keys_of es) rows)
  plain_keys es h [] = tt
  plain_keys es h (row ∷ rows) = (plain_all es h row, plain_keys es h rows)

  plain_or : (e : MaybeExpr) → MaybePlain e → (row : Row) (d : Datum)
      → EvaluatesOr db e null row d (value_or e null row d)
  plain_or no_expr h row d = refl
  plain_or (one_expr e) h row d = has_value db e h null row

  plain_arguments : (gs : AggregateTrees) → AggregatesPlain gs → (row : Row)
      → EvaluatesArguments db gs row (arguments_at gs row)
  plain_arguments no_aggregates h row = tt
  plain_arguments (aggregate_then x name e rest) h row =
      (plain_or e h.0 row null, plain_arguments rest h.1 row)

  plain_taken : (i : IntoTree) → IntoPlain i → (vars : List Ident) (row : Row)
      → EvaluatesInto db i vars row (taken_at i row)
  plain_taken no_into h vars row = refl
  plain_taken (into x no_expr keep) h vars row = absurd h
  plain_taken (into x (one_expr e) keep) h vars row = has_value db e h null row

  plain_members : (xs : List Ident) (es : ExprTrees) (gs : AggregateTrees) (i : IntoTree)
      → AllPlain es → AggregatesPlain gs → IntoPlain i → (vars : List Ident) (rows : List Row)
      → AllZip (λ row (m : GroupedRow).
      IsGroupedRow (EvaluatesAll db es null row) (EvaluatesArguments db gs row)
      (EvaluatesInto db i vars row) m)
      rows
      (map (grouped_row_at Whole xs es gs i) rows)
  plain_members xs es gs i h k l vars [] = tt
  plain_members xs es gs i h k l vars (row ∷ rows) = (
    record {
      criteria = plain_all es h row;
      arguments = plain_arguments gs k row;
      into_value = plain_taken i l vars row;
    },
    plain_members xs es gs i h k l vars rows,
  )

  -- the values of a subquery, where each list of its plan is an answer
  bodies : (x : Ident) (q : QueryTree)
      → ((row : Row) (results : List Row) → Runs (plan_of facts split q) (dataset facts db) Outside row results
      → IsAnswer db q row (map result_of results)) → (rows out : List Row)
      → AllZip (λ row given. (results : List Row)
      × Runs (plan_of facts split q) (dataset facts db) Outside row results
      × (given ≡ bind x row (list (map result_of results)))) rows out
      → (vs : List Datum) × AllZip (Evaluates db (subquery q) null) rows vs × (out ≡ with_values x rows vs)
  bodies x q f [] [] h = ([], tt, refl)
  bodies x q f [] (given ∷ out) h = absurd h
  bodies x q f (row ∷ rows) [] h = absurd h
  bodies x q f (row ∷ rows) (given ∷ out) h =
      let more = bodies x q f rows out h.1 in (
        list (map result_of h.0.0) ∷ more.0,
        ((map result_of h.0.0, f row h.0.0 h.0.1, refl), more.1),
        ap₂ (λ r rs. r ∷ rs) h.0.2 more.2,
      )

  calculated : (x : Ident) (e : ExprTree) → IsPlain e → (b : Plan) (start : Row) (out : List Row)
      → ((rows : List Row) × Runs b (dataset facts db) Outside start rows
      × (out ≡ with_values x rows (values_of e rows)))
      → (rows : List Row) × Runs b (dataset facts db) Outside start rows
      × ((vs : List Datum) × AllZip (Evaluates db e null) rows vs × (out ≡ with_values x rows vs))
  calculated x e h b start out g = (g.0, g.1, (values_of e g.0, plain_values e h g.0, g.2))

  mutual
    clause_law : (c : ClauseTree) → ClauseLifted c
        → (b : Plan) (start : Row) (vars : List Ident) (out : List Row)
        → Runs (after_clause facts split b c) (dataset facts db) Outside start out
        → (rows : List Row) × Runs b (dataset facts db) Outside start rows × Changes db c start vars rows out
    clause_law (for_each x e) h b start vars out g = (
      g.0,
      g.1,
      subst (λ (m : Option (List ℕ)). MatchOption m
          ((vs : List Datum) × AllZip (Evaluates db e null) g.0 vs × (out ≡ with_elements x g.0 vs))
          (λ name. IsPermutation (with_documents x (documents_named db name) g.0) out))
          (sym (no_collection e h.1 start vars)) (values_of e g.0, plain_values e h.0 g.0, g.2),
    )
    clause_law (for_documents x name) h b start vars out g = (
      g.0,
      g.1,
      subst (λ (rows : List Row). IsPermutation rows out)
          (documents_read x (documents_of db (coll_number facts name)) g.0
          ∙ ap (λ ds. with_documents x ds g.0) (documents_found facts.collections db meets name)) g.2,
    )
    clause_law (traversal w e names prune no_members) h b start vars out g = (
      g.0,
      g.1,
      (
        values_of e g.0,
        plain_values e h.0 g.0,
        subst (λ (o : List Row). Traverses db w (edges_named db names) (stops prune) g.0 (values_of e g.0) o)
            (sym (g.2.2 ∙ all_pass g.2.0))
            (subst (λ (es : List Datum). Traverses db w es (stops prune) g.0 (values_of e g.0) g.2.0)
            (edges_found facts db meets (each_once names)) g.2.1),
      ),
    )
    clause_law (traversal w e names prune (named_then n m ms)) h b start vars out g = absurd h.2
    clause_law (traversal w e names prune (computed_then n m ms)) h b start vars out g = absurd h.2
    clause_law (filter_by e) h b start vars out g =
        let k = filters_run (dataset facts db) (conditions_of split e) b start out g in (
          k.0,
          k.1,
          (
            values_of e k.0,
            plain_values e h k.0,
            k.2 ∙ same_filter (all_hold (conditions_of split e)) (λ row. truth (value e null row))
                (λ row. sym (conditions_hold split e row)) k.0
                ∙ sym (kept_of e k.0),
          ),
        )
    clause_law (let_be x (subquery q)) h b start vars out g =
        (g.0, g.1, bodies x q (λ row results run. query_law q h row results run) g.0 out g.2)
    clause_law (let_be x e) h b start vars out g = calculated x e h b start out g
    clause_law (sort_by directions es) h b start vars out g = (
      g.0,
      g.1,
      (
        map (keys_of es) g.0,
        plain_keys es h g.0,
        subst (λ (o : List Row). Sorts directions (map (keys_of es) g.0) g.0 o) (sym g.2.2) g.2.1,
      ),
    )
    clause_law (limit offset count) h b start vars out g = g
    clause_law (collect xs es gs i) h b start vars out g = (
      g.0,
      g.1,
      (map (grouped_row_at Whole xs es gs i) g.0, plain_members xs es gs i h.0 h.1 h.2 vars g.0, g.2),
    )

    clauses_law : (cs : ClauseTrees) → ClausesLifted cs
        → (b : Plan) (start : Row) (vars : List Ident) (out : List Row)
        → Runs (after_clauses facts split b cs) (dataset facts db) Outside start out
        → (rows : List Row) × Runs b (dataset facts db) Outside start rows × Through db cs start vars rows out
    clauses_law no_clauses h b start vars out g = (out, g, refl)
    clauses_law (clause_then c cs) h b start vars out g =
        let more = clauses_law cs h.1 (after_clause facts split b c) start (vars_after c vars) out g in
        let one = clause_law c h.0 b start vars more.0 more.1 in
        (one.0, one.1, (more.0, one.2, more.2))

    pub query_law : (q : QueryTree) → IsLifted q → (start : Row) (rows : List Row)
        → Runs (plan_of facts split q) (dataset facts db) Outside start rows
        → IsAnswer db q start (map result_of rows)
    query_law (query with cs distinct e) h start rows g =
        let through = clauses_law cs h.0 Singleton start [] g.0 g.1 in (
          g.0,
          values_of e g.0,
          subst (λ (r : List Row). Through db cs start [] r g.0) through.1 through.2,
          plain_values e h.1 g.0,
          ap (map result_of) g.2 ∙ results_back (return_values distinct (values_of e g.0)),
        )

pub first_answers : (facts : Facts) (db : Database) → Meets facts db → (q : QueryTree) → IsLifted q
    → (start : Row)
    → (vs : List Datum) → Answers (first_plan facts q) (dataset facts db) start vs → IsAnswer db q start vs
first_answers facts db meets q h start vs g =
    subst (λ (ts : List Datum). IsAnswer db q start ts) (sym g.2)
    (query_law facts db meets (has_few_conditions q) q h start g.0 g.1)
