-- What the scoped query answers, the written one answers.
use Rattle.std.proofs.Common.{◌≡◌, ◌∙◌, ℕ, suc, ◌<◌, List, [], ◌∷◌, ◌++◌, map, true, false, refl, ap, ap₂, sym, subst}
use Rattle.std.specs.Prelude.{Option, Some, None, is_some, unwrap_or, MatchOption, IsPermutation}
use Rattle.std.specs.List.{AllZip}
use Rattle.aql_value.specs.Datum.{Datum, null, boolean}
use Rattle.aql_value.specs.Contents.{elements, at_name, at_value}
use Rattle.aql_value.specs.Database.{Database, documents_named}
use Rattle.aql_value.specs.Truth.{truth}
use Rattle.aql_tree.specs.declared.syntax.Ident.{Ident}
use Rattle.aql_tree.specs.declared.syntax.Ident.TheVariants.{Name, Num}
use Rattle.aql_tree.specs.Tree.{ExprTree, literal, variable, current, array_literal, object_literal, access, function_call, unary_of, chain, array_comparison, ternary, range_of, subquery, ExprTrees, no_exprs, expr_then, MaybeExpr, no_expr, one_expr, MemberTrees, no_members, named_then, computed_then, StepTrees, no_steps, name_then, at_then, inline_then, LinkTrees, no_links, link_then, ClauseTree, for_each, for_documents, traversal, filter_by, let_be, sort_by, limit, collect, AggregateTrees, no_aggregates, aggregate_then, IntoTree, no_into, into, ClauseTrees, no_clauses, clause_then, QueryTree, query}
use Rattle.aql_meaning.specs.Row.{Row, empty_row, value_at}
use Rattle.aql_meaning.specs.Expressions.{object_value}
use Rattle.aql_meaning.specs.Value.{value_or}
use Rattle.aql_meaning.specs.Plain.{MaybePlain}
use Rattle.aql_meaning.specs.Clauses.{with_elements, with_documents, filter_true, with_values, limit_rows}
use Rattle.aql_meaning.specs.Groups.{GroupedRow, IsGroupedRow, into_names}
use Rattle.aql_meaning.specs.Options.{with_settings}
use Rattle.aql_meaning.specs.Visible.{sees, edges_named}
use Rattle.aql_meaning.specs.Meaning.{Evaluates, EvaluatesAll, EvaluatesOr, EvaluatesMembers, EvaluatesSteps, EvaluatesLinks, EvaluatesArguments, EvaluatesInto, Changes, Through, IsAnswer}
use Rattle.aql_meaning.specs.laws.OneValue.{has_value, only_value}
use Rattle.aql_meaning.specs.laws.Replaced.{all_map, either_map, link_map}
use Rattle.aql_meaning.specs.laws.Shuffles.{alike_permutation}
use Rattle.aql_scope.specs.Numbering.{Numbering, number_of, idents, numbered_variable, from_name, variable_members, after_traversal, traversal_names}
use Rattle.aql_scope.specs.Lifting.{NumberedSubquery, expr, exprs, maybe, members, steps, links, criteria, aggregates, into_part, clause, clauses, scope_query, with_lets}
use Rattle.aql_scope.specs.Prunes.{ExprPrunes, ExprsPrunes, MaybePrunes, MembersPrunes, StepsPrunes, LinksPrunes, AggregatesPrunes, IntoPrunes, ClausePrunes, ClausesPrunes, PrunesPlain}
use Rattle.aql_scope.specs.laws.PlainTakesNothing.{plain_takes_nothing}
use Rattle.aql_scope.specs.laws.Alike.{Alike, AlikeAt, Below, below_more, sees_own}
use Rattle.aql_scope.specs.laws.Named.{grown_le, grown_idents, grown_numbers, grown_traversal}
use Rattle.aql_scope.specs.laws.Walk.{walked, walked_le, walked_maybe, walked_criteria, walked_aggregates, walked_clause, grown_clause}
use Rattle.aql_scope.proofs.Lists.{zip_join, zip_take, zip_drop}
use Rattle.aql_scope.proofs.Lets.{Here, Held, here_split, here_later, here_next, rans_fit, through_lets, through_followed}
use Rattle.aql_scope.proofs.Traversals.{traversal_back}
use Rattle.aql_scope.proofs.Rows.{elements_alike, documents_alike, kept_alike, bound_alike, sorted_back, meant_none, meant_some}
use Rattle.aql_scope.proofs.LiftedGroups.{collected_back}

-- the next number after a clause is above those of the names that are visible there
below_clause : (c : ClauseTree) (outer own : Numbering) (n : ℕ) → Below n outer → Below n (own ++ outer)
    → Below (clause outer own n c).clause.next ((clause outer own n c).own ++ outer)
below_clause c outer own n o b =
    let m = (clause outer own n c).clause.next in
    let l = walked_le (walked_clause c outer own n) in
    grown_numbers (λ k. k < m) outer (grown_clause c outer own n) (λ k i j. j) (below_more n m outer l o)
    (below_more n m (own ++ outer) l b)

module _ (db : Database) where
  alikes : (names : Numbering) (n : ℕ) (us : List NumberedSubquery) (ts rs : List Row)
      → AllZip (Here db names n us) ts rs → AllZip (Alike names) ts rs
  alikes names n us ts rs a = all_map (Here db names n us) (Alike names) (λ t r h. h.alike) ts rs a

  -- FOR over an array, FILTER and LET, where the values at like rows are the same
  module _ (names more : Numbering) (n : ℕ) (us : List NumberedSubquery) (scoped written : ExprTree)
      (f g : List Row → List Datum → List Row)
      (alike : (ts rs : List Row) (vs : List Datum) → AllZip (Alike names) ts rs
      → AllZip (Alike more) (f ts vs) (g rs vs))
      (back : (t r : Row) (v : Datum) → Here db names n us t r → Evaluates db scoped null t v
      → Evaluates db written null r v) where
    rows_back : (ts rs out : List Row) → AllZip (Here db names n us) ts rs
        → (vs : List Datum) × AllZip (Evaluates db scoped null) ts vs × (out ≡ f ts vs)
        → (behind : List Row)
        × ((vs : List Datum) × AllZip (Evaluates db written null) rs vs × (behind ≡ g rs vs))
        × AllZip (Alike more) out behind
    rows_back ts rs out a k = (
      g rs k.0,
      (k.0, zip_join _ (Evaluates db scoped null) (Evaluates db written null) back ts rs k.0 a k.1, refl),
      subst (λ (o : List Row). AllZip (Alike more) o (g rs k.0)) (sym k.2)
          (alike ts rs k.0 (alikes _ _ _ ts rs a)),
    )

  name_back : (t r : Row) (x : Ident) (cur v : Datum) (o : Option ℕ) → AlikeAt t o (r x)
      → Evaluates db (numbered_variable o) cur t v → v ≡ value_at r x
  name_back t r x cur v None e k = k ∙ sym (ap (λ (o : Option Datum). unwrap_or o null) e)
  name_back t r x cur v (Some j) e k = k ∙ ap (λ (o : Option Datum). unwrap_or o null) (e.1 ∙ sym e.2)

  -- the object of INTO
  object_back : (names : Numbering) (t r : Row) (xs : List (List ℕ)) (fs : List (List ℕ × Datum))
      → Alike names t r
      → EvaluatesMembers db (variable_members names xs) null t fs
      → fs ≡ map (λ n. (n, value_at r (Name n))) xs
  object_back names t r [] [] a k = refl
  object_back names t r [] (f ∷ fs) a k = absurd k
  object_back names t r (x ∷ xs) [] a k = absurd k
  object_back names t r (x ∷ xs) (f ∷ fs) a k =
      let v = name_back t r (Name x) null f.1 (number_of names (Name x)) (a (Name x)) k.1 in
      ap₂ (λ (g : List ℕ × Datum) (gs : List (List ℕ × Datum)). g ∷ gs)
      (ap₂ (λ (m : List ℕ) (w : Datum). (m, w)) k.0 v) (object_back names t r xs fs a k.2)

  mutual
    expr_back : (e : ExprTree) → ExprPrunes e → {names : Numbering} {n : ℕ} {t r : Row} (cur v : Datum)
        → Here db names n (expr names n e).subqueries t r → Evaluates db (expr names n e).tree cur t v
        → Evaluates db e cur r v
    expr_back (literal w) c cur v h k = k
    expr_back (variable x) c {names} {n} {t} {r} cur v h k =
        name_back t r x cur v (number_of names x) (h.alike x) k
    expr_back current c cur v h k = k
    expr_back (array_literal es) c cur v h k = (k.0, all_back es c cur k.0 h k.1, k.2)
    expr_back (object_literal ms) c cur v h k = (k.0, members_back ms c cur k.0 h k.1, k.2)
    expr_back (access e ss) c cur v h k =
        let g = here_split db (walked e _ _) h in
        (k.0, expr_back e c.0 cur k.0 g.0 k.1, steps_back ss c.1 cur k.0 v g.1 k.2)
    expr_back (function_call name es) c cur v h k = (k.0, all_back es c cur k.0 h k.1, k.2)
    expr_back (unary_of op e) c cur v h k = (k.0, expr_back e c cur k.0 h k.1, k.2)
    expr_back (chain e ls) c cur v h k =
        let g = here_split db (walked e _ _) h in
        (k.0, expr_back e c.0 cur k.0 g.0 k.1, links_back ls c.1 cur k.0 v g.1 k.2)
    expr_back (array_comparison e kind op d) c cur v h k =
        let g = here_split db (walked e _ _) h in
        (k.0, k.1, expr_back e c.0 cur k.0 g.0 k.2, expr_back d c.1 cur k.1 g.1 k.3, k.4)
    expr_back (ternary test first other) c cur v h k =
        let f = here_split db (walked test _ _) h in
        let g = here_split db (walked_maybe first _ _) f.1 in (
          k.0,
          expr_back test c.0 cur k.0 f.0 k.1,
          either_map (truth k.0) _ _ _ _ (maybe_back first c.1 cur k.0 v g.0) (expr_back other c.2 cur v g.1)
              k.2,
        )
    expr_back (range_of e d) c cur v h k =
        let g = here_split db (walked e _ _) h in
        (k.0, k.1, expr_back e c.0 cur k.0 g.0 k.2, expr_back d c.1 cur k.1 g.1 k.3, k.4)
    expr_back (subquery q) c {names} {n} {t} {r} cur v h k =
        let f = h.held.0 in (
          f.0,
          query_back q c names (suc n) f.1 r f.0 (here_next db h).below f.2 f.3,
          k ∙ ap (λ (o : Option Datum). unwrap_or o null) f.4,
        )

    all_back : (es : ExprTrees) → ExprsPrunes es → {names : Numbering} {n : ℕ} {t r : Row} (cur : Datum)
        (vs : List Datum) → Here db names n (exprs names n es).subqueries t r
        → EvaluatesAll db (exprs names n es).tree cur t vs → EvaluatesAll db es cur r vs
    all_back no_exprs c cur vs h k = k
    all_back (expr_then e es) c cur [] h k = absurd k
    all_back (expr_then e es) c cur (v ∷ vs) h k =
        let g = here_split db (walked e _ _) h in
        (expr_back e c.0 cur v g.0 k.0, all_back es c.1 cur vs g.1 k.1)

    maybe_back : (m : MaybeExpr) → MaybePrunes m → {names : Numbering} {n : ℕ} {t r : Row} (cur d v : Datum)
        → Here db names n (maybe names n m).subqueries t r → EvaluatesOr db (maybe names n m).tree cur t d v
        → EvaluatesOr db m cur r d v
    maybe_back no_expr c cur d v h k = k
    maybe_back (one_expr e) c cur d v h k = expr_back e c cur v h k

    members_back : (ms : MemberTrees) → MembersPrunes ms → {names : Numbering} {n : ℕ} {t r : Row}
        (cur : Datum) (fs : List (List ℕ × Datum)) → Here db names n (members names n ms).subqueries t r
        → EvaluatesMembers db (members names n ms).tree cur t fs → EvaluatesMembers db ms cur r fs
    members_back no_members c cur fs h k = k
    members_back (named_then name e ms) c cur [] h k = absurd k
    members_back (named_then name e ms) c cur (m ∷ fs) h k =
        let g = here_split db (walked e _ _) h in
        (k.0, expr_back e c.0 cur m.1 g.0 k.1, members_back ms c.1 cur fs g.1 k.2)
    members_back (computed_then d e ms) c cur [] h k = absurd k
    members_back (computed_then d e ms) c cur (m ∷ fs) h k =
        let f = here_split db (walked d _ _) h in
        let g = here_split db (walked e _ _) f.1 in (
          k.0,
          expr_back d c.0 cur k.0 f.0 k.1,
          k.2,
          expr_back e c.1 cur m.1 g.0 k.3,
          members_back ms c.2 cur fs g.1 k.4,
        )

    steps_back : (ss : StepTrees) → StepsPrunes ss → {names : Numbering} {n : ℕ} {t r : Row} (cur d v : Datum)
        → Here db names n (steps names n ss).subqueries t r
        → EvaluatesSteps db (steps names n ss).tree cur t d v → EvaluatesSteps db ss cur r d v
    steps_back no_steps c cur d v h k = k
    steps_back (name_then name ss) c cur d v h k = steps_back ss c cur (at_name d name) v h k
    steps_back (at_then e ss) c cur d v h k =
        let g = here_split db (walked e _ _) h in
        (k.0, expr_back e c.0 cur k.0 g.0 k.1, steps_back ss c.1 cur (at_value d k.0) v g.1 k.2)
    steps_back (inline_then filter gives ss) c cur d v h k =
        let f = here_split db (walked_maybe filter _ _) h in
        let g = here_split db (walked_maybe gives _ _) f.1 in (
          k.0,
          k.1,
          k.2,
          all_map _ _ (λ x y i. maybe_back filter c.0 x (boolean true) y f.0 i) (elements d) k.0 k.3,
          all_map _ _ (λ x y i. maybe_back gives c.1 x x y g.0 i) (filter_true (elements d) k.0) k.1 k.4,
          all_map _ _ (λ x y i. steps_back ss c.2 cur x y g.1 i) k.1 k.2 k.5,
          k.6,
        )

    links_back : (ls : LinkTrees) → LinksPrunes ls → {names : Numbering} {n : ℕ} {t r : Row} (cur d v : Datum)
        → Here db names n (links names n ls).subqueries t r
        → EvaluatesLinks db (links names n ls).tree cur t d v → EvaluatesLinks db ls cur r d v
    links_back no_links c cur d v h k = k
    links_back (link_then op e ls) c cur d v h k =
        let g = here_split db (walked e _ _) h in (
          k.0,
          link_map op _ _ (λ y i. expr_back e c.0 cur y g.0 i) d k.0 k.1,
          links_back ls c.1 cur k.0 v g.1 k.2,
        )

    criteria_back : (es : ExprTrees) → ExprsPrunes es → (xs : List Ident) {names : Numbering} {n : ℕ}
        {t r : Row} (vs : List Datum) → Here db names n (criteria names n xs es).subqueries t r
        → EvaluatesAll db (criteria names n xs es).tree.1 null t vs → EvaluatesAll db es null r vs
    criteria_back no_exprs c xs vs h k = k
    criteria_back (expr_then e es) c [] [] h k = absurd k
    criteria_back (expr_then e es) c [] (v ∷ vs) h k =
        let g = here_split db (walked e _ _) h in
        (expr_back e c.0 null v g.0 k.0, criteria_back es c.1 [] vs g.1 k.1)
    criteria_back (expr_then e es) c (x ∷ xs) [] h k = absurd k
    criteria_back (expr_then e es) c (x ∷ xs) (v ∷ vs) h k =
        let g = here_split db (walked e _ _) (here_next db h) in
        (expr_back e c.0 null v g.0 k.0, criteria_back es c.1 xs vs g.1 k.1)

    arguments_back : (gs : AggregateTrees) → AggregatesPrunes gs → {names : Numbering} {n : ℕ} {t r : Row}
        (vs : List Datum) → Here db names n (aggregates names n gs).subqueries t r
        → EvaluatesArguments db (aggregates names n gs).tree t vs → EvaluatesArguments db gs r vs
    arguments_back no_aggregates c vs h k = k
    arguments_back (aggregate_then x name e gs) c [] h k = absurd k
    arguments_back (aggregate_then x name e gs) c (v ∷ vs) h k =
        let g = here_split db (walked_maybe e _ _) (here_next db h) in
        (maybe_back e c.0 null null v g.0 k.0, arguments_back gs c.1 vs g.1 k.1)

    taken_back : (i : IntoTree) → IntoPrunes i → (own : Numbering) {names : Numbering} {n : ℕ} {t r : Row}
        (vars : List Ident) (v : Datum) → Here db names n (into_part own names n i).subqueries t r
        → EvaluatesInto db (into_part own names n i).tree vars t v → EvaluatesInto db i (idents own) r v
    taken_back no_into c own vars v h k = k
    taken_back (into x (one_expr e) keep) c own vars v h k = expr_back e c null v (here_next db h) k
    taken_back (into x no_expr keep) c own {names} {n} {t} {r} vars v h k =
        k.2 ∙ ap object_value (object_back names t r (into_names (idents own) keep) k.0 h.alike k.1)

    -- PRUNE, whose answer is its value
    prune_same : (m : MaybeExpr) → MaybePlain m → (names : Numbering) (n : ℕ) (d : Datum) → Below n names
        → (t r : Row) → Alike names t r → value_or (maybe names n m).tree null t d ≡ value_or m null r d
    prune_same no_expr p names n d b t r a = refl
    prune_same (one_expr e) p names n d b t r a =
        let nothing = plain_takes_nothing names e p n in
        let here : Here db names n (expr names n e).subqueries t r = record {
          below = b;
          alike = a;
          held = subst (λ us. Held db us names t r) (sym nothing.0) tt;
        } in
        only_value db e p null r _ (expr_back e nothing.3 null _ here
        (has_value db (expr names n e).tree (walked e names n).lifted.0 null t))

    clause_back : (c : ClauseTree) → ClausePrunes c → (outer own : Numbering) (n : ℕ) (start origin : Row)
        (vars : List Ident) (ts rs out : List Row) → Below n outer → Alike outer origin start
        → Below n (own ++ outer)
        → AllZip (Here db (own ++ outer) n (clause outer own n c).clause.subqueries) ts rs
        → Changes db (clause outer own n c).clause.tree origin vars ts out
        → (behind : List Row) × Changes db c start (idents own) rs behind
        × AllZip (Alike ((clause outer own n c).own ++ outer)) out behind
    clause_back (for_each x (variable y)) c outer own n start origin vars ts rs out bo o b a k =
        by y (number_of (own ++ outer) y) (sees_own own outer origin start o y) (λ t r h. h.alike y) k
      where
        by : (y : Ident) (m : Option ℕ) → sees start (idents own) y ≡ is_some m
            → ((t r : Row) → Here db (own ++ outer) n [] t r → AlikeAt t m (r y))
            → Changes db (from_name n m y) origin vars ts out
            → (behind : List Row) × Changes db (for_each x (variable y)) start (idents own) rs behind
            × AllZip (Alike ((x, n) ∷ (own ++ outer))) out behind
        by y (Some j) e g k =
            let m = rows_back (own ++ outer) ((x, n) ∷ (own ++ outer)) n [] (variable (Num j)) (variable y)
            (with_elements (Num n)) (with_elements x) (elements_alike (own ++ outer) n x b)
            (λ t r v h w. name_back t r y null v (Some j) (g t r h) w) ts rs out a k in (
              m.0,
              subst (λ (o : Option (List ℕ)). MatchOption o
                  ((vs : List Datum) × AllZip (Evaluates db (variable y) null) rs vs
                  × (m.0 ≡ with_elements x rs vs))
                  (λ name. IsPermutation (with_documents x (documents_named db name) rs) m.0))
                  (meant_none y start (idents own) e) m.1,
              m.2,
            )
        by (Name name) None e g k =
            let p = alike_permutation (Alike ((x, n) ∷ (own ++ outer))) _ out _ k
            (documents_alike (own ++ outer) n x b (documents_named db name) ts rs
            (alikes (own ++ outer) n [] ts rs a)) in (
              p.0,
              subst (λ (o : Option (List ℕ)). MatchOption o
                  ((vs : List Datum) × AllZip (Evaluates db (variable (Name name)) null) rs vs
                  × (p.0 ≡ with_elements x rs vs))
                  (λ name. IsPermutation (with_documents x (documents_named db name) rs) p.0))
                  (meant_some name start (idents own) e) p.1,
              p.2,
            )
        by (Num j) None e g k =
            rows_back (own ++ outer) ((x, n) ∷ (own ++ outer)) n [] (literal null) (variable (Num j))
            (with_elements (Num n)) (with_elements x) (elements_alike (own ++ outer) n x b)
            (λ t r v h w. name_back t r (Num j) null v None (g t r h) w) ts rs out a k
    clause_back (for_each x e) c outer own n start origin vars ts rs out bo o b a k =
        rows_back _ ((x, n) ∷ (own ++ outer)) _ _ (expr (own ++ outer) (suc n) e).tree e
        (with_elements (Num n)) (with_elements x) (elements_alike (own ++ outer) n x b)
        (λ t r v h w. expr_back e c null v (here_next db h) w) ts rs out a k
    clause_back (for_documents x name) c outer own n start origin vars ts rs out bo o b a k =
        alike_permutation (Alike ((x, n) ∷ (own ++ outer))) _ out _ k
        (documents_alike (own ++ outer) n x b (documents_named db name) ts rs (alikes _ _ _ ts rs a))
    clause_back (traversal w e names prune settings) c outer own n start origin vars ts rs out bo o b a k =
        let s = expr (own ++ outer) (after_traversal n w) e in
        let vs = zip_join _ (Evaluates db s.tree null) (Evaluates db e null)
        (λ t r v h i. expr_back e c.0 null v (here_later db (grown_le (grown_traversal n w own)) h) i)
        ts rs k.0 a k.1 in
        let more = traversal_names n w own ++ outer in
        let b' = below_clause (traversal w e names prune settings) outer own n bo b in
        let p = traversal_back db n (with_settings settings w) own outer b (edges_named db names)
        (λ row. truth (value_or (maybe more s.next prune).tree null row (boolean false)))
        (λ row. truth (value_or prune null row (boolean false)))
        (λ t r f. ap truth (prune_same prune c.1 more s.next (boolean false) b' t r f))
        ts rs k.0 out (alikes _ _ _ ts rs a) k.2 in
        (p.0, (k.0, vs, p.1), p.2)
    clause_back (filter_by e) c outer own n start origin vars ts rs out bo o b a k =
        rows_back _ (own ++ outer) _ _ (expr (own ++ outer) n e).tree e filter_true filter_true
        (kept_alike (own ++ outer)) (λ t r v h w. expr_back e c null v h w) ts rs out a k
    clause_back (let_be x (subquery q)) c outer own n start origin vars ts rs out bo o b a k =
        rows_back _ ((x, n) ∷ (own ++ outer)) _ _ (subquery (scope_query (own ++ outer) (suc n) q).tree)
        (subquery q) (with_values (Num n)) (with_values x) (bound_alike (own ++ outer) n x b)
        (λ t r v h w. (
          w.0,
          query_back q c (own ++ outer) (suc n) t r w.0 (here_next db h).below h.alike w.1,
          w.2,
        )) ts rs out a k
    clause_back (let_be x e) c outer own n start origin vars ts rs out bo o b a k =
        rows_back _ ((x, n) ∷ (own ++ outer)) _ _ (expr (own ++ outer) (suc n) e).tree e
        (with_values (Num n)) (with_values x) (bound_alike (own ++ outer) n x b)
        (λ t r v h w. expr_back e c null v (here_next db h) w) ts rs out a k
    clause_back (sort_by directions es) c outer own n start origin vars ts rs out bo o b a k =
        let s = exprs (own ++ outer) n es in
        let vs = zip_join _ (EvaluatesAll db s.tree null) (EvaluatesAll db es null)
        (λ t r v h w. all_back es c null v h w) ts rs k.0 a k.1 in
        let p = sorted_back (own ++ outer) directions k.0 ts rs out (alikes _ _ _ ts rs a) k.2 in
        (p.0, (k.0, vs, p.1), p.2)
    clause_back (limit offset count) c outer own n start origin vars ts rs out bo o b a k =
        let names = own ++ outer in (
          limit_rows offset count rs,
          refl,
          subst (λ (o : List Row). AllZip (Alike names) o (limit_rows offset count rs)) (sym k)
              (zip_take (Alike names) count _ _ (zip_drop (Alike names) offset _ _ (alikes _ _ _ ts rs a))),
        )
    clause_back (collect xs es gs i) c outer own n start origin vars ts rs out bo o b a k =
        let names = own ++ outer in
        let s = criteria names n xs es in
        let t = aggregates names s.next gs in
        let u = into_part own names t.next i in
        let ms = zip_join _
        (λ row (m : GroupedRow). IsGroupedRow (EvaluatesAll db s.tree.1 null row)
        (EvaluatesArguments db t.tree row) (EvaluatesInto db u.tree vars row) m)
        (λ row (m : GroupedRow). IsGroupedRow (EvaluatesAll db es null row) (EvaluatesArguments db gs row)
        (EvaluatesInto db i (idents own) row) m)
        (λ q r m h w.
        let f = here_split db (walked_criteria es xs names n) h in
        let g = here_split db (walked_aggregates gs names s.next) f.1 in
        record {
          criteria = criteria_back es c.0 xs m.criteria f.0 w.criteria;
          arguments = arguments_back gs c.1 m.arguments g.0 w.arguments;
          into_value = taken_back i c.2 own vars m.into_value g.1 w.into_value;
        }) ts rs k.0 a k.1 in
        let p = collected_back xs es gs i outer own n origin start k.0 out bo o k.2 in
        (p.0, (k.0, ms, p.1), p.2)

    clauses_back : (cs : ClauseTrees) → ClausesPrunes cs
        → (outer own : Numbering) (n : ℕ) (start origin : Row)
        (vars : List Ident) (ts rs out : List Row) → Below n outer → Alike outer origin start
        → Below n (own ++ outer) → AllZip (Alike (own ++ outer)) ts rs
        → Through db (clauses outer own n cs).clauses origin vars ts out
        → (behind : List Row) × Through db cs start (idents own) rs behind
        × AllZip (Alike ((clauses outer own n cs).own ++ outer)) out behind
        × Below (clauses outer own n cs).next ((clauses outer own n cs).own ++ outer)
    clauses_back no_clauses c outer own n start origin vars ts rs out bo o b a k =
        (rs, refl, subst (λ (o : List Row). AllZip (Alike (own ++ outer)) o rs) (sym k) a, b)
    clauses_back (clause_then x cs) c outer own n start origin vars ts rs out bo o b a k =
        let s = clause outer own n x in
        let w = walked_clause x outer own n in
        let m = through_lets db s.clause.subqueries
        (clause_then s.clause.tree (clauses outer s.own s.clause.next cs).clauses) origin vars ts out k in
        let fits = rans_fit db (own ++ outer) ts m.1 rs b w m.2 a in
        let one = clause_back x c.0 outer own n start origin m.0 m.1 rs m.3.0 bo o b fits m.3.1 in
        let bo' = below_more n s.clause.next outer (walked_le w) bo in
        let rest = clauses_back cs c.1 outer s.own s.clause.next start origin _ m.3.0 one.0 out bo' o
        (below_clause x outer own n bo b) one.2 m.3.2 in (
          rest.0,
          (
            one.0,
            one.1,
            subst (λ (vs : List Ident). Through db cs start vs one.0 rest.0)
                (grown_idents (grown_clause x outer own n)) rest.1,
          ),
          rest.2,
          rest.3,
        )

    query_back : (q : QueryTree) → PrunesPlain q → (names : Numbering) (n : ℕ) (s r : Row) (out : List Datum)
        → Below n names → Alike names s r → IsAnswer db (scope_query names n q).tree s out
        → IsAnswer db q r out
    query_back (query with cs distinct e) c names n s r out b a k =
        let w = clauses names [] n cs in
        let visible = w.own ++ names in
        let u = expr visible w.next e in
        let f = through_followed db w.clauses (with_lets u.subqueries no_clauses) s [] (s ∷ []) k.0 k.2 in
        let g = clauses_back cs c.0 names [] n r s [] (s ∷ []) (r ∷ []) f.1 b a b (a, tt) f.2 in
        let m = through_lets db u.subqueries no_clauses s f.0 f.1 k.0 f.3 in
        let fits = rans_fit db visible f.1 m.1 g.0 g.3 (walked e visible w.next) m.2 g.2 in
        let vs = zip_join _ (Evaluates db u.tree null) (Evaluates db e null)
        (λ t r v h w. expr_back e c.1 null v h w) m.1 g.0 k.1 fits
        (subst (λ (o : List Row). AllZip (Evaluates db u.tree null) o k.1) m.3 k.3) in
        (g.0, k.1, g.1, vs, k.4)

  pub scoped_back : (q : QueryTree) → PrunesPlain q → (out : List Datum)
      → IsAnswer db (scope_query [] 1 q).tree empty_row out → IsAnswer db q empty_row out
  scoped_back q c out k = query_back q c [] 1 empty_row empty_row out (λ x. tt) (λ x. refl) k
