-- A condition in the filter of a node that reads documents gives the same rows as a Filter over the node.
use Rattle.std.proofs.Common.{◌≡◌, ◌∙◌, ◌<◌, ℕ, List, [], ◌∷◌, ◌++◌, map, Bool, true, false, true≢false, refl, ap, ap₂, sym, subst, subst₂, arith, ◌+◌}
use Rattle.std.specs.Prelude.{Option, Some, None, is_none, filter, IsPermutation, ◌&&◌}
use Rattle.std.specs.List.{AllZip}
use Rattle.std.proofs.lemmas.List.{map-id}
use Rattle.std.proofs.lemmas.List.Elements.{filter-append}
use Rattle.aql_value.specs.Datum.{Datum}
use Rattle.aql_tree.specs.declared.syntax.Ident.{Ident}
use Rattle.aql_tree.specs.Tree.{ExprTree, ExprTrees, MaybeExpr, one_expr}
use Rattle.aql_meaning.specs.AtRows.{passes}
use Rattle.aql_meaning.specs.Clauses.{with_each}
use Rattle.aql_meaning.specs.Documents.{Last, InIndexOrder, documents_kept, Scanned, ScannedInOrder}
use Rattle.aql_meaning.specs.Plain.{IsPlain}
use Rattle.aql_meaning.specs.Row.{Row, bind}
use Rattle.aql_meaning.specs.Uses.{Uses}
use Rattle.aql_plan.specs.declared.facts.Facts.{Facts}
use Rattle.aql_plan.specs.Facts.{attributes_in}
use Rattle.aql_plan.specs.Needs.{result_uses}
use Rattle.aql_plan.specs.Plan.{Reading, Plan, Singleton, Over, Node, EnumerateCollection, Index, Filter, top}
use Rattle.aql_plan.specs.Runs.{Dataset, Outside, read, read_in_bounds, Indexed}
use Rattle.aql_plan.specs.Refines.{dataset}
use Rattle.aql_plan.specs.Shapes.{Shape, Rows, Shaped, plain_rows, ordered_rows}
use Rattle.aql_plan.specs.Variables.{vars_of}
use Rattle.aql_plan_laws.specs.laws.Agreement.{rows_agree}
use Rattle.aql_rewrite.specs.declared.swap.Rename.{Rename}
use Rattle.aql_rewrite.specs.Places.{First}
use Rattle.aql_rewrite.specs.Placed.{Placed, IsWhole}
use Rattle.aql_rewrite.specs.Swaps.{Replaced, KeepsPlaced}
use Rattle.aql_rules_filter.specs.Conditions.{joined}
use Rattle.aql_rules_filter.specs.Measures.{filters, is_filter}
use Rattle.aql_rules_filter.specs.MoveFiltersIntoEnumerate.{with_condition, MovesIn, into_enumerate, into_index}
use Rattle.aql_rules_filter.specs.Readers.{filter_in, keeps_all, narrowed, pushed}
use Rattle.aql_rewrite.specs.laws.Falling.{total_falls}
use Rattle.aql_rules_filter.specs.laws.Filtered.{holds, filtered, filter_same, filter_twice}
use Rattle.aql_rules_filter.specs.laws.Filters.{filter_shaped, same_filters}
use Rattle.aql_rewrite.specs.laws.Flat.{each_flat, filter_map, filter_flat, flat_same}
use Rattle.aql_rules_filter.specs.laws.Joined.{joined_holds, joined_plain, joined_found}
use Rattle.aql_rules_filter.specs.laws.Permuted.{filter_of}
use Rattle.aql_plan.specs.Nodes.{weight}
use Rattle.aql_rewrite.specs.Sums.{total}

-- ---- rows

-- documents that pass both, and those that pass the one of which the rows then pass the other
module _ (v : Ident) (own : MaybeExpr) (c : ExprTree) where
  abbrev kept_by : MaybeExpr → Row → List Datum → List Datum
  kept_by e row documents = documents_kept v (passes e) None row documents

  abbrev both : MaybeExpr
  both = one_expr (joined own c)

  row_kept : (row : Row) (documents : List Datum)
      → map (bind v row) (kept_by both row documents)
      ≡ filter (holds c) (map (bind v row) (kept_by own row documents))
  row_kept row documents =
      let first = λ (d : Datum). passes own (bind v row d) in
      let second = λ (d : Datum). holds c (bind v row d) in
      ap (map (bind v row)) (map-id (filter (λ d. passes both (bind v row d)) documents)
      ∙ filter_same (λ d. passes both (bind v row d)) (λ d. first d && second d)
      (λ d. joined_holds own c (bind v row d)) documents
      ∙ sym (filter_twice first second documents)
      ∙ ap (filter second) (sym (map-id (filter first documents))))
      ∙ sym (filter_map (holds c) (bind v row) (kept_by own row documents))

  rows_kept : (documents : Row → List Datum) (rows : List Row)
      → with_each (bind v) rows (map (λ row. kept_by both row (documents row)) rows)
      ≡ filter (holds c) (with_each (bind v) rows (map (λ row. kept_by own row (documents row)) rows))
  rows_kept documents rows =
      each_flat (bind v) (λ row. kept_by both row (documents row)) rows
      ∙ flat_same (λ row. map (bind v row) (kept_by both row (documents row)))
      (λ row. filter (holds c) (map (bind v row) (kept_by own row (documents row))))
      (λ row. row_kept row (documents row)) rows
      ∙ sym (filter_flat (holds c) (λ row. map (bind v row) (kept_by own row (documents row))) rows)
      ∙ ap (filter (holds c)) (sym (each_flat (bind v) (λ row. kept_by own row (documents row)) rows))

  pub scanned_kept : (documents : Row → List Datum) (rows out : List Row)
      → Scanned v (passes both) None documents rows out
      → (mid : List Row) × Scanned v (passes own) None documents rows mid × (out ≡ filter (holds c) mid)
  scanned_kept documents rows out h =
      filter_of (holds c) (with_each (bind v) rows (map (λ row. kept_by own row (documents row)) rows)) out
      (subst (λ (xs : List Row). IsPermutation xs out) (rows_kept documents rows) h)

  module _ (names : List (List ℕ)) (descending : Bool) (documents : Row → List Datum) where
    abbrev Given : MaybeExpr → Row → List Datum → Type 0
    Given e row list = (sorted : List Datum) × InIndexOrder names descending (documents row) sorted
        × (list ≡ kept_by e row sorted)

    pub lists_kept : (rows : List Row) (lists : List (List Datum)) → AllZip (Given both) rows lists
        → (all : List (List Datum)) × AllZip (Given own) rows all
        × (with_each (bind v) rows lists ≡ filter (holds c) (with_each (bind v) rows all))
    lists_kept [] [] h = ([], tt, refl)
    lists_kept [] (list ∷ lists) h = absurd h
    lists_kept (row ∷ rows) [] h = absurd h
    lists_kept (row ∷ rows) (list ∷ lists) h =
        let k = lists_kept rows lists h.1 in
        let sorted = h.0.0 in
        let all = kept_by own row sorted in (
          all ∷ k.0,
          ((sorted, h.0.1, refl), k.1),
          ap₂ (λ xs ys. xs ++ ys) (ap (map (bind v row)) h.0.2 ∙ row_kept row sorted) k.2
              ∙ sym (filter-append (holds c) (map (bind v row) all) (with_each (bind v) rows k.0)),
        )

    pub ordered_kept : (rows out : List Row)
        → ScannedInOrder names descending v (passes both) None documents rows out
        → (mid : List Row) × ScannedInOrder names descending v (passes own) None documents rows mid
        × (out ≡ filter (holds c) mid)
    ordered_kept rows out h =
        let k = lists_kept rows h.0 h.1 in
        (with_each (bind v) rows k.0, (k.0, k.1, refl), h.2 ∙ k.2)

-- the same of an Index, in any order or in its own
indexed_kept : (w : Dataset) (x : Reading) (index : ℕ) (equal : ExprTrees) (last : Last ExprTree)
    (ordered : Option Bool) (c : ExprTree) (rows out : List Row) → x.attrs ≡ None
    → Indexed w Outside (with_condition x c) index equal last ordered rows out
    → (mid : List Row) × Indexed w Outside x index equal last ordered rows mid × (out ≡ filter (holds c) mid)
indexed_kept w x index equal last None c rows out e h =
    let documents = read_in_bounds w Outside x index equal last in
    let k = scanned_kept x.var x.filter c documents rows out
    (subst (λ (names : Option (List (List ℕ))).
    Scanned x.var (passes (one_expr (joined x.filter c))) names documents rows out) e h) in (
      k.0,
      subst (λ (names : Option (List (List ℕ))). Scanned x.var (passes x.filter) names documents rows k.0)
          (sym e) k.1,
      k.2,
    )
indexed_kept w x index equal last (Some descending) c rows out e h =
    let documents = read_in_bounds w Outside x index equal last in
    let names = attributes_in w.facts x.coll index in
    let k = ordered_kept x.var x.filter c names descending documents rows out
    (subst (λ (attrs : Option (List (List ℕ))). ScannedInOrder names descending x.var
    (passes (one_expr (joined x.filter c))) attrs documents rows out) e h) in (
      k.0,
      subst (λ (attrs : Option (List (List ℕ))).
          ScannedInOrder names descending x.var (passes x.filter) attrs documents rows k.0) (sym e) k.1,
      k.2,
    )

pub moves_in_refine : (facts : Facts) (us : Uses) (p q : Plan) (r : Option Rename) → MovesIn us p q r
    → Replaced false facts us p q r
moves_in_refine facts _ _ _ _ (into_enumerate {us = us} {x = x} {c = c} e) = λ db meets start out g.
    let w = dataset facts db in
    let documents = λ (row : Row). read w x.coll x.shard Outside in
    let k = scanned_kept x.var x.filter c documents g.0 out
    (subst (λ (names : Option (List (List ℕ))).
    Scanned x.var (passes (one_expr (joined x.filter c))) names documents g.0 out) e g.2) in (
      out,
      (
        k.0,
        (
          g.0,
          g.1,
          subst (λ (names : Option (List (List ℕ))).
              Scanned x.var (passes x.filter) names documents g.0 k.0) (sym e) k.1,
        ),
        k.2 ∙ sym (filtered c k.0),
      ),
      rows_agree us out,
    )
moves_in_refine facts _ _ _ _
    (into_index {us = us} {x = x} {index = index} {equal = equal} {last = last} {ordered = ordered}
    {c = c} e) =
    λ db meets start out g.
    let k = indexed_kept (dataset facts db) x index equal last ordered c g.0 out e g.2 in
    (out, (k.0, (g.0, g.1, k.1), k.2 ∙ sym (filtered c k.0)), rows_agree us out)

-- ---- a well-formed plan stays so

enumerates : (facts : Facts) (b : Plan) (x : Reading) (c : ExprTree) → IsPlain c
    → Shaped facts (Over b (EnumerateCollection x)) (Rows false)
    → Shaped facts (Over b (EnumerateCollection (with_condition x c))) (Rows false)
enumerates facts b x c plain (plain_rows i f h) =
    plain_rows i (f.0, joined_plain x.filter c f.1 plain) h

indexes : (facts : Facts) (b : Plan) (x : Reading) (index : ℕ) (equal : ExprTrees) (last : Last ExprTree)
    (ordered : Option Bool) (c : ExprTree) → IsPlain c
    → Shaped facts (Over b (Index x index equal last ordered)) (Rows false)
    → Shaped facts (Over b (Index (with_condition x c) index equal last ordered)) (Rows false)
indexes facts b x index equal last None c plain (plain_rows i f h) =
    plain_rows i (f.0, joined_plain x.filter c f.1 plain, f.2, f.3, f.4) h
indexes facts b x index equal last (Some descending) c plain (plain_rows i f h) = absurd i
indexes facts b x index equal last (Some descending) c plain (ordered_rows i f h) =
    ordered_rows i (f.0, joined_plain x.filter c f.1 plain, f.2, f.3, f.4) h

pub moves_in_keep : (facts : Facts) (outer away : List Ident) (us : Uses) (p q : Plan) (r : Option Rename)
    → Placed false false facts outer away us p → MovesIn us p q r
    → KeepsPlaced false false facts outer us p q r
moves_in_keep facts outer away _ _ _ _ placed (into_enumerate {us = us} {b = b} {x = x} {c = c} e) = record {
  suits = (placed.suits.0.0, tt);
  shape = λ s out h.
      let k = filter_shaped facts (Over b (EnumerateCollection x)) c s out h in
      subst (λ (t : Shape). Shaped facts (Over b (EnumerateCollection (with_condition x c))) t) (sym k.0)
      (enumerates facts b x c k.1 k.2);
  found = (
    placed.found.0.0,
    refl,
    joined_found (x.var ∷ vars_of outer b) x.filter c placed.found.0.2 placed.found.1,
    tt,
  );
  vars = λ z used h. h;
  fewer = λ z. omega arith;
}
moves_in_keep facts outer away _ _ _ _ placed
    (into_index {us = us} {b = b} {x = x} {index = index} {equal = equal} {last = last} {ordered = ordered}
    {c = c} e) = record {
      suits = (placed.suits.0.0, tt);
      shape = λ s out h.
          let k = filter_shaped facts (Over b (Index x index equal last ordered)) c s out h in
          subst (λ (t : Shape). Shaped facts (Over b (Index (with_condition x c) index equal last ordered)) t)
          (sym k.0) (indexes facts b x index equal last ordered c k.1 k.2);
      found = (
        placed.found.0.0,
        placed.found.0.1,
        joined_found (x.var ∷ vars_of outer b) x.filter c placed.found.0.2 placed.found.1,
        tt,
      );
      vars = λ z used h. h;
      fewer = λ z. omega arith;
    }

moves_in_lower : (us : Uses) (p q : Plan) (r : Option Rename) → MovesIn us p q r → filters q < filters p
moves_in_lower _ _ _ _ (into_enumerate e) = omega arith
moves_in_lower _ _ _ _ (into_index e) = omega arith

pub moves_in_fall : (facts : Facts) (p q : Plan) (r : Option Rename) → IsWhole false facts p
    → First MovesIn false result_uses p q r → filters q < filters p
moves_in_fall facts = total_falls is_filter same_filters facts MovesIn moves_in_lower

pub moves_in_blind : (us vs : Uses) (p q : Plan) (r : Option Rename) → MovesIn us p q r → MovesIn vs p q r
moves_in_blind _ vs _ _ _ (into_enumerate e) = (into_enumerate e)
moves_in_blind _ vs _ _ _ (into_index e) = (into_index e)

pub moves_in_nameless : (us : Uses) (p q : Plan) (r : Option Rename) → MovesIn us p q r → r ≡ None
moves_in_nameless _ _ _ _ (into_enumerate e) = refl
moves_in_nameless _ _ _ _ (into_index e) = refl

pub moves_in_shrink : (us : Uses) (p q : Plan) (r : Option Rename) → MovesIn us p q r
    → weight q + total is_filter q < weight p + total is_filter p
moves_in_shrink _ _ _ _ (into_enumerate e) = omega arith
moves_in_shrink _ _ _ _ (into_index e) = omega arith

-- ---- what the rule finds

none_is : {A : Type 0} (o : Option A) → is_none o ≡ true → o ≡ None
none_is None h = refl
none_is (Some a) h = absurd (true≢false (sym h))

none_found : (us : Uses) (p : Plan) (c : ExprTree) → keeps_all (top p) ≡ false
    → (q : Plan) (r : Option Rename) → MovesIn us (Over p (Filter c)) q r → ⊥
none_found us _ _ h _ _ (into_enumerate e) = absurd (true≢false (sym (ap is_none e) ∙ h))
none_found us _ _ h _ _ (into_index e) = absurd (true≢false (sym (ap is_none e) ∙ h))

pub moves_in_stays : (us : Uses) (m p : Plan) (c : ExprTree) → m ≡ Over p (Filter c)
    → keeps_all (top p) ≡ false → (q : Plan) (r : Option Rename) → MovesIn us m q r → ⊥
moves_in_stays us m p c d h =
    subst (λ (n : Plan). (q : Plan) (r : Option Rename) → MovesIn us n q r → ⊥) (sym d) (none_found us p c h)

found_at : (us : Uses) (p : Plan) (c : ExprTree) → keeps_all (top p) ≡ true
    → MovesIn us (Over p (Filter c)) (pushed (Over p (Filter c))) None
found_at us Singleton c h = absurd (true≢false (sym h))
found_at us (Over b n) c h = by n h
  where
    by : (n : Node) → keeps_all n ≡ true
        → MovesIn us (Over (Over b n) (Filter c)) (Over b (narrowed n c)) None
    by (EnumerateCollection x) h = into_enumerate (none_is x.attrs h)
    by (Index x index equal last ordered) h = into_index (none_is x.attrs h)
    by n h = absurd (true≢false (sym h))

pub moves_in_at : (us : Uses) (m p q : Plan) (c : ExprTree) → m ≡ Over p (Filter c)
    → keeps_all (top p) ≡ true → q ≡ pushed m → MovesIn us m q None
moves_in_at us m p q c d h e =
    subst₂ (λ (n s : Plan). MovesIn us n s None) (sym d) (sym (e ∙ ap pushed d)) (found_at us p c h)

pub moves_in_no_filter : (us : Uses) (m : Plan) → filter_in m ≡ None
    → (q : Plan) (r : Option Rename) → MovesIn us m q r → ⊥
moves_in_no_filter us _ h _ _ (into_enumerate e) = cc
moves_in_no_filter us _ h _ _ (into_index e) = cc
