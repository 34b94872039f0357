-- A Calculation or a Subquery that swaps places with the node below it.
use Rattle.std.proofs.Common.{◌≡◌, ◌∙◌, ℕ, ◌+◌, ◌<◌, ◌≤◌, List, [], ◌∷◌, ◌++◌, map, append-nil, Bool, true, false, true≢false, refl, ap, ap₂, sym, subst, subst₂, arith}
use Rattle.std.specs.Prelude.{Option, None, ◌||◌, not}
use Rattle.std.specs.List.{AllZip, AllByRecursion}
use Rattle.std.proofs.lemmas.Bool.{or_right, and_parts, not-true, or_parts}
use Rattle.std.proofs.lemmas.List.Folds.{list_any-append}
use Rattle.aql_value.specs.Datum.{Datum, null}
use Rattle.aql_value.specs.Contents.{list}
use Rattle.aql_tree.specs.declared.syntax.Ident.{Ident}
use Rattle.aql_tree.specs.Tree.{TraversalShape, ExprTree, variable, ExprTrees, MaybeExpr}
use Rattle.aql_meaning.specs.AtRows.{value_of, values_of}
use Rattle.aql_meaning.specs.Clauses.{with_values}
use Rattle.aql_meaning.specs.Row.{Row, bind, same_ident}
use Rattle.aql_meaning.specs.Uses.{Uses, uses, maybe_uses, all_uses, is_used}
use Rattle.aql_meaning.specs.laws.Agrees.{value_same}
use Rattle.aql_plan.specs.declared.facts.Facts.{Facts}
use Rattle.aql_plan.specs.Exprs.{map_plan, map_node}
use Rattle.aql_plan.specs.Needs.{sets, own_uses, under, needs, result_uses}
use Rattle.aql_plan.specs.Nodes.{over}
use Rattle.aql_plan.specs.Plan.{Reading, Plan, Singleton, Over, Node, EnumerateCollection, EnumerateList, Traversal, Calculation, Subquery, Sort, top}
use Rattle.aql_plan.specs.Refines.{dataset, RefinesFor}
use Rattle.aql_plan.specs.Runs.{Dataset, Outside, Runs, Gives, result_of}
use Rattle.aql_plan.specs.Shapes.{Rows, Shaped, calculated, with_subquery, plain_rows, lowest, other_reading, passing, KeepsShape}
use Rattle.aql_plan.specs.Variables.{vars_of, FindsAll, vars_set, set_once, count}
use Rattle.aql_plan_laws.specs.laws.Agreement.{rows_agree, runs_agree}
use Rattle.aql_plan_laws.specs.laws.Among.{count_append}
use Rattle.aql_plan_laws.specs.laws.Congruence.{results_agree}
use Rattle.aql_plan_laws.specs.laws.FoundMapped.{NodeFinds, node_still}
use Rattle.aql_rewrite.specs.declared.swap.Rename.{Rename}
use Rattle.aql_rewrite.specs.Nodes.{uses_alone}
use Rattle.aql_rewrite.specs.Places.{First}
use Rattle.aql_rewrite.specs.Placed.{IsWhole, Placed}
use Rattle.aql_rewrite.specs.Swaps.{Replaced, KeepsVariables, KeepsPlaced}
use Rattle.aql_rewrite.specs.laws.Among.{has}
use Rattle.aql_rewrite.specs.laws.Carried.{Lowers, Lifts, renamed_lowers, first_lowers}
use Rattle.aql_rewrite.specs.laws.Levels.{used_either}
use Rattle.aql_rewrite.specs.laws.PlacedBelow.{whole_placed}
use Rattle.aql_rules_calc.specs.MoveCalculationsUp.{enumerates, enumerates_or_sorts, may_pass, none_used, Moves, swapped}
use Rattle.aql_rules_calc.specs.Measures.{others_below, height}
use Rattle.aql_rewrite.specs.laws.Apart.{counts_itself, not_there}
use Rattle.aql_rules_calc.specs.laws.BoundRows.{Bound, IsFree, gives_bound}
use Rattle.aql_rewrite.specs.laws.Unused.{agree_unused, used_other, unused_from}

-- ---- the values of the upper node do not depend on what the lower one sets

abbrev calculated_by : ExprTree → Row → Datum → Type 0
calculated_by e row v = v ≡ value_of e row

abbrev queried : Dataset → Plan → Row → Datum → Type 0
queried w s row v = (results : List Row) × Runs s w Outside row results × (v ≡ list (map result_of results))

calculated_free : (e : ExprTree) (y : Ident) → is_used y (uses e) ≡ false → (row : Row) (v d : Datum)
    → calculated_by e row v → calculated_by e (bind y row d) v
calculated_free e y h row v d k = k ∙ value_same e null row (bind y row d) (agree_unused (uses e) y row d h)

queried_free : (w : Dataset) (s : Plan) (y : Ident) → is_used y (needs s result_uses) ≡ false
    → (row : Row) (v d : Datum) → queried w s row v → queried w s (bind y row d) v
queried_free w s y h row v d k =
    let a = runs_agree s result_uses w Outside Outside row (bind y row d) k.0 tt
    (agree_unused (needs s result_uses) y row d h) k.1 in
    (a.0, a.1, k.2 ∙ ap list (results_agree k.0 a.0 a.2))

abbrev UsesNone : Uses → List Ident → Type 0
UsesNone us ys = AllByRecursion (λ y. is_used y us ≡ false) ys

uses_none : (ys : List Ident) (us : Uses) → none_used ys us ≡ true → UsesNone us ys
uses_none [] us h = tt
uses_none (y ∷ ys) us h =
    let k = and_parts (not (is_used y us)) (none_used ys us) h in
    (not-true (is_used y us) k.0, uses_none ys us k.1)

all_free : (x : Ident) (V : Row → Datum → Type 0) (us : Uses)
    → ((y : Ident) → is_used y us ≡ false → (row : Row) (v d : Datum) → V row v → V (bind y row d) v)
    → (ys : List Ident) → has x ys ≡ false → UsesNone us ys → AllByRecursion (IsFree x V) ys
all_free x V us f [] h k = tt
all_free x V us f (y ∷ ys) h k =
    let l = or_parts (same_ident x y) (has x ys) h in ((l.0, f y k.0), all_free x V us f ys l.1 k.1)

-- ---- rows with the variable, and back

module _ (x : Ident) (e : ExprTree) where
  calculated_rows : (rows : List Row)
      → AllZip (λ g row. Bound x (calculated_by e) row g) (with_values x rows (values_of e rows)) rows
  calculated_rows [] = tt
  calculated_rows (row ∷ rows) = ((value_of e row, refl, refl), calculated_rows rows)

  calculated_back : (out rows : List Row) → AllZip (λ g row. Bound x (calculated_by e) row g) out rows
      → out ≡ with_values x rows (values_of e rows)
  calculated_back [] [] h = refl
  calculated_back [] (row ∷ rows) h = absurd h
  calculated_back (g ∷ out) [] h = absurd h
  calculated_back (g ∷ out) (row ∷ rows) h =
      ap₂ (λ r rs. r ∷ rs) (h.0.2 ∙ ap (bind x row) h.0.1) (calculated_back out rows h.1)

module _ (w : Dataset) (x : Ident) (s : Plan) where
  abbrev Given : Row → Row → Type 0
  Given row g = (results : List Row) × Runs s w Outside row results
      × (g ≡ bind x row (list (map result_of results)))

  queried_rows : (rows ins : List Row) → AllZip Given rows ins
      → AllZip (λ g row. Bound x (queried w s) row g) ins rows
  queried_rows [] [] h = tt
  queried_rows [] (g ∷ ins) h = absurd h
  queried_rows (row ∷ rows) [] h = absurd h
  queried_rows (row ∷ rows) (g ∷ ins) h =
      ((list (map result_of h.0.0), (h.0.0, h.0.1, refl), h.0.2), queried_rows rows ins h.1)

  queried_back : (out rows : List Row) → AllZip (λ g row. Bound x (queried w s) row g) out rows
      → AllZip Given rows out
  queried_back [] [] h = tt
  queried_back [] (row ∷ rows) h = absurd h
  queried_back (g ∷ out) [] h = absurd h
  queried_back (g ∷ out) (row ∷ rows) h =
      ((h.0.1.0, h.0.1.1, h.0.2 ∙ ap (bind x row) h.0.1.2), queried_back out rows h.1)

-- ---- the nodes below which others go

data Passed : Node → Type 0 where
  reads : (y : Reading) → Passed (EnumerateCollection y)
  lists : (y : Ident) (e : ExprTree) → Passed (EnumerateList y e)
  walks : (w : TraversalShape) (e : ExprTree) (colls : List ℕ) (prune keep : MaybeExpr)
      → Passed (Traversal w e colls prune keep)
  sorts : (directions : List Bool) (es : ExprTrees) (n : Option ℕ) → Passed (Sort directions es n)

passed : (n : Node) → enumerates_or_sorts n ≡ true → Passed n
passed (EnumerateCollection y) h = reads y
passed (EnumerateList y e) h = lists y e
passed (Traversal w e colls prune keep) h = walks w e colls prune keep
passed (Sort directions es n) h = sorts directions es n
passed n h = absurd (true≢false (sym h))

also_passed : (n : Node) → enumerates n ≡ true → enumerates_or_sorts n ≡ true
also_passed (Sort directions es n) h = refl
also_passed n h = h

runs_over : {n : Node} → Passed n → (b : Plan) (w : Dataset) (start : Row) (out : List Row)
    → Runs (Over b n) w Outside start out
    → (rows : List Row) × Runs b w Outside start rows × Gives n w Outside start rows out
runs_over (reads y) b w start out h = h
runs_over (lists y e) b w start out h = h
runs_over (walks shape e colls prune keep) b w start out h = h
runs_over (sorts directions es n) b w start out h = h

run_over : {n : Node} → Passed n → (b : Plan) (w : Dataset) (start : Row) (rows out : List Row)
    → Runs b w Outside start rows → Gives n w Outside start rows out → Runs (Over b n) w Outside start out
run_over (reads y) b w start rows out h g = (rows, h, g)
run_over (lists y e) b w start rows out h g = (rows, h, g)
run_over (walks shape e colls prune keep) b w start rows out h g = (rows, h, g)
run_over (sorts directions es n) b w start rows out h g = (rows, h, g)

rows_of : {n : Node} → Passed n → (outer : List Ident) (b : Plan)
    → vars_of outer (Over b n) ≡ sets n ++ vars_of outer b
rows_of (reads y) outer b = refl
rows_of (lists y e) outer b = refl
rows_of (walks shape e colls prune keep) outer b = refl
rows_of (sorts directions es n) outer b = refl

-- what is in none of its rows it does not use
unused_by : {n : Node} → Passed n → (outer : List Ident) (b : Plan) (x : Ident)
    → has x (sets n) ≡ false → has x (vars_of outer b) ≡ false → has x (sets n ++ vars_of outer b) ≡ false
    → FindsAll outer (Over b n) → is_used x (own_uses n) ≡ false
unused_by (reads y) outer b x h k l f = unused_from x (maybe_uses y.filter) (y.var ∷ vars_of outer b) l f.2
unused_by (lists y e) outer b x h k l f = unused_from x (uses e) (vars_of outer b) k f.1
unused_by (walks shape e colls prune keep) outer b x h k l f =
    let own = maybe_uses prune ++ maybe_uses keep in
    used_either x (uses e) own
    ∙ ap (λ (u : Bool). u || is_used x own) (unused_from x (uses e) (vars_of outer b) k f.1)
    ∙ unused_from x own (sets (Traversal shape e colls prune keep) ++ vars_of outer b) l f.2
unused_by (sorts directions es n) outer b x h k l f = unused_from x (all_uses es) (vars_of outer b) k f.1

-- ---- the variable that the upper node sets is nowhere else

module _ {facts : Facts} {outer away : List Ident} {us : Uses} {b : Plan} {n upper : Node} (p : Passed n)
    (placed : Placed false false facts outer away us (Over (Over b n) upper)) (x : Ident)
    (set : 1 ≤ count x (set_once upper)) where
  fresh : has x (sets n ++ vars_of outer b) ≡ false
  fresh = ap (has x) (sym (rows_of p outer b)) ∙ not_there placed x set

  apart : (has x (sets n) ≡ false) × (has x (vars_of outer b) ≡ false)
  apart = or_parts (has x (sets n)) (has x (vars_of outer b))
      (sym (list_any-append (same_ident x) (sets n) (vars_of outer b)) ∙ fresh)

  not_used : is_used x (own_uses n) ≡ false
  not_used = unused_by p outer b x apart.0 apart.1 fresh placed.found.0

-- ---- the lists are the same

module _ {facts : Facts} {outer away : List Ident} {us : Uses} {b : Plan} {n : Node} (p : Passed n)
    (o : enumerates_or_sorts n ≡ true) where
  calculation_refines : (x : Ident) (e : ExprTree) → UsesNone (uses e) (sets n)
      → Placed false false facts outer away us (Over (Over b n) (Calculation x e))
      → RefinesFor us facts (Over (Over b (Calculation x e)) n) (Over (Over b n) (Calculation x e))
  calculation_refines x e h placed = λ db meets start out g.
      let w = dataset facts db in
      let set = counts_itself x [] in
      let a = runs_over p (Over b (Calculation x e)) w start out g in
      let more = subst (λ (ins : List Row). AllZip (λ g row. Bound x (calculated_by e) row g) ins a.1.0)
      (sym a.1.2) (calculated_rows x e a.1.0) in
      let k = gives_bound x (calculated_by e) n o
      (all_free x (calculated_by e) (uses e) (calculated_free e) (sets n) (apart p placed x set).0 h)
      (not_used p placed x set) w start a.0 a.1.0 out more a.2 in (
        out,
        (k.0, run_over p b w start a.1.0 k.0 a.1.1 k.1, calculated_back x e out k.0 k.2),
        rows_agree us out,
      )

  subquery_refines : (x : Ident) (s : Plan) → UsesNone (needs s result_uses) (sets n)
      → Placed false false facts outer away us (Over (Over b n) (Subquery x s))
      → RefinesFor us facts (Over (Over b (Subquery x s)) n) (Over (Over b n) (Subquery x s))
  subquery_refines x s h placed = λ db meets start out g.
      let w = dataset facts db in
      let set = counts_itself x (vars_set s) in
      let a = runs_over p (Over b (Subquery x s)) w start out g in
      let k = gives_bound x (queried w s) n o
      (all_free x (queried w s) (needs s result_uses) (queried_free w s) (sets n) (apart p placed x set).0 h)
      (not_used p placed x set) w start a.0 a.1.0 out (queried_rows w x s a.1.0 a.0 a.1.2) a.2 in (
        out,
        (k.0, run_over p b w start a.1.0 k.0 a.1.1 k.1, queried_back w x s out k.0 k.2),
        rows_agree us out,
      )

pub moves_refine : (facts : Facts) (outer away : List Ident) (us : Uses) (p q : Plan) (r : Option Rename)
    → Placed false false facts outer away us p → Moves us p q r → Replaced false facts us p q r
moves_refine facts outer away _ _ _ _ placed (swapped {us = us} {b = b} {upper = upper} {lower = n} o h) =
    by upper o h placed
  where
    by : (upper : Node) → may_pass upper n ≡ true → none_used (sets n) (uses_alone upper) ≡ true
        → Placed false false facts outer away us (Over (Over b n) upper)
        → RefinesFor us facts (Over (Over b upper) n) (Over (Over b n) upper)
    by (Calculation x e) o h placed =
        calculation_refines (passed n o) o x e (uses_none (sets n) (uses e) h) placed
    by (Subquery x s) o h placed =
        let l = also_passed n o in
        subquery_refines (passed n l) l x s (uses_none (sets n) (needs s result_uses) h) placed
    by upper o h placed = absurd (true≢false (sym o))

-- ---- a well-formed plan stays so

-- over rows, and rows themselves
shaped_over : (facts : Facts) {n : Node} → Passed n → (b : Plan) (one : Bool)
    → Shaped facts (Over b n) (Rows one)
    → Shaped facts b (Rows false)
    × ((c : Plan) → Shaped facts c (Rows false) → Shaped facts (Over c n) (Rows one))
shaped_over facts (reads y) b _ (plain_rows i f h) = (h, λ c k. plain_rows i f k)
shaped_over facts (lists y e) b _ (plain_rows i f h) = (h, λ c k. plain_rows i f k)
shaped_over facts (walks shape e colls prune keep) b _ (plain_rows i f h) = (h, λ c k. plain_rows i f k)
shaped_over facts (sorts directions es n) b _ (plain_rows i f h) = (h, λ c k. plain_rows i f k)

calculation_down : (facts : Facts) {n : Node} → Passed n → (b : Plan) (x : Ident) (e : ExprTree)
    → KeepsShape false facts (Over (Over b (Calculation x e)) n) (Over (Over b n) (Calculation x e))
calculation_down facts p b x e s o (calculated {one = one} f h) =
    let k = shaped_over facts p b one h in k.1 (Over b (Calculation x e)) (calculated f k.0)
calculation_down facts p b x e s o (plain_rows i f h) = absurd i
calculation_down facts p b x e s o (lowest i f h) = absurd i
calculation_down facts p b x e s o (other_reading i f h) = absurd i
calculation_down facts p b x e s o (passing i f h) = absurd (true≢false o)

subquery_down : (facts : Facts) {n : Node} → Passed n → (b : Plan) (x : Ident) (t : Plan)
    → KeepsShape false facts (Over (Over b (Subquery x t)) n) (Over (Over b n) (Subquery x t))
subquery_down facts p b x t s o (with_subquery {one = one} g h) =
    let k = shaped_over facts p b one h in k.1 (Over b (Subquery x t)) (with_subquery g k.0)
subquery_down facts p b x t s o (plain_rows i f h) = absurd i
subquery_down facts p b x t s o (lowest i f h) = absurd i
subquery_down facts p b x t s o (other_reading i f h) = absurd i
subquery_down facts p b x t s o (passing i f h) = absurd i

-- what is used and among variables of which none of the front ones is used is among the others
still_among : (us : Uses) (ys vs : List Ident) → UsesNone us ys → (z : Ident) → is_used z us ≡ true
    → has z (ys ++ vs) ≡ true → has z vs ≡ true
still_among us [] vs h z g m = m
still_among us (y ∷ ys) vs h z g m = still_among us ys vs h.1 z g
    (sym (ap (λ (b : Bool). b || has z (ys ++ vs)) (used_other us y z h.0 g)) ∙ m)

turned : (x z : Ident) (ys vs : List Ident) → has z (x ∷ (ys ++ vs)) ≡ true → has z (ys ++ (x ∷ vs)) ≡ true
turned x z [] vs h = h
turned x z (y ∷ ys) vs h = by (same_ident z x) (same_ident z y) h (turned x z ys vs)
  where
    by : (s t : Bool) → (s || (t || has z (ys ++ vs))) ≡ true
        → ((s || has z (ys ++ vs)) ≡ true → has z (ys ++ (x ∷ vs)) ≡ true)
        → (t || has z (ys ++ (x ∷ vs))) ≡ true
    by s true h f = refl
    by true false h f = f refl
    by false false h f = f h

-- the upper node finds its variables below the lower one, and the lower one over it
module _ (outer : List Ident) (b : Plan) (upper : Node) (x : Ident)
    (found : (c : Plan) → vars_of outer (Over c upper) ≡ x ∷ vars_of outer c) {n : Node} (p : Passed n) where
  found_down : UsesNone (under upper []) (sets n) → FindsAll outer (Over (Over b n) upper)
      → FindsAll outer (Over (Over b upper) n)
  found_down h k =
      let vs = vars_of outer b in
      let below = node_still [] (sets n ++ vs) vs upper (still_among (under upper []) (sets n) vs h)
      (subst (λ (ys : List Ident). NodeFinds ys upper) (rows_of p outer b) (k.1, k.2, k.3)) in
      let above = node_still [] vs (vars_of outer (Over b upper)) n
      (λ z g m. subst (λ (ys : List Ident). has z ys ≡ true) (sym (found b))
      (or_right (same_ident z x) (has z vs) m)) (k.0.1, k.0.2, k.0.3) in
      ((k.0.0, below.0, below.1, below.2), above.0, above.1, above.2)

  vars_down : (us : Uses)
      → KeepsVariables None us (vars_of outer (Over (Over b n) upper)) (vars_of outer (Over (Over b upper) n))
  vars_down us z g m = subst (λ (ys : List Ident). has z ys ≡ true)
      (sym (rows_of p outer (Over b upper) ∙ ap (λ (ys : List Ident). sets n ++ ys) (found b)))
      (turned x z (sets n) (vars_of outer b)
      (subst (λ (ys : List Ident). has z ys ≡ true)
      (found (Over b n) ∙ ap (λ (ys : List Ident). x ∷ ys) (rows_of p outer b)) m))

fewer_down : (b : Plan) (n upper : Node) (z : Ident)
    → count z (vars_set (Over (Over b upper) n)) ≤ count z (vars_set (Over (Over b n) upper))
fewer_down b n upper z = omega (
  arith,
  count_append z (set_once n) (set_once upper ++ vars_set b),
  count_append z (set_once upper) (vars_set b),
  count_append z (set_once upper) (set_once n ++ vars_set b),
  count_append z (set_once n) (vars_set b),
)

-- none of them is used, whatever the nodes above use
used_alone : (us : Uses) (ys : List Ident) → none_used ys us ≡ true → UsesNone (us ++ []) ys
used_alone us ys h = subst (λ (vs : Uses). UsesNone vs ys) (sym (append-nil us)) (uses_none ys us h)

pub moves_keep : (facts : Facts) (outer away : List Ident) (us : Uses) (p q : Plan) (r : Option Rename)
    → Placed false false facts outer away us p → Moves us p q r
    → KeepsPlaced false false facts outer us p q r
moves_keep facts outer away _ _ _ _ placed (swapped {us = us} {b = b} {upper = upper} {lower = n} o h) =
    by upper o h placed
  where
    by : (upper : Node) → may_pass upper n ≡ true → none_used (sets n) (uses_alone upper) ≡ true
        → Placed false false facts outer away us (Over (Over b n) upper)
        → KeepsPlaced false false facts outer us (Over (Over b n) upper) (Over (Over b upper) n) None
    by (Calculation x e) o h placed =
        let p = passed n o in record {
          suits = ((placed.suits.0.0, placed.suits.1), placed.suits.0.1);
          shape = calculation_down facts p b x e;
          found = found_down outer b (Calculation x e) x (λ c. refl) p (used_alone (uses e) (sets n) h)
              placed.found;
          vars = vars_down outer b (Calculation x e) x (λ c. refl) p us;
          fewer = fewer_down b n (Calculation x e);
        }
    by (Subquery x s) o h placed =
        let p = passed n (also_passed n o) in record {
          suits = ((placed.suits.0.0, placed.suits.1), placed.suits.0.1);
          shape = subquery_down facts p b x s;
          found = found_down outer b (Subquery x s) x (λ c. refl) p
              (used_alone (needs s result_uses) (sets n) h) placed.found;
          vars = vars_down outer b (Subquery x s) x (λ c. refl) p us;
          fewer = fewer_down b n (Subquery x s);
        }
    by upper o h placed = absurd (true≢false (sym o))

-- ---- the pass ends

module _ (f : ExprTree → ExprTree) where
  mutual
    others_mapped : (p : Plan) → others_below (map_plan f p) ≡ others_below p
    others_mapped Singleton = refl
    others_mapped (Over b (Calculation x e)) = others_mapped b
    others_mapped (Over b (Subquery x s)) = others_mapped b
    others_mapped (Over b n) = ap (λ k. k + 1) (others_mapped b)

    height_mapped : (p : Plan) → height (map_plan f p) ≡ height p
    height_mapped Singleton = refl
    height_mapped (Over b (Calculation x e)) = omega (arith, height_mapped b, others_mapped b)
    height_mapped (Over b (Subquery x s)) =
        omega (arith, height_mapped b, others_mapped b, height_mapped s)
    height_mapped (Over b n) = height_mapped b

  over_mapped : (d : Plan) (n : Node) → (height (Over d (map_node f n)) ≡ height (Over d n))
      × (others_below (Over d (map_node f n)) ≡ others_below (Over d n))
  over_mapped d (Subquery x s) = (omega (arith, height_mapped s), refl)
  over_mapped d n = (refl, refl)

over_lowers : (b d : Plan) (n : Node) → Lowers height others_below b d
    → Lowers height others_below (Over b n) (Over d n)
over_lowers b d (Calculation x e) h = record { falls = omega (arith, h.falls, h.stays); stays = h.stays }
over_lowers b d (Subquery x s) h = record { falls = omega (arith, h.falls, h.stays); stays = h.stays }
over_lowers b d n h = record { falls = h.falls; stays = omega (arith, h.stays) }

height_lifts : Lifts height others_below
height_lifts = record {
  over = renamed_lowers height others_below over_lowers over_mapped;
  with = λ b s t x h. record { falls = omega (arith, h.falls); stays = omega arith };
}

passed_height : {n : Node} → Passed n → (c : Plan)
    → (height (Over c n) ≡ height c) × (others_below (Over c n) ≡ others_below c + 1)
passed_height (reads y) c = (refl, refl)
passed_height (lists y e) c = (refl, refl)
passed_height (walks shape e colls prune keep) c = (refl, refl)
passed_height (sorts directions es n) c = (refl, refl)

moves_lower : (us : Uses) (p q : Plan) (r : Option Rename) → Moves us p q r → Lowers height others_below p q
moves_lower _ _ _ _ (swapped {b = b} {upper = upper} {lower = n} o h) = by upper o
  where
    by : (upper : Node) → may_pass upper n ≡ true
        → Lowers height others_below (Over (Over b n) upper) (Over (Over b upper) n)
    by (Calculation x e) o =
        let k = passed_height (passed n o) b in
        let l = passed_height (passed n o) (Over b (Calculation x e)) in
        record { falls = omega (arith, k.0, k.1, l.0); stays = omega (arith, k.1, l.1) }
    by (Subquery x s) o =
        let k = passed_height (passed n (also_passed n o)) b in
        let l = passed_height (passed n (also_passed n o)) (Over b (Subquery x s)) in
        record { falls = omega (arith, k.0, k.1, l.0); stays = omega (arith, k.1, l.1) }
    by upper o = absurd (true≢false (sym o))

pub moves_fall : (facts : Facts) (p q : Plan) (r : Option Rename) → IsWhole false facts p
    → First Moves false result_uses p q r → height q < height p
moves_fall facts p q r whole h =
    (first_lowers false facts Moves height others_below height_lifts
    (λ outer away us p q r placed k. moves_lower us p q r k) h [] [] (whole_placed false facts p whole)).falls

-- ---- what the rule finds

pub moves_at : (us : Uses) (p l b q : Plan) → p ≡ Over l (top p) → l ≡ Over b (top l)
    → may_pass (top p) (top l) ≡ true → none_used (sets (top l)) (uses_alone (top p)) ≡ true
    → q ≡ over l (over p b) → Moves us p q None
moves_at us p l b q d e o h k = subst₂ (λ (m s : Plan). Moves us m s None)
    (sym (d ∙ ap (λ (m : Plan). Over m (top p)) e))
    (sym (k ∙ ap (λ (m : Plan). over m (over p b)) e ∙ ap (λ (m : Plan). Over (over m b) (top l)) d))
    (swapped o h)
