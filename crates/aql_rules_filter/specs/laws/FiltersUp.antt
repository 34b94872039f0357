-- A Filter that swaps places with the node below it.
use Rattle.std.proofs.Common.{◌≡◌, ◌∙◌, ◌<◌, ◌+◌, List, [], ◌∷◌, true, false, true≢false, refl, ap, sym, subst, subst₂, arith}
use Rattle.std.specs.Prelude.{◌&&◌, Option, None}
use Rattle.std.specs.List.{list_any, AllZip}
use Rattle.std.proofs.lemmas.Bool.{and_parts, and_from}
use Rattle.aql_tree.specs.declared.syntax.Ident.{Ident}
use Rattle.aql_tree.specs.Tree.{ExprTree}
use Rattle.aql_meaning.specs.AtRows.{values_of}
use Rattle.aql_meaning.specs.Clauses.{filter_true}
use Rattle.aql_meaning.specs.Plain.{IsPlain}
use Rattle.aql_meaning.specs.Row.{Row, same_ident}
use Rattle.aql_meaning.specs.Uses.{Uses, Agree, uses}
use Rattle.aql_value.specs.Database.{Database}
use Rattle.aql_plan.specs.declared.facts.Facts.{Facts}
use Rattle.aql_plan.specs.Facts.{Meets}
use Rattle.aql_plan.specs.Exprs.{map_plan, map_node}
use Rattle.aql_plan.specs.Nodes.{over}
use Rattle.aql_plan.specs.Needs.{sets, result_uses}
use Rattle.aql_plan.specs.Plan.{Plan, Singleton, Over, Node, EnumerateCollection, EnumerateList, Traversal, Calculation, Subquery, Filter, Sort, top}
use Rattle.aql_plan.specs.Runs.{Outside, Runs, Gives}
use Rattle.aql_plan.specs.Refines.{dataset, RefinesFor}
use Rattle.aql_plan.specs.Shapes.{Shape, Rows, Shaped, calculated, with_subquery, plain_rows, ordered_rows, gather, gather_in_order, finishing}
use Rattle.aql_plan.specs.Variables.{vars_of, FindsAll}
use Rattle.aql_plan_laws.specs.laws.Agreement.{rows_agree}
use Rattle.aql_rewrite.specs.declared.swap.Rename.{Rename}
use Rattle.aql_rewrite.specs.Places.{First}
use Rattle.aql_rewrite.specs.Placed.{Placed, IsWhole}
use Rattle.aql_rewrite.specs.Swaps.{Replaced, KeepsPlaced}
use Rattle.aql_rewrite.specs.laws.Carried.{Lowers, Lifts, first_lowers, renamed_lowers}
use Rattle.aql_rewrite.specs.laws.PlacedBelow.{whole_placed}
use Rattle.aql_rules_filter.specs.MoveFiltersUp.{may_swap, none_used, MovesUp, swapped}
use Rattle.aql_rules_filter.specs.Measures.{others_below, height}
use Rattle.aql_rules_filter.specs.Readers.{filter_in}
use Rattle.aql_rules_filter.specs.laws.Filtered.{filtered}
use Rattle.aql_rules_filter.specs.laws.FiltersPass.{filter_after}
use Rattle.aql_rules_filter.specs.laws.Filters.{filter_shaped}
use Rattle.aql_rules_filter.specs.laws.Unused.{among_others}

-- ---- the same rows

-- what a Filter below a node gives, one over it gives
abbrev Same : Uses → Facts → Plan → ExprTree → Node → Type 0
Same us facts b c n = (db : Database) → Meets facts db → (start : Row) (out : List Row)
    → ((rows : List Row) × ((ins : List Row) × Runs b (dataset facts db) Outside start ins
    × (rows ≡ filter_true ins (values_of c ins))) × Gives n (dataset facts db) Outside start rows out)
    → (other : List Row) × ((mid : List Row) × ((ins : List Row) × Runs b (dataset facts db) Outside start ins
    × Gives n (dataset facts db) Outside start ins mid) × (other ≡ filter_true mid (values_of c mid)))
    × AllZip (Agree us) out other

with_rows : (us : Uses) (facts : Facts) (b : Plan) (c : ExprTree) (n : Node) → may_swap n ≡ true
    → none_used (sets n) (uses c) ≡ true → Same us facts b c n
with_rows us facts b c n l u db meets start out g =
    let ins = g.1.0 in
    let k = filter_after n c (dataset facts db) start ins out l u
    (subst (λ (xs : List Row). Gives n (dataset facts db) Outside start xs out)
    (g.1.2 ∙ filtered c ins) g.2) in
    (out, (k.0, (ins, g.1.1, k.1), k.2 ∙ sym (filtered c k.0)), rows_agree us out)

swap_refines : (us : Uses) (facts : Facts) (b : Plan) (c : ExprTree) (n : Node) → may_swap n ≡ true
    → none_used (sets n) (uses c) ≡ true
    → RefinesFor us facts (Over (Over b (Filter c)) n) (Over (Over b n) (Filter c))
swap_refines us facts b c (EnumerateCollection x) l u = with_rows us facts b c (EnumerateCollection x) l u
swap_refines us facts b c (EnumerateList x e) l u = with_rows us facts b c (EnumerateList x e) l u
swap_refines us facts b c (Traversal w e colls prune keep) l u =
    with_rows us facts b c (Traversal w e colls prune keep) l u
swap_refines us facts b c (Calculation x e) l u = with_rows us facts b c (Calculation x e) l u
swap_refines us facts b c (Subquery x s) l u = with_rows us facts b c (Subquery x s) l u
swap_refines us facts b c (Sort directions es None) l u =
    with_rows us facts b c (Sort directions es None) l u
swap_refines us facts b c n l u = absurd (true≢false (sym l))

pub moves_up_refine : (facts : Facts) (us : Uses) (p q : Plan) (r : Option Rename) → MovesUp us p q r
    → Replaced false facts us p q r
moves_up_refine facts _ _ _ _ (swapped {us = us} {b = b} {n = n} {c = c} l u) =
    swap_refines us facts b c n l u

-- ---- a well-formed plan stays so

swap_shaped : (facts : Facts) (b : Plan) (n : Node) (c : ExprTree) → may_swap n ≡ true → IsPlain c
    → Shaped facts (Over b n) (Rows false) → Shaped facts (Over (Over b (Filter c)) n) (Rows false)
swap_shaped facts b n c l plain (calculated f h) = calculated f (plain_rows tt plain h)
swap_shaped facts b n c l plain (with_subquery g h) = with_subquery g (plain_rows tt plain h)
swap_shaped facts b n c l plain (plain_rows i f h) = plain_rows i f (plain_rows tt plain h)
swap_shaped facts b n c l plain (ordered_rows i f h) = absurd (true≢false (sym l))
swap_shaped facts b n c l plain (gather h) = absurd (true≢false (sym l))
swap_shaped facts b n c l plain (gather_in_order f h) = absurd (true≢false (sym l))
swap_shaped facts b n c l plain (finishing f h) = absurd (true≢false (sym l))

pub moves_up_keep : (facts : Facts) (outer away : List Ident) (us : Uses) (p q : Plan) (r : Option Rename)
    → Placed false false facts outer away us p → MovesUp us p q r
    → KeepsPlaced false false facts outer us p q r
moves_up_keep facts outer away _ _ _ _ placed (swapped {us = us} {b = b} {n = n} {c = c} l u) =
    by n l u placed
  where
    kept_by : (n : Node) → may_swap n ≡ true
        → Placed false false facts outer away us (Over (Over b n) (Filter c))
        → FindsAll outer (Over (Over b (Filter c)) n)
        → vars_of outer (Over (Over b (Filter c)) n) ≡ vars_of outer (Over b n)
        → KeepsPlaced false false facts outer us (Over (Over b n) (Filter c))
        (Over (Over b (Filter c)) n) None
    kept_by n l placed found e = record {
      suits = ((placed.suits.0.0, tt), placed.suits.0.1);
      shape = λ s out h.
          let k = filter_shaped facts (Over b n) c s out h in
          subst (λ (t : Shape). Shaped facts (Over (Over b (Filter c)) n) t) (sym k.0)
          (swap_shaped facts b n c l k.1 k.2);
      found = found;
      vars = λ x used h. subst (λ (ys : List Ident). list_any (same_ident x) ys ≡ true) (sym e) h;
      fewer = λ x. omega arith;
    }

    by : (n : Node) → may_swap n ≡ true → none_used (sets n) (uses c) ≡ true
        → Placed false false facts outer away us (Over (Over b n) (Filter c))
        → KeepsPlaced false false facts outer us (Over (Over b n) (Filter c))
        (Over (Over b (Filter c)) n) None
    by (EnumerateCollection x) l u placed =
        let f = placed.found in kept_by (EnumerateCollection x) l placed (
          (f.0.0, among_others (uses c) (x.var ∷ []) (vars_of outer b) u f.1, refl, tt),
          f.0.1,
          f.0.2,
          f.0.3,
        ) refl
    by (EnumerateList x e) l u placed =
        let f = placed.found in kept_by (EnumerateList x e) l placed (
          (f.0.0, among_others (uses c) (x ∷ []) (vars_of outer b) u f.1, refl, tt),
          f.0.1,
          f.0.2,
          f.0.3,
        ) refl
    by (Traversal w e colls prune keep) l u placed =
        let f = placed.found in kept_by (Traversal w e colls prune keep) l placed (
          (
            f.0.0,
            among_others (uses c) (sets (Traversal w e colls prune keep)) (vars_of outer b) u f.1,
            refl,
            tt,
          ),
          f.0.1,
          f.0.2,
          f.0.3,
        ) refl
    by (Calculation x e) l u placed =
        let f = placed.found in kept_by (Calculation x e) l placed (
          (f.0.0, among_others (uses c) (x ∷ []) (vars_of outer b) u f.1, refl, tt),
          f.0.1,
          f.0.2,
          f.0.3,
        ) refl
    by (Subquery x s) l u placed =
        let f = placed.found in kept_by (Subquery x s) l placed (
          (f.0.0, among_others (uses c) (x ∷ []) (vars_of outer b) u f.1, refl, tt),
          f.0.1,
          f.0.2,
          f.0.3,
        ) refl
    by (Sort directions es None) l u placed =
        let f = placed.found in kept_by (Sort directions es None) l placed (
          (f.0.0, f.1, refl, tt),
          f.0.1,
          f.0.2,
          f.0.3,
        ) refl
    by n l u placed = absurd (true≢false (sym l))

-- ---- the pass ends

mutual
  others_mapped : (f : ExprTree → ExprTree) (p : Plan) → others_below (map_plan f p) ≡ others_below p
  others_mapped f Singleton = refl
  others_mapped f (Over b (Filter e)) = others_mapped f b
  others_mapped f (Over b n) = ap (λ k. k + 1) (others_mapped f b)

  height_mapped : (f : ExprTree → ExprTree) (p : Plan) → height (map_plan f p) ≡ height p
  height_mapped f Singleton = refl
  height_mapped f (Over b (Filter e)) = omega (arith, height_mapped f b, others_mapped f b)
  height_mapped f (Over b (Subquery x s)) = omega (arith, height_mapped f b, height_mapped f s)
  height_mapped f (Over b n) = height_mapped f b

over_lowers : (b d : Plan) (n : Node) → Lowers height others_below b d
    → Lowers height others_below (Over b n) (Over d n)
over_lowers b d (Filter e) h = record { falls = omega (arith, h.falls, h.stays); stays = h.stays }
over_lowers b d (Subquery x s) h = record {
  falls = omega (arith, h.falls);
  stays = omega (arith, h.stays);
}
over_lowers b d n h = record { falls = h.falls; stays = omega (arith, h.stays) }

over_mapped : (f : ExprTree → ExprTree) (d : Plan) (n : Node)
    → (height (Over d (map_node f n)) ≡ height (Over d n))
    × (others_below (Over d (map_node f n)) ≡ others_below (Over d n))
over_mapped f d (Subquery x s) = (omega (arith, height_mapped f s), refl)
over_mapped f d n = (refl, refl)

height_lifts : Lifts height others_below
height_lifts = record {
  over = renamed_lowers height others_below over_lowers over_mapped;
  with = λ b s t x h. record { falls = omega (arith, h.falls); stays = omega arith };
}

moves_up_lower : (us : Uses) (p q : Plan) (r : Option Rename) → MovesUp us p q r
    → Lowers height others_below p q
moves_up_lower _ _ _ _ (swapped {b = b} {n = n} {c = c} l u) = by n l
  where
    by : (n : Node) → may_swap n ≡ true
        → Lowers height others_below (Over (Over b n) (Filter c)) (Over (Over b (Filter c)) n)
    by (EnumerateCollection x) l = record { falls = omega arith; stays = omega arith }
    by (EnumerateList x e) l = record { falls = omega arith; stays = omega arith }
    by (Traversal w e colls prune keep) l = record { falls = omega arith; stays = omega arith }
    by (Calculation x e) l = record { falls = omega arith; stays = omega arith }
    by (Subquery x s) l = record { falls = omega arith; stays = omega arith }
    by (Sort directions es None) l = record { falls = omega arith; stays = omega arith }
    by n l = absurd (true≢false (sym l))

pub moves_up_fall : (facts : Facts) (p q : Plan) (r : Option Rename) → IsWhole false facts p
    → First MovesUp false result_uses p q r → height q < height p
moves_up_fall facts p q r whole h =
    (first_lowers false facts MovesUp height others_below height_lifts
    (λ outer away us p q r placed g. moves_up_lower us p q r g)
    h [] [] (whole_placed false facts p whole)).falls

-- ---- what the rule finds

stays_where_used : (us vs : Uses) (p : Plan) (c : ExprTree) → vs ≡ uses c
    → (may_swap (top p) && none_used (sets (top p)) vs) ≡ false
    → (q : Plan) (r : Option Rename) → MovesUp us (Over p (Filter c)) q r → ⊥
stays_where_used us vs _ _ e h _ _ (swapped {n = n} {c = c} l u) =
    absurd (true≢false (sym (and_from (may_swap n) (none_used (sets n) vs) l
    (ap (none_used (sets n)) e ∙ u)) ∙ h))

pub moves_up_stays : (us vs : Uses) (m p : Plan) (c : ExprTree) → m ≡ Over p (Filter c) → vs ≡ uses c
    → (may_swap (top p) && none_used (sets (top p)) vs) ≡ false
    → (q : Plan) (r : Option Rename) → MovesUp us m q r → ⊥
moves_up_stays us vs m p c d e h =
    subst (λ (n : Plan). (q : Plan) (r : Option Rename) → MovesUp us n q r → ⊥) (sym d)
    (stays_where_used us vs p c e h)

pub moves_up_at : (us vs : Uses) (m p b q : Plan) (c : ExprTree) → m ≡ Over p (Filter c) → vs ≡ uses c
    → p ≡ Over b (top p) → (may_swap (top p) && none_used (sets (top p)) vs) ≡ true
    → q ≡ over p (Over b (Filter c)) → MovesUp us m q None
moves_up_at us vs m p b q c d e f h g =
    let k = and_parts (may_swap (top p)) (none_used (sets (top p)) vs) h in
    subst₂ (λ (n s : Plan). MovesUp us n s None) (sym (d ∙ ap (λ (n : Plan). Over n (Filter c)) f))
    (sym (g ∙ ap (λ (n : Plan). over n (Over b (Filter c))) f))
    (swapped k.0 (sym (ap (none_used (sets (top p))) e) ∙ k.1))

pub moves_up_no_filter : (us : Uses) (m : Plan) → filter_in m ≡ None
    → (q : Plan) (r : Option Rename) → MovesUp us m q r → ⊥
moves_up_no_filter us _ h _ _ (swapped l u) = cc
