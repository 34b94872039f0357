-- What the nodes of a subquery give over the one row before it, a FOR over its values gave.
use Rattle.std.proofs.Common.{◌≡◌, ◌∙◌, ℕ, suc, ◌+◌, ◌≤◌, ◌<◌, List, [], ◌∷◌, ◌++◌, map, Bool, true, false, true≢false, cond, refl, ap, ap₂, sym, subst, subst₂, arith}
use Rattle.std.specs.Prelude.{Option, Some, None, unwrap_or, not, ◌||◌, ◌&&◌}
use Rattle.std.specs.List.{AllZip, AllByRecursion}
use Rattle.std.proofs.lemmas.Bool.{and_parts, not-true}
use Rattle.std.proofs.lemmas.List.{append-nil}
use Rattle.aql_value.specs.Datum.{Datum, null}
use Rattle.aql_value.specs.Contents.{list, elements}
use Rattle.aql_value.specs.laws.Lists.{datum_list-array_of}
use Rattle.aql_tree.specs.declared.syntax.Ident.{Ident}
use Rattle.aql_tree.specs.Tree.{ExprTree, variable}
use Rattle.aql_meaning.specs.AtRows.{value_of, values_of}
use Rattle.aql_meaning.specs.Clauses.{with_values, with_elements}
use Rattle.aql_meaning.specs.Numbered.{IsNumber}
use Rattle.aql_meaning.specs.Row.{Row, bind, value_at, same_ident}
use Rattle.aql_meaning.specs.Uses.{Whole, Attribute, Uses, Agree, uses, is_used}
use Rattle.aql_plan.specs.declared.facts.Facts.{Facts}
use Rattle.aql_plan.specs.Needs.{sets, result_uses}
use Rattle.aql_plan.specs.Nodes.{weight, over, body_in, with_body}
use Rattle.aql_plan.specs.Plan.{Plan, Singleton, Over, Node, Index, EnumerateList, Calculation, Subquery, Collect, Return, NoResults, Scatter, Distribute, Gather, top}
use Rattle.aql_plan.specs.Refines.{dataset}
use Rattle.aql_plan.specs.Runs.{Dataset, Outside, Runs, result_row, result_of}
use Rattle.aql_plan.specs.Shapes.{Shape, Rows, Shaped, IsOuter, HasNoFragment, IsNoFragment, is_inside, one_row, calculated, with_subquery, plain_rows, ordered_rows, lowest, other_reading, passing, gather, gather_in_order, finishing, returning, KeepsShape}
use Rattle.aql_plan.specs.Variables.{vars_of, vars_set, set_once, are_among, FindsAll, count}
use Rattle.aql_plan_laws.specs.laws.Agreement.{agree_self, agree_bind, agree_through}
use Rattle.aql_plan_laws.specs.laws.Among.{count_append, none_in, counted_has}
use Rattle.aql_plan_laws.specs.laws.FoundMapped.{NodeFinds}
use Rattle.aql_meaning.specs.laws.Idents.{same_self, same_is}
use Rattle.aql_plan_laws.specs.laws.RenamedPlaces.{number_is_no_result}
use Rattle.aql_plan_laws.specs.laws.ShapesKept.{one_is_rows}
use Rattle.aql_plan.specs.laws.SomeRun.{some_run}
use Rattle.aql_rewrite.specs.declared.swap.Rename.{Rename}
use Rattle.aql_rewrite.specs.Apart.{is_start, has_body}
use Rattle.aql_rewrite.specs.Nodes.{gives_new_rows, is_collect}
use Rattle.aql_rewrite.specs.Places.{Stays, First}
use Rattle.aql_rewrite.specs.Placed.{IsWhole, Placed}
use Rattle.aql_rewrite.specs.Swaps.{Replaced, KeepsPlaced}
use Rattle.aql_rewrite.specs.laws.Among.{has, has_front, has_back, has_either}
use Rattle.aql_rewrite.specs.laws.Carried.{Lowers, first_lowers}
use Rattle.aql_rewrite.specs.laws.PlacedBelow.{whole_placed}
use Rattle.aql_rewrite.specs.laws.Weights.{weight_lifts}
use Rattle.aql_rewrite.specs.Sums.{total}
use Rattle.aql_rewrite.specs.laws.Apart.{vars_counted, counts_itself}
use Rattle.aql_rewrite.specs.laws.RowsHold.{Leaves, over_holds}
use Rattle.aql_rewrite.specs.laws.Unused.{agree_unused, unused_from, used_other}
use Rattle.aql_rules_order.specs.Readers.{list_variable, is_plain_return, may_inline, input_of, body_of, with_value, inline}
use Rattle.aql_rules_order.specs.InlineSubqueries.{is_single, has_collect, started_from, Inlines, inlined}

-- ---- one row

one_of : {A : Type 0} (G : Row → A → Type 0) (r : Row) (out : List A) → AllZip G (r ∷ []) out
    → (y : A) × (out ≡ y ∷ [])
one_of G r [] h = absurd h
one_of G r (y ∷ []) h = (y, refl)
one_of G r (y ∷ z ∷ out) h = absurd h.1

pub single_row : (p : Plan) → is_single p ≡ true → (w : Dataset) (start : Row) (rows : List Row)
    → Runs p w Outside start rows → (r : Row) × (rows ≡ r ∷ [])
single_row Singleton h w start rows g = (start, g)
single_row (Over b (Calculation x e)) h w start rows g =
    let k = single_row b h w start g.0 g.1 in
    (bind x k.0 (value_of e k.0), g.2 ∙ ap (λ (rs : List Row). with_values x rs (values_of e rs)) k.1)
single_row (Over b (Subquery x s)) h w start rows g =
    let k = single_row b h w start g.0 g.1 in
    let G = λ (row given : Row). (results : List Row) × Runs s w Outside row results
    × (given ≡ bind x row (list (map result_of results))) in
    one_of G k.0 rows (subst (λ (rs : List Row). AllZip G rs rows) k.1 g.2)
single_row (Over b n) h w start rows g = absurd (true≢false (sym h))

-- a plan over a single row runs from that row
from_row : (p : Plan) → is_single p ≡ true → (b : Plan) → has_collect b ≡ false → HasNoFragment b
    → (w : Dataset) (start : Row) (rows : List Row) → Runs (started_from p b) w Outside start rows
    → (r : Row) × Runs p w Outside start (r ∷ []) × Runs b w Outside r rows
from_row p h Singleton l lone w start rows g =
    let k = single_row p h w start rows g in
    (k.0, subst (λ (rs : List Row). Runs p w Outside start rs) k.1 g, k.1)
from_row p h (Over b NoResults) l lone w start rows g =
    let s = some_run p w Outside start in
    let k = single_row p h w start s.0 s.1 in
    (k.0, subst (λ (rs : List Row). Runs p w Outside start rs) k.1 s.1, g)
from_row p h (Over b (Collect xs es gs i s)) l lone w start rows g = absurd (true≢false l)
from_row p h (Over b (Scatter coll only)) l lone w start rows g = absurd lone.1
from_row p h (Over b (Distribute coll es)) l lone w start rows g = absurd lone.1
from_row p h (Over b (Gather directions es)) l lone w start rows g = absurd lone.1
from_row p h (Over b n) l lone w start rows g =
    let k = from_row p h b l lone.0 w start g.0 g.1 in (k.0, k.1, (g.0, k.2, g.2))

-- ---- the values

results_back : (vs : List Datum) → map result_of (map result_row vs) ≡ vs
results_back [] = refl
results_back (v ∷ vs) = ap (λ us. v ∷ us) (results_back vs)

agree_flip : (us : Uses) (r s : Row) → Agree us r s → Agree us s r
agree_flip [] r s h = tt
agree_flip (Whole x ∷ us) r s h = (sym h.0, agree_flip us r s h.1)
agree_flip (Attribute x name ∷ us) r s h = (sym h.0, agree_flip us r s h.1)

bound_at : (s : Ident) (r : Row) (v : Datum) → value_at (bind s r v) s ≡ v
bound_at s r v = ap (λ (b : Bool). unwrap_or (cond b (Some v) (r s)) null) (same_self s)

each_value : (us : Uses) (x : Ident) (e : ExprTree) (given : Row) (rows : List Row)
    → AllByRecursion (λ row. Agree us row given) rows
    → AllZip (Agree us) (with_values x rows (values_of e rows)) (map (bind x given) (values_of e rows))
each_value us x e given [] h = tt
each_value us x e given (row ∷ rows) h =
    (agree_bind us x row given (value_of e row) h.0, each_value us x e given rows h.1)

-- ---- the rows of the subquery's nodes agree with the row that they began with

collect_below : (b : Plan) (n : Node) → has_collect (Over b n) ≡ false → has_collect b ≡ false
collect_below b (Collect xs es gs i s) l = absurd (true≢false l)
collect_below b n l = l

no_new_rows : (b : Plan) (n : Node) → IsOuter n → has_collect (Over b n) ≡ false → gives_new_rows n ≡ false
no_new_rows b (Collect xs es gs i s) o l = absurd (true≢false l)
no_new_rows b (Return distinct e) o l = absurd o
no_new_rows b n o l = refl

module _ (us : Uses) (r : Row) where
  abbrev Agrees : Row → Type 0
  Agrees row = Agree us row r

  -- none of these variables is used
  abbrev AllUnused : List Ident → Type 0
  AllUnused ys = (y : Ident) → 1 ≤ count y ys → is_used y us ≡ false

  leaves : (y : Ident) → is_used y us ≡ false → Leaves Agrees y
  leaves y u row d h =
      agree_through us (bind y row d) row r (agree_flip us row (bind y row d) (agree_unused us y row d u)) h

  more : (y z : Ident) (ys : List Ident) → 1 ≤ count y ys → 1 ≤ count y (z ∷ ys)
  more y z ys h = by (same_ident y z)
    where
      by : (t : Bool) → 1 ≤ cond t (suc (count y ys)) (count y ys)
      by true = omega arith
      by false = h

  all_leave : (ys : List Ident) → AllUnused ys → AllByRecursion (Leaves Agrees) ys
  all_leave [] u = tt
  all_leave (y ∷ ys) u = (leaves y (u y (counts_itself y ys)), all_leave ys (λ z h. u z (more z y ys h)))

  front_unused : (xs ys : List Ident) → AllUnused (xs ++ ys) → AllUnused xs
  front_unused xs ys u z h = u z (omega (arith, h, count_append z xs ys))

  back_unused : (xs ys : List Ident) → AllUnused (xs ++ ys) → AllUnused ys
  back_unused xs ys u z h = u z (omega (arith, h, count_append z xs ys))

  sets_unused : (n : Node) → AllUnused (set_once n) → IsNoFragment n → gives_new_rows n ≡ false
      → AllUnused (sets n)
  sets_unused (Subquery x s) u lone o = front_unused (x ∷ []) (vars_set s) u
  sets_unused (Collect xs es gs i s) u lone o = absurd (true≢false o)
  sets_unused (Return distinct e) u lone o = absurd (true≢false o)
  sets_unused n u lone o = u

  over_agrees : (facts : Facts) (w : Dataset) (b : Plan) (n : Node) → gives_new_rows n ≡ false
      → IsNoFragment n
      → AllUnused (set_once n ++ vars_set b)
      → ((rows : List Row) → Runs b w Outside r rows → AllByRecursion Agrees rows)
      → (rows : List Row) → Runs (Over b n) w Outside r rows → AllByRecursion Agrees rows
  over_agrees facts w b n o lone u h rows g =
      over_holds Agrees n o lone
      (all_leave (sets n) (sets_unused n (front_unused (set_once n) (vars_set b) u) lone o)) b w r h rows g

  rows_agree_with : (facts : Facts) (w : Dataset) {b : Plan} {one : Bool} → Shaped facts b (Rows one)
      → has_collect b ≡ false → HasNoFragment b → AllUnused (vars_set b) → (rows : List Row)
      → Runs b w Outside r rows → AllByRecursion Agrees rows
  rows_agree_with facts w one_row l lone u rows g =
      subst (λ (rs : List Row). AllByRecursion Agrees rs) (sym g) (agree_self us r, tt)
  rows_agree_with facts w (calculated {b = b} {x = x} {e = e} f h) l lone u rows g =
      over_agrees facts w b (Calculation x e) refl lone.1 u
      (rows_agree_with facts w h l lone.0 (back_unused (x ∷ []) (vars_set b) u)) rows g
  rows_agree_with facts w (with_subquery {b = b} {s = s} {x = x} k h) l lone u rows g =
      over_agrees facts w b (Subquery x s) refl lone.1 u
      (rows_agree_with facts w h l lone.0 (back_unused (x ∷ vars_set s) (vars_set b) u)) rows g
  rows_agree_with facts w (plain_rows {b = b} {n = n} i f h) l lone u rows g =
      over_agrees facts w b n (no_new_rows b n i l) lone.1 u
      (rows_agree_with facts w h (collect_below b n l) lone.0
      (back_unused (set_once n) (vars_set b) u)) rows g
  rows_agree_with facts w (ordered_rows {b = b} {x = x} {index = index} {equal = equal} {last = last}
      {descending = descending} i f h) l lone u rows g =
      over_agrees facts w b (Index x index equal last (Some descending)) refl lone.1 u
      (rows_agree_with facts w h l lone.0 (back_unused (x.var ∷ []) (vars_set b) u)) rows g
  rows_agree_with facts w (gather h) l lone u rows g = absurd lone.1
  rows_agree_with facts w (gather_in_order f h) l lone u rows g = absurd lone.1
  rows_agree_with facts w (finishing f h) l lone u rows g = absurd lone.1

-- ---- what is used above is none of the body's variables

module _ {facts : Facts} {outer away : List Ident} {us : Uses} {p b : Plan} {s x : Ident} {e : ExprTree}
    (placed : Placed false false facts outer away us
    (Over (Over p (Subquery s (Over b (Return false e)))) (EnumerateList x (variable s)))) where
  body_unused : (y : Ident) → 1 ≤ count y (vars_set b) → is_used y us ≡ false
  body_unused y h =
      let all = x ∷ ((s ∷ vars_set b) ++ vars_set p) in
      let c = count_append y (x ∷ (s ∷ vars_set b)) (vars_set p) in
      let d = count_append y (x ∷ s ∷ []) (vars_set b) in
      let n = number_is_no_result y (counted_has IsNumber y all (omega (arith, h, c, d)) placed.numbers) in
      let o = placed.once y n in
      let m = count_append y away (x ∷ s ∷ vars_of outer p) in
      let k = count_append y (x ∷ s ∷ []) (vars_of outer p) in
      let v = vars_counted outer p placed.suits.0.0 y n in
      unused_from y us (away ++ (x ∷ s ∷ vars_of outer p))
      (none_in y (away ++ (x ∷ s ∷ vars_of outer p)) (omega (arith, h, c, d, o, m, k, v))) placed.used

each_agrees : (us : Uses) (r given : Row) (rows : List Row) → Agree us r given
    → AllByRecursion (λ (row : Row). Agree us row r) rows
    → AllByRecursion (λ (row : Row). Agree us row given) rows
each_agrees us r given [] h k = tt
each_agrees us r given (row ∷ rows) h k =
    (agree_through us row r given k.0 h, each_agrees us r given rows h k.1)

-- the body has rows below its Return
body_rows : (facts : Facts) (p b : Plan) (s x : Ident) (e : ExprTree) (t : Shape) → is_inside t ≡ false
    → Shaped facts (Over (Over p (Subquery s (Over b (Return false e)))) (EnumerateList x (variable s))) t
    → Shaped facts b (Rows false)
body_rows facts p b s x e t o (plain_rows i f (with_subquery (returning g k) m)) = k
body_rows facts p b s x e t o (plain_rows i f (plain_rows j g k)) = absurd j
body_rows facts p b s x e t o (lowest i f k) = absurd i
body_rows facts p b s x e t o (other_reading i f k) = absurd i
body_rows facts p b s x e t o (passing i f k) = absurd i

-- ---- the lists are the same in what is used

pub inlines_refine : (facts : Facts) (outer away : List Ident) (us : Uses) (p q : Plan) (r : Option Rename)
    → Placed false false facts outer away us p → Inlines us p q r → Replaced false facts us p q r
inlines_refine facts outer away _ _ _ _ placed
    (inlined {us = us} {p = p} {b = b} {s = s} {x = x} {e = e} u h l) = λ db meets start out g.
    let w = dataset facts db in
    let body = body_rows facts p b s x e placed.shaped.0 placed.shaped.1 placed.shaped.2 in
    let k = from_row p h b l placed.suits.0.1.0 w start g.0 g.1 in
    let vs = values_of e g.0 in
    let given = bind s k.0 (list vs) in
    let same : AllByRecursion (λ (row : Row). Agree us row given) g.0
    = each_agrees us k.0 given g.0 (agree_unused us s k.0 (list vs) u)
    (rows_agree_with us k.0 facts w body l placed.suits.0.1.0 (body_unused placed) g.0 k.2) in
    let over : with_elements x (given ∷ []) (values_of (variable s) (given ∷ [])) ≡ map (bind x given) vs
    = append-nil (map (bind x given) (elements (value_of (variable s) given)))
    ∙ ap (λ (d : Datum). map (bind x given) (elements d)) (bound_at s k.0 (list vs))
    ∙ ap (map (bind x given)) (datum_list-array_of vs) in (
      with_elements x (given ∷ []) (values_of (variable s) (given ∷ [])),
      (
        given ∷ [],
        (
          k.0 ∷ [],
          k.1,
          (
            (map result_row vs, (g.0, k.2, refl), ap (λ ds. bind s k.0 (list ds)) (sym (results_back vs))),
            tt,
          ),
        ),
        refl,
      ),
      subst₂ (λ (rs ss : List Row). AllZip (Agree us) rs ss) (sym g.2) (sym over)
          (each_value us x e given g.0 same),
    )

-- ---- a well-formed plan stays so

single_shaped : (facts : Facts) (p : Plan) → is_single p ≡ true → Shaped facts p (Rows false)
    → Shaped facts p (Rows true)
single_shaped facts Singleton h k = one_row
single_shaped facts (Over b (Calculation x e)) h (calculated f k) = calculated f (single_shaped facts b h k)
single_shaped facts (Over b (Calculation x e)) h (plain_rows i f k) = absurd i
single_shaped facts (Over b (Subquery x s)) h (with_subquery g k) =
    with_subquery g (single_shaped facts b h k)
single_shaped facts (Over b (Subquery x s)) h (plain_rows i f k) = absurd i
single_shaped facts (Over b n) h k = absurd (true≢false (sym h))

any_one : (facts : Facts) (one : Bool) {p : Plan} → Shaped facts p (Rows true) → Shaped facts p (Rows one)
any_one facts true k = k
any_one facts false k = one_is_rows facts k

shaped_from : (facts : Facts) (p : Plan) → Shaped facts p (Rows true) → {b : Plan} {one : Bool}
    → Shaped facts b (Rows one) → HasNoFragment b → Shaped facts (started_from p b) (Rows one)
shaped_from facts p t (one_row {one = one}) lone = any_one facts one t
shaped_from facts p t (calculated f h) lone = calculated f (shaped_from facts p t h lone.0)
shaped_from facts p t (with_subquery g h) lone = with_subquery g (shaped_from facts p t h lone.0)
shaped_from facts p t (plain_rows i f h) lone = plain_rows i f (shaped_from facts p t h lone.0)
shaped_from facts p t (ordered_rows i f h) lone = ordered_rows i f (shaped_from facts p t h lone.0)
shaped_from facts p t (gather h) lone = absurd lone.1
shaped_from facts p t (gather_in_order f h) lone = absurd lone.1
shaped_from facts p t (finishing f h) lone = absurd lone.1

shape_inlined : (facts : Facts) (p b : Plan) (s x : Ident) (e : ExprTree) → is_single p ≡ true
    → HasNoFragment b
    → KeepsShape false facts (Over (started_from p b) (Calculation x e))
    (Over (Over p (Subquery s (Over b (Return false e)))) (EnumerateList x (variable s)))
shape_inlined facts p b s x e h lone t o (plain_rows i f (with_subquery (returning g k) m)) =
    calculated g (shaped_from facts p (single_shaped facts p h m) k lone)
shape_inlined facts p b s x e h lone t o (plain_rows i f (plain_rows j g k)) = absurd j
shape_inlined facts p b s x e h lone t o (lowest i f k) = absurd i
shape_inlined facts p b s x e h lone t o (other_reading i f k) = absurd i
shape_inlined facts p b s x e h lone t o (passing i f k) = absurd i

lone_from : (p b : Plan) → HasNoFragment p → HasNoFragment b → HasNoFragment (started_from p b)
lone_from p Singleton h k = h
lone_from p (Over b n) h k = (lone_from p b h k.0, k.1)

vars_from : (outer : List Ident) (p b : Plan) → has_collect b ≡ false
    → vars_of outer (started_from p b) ≡ vars_of (vars_of outer p) b
vars_from outer p Singleton l = refl
vars_from outer p (Over b (Collect xs es gs i s)) l = absurd (true≢false l)
vars_from outer p (Over b (Return distinct e)) l = refl
vars_from outer p (Over b n) l = ap (λ (xs : List Ident). sets n ++ xs) (vars_from outer p b l)

found_from : (outer : List Ident) (p b : Plan) → has_collect b ≡ false → FindsAll outer p
    → FindsAll (vars_of outer p) b → FindsAll outer (started_from p b)
found_from outer p Singleton l h k = h
found_from outer p (Over b n) l h k =
    let c = collect_below b n l in
    let m = subst (λ (xs : List Ident). NodeFinds xs n) (sym (vars_from outer p b c)) (k.1, k.2, k.3) in
    (found_from outer p b c h k.0, m.0, m.1, m.2)

set_from : (z : Ident) (p b : Plan)
    → count z (vars_set (started_from p b)) ≡ count z (vars_set b) + count z (vars_set p)
set_from z p Singleton = omega arith
set_from z p (Over b n) = omega (
  arith,
  set_from z p b,
  count_append z (set_once n) (vars_set (started_from p b)),
  count_append z (set_once n) (vars_set b),
)

weight_from : (p b : Plan) → weight (started_from p b) + 1 ≡ weight b + weight p
weight_from p Singleton = omega arith
weight_from p (Over b n) = omega (arith, weight_from p b)

inlines_lower : (us : Uses) (p q : Plan) (r : Option Rename) → Inlines us p q r → Lowers weight weight p q
inlines_lower _ _ _ _ (inlined {p = p} {b = b} u h l) =
    record { falls = omega (arith, weight_from p b); stays = omega (arith, weight_from p b) }

pub inlines_fall : (facts : Facts) (p q : Plan) (r : Option Rename) → IsWhole false facts p
    → First Inlines false result_uses p q r → weight q < weight p
inlines_fall facts p q r whole h =
    (first_lowers false facts Inlines weight weight weight_lifts
    (λ outer away us p q r placed k. inlines_lower us p q r k) h [] []
    (whole_placed false facts p whole)).falls

abbrev pub nothing : Node → ℕ
nothing n = 0

total_from : (p b : Plan) → total nothing (started_from p b) ≡ total nothing b + total nothing p
total_from p Singleton = omega arith
total_from p (Over b n) = omega (arith, total_from p b)

pub inlines_nameless : (us : Uses) (p q : Plan) (r : Option Rename) → Inlines us p q r → r ≡ None
inlines_nameless _ _ _ _ (inlined u h l) = refl

pub inlines_shrink : (us : Uses) (p q : Plan) (r : Option Rename) → Inlines us p q r
    → weight q + total nothing q < weight p + total nothing p
inlines_shrink _ _ _ _ (inlined {p = p} {b = b} u h l) = omega (arith, weight_from p b, total_from p b)

rows_over : (xs : List Ident) (b : Plan) (n : Node) → gives_new_rows n ≡ false
    → vars_of xs (Over b n) ≡ sets n ++ vars_of xs b
rows_over xs b (Collect ys es gs i s) o = absurd (true≢false o)
rows_over xs b (Return distinct e) o = absurd (true≢false o)
rows_over xs b n o = refl

grows : (facts : Facts) (z : Ident) (xs : List Ident) {b : Plan} {one : Bool} → Shaped facts b (Rows one)
    → has_collect b ≡ false → HasNoFragment b → has z xs ≡ true → has z (vars_of xs b) ≡ true
grows facts z xs one_row l lone h = h
grows facts z xs (calculated {b = b} {x = x} f k) l lone h =
    has_back z (x ∷ []) (vars_of xs b) (grows facts z xs k l lone.0 h)
grows facts z xs (with_subquery {b = b} {x = x} g k) l lone h =
    has_back z (x ∷ []) (vars_of xs b) (grows facts z xs k l lone.0 h)
grows facts z xs (plain_rows {b = b} {n = n} i f k) l lone h =
    subst (λ (ys : List Ident). has z ys ≡ true) (sym (rows_over xs b n (no_new_rows b n i l)))
    (has_back z (sets n) (vars_of xs b) (grows facts z xs k (collect_below b n l) lone.0 h))
grows facts z xs (ordered_rows {b = b} {x = x} i f k) l lone h =
    has_back z (x.var ∷ []) (vars_of xs b) (grows facts z xs k l lone.0 h)
grows facts z xs (gather k) l lone h = absurd lone.1
grows facts z xs (gather_in_order f k) l lone h = absurd lone.1
grows facts z xs (finishing f k) l lone h = absurd lone.1

pub inlines_keep : (facts : Facts) (outer away : List Ident) (us : Uses) (p q : Plan) (r : Option Rename)
    → Placed false false facts outer away us p → Inlines us p q r
    → KeepsPlaced false false facts outer us p q r
inlines_keep facts outer away _ _ _ _ placed
    (inlined {us = us} {p = p} {b = b} {s = s} {x = x} {e = e} u h l) =
    let f = placed.found in
    let lone = placed.suits.0.1.0 in
    let body = body_rows facts p b s x e placed.shaped.0 placed.shaped.1 placed.shaped.2 in record {
      suits = (lone_from p b placed.suits.0.0 lone, tt);
      shape = shape_inlined facts p b s x e h lone;
      found = (
        found_from outer p b l f.0.0 f.0.3.0,
        subst (λ (xs : List Ident). are_among (uses e) xs ≡ true) (sym (vars_from outer p b l)) f.0.3.1,
        refl,
        tt,
      );
      vars = λ z used there.
          has_either z (x ∷ []) (s ∷ vars_of outer p) there
          (λ k. has_front z (x ∷ []) (vars_of outer (started_from p b)) k)
          (λ k. has_back z (x ∷ []) (vars_of outer (started_from p b))
          (subst (λ (ys : List Ident). has z ys ≡ true) (sym (vars_from outer p b l))
          (grows facts z (vars_of outer p) body l lone
          (sym (ap (λ (t : Bool). t || has z (vars_of outer p)) (used_other us s z u used)) ∙ k))));
      fewer = λ z. omega (
        arith,
        set_from z p b,
        count_append z (x ∷ []) (vars_set (started_from p b)),
        count_append z (x ∷ (s ∷ vars_set b)) (vars_set p),
        count_append z (x ∷ s ∷ []) (vars_set b),
        count_append z (x ∷ []) (s ∷ vars_set b),
        count_append z (s ∷ []) (vars_set b),
      );
    }

-- ---- what the rule finds

plain_return : (n : Node) → is_plain_return n ≡ true → (e : ExprTree) × (n ≡ Return false e)
plain_return (Return false e) h = (e, refl)
plain_return n h = absurd (true≢false (sym h))

pub no_variable : (us : Uses) (m : Plan) → list_variable (top m) ≡ None → Stays Inlines us m
no_variable us _ h _ _ (inlined u j l) = cc

no_subquery_in : (us : Uses) (l : Plan) (x t : Ident) → body_in (top l) ≡ None
    → Stays Inlines us (Over l (EnumerateList x (variable t)))
no_subquery_in us _ _ _ h _ _ (inlined u j l) = cc

no_return_in : (us : Uses) (p k : Plan) (x t s : Ident) → is_plain_return (top k) ≡ false
    → Stays Inlines us (Over (Over p (Subquery s k)) (EnumerateList x (variable t)))
no_return_in us _ _ _ _ _ h _ _ (inlined u j l) = true≢false h

other_in : (us : Uses) (p k : Plan) (x t s : Ident) → same_ident s t ≡ false
    → Stays Inlines us (Over (Over p (Subquery s k)) (EnumerateList x (variable t)))
other_in us _ _ _ _ _ h _ _ (inlined {s = s} u j l) = true≢false (sym (same_self s) ∙ h)

all_three : (a b c : Bool) → a ≡ false → b ≡ true → c ≡ false → ((not a && b) && not c) ≡ true
all_three a b c h k l = ap₂ (λ (x y : Bool). (not x && y) && not c) h k ∙ ap not l

may_not_in : (us : Uses) (p b : Plan) (n : Node) (x t s : Ident) → may_inline us s p b ≡ false
    → Stays Inlines us (Over (Over p (Subquery s (Over b n))) (EnumerateList x (variable t)))
may_not_in us _ _ _ _ _ _ h _ _ (inlined {p = p} {b = b} {s = s} u j l) =
    true≢false (sym (all_three (is_used s us) (is_single p) (has_collect b) u j l) ∙ h)

inlines_in : (us : Uses) (p b : Plan) (n : Node) (x t s : Ident) → is_plain_return n ≡ true
    → same_ident s t ≡ true → may_inline us s p b ≡ true
    → (λ (m : Plan). Inlines us m (inline x m) None)
    (Over (Over p (Subquery s (Over b n))) (EnumerateList x (variable t)))
inlines_in us p b n x t s r h a =
    let i = and_parts (not (is_used s us) && is_single p) (not (has_collect b)) a in
    let j = and_parts (not (is_used s us)) (is_single p) i.0 in
    let e = plain_return n r in
    subst₂ (λ (m : Node) (y : Ident). (λ (q : Plan). Inlines us q (inline x q) None)
    (Over (Over p (Subquery s (Over b m))) (EnumerateList x (variable y)))) (sym e.1) (same_is s t h)
    (inlined (not-true (is_used s us) j.0) j.1 (not-true (has_collect b) i.1))

-- a FOR over a variable, over a Subquery, over a body
module _ (us : Uses) (m l : Plan) (x t : Ident) (d : m ≡ Over l (EnumerateList x (variable t))) where
  pub no_subquery : body_in (top l) ≡ None → Stays Inlines us m
  no_subquery h = subst (λ (n : Plan). Stays Inlines us n) (sym d) (no_subquery_in us l x t h)

  module _ (p k : Plan) (s : Ident) (f : l ≡ Over p (Subquery s k)) where
    over_body : m ≡ Over (Over p (Subquery s k)) (EnumerateList x (variable t))
    over_body = d ∙ ap (λ (n : Plan). Over n (EnumerateList x (variable t))) f

    pub no_return : is_plain_return (top k) ≡ false → Stays Inlines us m
    no_return h = subst (λ (n : Plan). Stays Inlines us n) (sym over_body) (no_return_in us p k x t s h)

    pub other_variable : same_ident s t ≡ false → Stays Inlines us m
    other_variable h = subst (λ (n : Plan). Stays Inlines us n) (sym over_body) (other_in us p k x t s h)

    module _ (b : Plan) (g : k ≡ Over b (top k)) where
      over_return : m ≡ Over (Over p (Subquery s (Over b (top k)))) (EnumerateList x (variable t))
      over_return =
          over_body ∙ ap (λ (n : Plan). Over (Over p (Subquery s n)) (EnumerateList x (variable t))) g

      pub may_not : may_inline us s p b ≡ false → Stays Inlines us m
      may_not h =
          subst (λ (n : Plan). Stays Inlines us n) (sym over_return) (may_not_in us p b (top k) x t s h)

      pub inlines_at : is_plain_return (top k) ≡ true → same_ident s t ≡ true → may_inline us s p b ≡ true
          → Inlines us m (inline x m) None
      inlines_at r h a =
          subst (λ (n : Plan). Inlines us n (inline x n) None) (sym over_return)
          (inlines_in us p b (top k) x t s r h a)

-- what the program takes apart
pub input_is : (p below : Plan) → p ≡ over p below → (is_start p ≡ true → below ≡ Singleton)
    → below ≡ input_of p
input_is Singleton below e h = h refl
input_is (Over b n) below e h = cc

pub body_is : (p body : Plan) → p ≡ with_body p body → (has_body (top p) ≡ false → body ≡ Singleton)
    → body ≡ body_of p
body_is Singleton body e h = h refl
body_is (Over b (Subquery s k)) body e h = cc
body_is (Over b n) body e h = h refl

input_kept : (p body : Plan) → input_of (with_body p body) ≡ input_of p
input_kept Singleton body = refl
input_kept (Over b (Subquery s k)) body = refl
input_kept (Over b n) body = refl

pub start_is : (p q start : Plan) → q ≡ with_body p Singleton → start ≡ input_of q → start ≡ input_of p
start_is p q start e h = h ∙ ap input_of e ∙ input_kept p Singleton

pub inlined_is : (x : Ident) (p node body start made : Plan) → node ≡ input_of p → body ≡ body_of node
    → start ≡ input_of node → made ≡ with_value x (started_from start body) → made ≡ inline x p
inlined_is x p node body start made e f g h =
    h ∙ ap₂ (λ (s b : Plan). with_value x (started_from s b)) (g ∙ ap input_of e) (f ∙ ap body_of e)

collect_beneath : (b : Plan) (n : Node) → is_collect n ≡ false → has_collect b ≡ has_collect (Over b n)
collect_beneath b (Collect xs es gs i s) h = absurd (true≢false h)
collect_beneath b n h = refl

pub collect_same : (p b : Plan) → p ≡ Over b (top p) → is_collect (top p) ≡ false
    → has_collect b ≡ has_collect p
collect_same p b d h = collect_beneath b (top p) h ∙ ap has_collect (sym d)
