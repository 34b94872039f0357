-- A Calculation of what a lower node has calculated, whose variable goes by the lower one's.
use Rattle.std.proofs.Common.{◌≡◌, ◌∙◌, ℕ, suc, ◌<◌, ◌≤◌, List, [], ◌∷◌, ◌++◌, Bool, true, false, true≢false, cond, refl, ap, sym, subst, arith}
use Rattle.std.specs.Prelude.{Option, Some, None, ◌||◌, unwrap_or, MatchOption}
use Rattle.std.specs.List.{AllZip, AllByRecursion}
use Rattle.std.proofs.lemmas.Bool.{or_left}
use Rattle.aql_value.specs.Datum.{Datum, null}
use Rattle.aql_tree.specs.declared.syntax.Ident.{Ident}
use Rattle.aql_tree.specs.declared.syntax.Ident.TheVariants.{Num}
use Rattle.aql_tree.specs.Tree.{ExprTree}
use Rattle.aql_meaning.specs.AtRows.{value_of, values_of}
use Rattle.aql_meaning.specs.Clauses.{with_values}
use Rattle.aql_meaning.specs.Row.{Row, bind, value_at, same_ident}
use Rattle.aql_meaning.specs.Uses.{Uses, uses, Agree, is_used}
use Rattle.aql_meaning.specs.laws.Agrees.{value_same}
use Rattle.aql_plan.specs.declared.facts.Facts.{Facts}
use Rattle.aql_plan.specs.Needs.{sets, under, result_uses}
use Rattle.aql_plan.specs.Nodes.{body_in, weight}
use Rattle.aql_plan.specs.Plan.{Plan, Over, Node, Calculation, Subquery, Collect, Return, top}
use Rattle.aql_plan.specs.Refines.{dataset}
use Rattle.aql_plan.specs.Renaming.{renamed}
use Rattle.aql_plan.specs.Runs.{Dataset, Outside, Runs}
use Rattle.aql_plan.specs.Shapes.{HasNoFragment}
use Rattle.aql_plan.specs.Variables.{vars_of, FindsAll, vars_set, set_once, count}
use Rattle.aql_plan_laws.specs.laws.Agreement.{agree_self}
use Rattle.aql_plan_laws.specs.laws.Among.{any_back, count_append, none_in}
use Rattle.aql_meaning.specs.laws.Idents.{same_self, same_swapped}
use Rattle.aql_rewrite.specs.declared.swap.Rename.{Rename}
use Rattle.aql_rewrite.specs.Nodes.{gives_new_rows}
use Rattle.aql_rewrite.specs.Places.{First}
use Rattle.aql_rewrite.specs.Placed.{IsWhole, Placed}
use Rattle.aql_rewrite.specs.Swaps.{Replaced, KeepsPlaced}
use Rattle.aql_rewrite.specs.laws.Among.{has}
use Rattle.aql_rewrite.specs.laws.Carried.{Lowers, first_lowers}
use Rattle.aql_rewrite.specs.laws.PlacedBelow.{placed_below, whole_placed}
use Rattle.aql_rewrite.specs.laws.Standing.{outside}
use Rattle.aql_rewrite.specs.laws.Weights.{weight_lifts}
use Rattle.aql_rewrite.specs.Removed.{TakesAway}
use Rattle.aql_rules_calc.specs.RemoveRedundantCalculations.{IsNotOf, Calculates, here, further, renaming, Redundant, calculated_twice}
use Rattle.aql_rules_calc.specs.Readers.{IsRedundant, IsNotRedundant, calculation_in}
use Rattle.aql_rewrite.specs.laws.Apart.{vars_counted, counts_itself, no_result, set_nowhere, not_there}
use Rattle.aql_rewrite.specs.laws.RowsHold.{Leaves, over_holds}
use Rattle.aql_rules_calc.specs.laws.UnnecessaryCalculations.{calculation_off, more}
use Rattle.aql_rewrite.specs.laws.Unused.{agree_unused, unused_from}

-- ---- the value stays in the rows

-- the row has the value of e under w
abbrev Has : ExprTree → Ident → Row → Type 0
Has e w row = value_at row w ≡ value_of e row

other_kept : (t : Bool) → t ≡ false → (v : Option Datum) (d : Datum)
    → unwrap_or (cond t (Some d) v) null ≡ unwrap_or v null
other_kept true h v d = absurd (true≢false h)
other_kept false h v d = refl

own_set : (t : Bool) → t ≡ true → (v : Option Datum) (d : Datum) → unwrap_or (cond t (Some d) v) null ≡ d
own_set true h v d = refl
own_set false h v d = absurd (true≢false (sym h))

leaves : (e : ExprTree) (w y : Ident) → same_ident y w ≡ false → is_used y (uses e) ≡ false
    → Leaves (Has e w) y
leaves e w y h k row d g = other_kept (same_ident y w) h (row w) d ∙ g
    ∙ value_same e null row (bind y row d) (agree_unused (uses e) y row d k)

-- what is not set below is not w, and not used by e
apart : (outer : List Ident) {e : ExprTree} {w : Ident} {p : Plan} → Calculates e w p → HasNoFragment p
    → FindsAll outer p → (y : Ident) → same_ident y (Num 0) ≡ false
    → count y (vars_set p) ≤ 0 → count y outer ≤ 0 → (same_ident y w ≡ false) × (is_used y (uses e) ≡ false)
apart outer {e = e} {w = w} (here {b = b}) plain found y o h k =
    let l = by (same_ident y w) h in (
      l.0,
      unused_from y (uses e) (vars_of outer b)
          (none_in y (vars_of outer b) (omega (arith, vars_counted outer b plain.0 y o, l.1, k))) found.1,
    )
  where
    by : (t : Bool) → cond t (suc (count y (vars_set b))) (count y (vars_set b)) ≤ 0
        → (t ≡ false) × (count y (vars_set b) ≤ 0)
    by true h = absurd (omega (arith, h))
    by false h = (refl, h)
apart outer (further {b = b} {n = n} other i c) plain found y o h k =
    apart outer c plain.0 found.0 y o (omega (arith, h, count_append y (set_once n) (vars_set b))) k

each_counted : (P : Ident → Type 0) (zs : List Ident) → ((y : Ident) → 1 ≤ count y zs → P y)
    → AllByRecursion P zs
each_counted P [] f = tt
each_counted P (z ∷ zs) f =
    (f z (counts_itself z zs), each_counted P zs (λ y k. f y (more (same_ident y z) (count y zs) 1 k)))

-- a node that makes no new rows sets no more than what counts as set by it
also_set : (P : Ident → Type 0) (n : Node) → gives_new_rows n ≡ false → AllByRecursion P (set_once n)
    → AllByRecursion P (sets n)
also_set P (Subquery x s) o h = (h.0, tt)
also_set P (Collect xs es gs i s) o h = absurd (true≢false o)
also_set P (Return distinct e) o h = absurd (true≢false o)
also_set P n o h = h

rows_have : (facts : Facts) (outer : List Ident) {e : ExprTree} {w : Ident} {p : Plan} (away : List Ident)
    (us : Uses) → Calculates e w p → Placed false false facts outer away us p → (db : Dataset) (start : Row)
    → (out : List Row) → Runs p db Outside start out → AllByRecursion (Has e w) out
rows_have facts outer {e} {w} away us (here {b = b}) placed db start out g =
    subst (λ (rows : List Row). AllByRecursion (Has e w) rows) (sym g.2) (each g.0)
  where
    unused : is_used w (uses e) ≡ false
    unused = unused_from w (uses e) (vars_of outer b) (not_there placed w (counts_itself w [])) placed.found.1

    each : (rows : List Row) → AllByRecursion (Has e w) (with_values w rows (values_of e rows))
    each [] = tt
    each (row ∷ rows) = (
      own_set (same_ident w w) (same_self w) (row w) (value_of e row)
          ∙ value_same e null row (bind w row (value_of e row))
          (agree_unused (uses e) w row (value_of e row) unused),
      each rows,
    )
rows_have facts outer {e} {w} away us (further {b = b} {n = n} other o c) placed db start out g =
    let below = subst (λ (i : Bool). Placed false i facts outer (set_once n ++ away) (under n us) b)
    (outside n placed.suits.1) (placed_below false false facts outer away us n b placed) in
    over_holds (Has e w) n o placed.suits.1
    (also_set (Leaves (Has e w)) n o
    (each_counted (Leaves (Has e w)) (set_once n)
    (λ y set. let k = set_nowhere placed y set in
    let a = apart outer c placed.suits.0 placed.found.0 y (no_result placed y set) k.0 k.1 in
    leaves e w y a.0 a.1)))
    b db start
    (λ rows h. rows_have facts outer (set_once n ++ away) (under n us) c below db start rows h) out g

-- ---- the lists are the same in what is used, under the lower variable

-- with the value of w under v the rows are those with the value of e there
agree_rows : (us : Uses) (v w : Ident) (e : ExprTree) (rows : List Row) → AllByRecursion (Has e w) rows
    → AllZip (λ row. Agree us (renamed v w row)) rows (with_values v rows (values_of e rows))
agree_rows us v w e [] h = tt
agree_rows us v w e (row ∷ rows) h = (
  subst (λ (d : Datum). Agree us (bind v row (value_at row w)) (bind v row d)) h.0
      (agree_self us (bind v row (value_at row w))),
  agree_rows us v w e rows h.1,
)

set_below : {e : ExprTree} {w : Ident} {p : Plan} → Calculates e w p → 1 ≤ count w (vars_set p)
set_below {w = w} (here {b = b}) = counts_itself w (vars_set b)
set_below {w = w} (further {b = b} {n = n} other o c) =
    let k = set_below c in omega (arith, k, count_append w (set_once n) (vars_set b))

pub redundant_refine : (facts : Facts) (outer away : List Ident) (us : Uses) (p q : Plan) (r : Option Rename)
    → Placed false false facts outer away us p → Redundant us p q r → Replaced false facts us p q r
redundant_refine facts outer away _ _ _ _ placed
    (calculated_twice {us = us} {b = b} {v = v} {w = w} {e = e} c) = (
      refl,
      (λ db meets start out g. (
        with_values (Num v) out (values_of e out),
        (out, g, refl),
        agree_rows us (Num v) (Num w) e out (rows_have facts outer (Num v ∷ away) (uses e ++ us) c
            (placed_below false false facts outer away us (Calculation (Num v) e) b placed)
            (dataset facts db) start out g),
      )),
      counts_itself (Num v) (vars_set b),
      more (same_ident (Num w) (Num v)) (count (Num w) (vars_set b)) 1 (set_below c),
    )

-- ---- a well-formed plan stays so

in_rows : (outer : List Ident) (n : Node) → gives_new_rows n ≡ false → (b : Plan)
    → vars_of outer (Over b n) ≡ sets n ++ vars_of outer b
in_rows outer (Collect xs es gs i s) o b = absurd (true≢false o)
in_rows outer (Return distinct e) o b = absurd (true≢false o)
in_rows outer n o b = refl

still_there : (outer : List Ident) {e : ExprTree} {w : Ident} {p : Plan} → Calculates e w p
    → has w (vars_of outer p) ≡ true
still_there outer {w = w} (here {b = b}) = or_left (same_ident w w) (has w (vars_of outer b)) (same_self w)
still_there outer {w = w} (further {b = b} {n = n} other o c) =
    subst (λ (xs : List Ident). has w xs ≡ true) (sym (in_rows outer n o b))
    (any_back (same_ident w) (sets n) (vars_of outer b) (still_there outer c))

pub redundant_keep : (facts : Facts) (outer away : List Ident) (us : Uses) (p q : Plan) (r : Option Rename)
    → Placed false false facts outer away us p → Redundant us p q r
    → KeepsPlaced false false facts outer us p q r
redundant_keep facts outer away _ _ _ _ placed
    (calculated_twice {us = us} {b = b} {v = v} {w = w} {e = e} c) = record {
      suits = placed.suits.0;
      shape = calculation_off facts b (Num v) e;
      found = placed.found.0;
      vars = λ z g m. by z (same_ident (Num v) z) refl m;
      fewer = λ z. more (same_ident z (Num v)) (count z (vars_set b)) (count z (vars_set b)) (omega arith);
    }
  where
    by : (z : Ident) (t : Bool) → same_ident (Num v) z ≡ t → has z (Num v ∷ vars_of outer b) ≡ true
        → has (cond t (Num w) z) (vars_of outer b) ≡ true
    by z true h m = still_there outer c
    by z false h m =
        sym (ap (λ (s : Bool). s || has z (vars_of outer b)) (same_swapped (Num v) z h)) ∙ m

-- ---- the pass ends

redundant_lower : (us : Uses) (p q : Plan) (r : Option Rename) → Redundant us p q r
    → Lowers weight weight p q
redundant_lower _ _ _ _ (calculated_twice c) = record { falls = omega arith; stays = omega arith }

pub redundant_fall : (facts : Facts) (p q : Plan) (r : Option Rename) → IsWhole false facts p
    → First Redundant false result_uses p q r → weight q < weight p
redundant_fall facts p q r whole h =
    (first_lowers false facts Redundant weight weight weight_lifts
    (λ outer away us p q r placed k. redundant_lower us p q r k) h [] []
    (whole_placed false facts p whole)).falls

-- ---- what the rule finds

pub calculated_here : (p b : Plan) (w : Ident) (e : ExprTree) → p ≡ Over b (top p)
    → top p ≡ Calculation w e → Calculates e w p
calculated_here p b w e i k = subst (λ (m : Plan). Calculates e w m)
    (sym (i ∙ ap (λ (n : Node). Over b n) k)) here

nowhere : (p b : Plan) (e : ExprTree) → p ≡ Over b (top p) → IsNotOf e (top p)
    → ((w : Ident) → Calculates e w b → ⊥) → (w : Ident) → Calculates e w p → ⊥
nowhere p b e i other f w c = by (top p) other (subst (λ (m : Plan). Calculates e w m) i c)
  where
    by : (n : Node) → IsNotOf e n → Calculates e w (Over b n) → ⊥
    by _ other here = other w refl
    by _ other (further _ o c) = f w c

-- where it is not calculated at a node that hands rows on, it is where it is below
pub handed_on : (p b : Plan) (e : ExprTree) (o : Option ℕ) → p ≡ Over b (top p) → IsNotOf e (top p)
    → gives_new_rows (top p) ≡ false
    → MatchOption o ((w : Ident) → Calculates e w b → ⊥) (λ w. Calculates e (Num w) b)
    → MatchOption o ((w : Ident) → Calculates e w p → ⊥) (λ w. Calculates e (Num w) p)
handed_on p b e None i other o h = nowhere p b e i other h
handed_on p b e (Some w) i other o h =
    subst (λ (m : Plan). Calculates e (Num w) m) (sym i) (further other o h)

pub redundant_found : (p b : Plan) (v w : ℕ) (e : ExprTree) → p ≡ Over b (Calculation (Num v) e)
    → Calculates e (Num w) b → IsRedundant p b (renaming v w)
redundant_found p b v w e i c us = (
  i ∙ ap (Over b) (sym (ap top i)),
  subst (λ (m : Plan). Redundant us m b (Some (renaming v w))) (sym i) (calculated_twice c),
)

pub no_calculation : (p : Plan) → calculation_in p ≡ None → IsNotRedundant p
no_calculation _ h us _ _ (calculated_twice c) = cc

pub not_calculated : (p b : Plan) (v : ℕ) (e : ExprTree) → p ≡ Over b (Calculation (Num v) e)
    → ((w : Ident) → Calculates e w b → ⊥) → IsNotRedundant p
not_calculated p b v e i none us q r h = by us q r (subst (λ (m : Plan). Redundant us m q r) i h)
  where
    by : (us : Uses) (q : Plan) (r : Option Rename) → Redundant us (Over b (Calculation (Num v) e)) q r → ⊥
    by us _ _ (calculated_twice {w = w} c) = none (Num w) c

-- ---- for its pass

pub redundant_blind : (us vs : Uses) (p q : Plan) (r : Option Rename) → Redundant us p q r
    → Redundant vs p q r
redundant_blind _ vs _ _ _ (calculated_twice c) = calculated_twice c

pub redundant_removes : (us : Uses) (p q : Plan) (r : Option Rename) → Redundant us p q r
    → (p ≡ Over q (top p)) × (body_in (top p) ≡ None)
redundant_removes _ _ _ _ (calculated_twice c) = (refl, refl)

pub redundant_takes : (p b : Plan) (r : Rename) → IsRedundant p b r → TakesAway Redundant p r
redundant_takes p b r h c e =
    let i = h [] in
    subst (λ (o : Plan). Redundant [] p o (Some r)) (same b c (top p) (sym i.0 ∙ e)) i.1
  where
    same : (b c : Plan) (n : Node) → Over b n ≡ Over c n → b ≡ c
    same b c n e = cc
