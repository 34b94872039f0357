-- A well-formed plan without fragments stays well formed where a part of it gives way to another part and the
-- nodes above go by other names: those at their expressions, and the bodies of their subqueries too.
use Rattle.std.proofs.Common.{◌≡◌, suc, ◌≤◌, List, [], ◌∷◌, ◌++◌, map, Bool, true, false, true≢false, cond, refl, ap, sym, subst, arith}
use Rattle.std.proofs.Math.Dec.{eqb-suc-zero}
use Rattle.std.specs.Prelude.{Some}
use Rattle.std.specs.List.{list_any, AllByRecursion}
use Rattle.aql_tree.specs.declared.syntax.Ident.{Ident}
use Rattle.aql_tree.specs.declared.syntax.Ident.TheVariants.{Num}
use Rattle.aql_tree.specs.Tree.{ExprTree, variable}
use Rattle.aql_meaning.specs.Row.{same_ident}
use Rattle.aql_meaning.specs.Substitution.{put}
use Rattle.aql_meaning.specs.Plain.{IsPlain}
use Rattle.aql_meaning.specs.Numbered.{IsNumber}
use Rattle.aql_meaning.specs.Uses.{Uses}
use Rattle.aql_plan.specs.declared.facts.Facts.{Facts}
use Rattle.aql_plan.specs.Plan.{Plan, Over, Node, Index, Collect}
use Rattle.aql_plan.specs.Needs.{result_uses, under}
use Rattle.aql_plan.specs.Above.{raised, uses_above}
use Rattle.aql_plan.specs.Variables.{vars_of, FindsAll, vars_set, set_once, count}
use Rattle.aql_plan.specs.Renaming.{NodeSets, renamed_node}
use Rattle.aql_plan.specs.Exprs.{map_node}
use Rattle.aql_plan.specs.Shapes.{Rows, Result, calculated, with_subquery, plain_rows, ordered_rows, gather, gather_in_order, joining, finishing, returning, HasNoFragment, IsNoFragment, KeepsShape}
use Rattle.aql_plan.specs.WellFormed.{IsWellFormed}
use Rattle.aql_plan_laws.specs.laws.Among.{count_append, counted_in, counted_once, once_distinct, counted_has, fewer_have}
use Rattle.aql_plan_laws.specs.laws.SetsHave.{node_sets}
use Rattle.aql_plan_laws.specs.laws.ShapesMapped.{mapped_fit, mapped_outer, mapped_shaped}
use Rattle.aql_plan_laws.specs.laws.RenamedUses.{goes_by, uses_renamed, plain_renamed}
use Rattle.aql_plan_laws.specs.laws.UsesMapped.{Turns, IsKept, set_once_kept, lone_node}
use Rattle.aql_plan_laws.specs.laws.FoundMapped.{StaysAmong, stays_kept, StartStays, rows_over, node_mapped}

-- q keeps the place of p where the nodes above go by names under g: `outer` are the variables of the start
-- row, and `us` is what these nodes use of the rows of p
pub record KeepsPlace (facts : Facts) (g : Ident → Ident) (outer : List Ident) (us : Uses)
    (q p : Plan) : Type 0 where
  pub shape : KeepsShape false facts q p
  pub no_fragment : HasNoFragment q
  pub found : FindsAll outer q
  pub vars : StaysAmong g us (vars_of outer p) (vars_of outer q)
  pub fewer : (z : Ident) → count z (vars_set q) ≤ count z (vars_set p)

module _ (f : ExprTree → ExprTree) (plain : (e : ExprTree) → IsPlain e → IsPlain (f e)) where
  pub shape_over : (facts : Facts) (q p : Plan) (n : Node) → IsNoFragment n → KeepsShape false facts q p
      → KeepsShape false facts (Over q (map_node f n)) (Over p n)
  shape_over facts q p n lone k s e (calculated {one = one} {e = c} g h) =
      calculated (plain c g) (k (Rows one) refl h)
  shape_over facts q p n lone k s e (with_subquery {one = one} g h) =
      with_subquery (mapped_shaped f plain facts g lone refl) (k (Rows one) refl h)
  shape_over facts q p n lone k s e (plain_rows {n = m} i g h) =
      plain_rows (mapped_outer f plain m i) (mapped_fit f plain facts m g) (k (Rows false) refl h)
  shape_over facts q p n lone k s e
      (ordered_rows {x = x} {index = index} {equal = equal} {last = last} {descending = descending} i g h) =
      ordered_rows i (mapped_fit f plain facts (Index x index equal last (Some descending)) g)
      (k (Rows true) refl h)
  shape_over facts q p n lone k s e (returning {e = c} g h) =
      returning (plain c g) (k (Rows false) refl h)
  shape_over facts q p n lone k s e (gather h) = absurd lone
  shape_over facts q p n lone k s e (gather_in_order g h) = absurd lone
  shape_over facts q p n lone k s e (joining h) = absurd lone
  shape_over facts q p n lone k s e (finishing g h) = absurd lone
  shape_over facts q p n lone k s e h = absurd (true≢false e)

fewer_over : (f : ExprTree → ExprTree) (q p : Plan) (n : Node) (z : Ident)
    → count z (vars_set q) ≤ count z (vars_set p)
    → count z (vars_set (Over q (map_node f n))) ≤ count z (vars_set (Over p n))
fewer_over f q p n z h =
    subst (λ (xs : List Ident). count z (xs ++ vars_set q) ≤ count z (set_once n ++ vars_set p))
    (sym (set_once_kept f n))
    (omega (arith, h, count_append z (set_once n) (vars_set q), count_append z (set_once n) (vars_set p)))

-- a node that sets only variables that keep their names, as those of the start row do
module _ (f : ExprTree → ExprTree) (g : Ident → Ident) (plain : (e : ExprTree) → IsPlain e → IsPlain (f e))
    (turns : Turns f g) (result : IsKept g (Num 0)) where
  pub place_over : (facts : Facts) (outer : List Ident) (us : Uses) (q p : Plan) (n : Node)
      → IsNoFragment n → NodeSets (IsKept g) n → AllByRecursion (IsKept g) outer → FindsAll outer (Over p n)
      → KeepsPlace facts g outer (under n us) q p
      → KeepsPlace facts g outer us (Over q (map_node f n)) (Over p n)
  place_over facts outer us q p n lone clear start found k =
      let m = node_mapped f g result turns us (vars_of outer p) (vars_of outer q) n clear k.vars
      (found.1, found.2, found.3) in record {
        shape = shape_over f plain facts q p n lone k.shape;
        no_fragment = (k.no_fragment, lone_node f n lone);
        found = (k.found, m.0, m.1, m.2);
        vars = rows_over f g result us outer outer p q n clear (handed n) k.vars;
        fewer = λ z. fewer_over f q p n z (k.fewer z);
      }
    where
      handed : (n : Node) → StartStays g us outer outer n
      handed (Collect zs es gs i s) = stays_kept g us outer start
      handed n = tt

-- the whole plan
pub place_well_formed : (facts : Facts) (g : Ident → Ident) (outer : List Ident) (q p : Plan)
    → IsWellFormed facts outer p → KeepsPlace facts g outer result_uses q p → IsWellFormed facts outer q
place_well_formed facts g outer q p well k = (
  well.0,
  k.shape Result refl well.1,
  k.found,
  once_distinct (vars_set q ++ outer) (λ z. fewer z (counted_once (vars_set p ++ outer) well.3 z)),
  fewer_have IsNumber (vars_set q) (vars_set p) k.fewer well.4,
)
  where
    fewer : (z : Ident) → count z (vars_set p ++ outer) ≤ 1 → count z (vars_set q ++ outer) ≤ 1
    fewer z h =
        omega (arith, h, k.fewer z, count_append z (vars_set p) outer, count_append z (vars_set q) outer)

-- ---- a variable y for a variable x that the part sets

-- a variable that is a number from 1 on is not that of a result
pub number_is_no_result : (z : Ident) → IsNumber z → same_ident z (Num 0) ≡ false
number_is_no_result (Num (suc n)) h = eqb-suc-zero n
number_is_no_result z h = absurd h

module _ (x y : Ident) where
  keeps_name : (z : Ident) → same_ident x z ≡ false → IsKept (goes_by x y) z
  keeps_name z h = ap (λ (b : Bool). cond b y z) h

  -- variables that are not x keep their names
  pub all_keep : (zs : List Ident) → count x zs ≤ 0 → AllByRecursion (IsKept (goes_by x y)) zs
  all_keep [] h = tt
  all_keep (z ∷ zs) h = by (same_ident x z) refl h (all_keep zs)
    where
      by : (b : Bool) → same_ident x z ≡ b → cond b (suc (count x zs)) (count x zs) ≤ 0
          → (count x zs ≤ 0 → AllByRecursion (IsKept (goes_by x y)) zs)
          → IsKept (goes_by x y) z × AllByRecursion (IsKept (goes_by x y)) zs
      by true e h f = absurd (omega (arith, h))
      by false e h f = (keeps_name z e, f h)

  -- below one node that does not set x either
  pub renamed_over : (facts : Facts) (outer : List Ident) (us : Uses) (q p : Plan) (n : Node)
      → IsNoFragment n → same_ident x (Num 0) ≡ false → count x (set_once n) ≤ 0 → count x outer ≤ 0
      → FindsAll outer (Over p n) → KeepsPlace facts (goes_by x y) outer (under n us) q p
      → KeepsPlace facts (goes_by x y) outer us (Over q (renamed_node x y n)) (Over p n)
  renamed_over facts outer us q p n lone other set start found k =
      place_over (put x (variable y)) (goes_by x y) (plain_renamed x y) (uses_renamed x y)
      (keeps_name (Num 0) other) facts outer us q p n lone
      (node_sets (IsKept (goes_by x y)) n lone (all_keep (set_once n) set)) (all_keep outer start) found k

  lone_part : (ns : List Node) (p : Plan) → HasNoFragment (raised p ns) → HasNoFragment p
  lone_part [] p h = h
  lone_part (n ∷ ns) p h = (lone_part ns (Over p n) h).0

  found_part : (outer : List Ident) (ns : List Node) (p : Plan) → FindsAll outer (raised p ns)
      → FindsAll outer p
  found_part outer [] p h = h
  found_part outer (n ∷ ns) p h = (found_part outer ns (Over p n) h).0

  set_below : (n : Node) (p : Plan) → count x (vars_set p) ≤ count x (vars_set (Over p n))
  set_below n p = omega (arith, count_append x (set_once n) (vars_set p))

  set_part : (ns : List Node) (p : Plan) → count x (vars_set p) ≤ count x (vars_set (raised p ns))
  set_part [] p = omega arith
  set_part (n ∷ ns) p = omega (arith, set_below n p, set_part ns (Over p n))

  -- below any nodes, where x is set in p and once in all
  pub renamed_raised : (facts : Facts) (outer : List Ident) (us : Uses) (ns : List Node) (q p : Plan)
      → HasNoFragment (raised p ns) → same_ident x (Num 0) ≡ false → 1 ≤ count x (vars_set p)
      → count x (vars_set (raised p ns)) ≤ 1 → count x outer ≤ 0 → FindsAll outer (raised p ns)
      → KeepsPlace facts (goes_by x y) outer (uses_above ns us) q p
      → KeepsPlace facts (goes_by x y) outer us (raised q (map (renamed_node x y) ns)) (raised p ns)
  renamed_raised facts outer us [] q p lone other set once start found k = k
  renamed_raised facts outer us (n ∷ ns) q p lone other set once start found k =
      let both = count_append x (set_once n) (vars_set p) in
      let part = set_part ns (Over p n) in
      renamed_raised facts outer us ns (Over q (renamed_node x y n)) (Over p n) lone other
      (omega (arith, set, both)) once start found
      (renamed_over facts outer (uses_above ns us) q p n (lone_part ns (Over p n) lone).1 other
      (omega (arith, set, once, both, part)) start (found_part outer ns (Over p n) found) k)

  -- a part that sets x gives way to one that keeps its place, and y stands for x in the nodes above
  pub renamed_well_formed : (facts : Facts) (outer : List Ident) (ns : List Node) (q p : Plan)
      → IsWellFormed facts outer (raised p ns) → HasNoFragment (raised p ns)
      → list_any (same_ident x) (vars_set p) ≡ true
      → KeepsPlace facts (goes_by x y) outer (uses_above ns result_uses) q p
      → IsWellFormed facts outer (raised q (map (renamed_node x y) ns))
      × HasNoFragment (raised q (map (renamed_node x y) ns))
  renamed_well_formed facts outer ns q p well lone is_set k =
      let whole = raised p ns in
      let set = counted_in x (vars_set p) is_set in
      let part = set_part ns p in
      let once = counted_once (vars_set whole ++ outer) well.3 x in
      let both = count_append x (vars_set whole) outer in
      let number = counted_has IsNumber x (vars_set whole) (omega (arith, set, part)) well.4 in
      let kept = renamed_raised facts outer result_uses ns q p lone (number_is_no_result x number) set
      (omega (arith, once, both)) (omega (arith, set, part, once, both)) well.2 k in
      (place_well_formed facts (goes_by x y) outer _ whole well kept, kept.no_fragment)
