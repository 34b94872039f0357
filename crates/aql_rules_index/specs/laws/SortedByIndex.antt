-- What a node gives of one row in the order of an index is sorted by its attributes, also after Filter and
-- Calculation nodes, so the rule use-index-for-sort refines.
use Rattle.std.proofs.Common.{◌≡◌, ◌∙◌, ◌+◌, ◌≤◌, ℕ, suc, List, [], ◌∷◌, ◌++◌, map, length, drop, Bool, true, false, true≢false, cond, ◌⊎◌, inl, inr, Option, Some, None, refl, sym, ap, ap₂, subst, arith}
use Rattle.std.specs.Prelude.{filter, unwrap_or, IsPermutation}
use Rattle.std.specs.Ordering.{is_lt, is_eq, ordering_then}
use Rattle.std.specs.declared.cmp.Ordering.{Ordering}
use Rattle.std.specs.declared.cmp.Ordering.TheVariants.{Less, Equal, Greater}
use Rattle.std.specs.List.{AllByRecursion}
use Rattle.std.proofs.lemmas.Bool.{and_parts}
use Rattle.std.proofs.lemmas.Cmp.{eq_by_cmp_equiv}
use Rattle.std.proofs.lemmas.List.{append-nil}
use Rattle.std.proofs.lemmas.List.Elements.{All-from_recursion, recursion_from_All}
use Rattle.std.proofs.lemmas.List.Sorted.{All-permutation}
use Rattle.aql_value.specs.Datum.{Datum, null}
use Rattle.aql_value.specs.Contents.{at_name, same}
use Rattle.aql_value.specs.Database.{Database}
use Rattle.aql_value.specs.laws.Strict.{compare_total}
use Rattle.aql_tree.specs.declared.syntax.Ident.{Ident}
use Rattle.aql_tree.specs.Tree.{ExprTree, ExprTrees, no_exprs, expr_then}
use Rattle.aql_meaning.specs.AtRows.{value_of, values_of, keys_of, passes, row_before}
use Rattle.aql_meaning.specs.Clauses.{key_cmp, keys_cmp, with_values}
use Rattle.aql_meaning.specs.Documents.{Last, no_last, last_map, in_bounds, index_keys, InIndexOrder, documents_kept, projection}
use Rattle.aql_meaning.specs.Numbered.{IsNumber}
use Rattle.aql_meaning.specs.Row.{Row, bind, same_ident}
use Rattle.aql_meaning.specs.Uses.{Uses}
use Rattle.aql_meaning.specs.laws.Idents.{same_swapped}
use Rattle.aql_meaning.specs.laws.SomeOrder.{keyed_order}
use Rattle.aql_plan.specs.declared.facts.Facts.{Facts}
use Rattle.aql_plan.specs.Facts.{attributes_in}
use Rattle.aql_plan.specs.Fits.{exprs_in, attribute_keys}
use Rattle.aql_plan.specs.Plan.{Reading, Plan, Over, Node, EnumerateCollection, Index, Calculation, Filter}
use Rattle.aql_plan.specs.Refines.{dataset}
use Rattle.aql_plan.specs.Runs.{Dataset, Outside, Runs, Gives, read}
use Rattle.aql_plan.specs.Variables.{vars_set, set_once, count}
use Rattle.aql_plan_laws.specs.laws.Agreement.{rows_agree}
use Rattle.aql_plan_laws.specs.laws.Among.{count_append, counted_has}
use Rattle.aql_plan_laws.specs.laws.RenamedPlaces.{number_is_no_result}
use Rattle.aql_rewrite.specs.declared.swap.Rename.{Rename}
use Rattle.aql_rewrite.specs.Placed.{Placed}
use Rattle.aql_rewrite.specs.Swaps.{Replaced}
use Rattle.aql_rewrite.specs.laws.Apart.{counts_itself}
use Rattle.aql_index.specs.laws.Filters.{all_filter}
use Rattle.aql_index.specs.laws.Passing.{InPairs, in_pairs, pairs_filter}
use Rattle.aql_rules_filter.specs.laws.Filtered.{holds, filtered, all_pass}
use Rattle.aql_rules_order.specs.laws.SubqueriesInlined.{single_row}
use Rattle.aql_rules_index.specs.Tests.{in_index}
use Rattle.aql_rules_index.specs.UseIndexForSort.{directions_of, AreFirst, leaves_order, Orders, enumeration, by_index, below, SortsByIndex, sorted}
use Rattle.aql_rules_index.specs.laws.Ordered.{pairs_weaken, pairs_map, keys_are, first_keys, sorts_itself, sorted_by_index}
use Rattle.aql_rules_index.specs.laws.Rows.{filtered_inside}

-- ---- documents that are equal in the first attributes

equal_is : (o : Ordering) → is_eq o ≡ true → o ≡ Equal
equal_is Less h = absurd (true≢false (sym h))
equal_is Equal h = refl
equal_is Greater h = absurd (true≢false (sym h))

both_same : (u v k : Datum) → same u k ≡ true → same v k ≡ true → same u v ≡ true
both_same u v k h g = sym ((eq_by_cmp_equiv compare_total).congr k u v
    ((eq_by_cmp_equiv compare_total).symm k u ∙ h)) ∙ (eq_by_cmp_equiv compare_total).symm k v ∙ g

equal_keys : (descending : Bool) (u v k : Datum) → same u k ≡ true → same v k ≡ true
    → key_cmp descending u v ≡ Equal
equal_keys false u v k h g = equal_is _ (both_same u v k h g)
equal_keys true u v k h g = equal_is _ (both_same v u k g h)

abbrev order_by : Bool → List (List ℕ) → Datum → Datum → Ordering
order_by descending names a b =
    keys_cmp (directions_of descending names) (index_keys names a) (index_keys names b)

module _ (descending : Bool) (row : Row) (last : Last Datum) (a b : Datum) where
  behind : (names : List (List ℕ)) (equal : ExprTrees) → in_bounds names (keys_of equal row) last a ≡ true
      → in_bounds names (keys_of equal row) last b ≡ true
      → order_by descending names a b ≡ order_by descending (drop (exprs_in equal) names) a b
  behind names no_exprs h k = refl
  behind [] (expr_then e es) h k = absurd (true≢false (sym h))
  behind (name ∷ names) (expr_then e es) h k =
      let v = value_of e row in
      let p = and_parts (same (at_name a name) v) (in_bounds names (keys_of es row) last a) h in
      let q = and_parts (same (at_name b name) v) (in_bounds names (keys_of es row) last b) k in
      let one_more : suc (exprs_in es) ≡ exprs_in es + 1 = omega arith in
      subst (λ (n : ℕ).
      order_by descending (name ∷ names) a b ≡ order_by descending (drop n (name ∷ names)) a b) one_more
      (ap (λ o. ordering_then o (order_by descending names a b))
      (equal_keys descending (at_name a name) (at_name b name) (value_of e row) p.0 q.0)
      ∙ behind names es p.1 q.1)

-- ---- pairs of some elements

module _ {X : Type 0} (Q : X → Type 0) (lt less : X → X → Bool)
    (f : (a b : X) → Q a → Q b → lt a b ≡ false → less a b ≡ false) where
  each_on : (x : X) → Q x → (xs : List X) → AllByRecursion Q xs → AllByRecursion (λ w. lt w x ≡ false) xs
      → AllByRecursion (λ w. less w x ≡ false) xs
  each_on x q [] h k = tt
  each_on x q (w ∷ ws) h k = (f w x h.0 q k.0, each_on x q ws h.1 k.1)

  pairs_on : (xs : List X) → AllByRecursion Q xs → InPairs lt xs → InPairs less xs
  pairs_on [] h k = tt
  pairs_on (x ∷ xs) h k = (each_on x h.0 xs h.1 k.0, pairs_on xs h.1 k.1)

-- ---- one row

module _ (w : Dataset) (x : Reading) (index : ℕ) (equal : ExprTrees) (last : Last ExprTree)
    (descending : Bool) (names : List (List ℕ)) (row : Row) where
  abbrev IsInBounds : Datum → Type 0
  IsInBounds d = in_index w x index equal last row d ≡ true

  -- of documents in the bounds those that do not fall by the index do not by the names
  abbrev Follows : Type 0
  Follows = (a b : Datum) → in_index w x index equal last row a ≡ true
      → in_index w x index equal last row b ≡ true
      → is_lt (order_by descending (attributes_in w.facts x.coll index) a b) ≡ false
      → is_lt (order_by descending names a b) ≡ false

  follows : AreFirst names (attributes_in w.facts x.coll index)
      ⊎ AreFirst names (drop (exprs_in equal) (attributes_in w.facts x.coll index))
      → (a b : Datum) → in_index w x index equal last row a ≡ true
      → in_index w x index equal last row b ≡ true
      → is_lt (order_by descending (attributes_in w.facts x.coll index) a b) ≡ false
      → is_lt (order_by descending names a b) ≡ false
  follows (inl h) a b l m g =
      subst (λ (ns : List (List ℕ)). is_lt (order_by descending ns a b) ≡ false) (sym h.2)
      (first_keys descending (length names) (attributes_in w.facts x.coll index) a b g)
  follows (inr h) a b l m g =
      let all = attributes_in w.facts x.coll index in
      subst (λ (ns : List (List ℕ)). is_lt (order_by descending ns a b) ≡ false) (sym h.2)
      (first_keys descending (length names) (drop (exprs_in equal) all) a b
      (sym (ap is_lt (behind descending row (last_map (λ e. value_of e row) last) a b all equal l m)) ∙ g))

  kept_in_pairs : Follows → (own : Row → Bool) (ds found : List Datum)
      → InIndexOrder (attributes_in w.facts x.coll index) descending
      (filter (in_index w x index equal last row) ds) found
      → InPairs (row_before (directions_of descending names) (attribute_keys x.var names))
      (map (bind x.var row) (documents_kept x.var own None row found))
  kept_in_pairs f own ds found h =
      let all = attributes_in w.facts x.coll index in
      let before = row_before (directions_of descending names) (attribute_keys x.var names) in
      let by_all = λ (a b : Datum). is_lt (order_by descending all a b) in
      let passing = λ (d : Datum). own (bind x.var row d) in
      let there = recursion_from_All IsInBounds found (All-permutation IsInBounds _ found h.0
      (All-from_recursion IsInBounds _ (filtered_inside x.var (in_index w x index equal last) row ds))) in
      let pairs = pairs_filter by_all passing found
      (in_pairs by_all (keyed_order (directions_of descending all) (index_keys all)) found h.1) in
      pairs_map (bind x.var row) before _
      (pairs_map (projection None) (λ a b. before (bind x.var row a) (bind x.var row b)) _
      (pairs_on IsInBounds by_all (λ a b. before (bind x.var row a) (bind x.var row b))
      (λ a b l m g. ap is_lt (ap₂ (keys_cmp (directions_of descending names)) (keys_are x.var row a names)
      (keys_are x.var row b names)) ∙ f a b l m g) (filter passing found)
      (all_filter IsInBounds passing found there) pairs))

  given_in_pairs : x.attrs ≡ None → Follows → (start : Row) (out : List Row)
      → Gives (Index x index equal last (Some descending)) w Outside start (row ∷ []) out
      → InPairs (row_before (directions_of descending names) (attribute_keys x.var names)) out
  given_in_pairs a f start out ([], each, is) = absurd each
  given_in_pairs a f start out (given ∷ other ∷ lists, each, is) = absurd each.1
  given_in_pairs a f start out (given ∷ [], each, is) =
      let found = each.0.0 in
      let kept = documents_kept x.var (passes x.filter) None row found in
      let given_is = each.0.2 ∙ ap (λ attrs. documents_kept x.var (passes x.filter) attrs row found) a in
      subst (InPairs (row_before (directions_of descending names) (attribute_keys x.var names)))
      (sym (is ∙ ap (λ ds. map (bind x.var row) ds ++ []) given_is ∙ append-nil (map (bind x.var row) kept)))
      (kept_in_pairs f (passes x.filter) (read w x.coll x.shard Outside) found each.0.1)

-- ---- a variable is set once

abbrev SetsOnce : Plan → Type 0
SetsOnce p = (z : Ident) → 1 ≤ count z (vars_set p) → count z (vars_set p) ≤ 1

once_below : (n : Node) (b : Plan) → SetsOnce (Over b n) → SetsOnce b
once_below n b once = λ z h. let e = count_append z (set_once n) (vars_set b) in
    omega (arith, h, e, once z (omega (arith, h, e)))

more_set : (t : Bool) (m : ℕ) → 1 ≤ m → 1 ≤ cond t (suc m) m
more_set true m h = omega (arith, h)
more_set false m h = h

not_that : (t : Bool) (m : ℕ) → 1 ≤ m → cond t (suc m) m ≤ 1 → t ≡ false
not_that true m h k = absurd (omega (arith, h, k))
not_that false m h k = refl

-- ---- the nodes between

keys_still : (x y : Ident) → same_ident y x ≡ false → (names : List (List ℕ)) (row : Row) (v : Datum)
    → keys_of (attribute_keys x names) (bind y row v) ≡ keys_of (attribute_keys x names) row
keys_still x y h [] row v = refl
keys_still x y h (name ∷ names) row v =
    ap₂ (λ u us. u ∷ us) (ap (λ b. at_name (unwrap_or (cond b (Some v) (row x)) null) name) h)
    (keys_still x y h names row v)

set_each : (y : Ident) (e : ExprTree) (rows : List Row)
    → with_values y rows (values_of e rows) ≡ map (λ row. bind y row (value_of e row)) rows
set_each y e [] = refl
set_each y e (row ∷ rows) = ap (λ rs. bind y row (value_of e row) ∷ rs) (set_each y e rows)

module _ (facts : Facts) (db : Database) (descending : Bool) (names : List (List ℕ)) (es : ExprTrees) where
  -- the keys are attributes of a variable that b sets, and what c gives b may give, in their order
  abbrev Sorted : Plan → Plan → Type 0
  Sorted b c = (x : Ident) × (es ≡ attribute_keys x names) × (1 ≤ count x (vars_set b))
      × ((start : Row) (out : List Row) → Runs c (dataset facts db) Outside start out
      → Runs b (dataset facts db) Outside start out
      × InPairs (row_before (directions_of descending names) es) out)

  over : (n : Node) → leaves_order n ≡ true → (b c : Plan) → SetsOnce (Over b n) → Sorted b c
      → Sorted (Over b n) (Over c n)
  over (Filter e) l b c once (x, keys, set, f) = (
    x,
    keys,
    set,
    λ start out g. let k = f start g.0 g.1 in
        let before = row_before (directions_of descending names) es in (
          (g.0, k.0, g.2),
          subst (InPairs before) (sym (g.2 ∙ filtered e g.0)) (pairs_filter before (holds e) g.0 k.1),
        ),
  )
  over (Calculation y e) l b c once (x, keys, set, f) =
      let more = more_set (same_ident x y) (count x (vars_set b)) set in
      let other = same_swapped x y (not_that (same_ident x y) (count x (vars_set b)) set (once x more)) in
      let still = λ (row : Row). ap (λ (ks : ExprTrees). keys_of ks (bind y row (value_of e row))) keys
      ∙ keys_still x y other names row (value_of e row)
      ∙ sym (ap (λ (ks : ExprTrees). keys_of ks row) keys) in
      let before = row_before (directions_of descending names) es in (
        x,
        keys,
        more,
        λ start out g. let k = f start g.0 g.1 in (
          (g.0, k.0, g.2),
          subst (InPairs before) (sym (g.2 ∙ set_each y e g.0))
              (pairs_map (λ row. bind y row (value_of e row)) before g.0
              (pairs_weaken before
              (λ a b. before (bind y a (value_of e a)) (bind y b (value_of e b)))
              (λ a b h. ap is_lt (ap₂ (keys_cmp (directions_of descending names)) (still a) (still b)) ∙ h)
              g.0 k.1)),
        ),
      )
  over n l b c once r = absurd (true≢false (sym l))

  orders_run : (b c : Plan) → Orders facts descending names es b c → SetsOnce b → Sorted b c
  orders_run _ _ (enumeration {b = b} {x = x} {index = index} single a keys first) once = (
    x.var,
    keys,
    counts_itself x.var (vars_set b),
    λ start out g.
        let w = dataset facts db in
        let k = single_row b single w start g.0 g.1 in
        let given = subst (λ (rs : List Row).
        Gives (Index x index no_exprs no_last (Some descending)) w Outside start rs out) k.1 g.2 in
        let any = (sorted_by_index w Outside x index no_exprs no_last descending 0 start k.0 out a given).0 in
        let ds = read w x.coll x.shard Outside in
        let whole = subst (λ (docs : List Datum). IsPermutation
        (map (bind x.var k.0) (documents_kept x.var (passes x.filter) x.attrs k.0 docs) ++ []) out)
        (all_pass (in_index w x index no_exprs no_last k.0) (λ d. refl) ds) any in (
          (
            g.0,
            g.1,
            subst (λ (rs : List Row). Gives (EnumerateCollection x) w Outside start rs out)
                (sym k.1) whole,
          ),
          subst (λ (ks : ExprTrees). InPairs (row_before (directions_of descending names) ks) out) (sym keys)
              (given_in_pairs w x index no_exprs no_last descending names k.0 a
              (follows w x index no_exprs no_last descending names k.0 (inl first.0.1)) start out given),
        ),
  )
  orders_run _ _
      (by_index {b = b} {x = x} {index = index} {equal = equal} {last = last} single a keys kind range first)
      once = (
        x.var,
        keys,
        counts_itself x.var (vars_set b),
        λ start out g.
            let w = dataset facts db in
            let k = single_row b single w start g.0 g.1 in
            let given = subst (λ (rs : List Row).
            Gives (Index x index equal last (Some descending)) w Outside start rs out) k.1 g.2 in (
              (
                g.0,
                g.1,
                subst (λ (rs : List Row). Gives (Index x index equal last None) w Outside start rs out)
                    (sym k.1)
                    (sorted_by_index w Outside x index equal last descending 0 start k.0 out a given).0,
              ),
              subst (λ (ks : ExprTrees). InPairs (row_before (directions_of descending names) ks) out)
                  (sym keys)
                  (given_in_pairs w x index equal last descending names k.0 a
                  (follows w x index equal last descending names k.0 first) start out given),
            ),
      )
  orders_run _ _ (below {b = b} {c = c} {n = n} l o) once =
      over n l b c once (orders_run b c o (once_below n b once))

pub sorts_refine : (facts : Facts) (outer away : List Ident) (us : Uses) (p q : Plan) (r : Option Rename)
    → Placed false false facts outer away us p → SortsByIndex facts us p q r → Replaced false facts us p q r
sorts_refine facts outer away _ _ _ _ placed
    (sorted {us = us} {b = b} {c = c} {descending = descending} {names = names} {es = es} o) =
    λ db meets start out g.
    let once : SetsOnce b = λ z h.
    let free = number_is_no_result z (counted_has IsNumber z (vars_set b) h placed.numbers) in
    let all : count z (vars_set b) + (count z away + count z outer) ≤ 1 = placed.once z free in
    omega (arith, all) in
    let k = (orders_run facts db descending names es b c o once).3 start out g in (
      out,
      (out, k.0, (out, sorts_itself (directions_of descending names) es out k.1, refl)),
      rows_agree us out,
    )
