-- A well-formed fragment in an order of keys gives on each shard rows in this order.
use Rattle.std.proofs.Common.{◌≡◌, ◌∙◌, ℕ, List, [], ◌∷◌, map, Bool, true, false, cond, refl, ap, ap₂, sym, subst, ◌⊎◌, inl, inr}
use Rattle.std.specs.Prelude.{filter, Option, Some, None, ◌==◌}
use Rattle.std.specs.Ordering.{is_lt}
use Rattle.aql_value.specs.Datum.{Datum, null}
use Rattle.aql_value.specs.Shards.{shard_of}
use Rattle.aql_tree.specs.declared.syntax.Ident.{Ident}
use Rattle.aql_tree.specs.Tree.{ExprTree, ExprTrees}
use Rattle.aql_meaning.specs.AtRows.{value_of, values_of, keys_of, passes, row_before}
use Rattle.aql_meaning.specs.Clauses.{keys_cmp, with_values, first_rows}
use Rattle.aql_meaning.specs.Documents.{Last, ScannedInOrder}
use Rattle.aql_meaning.specs.Row.{Row, bind}
use Rattle.aql_meaning.specs.Uses.{Uses, all_uses, is_used}
use Rattle.aql_meaning.specs.laws.Agrees.{values_same}
use Rattle.aql_plan.specs.Facts.{attributes_in, shards_in}
use Rattle.aql_plan.specs.Fits.{KeepsOrder, attribute_keys}
use Rattle.aql_plan.specs.Plan.{Reading, Plan, Calculation, Filter}
use Rattle.aql_plan.specs.Runs.{Dataset, Site, Inside, Runs, Feeds, sent_to, read_in_bounds}
use Rattle.aql_plan.specs.Shapes.{Order, unordered, by_keys, Fragment, Shaped, lowest, lowest_in_order, other_reading, passing, sorting, remote, scatter, distribute}
use Rattle.aql_plan.specs.Variables.{are_among, FindsAll, vars_of}
use Rattle.aql_plan.specs.declared.facts.Facts.{Facts}
use Rattle.aql_index.specs.laws.Passing.{InPairs, pairs_filter}
use Rattle.aql_rewrite.specs.laws.Among.{within_back, within_self, among_within}
use Rattle.aql_rewrite.specs.laws.Unused.{agree_unused, unused_from}
use Rattle.aql_rules_filter.specs.laws.Filtered.{holds, filtered}
use Rattle.aql_rules_cluster.specs.laws.FreshVariables.{SetsOnce, once_below, not_below}
use Rattle.aql_rules_cluster.specs.laws.InOrder.{same_order, passed}
use Rattle.aql_rules_cluster.specs.laws.Mapped.{pairs_map}
use Rattle.aql_rules_cluster.specs.laws.Pairs.{pairs_take}
use Rattle.aql_rules_cluster.specs.laws.Projections.{order_kept}
use Rattle.aql_rules_cluster.specs.laws.Scattered.{single_row}
use Rattle.aql_rules_cluster.specs.laws.SortedRows.{sort_gives}
use Rattle.aql_rules_cluster.specs.laws.StayWell.{keys_found}

-- ---- what an order uses

abbrev pub order_uses : Order → Uses
order_uses unordered = []
order_uses (by_keys directions es) = all_uses es

pub one_more : (x : Ident) (us : Uses) (xs : List Ident) → are_among us xs ≡ true
    → are_among us (x ∷ xs) ≡ true
one_more x us xs h = among_within us xs (x ∷ xs) (within_back xs (x ∷ []) xs (within_self xs)) h

-- the keys of a fragment's order are found in its rows
order_found : (facts : Facts) (outer : List Ident) {f : Plan} {o : Order} → Shaped facts f (Fragment o)
    → FindsAll outer f → are_among (order_uses o) (vars_of outer f) ≡ true
order_found facts outer (lowest i g h) found = refl
order_found facts outer (lowest_in_order {b = b} {x = x} {index = index} i g h) found =
    keys_found x.var (attributes_in facts x.coll index) (vars_of outer b)
order_found facts outer (other_reading i g h) found = refl
order_found facts outer (passing {n = Filter e} i g h) found = order_found facts outer h found.0
order_found facts outer (passing {b = b} {n = Calculation x e} {o = o} i g h) found =
    one_more x (order_uses o) (vars_of outer b) (order_found facts outer h found.0)
order_found facts outer (passing {n = n} i g h) found = absurd i
order_found facts outer (sorting g h) found = found.1

-- ---- rows in an order

abbrev pub InOrderOf : Order → List Row → Type 0
InOrderOf unordered rows = Unit {0}
InOrderOf (by_keys directions es) rows = InPairs (row_before directions es) rows

filtered_in_order : (o : Order) (p : Row → Bool) (rows : List Row) → InOrderOf o rows
    → InOrderOf o (filter p rows)
filtered_in_order unordered p rows h = tt
filtered_in_order (by_keys directions es) p rows h = pairs_filter (row_before directions es) p rows h

-- a row with the value of an expression under a variable
abbrev pub extended : Ident → ExprTree → Row → Row
extended x e row = bind x row (value_of e row)

pub extended_rows : (x : Ident) (e : ExprTree) (rows : List Row)
    → with_values x rows (values_of e rows) ≡ map (extended x e) rows
extended_rows x e [] = refl
extended_rows x e (row ∷ rows) = ap (λ (rs : List Row). extended x e row ∷ rs) (extended_rows x e rows)

-- a variable that the keys do not use changes no order
pub same_before : (directions : List Bool) (es : ExprTrees) (x : Ident) (e : ExprTree)
    → is_used x (all_uses es) ≡ false → (a b : Row)
    → row_before directions es a b ≡ row_before directions es (extended x e a) (extended x e b)
same_before directions es x e h a b = ap₂ (λ ks ls. is_lt (keys_cmp directions ks ls))
    (values_same es null a (extended x e a) (agree_unused (all_uses es) x a (value_of e a) h))
    (values_same es null b (extended x e b) (agree_unused (all_uses es) x b (value_of e b) h))

extended_in_order : (o : Order) (x : Ident) (e : ExprTree) → is_used x (order_uses o) ≡ false
    → (rows : List Row) → InOrderOf o rows → InOrderOf o (map (extended x e) rows)
extended_in_order unordered x e u rows h = tt
extended_in_order (by_keys directions es) x e u rows h =
    pairs_map (extended x e) (row_before directions es) (row_before directions es)
    (λ a b. sym (same_before directions es x e u a b)) rows h

firsts_in_order : (lt : Row → Row → Bool) (n : Option ℕ) (rows : List Row) → InPairs lt rows
    → InPairs lt (first_rows n rows)
firsts_in_order lt None rows h = h
firsts_in_order lt (Some n) rows h = pairs_take lt n rows h

-- ---- an ordered Index over no row or one

abbrev OneAtMost : List Row → Type 0
OneAtMost rows = (rows ≡ []) ⊎ ((row : Row) × (rows ≡ row ∷ []))

one_of_those : (p : Row → Bool) (row : Row) (rows : List Row) → rows ≡ filter p (row ∷ []) → OneAtMost rows
one_of_those p row rows e = by (p row) e
  where
    by : (b : Bool) → rows ≡ cond b (row ∷ []) [] → OneAtMost rows
    by true h = inr (row, h)
    by false h = inl h

module _ (w : Dataset) (site : Site) (x : Reading) (index : ℕ) (equal : ExprTrees) (last : Last ExprTree)
    (descending : Bool)
    (keeps : KeepsOrder (attributes_in w.facts x.coll index) x.attrs (Some descending)) where
  abbrev names : List (List ℕ)
  names = attributes_in w.facts x.coll index

  abbrev documents : Row → List Datum
  documents = read_in_bounds w site x index equal last

  abbrev Read : List Row → List Row → Type 0
  Read rows out = ScannedInOrder names descending x.var (passes x.filter) x.attrs documents rows out

  abbrev InIndexOrder : List Row → Type 0
  InIndexOrder rows = InPairs (row_before (map (λ name. descending) names) (attribute_keys x.var names)) rows

  nothing_read : (out : List Row) → Read [] out → out ≡ []
  nothing_read out ([], each, is) = is
  nothing_read out (list ∷ lists, each, is) = absurd each

  index_in_order : (rows out : List Row) → OneAtMost rows → Read rows out → InIndexOrder out
  index_in_order rows out (inl e) g =
      subst InIndexOrder (sym (nothing_read out (subst (λ (rs : List Row). Read rs out) e g))) tt
  index_in_order rows out (inr (row, e)) g =
      let one = passed x.var (passes x.filter) x.attrs names descending keeps row documents out
      (subst (λ (rs : List Row). Read rs out) e g) in
      subst InIndexOrder (sym one.3)
      (pairs_map _ _ _ (same_order x.var (passes x.filter) x.attrs names descending keeps row) one.0 one.2)

-- ---- fragments

module _ (w : Dataset) (start : Row) where
  pub fragment_in_order : (outer : List Ident) {f : Plan} {o : Order} → Shaped w.facts f (Fragment o)
      → FindsAll outer f → SetsOnce outer f → (taken : List Row) → Feeds f w start taken → (s : ℕ)
      (out : List Row) → Runs f w (Inside s (sent_to f w s taken)) start out → InOrderOf o out
  fragment_in_order outer (lowest i h k) found once taken fed s out g = tt
  fragment_in_order outer (other_reading i h k) found once taken fed s out g = tt
  fragment_in_order outer (passing {b = b} {n = Filter e} {o = o} i h k) found once taken fed s out g =
      subst (InOrderOf o) (sym (g.2 ∙ filtered e g.0))
      (filtered_in_order o (holds e) g.0
      (fragment_in_order outer k found.0 (once_below outer b (Filter e) once) taken fed s g.0 g.1))
  fragment_in_order outer (passing {b = b} {n = Calculation x e} {o = o} i h k) found once taken fed s out g =
      let new = not_below w.facts outer b x e (Fragment o) k once in
      subst (InOrderOf o) (sym (g.2 ∙ extended_rows x e g.0))
      (extended_in_order o x e
      (unused_from x (order_uses o) (vars_of outer b) new (order_found w.facts outer k found.0)) g.0
      (fragment_in_order outer k found.0 (once_below outer b (Calculation x e) once) taken fed s g.0 g.1))
  fragment_in_order outer (passing {n = n} i h k) found once taken fed s out g = absurd i
  fragment_in_order outer (sorting {directions = directions} {es = es} {n = n} h k) found once taken fed s out
      g =
      let given = g.2 in
      subst (InPairs (row_before directions es)) (sym given.2)
      (firsts_in_order (row_before directions es) n given.0
      (sort_gives directions es g.0 given.0 given.1).1)
  fragment_in_order outer (lowest_in_order {x = x} {index = index} {equal = equal} {last = last}
      {descending = descending} i h (remote j (scatter k below))) found once taken fed s out g =
      let one = single_row w.facts below w start taken fed in
      index_in_order w (Inside s taken) x index equal last descending
      (order_kept w.facts x index equal last descending h) g.0 out
      (inr (one.0, g.1.2 ∙ g.1.1 ∙ one.1)) g.2
  fragment_in_order outer (lowest_in_order {x = x} {index = index} {equal = equal} {last = last}
      {descending = descending} i h (remote j (distribute {es = es} k below))) found once taken fed s out g =
      let one = single_row w.facts below w start taken fed in
      let test : Row → Bool = λ row. shard_of (shards_in w.facts x.coll) (keys_of es row) == s in
      index_in_order w (Inside s (filter test taken)) x index equal last descending
      (order_kept w.facts x index equal last descending h) g.0 out
      (one_of_those test one.0 g.0 (g.1.2 ∙ g.1.1 ∙ ap (filter test) one.1)) g.2
