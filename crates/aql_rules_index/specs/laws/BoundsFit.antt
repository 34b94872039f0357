-- The bounds that the items of a condition give to an index fit it, and their expressions have what the parts
-- of the condition have.
use Rattle.std.proofs.Common.{◌≡◌, ◌+◌, ◌≤◌, ℕ, suc, List, [], ◌∷◌, length, Bool, true, false, true≢false, cond, not, ◌&&◌, Option, Some, None, refl, sym, subst, arith}
use Rattle.std.specs.Prelude.{option_map, bytes_eq}
use Rattle.std.specs.List.{AllByRecursion, cons_option}
use Rattle.std.proofs.lemmas.Bool.{not-true}
use Rattle.aql_value.specs.declared.operators.BinOp.{BinOp}
use Rattle.aql_tree.specs.declared.syntax.Ident.{Ident}
use Rattle.aql_tree.specs.Tree.{ExprTree, chain, ExprTrees, no_exprs, expr_then, LinkTrees, no_links, link_then}
use Rattle.aql_meaning.specs.Documents.{End, Last, no_last, one_of, between}
use Rattle.aql_meaning.specs.Uses.{uses, is_used}
use Rattle.aql_plan.specs.declared.facts.IndexKind.{IndexKind}
use Rattle.aql_plan.specs.declared.facts.IndexKind.TheVariants as kind
use Rattle.aql_plan.specs.FirstPlan.{right_sides}
use Rattle.aql_plan.specs.Fits.{exprs_in, BoundsFit, LookupFits, KindFits}
use Rattle.aql_rules_index.specs.Choice.{Item, attribute_of, is_bound, mirrored, make_item, where_apart, from_right, from_left, lone_link, item_of, items_of, is_eq_op, is_in_op, is_low_op, is_high_op, first_on, end_of_item, range_between, one_or, last_on, Bounds, bounds_then, no_bounds, sorted_bounds, lookup_bounds, bounds_for, has_bound}
use Rattle.aql_rules_index.specs.laws.Items.{some_same, picked}

-- ---- the other side of an item is a side of its comparison, and does not use the document

module _ (P : ExprTree → Type 0)
    (split : (e : ExprTree) (ls : LinkTrees) → P (chain e ls) → P e × AllByRecursion P (right_sides ls))
    (x : Ident) where
  abbrev pub HasOther : Item → Type 0
  HasOther i = P i.other × (is_used x (uses i.other) ≡ false)

  apart_has : (e : ExprTree) (name : List ℕ) (op : BinOp) (i : Item) → P e
      → where_apart x e (Some (make_item e name op)) ≡ Some i → HasOther i
  apart_has e name op i p h =
      let k = picked (not (is_used x (uses e))) (Some (make_item e name op)) i h in
      subst HasOther (some_same (make_item e name op) i k.1) (p, not-true (is_used x (uses e)) k.0)

  right_has : (a : ExprTree) (turned : Option BinOp) (o : Option (List ℕ)) (i : Item) → P a
      → from_right x a turned o ≡ Some i → HasOther i
  right_has a None o i p h = absurd (cc)
  right_has a (Some op) None i p h = absurd (cc)
  right_has a (Some op) (Some name) i p h = apart_has a name op i p h

  left_has : (op : BinOp) (a b : ExprTree) (o : Option (List ℕ)) (i : Item) → P a → P b
      → from_left x op a b o ≡ Some i → HasOther i
  left_has op a b None i p q h = right_has a (mirrored op) (attribute_of x b) i p h
  left_has op a b (Some name) i p q h =
      let k = picked (is_bound op) (where_apart x b (Some (make_item b name op))) i h in
      apart_has b name op i q k.1

  link_has : (a : ExprTree) (ls : LinkTrees) (i : Item) → P (chain a ls) → lone_link x a ls ≡ Some i
      → HasOther i
  link_has a no_links i p h = absurd (cc)
  link_has a (link_then op b no_links) i p h =
      let k = split a (link_then op b no_links) p in left_has op a b (attribute_of x a) i k.0 k.1.0 h
  link_has a (link_then op b ls) i p h = absurd (cc)

  pub item_has : (e : ExprTree) (i : Item) → P e → item_of x e ≡ Some i → HasOther i
  item_has (chain a ls) i p h = link_has a ls i p h
  item_has e i p h = absurd (cc)

  pub items_have : (es : List ExprTree) → AllByRecursion P es → AllByRecursion HasOther (items_of x es)
  items_have [] h = tt
  items_have (e ∷ es) h = by (item_of x e) refl (items_have es h.1)
    where
      by : (o : Option Item) → item_of x e ≡ o → AllByRecursion HasOther (items_of x es)
          → AllByRecursion HasOther (cons_option o (items_of x es))
      by None f k = k
      by (Some i) f k = (item_has e i h.0 f, k)

-- ---- the expressions of bounds are other sides of items

module _ (Q : ExprTree → Type 0) where
  abbrev pub EachHas : ExprTrees → Type 0
  EachHas no_exprs = Unit {0}
  EachHas (expr_then e es) = Q e × EachHas es

  abbrev pub EndHas : Option (End ExprTree) → Type 0
  EndHas None = Unit {0}
  EndHas (Some e) = Q e.limit

  abbrev pub LastHas : Last ExprTree → Type 0
  LastHas no_last = Unit {0}
  LastHas (one_of e) = Q e
  LastHas (between low high) = EndHas low × EndHas high

  abbrev pub BoundsHave : Bounds → Type 0
  BoundsHave bs = EachHas bs.equal × LastHas bs.last

  abbrev MaybeHas : Option Item → Type 0
  MaybeHas None = Unit {0}
  MaybeHas (Some i) = Q i.other

  first_has : (test : BinOp → Bool) (name : List ℕ) (is : List Item) → AllByRecursion (λ i. Q i.other) is
      → MaybeHas (first_on test name is)
  first_has test name [] h = tt
  first_has test name (i ∷ is) h = by (bytes_eq i.name name && test i.op) (first_has test name is h.1)
    where
      by : (b : Bool) → MaybeHas (first_on test name is) → MaybeHas (cond b (Some i) (first_on test name is))
      by true k = h.0
      by false k = k

  end_has : (o : Option Item) → MaybeHas o → EndHas (option_map end_of_item o)
  end_has None h = tt
  end_has (Some i) h = h

  range_has : (low high : Option (End ExprTree)) → EndHas low → EndHas high
      → LastHas (range_between low high)
  range_has None None h k = tt
  range_has None (Some high) h k = (h, k)
  range_has (Some low) None h k = (h, k)
  range_has (Some low) (Some high) h k = (h, k)

  one_has : (o : Option Item) (last : Last ExprTree) → MaybeHas o → LastHas last → LastHas (one_or o last)
  one_has None last h k = k
  one_has (Some i) last h k = h

  last_has : (name : List ℕ) (is : List Item) → AllByRecursion (λ i. Q i.other) is
      → LastHas (last_on name is)
  last_has name is h =
      let low = first_on is_low_op name is in
      let high = first_on is_high_op name is in
      one_has (first_on is_in_op name is)
      (range_between (option_map end_of_item low) (option_map end_of_item high))
      (first_has is_in_op name is h)
      (range_has (option_map end_of_item low) (option_map end_of_item high)
      (end_has low (first_has is_low_op name is h)) (end_has high (first_has is_high_op name is h)))

  then_has : (o : Option Item) (last : Last ExprTree) (rest : Bounds) → MaybeHas o → LastHas last
      → BoundsHave rest → BoundsHave (bounds_then o last rest)
  then_has None last rest h l r = (tt, l)
  then_has (Some i) last rest h l r = ((h, r.0), r.1)

  sorted_has : (names : List (List ℕ)) (is : List Item) → AllByRecursion (λ i. Q i.other) is
      → BoundsHave (sorted_bounds names is)
  sorted_has [] is h = (tt, tt)
  sorted_has (name ∷ names) is h =
      then_has (first_on is_eq_op name is) (last_on name is) (sorted_bounds names is)
      (first_has is_eq_op name is h) (last_has name is h) (sorted_has names is h)

  lookup_has : (names : List (List ℕ)) (is : List Item) → AllByRecursion (λ i. Q i.other) is
      → BoundsHave (lookup_bounds names is)
  lookup_has [] is h = (tt, tt)
  lookup_has (name ∷ names) is h =
      then_has (first_on is_eq_op name is) (one_or (first_on is_in_op name is) no_last) no_bounds
      (first_has is_eq_op name is h)
      (one_has (first_on is_in_op name is) no_last (first_has is_in_op name is h) tt) (tt, tt)

  pub bounds_have : (k : IndexKind) (names : List (List ℕ)) (is : List Item)
      → AllByRecursion (λ i. Q i.other) is → BoundsHave (bounds_for k names is)
  bounds_have kind.Sorted names is h = sorted_has names is h
  bounds_have kind.Primary names is h = lookup_has names is h
  bounds_have kind.Edge names is h = lookup_has names is h

-- ---- as many as the index has attributes, or fewer

first_fits : (n : ℕ) (last : Last ExprTree) → BoundsFit (suc n) 0 last
first_fits n no_last = omega arith
first_fits n (one_of e) = omega arith
first_fits n (between low high) = omega arith

more_fits : (n equal : ℕ) (last : Last ExprTree) → BoundsFit n equal last → BoundsFit (suc n) (equal + 1) last
more_fits n equal no_last h = omega (arith, h)
more_fits n equal (one_of e) h = omega (arith, h)
more_fits n equal (between low high) h = omega (arith, h)

then_fits : (n : ℕ) (o : Option Item) (last : Last ExprTree) (rest : Bounds)
    → BoundsFit n (exprs_in rest.equal) rest.last
    → BoundsFit (suc n) (exprs_in (bounds_then o last rest).equal) (bounds_then o last rest).last
then_fits n None last rest h = first_fits n last
then_fits n (Some i) last rest h = more_fits n (exprs_in rest.equal) rest.last h

sorted_fits : (names : List (List ℕ)) (is : List Item)
    → BoundsFit (length names) (exprs_in (sorted_bounds names is).equal) (sorted_bounds names is).last
sorted_fits [] is = omega arith
sorted_fits (name ∷ names) is =
    then_fits (length names) (first_on is_eq_op name is) (last_on name is) (sorted_bounds names is)
    (sorted_fits names is)

lookup_fits : (names : List (List ℕ)) (is : List Item)
    → BoundsFit (length names) (exprs_in (lookup_bounds names is).equal) (lookup_bounds names is).last
lookup_fits [] is = omega arith
lookup_fits (name ∷ names) is =
    let free : 0 ≤ length names = omega arith in
    then_fits (length names) (first_on is_eq_op name is) (one_or (first_on is_in_op name is) no_last) no_bounds
    free

pub bounds_fit : (k : IndexKind) (names : List (List ℕ)) (is : List Item)
    → BoundsFit (length names) (exprs_in (bounds_for k names is).equal) (bounds_for k names is).last
bounds_fit kind.Sorted names is = sorted_fits names is
bounds_fit kind.Primary names is = lookup_fits names is
bounds_fit kind.Edge names is = lookup_fits names is

-- ---- a lookup with a bound has one equality, or the elements of an array

one_fits : (o u : Option Item)
    → has_bound (bounds_then o (one_or u no_last) no_bounds).equal
    (bounds_then o (one_or u no_last) no_bounds).last ≡ true
    → LookupFits (exprs_in (bounds_then o (one_or u no_last) no_bounds).equal)
    (bounds_then o (one_or u no_last) no_bounds).last None
one_fits (Some i) u h = refl
one_fits None (Some i) h = refl
one_fits None None h = absurd (true≢false (sym h))

a_lookup_fits : (names : List (List ℕ)) (is : List Item)
    → has_bound (lookup_bounds names is).equal (lookup_bounds names is).last ≡ true
    → LookupFits (exprs_in (lookup_bounds names is).equal) (lookup_bounds names is).last None
a_lookup_fits [] is h = absurd (true≢false (sym h))
a_lookup_fits (name ∷ names) is h = one_fits (first_on is_eq_op name is) (first_on is_in_op name is) h

pub kind_fits : (k : IndexKind) (names : List (List ℕ)) (is : List Item)
    → has_bound (bounds_for k names is).equal (bounds_for k names is).last ≡ true
    → KindFits k (exprs_in (bounds_for k names is).equal) (bounds_for k names is).last None
kind_fits kind.Sorted names is h = tt
kind_fits kind.Primary names is h = a_lookup_fits names is h
kind_fits kind.Edge names is h = a_lookup_fits names is h
