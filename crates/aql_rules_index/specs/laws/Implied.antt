-- The bounds that the items of a condition give are met where they hold, and an item that is one of the
-- bounds holds where they are met.
use Rattle.std.proofs.Common.{◌≡◌, ◌∙◌, ℕ, List, [], ◌∷◌, Bool, true, false, true≢false, cond, not, ◌&&◌, Option, Some, None, refl, sym, ap, ap₂, inl, inr}
use Rattle.std.specs.Prelude.{option_map, bytes_eq}
use Rattle.std.specs.List.{AllByRecursion}
use Rattle.std.proofs.lemmas.Bool.{and_parts}
use Rattle.std.proofs.lemmas.Slice.Eq.{bytes_eq-Decides}
use Rattle.aql_value.specs.Datum.{Datum}
use Rattle.aql_value.specs.Contents.{at_name, same, is_below, is_in, elements}
use Rattle.aql_value.specs.Truth.{truth}
use Rattle.aql_value.specs.declared.operators.BinOp.{BinOp}
use Rattle.aql_value.specs.declared.operators.BinOp.TheVariants.{Eq, Lt, Le, Gt, Ge, IsIn}
use Rattle.aql_func.specs.Operators.{binary}
use Rattle.aql_tree.specs.Tree.{ExprTree, ExprTrees, no_exprs, expr_then}
use Rattle.aql_meaning.specs.AtRows.{value_of, keys_of}
use Rattle.aql_meaning.specs.Documents.{End, Last, no_last, one_of, between, end_map, last_map, is_above, is_beneath, in_last, in_bounds}
use Rattle.aql_meaning.specs.Row.{Row}
use Rattle.aql_plan.specs.declared.facts.IndexKind.{IndexKind}
use Rattle.aql_plan.specs.declared.facts.IndexKind.TheVariants as kind
use Rattle.aql_rules_index.specs.Choice.{Item, is_eq_op, is_in_op, is_low_op, is_high_op, is_inclusive, first_on, end_of_item, range_between, one_or, last_on, bounds_then, no_bounds, sorted_bounds, lookup_bounds, bounds_for}
use Rattle.aql_rules_index.specs.RemoveFilterCoveredByIndex.{IsLow, IsHigh, IsLast, IsCovered}
use Rattle.aql_rules_index.specs.Tests.{says}
use Rattle.aql_rules_index.specs.laws.Items.{some_same}

module _ (row : Row) (d : Datum) where
  abbrev pub Says : Item → Type 0
  Says i = says i row d ≡ true

  abbrev bound_at : Last ExprTree → Last Datum
  bound_at last = last_map (λ e. value_of e row) last

  -- ---- what the items say is in the bounds (use-indexes)

  -- the first item on an attribute passes the test, is on it, and holds
  found : (test : BinOp → Bool) (name : List ℕ) (is : List Item) (i : Item) → AllByRecursion Says is
      → first_on test name is ≡ Some i → (i.name ≡ name) × (test i.op ≡ true) × Says i
  found test name [] i all h = absurd (cc)
  found test name (j ∷ js) i all h =
      by (bytes_eq j.name name) (test j.op) refl refl (found test name js i all.1) h
    where
      by : (a b : Bool) → bytes_eq j.name name ≡ a → test j.op ≡ b
          → (first_on test name js ≡ Some i → (i.name ≡ name) × (test i.op ≡ true) × Says i)
          → cond (a && b) (Some j) (first_on test name js) ≡ Some i
          → (i.name ≡ name) × (test i.op ≡ true) × Says i
      by true true e f ih g =
          let same_item = some_same j i g in (
            ap (λ (k : Item). k.name) (sym same_item) ∙ (bytes_eq-Decides j.name name).0 e,
            ap (λ (k : Item). test k.op) (sym same_item) ∙ f,
            ap (λ (k : Item). says k row d) (sym same_item) ∙ all.0,
          )
      by true false e f ih g = ih g
      by false b e f ih g = ih g

  eq_meets : (op : BinOp) (u v : Datum) → is_eq_op op ≡ true → truth (binary op u v) ≡ true
      → same u v ≡ true
  eq_meets Eq u v k h = h
  eq_meets op u v k h = absurd (true≢false (sym k))

  in_meets : (op : BinOp) (u v : Datum) → is_in_op op ≡ true → truth (binary op u v) ≡ true
      → is_in (elements v) u ≡ true
  in_meets IsIn u v k h = h
  in_meets op u v k h = absurd (true≢false (sym k))

  low_meets : (op : BinOp) (u v : Datum) → is_low_op op ≡ true → truth (binary op u v) ≡ true
      → is_above (Some (record { limit = v; inclusive = is_inclusive op })) u ≡ true
  low_meets Gt u v k h = h
  low_meets Ge u v k h = h
  low_meets op u v k h = absurd (true≢false (sym k))

  high_meets : (op : BinOp) (u v : Datum) → is_high_op op ≡ true → truth (binary op u v) ≡ true
      → is_beneath (Some (record { limit = v; inclusive = is_inclusive op })) u ≡ true
  high_meets Lt u v k h = h
  high_meets Le u v k h = h
  high_meets op u v k h = absurd (true≢false (sym k))

  both_true : (a b : Bool) → a ≡ true → b ≡ true → a && b ≡ true
  both_true a b e f = ap₂ (λ x y. x && y) e f

  last_in : (name : List ℕ) (names : List (List ℕ)) (last : Last Datum)
      → in_last last (at_name d name) ≡ true → in_bounds (name ∷ names) [] last d ≡ true
  last_in name names no_last h = refl
  last_in name names (one_of list) h = h
  last_in name names (between low high) h = h

  on_name : (i : Item) (name : List ℕ) → i.name ≡ name → Says i
      → truth (binary i.op (at_name d name) (value_of i.other row)) ≡ true
  on_name i name e h =
      ap (λ n. truth (binary i.op (at_name d n) (value_of i.other row))) (sym e) ∙ h

  low_met : (name : List ℕ) (is : List Item) → AllByRecursion Says is → (o : Option Item)
      → first_on is_low_op name is ≡ o
      → is_above (option_map (end_map (λ e. value_of e row)) (option_map end_of_item o)) (at_name d name)
      ≡ true
  low_met name is all None e = refl
  low_met name is all (Some i) e =
      let k = found is_low_op name is i all e in
      low_meets i.op (at_name d name) (value_of i.other row) k.1 (on_name i name k.0 k.2)

  high_met : (name : List ℕ) (is : List Item) → AllByRecursion Says is → (o : Option Item)
      → first_on is_high_op name is ≡ o
      → is_beneath (option_map (end_map (λ e. value_of e row)) (option_map end_of_item o)) (at_name d name)
      ≡ true
  high_met name is all None e = refl
  high_met name is all (Some i) e =
      let k = found is_high_op name is i all e in
      high_meets i.op (at_name d name) (value_of i.other row) k.1 (on_name i name k.0 k.2)

  range_met : (low high : Option (End ExprTree)) (u : Datum)
      → is_above (option_map (end_map (λ e. value_of e row)) low) u ≡ true
      → is_beneath (option_map (end_map (λ e. value_of e row)) high) u ≡ true
      → in_last (bound_at (range_between low high)) u ≡ true
  range_met None None u e f = refl
  range_met None (Some high) u e f = both_true _ _ e f
  range_met (Some low) None u e f = both_true _ _ e f
  range_met (Some low) (Some high) u e f = both_true _ _ e f

  last_met : (name : List ℕ) (is : List Item) → AllByRecursion Says is
      → in_last (bound_at (last_on name is)) (at_name d name) ≡ true
  last_met name is all = by (first_on is_in_op name is) refl
    where
      by : (o : Option Item) → first_on is_in_op name is ≡ o
          → in_last (bound_at (one_or o (range_between
          (option_map end_of_item (first_on is_low_op name is))
          (option_map end_of_item (first_on is_high_op name is))))) (at_name d name) ≡ true
      by None e = range_met (option_map end_of_item (first_on is_low_op name is))
          (option_map end_of_item (first_on is_high_op name is)) (at_name d name)
          (low_met name is all (first_on is_low_op name is) refl)
          (high_met name is all (first_on is_high_op name is) refl)
      by (Some i) e =
          let k = found is_in_op name is i all e in
          in_meets i.op (at_name d name) (value_of i.other row) k.1 (on_name i name k.0 k.2)

  pub sorted_met : (names : List (List ℕ)) (is : List Item) → AllByRecursion Says is
      → in_bounds names (keys_of (sorted_bounds names is).equal row)
      (bound_at (sorted_bounds names is).last) d ≡ true
  sorted_met [] is all = refl
  sorted_met (name ∷ names) is all = by (first_on is_eq_op name is) refl (sorted_met names is all)
    where
      by : (o : Option Item) → first_on is_eq_op name is ≡ o
          → in_bounds names (keys_of (sorted_bounds names is).equal row)
          (bound_at (sorted_bounds names is).last) d ≡ true
          → in_bounds (name ∷ names)
          (keys_of (bounds_then o (last_on name is) (sorted_bounds names is)).equal row)
          (bound_at (bounds_then o (last_on name is) (sorted_bounds names is)).last) d ≡ true
      by None e ih = last_in name names (bound_at (last_on name is)) (last_met name is all)
      by (Some i) e ih =
          let k = found is_eq_op name is i all e in
          both_true (same (at_name d name) (value_of i.other row))
          (in_bounds names (keys_of (sorted_bounds names is).equal row)
          (bound_at (sorted_bounds names is).last) d)
          (eq_meets i.op (at_name d name) (value_of i.other row) k.1 (on_name i name k.0 k.2))
          ih

  pub lookup_met : (names : List (List ℕ)) (is : List Item) → AllByRecursion Says is
      → in_bounds names (keys_of (lookup_bounds names is).equal row)
      (bound_at (lookup_bounds names is).last) d ≡ true
  lookup_met [] is all = refl
  lookup_met (name ∷ names) is all = by (first_on is_eq_op name is) refl
    where
      last_by : (o : Option Item) → first_on is_in_op name is ≡ o
          → in_last (bound_at (one_or o no_last)) (at_name d name) ≡ true
      last_by None e = refl
      last_by (Some i) e =
          let k = found is_in_op name is i all e in
          in_meets i.op (at_name d name) (value_of i.other row) k.1 (on_name i name k.0 k.2)

      by : (o : Option Item) → first_on is_eq_op name is ≡ o
          → in_bounds (name ∷ names) (keys_of (bounds_then o (one_or (first_on is_in_op name is) no_last)
          no_bounds).equal row)
          (bound_at (bounds_then o (one_or (first_on is_in_op name is) no_last) no_bounds).last) d ≡ true
      by None e = last_in name names (bound_at (one_or (first_on is_in_op name is) no_last))
          (last_by (first_on is_in_op name is) refl)
      by (Some i) e =
          let k = found is_eq_op name is i all e in
          both_true (same (at_name d name) (value_of i.other row)) true
          (eq_meets i.op (at_name d name) (value_of i.other row) k.1 (on_name i name k.0 k.2)) refl

  pub index_met : (k : IndexKind) (names : List (List ℕ)) (is : List Item) → AllByRecursion Says is
      → in_bounds names (keys_of (bounds_for k names is).equal row) (bound_at (bounds_for k names is).last) d
      ≡ true
  index_met kind.Sorted names is all = sorted_met names is all
  index_met kind.Primary names is all = lookup_met names is all
  index_met kind.Edge names is all = lookup_met names is all

  -- ---- what is in the bounds the items say (remove-filter-covered-by-index)

  in_the_last : (name : List ℕ) (names : List (List ℕ)) (last : Last Datum)
      → in_bounds (name ∷ names) [] last d ≡ true → in_last last (at_name d name) ≡ true
  in_the_last name names no_last h = refl
  in_the_last name names (one_of list) h = h
  in_the_last name names (between low high) h = h

  says_at : (i : Item) (name : List ℕ) (op : BinOp) (e : ExprTree) → i.name ≡ name → i.op ≡ op
      → i.other ≡ e → truth (binary op (at_name d name) (value_of e row)) ≡ true → Says i
  says_at i name op e n o f h =
      ap (λ m. truth (binary i.op (at_name d m) (value_of i.other row))) n
      ∙ ap (λ k. truth (binary k (at_name d name) (value_of i.other row))) o
      ∙ ap (λ t. truth (binary op (at_name d name) (value_of t row))) f ∙ h

  low_says : (low : Option (End ExprTree)) (i : Item) (name : List ℕ) → i.name ≡ name → IsLow low i
      → is_above (option_map (end_map (λ e. value_of e row)) low) (at_name d name) ≡ true → Says i
  low_says None i name n l h = absurd l
  low_says (Some end) i name n (e, inl k) h =
      let u = at_name d name in
      let v = value_of end.limit row in
      says_at i name Ge end.limit n k.1 e
      (ap (λ b. cond b (not (is_below u v)) (is_below v u)) (sym k.0) ∙ h)
  low_says (Some end) i name n (e, inr k) h =
      let u = at_name d name in
      let v = value_of end.limit row in
      says_at i name Gt end.limit n k.1 e
      (ap (λ b. cond b (not (is_below u v)) (is_below v u)) (sym k.0) ∙ h)

  high_says : (high : Option (End ExprTree)) (i : Item) (name : List ℕ) → i.name ≡ name → IsHigh high i
      → is_beneath (option_map (end_map (λ e. value_of e row)) high) (at_name d name) ≡ true → Says i
  high_says None i name n l h = absurd l
  high_says (Some end) i name n (e, inl k) h =
      let u = at_name d name in
      let v = value_of end.limit row in
      says_at i name Le end.limit n k.1 e
      (ap (λ b. cond b (not (is_below v u)) (is_below u v)) (sym k.0) ∙ h)
  high_says (Some end) i name n (e, inr k) h =
      let u = at_name d name in
      let v = value_of end.limit row in
      says_at i name Lt end.limit n k.1 e
      (ap (λ b. cond b (not (is_below v u)) (is_below u v)) (sym k.0) ∙ h)

  last_says : (last : Last ExprTree) (i : Item) (name : List ℕ) → i.name ≡ name → IsLast last i
      → in_last (bound_at last) (at_name d name) ≡ true → Says i
  last_says no_last i name n l h = absurd l
  last_says (one_of e) i name n l h = says_at i name IsIn e n l.1 l.0 h
  last_says (between low high) i name n (inl l) h =
      low_says low i name n l (and_parts _ _ h).0
  last_says (between low high) i name n (inr l) h =
      high_says high i name n l (and_parts _ _ h).1

  pub covered_says : (names : List (List ℕ)) (equal : ExprTrees) (last : Last ExprTree) (i : Item)
      → IsCovered names equal last i → in_bounds names (keys_of equal row) (bound_at last) d ≡ true → Says i
  covered_says [] equal last i covered h = absurd covered
  covered_says (name ∷ names) no_exprs last i covered h =
      last_says last i name covered.0 covered.1 (in_the_last name names (bound_at last) h)
  covered_says (name ∷ names) (expr_then e equal) last i (inl k) h =
      says_at i name Eq e k.0 k.1 k.2
      (and_parts (same (at_name d name) (value_of e row)) _ h).0
  covered_says (name ∷ names) (expr_then e equal) last i (inr k) h =
      covered_says names equal last i k (and_parts (same (at_name d name) (value_of e row)) _ h).1
