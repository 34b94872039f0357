-- Comparing what is left of two lists.
use Rattle.std.proofs.Common.{◌≡◌, ◌≤◌, ℕ, ◌+◌, List, [], ◌∷◌, length, drop, arith}
use Rattle.std.proofs.lemmas.List.{length-drop, drop_all}
use Rattle.std.proofs.lemmas.Bool.Decides.{nat_tests}
use Rattle.std.specs.declared.cmp.Ordering.{Ordering}
use Rattle.std.specs.Ordering.{nat_cmp}
use Rattle.aql_value.specs.Datum.{array_of, object_of, no_datums, no_fields}
use Rattle.aql_value.specs.Compare.{compare_items, compare_fields}
use Rattle.aql_value.specs.View.{datums_in}
use Rattle.aql_value.specs.Fields.{fields_in}
use Rattle.aql_value.specs.declared.values.Value.{Value}
use Rattle.aql_value.specs.declared.values.Member.{Member}

abbrev pub rest_of_items : List Value → List Value → ℕ → Ordering
rest_of_items xs ys i = compare_items (array_of (datums_in (drop i xs))) (array_of (datums_in (drop i ys)))

abbrev pub rest_of_members : List Member → List Member → ℕ → Ordering
rest_of_members xs ys i =
    compare_fields (object_of (fields_in (drop i xs))) (object_of (fields_in (drop i ys)))

first_ended : (zs : List Value) (m n : ℕ) → n ≡ m + length zs
    → compare_items no_datums (array_of (datums_in zs)) ≡ nat_cmp m n
first_ended [] m n e = grind (arith, nat_tests)
first_ended (z ∷ zs) m n e = grind (arith, nat_tests)

pub items_ended : (xs ys : List Value) (i : ℕ) → length xs ≡ i → i ≤ length ys
    → rest_of_items xs ys i ≡ nat_cmp (length xs) (length ys)
items_ended xs ys i e h =
    let none : length xs ≤ i = omega arith in
    let left : length ys ≡ length xs + length (drop i ys) = omega (arith, length-drop i ys) in
    rw (drop_all i xs none) (first_ended (drop i ys) (length xs) (length ys) left)

first_ended_members : (zs : List Member) (m n : ℕ) → n ≡ m + length zs
    → compare_fields no_fields (object_of (fields_in zs)) ≡ nat_cmp m n
first_ended_members [] m n e = grind (arith, nat_tests)
first_ended_members (z ∷ zs) m n e = grind (arith, nat_tests)

pub members_ended : (xs ys : List Member) (i : ℕ) → length xs ≡ i → i ≤ length ys
    → rest_of_members xs ys i ≡ nat_cmp (length xs) (length ys)
members_ended xs ys i e h =
    let none : length xs ≤ i = omega arith in
    let left : length ys ≡ length xs + length (drop i ys) = omega (arith, length-drop i ys) in
    rw (drop_all i xs none) (first_ended_members (drop i ys) (length xs) (length ys) left)
