-- Comparing what is left of two lists of values.
use Rattle.std.proofs.Common.{◌≡◌, ◌≤◌, ℕ, ◌+◌, List, [], ◌∷◌, length, drop, arith}
use Rattle.std.proofs.lemmas.List.{length-drop, drop_all}
use Rattle.std.proofs.lemmas.Bool.Decides.{nat_tests}
use Rattle.std.specs.Ordering.{nat_cmp}
use Rattle.aql_value.specs.Datum.{array_of, no_datums}
use Rattle.aql_value.specs.Compare.{compare, compare_items}
use Rattle.aql_value.specs.Contents.{list}
use Rattle.aql_value.specs.View.{datums_in}
use Rattle.aql_value.specs.declared.values.Value.{Value}

first_ended : (zs : List Value) (m n : ℕ) → n ≡ m + length zs
    → compare_items no_datums (array_of (datums_in zs)) ≡ nat_cmp m n
first_ended [] m n e = grind (arith, nat_tests)
first_ended (z ∷ zs) m n e = grind (arith, nat_tests)

pub both_ended : (xs ys : List Value) (i : ℕ) → length xs ≡ i → i ≤ length ys
    → compare (list (datums_in (drop i xs))) (list (datums_in (drop i ys))) ≡ nat_cmp (length xs) (length ys)
both_ended xs ys i e h =
    let none : length xs ≤ i = omega arith in
    let left : length ys ≡ length xs + length (drop i ys) = omega (arith, length-drop i ys) in
    rw (drop_all i xs none) (first_ended (drop i ys) (length xs) (length ys) left)
