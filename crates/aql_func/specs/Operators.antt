-- The operators (AQL fundamentals, Operators). Arithmetic is exact over numbers of 64 bits and null where it
-- has no such number; comparisons follow the order of all values; `&&` and `||` give one of their two sides.
use Rattle.std.specs.Prelude.{ℕ, zero, suc, ℤ, pos, negsuc, ◌+ℤ◌, ◌-ℤ◌, ◌*ℤ◌, neg_ℤ, int_div, int_rem, int_le, unsigned_abs, ◌+◌, List, [], ◌∷◌, cond, not, nat_le}
use Rattle.std.specs.Ordering.{int_eq}
use Rattle.aql_value.specs.Datum.{Datum, null, boolean, number}
use Rattle.aql_value.specs.Contents.{list, elements, same, is_below, is_in}
use Rattle.aql_value.specs.Convert.{number_or_null, to_number}
use Rattle.aql_value.specs.Truth.{truth}
use Rattle.aql_value.specs.declared.operators.BinOp.{BinOp}
use Rattle.aql_value.specs.declared.operators.BinOp.TheVariants.{And, Or, Eq, Ne, Lt, Le, Gt, Ge, IsIn, NotIn, Like, NotLike, Add, Sub, Mul, Div, Rem}
use Rattle.aql_value.specs.declared.operators.UnaryOp.{UnaryOp}
use Rattle.aql_value.specs.declared.operators.UnaryOp.TheVariants as un
use Rattle.aql_func.specs.Like.{is_like}

-- null for a division by zero, and for a quotient that isn't whole
abbrev pub quotient : ℤ → ℤ → Datum
quotient a b =
    cond (int_eq b (pos 0)) null (cond (int_eq (int_rem a b) (pos 0)) (number_or_null (int_div a b)) null)

-- with the dividend's sign; null for a remainder by zero
abbrev pub remainder : ℤ → ℤ → Datum
remainder a b = cond (int_eq b (pos 0)) null (number_or_null (int_rem a b))

-- the value of `a op b`
abbrev pub binary : BinOp → Datum → Datum → Datum
binary And a b = cond (truth a) b a
binary Or a b = cond (truth a) a b
binary Eq a b = boolean (same a b)
binary Ne a b = boolean (not (same a b))
binary Lt a b = boolean (is_below a b)
binary Le a b = boolean (not (is_below b a))
binary Gt a b = boolean (is_below b a)
binary Ge a b = boolean (not (is_below a b))
binary IsIn a b = boolean (is_in (elements b) a)
binary NotIn a b = boolean (not (is_in (elements b) a))
binary Like a b = boolean (is_like a b)
binary NotLike a b = boolean (not (is_like a b))
binary Add a b = number_or_null (to_number a +ℤ to_number b)
binary Sub a b = number_or_null (to_number a -ℤ to_number b)
binary Mul a b = number_or_null (to_number a *ℤ to_number b)
binary Div a b = quotient (to_number a) (to_number b)
binary Rem a b = remainder (to_number a) (to_number b)

-- the value of `op a`
abbrev pub unary : UnaryOp → Datum → Datum
unary un.Plus a = number_or_null (to_number a)
unary un.Minus a = number_or_null (neg_ℤ (to_number a))
unary un.Not a = boolean (not (truth a))

-- n numbers from `start` on, each by `step` more than the one before
abbrev pub numbers : ℤ → ℤ → ℕ → List Datum
numbers step start zero = []
numbers step start (suc n) = number start ∷ numbers step (start +ℤ step) n

-- how many numbers there are from a to b, both of them counted
abbrev pub range_length : ℤ → ℤ → ℕ
range_length a b = unsigned_abs (b -ℤ a) + 1

-- `a..b`, upwards or downwards; null for more than 1000000 elements
abbrev pub range : ℤ → ℤ → Datum
range a b = cond (nat_le (range_length a b) 1000000)
    (list (numbers (cond (int_le a b) (pos 1) (negsuc 0)) a (range_length a b))) null
