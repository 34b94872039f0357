-- The sum of one more value, and a value that spoils the sum.
use Rattle.std.proofs.Common.{◌≡◌, ℕ, zero, suc, ◌+◌, ◌<◌, List, [], ◌∷◌, ◌++◌, Bool, true, false, cond, ◌||◌, length, get_or, refl, ap, sym, ◌∙◌, arith}
use Rattle.std.specs.Prelude.{ℤ, pos, neg_ℤ, ◌+ℤ◌, ◌≤ℤ◌, ◌*◌, ◌^◌}
use Rattle.std.proofs.lemmas.Int.{ints}
use Rattle.std.specs.List.{list_any}
use Rattle.std.proofs.lemmas.List.Sums.{fold-append}
use Rattle.aql_value.specs.declared.values.Value.{Value}
use Rattle.aql_value.specs.declared.values.Value.TheVariants.{Null, Bool as Truth, Num, Text, List as ListOf, Object}
use Rattle.aql_value.specs.Datum.{Datum, null}
use Rattle.aql_value.specs.View.{datum_of, datums_in}
use Rattle.aql_value.specs.Convert.{to_number, number_or_null}
use Rattle.aql_func.specs.Aggregates.{is_bad, exact_sum, sum_of, count_of, is_null}

pub sum_push : (ts : List Datum) (t : Datum) → exact_sum (ts ++ t ∷ []) ≡ exact_sum ts +ℤ to_number t
sum_push ts t = fold-append (λ (z : ℤ) (t : Datum). z +ℤ to_number t) (pos 0) ts (t ∷ [])

or_false : (b : Bool) → b || false ≡ b
or_false true = refl
or_false false = refl

pub bad_push : (ts : List Datum) (t : Datum) → list_any is_bad (ts ++ t ∷ []) ≡ list_any is_bad ts || is_bad t
bad_push [] t = or_false (is_bad t)
bad_push (u ∷ us) t = ap (λ b. is_bad u || b) (bad_push us t)
    ∙ grouped (is_bad u) (list_any is_bad us) (is_bad t)
  where
    grouped : (a b c : Bool) → a || (b || c) ≡ (a || b) || c
    grouped true b c = refl
    grouped false b c = refl

pub spoils : (v : Value) → (v ≡ Null → ⊥) → ((n : ℤ) → v ≡ Num n → ⊥) → is_bad (datum_of v) ≡ true
spoils Null h k = absurd (h refl)
spoils (Truth b) h k = refl
spoils (Num n) h k = absurd (k n refl)
spoils (Text t) h k = refl
spoils (ListOf ts) h k = refl
spoils (Object fs) h k = refl

or_true : (b : Bool) → b || true ≡ true
or_true true = refl
or_true false = refl

pub bad_at : (vs : List Value) (i : ℕ) (d : Value) → i < length vs → is_bad (datum_of (get_or vs i d)) ≡ true
    → list_any is_bad (datums_in vs) ≡ true
bad_at [] i d h e = absurd (omega arith)
bad_at (v ∷ vs) zero d h e = ap (λ b. b || list_any is_bad (datums_in vs)) e
bad_at (v ∷ vs) (suc i) d h e = ap (λ b. is_bad (datum_of v) || b) (bad_at vs i d (omega arith) e)
    ∙ or_true (is_bad (datum_of v))

pub spoilt : (ts : List Datum) → list_any is_bad ts ≡ true → null ≡ sum_of ts
spoilt ts h =
    sym (ap (λ b. cond b null (number_or_null (exact_sum ts))) (ap (λ b. is_null (count_of ts) || b) h
    ∙ or_true (is_null (count_of ts))))

-- the sum of k + 1 numbers of 64 bits is within this bound
pub wider : (z n : ℤ) (k : ℕ) → neg_ℤ (pos (2 ^ 63)) ≤ℤ n → n ≤ℤ pos (2 ^ 63) → neg_ℤ (pos (2 ^ 63 * k)) ≤ℤ z
    → z ≤ℤ pos (2 ^ 63 * k)
    → (neg_ℤ (pos (2 ^ 63 * (k + 1))) ≤ℤ (z +ℤ n)) × ((z +ℤ n) ≤ℤ pos (2 ^ 63 * (k + 1)))
wider z n k a b c d = (omega (arith, ints), omega (arith, ints))
