-- Arrays inside a list are opened value by value.
use Rattle.std.proofs.Common.{◌≡◌, ℕ, zero, suc, ◌+◌, ◌-◌, ◌<◌, ◌≤◌, List, [], ◌∷◌, ◌++◌, take, refl, sym, ap, ◌∙◌, append_assoc, append-nil, arith}
use Rattle.aql_value.specs.declared.values.Value.{Value}
use Rattle.aql_value.specs.declared.values.Value.TheVariants.{Null, Bool, Num, Text, List as ListOf, Object}
use Rattle.aql_value.specs.Datum.{Datum, array, array_of}
use Rattle.aql_value.specs.View.{datum_of, datums_in}
use Rattle.aql_func.specs.Lists.{flatten, flatten_value}
use Rattle.aql_value.specs.laws.Lists.{datum_list-array_of}

pub flat_each : (d : ℕ) (ts us : List Datum) → flatten d (ts ++ us) ≡ flatten d ts ++ flatten d us
flat_each d [] us = refl
flat_each d (t ∷ ts) us = ap (λ l. flatten_value d t ++ l) (flat_each d ts us)
    ∙ sym (append_assoc (flatten_value d t) (flatten d ts) (flatten d us))

-- an array is opened by one level
pub flat_array : (d : ℕ) (ts : List Datum) → 0 < d → flatten d (array (array_of ts) ∷ []) ≡ flatten (d - 1) ts
flat_array zero ts h = absurd (omega arith)
flat_array (suc d) ts h =
    let e : suc d - 1 ≡ d = omega arith in
    rw e (append-nil _ ∙ ap (flatten d) (datum_list-array_of ts))

pub flat_none : (d : ℕ) (t : Datum) → d ≤ 0 → flatten d (t ∷ []) ≡ t ∷ []
flat_none zero t h = refl
flat_none (suc d) t h = absurd (omega arith)

-- what is no array stays
pub flat_alone : (d : ℕ) (v : Value) → ((x : List Datum) → v ≡ ListOf x → ⊥)
    → flatten d (datum_of v ∷ []) ≡ datum_of v ∷ []
flat_alone zero v h = refl
flat_alone (suc d) Null h = refl
flat_alone (suc d) (Bool b) h = refl
flat_alone (suc d) (Num n) h = refl
flat_alone (suc d) (Text t) h = refl
flat_alone (suc d) (ListOf ts) h = absurd (h ts refl)
flat_alone (suc d) (Object fs) h = refl

pub flat_more : (d : ℕ) (vs : List Value) (i : ℕ) (v : Value) (base out more : List Datum)
    → datums_in (take (i + 1) vs) ≡ datums_in (take i vs) ++ datum_of v ∷ []
    → out ≡ base ++ flatten d (datums_in (take i vs)) → more ≡ out ++ flatten d (datum_of v ∷ [])
    → more ≡ base ++ flatten d (datums_in (take (i + 1) vs))
flat_more d vs i v base out more e f g =
    g ∙ ap (λ l. l ++ flatten d (datum_of v ∷ [])) f ∙ append_assoc base _ _
    ∙ ap (λ l. base ++ l)
    (sym (flat_each d (datums_in (take i vs)) (datum_of v ∷ [])) ∙ ap (flatten d) (sym e))
