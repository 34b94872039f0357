-- A datum, which is a value as the definitions see it: null, a boolean, a whole number, a text (as bytes), an
-- array or an object (AQL fundamentals, Data types). An array has its own list of datums and an object its
-- own list of attributes, and `array_of` and `object_of` make them of plain lists. The rest of the file says
-- how the logic stores a datum, and counts its nodes.
use Rattle.std.specs.Prelude.{◌≡◌, ◌≢◌, ℕ, suc, ◌+◌, ℤ, List, [], ◌∷◌, Bool, refl}
use Rattle.std.proofs.Common.{ap, arith}
use Rattle.std.specs.Coded.{Coded, coded_ℕ, coded_bool, coded_ℤ, coded_list, coded×}
use base.Stored.{Gv, gnil, gnum, gcons}

mutual
  pub data Datum : Type 0 where
    null : Datum
    boolean : Bool → Datum
    number : ℤ → Datum
    text : List ℕ → Datum
    array : Datums → Datum
    object : Fields → Datum

  pub data Datums : Type 0 where
    no_datums : Datums
    datum_then : Datum → Datums → Datums

  pub data Fields : Type 0 where
    no_fields : Fields
    field : List ℕ → Datum → Fields → Fields

abbrev pub array_of : List Datum → Datums
array_of [] = no_datums
array_of (t ∷ ts) = datum_then t (array_of ts)

abbrev pub object_of : List (List ℕ × Datum) → Fields
object_of [] = no_fields
object_of (f ∷ fs) = field f.0 f.1 (object_of fs)

-- how the logic stores a datum
abbrev head : Gv → Gv
head gnil = gnil
head (gnum n) = gnil
head (gcons a b) = a

abbrev tail : Gv → Gv
tail gnil = gnil
tail (gnum n) = gnil
tail (gcons a b) = b

apart : (m n : ℕ) {a b : Gv} → gcons (gnum m) a ≡ gcons (gnum n) b → m ≢ n → ⊥
apart m n p other = other cc

abbrev pub coded_bytes : Coded (List ℕ)
coded_bytes = coded_list coded_ℕ

abbrev mutual
  pub datum_code : Datum → Gv
  datum_code null = gcons (gnum 0) gnil
  datum_code (boolean b) = gcons (gnum 1) (coded_bool.code b)
  datum_code (number z) = gcons (gnum 2) (coded_ℤ.code z)
  datum_code (text s) = gcons (gnum 3) (coded_bytes.code s)
  datum_code (array ts) = gcons (gnum 4) (datums_code ts)
  datum_code (object fs) = gcons (gnum 5) (fields_code fs)

  pub datums_code : Datums → Gv
  datums_code no_datums = gcons (gnum 0) gnil
  datums_code (datum_then t ts) = gcons (gnum 1) (gcons (datum_code t) (datums_code ts))

  pub fields_code : Fields → Gv
  fields_code no_fields = gcons (gnum 0) gnil
  fields_code (field k t fs) =
      gcons (gnum 1) (gcons (coded_bytes.code k) (gcons (datum_code t) (fields_code fs)))

mutual
  pub datum_inj : (x y : Datum) → datum_code x ≡ datum_code y → x ≡ y
  datum_inj null null p = refl
  datum_inj null (boolean b) p = absurd (apart 0 1 p (omega arith))
  datum_inj null (number z) p = absurd (apart 0 2 p (omega arith))
  datum_inj null (text s) p = absurd (apart 0 3 p (omega arith))
  datum_inj null (array ts) p = absurd (apart 0 4 p (omega arith))
  datum_inj null (object fs) p = absurd (apart 0 5 p (omega arith))
  datum_inj (boolean a) null p = absurd (apart 1 0 p (omega arith))
  datum_inj (boolean a) (boolean b) p = λ i. boolean (coded_bool.inj a b (ap (λ g. tail g) p) i)
  datum_inj (boolean a) (number z) p = absurd (apart 1 2 p (omega arith))
  datum_inj (boolean a) (text s) p = absurd (apart 1 3 p (omega arith))
  datum_inj (boolean a) (array ts) p = absurd (apart 1 4 p (omega arith))
  datum_inj (boolean a) (object fs) p = absurd (apart 1 5 p (omega arith))
  datum_inj (number a) null p = absurd (apart 2 0 p (omega arith))
  datum_inj (number a) (boolean b) p = absurd (apart 2 1 p (omega arith))
  datum_inj (number a) (number z) p = λ i. number (coded_ℤ.inj a z (ap (λ g. tail g) p) i)
  datum_inj (number a) (text s) p = absurd (apart 2 3 p (omega arith))
  datum_inj (number a) (array ts) p = absurd (apart 2 4 p (omega arith))
  datum_inj (number a) (object fs) p = absurd (apart 2 5 p (omega arith))
  datum_inj (text a) null p = absurd (apart 3 0 p (omega arith))
  datum_inj (text a) (boolean b) p = absurd (apart 3 1 p (omega arith))
  datum_inj (text a) (number z) p = absurd (apart 3 2 p (omega arith))
  datum_inj (text a) (text s) p = λ i. text (coded_bytes.inj a s (ap (λ g. tail g) p) i)
  datum_inj (text a) (array ts) p = absurd (apart 3 4 p (omega arith))
  datum_inj (text a) (object fs) p = absurd (apart 3 5 p (omega arith))
  datum_inj (array a) null p = absurd (apart 4 0 p (omega arith))
  datum_inj (array a) (boolean b) p = absurd (apart 4 1 p (omega arith))
  datum_inj (array a) (number z) p = absurd (apart 4 2 p (omega arith))
  datum_inj (array a) (text s) p = absurd (apart 4 3 p (omega arith))
  datum_inj (array a) (array ts) p = λ i. array (datums_inj a ts (ap (λ g. tail g) p) i)
  datum_inj (array a) (object fs) p = absurd (apart 4 5 p (omega arith))
  datum_inj (object a) null p = absurd (apart 5 0 p (omega arith))
  datum_inj (object a) (boolean b) p = absurd (apart 5 1 p (omega arith))
  datum_inj (object a) (number z) p = absurd (apart 5 2 p (omega arith))
  datum_inj (object a) (text s) p = absurd (apart 5 3 p (omega arith))
  datum_inj (object a) (array ts) p = absurd (apart 5 4 p (omega arith))
  datum_inj (object a) (object fs) p = λ i. object (fields_inj a fs (ap (λ g. tail g) p) i)

  pub datums_inj : (x y : Datums) → datums_code x ≡ datums_code y → x ≡ y
  datums_inj no_datums no_datums p = refl
  datums_inj no_datums (datum_then t ts) p = absurd (apart 0 1 p (omega arith))
  datums_inj (datum_then t ts) no_datums p = absurd (apart 1 0 p (omega arith))
  datums_inj (datum_then a as') (datum_then b bs) p =
      λ i. datum_then (datum_inj a b (ap (λ g. head (tail g)) p) i)
      (datums_inj as' bs (ap (λ g. tail (tail g)) p) i)

  pub fields_inj : (x y : Fields) → fields_code x ≡ fields_code y → x ≡ y
  fields_inj no_fields no_fields p = refl
  fields_inj no_fields (field k t fs) p = absurd (apart 0 1 p (omega arith))
  fields_inj (field k t fs) no_fields p = absurd (apart 1 0 p (omega arith))
  fields_inj (field k a as') (field l b bs) p =
      λ i. field (coded_bytes.inj k l (ap (λ g. head (tail g)) p) i)
      (datum_inj a b (ap (λ g. head (tail (tail g))) p) i)
      (fields_inj as' bs (ap (λ g. tail (tail (tail g))) p) i)

abbrev pub coded_datum : Coded Datum
coded_datum = record { code = datum_code; inj = datum_inj }

abbrev pub coded_datums : Coded (List Datum)
coded_datums = coded_list coded_datum

abbrev pub coded_fields : Coded (List (List ℕ × Datum))
coded_fields = coded_list (coded× coded_bytes coded_datum)

-- the number of nodes
abbrev mutual
  pub weight : Datum → ℕ
  weight null = 0
  weight (boolean b) = 0
  weight (number z) = 0
  weight (text s) = 0
  weight (array ts) = suc (datums_weight ts)
  weight (object fs) = suc (fields_weight fs)

  pub datums_weight : Datums → ℕ
  datums_weight no_datums = 0
  datums_weight (datum_then t ts) = suc (weight t + datums_weight ts)

  pub fields_weight : Fields → ℕ
  fields_weight no_fields = 0
  fields_weight (field k t fs) = suc (weight t + fields_weight fs)
