-- From JSON, member by member.
use Rattle.std.proofs.Common.{◌≡◌, ℕ, List, [], ◌∷◌, ◌++◌, map, Option, Some, None, option_map, String, Global, string_bytes, string_cmp, Less, refl, sym, ap}
use Rattle.std.specs.Prelude.{IsUtf8}
use Rattle.std.specs.List.{AllByRecursion}
use Rattle.std.specs.List.Sorted.{IsStrictlySortedBy}
use Rattle.std.specs.Map.{keys_of}
use Rattle.serde_json.specs.View.{view, items_view, members_view}
use Rattle.serde_json.specs.declared.value.Value.{Value as JsonValue}
use Rattle.aql_value.specs.Datum.{Datum, Datums, no_datums, datum_then, Fields, no_fields, field, array_of, object_of}
use Rattle.aql_value.specs.WellFormed.{WellFormed, FieldsWellFormed, IsBelowNames}
use Rattle.aql_value.specs.View.{datum_of}
use Rattle.aql_value.specs.Fields.{fields_in}
use Rattle.aql_value.specs.declared.values.Member.{Member}
use Rattle.aql_value.specs.FromJson.{from_json, items_from_json, members_from_json}

abbrev pub Entry : Type 0
Entry = String Global × JsonValue

abbrev pub Field : Type 0
Field = List ℕ × Datum

abbrev pub trees_before : List Datum → Datums → Datums
trees_before [] us = us
trees_before (t ∷ ts) us = datum_then t (trees_before ts us)

abbrev pub fields_before : List Field → Fields → Fields
fields_before [] gs = gs
fields_before (f ∷ fs) gs = field f.0 f.1 (fields_before fs gs)

pub trees_last : (ts : List Datum) (t : Datum) (us : Datums)
    → trees_before ts (datum_then t us) ≡ trees_before (ts ++ t ∷ []) us
trees_last [] t us = refl
trees_last (x ∷ ts) t us = ap (datum_then x) (trees_last ts t us)

fields_last : (fs : List Field) (f : Field) (gs : Fields)
    → fields_before fs (field f.0 f.1 gs) ≡ fields_before (fs ++ f ∷ []) gs
fields_last [] f gs = refl
fields_last (x ∷ fs) f gs = ap (field x.0 x.1) (fields_last fs f gs)

pub trees_all : (ts : List Datum) → trees_before ts no_datums ≡ array_of ts
trees_all [] = refl
trees_all (t ∷ ts) = ap (datum_then t) (trees_all ts)

pub fields_all : (fs : List Field) → fields_before fs no_fields ≡ object_of fs
fields_all [] = refl
fields_all (f ∷ fs) = ap (field f.0 f.1) (fields_all fs)

trees_more : (ts : List Datum) (t : Datum) (w : Option Datums)
    → option_map (trees_before ts) (option_map (datum_then t) w) ≡ option_map (trees_before (ts ++ t ∷ [])) w
trees_more ts t None = refl
trees_more ts t (Some us) = ap Some (trees_last ts t us)

fields_more : (fs : List Field) (f : Field) (w : Option Fields)
    → option_map (fields_before fs) (option_map (field f.0 f.1) w)
    ≡ option_map (fields_before (fs ++ f ∷ [])) w
fields_more fs f None = refl
fields_more fs f (Some gs) = ap Some (fields_last fs f gs)

-- one more item has been turned
pub item_turned : (ts : List Datum) (v : JsonValue) (vs : List JsonValue) (t : Datum)
    → from_json (view v) ≡ Some t
    → option_map (trees_before ts) (items_from_json (items_view (v ∷ vs)))
    ≡ option_map (trees_before (ts ++ t ∷ [])) (items_from_json (items_view vs))
item_turned ts v vs t e = rw e (trees_more ts t (items_from_json (items_view vs)))

pub item_not_turned : (ts : List Datum) (v : JsonValue) (vs : List JsonValue) → from_json (view v) ≡ None
    → option_map (trees_before ts) (items_from_json (items_view (v ∷ vs))) ≡ None
item_not_turned ts v vs e = rw e refl

pub member_turned : (fs : List Field) (e : Entry) (es : List Entry) (k : List ℕ) (t : Datum)
    → string_bytes e.0 ≡ k → from_json (view e.1) ≡ Some t
    → option_map (fields_before fs) (members_from_json (members_view (e ∷ es)))
    ≡ option_map (fields_before (fs ++ (k, t) ∷ [])) (members_from_json (members_view es))
member_turned fs e es k t n h = rw (h, n) (fields_more fs (k, t) (members_from_json (members_view es)))

pub member_not_turned : (fs : List Field) (e : Entry) (es : List Entry) → from_json (view e.1) ≡ None
    → option_map (fields_before fs) (members_from_json (members_view (e ∷ es))) ≡ None
member_not_turned fs e es h = rw h refl

-- ---- names

abbrev pub names : List Field → List (List ℕ)
names fs = map (λ f. f.0) fs

abbrev pub keys : List Entry → List (List ℕ)
keys es = map string_bytes (keys_of es)

abbrev pub ValuesWellFormed : List Field → Type 0
ValuesWellFormed [] = Unit {0}
ValuesWellFormed (f ∷ fs) = WellFormed f.1 × ValuesWellFormed fs × IsUtf8 f.0

pub values_more : (fs : List Field) (f : Field) → ValuesWellFormed fs → WellFormed f.1 → IsUtf8 f.0
    → ValuesWellFormed (fs ++ f ∷ [])
values_more [] f h w u = (w, tt, u)
values_more (x ∷ fs) f h w u = (h.0, values_more fs f h.1 w u, h.2)

below_names : (k : String Global) (f : List ℕ) (fs : List Field) (es : List Entry) → f ≡ string_bytes k
    → names fs ≡ keys es → AllByRecursion (λ y. string_cmp k y ≡ Less) (keys_of es)
    → IsBelowNames f (object_of fs)
below_names k f [] es n e h = tt
below_names k f (g ∷ fs) [] n e h = absurd cc
below_names k f (g ∷ fs) (x ∷ es) n e h =
    let first : g.0 ≡ string_bytes x.0 = cc in
    let rest : names fs ≡ keys es = cc in (
      rw (n, first) h.0,
      below_names k f fs es n rest h.1,
    )

pub well_from_keys : (fs : List Field) (es : List Entry) → names fs ≡ keys es
    → IsStrictlySortedBy string_cmp (keys_of es) → ValuesWellFormed fs → FieldsWellFormed (object_of fs)
unfolding IsStrictlySortedBy
well_from_keys [] es e s w = tt
well_from_keys (f ∷ fs) [] e s w = absurd cc
well_from_keys (f ∷ fs) (x ∷ es) e s w =
    let first : f.0 ≡ string_bytes x.0 = cc in
    let rest : names fs ≡ keys es = cc in (
      below_names x.0 f.0 fs es first rest s.0,
      w.0,
      well_from_keys fs es rest s.1 w.1,
      w.2,
    )

pub fields_pushed : (ms : List Member) (m : Member)
    → fields_in (ms ++ m ∷ []) ≡ fields_in ms ++ (m.name, datum_of m.value) ∷ []
fields_pushed [] m = refl
fields_pushed (x ∷ ms) m = ap (λ fs. (x.name, datum_of x.value) ∷ fs) (fields_pushed ms m)

pub names_pushed : (fs : List Field) (k : List ℕ) (t : Datum) (e : Entry) (es : List Entry)
    → string_bytes e.0 ≡ k → names (fs ++ (k, t) ∷ []) ++ keys es ≡ names fs ++ keys (e ∷ es)
names_pushed [] k t e es n = ap (λ x. x ∷ keys es) (sym n)
names_pushed (f ∷ fs) k t e es n = ap (λ xs. f.0 ∷ xs) (names_pushed fs k t e es n)
