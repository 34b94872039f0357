-- Some of the attributes of an object, in their order.
use Rattle.std.proofs.Common.{◌≡◌, ◌<◌, ◌+◌, ℕ, List, [], ◌∷◌, ◌++◌, Bool, true, false, cond, length, get_or, take, filter, ap, sym, ◌∙◌}
use Rattle.std.proofs.lemmas.List.{take_more, map-append}
use Rattle.std.proofs.lemmas.List.Elements.{filter-append}
use Rattle.aql_value.specs.Datum.{Datum, object_of}
use Rattle.aql_value.specs.View.{datum_of}
use Rattle.aql_value.specs.Fields.{fields_in}
use Rattle.aql_value.specs.WellFormed.{FieldsWellFormed, IsBelowNames}
use Rattle.aql_value.specs.declared.values.Member.{Member}

abbrev Entry : Type 0
Entry = List ℕ × Datum

abbrev pub entry : Member → Entry
entry m = (m.name, datum_of m.value)

below_chosen : (p : Entry → Bool) (k : List ℕ) (fs : List Entry) → IsBelowNames k (object_of fs)
    → IsBelowNames k (object_of (filter p fs))
below_chosen p k [] h = tt
below_chosen p k (f ∷ fs) h = by (p f) (below_chosen p k fs h.1)
  where
    by : (b : Bool) → IsBelowNames k (object_of (filter p fs))
        → IsBelowNames k (object_of (cond b (f ∷ filter p fs) (filter p fs)))
    by true g = (h.0, g)
    by false g = g

-- they are well formed as all are
pub chosen_well : (p : Entry → Bool) (fs : List Entry) → FieldsWellFormed (object_of fs)
    → FieldsWellFormed (object_of (filter p fs))
chosen_well p [] h = tt
chosen_well p (f ∷ fs) h = by (p f) (chosen_well p fs h.2)
  where
    by : (b : Bool) → FieldsWellFormed (object_of (filter p fs))
        → FieldsWellFormed (object_of (cond b (f ∷ filter p fs) (filter p fs)))
    by true g = (below_chosen p f.0 fs h.0, h.1, g, h.3)
    by false g = g

-- one more attribute is looked at
pub one_more : (p : Entry → Bool) (ms : List Member) (i : ℕ) (m : Member) → i < length ms → m ≡ get_or ms i m
    → filter p (fields_in (take (i + 1) ms))
    ≡ filter p (fields_in (take i ms)) ++ cond (p (entry m)) (entry m ∷ []) []
one_more p ms i m l e =
    let more : fields_in (take (i + 1) ms) ≡ fields_in (take i ms) ++ entry m ∷ [] =
    ap fields_in (take_more ms i m l ∙ ap (λ (z : Member). take i ms ++ z ∷ []) (sym e))
    ∙ map-append entry (take i ms) (m ∷ []) in
    ap (filter p) more ∙ filter-append p (fields_in (take i ms)) (entry m ∷ [])
