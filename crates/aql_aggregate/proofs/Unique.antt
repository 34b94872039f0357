-- The distinct members, with one member more at the end.
use Rattle.std.proofs.Common.{◌≡◌, suc, List, [], ◌∷◌, ◌++◌, length, Bool, true, false, cond, refl, sym, ap, ◌∙◌, HashSet, BuildHasherDefault, FoldHasher}
use Rattle.std.specs.Prelude.{pos}
use Rattle.aql_value.specs.declared.values.Value.{Value}
use Rattle.aql_value.specs.Datum.{Datum}
use Rattle.aql_value.specs.View.{datums_in}
use Rattle.aql_value.specs.Contents.{is_below}
use Rattle.aql_value.specs.Convert.{number_or_null}
use Rattle.aql_func.specs.Lists.{firsts, add, among, sort_values}
use Rattle.aql_func.specs.Aggregates.{Aggregate, count, sum, min, max, sorted_unique, count_distinct, aggregate, count_of}
use Rattle.aql_func.specs.laws.Firsts.{firsts_push}
use Rattle.aql_aggregate.specs.declared.accumulator.Accumulator.TheVariants.{SortedUnique, CountDistinct}
use Rattle.aql_aggregate.specs.States.{Keeps}

one_longer : (t : Datum) (us : List Datum) → length (among t us) ≡ suc (length us)
one_longer t [] = refl
one_longer t (u ∷ us) = by (is_below u t) (one_longer t us)
  where
    by : (b : Bool) → length (among t us) ≡ suc (length us)
        → length (cond b (u ∷ among t us) (t ∷ u ∷ us)) ≡ suc (length (u ∷ us))
    by true h = ap suc h
    by false h = refl

-- as many in order as without
sorted_length : (ts : List Datum) → length (sort_values ts) ≡ length ts
sorted_length [] = refl
sorted_length (t ∷ ts) = one_longer t (sort_values ts) ∙ ap suc (sorted_length ts)

abbrev Values : Type 0
Values = HashSet Value (BuildHasherDefault FoldHasher)

noted : (seen after : Values) (ts : List Datum) (t : Datum)
    → datums_in after.keys ≡ add true (datums_in seen.keys) t
    → datums_in seen.keys ≡ firsts ts → datums_in after.keys ≡ firsts (ts ++ t ∷ [])
noted seen after ts t e h = e ∙ ap (λ ks. add true ks t) h ∙ sym (firsts_push ts t)

pub sorted_more : (seen after : Values) (kind : Aggregate) (ts : List Datum) (t : Datum)
    → datums_in after.keys ≡ add true (datums_in seen.keys) t
    → Keeps (SortedUnique seen) kind ts → Keeps (SortedUnique after) kind (ts ++ t ∷ [])
sorted_more seen after sorted_unique ts t e h = noted seen after ts t e h
sorted_more seen after count ts t e h = absurd h
sorted_more seen after sum ts t e h = absurd h
sorted_more seen after min ts t e h = absurd h
sorted_more seen after max ts t e h = absurd h
sorted_more seen after count_distinct ts t e h = absurd h

pub counted_more : (seen after : Values) (kind : Aggregate) (ts : List Datum) (t : Datum)
    → datums_in after.keys ≡ add true (datums_in seen.keys) t
    → Keeps (CountDistinct seen) kind ts → Keeps (CountDistinct after) kind (ts ++ t ∷ [])
counted_more seen after count_distinct ts t e h = noted seen after ts t e h
counted_more seen after count ts t e h = absurd h
counted_more seen after sum ts t e h = absurd h
counted_more seen after min ts t e h = absurd h
counted_more seen after max ts t e h = absurd h
counted_more seen after sorted_unique ts t e h = absurd h

pub counted : (seen : Values) (kind : Aggregate) (ts : List Datum) (v : Datum)
    → v ≡ count_of (datums_in seen.keys) → Keeps (CountDistinct seen) kind ts → v ≡ aggregate kind ts
counted seen count_distinct ts v e h = e ∙ ap (λ ks. number_or_null (pos (length ks))) h
    ∙ ap (λ n. number_or_null (pos n)) (sym (sorted_length (firsts ts)))
counted seen count ts v e h = absurd h
counted seen sum ts v e h = absurd h
counted seen min ts v e h = absurd h
counted seen max ts v e h = absurd h
counted seen sorted_unique ts v e h = absurd h
