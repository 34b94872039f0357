-- What is within the bounds of the program is in those of a read.
use Rattle.std.proofs.Common.{◌≡◌, ◌∙◌, List, [], ◌∷◌, Bool, true, false, cond, ◌&&◌, refl, sym, ap, ap₂}
use Rattle.std.specs.Ordering.{is_eq, ordering_then}
use Rattle.std.specs.List.{filter}
use Rattle.std.specs.declared.cmp.Ordering.{Ordering}
use Rattle.std.specs.declared.cmp.Ordering.TheVariants.{Less, Equal, Greater}
use Rattle.std.proofs.lemmas.List.Elements.{filter_agree}
use Rattle.aql_value.specs.Datum.{Datum}
use Rattle.aql_value.specs.Compare.{compare}
use Rattle.aql_value.specs.Contents.{same}
use Rattle.aql_meaning.specs.Documents.{Last, no_last, between, is_above, is_beneath}
use Rattle.aql_index.specs.Entries.{entries_within}
use Rattle.aql_index.specs.Bounds.{keys_within}
use Rattle.aql_index.specs.inner.Zones.{IsTail, tail_zone, zone, in_zone}
use Rattle.aql_index.specs.Spans.{spanned}
use Rattle.aql_index.specs.declared.bounds.Span.{Span}
use Rattle.aql_index.specs.declared.bounds.Tail.{Tail}
use Rattle.aql_index.specs.declared.bounds.Tail.TheVariants.{Any, Between}
use Rattle.aql_index.specs.declared.entries.Entry.{Entry}

pub both : (o q : Ordering) → is_eq (ordering_then o q) ≡ is_eq o && is_eq q
both Less q = refl
both Equal q = refl
both Greater q = refl

ranged : (above beneath : Bool) → is_eq (cond above (cond beneath Equal Greater) Less) ≡ above && beneath
ranged true true = refl
ranged true false = refl
ranged false beneath = refl

pub within_is : (tail : Tail) (last : Last Datum) → IsTail tail last → (equal keys : List Datum)
    → in_zone (tail_zone tail) equal keys ≡ keys_within equal last keys
within_is tail last h (v ∷ equal) [] = refl
within_is tail last h (v ∷ equal) (key ∷ keys) =
    both (compare key v) (zone (tail_zone tail) equal keys)
    ∙ ap (λ b. same key v && b) (within_is tail last h equal keys)
within_is Any no_last h [] keys = refl
within_is (Between low high) (between l h) e [] [] = refl
within_is (Between low high) (between l h) e [] (key ∷ keys) =
    ranged _ _ ∙ ap₂ (λ x y. is_above x key && is_beneath y key) e.0 e.1
within_is tail last h [] keys = absurd h

pub kept_within : (tail : Tail) (last : Last Datum) → IsTail tail last → (equal : List Datum)
    → (entries : List Entry)
    → filter (λ (e : Entry). in_zone (tail_zone tail) equal e.keys) entries
    ≡ entries_within equal last entries
kept_within tail last h equal entries =
    filter_agree _ _ (λ (e : Entry). within_is tail last h equal e.keys) entries

-- the span of the entries, seen by the index
pub span_in : (tail : Tail) (last : Last Datum) → IsTail tail last → (equal equal' : List Datum)
    → (entries entries' : List Entry) (span : Span) → entries ≡ entries' → equal ≡ equal'
    → spanned entries span
    ≡ filter (λ (e : Entry). in_zone (tail_zone tail) equal e.keys) entries
    → spanned entries' span ≡ entries_within equal' last entries'
span_in tail last t equal equal' entries entries' span e f h =
    sym (ap (λ (es : List Entry). spanned es span) e) ∙ h ∙ kept_within tail last t equal entries
    ∙ ap₂ (λ (q : List Datum) (es : List Entry). entries_within q last es) f e
