-- What was written, call after call.
use Rattle.std.proofs.Common.{◌≡◌, ◌≤◌, ℕ, Bool, List, [], ◌∷◌, ◌++◌, length, drop, Result, Ok, Err, sym, ap, ◌∙◌, append_assoc}
use Rattle.std.proofs.lemmas.List.{drop_all}
use Rattle.aql_value.specs.Datum.{array_of, object_of}
use Rattle.aql_value.specs.View.{datums_in}
use Rattle.aql_value.specs.Fields.{fields_in}
use Rattle.aql_value.specs.Json.{items_text, fields_text}
use Rattle.aql_value.specs.declared.values.Value.{Value}
use Rattle.aql_value.specs.declared.values.Member.{Member}
use Rattle.aql_value.specs.inner.Writes.{Extends, Writes}

pub longer : (a b c : List ℕ) → Extends a b → Extends b c → Extends a c
longer a b c (r, p) (s, q) = (r ++ s, q ∙ ap (λ x. x ++ s) p ∙ append_assoc a r s)

-- a last call that ends the text
pub finish : {T E : Type 0} (r : Result T E) (old mid new bytes text : List ℕ) → Writes r mid new bytes
    → mid ++ bytes ≡ old ++ text → Extends old mid → Writes r old new text
finish (Ok x) old mid new bytes text w e h = (w.0 ∙ e, tt)
finish (Err y) old mid new bytes text w e h = (tt, longer old mid new h w.1)

pub items_end : (vs : List Value) (i : ℕ) (out all : List ℕ) (later : Bool) → length vs ≤ i
    → out ++ items_text later (array_of (datums_in (drop i vs))) ≡ all → out ++ 93 ∷ [] ≡ all
items_end vs i out all later h e =
    ap (λ ws. out ++ items_text later (array_of (datums_in ws))) (sym (drop_all i vs h)) ∙ e

pub members_end : (ms : List Member) (i : ℕ) (out all : List ℕ) (later : Bool) → length ms ≤ i
    → out ++ fields_text later (object_of (fields_in (drop i ms))) ≡ all → out ++ 125 ∷ [] ≡ all
members_end ms i out all later h e =
    ap (λ ws. out ++ fields_text later (object_of (fields_in ws))) (sym (drop_all i ms h)) ∙ e
