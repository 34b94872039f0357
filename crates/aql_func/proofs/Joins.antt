-- One more text is joined to others; and a text's characters as texts.
use Rattle.std.proofs.Common.{◌≡◌, ℕ, suc, true≢false, List, [], ◌∷◌, ◌++◌, Bool, true, false, cond, not, map, length, ◌==◌, refl, ap, sym, ◌∙◌, append_assoc, append-nil, arith}
use Rattle.std.specs.Prelude.{encode_utf8, encode_utf8_all, chars}
use Rattle.std.proofs.lemmas.Bool.Decides.{nat_tests}
use Rattle.std.proofs.lemmas.List.{map-append}
use Rattle.std.proofs.lemmas.List.Elements.{filter-append}
use Rattle.aql_value.specs.Datum.{Datum, text}
use Rattle.aql_value.specs.Convert.{to_text}
use Rattle.aql_func.specs.Aggregates.{is_null, without_null}
use Rattle.aql_func.specs.Texts.{join_by, parts_of}
use Rattle.aql_func.specs.inner.Joins.{with_part}

abbrev pub has_some : List (List ℕ) → Bool
has_some [] = false
has_some (s ∷ ss) = true

pub join_push : (separator : List ℕ) (ss : List (List ℕ)) (s : List ℕ)
    → with_part (has_some ss) separator (join_by separator ss) s ≡ join_by separator (ss ++ s ∷ [])
join_push separator [] s = refl
join_push separator (r ∷ []) s = append_assoc r separator s
join_push separator (r ∷ q ∷ rs) s =
    ap (λ l. l ++ s) (append_assoc r (separator ++ join_by separator (q ∷ rs)) separator)
    ∙ append_assoc r ((separator ++ join_by separator (q ∷ rs)) ++ separator) s
    ∙ ap (λ l. r ++ l) (ap (λ l. l ++ s) (append_assoc separator (join_by separator (q ∷ rs)) separator)
    ∙ append_assoc separator (join_by separator (q ∷ rs) ++ separator) s
    ∙ ap (λ l. separator ++ l) (join_push separator (q ∷ rs) s))

pub has_some_push : (ss : List (List ℕ)) (s : List ℕ) → has_some (ss ++ s ∷ []) ≡ true
has_some_push [] s = refl
has_some_push (r ∷ rs) s = refl

-- the texts of what isn't null, with one more value
pub texts_push : (ts : List Datum) (t : Datum) → map to_text (without_null (ts ++ t ∷ []))
    ≡ cond (is_null t) (map to_text (without_null ts)) (map to_text (without_null ts) ++ to_text t ∷ [])
texts_push ts t = ap (map to_text) (filter-append (λ u. not (is_null u)) ts (t ∷ [])) ∙ by (is_null t)
  where
    by : (b : Bool) → map to_text (without_null ts ++ cond (not b) (t ∷ []) [])
        ≡ cond b (map to_text (without_null ts)) (map to_text (without_null ts) ++ to_text t ∷ [])
    by true = ap (map to_text) (append-nil (without_null ts))
    by false = map-append to_text (without_null ts) (t ∷ [])

letters_list : (cs : List ℕ) → map (λ c. text (encode_utf8_all (c ∷ []))) cs
    ≡ map (λ t. text t) (map encode_utf8 cs)
letters_list [] = refl
letters_list (c ∷ cs) = ap (λ s. text s ∷ map (λ c. text (encode_utf8_all (c ∷ []))) cs)
    (append-nil (encode_utf8 c)) ∙ ap (λ l. text (encode_utf8 c) ∷ l) (letters_list cs)

none_short : (n : ℕ) → (suc n == 0) ≡ false
none_short n = grind (arith, nat_tests)

-- an empty separator splits into characters
pub letters_are : (u s : List ℕ) → (length u == 0) ≡ true
    → map (λ c. text (encode_utf8_all (c ∷ []))) (chars s) ≡ map (λ t. text t) (parts_of u s)
letters_are [] s h = letters_list (chars s)
letters_are (c ∷ u) s h = absurd (true≢false (sym h ∙ none_short (length u)))

pub not_true : (b : Bool) → not b ≡ true → b ≡ false
not_true true h = sym h
not_true false h = refl

pub not_false : (b : Bool) → not b ≡ false → b ≡ true
not_false true h = refl
not_false false h = sym h
