-- The documents that are made: each has a key of its own, and each goes into its collection.
use Rattle.std.proofs.Common.{◌≡◌, ◌<◌, ℕ, zero, suc, ◌+◌, List, [], ◌∷◌, ◌++◌, map, true, false, ◌&&◌, ◌||◌, not, Some, None, refl, ap, ◌∙◌, arith, codes, length, nat_eq, nat_lt, nat_le, bytes_eq, length-append}
use Rattle.std.specs.Prelude.{Ok, cond, count_by, slice_index, ◌-◌, Bool}
use Rattle.std.specs.List.{list_all}
use Rattle.std.specs.Fmt.{decimal}
use Rattle.std.proofs.lemmas.Bool.{false_from_ne_true, and_parts}
use Rattle.std.proofs.lemmas.List.Sums.{sum_by-cons, sum_by-append, AllPass-from_list_all}
use Rattle.std.proofs.lemmas.Slice.Eq.{bytes_eq-Decides}
use Rattle.std.proofs.lemmas.Fmt.{decimal_injective}
use Rattle.std.proofs.lemmas.List.{map-append, get_or-append_right}
use Rattle.std.proofs.lemmas.List.Folds.{list_any-append}
use Rattle.aql_value.specs.Datum.{Datum, text}
use Rattle.aql_value.specs.Attributes.{attribute}
use Rattle.aql_value.specs.Contents.{record_of}
use Rattle.aql_value.specs.laws.Lists.{fields_list-object_of}
use Rattle.aql_doc.specs.Held.{Held}
use Rattle.aql_doc.specs.Keys.{is_key, is_key_byte, is_id, is_slash}
use Rattle.aql_doc.specs.KeySet.{key_of, has_key}
use Rattle.aql_doc.specs.Documents.{fill, has_ends, with_document}
use Rattle.aql_options.specs.Generated.{up_to}
use Rattle.aql_top.proofs.made.Texts.{PassesDigits, digits_pass, digits_few, digits_some}
use Rattle.aql_top.proofs.made.Json.{edge_fields, user_id, known}

-- ---- one document more

pub with_new : (h : Held) (total : ℕ) (key : List ℕ) (fields : List (List ℕ × Datum))
    → attribute (codes "_key") fields ≡ Some (text key) → attribute (codes "_id") fields ≡ None
    → is_key key ≡ true → (h.info.edge && not (has_ends fields)) ≡ false
    → has_key h.documents key ≡ false → total < 200000
    → with_document h total (record_of fields)
    ≡ Ok (record h { documents = h.documents ++ fill h.info.name key fields ∷ [] })
with_new h total key fields there none fits ends new few =
    let room : nat_lt total 200000 ≡ true = grind (arith, few) in
    rw (fields_list-object_of fields, there, none, fits, ends, new, room) refl

-- ---- keys

key_digits : PassesDigits is_key_byte
unfolding is_key_byte
key_digits b low high =
    let letter : nat_le 97 b ≡ false = grind arith in
    let capital : nat_le 65 b ≡ false = grind arith in
    let least : nat_le 48 b ≡ true = grind arith in
    let most : nat_le b 57 ≡ true = grind arith in rw (letter, capital, least, most) refl

pub letter_key : (letter i : ℕ) → is_key_byte letter ≡ true → i < 1000000 → is_key (letter ∷ decimal i) ≡ true
letter_key letter i fits few =
    let all : list_all is_key_byte (decimal i) ≡ true = digits_pass is_key_byte key_digits i few in
    let short : nat_lt (length (letter ∷ decimal i)) 255 ≡ true = grind (arith, digits_few i few) in
    let some : nat_lt 0 (length (letter ∷ decimal i)) ≡ true = grind arith in rw (some, short, fits, all) refl

pub numbers_apart : (i j : ℕ) → i < j → j < 1000000 → bytes_eq (decimal j) (decimal i) ≡ false
numbers_apart i j below few =
    let same = decimal_injective j i (omega arith) (omega arith) in
    false_from_ne_true _ (λ e. omega (arith, same ((bytes_eq-Decides _ _).0 e)))

-- ---- lists of documents

module _ (name : List ℕ) (key_at : ℕ → List ℕ) (fields_at : ℕ → List (List ℕ × Datum))
    (keyed : (i : ℕ) → key_of (fill name (key_at i) (fields_at i)) ≡ key_at i)
    (apart : (i j : ℕ) → i < j → j < 1000000 → bytes_eq (key_at j) (key_at i) ≡ false) where
  abbrev pub document_at : ℕ → Datum
  document_at i = fill name (key_at i) (fields_at i)

  pub one_more : (k : ℕ)
      → map document_at (up_to (suc k)) ≡ map document_at (up_to k) ++ document_at (suc k) ∷ []
  one_more k = map-append document_at (up_to k) (suc k ∷ [])

  pub is_new : (k j : ℕ) → k < j → j < 1000000 → has_key (map document_at (up_to k)) (key_at j) ≡ false
  unfolding has_key
  is_new zero j below few = refl
  is_new (suc k) j below few =
      ap (λ ds. has_key ds (key_at j)) (one_more k)
      ∙ list_any-append (λ d. bytes_eq (key_at j) (key_of d)) (map document_at (up_to k))
      (document_at (suc k) ∷ [])
      ∙ ap (λ b. b || (bytes_eq (key_at j) (key_of (document_at (suc k))) || false))
      (is_new k j (omega arith) few)
      ∙ rw (keyed (suc k), apart (suc k) j below few) refl

pub length_up_to : (k : ℕ) → length (up_to k) ≡ k
length_up_to zero = refl
length_up_to (suc k) = omega (arith, length_up_to k, length-append (up_to k) (suc k ∷ []))

-- ---- the ends of an edge

not_true : (b : Bool) → not b ≡ true → b ≡ false
not_true true e = absurd (cc)
not_true false e = refl

off_slash : PassesDigits (λ b. not (is_slash b))
off_slash b low high = let other : nat_eq b 47 ≡ false = grind arith in rw other refl

no_slash : (bs : List ℕ) → list_all (λ b. not (is_slash b)) bs ≡ true → count_by is_slash bs ≡ 0
no_slash [] e = refl
no_slash (b ∷ bs) e =
    let both = and_parts (not (is_slash b)) (list_all (λ b. not (is_slash b)) bs) e in
    sum_by-cons (λ b. cond (is_slash b) 1 0) b bs
    ∙ rw (not_true (is_slash b) both.0, no_slash bs both.1) refl

user_id_fits : (i : ℕ) → i < 1000000 → is_id (user_id i) ≡ true
user_id_fits i few =
    let digits = digits_pass (λ b. not (is_slash b)) off_slash i few in
    let one : count_by is_slash (user_id i) ≡ 1 =
    sum_by-append (λ b. cond (is_slash b) 1 0) (codes "users/u") (decimal i)
    ∙ ap (λ k. 1 + k) (no_slash (decimal i) digits) in
    let place : ℕ = length (user_id i) - 1 in
    let end : slice_index (user_id i) place ≡ slice_index (decimal i) (place - 7) =
    get_or-append_right (codes "users/u") (decimal i) 7 place 0 refl (omega (arith, digits_some i few)) in
    let last : not (is_slash (slice_index (decimal i) (place - 7))) ≡ true =
    AllPass-from_list_all (λ b. not (is_slash b)) (decimal i) digits (place - 7) 0
    (omega (arith, digits_some i few)) in
    rw (one, end, last) refl

pub ends_fit : (n i : ℕ) → i < 1000000 → known n i < 1000000 → has_ends (edge_fields n i) ≡ true
unfolding has_ends
ends_fit n i few n_few = rw (user_id_fits i few, user_id_fits (known n i) n_few) refl
