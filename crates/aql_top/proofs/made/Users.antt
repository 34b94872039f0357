-- The lines of users: each adds its document.
use Rattle.std.proofs.Common.{◌≡◌, ◌<◌, ◌≤◌, ℕ, suc, ◌+◌, ◌%◌, List, [], ◌∷◌, ◌++◌, map, true, false, refl, sym, ap, ◌∙◌, arith, codes, length, flat_map, append_assoc, bytes_eq}
use Rattle.std.specs.Prelude.{Ok}
use Rattle.std.specs.Fmt.{decimal}
use Rattle.std.proofs.lemmas.List.{length-map}
use Rattle.aql_value.specs.Datum.{Datum}
use Rattle.aql_value.specs.Contents.{record_of}
use Rattle.aql_doc.specs.Held.{Held, documents_in}
use Rattle.aql_doc.specs.Documents.{fill, add}
use Rattle.aql_doc.specs.Declarations.{replace}
use Rattle.aql_doc.specs.Keys.{is_key, is_key_byte}
use Rattle.aql_doc.specs.KeySet.{key_of}
use Rattle.aql_doc.specs.declared.info.CollInfo.{CollInfo}
use Rattle.aql_doc.specs.declared.faults.DocFault.{DocFault}
use Rattle.aql_script.specs.Pieces.{pieces}
use Rattle.aql_script.specs.Lines.{next, read}
use Rattle.aql_script.specs.LineEffects.{line_effect}
use Rattle.aql_options.specs.Generated.{user, up_to}
use Rattle.aql_top.proofs.made.Texts.{length_then}
use Rattle.aql_top.proofs.made.Json.{user_text, user_key, user_fields, user_plain, user_reads}
use Rattle.aql_top.proofs.made.Documents.{with_new, letter_key, numbers_apart, one_more, is_new, length_up_to}
use Rattle.aql_top.proofs.made.Lines.{line_adds, lines_go}

-- ---- what is held

abbrev pub user_document : ℕ → Datum
user_document i = fill (codes "users") (user_key i) (user_fields i)

abbrev pub users_info : List (List (List ℕ)) → CollInfo
users_info indexes = record {
  name = codes "users";
  edge = false;
  shards = 4;
  keys = codes "_key" ∷ [];
  indexes = indexes;
}

abbrev pub users_held : List (List (List ℕ)) → ℕ → Held
users_held indexes k = record { info = users_info indexes; documents = map user_document (up_to k) }

-- ---- a line

pub user_short : (i : ℕ) → i < 1000000 → length (user_text i) ≤ 60
user_short i few =
    let third = length_then i (codes "}") 1 few (omega arith) in
    let second = length_then (i % 7) (codes ",\"n\":" ++ (decimal i ++ codes "}")) 12 (omega arith)
    (omega (arith, third)) in
    omega (
      arith,
      length_then i (codes "\",\"g\":" ++ (decimal (i % 7) ++ (codes ",\"n\":" ++ (decimal i ++ codes "}"))))
          24 few (omega (arith, second)),
    )

user_keyed : (i : ℕ) → key_of (user_document i) ≡ user_key i
unfolding fill
user_keyed i = refl

users_apart : (i j : ℕ) → i < j → j < 1000000 → bytes_eq (user_key j) (user_key i) ≡ false
users_apart i j below few = numbers_apart i j below few

user_fits : (i : ℕ) → i < 1000000 → is_key (user_key i) ≡ true
unfolding is_key_byte
user_fits i few = letter_key 117 i refl few

user_adds : (k : ℕ) → k < 100000
    → add (users_held [] k ∷ []) 0 (record_of (user_fields (suc k))) ≡ Ok (users_held [] (suc k) ∷ [])
user_adds k few =
    let held = users_held [] k in
    let total = documents_in (held ∷ []) in
    let room : total < 200000 = omega (arith, length-map (up_to k) user_document, length_up_to k) in
    ap (replace {E = DocFault} (held ∷ []) 0)
    (with_new held total (user_key (suc k)) (user_fields (suc k)) refl refl
    (user_fits (suc k) (omega arith)) refl
    (is_new (codes "users") user_key user_fields user_keyed users_apart k (suc k) (omega arith) (omega arith))
    room)
    ∙ ap (λ documents. Ok (record { info = users_info []; documents = documents } ∷ []))
    (sym (one_more (codes "users") user_key user_fields user_keyed users_apart k))

user_does : (m k : ℕ) → k < 100000
    → line_effect m (users_held [] k ∷ []) (user_text (suc k)) ≡ next (users_held [] (suc k) ∷ [])
user_does m k few =
    line_adds m (users_held [] k ∷ []) (users_held [] (suc k) ∷ []) (user_text (suc k))
    (record_of (user_fields (suc k))) (omega (arith, user_short (suc k) (omega arith))) refl
    (user_reads (suc k) (omega arith)) (omega arith) (user_adds k few)

-- ---- all lines

pub user_line : (i : ℕ) (rest : List ℕ) → user i ++ rest ≡ user_text i ++ 10 ∷ rest
user_line i rest = simp append_assoc

pub users_go : (k m : ℕ) (rest : List ℕ) → k ≤ 100000
    → read line_effect m (users_held [] 0 ∷ []) (pieces 10 (flat_map user (up_to k) ++ rest))
    ≡ read line_effect (m + k) (users_held [] k ∷ []) (pieces 10 rest)
users_go =
    lines_go user user_text (λ k. users_held [] k ∷ []) 100000 user_line
    (λ i within. user_plain i (omega arith)) user_does
