-- The lines of edges: each adds its document, beside the documents of n users.
use Rattle.std.proofs.Common.{◌≡◌, ◌<◌, ◌≤◌, ℕ, suc, ◌+◌, List, [], ◌∷◌, ◌++◌, map, true, false, refl, sym, ap, ◌∙◌, arith, codes, length, flat_map, append_assoc, bytes_eq, ◌&&◌, not}
use Rattle.std.specs.Prelude.{Ok}
use Rattle.std.specs.Fmt.{decimal}
use Rattle.std.proofs.lemmas.List.{length-map}
use Rattle.aql_value.specs.Datum.{Datum}
use Rattle.aql_value.specs.Contents.{record_of}
use Rattle.aql_doc.specs.Held.{Held, documents_in}
use Rattle.aql_doc.specs.Documents.{fill, has_ends, add}
use Rattle.aql_doc.specs.Declarations.{replace}
use Rattle.aql_doc.specs.Keys.{is_key, is_key_byte}
use Rattle.aql_doc.specs.KeySet.{key_of}
use Rattle.aql_doc.specs.declared.info.CollInfo.{CollInfo}
use Rattle.aql_doc.specs.declared.faults.DocFault.{DocFault}
use Rattle.aql_script.specs.Pieces.{pieces}
use Rattle.aql_script.specs.Lines.{next, read}
use Rattle.aql_script.specs.LineEffects.{line_effect}
use Rattle.aql_options.specs.Generated.{edge, up_to}
use Rattle.aql_top.proofs.made.Texts.{length_then}
use Rattle.aql_top.proofs.made.Json.{edge_text, edge_key, edge_fields, edge_plain, edge_reads, known}
use Rattle.aql_top.proofs.made.Documents.{with_new, letter_key, numbers_apart, one_more, is_new, length_up_to, ends_fit}
use Rattle.aql_top.proofs.made.Lines.{line_adds, lines_go}
use Rattle.aql_top.proofs.made.Users.{users_held, user_document}

-- ---- what is held

abbrev pub edge_document : ℕ → ℕ → Datum
edge_document n i = fill (codes "knows") (edge_key i) (edge_fields n i)

abbrev pub edges_info : CollInfo
edges_info = record { name = codes "knows"; edge = true; shards = 4; keys = codes "_key" ∷ []; indexes = [] }

abbrev pub edges_held : ℕ → ℕ → Held
edges_held n k = record { info = edges_info; documents = map (edge_document n) (up_to k) }

edge_fits : (i : ℕ) → i < 1000000 → is_key (edge_key i) ≡ true
unfolding is_key_byte
edge_fits i few = letter_key 101 i refl few

edge_keyed : (n i : ℕ) → key_of (edge_document n i) ≡ edge_key i
unfolding fill
edge_keyed n i = refl

edges_apart : (i j : ℕ) → i < j → j < 1000000 → bytes_eq (edge_key j) (edge_key i) ≡ false
edges_apart i j below few = numbers_apart i j below few

-- ---- a line

module _ (n : ℕ) (some : 1 ≤ n) (most : n ≤ 100000) where
  pub known_few : (i : ℕ) → known n i < 1000000
  known_few i = omega arith

  pub edge_short : (i : ℕ) → i < 1000000 → length (edge_text n i) ≤ 90
  edge_short i few =
      let last = length_then (known n i) (codes "\"}") 2 (known_few i) (omega arith) in
      let to = codes "\",\"_to\":\"users/u" ++ (decimal (known n i) ++ codes "\"}") in
      let middle = length_then i to 24 few (omega (arith, last)) in
      let from = codes "\",\"_from\":\"users/u" ++ (decimal i ++ to) in
      omega (arith, length_then i from 48 few (omega (arith, middle)))

  abbrev held_at : ℕ → List Held
  held_at k = users_held [] n ∷ edges_held n k ∷ []

  edge_adds : (k : ℕ) → k < n → add (held_at k) 1 (record_of (edge_fields n (suc k))) ≡ Ok (held_at (suc k))
  edge_adds k few =
      let held = edges_held n k in
      let total = documents_in (held_at k) in
      let users = length-map (up_to n) user_document in
      let edges = length-map (up_to k) (edge_document n) in
      let room : total < 200000 = omega (arith, users, edges, length_up_to n, length_up_to k) in
      let new =
      is_new (codes "knows") edge_key (edge_fields n) (edge_keyed n) edges_apart k (suc k) (omega arith)
      (omega arith) in
      let ends : (true && not (has_ends (edge_fields n (suc k)))) ≡ false =
      rw (ends_fit n (suc k) (omega arith) (known_few (suc k))) refl in
      ap (replace {E = DocFault} (held_at k) 1)
      (with_new held total (edge_key (suc k)) (edge_fields n (suc k)) refl refl
      (edge_fits (suc k) (omega arith)) ends new room)
      ∙ ap (λ documents. Ok (users_held [] n ∷ record { info = edges_info; documents = documents } ∷ []))
      (sym (one_more (codes "knows") edge_key (edge_fields n) (edge_keyed n) edges_apart k))

  edge_does : (m k : ℕ) → k < n → line_effect m (held_at k) (edge_text n (suc k)) ≡ next (held_at (suc k))
  edge_does m k few =
      line_adds m (held_at k) (held_at (suc k)) (edge_text n (suc k)) (record_of (edge_fields n (suc k)))
      (omega (arith, edge_short (suc k) (omega arith))) refl
      (edge_reads n (suc k) (omega arith) (known_few (suc k))) (omega arith) (edge_adds k few)

  -- ---- all lines

  pub edge_line : (i : ℕ) (rest : List ℕ) → edge n i ++ rest ≡ edge_text n i ++ 10 ∷ rest
  edge_line i rest = simp append_assoc

  pub edges_go : (k m : ℕ) (rest : List ℕ) → k ≤ n
      → read line_effect m (held_at 0) (pieces 10 (flat_map (edge n) (up_to k) ++ rest))
      ≡ read line_effect (m + k) (held_at k) (pieces 10 rest)
  edges_go =
      lines_go (edge n) (edge_text n) held_at n edge_line
      (λ i within. edge_plain n i (omega arith) (known_few i)) edge_does
