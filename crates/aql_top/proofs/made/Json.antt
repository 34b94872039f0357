-- The lines of JSON that are made, and what is read of them.
use Rattle.std.proofs.Common.{◌≡◌, ◌<◌, ◌≤◌, ℕ, ◌+◌, ◌*◌, ◌%◌, ◌^◌, pos, List, [], ◌∷◌, ◌++◌, true, Some, option_and_then, refl, sym, ap, ◌∙◌, arith, codes, append_assoc, append-nil, lt-ltb, nat_le}
use Rattle.std.specs.Prelude.{Ok, IsUtf8}
use Rattle.std.specs.List.{list_all}
use Rattle.std.specs.Fmt.{decimal}
use Rattle.std.proofs.lemmas.Str.{is_utf8-from_IsUtf8}
use Rattle.json.specs.Json as grammar
use Rattle.json.specs.Tree as tree
use Rattle.json.specs.Lex.{tokens}
use Rattle.json.specs.Print.{escape_byte}
use Rattle.json.proofs.Printed.Trees.{value-json_tokens, ArePrintable-json_tokens}
use Rattle.json.proofs.Printed.Tokens.{tokens-print}
use Rattle.json.proofs.Printed.Decimals.{IsNumber-decimal}
use Rattle.serde_json.specs.Data as json
use Rattle.serde_json.specs.Find.{as_i64}
use Rattle.serde_json.specs.Read.{read, of_json, max_depth}
use Rattle.serde_json.specs.Written.{compact_text, outline}
use Rattle.serde_json.proofs.Texts.{print-outline}
use Rattle.serde_json.proofs.Numbers.{number_of-decimal}
use Rattle.aql_value.specs.Datum.{Datum, number, text}
use Rattle.aql_value.specs.Contents.{record_of}
use Rattle.aql_value.specs.FromJson.{from_json}
use Rattle.aql_value.specs.JsonLine.{json_line, greatest_depth}
use Rattle.aql_top.proofs.made.Texts.{digits_pass, digits_then, is_plain, plain_digits, plain_utf8, literal_digits, literal_stays}

-- what is read of the compact text of data, whatever the order of its members
text_reads : (d e : json.Data) → tree.HasNumbers (outline d) → tree.depth (outline d) ≤ max_depth
    → of_json (outline d) ≡ Some e → read (compact_text d) ≡ Some e
text_reads d e numbers shallow is =
    let j = outline d in
    let same = ap tokens (sym (print-outline d)) ∙ tokens-print (tree.json_tokens j)
    (ArePrintable-json_tokens j numbers) ∙ sym (append-nil (tree.json_tokens j)) in
    let parsed = ap (grammar.value max_depth) same ∙ value-json_tokens j max_depth [] shallow in
    ap (λ r. option_and_then of_json (option_and_then (λ p. grammar.if_last p.0 p.1) r)) parsed ∙ is

whole_line : (d : json.Data) (t : Datum) (line : List ℕ) → IsUtf8 line → read line ≡ Some d
    → json.depth d ≤ greatest_depth → from_json d ≡ Some t → json_line line ≡ Ok t
unfolding json_line
whole_line d t line utf8 is shallow whole =
    let few : nat_le (json.depth d) greatest_depth ≡ true = grind (arith, shallow) in
    rw (is_utf8-from_IsUtf8 line utf8, is, few, whole) refl

small : (i : ℕ) → i < 1000000 → as_i64 (json.unsigned i) ≡ Some (pos i)
small i few = rw (lt-ltb i (2 ^ 63) (omega arith)) refl

-- ---- users

abbrev pub user_key : ℕ → List ℕ
user_key i = codes "u" ++ decimal i

abbrev pub user_text : ℕ → List ℕ
user_text i = codes "{\"_key\":\"u" ++ (decimal i ++ (codes "\",\"g\":" ++ (decimal (i % 7)
    ++ (codes ",\"n\":" ++ (decimal i ++ codes "}")))))

abbrev pub user_fields : ℕ → List (List ℕ × Datum)
user_fields i =
    (codes "_key", text (user_key i)) ∷ (codes "g", number (pos (i % 7))) ∷ (codes "n", number (pos i)) ∷ []

abbrev user_data : ℕ → json.Data
user_data i = json.object (json.member (codes "_key") (json.string (user_key i))
    (json.member (codes "g") (json.number (json.unsigned (i % 7)))
    (json.member (codes "n") (json.number (json.unsigned i)) json.no_members)))

pub user_plain : (i : ℕ) → i < 1000000 → list_all is_plain (user_text i) ≡ true
user_plain i few =
    digits_then is_plain plain_digits i few _ (digits_then is_plain plain_digits (i % 7) (omega arith) _
    (digits_then is_plain plain_digits i few _ refl))

user_compact : (i : ℕ) → i < 1000000 → compact_text (user_data i) ≡ user_text i
unfolding escape_byte
user_compact i few =
    let after = codes ",\"g\":" ++ (decimal (i % 7) ++ (codes ",\"n\":" ++ (decimal i ++ codes "}"))) in
    rw (literal_stays (decimal i) (digits_pass _ literal_digits i few))
    (ap (λ rest. codes "{\"_key\":\"u" ++ rest) (append_assoc (decimal i) (codes "\"") after))

user_whole : (i : ℕ) → i < 1000000 → of_json (outline (user_data i)) ≡ Some (user_data i)
user_whole i few =
    rw (number_of-decimal (i % 7) (omega arith), number_of-decimal i (omega arith)) refl

user_small : (i : ℕ) → i < 1000000 → from_json (user_data i) ≡ Some (record_of (user_fields i))
user_small i few = rw (small (i % 7) (omega arith), small i few) refl

pub user_reads : (i : ℕ) → i < 1000000 → json_line (user_text i) ≡ Ok (record_of (user_fields i))
user_reads i few =
    let group = IsNumber-decimal (i % 7) (omega arith) in
    let own = IsNumber-decimal i (omega arith) in
    whole_line (user_data i) (record_of (user_fields i)) (user_text i) (plain_utf8 _ (user_plain i few))
    (ap read (sym (user_compact i few))
    ∙ text_reads (user_data i) (user_data i) (tt, (group, (own, tt)))
    (omega arith) (user_whole i few))
    (omega arith) (user_small i few)

-- ---- edges

abbrev pub edge_key : ℕ → List ℕ
edge_key i = codes "e" ++ decimal i

-- the id of a user
abbrev pub user_id : ℕ → List ℕ
user_id i = codes "users/u" ++ decimal i

-- the number of the user whom one knows
abbrev pub known : ℕ → ℕ → ℕ
known n i = 3 * i % n + 1

abbrev pub edge_text : ℕ → ℕ → List ℕ
edge_text n i = codes "{\"_key\":\"e" ++ (decimal i ++ (codes "\",\"_from\":\"users/u" ++ (decimal i
    ++ (codes "\",\"_to\":\"users/u" ++ (decimal (known n i) ++ codes "\"}")))))

abbrev pub edge_fields : ℕ → ℕ → List (List ℕ × Datum)
edge_fields n i =
    (codes "_from", text (user_id i)) ∷ (codes "_key", text (edge_key i))
    ∷ (codes "_to", text (user_id (known n i))) ∷ []

-- as the line has them, and as they are kept
abbrev edge_data : ℕ → ℕ → json.Data
edge_data n i = json.object (json.member (codes "_key") (json.string (edge_key i))
    (json.member (codes "_from") (json.string (user_id i))
    (json.member (codes "_to") (json.string (user_id (known n i))) json.no_members)))

abbrev sorted_data : ℕ → ℕ → json.Data
sorted_data n i = json.object (json.member (codes "_from") (json.string (user_id i))
    (json.member (codes "_key") (json.string (edge_key i))
    (json.member (codes "_to") (json.string (user_id (known n i))) json.no_members)))

module _ (n i : ℕ) (few : i < 1000000) (n_few : known n i < 1000000) where
  pub edge_plain : list_all is_plain (edge_text n i) ≡ true
  edge_plain =
      digits_then is_plain plain_digits i few _ (digits_then is_plain plain_digits i few _
      (digits_then is_plain plain_digits (known n i) n_few _ refl))

  edge_compact : compact_text (edge_data n i) ≡ edge_text n i
  unfolding escape_byte
  edge_compact =
      let own = literal_stays (decimal i) (digits_pass _ literal_digits i few) in
      let other = literal_stays (decimal (known n i)) (digits_pass _ literal_digits (known n i) n_few) in
      rw (own, other)
      (λ j. codes "{\"_key\":\"e" ++ append_assoc (decimal i) (codes "\"") (codes ",\"_from\":\"users/u"
      ++ append_assoc (decimal i) (codes "\"") (codes ",\"_to\":\"users/u"
      ++ append_assoc (decimal (known n i)) (codes "\"") (codes "}") j) j) j)

  pub edge_reads : json_line (edge_text n i) ≡ Ok (record_of (edge_fields n i))
  edge_reads =
      whole_line (sorted_data n i) (record_of (edge_fields n i)) (edge_text n i) (plain_utf8 _ edge_plain)
      (ap read (sym edge_compact)
      ∙ text_reads (edge_data n i) (sorted_data n i) (tt, (tt, (tt, tt))) (omega arith) refl)
      (omega arith) refl
