-- What `--generate N` makes is a script: its directives, users, edges and query.
use Rattle.std.proofs.Common.{◌≡◌, ◌≤◌, ℕ, zero, suc, ◌+◌, ◌*◌, List, [], ◌∷◌, ◌++◌, true, refl, sym, ap, ◌∙◌, arith, codes, length, flat_map, append-nil, length-append}
use Rattle.std.specs.Str.{is_utf8}
use Rattle.std.proofs.lemmas.Str.{is_utf8-from_IsUtf8}
use Rattle.std.proofs.lemmas.Grind.{flat_map-append}
use Rattle.json.proofs.Printed.Utf8.{IsUtf8-are_ascii}
use Rattle.aql_doc.specs.Held.{Held}
use Rattle.aql_script.specs.Names.{is_letter, is_attribute_byte, is_name_byte, names_in, shard_count}
use Rattle.aql_script.specs.Lines as lines
use Rattle.aql_script.specs.Lines.{next}
use Rattle.aql_script.specs.LineEffects.{line_effect, directive_effect, declaration, index}
use Rattle.aql_script.specs.Script.{IsScript}
use Rattle.aql_script.specs.declared.loading.Loaded.{Loaded}
use Rattle.aql_script.specs.laws.Scripts.{script_within}
use Rattle.aql_options.specs.Generated.{generated, user, edge, query, up_to}
use Rattle.aql_top.proofs.made.Json.{user_text, edge_text}
use Rattle.aql_top.proofs.made.Lines.{line_goes}
use Rattle.aql_top.proofs.made.Users.{users_held, user_line, user_short, users_go}
use Rattle.aql_top.proofs.made.Edges.{edges_held, edge_line, edge_short, edges_go}

-- ---- how long it is

flat_map_few : (line : ℕ → List ℕ) (c most : ℕ) → ((i : ℕ) → i ≤ most → length (line i) ≤ c)
    → (k : ℕ) → k ≤ most → length (flat_map line (up_to k)) ≤ c * k
flat_map_few line c most short zero within = omega arith
flat_map_few line c most short (suc k) within =
    let all = flat_map line (up_to k) in
    let one = ap (λ l. all ++ l) (append-nil (line (suc k))) in
    let more = ap length (flat_map-append line (up_to k) (suc k ∷ []) ∙ one) in
    let here = short (suc k) within in
    let before = flat_map_few line c most short k (omega arith) in
    omega (arith, more, length-append all (line (suc k)), here, before)

-- a line is longer than its text by its line feed
with_feed : (line text : List ℕ) (c : ℕ) → line ++ [] ≡ text ++ 10 ∷ [] → length text ≤ c
    → length line ≤ c + 1
with_feed line text c is short =
    omega (arith, ap length (sym (append-nil line) ∙ is), length-append text (10 ∷ []))

made_few : (n : ℕ) → 1 ≤ n → n ≤ 100000 → length (generated n) ≤ 67108864
made_few n some most =
    let end = codes "%index users g\n%query\n" ++ query in
    let edges = flat_map (edge n) (up_to n) in
    let users = flat_map user (up_to n) in
    let users_few =
    flat_map_few user 61 100000 (λ i within. with_feed (user i) (user_text i) 60 (user_line i [])
    (user_short i (omega arith))) n most in
    let edges_few =
    flat_map_few (edge n) 91 100000 (λ i within. with_feed (edge n i) (edge_text n i) 90
    (edge_line n some most i []) (edge_short n some most i (omega arith))) n most in
    omega (
      arith,
      users_few,
      edges_few,
      length-append users (codes "%edge knows shards=4\n" ++ (edges ++ end)),
      length-append edges end,
    )

-- ---- directives

declares_users : (m : ℕ) → line_effect m [] (codes "%document users shards=4") ≡ next (users_held [] 0 ∷ [])
unfolding line_effect directive_effect declaration is_letter is_attribute_byte is_name_byte shard_count
declares_users m = refl

module _ (m n : ℕ) where
  declares_edges : line_effect m (users_held [] n ∷ []) (codes "%edge knows shards=4")
      ≡ next (users_held [] n ∷ edges_held n 0 ∷ [])
  unfolding line_effect directive_effect declaration is_letter is_attribute_byte is_name_byte shard_count
  declares_edges = refl

  indexes_users : line_effect m (users_held [] n ∷ edges_held n n ∷ []) (codes "%index users g")
      ≡ next (users_held ((codes "g" ∷ []) ∷ []) n ∷ edges_held n n ∷ [])
  unfolding line_effect directive_effect index is_letter is_attribute_byte is_name_byte names_in
  indexes_users = refl

  asks : (held : List Held) → line_effect m held (codes "%query") ≡ lines.query
  unfolding line_effect directive_effect
  asks held = refl

query_utf8 : is_utf8 query ≡ true
query_utf8 = is_utf8-from_IsUtf8 query (IsUtf8-are_ascii query refl)

-- ---- the whole

abbrev pub made_users : ℕ → Held
made_users n = users_held ((codes "g" ∷ []) ∷ []) n

abbrev pub made_edges : ℕ → Held
made_edges n = edges_held n n

abbrev pub made_catalog : ℕ → List Held
made_catalog n = made_users n ∷ made_edges n ∷ []

abbrev pub made_loaded : ℕ → Loaded
made_loaded n = record { catalog = made_catalog n; query = query }

pub made_is_script : (n : ℕ) → 1 ≤ n → n ≤ 100000 → IsScript (generated n) (made_loaded n)
made_is_script n some most =
    let end = codes "%index users g\n%query\n" ++ query in
    let edges = flat_map (edge n) (up_to n) ++ end in
    let users = flat_map user (up_to n) ++ (codes "%edge knows shards=4\n" ++ edges) in
    script_within (generated n) (made_few n some most)
    ∙ line_goes 0 [] (codes "%document users shards=4") users (next (users_held [] 0 ∷ [])) refl
    (declares_users 1)
    ∙ users_go n 1 (codes "%edge knows shards=4\n" ++ edges) most
    ∙ line_goes (1 + n) (users_held [] n ∷ []) (codes "%edge knows shards=4") edges
    (next (users_held [] n ∷ edges_held n 0 ∷ [])) refl (declares_edges (1 + n + 1) n)
    ∙ edges_go n some most n (1 + n + 1) end (omega arith)
    ∙ line_goes (1 + n + 1 + n) (users_held [] n ∷ edges_held n n ∷ []) (codes "%index users g")
    (codes "%query\n" ++ query) (next (made_catalog n)) refl (indexes_users (1 + n + 1 + n + 1) n)
    ∙ line_goes (1 + n + 1 + n + 1) (made_catalog n) (codes "%query") query lines.query refl
    (asks (1 + n + 1 + n + 1 + 1) n (made_catalog n))
    ∙ rw query_utf8 refl
