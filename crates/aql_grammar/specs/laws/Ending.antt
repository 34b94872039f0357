-- What may stand after a whole expression and after a clause, and what no expression begins with.
use Rattle.std.proofs.Common.{◌≡◌, ℕ, Bool, true, false, cond, List, [], ◌∷◌}
use Rattle.std.proofs.Common.{Option, Some, None, ⊎_elim, refl, ap, ◌∙◌}
use Rattle.std.proofs.Common.{arith}
use Rattle.std.specs.Prelude.{codes, bytes_eq}
use Rattle.std.specs.Str.{str_eq_ignore_ascii_case, str_to_ascii_lowercase}
use Rattle.std.proofs.lemmas.Slice.Eq.{bytes_eq-Decides}
use Rattle.aql_lex.specs.declared.kinds.TokenKind.{TokenKind}
use Rattle.aql_lex.specs.declared.kinds.TokenKind.TheVariants as k
use Rattle.aql_lex.specs.declared.vocabulary.Symbol.{Symbol}
use Rattle.aql_lex.specs.declared.vocabulary.Symbol.TheVariants as s
use Rattle.aql_lex.specs.declared.vocabulary.Keyword.{Keyword}
use Rattle.aql_lex.specs.declared.vocabulary.Keyword.TheVariants as w
use Rattle.aql_tree.specs.Tree.{ExprTree}
use Rattle.aql_tree.specs.declared.syntax.Direction.{Direction}
use Rattle.aql_grammar.specs.Kinds.{Tokens}
use Rattle.aql_grammar.specs.Spelling.{IsName, IsWord}
use Rattle.aql_grammar.specs.Clauses.{IsDirection, IsDepth}
use Rattle.aql_grammar.specs.Input.{Parser, head, next, sees, sees_keyword, sees_word, is_name, is_number}
use Rattle.aql_grammar.specs.Input.{same_symbol}
use Rattle.aql_grammar.specs.Reader.{operator_ahead, begins_query, begins_clause, begins_comparison}
use Rattle.aql_grammar.specs.Reader.{begins_direction, begins_after_number, begins_traversal}
use Rattle.aql_grammar.specs.laws.Steps.{decide, seen_keyword, seen_word, not_seen, Refuses}
use Rattle.aql_grammar.specs.laws.OperatorLaws.{Ends, rank}

pub ends_by : (ts : Tokens) → rank ts ≡ 11 → Ends ts
ends_by ts e = omega arith

-- ---- after an expression

pub comma_ends : (ts : Tokens) → Ends (k.Symbol s.Comma ∷ ts)
unfolding rank operator_ahead
comma_ends ts = ends_by (k.Symbol s.Comma ∷ ts) refl

pub paren_ends : (ts : Tokens) → Ends (k.Symbol s.CloseParen ∷ ts)
unfolding rank operator_ahead
paren_ends ts = ends_by (k.Symbol s.CloseParen ∷ ts) refl

pub bracket_ends : (ts : Tokens) → Ends (k.Symbol s.CloseBracket ∷ ts)
unfolding rank operator_ahead
bracket_ends ts = ends_by (k.Symbol s.CloseBracket ∷ ts) refl

pub brace_ends : (ts : Tokens) → Ends (k.Symbol s.CloseBrace ∷ ts)
unfolding rank operator_ahead
brace_ends ts = ends_by (k.Symbol s.CloseBrace ∷ ts) refl

pub colon_ends : (ts : Tokens) → Ends (k.Symbol s.Colon ∷ ts)
unfolding rank operator_ahead
colon_ends ts = ends_by (k.Symbol s.Colon ∷ ts) refl

pub asc_ends : (ts : Tokens) → Ends (k.Keyword w.Asc ∷ ts)
unfolding rank operator_ahead
asc_ends ts = ends_by (k.Keyword w.Asc ∷ ts) refl

pub desc_ends : (ts : Tokens) → Ends (k.Keyword w.Desc ∷ ts)
unfolding rank operator_ahead
desc_ends ts = ends_by (k.Keyword w.Desc ∷ ts) refl

pub with_ends : (ts : Tokens) → Ends (k.Keyword w.With ∷ ts)
unfolding rank operator_ahead
with_ends ts = ends_by (k.Keyword w.With ∷ ts) refl

pub aggregate_ends : (ts : Tokens) → Ends (k.Keyword w.Aggregate ∷ ts)
unfolding rank operator_ahead
aggregate_ends ts = ends_by (k.Keyword w.Aggregate ∷ ts) refl

pub into_ends : (ts : Tokens) → Ends (k.Keyword w.Into ∷ ts)
unfolding rank operator_ahead
into_ends ts = ends_by (k.Keyword w.Into ∷ ts) refl

pub return_ends : (ts : Tokens) → Ends (k.Keyword w.Return ∷ ts)
unfolding rank operator_ahead
return_ends ts = ends_by (k.Keyword w.Return ∷ ts) refl

pub nothing_ends : Ends []
unfolding rank operator_ahead
nothing_ends = ends_by [] refl

pub name_ends : (v : List ℕ) (a b : Tokens) → IsName v a b → Ends a
unfolding rank operator_ahead
name_ends v a b IsName.word = ends_by a refl
name_ends v a b IsName.quoted = ends_by a refl

pub word_ends : (meant : List ℕ) (a b : Tokens) → IsWord meant a b → Ends a
unfolding rank operator_ahead
word_ends meant a b (IsWord.word h) = ends_by a refl

-- ---- after a clause: another clause, or RETURN

abbrev pub Stop : Tokens → Type 0
Stop ts = begins_query (head ts) ≡ true

stop_rank : (ts : Tokens) → Stop ts → rank ts ≡ 11
unfolding rank operator_ahead
stop_rank [] h = absurd (cc)
stop_rank (k.Keyword w.For ∷ ts) h = refl
stop_rank (k.Keyword w.Filter ∷ ts) h = refl
stop_rank (k.Keyword w.Let ∷ ts) h = refl
stop_rank (k.Keyword w.Sort ∷ ts) h = refl
stop_rank (k.Keyword w.Limit ∷ ts) h = refl
stop_rank (k.Keyword w.Collect ∷ ts) h = refl
stop_rank (k.Keyword w.Return ∷ ts) h = refl
stop_rank (k.Keyword _ ∷ ts) h = absurd (cc)
stop_rank (k.Symbol v ∷ ts) h = absurd (cc)
stop_rank (k.Number n ∷ ts) h = absurd (cc)
stop_rank (k.Word v ∷ ts) h = absurd (cc)
stop_rank (k.Quoted v ∷ ts) h = absurd (cc)
stop_rank (k.Text v ∷ ts) h = absurd (cc)

pub stop_ends : (ts : Tokens) → Stop ts → Ends ts
stop_ends ts h = ends_by ts (stop_rank ts h)

pub stop_no_symbol : (symbol : Symbol) (ts : Tokens) → Stop ts → sees symbol ts ≡ false
stop_no_symbol symbol ts h = not_seen symbol ts (λ e. let a : begins_query (head ts) ≡ false = ap
    (λ q. begins_query (head q)) e in absurd (cc))

pub not_seen_keyword : (keyword : Keyword) (ts : Tokens) → (ts ≡ k.Keyword keyword ∷ next ts → ⊥)
    → sees_keyword keyword ts ≡ false
not_seen_keyword keyword ts h = ⊎_elim (λ t. absurd (h (seen_keyword keyword ts t))) (λ f. f)
    (decide (sees_keyword keyword ts))

pub stop_no_keyword : (keyword : Keyword) (ts : Tokens) → begins_query (Some (k.Keyword keyword)) ≡ false
    → Stop ts → sees_keyword keyword ts ≡ false
stop_no_keyword keyword ts other h =
    not_seen_keyword keyword ts (λ e. let a : begins_query (head ts) ≡ begins_query
    (Some (k.Keyword keyword)) = ap (λ q. begins_query (head q)) e in absurd (cc))

word_no_query : (meant : List ℕ) (a b : Tokens) → IsWord meant a b → begins_query (head a) ≡ false
word_no_query meant a b (IsWord.word h) = refl

pub stop_no_word : (meant : List ℕ) (ts : Tokens) → Stop ts → sees_word meant ts ≡ false
stop_no_word meant ts h = ⊎_elim (λ t. let a = word_no_query meant ts (next ts) (seen_word meant ts t) in
    absurd (cc)) (λ f. f) (decide (sees_word meant ts))

pub stop_no_name : (ts : Tokens) → Stop ts → is_name (head ts) ≡ false
stop_no_name [] h = refl
stop_no_name (k.Keyword v ∷ ts) h = refl
stop_no_name (k.Symbol v ∷ ts) h = refl
stop_no_name (k.Number v ∷ ts) h = refl
stop_no_name (k.Text v ∷ ts) h = refl
stop_no_name (k.Word v ∷ ts) h = absurd (cc)
stop_no_name (k.Quoted v ∷ ts) h = absurd (cc)

pub stop_no_direction : (ts : Tokens) → Stop ts → begins_direction ts ≡ false
unfolding begins_direction
stop_no_direction [] h = refl
stop_no_direction (k.Keyword w.Outbound ∷ ts) h = absurd (cc)
stop_no_direction (k.Keyword w.Inbound ∷ ts) h = absurd (cc)
stop_no_direction (k.Keyword w.Any ∷ ts) h = absurd (cc)
stop_no_direction (k.Keyword _ ∷ ts) h = refl
stop_no_direction (k.Symbol v ∷ ts) h = refl
stop_no_direction (k.Number v ∷ ts) h = refl
stop_no_direction (k.Text v ∷ ts) h = refl
stop_no_direction (k.Word v ∷ ts) h = refl
stop_no_direction (k.Quoted v ∷ ts) h = refl

pub clause_stops : (t : Option TokenKind) → begins_clause t ≡ true → begins_query t ≡ true
clause_stops None h = h
clause_stops (Some (k.Keyword w.Return)) h = refl
clause_stops (Some (k.Keyword _)) h = h
clause_stops (Some (k.Symbol v)) h = h
clause_stops (Some (k.Number v)) h = h
clause_stops (Some (k.Text v)) h = h
clause_stops (Some (k.Word v)) h = h
clause_stops (Some (k.Quoted v)) h = h

-- ---- names and words

pub word_no_symbol : (meant : List ℕ) (symbol : Symbol) (a b : Tokens) → IsWord meant a b
    → sees symbol a ≡ false
unfolding sees
word_no_symbol meant symbol a b (IsWord.word h) = refl

pub name_no_symbol : (v : List ℕ) (symbol : Symbol) (a b : Tokens) → IsName v a b → sees symbol a ≡ false
unfolding sees
name_no_symbol v symbol a b IsName.word = refl
name_no_symbol v symbol a b IsName.quoted = refl

apart_by : (v : List ℕ) → str_eq_ignore_ascii_case v (codes "OPTIONS") ≡ true → str_eq_ignore_ascii_case v
    (codes "PRUNE") ≡ false
apart_by v h =
    let same : str_to_ascii_lowercase v ≡ str_to_ascii_lowercase (codes "OPTIONS") =
    (bytes_eq-Decides (str_to_ascii_lowercase v) (str_to_ascii_lowercase (codes "OPTIONS"))).0 h in
    ap (λ q. bytes_eq q (str_to_ascii_lowercase (codes "PRUNE"))) same

-- OPTIONS isn't PRUNE
pub options_no_prune : (a b : Tokens) → IsWord (codes "OPTIONS") a b → sees_word (codes "PRUNE") a ≡ false
unfolding sees_word
options_no_prune a b (IsWord.word {v = v} h) = apart_by v h

-- ---- no expression begins with these

abbrev pub is_refused : Symbol → Bool
is_refused s.OpenParen = false
is_refused s.OpenBracket = false
is_refused s.OpenBrace = false
is_refused s.Plus = false
is_refused s.Minus = false
is_refused s.Not = false
is_refused other = true

abbrev pub is_refused_keyword : Keyword → Bool
is_refused_keyword w.Null = false
is_refused_keyword w.True = false
is_refused_keyword w.False = false
is_refused_keyword w.Not = false
is_refused_keyword other = true

-- what the parser of expressions never reads
pub record Starts (R : Parser ExprTree) : Type 0 where
  pub no_symbol : (symbol : Symbol) → is_refused symbol ≡ true → Refuses R (k.Symbol symbol)
  pub no_keyword : (keyword : Keyword) → is_refused_keyword keyword ≡ true → Refuses R (k.Keyword keyword)
  pub no_comparison : (ts : Tokens) → begins_comparison ts ≡ true → R ts ≡ None
  -- where a traversal begins, what is read ends in front of its direction
  pub no_traversal : (ts : Tokens) (y : ExprTree × Tokens) → begins_traversal ts ≡ true → R ts ≡ Some y
      → begins_direction y.1 ≡ true

pub no_first_keyword : (R : Parser ExprTree) → Starts R → (keyword : Keyword) → is_refused_keyword keyword ≡
    true → (ts : Tokens) (y : ExprTree × Tokens) → R ts ≡ Some y → sees_keyword keyword ts ≡ false
no_first_keyword R starts keyword refused ts y h =
    not_seen_keyword keyword ts (λ e. let a = starts.no_keyword keyword refused (next ts) in let b = ap R e
    in absurd (cc))

pub no_query_first : (R : Parser ExprTree) → Starts R → (ts : Tokens) (y : ExprTree × Tokens)
    → R ts ≡ Some y → begins_query (head ts) ≡ false
no_query_first R starts [] y h = refl
no_query_first R starts (k.Keyword w.For ∷ ts) y h = let a = starts.no_keyword w.For refl ts in absurd (cc)
no_query_first R starts (k.Keyword w.Filter ∷ ts) y h = let a = starts.no_keyword w.Filter refl ts in absurd
    (cc)
no_query_first R starts (k.Keyword w.Let ∷ ts) y h = let a = starts.no_keyword w.Let refl ts in absurd (cc)
no_query_first R starts (k.Keyword w.Sort ∷ ts) y h = let a = starts.no_keyword w.Sort refl ts in absurd
    (cc)
no_query_first R starts (k.Keyword w.Limit ∷ ts) y h = let a = starts.no_keyword w.Limit refl ts in absurd
    (cc)
no_query_first R starts (k.Keyword w.Collect ∷ ts) y h = let a = starts.no_keyword w.Collect refl ts in
    absurd (cc)
no_query_first R starts (k.Keyword w.Return ∷ ts) y h = let a = starts.no_keyword w.Return refl ts in absurd
    (cc)
no_query_first R starts (k.Keyword _ ∷ ts) y h = refl
no_query_first R starts (k.Symbol v ∷ ts) y h = refl
no_query_first R starts (k.Number v ∷ ts) y h = refl
no_query_first R starts (k.Text v ∷ ts) y h = refl
no_query_first R starts (k.Word v ∷ ts) y h = refl
no_query_first R starts (k.Quoted v ∷ ts) y h = refl

pub no_comparison_first : (R : Parser ExprTree) → Starts R → (ts : Tokens) (y : ExprTree × Tokens)
    → R ts ≡ Some y → begins_comparison ts ≡ false
no_comparison_first R starts ts y h = ⊎_elim (λ t. let a = starts.no_comparison ts t in absurd (cc))
    (λ f. f) (decide (begins_comparison ts))

-- an expression after which a clause ends isn't read as a traversal
pub no_traversal_first : (R : Parser ExprTree) → Starts R → (ts : Tokens) (y : ExprTree × Tokens)
    → R ts ≡ Some y
    → Stop y.1 → begins_traversal ts ≡ false
no_traversal_first R starts ts y h stop =
    ⊎_elim (λ t. let a = starts.no_traversal ts y t h in let b = stop_no_direction y.1 stop in absurd (cc))
    (λ f. f) (decide (begins_traversal ts))

-- ---- where a traversal begins

pub traversal_direction_begins : (d : Direction) (a b : Tokens) → IsDirection d a b
    → begins_comparison b ≡ false
    → (begins_direction a ≡ true) × ((is_number (head a) ≡ false) × (sees s.Range a ≡ false))
unfolding begins_direction sees
traversal_direction_begins d a b IsDirection.outbound none = (refl, (refl, refl))
traversal_direction_begins d a b IsDirection.inbound none = (refl, (refl, refl))
traversal_direction_begins d a b IsDirection.any none = (rw none refl, (refl, refl))

cond_false : (b x y : Bool) → b ≡ false → y ≡ true → cond b x y ≡ true
cond_false b x y e h = ap (λ (c : Bool). cond c x y) e ∙ h

and_false : (b x : Bool) → b ≡ false → cond b x false ≡ false
and_false b x e = ap (λ (c : Bool). cond c x false) e

range_seen : (ts : Tokens) → sees s.Range (k.Symbol s.Range ∷ ts) ≡ true
unfolding sees same_symbol
range_seen ts = refl

-- a depth and a direction begin a traversal
pub traversal_begins : (m n : ℕ) (a b : Tokens) → IsDepth m n a b → begins_direction b ≡ true
    → is_number (head b) ≡ false → sees s.Range b ≡ false → begins_traversal a ≡ true
unfolding begins_traversal begins_after_number
traversal_begins m n a b IsDepth.unsaid direction number range =
    cond_false (is_number (head a)) _ _ number direction
traversal_begins m n a b IsDepth.exact direction number range = rw range direction
traversal_begins m n a b (IsDepth.between {b = c}) direction number range =
    rw (range_seen (k.Number _ ∷ c)) direction
