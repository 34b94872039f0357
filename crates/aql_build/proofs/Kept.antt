-- Tokens whose numbers are in range: those of a text are, and so are those after any part of the grammar.
use Rattle.std.proofs.Common.{ℕ, ◌≤◌, List, Option, subst, sym}
use Rattle.std.specs.Prelude.{ℤ, pos, negsuc, MatchOption}
use Rattle.std.specs.List.{AllByRecursion}
use Rattle.aql_lex.specs.declared.kinds.Token.{Token}
use Rattle.aql_lex.specs.declared.kinds.TokenKind.{TokenKind}
use Rattle.aql_lex.specs.declared.kinds.TokenKind.TheVariants as k
use Rattle.aql_lex.specs.declared.faults.LexKind.{LexKind}
use Rattle.aql_lex.specs.Numbers.{largest}
use Rattle.aql_lex.specs.Tokens.{IsToken}
use Rattle.aql_lex.specs.Reading.{Reads}
use Rattle.aql_grammar.specs.declared.precedence.Precedence.{Precedence}
use Rattle.aql_grammar.specs.Kinds.{Tokens, kinds_of}
use Rattle.aql_grammar.specs.Spelling.{IsName, IsWord, IsOptional, AreMany, AreSeparated, AreAny, AreItems}
use Rattle.aql_grammar.specs.Operators.{IsOperator, IsComparison, IsQuantifier, IsUnaryOperator}
use Rattle.aql_grammar.specs.Objects.{IsKey}
use Rattle.aql_grammar.specs.Clauses.{AreTraversalNames, IsDepth, IsDirection, IsDistinct}

-- a number that tokens may have
abbrev pub InRange : ℤ → Type 0
InRange (pos n) = n ≤ largest
InRange (negsuc n) = Unit {0}

abbrev pub NumberFits : TokenKind → Type 0
NumberFits (k.Number n) = InRange n
NumberFits kind = Unit {0}

abbrev pub Kept : Tokens → Type 0
Kept tokens = AllByRecursion NumberFits tokens

-- ---- the tokens of a text

token_fits : (kind : TokenKind) (text rest : List ℕ) → IsToken kind text rest → NumberFits kind
token_fits (k.Number n) text rest (digits, h) = subst InRange (sym h.2) h.1
token_fits (k.Word word) text rest h = tt
token_fits (k.Keyword word) text rest h = tt
token_fits (k.Quoted name) text rest h = tt
token_fits (k.Text value) text rest h = tt
token_fits (k.Symbol symbol) text rest h = tt

pub read_kept : (size : ℕ) (text : List ℕ) (tokens : List Token) (end : Option (ℕ × LexKind))
    → Reads size text tokens end → Kept (kinds_of tokens)
read_kept size text tokens end Reads.over = tt
read_kept size text tokens end (Reads.separator {rest = rest} s h) = read_kept size rest tokens end h
read_kept size text tokens end (Reads.fault n f) = tt
read_kept size text tokens end
    (Reads.token {rest = rest} {kind = kind} {tokens = more} n f longest h) =
    (token_fits kind text rest longest.stands, read_kept size rest more end h)

-- ---- parts of the grammar

-- what is spelled has this, and what stands after it is in range
abbrev pub Carries : {A : Type 0} → (A → Tokens → Tokens → Type 0) → (A → Type 0) → Type 0
Carries {A} P Has = (x : A) (a b : Tokens) → P x a b → Kept a → Has x × Kept b

abbrev pub Passes : {A : Type 0} → (A → Tokens → Tokens → Type 0) → Type 0
Passes {A} P = (x : A) (a b : Tokens) → P x a b → Kept a → Kept b

pub name_passes : Passes IsName
name_passes v a b IsName.word h = h.1
name_passes v a b IsName.quoted h = h.1

pub word_passes : (meant : List ℕ) (a b : Tokens) → IsWord meant a b → Kept a → Kept b
word_passes meant a b (IsWord.word e) h = h.1

pub key_passes : Passes IsKey
key_passes v a b (IsKey.name n) h = name_passes v a b n h
key_passes v a b IsKey.text h = h.1

module _ {A : Type 0} (P : A → Tokens → Tokens → Type 0) (Has : A → Type 0) (carries : Carries P Has) where
  pub optional_carries : Carries (IsOptional P) (λ o. MatchOption o (Unit {0}) Has)
  optional_carries o a b IsOptional.none h = (tt, h)
  optional_carries o a b (IsOptional.some {x = x} p) h = carries x a b p h

  pub many_carry : Carries (AreMany P) (AllByRecursion Has)
  many_carry xs a b AreMany.none h = (tt, h)
  many_carry xs a b (AreMany.one {x = x} {xs = more} {b = c} p ps) h =
      let one = carries x a c p h in
      let rest = many_carry more c b ps one.1 in
      ((one.0, rest.0), rest.1)

  pub separated_carry : Carries (AreSeparated P) (AllByRecursion Has)
  separated_carry xs a b (AreSeparated.last {x = x} p) h =
      let one = carries x a b p h in ((one.0, tt), one.1)
  separated_carry xs a b (AreSeparated.before {x = x} {xs = more} {b = c} p ps) h =
      let one = carries x a _ p h in
      let rest = separated_carry more c b ps one.1.1 in
      ((one.0, rest.0), rest.1)

  pub any_carry : Carries (AreAny P) (AllByRecursion Has)
  any_carry xs a b AreAny.none h = (tt, h)
  any_carry xs a b (AreAny.some ps) h = separated_carry xs a b ps h

  pub items_carry : Carries (AreItems P) (AllByRecursion Has)
  items_carry xs a b AreItems.none h = (tt, h)
  items_carry xs a b (AreItems.some ps) h = separated_carry xs a b ps h
  items_carry xs a b (AreItems.trailing ps) h =
      let all = separated_carry xs a _ ps h in (all.0, all.1.1)

pub names_pass : Passes (AreSeparated IsName)
names_pass names a b p h =
    (separated_carry IsName (λ v. Unit {0}) (λ v c d n g. (tt, name_passes v c d n g)) names a b p h).1

pub operator_passes : (precedence : Precedence) → Passes (IsOperator precedence)
operator_passes precedence op a b IsOperator.times h = h.1
operator_passes precedence op a b IsOperator.divided h = h.1
operator_passes precedence op a b IsOperator.remainder h = h.1
operator_passes precedence op a b IsOperator.plus h = h.1
operator_passes precedence op a b IsOperator.minus h = h.1
operator_passes precedence op a b IsOperator.less h = h.1
operator_passes precedence op a b IsOperator.less_equal h = h.1
operator_passes precedence op a b IsOperator.greater h = h.1
operator_passes precedence op a b IsOperator.greater_equal h = h.1
operator_passes precedence op a b IsOperator.is_in h = h.1
operator_passes precedence op a b IsOperator.not_in h = h.1.1
operator_passes precedence op a b IsOperator.equal h = h.1
operator_passes precedence op a b IsOperator.not_equal h = h.1
operator_passes precedence op a b IsOperator.like h = h.1
operator_passes precedence op a b IsOperator.not_like h = h.1.1
operator_passes precedence op a b IsOperator.and_symbol h = h.1
operator_passes precedence op a b IsOperator.and_word h = h.1
operator_passes precedence op a b IsOperator.or_symbol h = h.1
operator_passes precedence op a b IsOperator.or_word h = h.1

pub comparison_passes : Passes IsComparison
comparison_passes op a b IsComparison.equal h = h.1
comparison_passes op a b IsComparison.not_equal h = h.1
comparison_passes op a b IsComparison.less h = h.1
comparison_passes op a b IsComparison.less_equal h = h.1
comparison_passes op a b IsComparison.greater h = h.1
comparison_passes op a b IsComparison.greater_equal h = h.1
comparison_passes op a b IsComparison.is_in h = h.1
comparison_passes op a b IsComparison.not_in h = h.1.1

pub quantifier_passes : Passes IsQuantifier
quantifier_passes kind a b IsQuantifier.all h = h.1
quantifier_passes kind a b IsQuantifier.any h = h.1
quantifier_passes kind a b IsQuantifier.none h = h.1

pub unary_passes : Passes IsUnaryOperator
unary_passes op a b IsUnaryOperator.plus h = h.1
unary_passes op a b IsUnaryOperator.minus h = h.1
unary_passes op a b IsUnaryOperator.not_symbol h = h.1
unary_passes op a b IsUnaryOperator.not_word h = h.1

pub traversal_names_pass : Passes AreTraversalNames
traversal_names_pass names a b (AreTraversalNames.vertex {v = v} n) h = name_passes v a b n h
traversal_names_pass names a b (AreTraversalNames.edge {v = v} {x = x} {b = c} n m) h =
    name_passes x c b m (name_passes v a _ n h).1
traversal_names_pass names a b (AreTraversalNames.path {v = v} {x = x} {p = p} {b = c} {c = d} n m l) h =
    name_passes p d b l (name_passes x c _ m (name_passes v a _ n h).1).1

pub depth_passes : (least greatest : ℕ) (a b : Tokens) → IsDepth least greatest a b → Kept a → Kept b
depth_passes least greatest a b IsDepth.unsaid h = h
depth_passes least greatest a b IsDepth.exact h = h.1
depth_passes least greatest a b IsDepth.between h = h.1.1.1

pub direction_passes : Passes IsDirection
direction_passes way a b IsDirection.outbound h = h.1
direction_passes way a b IsDirection.inbound h = h.1
direction_passes way a b IsDirection.any h = h.1

pub distinct_passes : Passes IsDistinct
distinct_passes distinct a b IsDistinct.plain h = h
distinct_passes distinct a b IsDistinct.distinct h = h.1
