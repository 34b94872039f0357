-- Operators: what is read is spelt so, what is spelt is read, and what may stand after an operand.
use Rattle.std.proofs.Common.{◌≡◌, ℕ, ◌<◌, true, false, [], ◌∷◌}
use Rattle.std.proofs.Common.{Option, Some, None, ⊎_elim, refl, ap, subst}
use Rattle.std.proofs.Common.{rules, arith}
use denote.Enum.Bare.{same_true}
use Rattle.aql_lex.specs.declared.kinds.TokenKind.{TokenKind}
use Rattle.aql_lex.specs.declared.kinds.TokenKind.TheVariants as k
use Rattle.aql_lex.specs.declared.vocabulary.Symbol.{Symbol}
use Rattle.aql_lex.specs.declared.vocabulary.Symbol.TheVariants as s
use Rattle.aql_lex.specs.declared.vocabulary.Keyword.TheVariants as w
use Rattle.aql_value.specs.declared.operators.BinOp.{BinOp}
use Rattle.aql_value.specs.declared.operators.UnaryOp.{UnaryOp}
use Rattle.aql_tree.specs.declared.syntax.QuantKind.{QuantKind}
use Rattle.aql_tree.specs.declared.syntax.Direction.{Direction}
use Rattle.aql_grammar.specs.declared.precedence.Precedence.{Precedence}
use Rattle.aql_grammar.specs.declared.precedence.Precedence.TheVariants as level
use Rattle.aql_grammar.specs.contracts.precedence.Precedence as precedence_type
use Rattle.aql_grammar.specs.Kinds.{Tokens}
use Rattle.aql_grammar.specs.Operators.{IsOperator, IsComparison, IsQuantifier, IsUnaryOperator}
use Rattle.aql_grammar.specs.Clauses.{IsDirection}
use Rattle.aql_grammar.specs.Input.{head, next, sees}
use Rattle.aql_grammar.specs.Reader.{operator, operator_ahead, after_operator, comparison, begins_comparison}
use Rattle.aql_grammar.specs.Reader.{quantifier, unary_at, traversal_direction, begins_step, sees_operator}
use Rattle.aql_grammar.specs.Reader.{same_precedence, has_precedence, begins_quantifier}
use Rattle.aql_grammar.specs.laws.Steps.{Sound, Shrinks, done, if_cases, decide, not_seen}

-- ---- back

-- the precedence of what was found, if it is an operator
abbrev precedence_of : Option (Precedence × BinOp) → Precedence
precedence_of (Some p) = p.0
precedence_of None = level.Disjunction

found_precedence : (precedence : Precedence) (found : Option (Precedence × BinOp))
    → has_precedence precedence found ≡ true → precedence_of found ≡ precedence
unfolding same_precedence
found_precedence precedence (Some p) h = same_true precedence_type.the_type (search rules) p.0 precedence h
found_precedence precedence None h = absurd (cc)

operator_spelt : (ts : Tokens) (y : BinOp × Tokens) → operator ts ≡ Some y
    → IsOperator (precedence_of (operator_ahead ts)) y.0 ts y.1
unfolding operator operator_ahead after_operator
operator_spelt [] y h = absurd (cc)
operator_spelt (k.Number n ∷ ts) y h = absurd (cc)
operator_spelt (k.Word v ∷ ts) y h = absurd (cc)
operator_spelt (k.Quoted v ∷ ts) y h = absurd (cc)
operator_spelt (k.Text v ∷ ts) y h = absurd (cc)
operator_spelt (k.Symbol s.Star ∷ ts) y h = done (IsOperator level.Product) _ _ ts y h IsOperator.times
operator_spelt (k.Symbol s.Slash ∷ ts) y h = done (IsOperator level.Product) _ _ ts y h IsOperator.divided
operator_spelt (k.Symbol s.Percent ∷ ts) y h = done (IsOperator level.Product) _ _ ts y h IsOperator.remainder
operator_spelt (k.Symbol s.Plus ∷ ts) y h = done (IsOperator level.Sum) _ _ ts y h IsOperator.plus
operator_spelt (k.Symbol s.Minus ∷ ts) y h = done (IsOperator level.Sum) _ _ ts y h IsOperator.minus
operator_spelt (k.Symbol s.Less ∷ ts) y h = done (IsOperator level.Relation) _ _ ts y h IsOperator.less
operator_spelt (k.Symbol s.LessOrEqual ∷ ts) y h = done
    (IsOperator level.Relation) _ _ ts y h IsOperator.less_equal
operator_spelt (k.Symbol s.Greater ∷ ts) y h = done (IsOperator level.Relation) _ _ ts y h IsOperator.greater
operator_spelt (k.Symbol s.GreaterOrEqual ∷ ts) y h = done (IsOperator level.Relation) _ _ ts y h
    IsOperator.greater_equal
operator_spelt (k.Symbol s.Equal ∷ ts) y h = done (IsOperator level.Equality) _ _ ts y h IsOperator.equal
operator_spelt (k.Symbol s.NotEqual ∷ ts) y h = done
    (IsOperator level.Equality) _ _ ts y h IsOperator.not_equal
operator_spelt (k.Symbol s.And ∷ ts) y h =
    done (IsOperator level.Conjunction) _ _ ts y h IsOperator.and_symbol
operator_spelt (k.Symbol s.Or ∷ ts) y h = done (IsOperator level.Disjunction) _ _ ts y h IsOperator.or_symbol
operator_spelt (k.Symbol _ ∷ ts) y h = absurd (cc)
operator_spelt (k.Keyword w.In ∷ ts) y h = done (IsOperator level.Membership) _ _ ts y h IsOperator.is_in
operator_spelt (k.Keyword w.Like ∷ ts) y h = done (IsOperator level.Equality) _ _ ts y h IsOperator.like
operator_spelt (k.Keyword w.And ∷ ts) y h = done (IsOperator level.Conjunction) _ _ ts y h IsOperator.and_word
operator_spelt (k.Keyword w.Or ∷ ts) y h = done (IsOperator level.Disjunction) _ _ ts y h IsOperator.or_word
operator_spelt (k.Keyword w.Not ∷ []) y h = absurd (cc)
operator_spelt (k.Keyword w.Not ∷ k.Keyword w.In ∷ ts) y h = done (IsOperator level.Membership) _ _ ts y h
    IsOperator.not_in
operator_spelt (k.Keyword w.Not ∷ k.Keyword w.Like ∷ ts) y h = done (IsOperator level.Equality) _ _ ts y h
    IsOperator.not_like
operator_spelt (k.Keyword w.Not ∷ k.Keyword _ ∷ ts) y h = absurd (cc)
operator_spelt (k.Keyword w.Not ∷ k.Number n ∷ ts) y h = absurd (cc)
operator_spelt (k.Keyword w.Not ∷ k.Word v ∷ ts) y h = absurd (cc)
operator_spelt (k.Keyword w.Not ∷ k.Quoted v ∷ ts) y h = absurd (cc)
operator_spelt (k.Keyword w.Not ∷ k.Text v ∷ ts) y h = absurd (cc)
operator_spelt (k.Keyword w.Not ∷ k.Symbol v ∷ ts) y h = absurd (cc)
operator_spelt (k.Keyword _ ∷ ts) y h = absurd (cc)

pub operator_sound : (precedence : Precedence) (ts : Tokens) (y : BinOp × Tokens)
    → sees_operator precedence ts ≡ true → operator ts ≡ Some y → IsOperator precedence y.0 ts y.1
unfolding sees_operator
operator_sound precedence ts y on h =
    subst (λ p. IsOperator p y.0 ts y.1) (found_precedence precedence (operator_ahead ts) on)
    (operator_spelt ts y h)

comparison_spelt : (ts : Tokens) (y : BinOp × Tokens) → begins_comparison ts ≡ true → operator ts ≡ Some y
    → IsComparison y.0 ts y.1
unfolding operator operator_ahead after_operator begins_comparison
comparison_spelt [] y b h = absurd (cc)
comparison_spelt (k.Number n ∷ ts) y b h = absurd (cc)
comparison_spelt (k.Word v ∷ ts) y b h = absurd (cc)
comparison_spelt (k.Quoted v ∷ ts) y b h = absurd (cc)
comparison_spelt (k.Text v ∷ ts) y b h = absurd (cc)
comparison_spelt (k.Symbol s.Less ∷ ts) y b h = done IsComparison _ _ ts y h IsComparison.less
comparison_spelt (k.Symbol s.LessOrEqual ∷ ts) y b h = done IsComparison _ _ ts y h IsComparison.less_equal
comparison_spelt (k.Symbol s.Greater ∷ ts) y b h = done IsComparison _ _ ts y h IsComparison.greater
comparison_spelt (k.Symbol s.GreaterOrEqual ∷ ts) y b h =
    done IsComparison _ _ ts y h IsComparison.greater_equal
comparison_spelt (k.Symbol s.Equal ∷ ts) y b h = done IsComparison _ _ ts y h IsComparison.equal
comparison_spelt (k.Symbol s.NotEqual ∷ ts) y b h = done IsComparison _ _ ts y h IsComparison.not_equal
comparison_spelt (k.Symbol _ ∷ ts) y b h = absurd (cc)
comparison_spelt (k.Keyword w.In ∷ ts) y b h = done IsComparison _ _ ts y h IsComparison.is_in
comparison_spelt (k.Keyword w.Not ∷ []) y b h = absurd (cc)
comparison_spelt (k.Keyword w.Not ∷ k.Keyword w.In ∷ ts) y b h =
    done IsComparison _ _ ts y h IsComparison.not_in
comparison_spelt (k.Keyword w.Not ∷ k.Keyword _ ∷ ts) y b h = absurd (cc)
comparison_spelt (k.Keyword w.Not ∷ k.Number n ∷ ts) y b h = absurd (cc)
comparison_spelt (k.Keyword w.Not ∷ k.Word v ∷ ts) y b h = absurd (cc)
comparison_spelt (k.Keyword w.Not ∷ k.Quoted v ∷ ts) y b h = absurd (cc)
comparison_spelt (k.Keyword w.Not ∷ k.Text v ∷ ts) y b h = absurd (cc)
comparison_spelt (k.Keyword w.Not ∷ k.Symbol v ∷ ts) y b h = absurd (cc)
comparison_spelt (k.Keyword _ ∷ ts) y b h = absurd (cc)

pub comparison_sound : Sound comparison IsComparison
unfolding comparison
comparison_sound ts y h = ⊎_elim (λ m. comparison_spelt ts y m.0 m.1) (λ m. absurd (let e = m.1 in cc))
    (if_cases (begins_comparison ts) _ _ ts y h)

pub quantifier_sound : Sound quantifier IsQuantifier
unfolding quantifier
quantifier_sound [] y h = absurd (cc)
quantifier_sound (k.Keyword w.All ∷ ts) y h = done IsQuantifier _ _ ts y h IsQuantifier.all
quantifier_sound (k.Keyword w.Any ∷ ts) y h = done IsQuantifier _ _ ts y h IsQuantifier.any
quantifier_sound (k.Keyword w.None ∷ ts) y h = done IsQuantifier _ _ ts y h IsQuantifier.none
quantifier_sound (k.Keyword _ ∷ ts) y h = absurd (cc)
quantifier_sound (k.Number n ∷ ts) y h = absurd (cc)
quantifier_sound (k.Word v ∷ ts) y h = absurd (cc)
quantifier_sound (k.Quoted v ∷ ts) y h = absurd (cc)
quantifier_sound (k.Text v ∷ ts) y h = absurd (cc)
quantifier_sound (k.Symbol v ∷ ts) y h = absurd (cc)

pub traversal_direction_sound : Sound traversal_direction IsDirection
unfolding traversal_direction
traversal_direction_sound [] y h = absurd (cc)
traversal_direction_sound (k.Keyword w.Outbound ∷ ts) y h = done IsDirection _ _ ts y h IsDirection.outbound
traversal_direction_sound (k.Keyword w.Inbound ∷ ts) y h = done IsDirection _ _ ts y h IsDirection.inbound
traversal_direction_sound (k.Keyword w.Any ∷ ts) y h = done IsDirection _ _ ts y h IsDirection.any
traversal_direction_sound (k.Keyword _ ∷ ts) y h = absurd (cc)
traversal_direction_sound (k.Number n ∷ ts) y h = absurd (cc)
traversal_direction_sound (k.Word v ∷ ts) y h = absurd (cc)
traversal_direction_sound (k.Quoted v ∷ ts) y h = absurd (cc)
traversal_direction_sound (k.Text v ∷ ts) y h = absurd (cc)
traversal_direction_sound (k.Symbol v ∷ ts) y h = absurd (cc)

pub unary_sound : (ts : Tokens) (o : UnaryOp) → unary_at (head ts) ≡ Some o → IsUnaryOperator o ts (next ts)
unary_sound [] o h = absurd (cc)
unary_sound (k.Symbol s.Plus ∷ ts) o h = subst (λ q. IsUnaryOperator q (k.Symbol s.Plus ∷ ts) ts)
    (let e : _ ≡ o = cc in e) IsUnaryOperator.plus
unary_sound (k.Symbol s.Minus ∷ ts) o h = subst (λ q. IsUnaryOperator q (k.Symbol s.Minus ∷ ts) ts)
    (let e : _ ≡ o = cc in e) IsUnaryOperator.minus
unary_sound (k.Symbol s.Not ∷ ts) o h = subst (λ q. IsUnaryOperator q (k.Symbol s.Not ∷ ts) ts)
    (let e : _ ≡ o = cc in e) IsUnaryOperator.not_symbol
unary_sound (k.Keyword w.Not ∷ ts) o h = subst (λ q. IsUnaryOperator q (k.Keyword w.Not ∷ ts) ts)
    (let e : _ ≡ o = cc in e) IsUnaryOperator.not_word
unary_sound (k.Symbol _ ∷ ts) o h = absurd (cc)
unary_sound (k.Keyword _ ∷ ts) o h = absurd (cc)
unary_sound (k.Number n ∷ ts) o h = absurd (cc)
unary_sound (k.Word v ∷ ts) o h = absurd (cc)
unary_sound (k.Quoted v ∷ ts) o h = absurd (cc)
unary_sound (k.Text v ∷ ts) o h = absurd (cc)

-- ---- forth

pub operator_read : (precedence : Precedence) (o : BinOp) (a b : Tokens) → IsOperator precedence o a b
    → (sees_operator precedence a ≡ true) × (operator a ≡ Some (o, b))
unfolding operator operator_ahead after_operator sees_operator same_precedence
operator_read precedence o a b IsOperator.times = (refl, refl)
operator_read precedence o a b IsOperator.divided = (refl, refl)
operator_read precedence o a b IsOperator.remainder = (refl, refl)
operator_read precedence o a b IsOperator.plus = (refl, refl)
operator_read precedence o a b IsOperator.minus = (refl, refl)
operator_read precedence o a b IsOperator.less = (refl, refl)
operator_read precedence o a b IsOperator.less_equal = (refl, refl)
operator_read precedence o a b IsOperator.greater = (refl, refl)
operator_read precedence o a b IsOperator.greater_equal = (refl, refl)
operator_read precedence o a b IsOperator.is_in = (refl, refl)
operator_read precedence o a b IsOperator.not_in = (refl, refl)
operator_read precedence o a b IsOperator.equal = (refl, refl)
operator_read precedence o a b IsOperator.not_equal = (refl, refl)
operator_read precedence o a b IsOperator.like = (refl, refl)
operator_read precedence o a b IsOperator.not_like = (refl, refl)
operator_read precedence o a b IsOperator.and_symbol = (refl, refl)
operator_read precedence o a b IsOperator.and_word = (refl, refl)
operator_read precedence o a b IsOperator.or_symbol = (refl, refl)
operator_read precedence o a b IsOperator.or_word = (refl, refl)

pub operator_shrinks : (precedence : Precedence) → Shrinks (IsOperator precedence)
operator_shrinks precedence o a b IsOperator.times = omega arith
operator_shrinks precedence o a b IsOperator.divided = omega arith
operator_shrinks precedence o a b IsOperator.remainder = omega arith
operator_shrinks precedence o a b IsOperator.plus = omega arith
operator_shrinks precedence o a b IsOperator.minus = omega arith
operator_shrinks precedence o a b IsOperator.less = omega arith
operator_shrinks precedence o a b IsOperator.less_equal = omega arith
operator_shrinks precedence o a b IsOperator.greater = omega arith
operator_shrinks precedence o a b IsOperator.greater_equal = omega arith
operator_shrinks precedence o a b IsOperator.is_in = omega arith
operator_shrinks precedence o a b IsOperator.not_in = omega arith
operator_shrinks precedence o a b IsOperator.equal = omega arith
operator_shrinks precedence o a b IsOperator.not_equal = omega arith
operator_shrinks precedence o a b IsOperator.like = omega arith
operator_shrinks precedence o a b IsOperator.not_like = omega arith
operator_shrinks precedence o a b IsOperator.and_symbol = omega arith
operator_shrinks precedence o a b IsOperator.and_word = omega arith
operator_shrinks precedence o a b IsOperator.or_symbol = omega arith
operator_shrinks precedence o a b IsOperator.or_word = omega arith

pub comparison_read : (o : BinOp) (a b : Tokens) → IsComparison o a b → (begins_comparison a ≡ true)
    × (comparison a ≡ Some (o, b))
unfolding comparison begins_comparison operator operator_ahead after_operator
comparison_read o a b IsComparison.equal = (refl, refl)
comparison_read o a b IsComparison.not_equal = (refl, refl)
comparison_read o a b IsComparison.less = (refl, refl)
comparison_read o a b IsComparison.less_equal = (refl, refl)
comparison_read o a b IsComparison.greater = (refl, refl)
comparison_read o a b IsComparison.greater_equal = (refl, refl)
comparison_read o a b IsComparison.is_in = (refl, refl)
comparison_read o a b IsComparison.not_in = (refl, refl)

pub comparison_shrinks : Shrinks IsComparison
comparison_shrinks o a b IsComparison.equal = omega arith
comparison_shrinks o a b IsComparison.not_equal = omega arith
comparison_shrinks o a b IsComparison.less = omega arith
comparison_shrinks o a b IsComparison.less_equal = omega arith
comparison_shrinks o a b IsComparison.greater = omega arith
comparison_shrinks o a b IsComparison.greater_equal = omega arith
comparison_shrinks o a b IsComparison.is_in = omega arith
comparison_shrinks o a b IsComparison.not_in = omega arith

pub quantifier_read : (q : QuantKind) (a b : Tokens) → IsQuantifier q a b
    → (begins_quantifier (head a) ≡ true) × (quantifier a ≡ Some (q, b))
unfolding quantifier
quantifier_read q a b IsQuantifier.all = (refl, refl)
quantifier_read q a b IsQuantifier.any = (refl, refl)
quantifier_read q a b IsQuantifier.none = (refl, refl)

pub quantifier_shrinks : Shrinks IsQuantifier
quantifier_shrinks q a b IsQuantifier.all = omega arith
quantifier_shrinks q a b IsQuantifier.any = omega arith
quantifier_shrinks q a b IsQuantifier.none = omega arith

pub traversal_direction_read : (d : Direction) (a b : Tokens) → IsDirection d a b
    → traversal_direction a ≡ Some (d, b)
unfolding traversal_direction
traversal_direction_read d a b IsDirection.outbound = refl
traversal_direction_read d a b IsDirection.inbound = refl
traversal_direction_read d a b IsDirection.any = refl

pub traversal_direction_shrinks : Shrinks IsDirection
traversal_direction_shrinks d a b IsDirection.outbound = omega arith
traversal_direction_shrinks d a b IsDirection.inbound = omega arith
traversal_direction_shrinks d a b IsDirection.any = omega arith

pub unary_read : (o : UnaryOp) (a b : Tokens) → IsUnaryOperator o a b → (unary_at (head a) ≡ Some o)
    × (next a ≡ b)
unary_read o a b IsUnaryOperator.plus = (refl, refl)
unary_read o a b IsUnaryOperator.minus = (refl, refl)
unary_read o a b IsUnaryOperator.not_symbol = (refl, refl)
unary_read o a b IsUnaryOperator.not_word = (refl, refl)

pub unary_shrinks : Shrinks IsUnaryOperator
unary_shrinks o a b IsUnaryOperator.plus = omega arith
unary_shrinks o a b IsUnaryOperator.minus = omega arith
unary_shrinks o a b IsUnaryOperator.not_symbol = omega arith
unary_shrinks o a b IsUnaryOperator.not_word = omega arith

-- ---- what may stand after an operand of a level

-- the precedences, counted from the tightest on
abbrev pub order : Precedence → ℕ
order level.Product = 1
order level.Sum = 2
order level.Range = 3
order level.Relation = 4
order level.Membership = 5
order level.Equality = 6
order level.ArrayComparison = 7
order level.Conjunction = 8
order level.Disjunction = 9

-- of a token that is no operator between two operands
abbrev pub other_rank : Option TokenKind → ℕ
other_rank (Some (k.Symbol s.Dot)) = 0
other_rank (Some (k.Symbol s.OpenBracket)) = 0
other_rank (Some (k.Symbol s.OpenParen)) = 0
other_rank (Some (k.Symbol s.Range)) = 3
other_rank (Some (k.Keyword w.All)) = 7
other_rank (Some (k.Keyword w.Any)) = 7
other_rank (Some (k.Keyword w.None)) = 7
other_rank (Some (k.Symbol s.Question)) = 10
other_rank other = 11

abbrev pub rank_by : Option (Precedence × BinOp) → Option TokenKind → ℕ
rank_by (Some p) t = order p.0
rank_by None t = other_rank t

-- what the tokens would go on with after an operand: 0 for a step or a call, 10 for the ternary, 11
-- for nothing, and between them the precedences
unfoldable pub rank : Tokens → ℕ
rank i = rank_by (operator_ahead i) (head i)

abbrev pub Follow : ℕ → Tokens → Type 0
Follow level ts = level < rank ts

-- after a whole expression
abbrev pub Ends : Tokens → Type 0
Ends ts = 10 < rank ts

found_rank : (precedence : Precedence) (found : Option (Precedence × BinOp)) (t : Option TokenKind)
    → has_precedence precedence found ≡ true → rank_by found t ≡ order precedence
found_rank precedence (Some p) t h = ap order (found_precedence precedence (Some p) h)
found_rank precedence None t h = absurd (cc)

pub operator_rank : (precedence : Precedence) (ts : Tokens) → sees_operator precedence ts ≡ true
    → rank ts ≡ order precedence
unfolding sees_operator rank
operator_rank precedence ts h = found_rank precedence (operator_ahead ts) (head ts) h

-- no operator of a precedence stands where only looser ones may
pub no_operator : (precedence : Precedence) (ts : Tokens) → Follow (order precedence) ts
    → sees_operator precedence ts ≡ false
no_operator precedence ts h =
    ⊎_elim (λ t. let e = operator_rank precedence ts t in absurd (omega arith)) (λ f. f)
    (decide (sees_operator precedence ts))

pub quantifier_rank : (q : QuantKind) (a b : Tokens) → IsQuantifier q a b → rank a ≡ 7
unfolding rank operator_ahead
quantifier_rank q a b IsQuantifier.all = refl
quantifier_rank q a b IsQuantifier.any = refl
quantifier_rank q a b IsQuantifier.none = refl

pub no_quantifier : (ts : Tokens) → 7 < rank ts → begins_quantifier (head ts) ≡ false
unfolding rank operator_ahead
no_quantifier [] h = refl
no_quantifier (k.Keyword w.All ∷ ts) h = absurd (omega arith)
no_quantifier (k.Keyword w.Any ∷ ts) h = absurd (omega arith)
no_quantifier (k.Keyword w.None ∷ ts) h = absurd (omega arith)
no_quantifier (k.Keyword _ ∷ ts) h = refl
no_quantifier (k.Symbol v ∷ ts) h = refl
no_quantifier (k.Number n ∷ ts) h = refl
no_quantifier (k.Word v ∷ ts) h = refl
no_quantifier (k.Quoted v ∷ ts) h = refl
no_quantifier (k.Text v ∷ ts) h = refl

-- a symbol of a lower rank doesn't stand there
pub unseen : (symbol : Symbol) (n : ℕ) (ts : Tokens) → rank (k.Symbol symbol ∷ next ts) ≡ n → n < rank ts
    → sees symbol ts ≡ false
unseen symbol n ts e h = not_seen symbol ts (λ here. let same : rank ts ≡ rank (k.Symbol symbol ∷ next ts) =
    ap rank here in omega arith)

pub no_call : (ts : Tokens) → 0 < rank ts → sees s.OpenParen ts ≡ false
unfolding rank operator_ahead
no_call ts h = unseen s.OpenParen 0 ts refl h

pub no_range : (ts : Tokens) → 3 < rank ts → sees s.Range ts ≡ false
unfolding rank operator_ahead
no_range ts h = unseen s.Range 3 ts refl h

pub no_question : (ts : Tokens) → 10 < rank ts → sees s.Question ts ≡ false
unfolding rank operator_ahead
no_question ts h = unseen s.Question 10 ts refl h

pub no_step : (ts : Tokens) → 0 < rank ts → begins_step (head ts) ≡ false
unfolding rank operator_ahead
no_step [] h = refl
no_step (k.Symbol s.Dot ∷ ts) h = absurd (omega arith)
no_step (k.Symbol s.OpenBracket ∷ ts) h = absurd (omega arith)
no_step (k.Symbol _ ∷ ts) h = refl
no_step (k.Keyword v ∷ ts) h = refl
no_step (k.Number n ∷ ts) h = refl
no_step (k.Word v ∷ ts) h = refl
no_step (k.Quoted v ∷ ts) h = refl
no_step (k.Text v ∷ ts) h = refl
