-- Expressions and whole queries: what is read is spelt so.
use Rattle.std.proofs.Common.{◌≡◌, ℕ, zero, suc, Bool, true, false, List, [], ◌∷◌}
use Rattle.std.proofs.Common.{length, Option, Some, None, ◌⊎◌, inl, inr, ⊎_elim, refl, sym}
use Rattle.std.proofs.Common.{subst}
use Rattle.aql_lex.specs.declared.kinds.TokenKind.TheVariants as k
use Rattle.aql_lex.specs.declared.vocabulary.Symbol.{Symbol}
use Rattle.aql_lex.specs.declared.vocabulary.Symbol.TheVariants as s
use Rattle.aql_lex.specs.declared.vocabulary.Keyword.{Keyword}
use Rattle.aql_lex.specs.declared.vocabulary.Keyword.TheVariants as w
use Rattle.aql_value.specs.declared.operators.UnaryOp.{UnaryOp}
use Rattle.aql_tree.specs.Tree.{ExprTree, QueryTree, unary_of, range_of, subquery}
use Rattle.aql_tree.specs.Tree as tree
use Rattle.aql_tree.specs.View.{MemberPart, StepPart, LinkPart}
use Rattle.aql_tree.specs.View as part
use Rattle.aql_tree.specs.Build as e
use Rattle.aql_grammar.specs.declared.precedence.Precedence.{Precedence}
use Rattle.aql_grammar.specs.declared.precedence.Precedence.TheVariants as level
use Rattle.aql_grammar.specs.Kinds.{Tokens}
use Rattle.aql_grammar.specs.Spelling.{IsName, AreMany, AreAny}
use Rattle.aql_grammar.specs.Objects.{word_value, IsVariable}
use Rattle.aql_grammar.specs.Expressions.{IsArgument, IsPrimary, IsElementPart, IsStep}
use Rattle.aql_grammar.specs.Expressions.{IsPostfix, IsUnary, IsLink, IsChain, IsRange, IsQuantified}
use Rattle.aql_grammar.specs.Expressions.{IsProduct, IsSum, IsSpan, IsRelation, IsMembership, IsEquality}
use Rattle.aql_grammar.specs.Expressions.{IsArrayComparison, IsConjunction, IsDisjunction, IsConditional}
use Rattle.aql_grammar.specs.Tree.{IsExpr, IsTop}
use Rattle.aql_grammar.specs.Input.{Parser, head, next, at_front, expect, name, comma_list, items, many}
use Rattle.aql_grammar.specs.Reader.{operator, comparison, quantifier, unary_at, begins_step}
use Rattle.aql_grammar.specs.Reader.{begins_query, access_of, chain_of, argument, arguments, call_or_name}
use Rattle.aql_grammar.specs.Reader.{parentheses}
use Rattle.aql_grammar.specs.Reader.{primary, primary_by, members, element, bracket_step, step, step_by}
use Rattle.aql_grammar.specs.Reader.{postfix, apply, unary_from, unary, link, sees_operator, chain, range}
use Rattle.aql_grammar.specs.Reader.{begins_quantifier, array_comparison, product, sum, span, relation}
use Rattle.aql_grammar.specs.Reader.{membership, equality, comparison_level, conjunction, disjunction}
use Rattle.aql_grammar.specs.Reader.{ternary_of, conditional, expr}
use Rattle.aql_grammar.specs.Reader.{query, top}
use Rattle.aql_grammar.specs.laws.Steps.{Sound, bind_some, done, expect_some, eat_cases}
use Rattle.aql_grammar.specs.laws.Steps.{keyword_cases, if_cases, name_sound}
use Rattle.aql_grammar.specs.laws.ListLaws.{separated_sound, items_sound, many_sound, Closed}
use Rattle.aql_grammar.specs.laws.OperatorLaws.{operator_sound, comparison_sound, quantifier_sound}
use Rattle.aql_grammar.specs.laws.OperatorLaws.{unary_sound}
use Rattle.aql_grammar.specs.laws.ClauseSound.{object_sound, query_sound}

apply_cases : {A : Type 0} (o : Option UnaryOp) (f : UnaryOp → Parser A) (p : Parser A) (ts : Tokens)
    (y : A × Tokens) → apply o f p ts ≡ Some y
    → ((op : UnaryOp) × (o ≡ Some op) × (f op ts ≡ Some y)) ⊎ ((o ≡ None) × (p ts ≡ Some y))
apply_cases None f p ts y h = inr (refl, h)
apply_cases (Some op) f p ts y h = inl (op, refl, h)

module _ (R : Bool → Parser ExprTree) (E : Bool → ExprTree → Tokens → Tokens → Type 0)
    (sound : (inside : Bool) → Sound (R inside) (E inside)) (inside : Bool) where
  argument_sound : Sound (argument R inside) (IsArgument E inside)
  unfolding argument
  argument_sound ts y h =
      ⊎_elim
      (λ m. let q = bind_some (query R inside [] ts) _ y m.1 in done (IsArgument E inside) ts
      (subquery q.0.0) q.0.1 y q.2 (IsArgument.query (query_sound R E sound inside [] ts q.0 q.1)))
      (λ m. IsArgument.expr (sound inside ts y m.1))
      (if_cases (begins_query (head ts)) _ _ ts y h)

  arguments_sound : Sound (arguments R inside) (Closed s.CloseParen (AreAny (IsArgument E inside)))
  unfolding arguments
  arguments_sound ts y h =
      ⊎_elim
      (λ m. done (Closed s.CloseParen (AreAny (IsArgument E inside))) ts [] (next ts) y m.1
      (subst (λ r. AreAny (IsArgument E inside) [] ts r) m.0 AreAny.none))
      (λ m.
      let xs = bind_some (comma_list (argument R inside) ts) _ y m.1 in
      let c = bind_some (expect s.CloseParen xs.0.1) _ y xs.2 in
      done (Closed s.CloseParen (AreAny (IsArgument E inside))) ts xs.0.0 c.0.1 y c.2
      (subst (λ r. AreAny (IsArgument E inside) xs.0.0 ts r) (expect_some s.CloseParen xs.0.1 c.0 c.1)
      (AreAny.some (separated_sound (argument R inside) (IsArgument E inside) argument_sound ts xs.0
      xs.1))))
      (eat_cases s.CloseParen _ _ ts y h)

  call_or_name_sound : (v : List ℕ) (ts : Tokens) (y : ExprTree × Tokens)
      → call_or_name R inside v ts ≡ Some y
      → IsPrimary E inside y.0 (k.Word v ∷ ts) y.1
  unfolding call_or_name
  call_or_name_sound v ts y h =
      ⊎_elim
      (λ m.
      let xs = bind_some (arguments R inside (next ts)) _ y m.1 in
      done (IsPrimary E inside) (k.Word v ∷ ts) (e.call v xs.0.0) xs.0.1 y xs.2
      (subst (λ q. IsPrimary E inside (e.call v xs.0.0) (k.Word v ∷ q) xs.0.1) (sym m.0)
      (IsPrimary.call (arguments_sound (next ts) xs.0 xs.1))))
      (λ m. done (IsPrimary E inside) (k.Word v ∷ ts) (word_value inside v) ts y m.1
      (IsPrimary.name IsVariable.word))
      (eat_cases s.OpenParen _ _ ts y h)

  parentheses_sound : (ts : Tokens) (y : ExprTree × Tokens) → parentheses R inside ts ≡ Some y
      → IsPrimary E inside y.0 (k.Symbol s.OpenParen ∷ ts) y.1
  unfolding parentheses
  parentheses_sound ts y h =
      let x = bind_some (argument R inside ts) _ y h in
      let c = bind_some (expect s.CloseParen x.0.1) _ y x.2 in
      done (IsPrimary E inside) (k.Symbol s.OpenParen ∷ ts) x.0.0 c.0.1 y c.2
      (IsPrimary.parentheses (subst (λ r. IsArgument E inside x.0.0 ts r)
      (expect_some s.CloseParen x.0.1 c.0 c.1) (argument_sound ts x.0 x.1)))

  primary_symbol : (symbol : Symbol) (ts : Tokens) (y : ExprTree × Tokens)
      → primary_by R inside (Some (k.Symbol symbol)) (k.Symbol symbol ∷ ts) ≡ Some y
      → IsPrimary E inside y.0 (k.Symbol symbol ∷ ts) y.1
  primary_symbol s.OpenParen ts y h = parentheses_sound ts y h
  primary_symbol s.OpenBracket ts y h =
      let xs = bind_some (items s.CloseBracket (R inside) ts) _ y h in
      done (IsPrimary E inside) (k.Symbol s.OpenBracket ∷ ts) (e.list xs.0.0) xs.0.1 y xs.2
      (IsPrimary.list (items_sound s.CloseBracket (R inside) (E inside) (sound inside) ts xs.0 xs.1))
  primary_symbol s.OpenBrace ts y h =
      let ms = bind_some (members R inside ts) _ y h in
      done (IsPrimary E inside) (k.Symbol s.OpenBrace ∷ ts) (e.object ms.0.0) ms.0.1 y ms.2
      (IsPrimary.object (object_sound R E sound inside ts ms.0 ms.1))
  primary_symbol _ ts y h = absurd (cc)

  primary_keyword : (keyword : Keyword) (ts : Tokens) (y : ExprTree × Tokens)
      → primary_by R inside (Some (k.Keyword keyword)) (k.Keyword keyword ∷ ts) ≡ Some y
      → IsPrimary E inside y.0 (k.Keyword keyword ∷ ts) y.1
  primary_keyword w.Null ts y h = done (IsPrimary E inside) (k.Keyword w.Null ∷ ts) e.null ts y h
      IsPrimary.null
  primary_keyword w.True ts y h = done (IsPrimary E inside) (k.Keyword w.True ∷ ts) (e.boolean true) ts y h
      IsPrimary.true_word
  primary_keyword w.False ts y h = done (IsPrimary E inside) (k.Keyword w.False ∷ ts) (e.boolean false) ts y
      h IsPrimary.false_word
  primary_keyword _ ts y h = absurd (cc)

  primary_sound : Sound (primary R inside) (IsPrimary E inside)
  unfolding primary
  primary_sound [] y h = absurd (cc)
  primary_sound (k.Number n ∷ ts) y h = done (IsPrimary E inside) (k.Number n ∷ ts) (e.number n) ts y h
      IsPrimary.number
  primary_sound (k.Text v ∷ ts) y h = done (IsPrimary E inside) (k.Text v ∷ ts) (e.text v) ts y h
      IsPrimary.text
  primary_sound (k.Quoted v ∷ ts) y h = done (IsPrimary E inside) (k.Quoted v ∷ ts) (e.name v) ts y h
      (IsPrimary.name IsVariable.quoted)
  primary_sound (k.Word v ∷ ts) y h = call_or_name_sound v ts y h
  primary_sound (k.Keyword keyword ∷ ts) y h = primary_keyword keyword ts y h
  primary_sound (k.Symbol symbol ∷ ts) y h = primary_symbol symbol ts y h

  part_sound : (word : Keyword) → Sound (element R inside word) (IsElementPart E inside word)
  unfolding element
  part_sound word ts y h =
      ⊎_elim
      (λ m.
      let x = bind_some (R true (next ts)) _ y m.1 in
      done (IsElementPart E inside word) ts (Some x.0.0) x.0.1 y x.2
      (subst (λ q. IsElementPart E inside word (Some x.0.0) q x.0.1) (sym m.0)
      (IsElementPart.some (sound true (next ts) x.0 x.1))))
      (λ m. done (IsElementPart E inside word) ts None ts y m.1 IsElementPart.none)
      (keyword_cases word _ _ ts y h)

  bracket_sound : (ts : Tokens) (y : StepPart × Tokens) → bracket_step R inside ts ≡ Some y
      → IsStep E inside y.0 (k.Symbol s.OpenBracket ∷ ts) y.1
  unfolding bracket_step
  bracket_sound ts y h =
      ⊎_elim
      (λ m.
      let f = bind_some (element R inside w.Filter (next ts)) _ y m.1 in
      let p = bind_some (element R inside w.Return f.0.1) _ y f.2 in
      let c = bind_some (expect s.CloseBracket p.0.1) _ y p.2 in
      let spelt = IsStep.inline (part_sound w.Filter (next ts) f.0 f.1)
      (subst (λ r. IsElementPart E inside w.Return p.0.0 f.0.1 r) (expect_some s.CloseBracket p.0.1 c.0 c.1)
      (part_sound w.Return f.0.1 p.0 p.1)) in
      done (IsStep E inside) (k.Symbol s.OpenBracket ∷ ts) (part.inline f.0.0 p.0.0) c.0.1 y c.2
      (subst (λ q. IsStep E inside (part.inline f.0.0 p.0.0) (k.Symbol s.OpenBracket ∷ q) c.0.1) (sym m.0)
      spelt))
      (λ m.
      let x = bind_some (R inside ts) _ y m.1 in
      let c = bind_some (expect s.CloseBracket x.0.1) _ y x.2 in
      done (IsStep E inside) (k.Symbol s.OpenBracket ∷ ts) (part.at x.0.0) c.0.1 y c.2
      (IsStep.at (subst (λ r. E inside x.0.0 ts r) (expect_some s.CloseBracket x.0.1 c.0 c.1)
      (sound inside ts x.0 x.1))))
      (eat_cases s.Star _ _ ts y h)

  step_symbol : (symbol : Symbol) (ts : Tokens) (y : StepPart × Tokens)
      → step_by R inside (Some (k.Symbol symbol)) (k.Symbol symbol ∷ ts) ≡ Some y
      → IsStep E inside y.0 (k.Symbol symbol ∷ ts) y.1
  step_symbol s.Dot ts y h =
      let v = bind_some (name ts) _ y h in
      done (IsStep E inside) (k.Symbol s.Dot ∷ ts) (part.name v.0.0) v.0.1 y v.2
      (IsStep.name (name_sound ts v.0 v.1))
  step_symbol s.OpenBracket ts y h = bracket_sound ts y h
  step_symbol _ ts y h = absurd (cc)

  step_sound : Sound (step R inside) (IsStep E inside)
  unfolding step
  step_sound [] y h = absurd (cc)
  step_sound (k.Symbol symbol ∷ ts) y h = step_symbol symbol ts y h
  step_sound (k.Number n ∷ ts) y h = absurd (cc)
  step_sound (k.Word v ∷ ts) y h = absurd (cc)
  step_sound (k.Quoted v ∷ ts) y h = absurd (cc)
  step_sound (k.Text v ∷ ts) y h = absurd (cc)
  step_sound (k.Keyword v ∷ ts) y h = absurd (cc)

  access_spelt : (of : ExprTree) (ps : List StepPart) (a b c : Tokens) → IsPrimary E inside of a b
      → AreMany (IsStep E inside) ps b c → IsPostfix E inside (access_of of ps) a c
  unfolding access_of
  access_spelt of [] a b c h AreMany.none = IsPostfix.alone h
  access_spelt of (p ∷ ps) a b c h more = IsPostfix.with_steps h more

  postfix_sound : Sound (postfix R inside) (IsPostfix E inside)
  unfolding postfix
  postfix_sound ts y h =
      let x = bind_some (primary R inside ts) _ y h in
      let ps = bind_some (many (at_front begins_step) (step R inside) x.0.1) _ y x.2 in
      done (IsPostfix E inside) ts (access_of x.0.0 ps.0.0) ps.0.1 y ps.2
      (access_spelt x.0.0 ps.0.0 ts x.0.1 ps.0.1 (primary_sound ts x.0 x.1)
      (many_sound (at_front begins_step) (step R inside) (IsStep E inside)
      (λ r z on read. step_sound r z read) x.0.1 ps.0 ps.1))

  unary_from_sound : (n : ℕ) → Sound (unary_from R inside n) (IsUnary E inside)
  unfolding unary_from
  unary_from_sound zero ts y h = absurd (cc)
  unary_from_sound (suc n) ts y h =
      ⊎_elim
      (λ m.
      let x = bind_some (unary_from R inside n (next ts)) _ y m.2 in
      done (IsUnary E inside) ts (unary_of m.0 x.0.0) x.0.1 y x.2 (IsUnary.applied (unary_sound ts m.0 m.1)
      (unary_from_sound n (next ts) x.0 x.1)))
      (λ m. IsUnary.postfix (postfix_sound ts y m.1))
      (apply_cases (unary_at (head ts)) _ _ ts y h)

  pub unary_rule_sound : Sound (unary R inside) (IsUnary E inside)
  unfolding unary
  unary_rule_sound ts y h = unary_from_sound (length ts) ts y h

-- ---- one level over another

chain_spelt : (precedence : Precedence) (P : ExprTree → Tokens → Tokens → Type 0) (first : ExprTree)
    (ls : List LinkPart) (a b c : Tokens) → P first a b → AreMany (IsLink precedence P) ls b c
    → IsChain precedence P (chain_of first ls) a c
unfolding chain_of
chain_spelt precedence P first [] a b c h AreMany.none = IsChain.alone h
chain_spelt precedence P first (l ∷ ls) a b c h more = IsChain.with_links h more

module _ (R : Parser ExprTree) (P : ExprTree → Tokens → Tokens → Type 0) (sound : Sound R P) where
  link_sound : (precedence : Precedence) (ts : Tokens) (y : LinkPart × Tokens)
      → sees_operator precedence ts ≡ true
      → link R ts ≡ Some y → IsLink precedence P y.0 ts y.1
  unfolding link
  link_sound precedence ts y on h =
      let o = bind_some (operator ts) _ y h in
      let x = bind_some (R o.0.1) _ y o.2 in
      done (IsLink precedence P) ts (e.link o.0.0 x.0.0) x.0.1 y x.2
      (IsLink.link (operator_sound precedence ts o.0 on o.1) (sound o.0.1 x.0 x.1))

  pub chain_sound : (precedence : Precedence) → Sound (chain precedence R) (IsChain precedence P)
  unfolding chain
  chain_sound precedence ts y h =
      let x = bind_some (R ts) _ y h in
      let ls = bind_some (many (sees_operator precedence) (link R) x.0.1) _ y x.2 in
      done (IsChain precedence P) ts (chain_of x.0.0 ls.0.0) ls.0.1 y ls.2
      (chain_spelt precedence P x.0.0 ls.0.0 ts x.0.1 ls.0.1 (sound ts x.0 x.1)
      (many_sound (sees_operator precedence) (link R) (IsLink precedence P)
      (link_sound precedence) x.0.1 ls.0 ls.1))

  pub range_sound : Sound (range R) (IsRange P)
  unfolding range
  range_sound ts y h =
      let x = bind_some (R ts) _ y h in
      ⊎_elim
      (λ m.
      let z = bind_some (R (next x.0.1)) _ y m.1 in
      done (IsRange P) ts (range_of x.0.0 z.0.0) z.0.1 y z.2
      (IsRange.range (subst (λ r. P x.0.0 ts r) m.0 (sound ts x.0 x.1)) (sound (next x.0.1) z.0 z.1)))
      (λ m. done (IsRange P) ts x.0.0 x.0.1 y m.1 (IsRange.alone (sound ts x.0 x.1)))
      (eat_cases s.Range _ _ x.0.1 y x.2)

  pub quantified_sound : Sound (array_comparison R) (IsQuantified P)
  unfolding array_comparison
  quantified_sound ts y h =
      let x = bind_some (R ts) _ y h in
      ⊎_elim
      (λ m.
      let q = bind_some (quantifier x.0.1) _ y m.1 in
      let o = bind_some (comparison q.0.1) _ y q.2 in
      let z = bind_some (R o.0.1) _ y o.2 in
      done (IsQuantified P) ts (tree.array_comparison x.0.0 q.0.0 o.0.0 z.0.0) z.0.1 y z.2
      (IsQuantified.array_comparison (sound ts x.0 x.1) (quantifier_sound x.0.1 q.0 q.1)
      (comparison_sound q.0.1 o.0 o.1) (sound o.0.1 z.0 z.1)))
      (λ m. done (IsQuantified P) ts x.0.0 x.0.1 y m.1 (IsQuantified.alone (sound ts x.0 x.1)))
      (if_cases (begins_quantifier (head x.0.1)) _ _ x.0.1 y x.2)

module _ (R : Bool → Parser ExprTree) (E : Bool → ExprTree → Tokens → Tokens → Type 0)
    (sound : (inside : Bool) → Sound (R inside) (E inside)) (inside : Bool) where
  product_sound : Sound (product R inside) (IsProduct E inside)
  unfolding product
  product_sound = chain_sound (unary R inside) (IsUnary E inside)
      (unary_rule_sound R E sound inside) level.Product

  sum_sound : Sound (sum R inside) (IsSum E inside)
  unfolding sum
  sum_sound = chain_sound (product R inside) (IsProduct E inside) product_sound level.Sum

  span_sound : Sound (span R inside) (IsSpan E inside)
  unfolding span
  span_sound = range_sound (sum R inside) (IsSum E inside) sum_sound

  relation_sound : Sound (relation R inside) (IsRelation E inside)
  unfolding relation
  relation_sound = chain_sound (span R inside) (IsSpan E inside) span_sound level.Relation

  membership_sound : Sound (membership R inside) (IsMembership E inside)
  unfolding membership
  membership_sound = chain_sound (relation R inside) (IsRelation E inside) relation_sound level.Membership

  equality_sound : Sound (equality R inside) (IsEquality E inside)
  unfolding equality
  equality_sound = chain_sound (membership R inside) (IsMembership E inside) membership_sound level.Equality

  comparison_level_sound : Sound (comparison_level R inside) (IsArrayComparison E inside)
  unfolding comparison_level
  comparison_level_sound = quantified_sound (equality R inside) (IsEquality E inside) equality_sound

  conjunction_sound : Sound (conjunction R inside) (IsConjunction E inside)
  unfolding conjunction
  conjunction_sound = chain_sound (comparison_level R inside)
      (IsArrayComparison E inside) comparison_level_sound
      level.Conjunction

  disjunction_sound : Sound (disjunction R inside) (IsDisjunction E inside)
  unfolding disjunction
  disjunction_sound = chain_sound (conjunction R inside)
      (IsConjunction E inside) conjunction_sound level.Disjunction

  choice_sound : (test : ExprTree) (a ts : Tokens) (y : ExprTree × Tokens) → IsDisjunction E inside test a
      (k.Symbol s.Question ∷ ts) → ternary_of R inside test ts ≡ Some y → IsConditional E inside y.0 a y.1
  unfolding ternary_of
  choice_sound test a ts y spelt h =
      ⊎_elim
      (λ m.
      let z = bind_some (R inside (next ts)) _ y m.1 in
      done (IsConditional E inside) a (e.conditional test None z.0.0) z.0.1 y z.2
      (IsConditional.short (subst (λ r. IsDisjunction E inside test a (k.Symbol s.Question ∷ r)) m.0 spelt)
      (sound inside (next ts) z.0 z.1)))
      (λ m.
      let x = bind_some (R inside ts) _ y m.1 in
      let c = bind_some (expect s.Colon x.0.1) _ y x.2 in
      let z = bind_some (R inside c.0.1) _ y c.2 in
      done (IsConditional E inside) a (e.conditional test (Some x.0.0) z.0.0) z.0.1 y z.2
      (IsConditional.full spelt (subst (λ r. E inside x.0.0 ts r) (expect_some s.Colon x.0.1 c.0 c.1)
      (sound inside ts x.0 x.1)) (sound inside c.0.1 z.0 z.1)))
      (eat_cases s.Colon _ _ ts y h)

  pub conditional_sound : Sound (conditional R inside) (IsConditional E inside)
  unfolding conditional
  conditional_sound ts y h =
      let test = bind_some (disjunction R inside ts) _ y h in
      let spelt = disjunction_sound ts test.0 test.1 in
      ⊎_elim
      (λ m. choice_sound test.0.0 ts (next test.0.1) y (subst (λ r. IsDisjunction E inside test.0.0 ts r)
      m.0 spelt) m.1)
      (λ m. done (IsConditional E inside) ts test.0.0 test.0.1 y m.1 (IsConditional.plain spelt))
      (eat_cases s.Question _ _ test.0.1 y test.2)

-- with as much fuel as there is depth
pub expr_sound : (depth : ℕ) (inside : Bool) → Sound (expr depth inside) (IsExpr depth inside)
unfolding expr
expr_sound zero inside ts y h = absurd (cc)
expr_sound (suc depth) inside ts y h = conditional_sound (expr depth) (IsExpr depth) (expr_sound depth)
    inside ts y h

pub top_sound : (fuel : ℕ) → Sound (top fuel) (IsTop (IsExpr fuel))
unfolding top
top_sound fuel ts y h =
    ⊎_elim
    (λ m.
    let ns = bind_some (comma_list name (next ts)) _ y m.1 in
    subst (λ q. IsTop (IsExpr fuel) y.0 q y.1) (sym m.0)
    (IsTop.with_list (separated_sound name IsName name_sound (next ts) ns.0 ns.1)
    (query_sound (expr fuel) (IsExpr fuel) (expr_sound fuel) false ns.0.0 ns.0.1 y ns.2)))
    (λ m. IsTop.plain (query_sound (expr fuel) (IsExpr fuel) (expr_sound fuel) false [] ts y m.1))
    (keyword_cases w.With _ _ ts y h)
