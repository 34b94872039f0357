-- Expressions and whole queries: what is spelt is read.
use Rattle.std.proofs.Common.{◌≡◌, ℕ, zero, suc, ◌<◌, ◌≤◌, Bool, true, false, cond, List, [], ◌∷◌}
use Rattle.std.proofs.Common.{length, Option, Some, None, refl, sym, ap, ◌∙◌}
use Rattle.std.proofs.Common.{subst, arith}
use Rattle.std.specs.Prelude.{◌&&◌, not, ℤ}
use Rattle.aql_lex.specs.declared.kinds.TokenKind.{TokenKind}
use Rattle.aql_lex.specs.declared.kinds.TokenKind.TheVariants as k
use Rattle.aql_lex.specs.declared.vocabulary.Symbol.{Symbol}
use Rattle.aql_lex.specs.declared.vocabulary.Symbol.TheVariants as s
use Rattle.aql_lex.specs.declared.vocabulary.Keyword.{Keyword}
use Rattle.aql_lex.specs.declared.vocabulary.Keyword.TheVariants as w
use Rattle.aql_tree.specs.Tree.{ExprTree, QueryTree, range_of}
use Rattle.aql_tree.specs.View.{StepPart, LinkPart}
use Rattle.aql_tree.specs.Build as e
use Rattle.aql_grammar.specs.declared.precedence.Precedence.{Precedence}
use Rattle.aql_grammar.specs.declared.precedence.Precedence.TheVariants as level
use Rattle.aql_grammar.specs.Kinds.{Tokens}
use Rattle.aql_grammar.specs.Spelling.{IsName, AreMany, AreAny}
use Rattle.aql_grammar.specs.Objects.{IsVariable, IsObject}
use Rattle.aql_grammar.specs.Expressions.{IsArgument, IsPrimary, IsElementPart, IsStep}
use Rattle.aql_grammar.specs.Expressions.{IsPostfix, IsUnary, IsLink, IsChain, IsRange, IsQuantified}
use Rattle.aql_grammar.specs.Expressions.{IsProduct, IsSum, IsSpan, IsRelation, IsMembership, IsEquality}
use Rattle.aql_grammar.specs.Expressions.{IsArrayComparison, IsConjunction, IsDisjunction, IsConditional}
use Rattle.aql_grammar.specs.Tree.{IsExpr, IsTop}
use Rattle.aql_grammar.specs.Input.{Parser, head, next, sees, sees_keyword, same_symbol, same_keyword}
use Rattle.aql_grammar.specs.Input.{at_front, is_number, many}
use Rattle.aql_grammar.specs.Reader.{operator_ahead, comparison, begins_comparison, quantifier}
use Rattle.aql_grammar.specs.Reader.{unary_at, sees_operator, begins_step, begins_direction}
use Rattle.aql_grammar.specs.Reader.{begins_after_number, begins_traversal, access_of, chain_of, argument}
use Rattle.aql_grammar.specs.Reader.{arguments}
use Rattle.aql_grammar.specs.Reader.{call_or_name, parentheses, primary, element, bracket_step, step, postfix}
use Rattle.aql_grammar.specs.Reader.{unary_from, unary, link, chain, range, array_comparison, product, sum}
use Rattle.aql_grammar.specs.Reader.{span, relation}
use Rattle.aql_grammar.specs.Reader.{membership, equality, comparison_level, conjunction, disjunction}
use Rattle.aql_grammar.specs.Reader.{ternary_of, conditional, expr, top}
use Rattle.aql_grammar.specs.laws.Steps.{Complete, Shrinks, Always, bind_here, if_true, if_false}
use Rattle.aql_grammar.specs.laws.Steps.{expect_then, eat_then, eat_else, eat_keyword_then}
use Rattle.aql_grammar.specs.laws.Steps.{eat_keyword_else, name_complete, name_shrinks, some_same, Refuses}
use Rattle.aql_grammar.specs.laws.Steps.{not_first, seen}
use Rattle.aql_grammar.specs.laws.ListLaws.{separated_complete, separated_shrinks, separated_first}
use Rattle.aql_grammar.specs.laws.ListLaws.{items_complete, many_complete, many_follow}
use Rattle.aql_grammar.specs.laws.OperatorLaws.{Follow, Ends, operator_read, operator_shrinks}
use Rattle.aql_grammar.specs.laws.OperatorLaws.{comparison_read, comparison_shrinks, quantifier_read}
use Rattle.aql_grammar.specs.laws.OperatorLaws.{quantifier_shrinks, unary_read, unary_shrinks, no_operator}
use Rattle.aql_grammar.specs.laws.OperatorLaws.{order, rank, operator_rank, quantifier_rank, no_quantifier}
use Rattle.aql_grammar.specs.laws.OperatorLaws.{no_call, no_range, no_question, no_step}
use Rattle.aql_grammar.specs.laws.Shrinking.{argument_shrinks, part_falls, primary_shrinks, step_shrinks}
use Rattle.aql_grammar.specs.laws.Shrinking.{unary_rule_shrinks, link_shrinks}
use Rattle.aql_grammar.specs.laws.Shrinking.{product_shrinks, sum_shrinks, span_shrinks, relation_shrinks}
use Rattle.aql_grammar.specs.laws.Shrinking.{membership_shrinks, equality_shrinks, comparison_level_shrinks}
use Rattle.aql_grammar.specs.laws.Shrinking.{conjunction_shrinks, disjunction_shrinks, expr_shrinks}
use Rattle.aql_grammar.specs.laws.Ending.{ends_by, comma_ends, paren_ends, bracket_ends, colon_ends}
use Rattle.aql_grammar.specs.laws.Ending.{return_ends, nothing_ends, stop_no_symbol, stop_no_keyword}
use Rattle.aql_grammar.specs.laws.Ending.{Starts, is_refused, is_refused_keyword, no_query_first}
use Rattle.aql_grammar.specs.laws.ClauseComplete.{members_complete, names_read, query_complete}
use Rattle.aql_grammar.specs.laws.ClauseComplete.{query_begins}

module _ (R : Bool → Parser ExprTree) (E : Bool → ExprTree → Tokens → Tokens → Type 0) (bound : ℕ)
    (complete : (inside : Bool) → Complete (R inside) (E inside) Ends bound)
    (shrinks : (inside : Bool) → Shrinks (E inside)) (starts : (inside : Bool) → Starts (R inside))
    (inside : Bool) where
  argument_complete : Complete (argument R inside) (IsArgument E inside) Ends bound
  unfolding argument
  argument_complete x a b short (IsArgument.expr h) ends =
      let read = complete inside x a b short h ends in
      if_false _ _ _ a _ (no_query_first (R inside) (starts inside) a (x, b) read) read
  argument_complete x a b short (IsArgument.query {q = q} h) ends =
      if_true _ _ _ a _ (query_begins R E bound complete shrinks starts inside [] q a b h)
      (bind_here _ _ (q, b) _ (query_complete R E bound complete shrinks starts inside [] q a b
      (omega arith) h ends) refl)

  argument_no_paren : Refuses (argument R inside) (k.Symbol s.CloseParen)
  unfolding argument
  argument_no_paren ts = (starts inside).no_symbol s.CloseParen refl ts

  paren_apart : (ts : Tokens) → sees s.Comma (k.Symbol s.CloseParen ∷ ts) ≡ false
  unfolding sees same_symbol
  paren_apart ts = refl

  bracket_apart : (ts : Tokens) → sees s.Comma (k.Symbol s.CloseBracket ∷ ts) ≡ false
  unfolding sees same_symbol
  bracket_apart ts = refl

  arguments_complete : (xs : List ExprTree) (a b : Tokens) → length a ≤ bound → AreAny (IsArgument E inside)
      xs a (k.Symbol s.CloseParen ∷ b) → arguments R inside a ≡ Some (xs, b)
  unfolding arguments
  arguments_complete xs a b short AreAny.none = eat_then s.CloseParen _ _ b _ refl
  arguments_complete xs a b short (AreAny.some h) =
      eat_else s.CloseParen _ _ a _
      (separated_first (argument R inside) (IsArgument E inside) Ends bound argument_complete
      (argument_shrinks E shrinks inside) comma_ends s.CloseParen argument_no_paren xs a _ h short
      (paren_ends b))
      (bind_here _ _ (xs, k.Symbol s.CloseParen ∷ b) _
      (separated_complete (argument R inside) (IsArgument E inside) Ends bound argument_complete
      (argument_shrinks E shrinks inside) comma_ends xs a _ h short (paren_ends b) (paren_apart b))
      (expect_then s.CloseParen b _ _ refl))

  variable_complete : (v : List ℕ) (x : ExprTree) (a b : Tokens) → IsVariable inside v x a b
      → sees s.OpenParen b ≡ false → primary R inside a ≡ Some (x, b)
  unfolding primary call_or_name
  variable_complete v x a b IsVariable.word f = eat_else s.OpenParen _ _ b _ f refl
  variable_complete v x a b IsVariable.quoted f = refl

  primary_complete : Complete (primary R inside) (IsPrimary E inside) (λ ts. sees s.OpenParen ts ≡ false)
      (suc bound)
  unfolding primary call_or_name parentheses
  primary_complete x a b short IsPrimary.number f = refl
  primary_complete x a b short IsPrimary.text f = refl
  primary_complete x a b short IsPrimary.null f = refl
  primary_complete x a b short IsPrimary.true_word f = refl
  primary_complete x a b short IsPrimary.false_word f = refl
  primary_complete x a b short (IsPrimary.name {v = v} h) f = variable_complete v x a b h f
  primary_complete x a b short (IsPrimary.call {xs = xs} {a = c} h) f =
      eat_then s.OpenParen _ _ c _ (bind_here _ _ (xs, b) _ (arguments_complete xs c b (omega arith) h)
      refl)
  primary_complete x a b short (IsPrimary.list {xs = xs} {a = c} h) f =
      bind_here _ _ (xs, b) _
      (items_complete (R inside) (E inside) Ends bound (complete inside) (shrinks inside) comma_ends
      s.CloseBracket ((starts inside).no_symbol s.CloseBracket refl) bracket_ends bracket_apart xs c b h
      (omega arith)) refl
  primary_complete x a b short (IsPrimary.object {ms = ms} (IsObject.object {a = c} h)) f =
      bind_here _ _ (ms, b) _ (members_complete R E bound complete shrinks starts inside ms c b h
      (omega arith)) refl
  primary_complete x a b short (IsPrimary.parentheses {a = c} h) f =
      bind_here _ _ (x, k.Symbol s.CloseParen ∷ b) _ (argument_complete x c _ (omega arith) h
      (paren_ends b)) (expect_then s.CloseParen b _ _ refl)

  part_complete : (word : Keyword) (f : Option ExprTree) (a b : Tokens) → length a ≤ bound
      → IsElementPart E inside word f a b → Ends b → sees_keyword word b ≡ false
      → element R inside word a ≡ Some (f, b)
  unfolding element
  part_complete word f a b short IsElementPart.none ends other = eat_keyword_else word _ _ a _ other refl
  part_complete word f a b short (IsElementPart.some {x = x} {a = c} h) ends other =
      eat_keyword_then word _ _ c _ (bind_here _ _ (x, b) _ (complete true x c b (omega arith) h ends)
      refl)

  -- what stands after the filter of an inline expression
  return_front : (p : Option ExprTree) (a b : Tokens) → IsElementPart E inside w.Return p a
      (k.Symbol s.CloseBracket ∷ b) → Ends a × (sees_keyword w.Filter a ≡ false)
  unfolding sees_keyword same_keyword
  return_front p a b IsElementPart.none = (bracket_ends b, refl)
  return_front p a b (IsElementPart.some {a = c} h) = (return_ends c, refl)

  bracket_no_return : (ts : Tokens) → sees_keyword w.Return (k.Symbol s.CloseBracket ∷ ts) ≡ false
  unfolding sees_keyword
  bracket_no_return ts = refl

  step_complete : Complete (step R inside) (IsStep E inside) Always (suc bound)
  unfolding step bracket_step
  step_complete p a b short (IsStep.name {v = v} {a = c} h) f = bind_here _ _ (v, b) _
      (name_complete v c b h) refl
  step_complete p a b short (IsStep.at {x = x} {a = c} h) f =
      let read = complete inside x c _ (omega arith) h (bracket_ends b) in
      eat_else s.Star _ _ c _ (not_first (R inside) s.Star ((starts inside).no_symbol s.Star refl) c _ read)
      (bind_here _ _ (x, k.Symbol s.CloseBracket ∷ b) _ read (expect_then s.CloseBracket b _ _ refl))
  step_complete p a b short (IsStep.inline {f = f} {p = q} {a = c} {b = d} h g) always =
      let fall = part_falls E shrinks inside w.Filter f c d h in
      let front = return_front q d b g in
      eat_then s.Star _ _ c _
      (bind_here _ _ (f, d) _ (part_complete w.Filter f c d (omega arith) h front.0 front.1)
      (bind_here _ _ (q, k.Symbol s.CloseBracket ∷ b) _
      (part_complete w.Return q d _ (omega arith) g (bracket_ends b) (bracket_no_return b))
      (expect_then s.CloseBracket b _ _ refl)))

  step_begins : (p : StepPart) (a b : Tokens) → IsStep E inside p a b → at_front begins_step a ≡ true
  step_begins p a b (IsStep.name h) = refl
  step_begins p a b (IsStep.at h) = refl
  step_begins p a b (IsStep.inline h g) = refl

  steps_complete : (ps : List StepPart) (a b : Tokens) → AreMany (IsStep E inside) ps a b
      → length a ≤ suc bound → 0 < rank b → many (at_front begins_step) (step R inside) a ≡ Some (ps, b)
  steps_complete ps a b h short f =
      many_complete (at_front begins_step) (step R inside) (IsStep E inside) Always (suc bound)
      step_complete (step_shrinks E shrinks inside) step_begins (λ ts on. tt) ps a b h short tt
      (no_step b f)

  step_no_call : (p : StepPart) (a b : Tokens) → IsStep E inside p a b → sees s.OpenParen a ≡ false
  unfolding sees same_symbol
  step_no_call p a b (IsStep.name h) = refl
  step_no_call p a b (IsStep.at h) = refl
  step_no_call p a b (IsStep.inline h g) = refl

  steps_no_call : (p : StepPart) (ps : List StepPart) (a b : Tokens) → AreMany (IsStep E inside) (p ∷ ps) a
      b → sees s.OpenParen a ≡ false
  steps_no_call p ps a b (AreMany.one {b = c} h others) = step_no_call p a c h

  postfix_complete : Complete (postfix R inside) (IsPostfix E inside) (Follow 0) (suc bound)
  unfolding postfix access_of
  postfix_complete x a b short (IsPostfix.alone h) f =
      bind_here _ _ (x, b) _ (primary_complete x a b short h (no_call b f))
      (bind_here _ _ ([], b) _
      (steps_complete [] b b AreMany.none (let i = primary_shrinks E shrinks inside x a b h in omega
      arith) f) refl)
  postfix_complete x a b short (IsPostfix.with_steps {x = of} {p = p} {ps = ps} {b = c} h others) f =
      let i = primary_shrinks E shrinks inside of a c h in
      bind_here _ _ (of, c) _ (primary_complete of a c short h (steps_no_call p ps c b others))
      (bind_here _ _ (p ∷ ps, b) _ (steps_complete (p ∷ ps) c b others (omega arith) f) refl)

  variable_no_unary : (v : List ℕ) (x : ExprTree) (a b : Tokens) → IsVariable inside v x a b
      → unary_at (head a) ≡ None
  variable_no_unary v x a b IsVariable.word = refl
  variable_no_unary v x a b IsVariable.quoted = refl

  primary_no_unary : (x : ExprTree) (a b : Tokens) → IsPrimary E inside x a b → unary_at (head a) ≡ None
  primary_no_unary x a b IsPrimary.number = refl
  primary_no_unary x a b IsPrimary.text = refl
  primary_no_unary x a b IsPrimary.null = refl
  primary_no_unary x a b IsPrimary.true_word = refl
  primary_no_unary x a b IsPrimary.false_word = refl
  primary_no_unary x a b (IsPrimary.name {v = v} h) = variable_no_unary v x a b h
  primary_no_unary x a b (IsPrimary.call h) = refl
  primary_no_unary x a b (IsPrimary.list h) = refl
  primary_no_unary x a b (IsPrimary.object (IsObject.object h)) = refl
  primary_no_unary x a b (IsPrimary.parentheses h) = refl

  postfix_no_unary : (x : ExprTree) (a b : Tokens) → IsPostfix E inside x a b → unary_at (head a) ≡ None
  postfix_no_unary x a b (IsPostfix.alone h) = primary_no_unary x a b h
  postfix_no_unary x a b (IsPostfix.with_steps {x = of} {b = c} h others) = primary_no_unary of a c h

  unary_from_complete : (n : ℕ) (x : ExprTree) (a b : Tokens) → length a ≤ n → length a ≤ suc bound
      → IsUnary E inside x a b → Follow 0 b → unary_from R inside n a ≡ Some (x, b)
  unfolding unary_from
  unary_from_complete zero x a b few short h f = let i = unary_rule_shrinks E shrinks inside x a b h in
      absurd (omega arith)
  unary_from_complete (suc n) x a b few short (IsUnary.postfix h) f = rw (postfix_no_unary x a b h)
      (postfix_complete x a b short h f)
  unary_from_complete (suc n) x a b few short (IsUnary.applied {op = op} {x = of} {b = c} o h) f =
      let there = unary_read op a c o in
      let i = unary_shrinks op a c o in
      rw there.0 (bind_here _ _ (of, b) _ (ap (unary_from R inside n) there.1 ∙ unary_from_complete n of c b
      (omega arith) (omega arith) h f) refl)

  unary_complete : Complete (unary R inside) (IsUnary E inside) (Follow 0) (suc bound)
  unfolding unary
  unary_complete x a b short h f = unary_from_complete (length a) x a b (omega arith) short h f

-- ---- one level over another

module _ (R : Parser ExprTree) (P : ExprTree → Tokens → Tokens → Type 0) (bound below : ℕ)
    (precedence : Precedence) (above : below < order precedence)
    (complete : Complete R P (Follow below) bound) (shrinks : Shrinks P) where
  link_complete : Complete (link R) (IsLink precedence P) (Follow below) bound
  unfolding link
  link_complete l a b short (IsLink.link {op = op} {x = x} {b = c} o h) f =
      let i = operator_shrinks precedence op a c o in
      bind_here _ _ (op, c) _ (operator_read precedence op a c o).1
      (bind_here _ _ (x, b) _ (complete x c b (omega arith) h f) refl)

  link_begins : (l : LinkPart) (a b : Tokens) → IsLink precedence P l a b → sees_operator precedence a ≡ true
  link_begins l a b (IsLink.link {op = op} {b = c} o h) = (operator_read precedence op a c o).0

  level_follows : (ts : Tokens) → sees_operator precedence ts ≡ true → Follow below ts
  level_follows ts on = let e = operator_rank precedence ts on in omega arith

  pub chain_complete : Complete (chain precedence R) (IsChain precedence P) (Follow (order precedence)) bound
  unfolding chain chain_of
  chain_complete x a b short (IsChain.alone h) f =
      let i = shrinks x a b h in
      let g : Follow below b = omega arith in
      bind_here _ _ (x, b) _ (complete x a b short h g)
      (bind_here _ _ ([], b) _
      (many_complete (sees_operator precedence) (link R) (IsLink precedence P)
      (Follow below) bound link_complete
      (link_shrinks P shrinks precedence) link_begins level_follows [] b b AreMany.none (omega arith) g
      (no_operator precedence b f)) refl)
  chain_complete x a b short (IsChain.with_links {x = first} {l = l} {ls = ls} {b = c} h others) f =
      let i = shrinks first a c h in
      let g : Follow below b = omega arith in
      bind_here _ _ (first, c) _
      (complete first a c short h
      (many_follow (sees_operator precedence) (link R) (IsLink precedence P) (Follow below)
      bound link_complete (link_shrinks P shrinks precedence) link_begins level_follows (l ∷ ls) c b others
      g))
      (bind_here _ _ (l ∷ ls, b) _
      (many_complete (sees_operator precedence) (link R) (IsLink precedence P)
      (Follow below) bound link_complete
      (link_shrinks P shrinks precedence) link_begins level_follows (l ∷ ls) c b others (omega arith) g
      (no_operator precedence b f)) refl)

range_follows : (ts : Tokens) → Follow 2 (k.Symbol s.Range ∷ ts)
unfolding rank operator_ahead
range_follows ts = let e : rank (k.Symbol s.Range ∷ ts) ≡ 3 = refl in omega arith

question_follows : (ts : Tokens) → Follow 9 (k.Symbol s.Question ∷ ts)
unfolding rank operator_ahead
question_follows ts = let e : rank (k.Symbol s.Question ∷ ts) ≡ 10 = refl in omega arith

module _ (R : Parser ExprTree) (P : ExprTree → Tokens → Tokens → Type 0) (bound : ℕ) (shrinks : Shrinks P)
  where
    range_complete : Complete R P (Follow 2) bound → Complete (range R) (IsRange P) (Follow 3) bound
    unfolding range
    range_complete complete x a b short (IsRange.alone h) f =
        let g : Follow 2 b = omega arith in
        bind_here _ _ (x, b) _ (complete x a b short h g) (eat_else s.Range _ _ b _ (no_range b f) refl)
    range_complete complete x a b short (IsRange.range {x = low} {y = high} {b = c} h g) f =
        let i = shrinks low a (k.Symbol s.Range ∷ c) h in
        let after : Follow 2 b = omega arith in
        bind_here _ _ (low, k.Symbol s.Range ∷ c) _ (complete low a _ short h (range_follows c))
        (eat_then s.Range _ _ c _ (bind_here _ _ (high, b) _ (complete high c b (omega arith) g after) refl))

    quantified_complete : Complete R P (Follow 6) bound → Complete (array_comparison R) (IsQuantified P)
        (Follow 7) bound
    unfolding array_comparison
    quantified_complete complete x a b short (IsQuantified.alone h) f =
        let g : Follow 6 b = omega arith in
        bind_here _ _ (x, b) _ (complete x a b short h g) (if_false _ _ _ b _ (no_quantifier b f) refl)
    quantified_complete complete x a b short
        (IsQuantified.array_comparison {x = left} {y = right} {kind = kind}
        {op = op} {b = c} {c = d} {d = r} h q o g) f =
        let there = quantifier_read kind c d q in
        let rank_here = quantifier_rank kind c d q in
        let i = shrinks left a c h in
        let j = quantifier_shrinks kind c d q in
        let l = comparison_shrinks op d r o in
        let before : Follow 6 c = omega arith in
        let after : Follow 6 b = omega arith in
        bind_here _ _ (left, c) _ (complete left a c short h before)
        (if_true _ _ _ c _ there.0
        (bind_here _ _ (kind, d) _ there.1
        (bind_here _ _ (op, r) _ (comparison_read op d r o).1
        (bind_here _ _ (right, b) _ (complete right r b (omega arith) g after) refl))))

module _ (R : Bool → Parser ExprTree) (E : Bool → ExprTree → Tokens → Tokens → Type 0) (bound : ℕ)
    (complete : (inside : Bool) → Complete (R inside) (E inside) Ends bound)
    (shrinks : (inside : Bool) → Shrinks (E inside)) (starts : (inside : Bool) → Starts (R inside))
    (inside : Bool) where
  product_complete : Complete (product R inside) (IsProduct E inside) (Follow 1) (suc bound)
  unfolding product
  product_complete = chain_complete (unary R inside) (IsUnary E inside) (suc bound) 0 level.Product
      (omega arith)
      (unary_complete R E bound complete shrinks starts inside) (unary_rule_shrinks E shrinks inside)

  sum_complete : Complete (sum R inside) (IsSum E inside) (Follow 2) (suc bound)
  unfolding sum
  sum_complete = chain_complete (product R inside) (IsProduct E inside) (suc bound) 1 level.Sum (omega arith)
      product_complete (product_shrinks E shrinks inside)

  span_complete : Complete (span R inside) (IsSpan E inside) (Follow 3) (suc bound)
  unfolding span
  span_complete = range_complete (sum R inside) (IsSum E inside) (suc bound)
      (sum_shrinks E shrinks inside) sum_complete

  relation_complete : Complete (relation R inside) (IsRelation E inside) (Follow 4) (suc bound)
  unfolding relation
  relation_complete = chain_complete (span R inside) (IsSpan E inside) (suc bound) 3 level.Relation
      (omega arith)
      span_complete (span_shrinks E shrinks inside)

  membership_complete : Complete (membership R inside) (IsMembership E inside) (Follow 5) (suc bound)
  unfolding membership
  membership_complete = chain_complete (relation R inside) (IsRelation E inside)
      (suc bound) 4 level.Membership
      (omega arith) relation_complete (relation_shrinks E shrinks inside)

  pub equality_complete : Complete (equality R inside) (IsEquality E inside) (Follow 6) (suc bound)
  unfolding equality
  equality_complete = chain_complete (membership R inside) (IsMembership E inside)
      (suc bound) 5 level.Equality
      (omega arith) membership_complete (membership_shrinks E shrinks inside)

  comparison_level_complete : Complete (comparison_level R inside) (IsArrayComparison E inside) (Follow 7)
      (suc bound)
  unfolding comparison_level
  comparison_level_complete = quantified_complete (equality R inside) (IsEquality E inside) (suc bound)
      (equality_shrinks E shrinks inside) equality_complete

  conjunction_complete : Complete (conjunction R inside) (IsConjunction E inside) (Follow 8) (suc bound)
  unfolding conjunction
  conjunction_complete = chain_complete (comparison_level R inside) (IsArrayComparison E inside)
      (suc bound) 7 level.Conjunction
      (omega arith) comparison_level_complete (comparison_level_shrinks E shrinks inside)

  disjunction_complete : Complete (disjunction R inside) (IsDisjunction E inside) (Follow 9) (suc bound)
  unfolding disjunction
  disjunction_complete = chain_complete (conjunction R inside) (IsConjunction E inside)
      (suc bound) 8 level.Disjunction
      (omega arith) conjunction_complete (conjunction_shrinks E shrinks inside)

  pub conditional_complete : Complete (conditional R inside) (IsConditional E inside) Ends (suc bound)
  unfolding conditional ternary_of
  conditional_complete x a b short (IsConditional.plain h) ends =
      let f : Follow 9 b = omega arith in
      bind_here _ _ (x, b) _ (disjunction_complete x a b short h f)
      (eat_else s.Question _ _ b _ (no_question b ends) refl)
  conditional_complete x a b short (IsConditional.short {x = test} {z = z} {b = c} h g) ends =
      let i = disjunction_shrinks E shrinks inside test a (k.Symbol s.Question ∷ k.Symbol s.Colon ∷ c) h in
      bind_here _ _ (test, k.Symbol s.Question ∷ k.Symbol s.Colon ∷ c) _
      (disjunction_complete test a _ short h (question_follows _))
      (eat_then s.Question _ _ (k.Symbol s.Colon ∷ c) _
      (eat_then s.Colon _ _ c _ (bind_here _ _ (z, b) _ (complete inside z c b (omega arith) g ends)
      refl)))
  conditional_complete x a b short (IsConditional.full {x = test} {y = y} {z = z} {b = c} {c = d} h g l)
      ends =
      let i = disjunction_shrinks E shrinks inside test a (k.Symbol s.Question ∷ c) h in
      let j = shrinks inside y c (k.Symbol s.Colon ∷ d) g in
      let read = complete inside y c (k.Symbol s.Colon ∷ d) (omega arith) g (colon_ends d) in
      bind_here _ _ (test, k.Symbol s.Question ∷ c) _
      (disjunction_complete test a _ short h (question_follows _))
      (eat_then s.Question _ _ c _
      (eat_else s.Colon _ _ c _ (not_first (R inside) s.Colon ((starts inside).no_symbol s.Colon refl) c _
      read)
      (bind_here _ _ (y, k.Symbol s.Colon ∷ d) _ read
      (expect_then s.Colon d _ _ (bind_here _ _ (z, b) _ (complete inside z d b (omega arith) l ends)
      refl)))))

-- ---- what no expression begins with

chain_none : (precedence : Precedence) (R : Parser ExprTree) (ts : Tokens) → R ts ≡ None
    → chain precedence R ts ≡ None
unfolding chain
chain_none precedence R ts h = rw h refl

range_none : (R : Parser ExprTree) (ts : Tokens) → R ts ≡ None → range R ts ≡ None
unfolding range
range_none R ts h = rw h refl

quantified_none : (R : Parser ExprTree) (ts : Tokens) → R ts ≡ None → array_comparison R ts ≡ None
unfolding array_comparison
quantified_none R ts h = rw h refl

module _ (R : Bool → Parser ExprTree) (inside : Bool) where
  unary_none : (t : TokenKind) (ts : Tokens) → unary_at (Some t) ≡ None → primary R inside (t ∷ ts) ≡ None
      → unary R inside (t ∷ ts) ≡ None
  unfolding unary unary_from postfix
  unary_none t ts u p = rw u (rw p refl)

  from_comparison_level : (ts : Tokens) → comparison_level R inside ts ≡ None → conditional R inside ts ≡ None
  unfolding conditional disjunction conjunction
  from_comparison_level ts h = rw
      (chain_none level.Disjunction (conjunction R inside) ts
      (chain_none level.Conjunction (comparison_level R inside) ts h))
      refl

  level_none : (ts : Tokens) → unary R inside ts ≡ None → conditional R inside ts ≡ None
  unfolding product sum span relation membership equality comparison_level
  level_none ts h =
      from_comparison_level ts (quantified_none (equality R inside) ts
      (chain_none level.Equality (membership R inside) ts
      (chain_none level.Membership (relation R inside) ts (chain_none level.Relation (span R inside) ts
      (range_none (sum R inside) ts
      (chain_none level.Sum (product R inside) ts (chain_none level.Product (unary R inside) ts h)))))))

  symbol_none : (symbol : Symbol) (ts : Tokens) → is_refused symbol ≡ true
      → unary R inside (k.Symbol symbol ∷ ts) ≡ None
  unfolding primary
  symbol_none s.OpenParen ts h = absurd (cc)
  symbol_none s.OpenBracket ts h = absurd (cc)
  symbol_none s.OpenBrace ts h = absurd (cc)
  symbol_none s.Plus ts h = absurd (cc)
  symbol_none s.Minus ts h = absurd (cc)
  symbol_none s.Not ts h = absurd (cc)
  symbol_none _ ts h = unary_none _ ts refl refl

  keyword_none : (keyword : Keyword) (ts : Tokens) → is_refused_keyword keyword ≡ true
      → unary R inside (k.Keyword keyword ∷ ts) ≡ None
  unfolding primary
  keyword_none w.Null ts h = absurd (cc)
  keyword_none w.True ts h = absurd (cc)
  keyword_none w.False ts h = absurd (cc)
  keyword_none w.Not ts h = absurd (cc)
  keyword_none _ ts h = unary_none _ ts refl refl

  not_in_none : (ts : Tokens) → unary R inside (k.Keyword w.Not ∷ k.Keyword w.In ∷ ts) ≡ None
  unfolding unary unary_from postfix primary
  not_in_none ts = refl

  comparison_none : (ts : Tokens) → begins_comparison ts ≡ true → unary R inside ts ≡ None
  unfolding begins_comparison operator_ahead
  comparison_none [] h = absurd (cc)
  comparison_none (k.Number n ∷ ts) h = absurd (cc)
  comparison_none (k.Word v ∷ ts) h = absurd (cc)
  comparison_none (k.Quoted v ∷ ts) h = absurd (cc)
  comparison_none (k.Text v ∷ ts) h = absurd (cc)
  comparison_none (k.Symbol s.Equal ∷ ts) h = symbol_none s.Equal ts refl
  comparison_none (k.Symbol s.NotEqual ∷ ts) h = symbol_none s.NotEqual ts refl
  comparison_none (k.Symbol s.Less ∷ ts) h = symbol_none s.Less ts refl
  comparison_none (k.Symbol s.LessOrEqual ∷ ts) h = symbol_none s.LessOrEqual ts refl
  comparison_none (k.Symbol s.Greater ∷ ts) h = symbol_none s.Greater ts refl
  comparison_none (k.Symbol s.GreaterOrEqual ∷ ts) h = symbol_none s.GreaterOrEqual ts refl
  comparison_none (k.Symbol _ ∷ ts) h = absurd (cc)
  comparison_none (k.Keyword w.In ∷ ts) h = keyword_none w.In ts refl
  comparison_none (k.Keyword w.Not ∷ []) h = absurd (cc)
  comparison_none (k.Keyword w.Not ∷ k.Keyword w.In ∷ ts) h = not_in_none ts
  comparison_none (k.Keyword w.Not ∷ k.Keyword _ ∷ ts) h = absurd (cc)
  comparison_none (k.Keyword w.Not ∷ k.Number n ∷ ts) h = absurd (cc)
  comparison_none (k.Keyword w.Not ∷ k.Word v ∷ ts) h = absurd (cc)
  comparison_none (k.Keyword w.Not ∷ k.Quoted v ∷ ts) h = absurd (cc)
  comparison_none (k.Keyword w.Not ∷ k.Text v ∷ ts) h = absurd (cc)
  comparison_none (k.Keyword w.Not ∷ k.Symbol v ∷ ts) h = absurd (cc)
  comparison_none (k.Keyword _ ∷ ts) h = absurd (cc)

-- ANY without a comparison after it ends nothing
any_none : (R : Parser ExprTree) (x : ExprTree) (a ts : Tokens) → R a ≡ Some (x, k.Keyword w.Any ∷ ts)
    → begins_comparison ts ≡ false → array_comparison R a ≡ None
unfolding array_comparison rank operator_ahead quantifier comparison
any_none R x a ts read none = rw read (rw none refl)

outbound_ends : (ts : Tokens) → Ends (k.Keyword w.Outbound ∷ ts)
unfolding rank operator_ahead
outbound_ends ts = ends_by (k.Keyword w.Outbound ∷ ts) refl

inbound_ends : (ts : Tokens) → Ends (k.Keyword w.Inbound ∷ ts)
unfolding rank operator_ahead
inbound_ends ts = ends_by (k.Keyword w.Inbound ∷ ts) refl

any_follows : (ts : Tokens) → Follow 6 (k.Keyword w.Any ∷ ts)
unfolding rank operator_ahead
any_follows ts = let e : rank (k.Keyword w.Any ∷ ts) ≡ 7 = refl in omega arith

not_true : (b : Bool) → not b ≡ true → b ≡ false
not_true true h = absurd (cc)
not_true false h = refl

both : (x y : Bool) → (x && y) ≡ true → (x ≡ true) × (y ≡ true)
both true y h = (refl, h)
both false y h = absurd (cc)

same_way : (x : ExprTree) (b : Tokens) (y : ExprTree × Tokens) → Some (x, b) ≡ Some y
    → begins_direction b ≡ true → begins_direction y.1 ≡ true
same_way x b y h way = subst (λ (z : ExprTree × Tokens). begins_direction z.1 ≡ true) (some_same (x, b) y h)
    way

number_there : (ts : Tokens) → is_number (head ts) ≡ true → (n : ℤ) × (ts ≡ k.Number n ∷ next ts)
number_there [] h = absurd (cc)
number_there (k.Number n ∷ ts) h = (n, refl)
number_there (k.Word v ∷ ts) h = absurd (cc)
number_there (k.Quoted v ∷ ts) h = absurd (cc)
number_there (k.Text v ∷ ts) h = absurd (cc)
number_there (k.Symbol v ∷ ts) h = absurd (cc)
number_there (k.Keyword v ∷ ts) h = absurd (cc)

-- no expressions one bracket deeper
abbrev Nothing : Bool → ExprTree → Tokens → Tokens → Type 0
Nothing inside x a b = ⊥

module _ (R : Bool → Parser ExprTree) (starts : (inside : Bool) → Starts (R inside)) (inside : Bool) where
  nothing_complete : (bound : ℕ) (inside : Bool) → Complete (R inside) (Nothing inside) Ends bound
  nothing_complete bound inside x a b short h ends = absurd h

  nothing_shrinks : (inside : Bool) → Shrinks (Nothing inside)
  nothing_shrinks inside x a b h = absurd h

  number_sum : (n : ℤ) (b : Tokens) → IsSum Nothing inside (e.number n) (k.Number n ∷ b) b
  number_sum n b = IsChain.alone (IsChain.alone (IsUnary.postfix (IsPostfix.alone IsPrimary.number)))

  span_ends : (x : ExprTree) (a b : Tokens) → IsSpan Nothing inside x a b → Ends b
      → conditional R inside a ≡ Some (x, b)
  span_ends x a b h ends =
      conditional_complete R Nothing (length a) (nothing_complete (length a)) nothing_shrinks starts inside
      x a b (omega arith)
      (IsConditional.plain (IsChain.alone
      (IsChain.alone (IsQuantified.alone (IsChain.alone (IsChain.alone (IsChain.alone h))))))) ends

  span_any : (x : ExprTree) (a b : Tokens) → IsSpan Nothing inside x a (k.Keyword w.Any ∷ b)
      → begins_comparison b ≡ false → conditional R inside a ≡ None
  unfolding comparison_level
  span_any x a b h none =
      from_comparison_level R inside a
      (any_none (equality R inside) x a b
      (equality_complete R Nothing (length a) (nothing_complete (length a)) nothing_shrinks starts inside x
      a (k.Keyword w.Any ∷ b) (omega arith) (IsChain.alone (IsChain.alone (IsChain.alone h)))
      (any_follows b))
      none)

  -- a number or a range of numbers in front of a direction is read so far
  span_traversal : (x : ExprTree) (a b : Tokens) (y : ExprTree × Tokens) → IsSpan Nothing inside x a b
      → begins_direction b ≡ true → conditional R inside a ≡ Some y → begins_direction y.1 ≡ true
  unfolding begins_direction
  span_traversal x a [] y h way read = absurd (cc)
  span_traversal x a (k.Number n ∷ b) y h way read = absurd (cc)
  span_traversal x a (k.Word v ∷ b) y h way read = absurd (cc)
  span_traversal x a (k.Quoted v ∷ b) y h way read = absurd (cc)
  span_traversal x a (k.Text v ∷ b) y h way read = absurd (cc)
  span_traversal x a (k.Symbol v ∷ b) y h way read = absurd (cc)
  span_traversal x a (k.Keyword w.Outbound ∷ b) y h way read = same_way x (k.Keyword w.Outbound ∷ b) y
      (sym (span_ends x a _ h (outbound_ends b)) ∙ read) refl
  span_traversal x a (k.Keyword w.Inbound ∷ b) y h way read = same_way x (k.Keyword w.Inbound ∷ b) y
      (sym (span_ends x a _ h (inbound_ends b)) ∙ read) refl
  span_traversal x a (k.Keyword w.Any ∷ b) y h way read = let refused = span_any x a b h
      (not_true (begins_comparison b) way) in absurd (cc)
  span_traversal x a (k.Keyword _ ∷ b) y h way read = absurd (cc)

  number_traversal : (n : ℤ) (r : Tokens) (y : ExprTree × Tokens) (t : Bool)
      → (sees s.Range r && is_number (head (next r))) ≡ t → cond t (begins_direction (next (next r)))
      (begins_direction r) ≡ true
      → conditional R inside (k.Number n ∷ r) ≡ Some y → begins_direction y.1 ≡ true
  number_traversal n r y false same way read = span_traversal (e.number n) (k.Number n ∷ r) r y
      (IsRange.alone (number_sum n r)) way read
  number_traversal n r y true same way read =
      let facts = both (sees s.Range r) (is_number (head (next r))) same in
      let range_here = seen s.Range r facts.0 in
      let number_here = number_there (next r) facts.1 in
      span_traversal (range_of (e.number n) (e.number number_here.0)) (k.Number n ∷ r) (next (next r)) y
      (IsRange.range (subst (λ q. IsSum Nothing inside (e.number n) (k.Number n ∷ r) q) range_here
      (number_sum n r))
      (subst (λ q. IsSum Nothing inside (e.number number_here.0) q (next (next r))) (sym number_here.1)
      (number_sum number_here.0 (next (next r)))))
      way read

  keyword_traversal : (keyword : Keyword) (r : Tokens) (y : ExprTree × Tokens)
      → begins_direction (k.Keyword keyword ∷ r) ≡ true → conditional R inside (k.Keyword keyword ∷ r) ≡
      Some y → begins_direction y.1 ≡ true
  unfolding begins_direction
  keyword_traversal w.Outbound r y way read = let refused = level_none R inside _
      (keyword_none R inside w.Outbound r refl) in absurd (cc)
  keyword_traversal w.Inbound r y way read = let refused = level_none R inside _
      (keyword_none R inside w.Inbound r refl) in absurd (cc)
  keyword_traversal w.Any r y way read = let refused = level_none R inside _
      (keyword_none R inside w.Any r refl)
      in absurd (cc)
  keyword_traversal _ r y way read = absurd (cc)

  traversal_read : (ts : Tokens) (y : ExprTree × Tokens) → begins_traversal ts ≡ true
      → conditional R inside ts ≡ Some
      y → begins_direction y.1 ≡ true
  unfolding begins_traversal begins_after_number begins_direction
  traversal_read [] y way read = absurd (cc)
  traversal_read (k.Number n ∷ r) y way read = number_traversal n r y
      (sees s.Range r && is_number (head (next r)))
      refl way read
  traversal_read (k.Keyword keyword ∷ r) y way read = keyword_traversal keyword r y way read
  traversal_read (k.Word v ∷ b) y way read = absurd (cc)
  traversal_read (k.Quoted v ∷ b) y way read = absurd (cc)
  traversal_read (k.Text v ∷ b) y way read = absurd (cc)
  traversal_read (k.Symbol v ∷ b) y way read = absurd (cc)

pub starts_of : (fuel : ℕ) (inside : Bool) → Starts (expr fuel inside)
unfolding expr
starts_of zero inside = record {
  no_symbol = λ symbol h ts. refl;
  no_keyword = λ keyword h ts. refl;
  no_comparison = λ ts h. refl;
  no_traversal = λ ts y h read. absurd (cc);
}
starts_of (suc fuel) inside = record {
  no_symbol = λ symbol h ts. level_none (expr fuel) inside (k.Symbol symbol ∷ ts)
      (symbol_none (expr fuel) inside symbol ts h);
  no_keyword = λ keyword h ts. level_none (expr fuel) inside (k.Keyword keyword ∷ ts)
      (keyword_none (expr fuel) inside keyword ts h);
  no_comparison = λ ts h. level_none (expr fuel) inside ts (comparison_none (expr fuel) inside ts h);
  no_traversal = λ ts y h read. traversal_read (expr fuel) (starts_of fuel) inside ts y h read;
}

-- an expression is read, with as much fuel as there are tokens
pub expr_complete : (depth fuel : ℕ) (inside : Bool) → Complete (expr fuel inside) (IsExpr depth inside)
    Ends fuel
unfolding expr
expr_complete zero fuel inside x a b short h ends = absurd h
expr_complete (suc depth) zero inside x a b short h ends = let i = expr_shrinks (suc depth) inside x a b h
    in absurd (omega arith)
expr_complete (suc depth) (suc fuel) inside x a b short h ends =
    conditional_complete (expr fuel) (IsExpr depth) fuel (expr_complete depth fuel) (expr_shrinks depth)
    (starts_of fuel) inside x a b short h ends

pub top_complete : (depth fuel : ℕ) (q : QueryTree) (a : Tokens) → length a ≤ fuel
    → IsTop (IsExpr depth) q a [] → top fuel a ≡ Some (q, [])
unfolding top
top_complete depth fuel q a short (IsTop.plain h) =
    eat_keyword_else w.With _ _ a _
    (stop_no_keyword w.With a refl (query_begins (expr fuel) (IsExpr depth) fuel
    (expr_complete depth fuel) (expr_shrinks depth) (starts_of fuel) false [] q a [] h))
    (query_complete (expr fuel) (IsExpr depth) fuel (expr_complete depth fuel) (expr_shrinks depth)
    (starts_of fuel) false [] q a [] (omega arith) h nothing_ends)
top_complete depth fuel q a short (IsTop.with_list {names = names} {a = c} {b = d} ns h) =
    let i = separated_shrinks IsName name_shrinks names c d ns in
    let stop = query_begins (expr fuel) (IsExpr depth) fuel (expr_complete depth fuel) (expr_shrinks depth)
    (starts_of fuel) false names q d [] h in
    eat_keyword_then w.With _ _ c _
    (bind_here _ _ (names, d) _ (names_read names c d ns (stop_no_symbol s.Comma d stop))
    (query_complete (expr fuel) (IsExpr depth) fuel (expr_complete depth fuel) (expr_shrinks depth)
    (starts_of fuel) false names q d [] (omega arith) h nothing_ends))
