-- What is spelt takes tokens: less is left than there was.
use Rattle.std.proofs.Common.{ℕ, zero, suc, ◌<◌, ◌≤◌, Bool, true, List, [], ◌∷◌, length}
use Rattle.std.proofs.Common.{Option, arith}
use Rattle.std.specs.Prelude.{codes}
use Rattle.aql_lex.specs.declared.kinds.TokenKind.TheVariants as k
use Rattle.aql_lex.specs.declared.vocabulary.Symbol.TheVariants as s
use Rattle.aql_lex.specs.declared.vocabulary.Keyword.{Keyword}
use Rattle.aql_lex.specs.declared.vocabulary.Keyword.TheVariants as w
use Rattle.aql_tree.specs.Tree.{ExprTree}
use Rattle.aql_tree.specs.View.{AggregatePart, IntoPart}
use Rattle.aql_grammar.specs.declared.precedence.Precedence.{Precedence}
use Rattle.aql_grammar.specs.declared.precedence.Precedence.TheVariants as level
use Rattle.aql_grammar.specs.Kinds.{Tokens}
use Rattle.aql_grammar.specs.Spelling.{IsName, IsOptional, AreAny}
use Rattle.aql_grammar.specs.Objects.{IsVariable, IsKey, IsMember, IsObject}
use Rattle.aql_grammar.specs.Clauses.{AreTraversalNames, IsDepth, IsAssignment, IsLet, IsSortKey, IsAggregate}
use Rattle.aql_grammar.specs.Clauses.{IsInto, AreAggregates, IsTail, IsPrune, AreOptions, IsClause}
use Rattle.aql_grammar.specs.Clauses.{AreClauses, IsDistinct, IsQuery}
use Rattle.aql_grammar.specs.Expressions.{IsArgument, IsPrimary, IsElementPart, IsStep}
use Rattle.aql_grammar.specs.Expressions.{IsPostfix, IsUnary, IsLink, IsChain, IsRange, IsQuantified}
use Rattle.aql_grammar.specs.Expressions.{IsProduct, IsSum, IsSpan, IsRelation, IsMembership, IsEquality}
use Rattle.aql_grammar.specs.Expressions.{IsArrayComparison, IsConjunction, IsDisjunction, IsConditional}
use Rattle.aql_grammar.specs.Tree.{IsExpr}
use Rattle.aql_grammar.specs.laws.Steps.{Shrinks, Falls, name_shrinks, word_shrinks}
use Rattle.aql_grammar.specs.laws.ListLaws.{separated_shrinks, many_falls, items_fall}
use Rattle.aql_grammar.specs.laws.OperatorLaws.{operator_shrinks, comparison_shrinks, quantifier_shrinks}
use Rattle.aql_grammar.specs.laws.OperatorLaws.{unary_shrinks, traversal_direction_shrinks}

pub variable_shrinks : (inside : Bool) (v : List ℕ) (x : ExprTree) (a b : Tokens)
    → IsVariable inside v x a b → length b < length a
variable_shrinks inside v x a b IsVariable.word = omega arith
variable_shrinks inside v x a b IsVariable.quoted = omega arith

pub key_shrinks : Shrinks IsKey
key_shrinks v a b (IsKey.name h) = name_shrinks v a b h
key_shrinks v a b IsKey.text = omega arith

any_falls : {A : Type 0} (P : A → Tokens → Tokens → Type 0) → Shrinks P → Falls (AreAny P)
any_falls P shrinks xs a b AreAny.none = omega arith
any_falls P shrinks xs a b (AreAny.some h) = let i = separated_shrinks P shrinks xs a b h in omega arith

optional_falls : {A : Type 0} (P : A → Tokens → Tokens → Type 0) → Shrinks P → Falls (IsOptional P)
optional_falls P shrinks xs a b IsOptional.none = omega arith
optional_falls P shrinks xs a b (IsOptional.some {x = x} h) = let i = shrinks x a b h in omega arith

pub traversal_names_shrink : Shrinks AreTraversalNames
traversal_names_shrink n a b (AreTraversalNames.vertex {v = v} h) = name_shrinks v a b h
traversal_names_shrink n a b (AreTraversalNames.edge {v = v} {x = x} {b = c} h g) =
    let i = name_shrinks v a (k.Symbol s.Comma ∷ c) h in let j = name_shrinks x c b g in omega arith
traversal_names_shrink n a b (AreTraversalNames.path {v = v} {x = x} {p = p} {b = c} {c = d} h g f) =
    let i = name_shrinks v a (k.Symbol s.Comma ∷ c) h in let j = name_shrinks x c (k.Symbol s.Comma ∷ d) g
    in let l = name_shrinks p d b f in omega arith

pub traversal_depth_falls : (m n : ℕ) (a b : Tokens) → IsDepth m n a b → length b ≤ length a
traversal_depth_falls m n a b IsDepth.unsaid = omega arith
traversal_depth_falls m n a b IsDepth.exact = omega arith
traversal_depth_falls m n a b IsDepth.between = omega arith

pub distinct_falls : Falls IsDistinct
distinct_falls d a b IsDistinct.plain = omega arith
distinct_falls d a b IsDistinct.distinct = omega arith

module _ (E : Bool → ExprTree → Tokens → Tokens → Type 0) (shrinks : (inside : Bool) → Shrinks (E inside))
    (inside : Bool) where
  pub member_shrinks : Shrinks (IsMember E inside)
  member_shrinks m a b (IsMember.named {v = v} {x = x} {b = c} h g) =
      let i = key_shrinks v a (k.Symbol s.Colon ∷ c) h in let j = shrinks inside x c b g in omega arith
  member_shrinks m a b (IsMember.computed {n = n} {x = x} {a = d} {b = c} h g) =
      let i = shrinks inside n d (k.Symbol s.CloseBracket ∷ k.Symbol s.Colon ∷ c) h in let j = shrinks
      inside x c b g in omega arith
  member_shrinks m a b (IsMember.short {v = v} {x = x} h) = variable_shrinks inside v x a b h

  pub object_shrinks : Shrinks (IsObject E inside)
  object_shrinks ms a b (IsObject.object {a = c} h) = let i = items_fall (IsMember E inside) member_shrinks
      ms c (k.Symbol s.CloseBrace ∷ b) h in omega arith

  pub assignment_shrinks : Shrinks (IsAssignment E inside)
  assignment_shrinks l a b (IsAssignment.assignment {v = v} {x = x} {b = c} h g) =
      let i = name_shrinks v a (k.Symbol s.Assign ∷ c) h in let j = shrinks inside x c b g in omega arith

  pub let_shrinks : Shrinks (IsLet E inside)
  let_shrinks l a b (IsLet.let_be {v = v} {x = x} {b = c} h g) =
      let i = name_shrinks v a (k.Symbol s.Assign ∷ c) h in let j = shrinks inside x c b g in omega arith

  pub sort_key_shrinks : Shrinks (IsSortKey E inside)
  sort_key_shrinks l a b (IsSortKey.unsaid {x = x} h) = shrinks inside x a b h
  sort_key_shrinks l a b (IsSortKey.ascending {x = x} h) = let i = shrinks inside x a (k.Keyword w.Asc ∷ b)
      h in omega arith
  sort_key_shrinks l a b (IsSortKey.descending {x = x} h) = let i = shrinks inside x a
      (k.Keyword w.Desc ∷ b) h in omega arith

  pub aggregate_shrinks : Shrinks (IsAggregate E inside)
  aggregate_shrinks g a b (IsAggregate.aggregate {v = v} {f = f} {x = x} {b = c} h o) =
      let i = name_shrinks v a (k.Symbol s.Assign ∷ k.Word f ∷ k.Symbol s.OpenParen ∷ c) h in
      let j = optional_falls (E inside) (shrinks inside) x c (k.Symbol s.CloseParen ∷ b) o in omega arith

  pub into_shrinks : Shrinks (IsInto E inside)
  into_shrinks p a b (IsInto.alone {v = v} {a = d} h) = let i = name_shrinks v d b h in omega arith
  into_shrinks p a b (IsInto.taking {v = v} {x = x} {a = d} {b = c} h g) =
      let i = name_shrinks v d (k.Symbol s.Assign ∷ c) h in let j = shrinks inside x c b g in omega arith
  into_shrinks p a b (IsInto.keeping {v = v} {names = ns} {a = d} {b = c} {c = f} h o ms) =
      let i = name_shrinks v d c h in let j = word_shrinks (codes "KEEP") c f o in let l = separated_shrinks
      IsName name_shrinks ns f b ms in omega arith

  pub aggregates_fall : Falls (AreAggregates E inside)
  aggregates_fall gs a b AreAggregates.none = omega arith
  aggregates_fall gs a b (AreAggregates.some {a = c} h) = let i = separated_shrinks (IsAggregate E inside)
      aggregate_shrinks gs c b h in omega arith

  pub into_falls : Falls (IsOptional (IsInto E inside))
  into_falls i a b h = optional_falls (IsInto E inside) into_shrinks i a b h

  pub tail_falls : (gs : List AggregatePart) (i : Option IntoPart) (a b : Tokens) → IsTail E inside gs i a b
      → length b ≤ length a
  tail_falls gs i a b (IsTail.count {v = v} {a = d} {b = c} o h) =
      let j = word_shrinks (codes "COUNT") d (k.Keyword w.Into ∷ c) o in let l = name_shrinks v c b h in
      omega arith
  tail_falls gs i a b (IsTail.parts {b = c} g h) = let j = aggregates_fall gs a c g in let l = into_falls i
      c b h in omega arith

  pub prune_falls : Falls (IsPrune E inside)
  prune_falls p a b IsPrune.none = omega arith
  prune_falls p a b (IsPrune.some {x = x} {b = c} o h) = let i = word_shrinks (codes "PRUNE") a c o in let
      j = shrinks inside x c b h in omega arith

  pub options_fall : Falls (AreOptions E inside)
  options_fall ms a b AreOptions.none = omega arith
  options_fall ms a b (AreOptions.some {b = c} o h) = let i = word_shrinks (codes "OPTIONS") a c o in let
      j = object_shrinks ms c b h in omega arith

  pub clause_shrinks : Shrinks (IsClause E inside)
  clause_shrinks cs a b (IsClause.for_in {v = v} {x = x} {a = d} {b = c} h g) =
      let i = name_shrinks v d (k.Keyword w.In ∷ c) h in let j = shrinks inside x c b g in omega arith
  clause_shrinks cs a b (IsClause.traversal {names = names} {least = m} {greatest = n} {way = way}
      {start = start} {edges = edges} {prune = p} {ms = ms} {a = a'} {b = b'} {c = c'} {d = d'} {f = f'}
      {g = g'} {h = h'} hn hd hw hs he hp ho) =
      let i = traversal_names_shrink names a' (k.Keyword w.In ∷ b') hn in let j =
      traversal_depth_falls m n b' c' hd in let l = traversal_direction_shrinks way c' d' hw in
      let q = shrinks inside start d' f' hs in let r = separated_shrinks IsName name_shrinks edges f' g' he
      in
      let t = prune_falls p g' h' hp in let u = options_fall ms h' b ho in omega arith
  clause_shrinks cs a b (IsClause.filter {x = x} {a = d} h) = let i = shrinks inside x d b h in omega arith
  clause_shrinks cs a b (IsClause.let_in {a = d} h) = let i = separated_shrinks (IsLet E inside) let_shrinks
      cs d b h in omega arith
  clause_shrinks cs a b (IsClause.sort_by {ks = ks} {a = d} h) = let i = separated_shrinks
      (IsSortKey E inside) sort_key_shrinks ks d b h in omega arith
  clause_shrinks cs a b IsClause.limit = omega arith
  clause_shrinks cs a b IsClause.limit_from = omega arith
  clause_shrinks cs a b (IsClause.collect {ls = ls} {gs = gs} {into = i} {a = d} {b = c} h g said) =
      let j = any_falls
      (IsAssignment E inside) assignment_shrinks ls d c h in let l = tail_falls gs i c b g in
      omega arith

  pub clauses_fall : Falls (AreClauses E inside)
  clauses_fall cs a b AreClauses.none = omega arith
  clauses_fall cs a b (AreClauses.more {cs = one} {ds = ds} {b = c} h others) = let i = clause_shrinks one a
      c h in let j = clauses_fall ds c b others in omega arith

  pub query_shrinks : (with_list : List (List ℕ)) → Shrinks (IsQuery E inside with_list)
  query_shrinks with_list q a b (IsQuery.query {cs = cs} {distinct = distinct} {x = x} {b = c} {c = d} h o
      g) =
      let i = clauses_fall cs a (k.Keyword w.Return ∷ c) h in let j = distinct_falls distinct c d o in let
      l = shrinks inside x d b g in omega arith

  pub argument_shrinks : Shrinks (IsArgument E inside)
  argument_shrinks x a b (IsArgument.expr h) = shrinks inside x a b h
  argument_shrinks x a b (IsArgument.query {q = q} h) = query_shrinks [] q a b h

  pub primary_shrinks : Shrinks (IsPrimary E inside)
  primary_shrinks x a b IsPrimary.number = omega arith
  primary_shrinks x a b IsPrimary.text = omega arith
  primary_shrinks x a b IsPrimary.null = omega arith
  primary_shrinks x a b IsPrimary.true_word = omega arith
  primary_shrinks x a b IsPrimary.false_word = omega arith
  primary_shrinks x a b (IsPrimary.name {v = v} h) = variable_shrinks inside v x a b h
  primary_shrinks x a b (IsPrimary.call {xs = xs} {a = c} h) = let i = any_falls (IsArgument E inside)
      argument_shrinks xs c (k.Symbol s.CloseParen ∷ b) h in omega arith
  primary_shrinks x a b (IsPrimary.list {xs = xs} {a = c} h) = let i = items_fall (E inside)
      (shrinks inside) xs c (k.Symbol s.CloseBracket ∷ b) h in omega arith
  primary_shrinks x a b (IsPrimary.object {ms = ms} h) = object_shrinks ms a b h
  primary_shrinks x a b (IsPrimary.parentheses {a = c} h) = let i = argument_shrinks x c
      (k.Symbol s.CloseParen ∷ b) h in omega arith

  pub part_falls : (word : Keyword) → Falls (IsElementPart E inside word)
  part_falls word f a b IsElementPart.none = omega arith
  part_falls word f a b (IsElementPart.some {x = x} {a = c} h) =
      let i = shrinks true x c b h in omega arith

  pub step_shrinks : Shrinks (IsStep E inside)
  step_shrinks p a b (IsStep.name {v = v} {a = c} h) = let i = name_shrinks v c b h in omega arith
  step_shrinks p a b (IsStep.at {x = x} {a = c} h) = let i = shrinks inside x c
      (k.Symbol s.CloseBracket ∷ b) h in omega arith
  step_shrinks p a b (IsStep.inline {f = f} {p = q} {a = c} {b = d} h g) =
      let i = part_falls w.Filter f c d h in
      let j = part_falls w.Return q d (k.Symbol s.CloseBracket ∷ b) g in omega arith

  pub postfix_shrinks : Shrinks (IsPostfix E inside)
  postfix_shrinks x a b (IsPostfix.alone h) = primary_shrinks x a b h
  postfix_shrinks x a b (IsPostfix.with_steps {x = of} {p = p} {ps = ps} {b = c} h more) =
      let i = primary_shrinks of a c h in let j = many_falls (IsStep E inside) step_shrinks (p ∷ ps) c b
      more in omega arith

  pub unary_rule_shrinks : Shrinks (IsUnary E inside)
  unary_rule_shrinks x a b (IsUnary.postfix h) = postfix_shrinks x a b h
  unary_rule_shrinks x a b (IsUnary.applied {op = op} {x = of} {b = c} o h) = let i = unary_shrinks op a c o
      in let j = unary_rule_shrinks of c b h in omega arith

module _ (P : ExprTree → Tokens → Tokens → Type 0) (shrinks : Shrinks P) where
  pub link_shrinks : (precedence : Precedence) → Shrinks (IsLink precedence P)
  link_shrinks precedence l a b (IsLink.link {op = op} {x = x} {b = c} o h) = let i =
      operator_shrinks precedence op a
      c o in let j = shrinks x c b h in omega arith

  pub chain_shrinks : (precedence : Precedence) → Shrinks (IsChain precedence P)
  chain_shrinks precedence x a b (IsChain.alone h) = shrinks x a b h
  chain_shrinks precedence x a b (IsChain.with_links {x = first} {l = l} {ls = ls} {b = c} h more) =
      let i = shrinks first a c h in let j = many_falls (IsLink precedence P) (link_shrinks precedence)
      (l ∷ ls) c b
      more in omega arith

  pub range_shrinks : Shrinks (IsRange P)
  range_shrinks x a b (IsRange.alone h) = shrinks x a b h
  range_shrinks x a b (IsRange.range {x = low} {y = high} {b = c} h g) =
      let i = shrinks low a (k.Symbol s.Range ∷ c) h in let j = shrinks high c b g in omega arith

  pub quantified_shrinks : Shrinks (IsQuantified P)
  quantified_shrinks x a b (IsQuantified.alone h) = shrinks x a b h
  quantified_shrinks x a b
      (IsQuantified.array_comparison {x = left} {y = right} {kind = kind} {op = op} {b = c}
      {c = d} {d = f} h q o g) =
      let i = shrinks left a c h in let j = quantifier_shrinks kind c d q in let l = comparison_shrinks op d
      f o in let m = shrinks right f b g in omega arith

module _ (E : Bool → ExprTree → Tokens → Tokens → Type 0) (shrinks : (inside : Bool) → Shrinks (E inside))
    (inside : Bool) where
  pub product_shrinks : Shrinks (IsProduct E inside)
  product_shrinks = chain_shrinks (IsUnary E inside) (unary_rule_shrinks E shrinks inside) level.Product

  pub sum_shrinks : Shrinks (IsSum E inside)
  sum_shrinks = chain_shrinks (IsProduct E inside) product_shrinks level.Sum

  pub span_shrinks : Shrinks (IsSpan E inside)
  span_shrinks = range_shrinks (IsSum E inside) sum_shrinks

  pub relation_shrinks : Shrinks (IsRelation E inside)
  relation_shrinks = chain_shrinks (IsSpan E inside) span_shrinks level.Relation

  pub membership_shrinks : Shrinks (IsMembership E inside)
  membership_shrinks = chain_shrinks (IsRelation E inside) relation_shrinks level.Membership

  pub equality_shrinks : Shrinks (IsEquality E inside)
  equality_shrinks = chain_shrinks (IsMembership E inside) membership_shrinks level.Equality

  pub comparison_level_shrinks : Shrinks (IsArrayComparison E inside)
  comparison_level_shrinks = quantified_shrinks (IsEquality E inside) equality_shrinks

  pub conjunction_shrinks : Shrinks (IsConjunction E inside)
  conjunction_shrinks = chain_shrinks (IsArrayComparison E inside) comparison_level_shrinks level.Conjunction

  pub disjunction_shrinks : Shrinks (IsDisjunction E inside)
  disjunction_shrinks = chain_shrinks (IsConjunction E inside) conjunction_shrinks level.Disjunction

  pub conditional_shrinks : Shrinks (IsConditional E inside)
  conditional_shrinks x a b (IsConditional.plain h) = disjunction_shrinks x a b h
  conditional_shrinks x a b (IsConditional.short {x = test} {z = z} {b = c} h g) =
      let i = disjunction_shrinks test a (k.Symbol s.Question ∷ k.Symbol s.Colon ∷ c) h in let j = shrinks
      inside z c b g in omega arith
  conditional_shrinks x a b (IsConditional.full {x = test} {y = y} {z = z} {b = c} {c = d} h f g) =
      let i = disjunction_shrinks test a (k.Symbol s.Question ∷ c) h in let j = shrinks inside y c
      (k.Symbol s.Colon ∷ d) f in let l = shrinks inside z d b g in omega arith

pub expr_shrinks : (depth : ℕ) (inside : Bool) → Shrinks (IsExpr depth inside)
expr_shrinks zero inside x a b h = absurd h
expr_shrinks (suc depth) inside x a b h = conditional_shrinks (IsExpr depth) (expr_shrinks depth) inside x a
    b h
