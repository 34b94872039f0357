-- What the grammar makes of tokens whose numbers are in range has LIMITs that end.
use Rattle.std.proofs.Common.{ℕ, zero, suc, List, [], ◌∷◌, ◌++◌, map, Bool, true, false, cond, Option, Some, None, arith}
use Rattle.std.specs.Prelude.{MatchOption, bytes_eq, codes, ◌&&◌}
use Rattle.std.specs.List.{AllByRecursion}
use Rattle.aql_lex.specs.declared.vocabulary.Keyword.{Keyword}
use Rattle.aql_tree.specs.Tree.{ExprTree, current, ClauseTree, QueryTree}
use Rattle.aql_tree.specs.View.{trees, maybe, MemberPart, members, named, computed, StepPart, steps, LinkPart, links, KeyPart, LetPart, AggregatePart, aggregates, IntoPart, into_tree, clauses}
use Rattle.aql_tree.specs.View as part
use Rattle.aql_tree.specs.Build as e
use Rattle.aql_grammar.specs.declared.precedence.Precedence.{Precedence}
use Rattle.aql_grammar.specs.declared.precedence.Precedence.TheVariants as level
use Rattle.aql_grammar.specs.Kinds.{Tokens, kinds_of}
use Rattle.aql_grammar.specs.Objects.{IsVariable, IsMember, IsObject}
use Rattle.aql_grammar.specs.Clauses.{IsAssignment, IsLet, IsSortKey, IsAggregate, IsInto, AreAggregates, IsTail, IsPrune, AreOptions, IsClause, AreClauses, IsQuery}
use Rattle.aql_grammar.specs.Expressions.{IsArgument, IsPrimary, IsElementPart, IsStep, IsPostfix, IsUnary, IsLink, IsChain, IsRange, IsQuantified, IsProduct, IsSum, IsSpan, IsRelation, IsMembership, IsEquality, IsArrayComparison, IsConjunction, IsDisjunction, IsConditional}
use Rattle.aql_grammar.specs.Tree.{IsExpr, IsTop}
use Rattle.aql_build.specs.Limits.{LimitsEnd, AllLimitsEnd, MaybeLimitsEnd, MemberLimitsEnd, StepLimitsEnd, LinkLimitsEnd, AggregateLimitsEnd, IntoLimitsEnd, ClauseLimitsEnd, ClausesLimitsEnd, QueryLimitsEnd}
use Rattle.aql_build.specs.TextLimits.{TextLimitsEnd}
use Rattle.aql_build.proofs.Kept.{Kept, Carries, read_kept, name_passes, word_passes, key_passes, optional_carries, many_carry, separated_carry, any_carry, items_carry, names_pass, operator_passes, comparison_passes, quantifier_passes, unary_passes, traversal_names_pass, depth_passes, direction_passes, distinct_passes}

-- ---- lists of parts

abbrev MaybeEnds : Option ExprTree → Type 0
MaybeEnds o = MatchOption o (Unit {0}) LimitsEnd

abbrev MemberEnds : MemberPart → Type 0
MemberEnds (named v x) = LimitsEnd x
MemberEnds (computed n x) = LimitsEnd n × LimitsEnd x

abbrev StepEnds : StepPart → Type 0
StepEnds (part.name v) = Unit {0}
StepEnds (part.at x) = LimitsEnd x
StepEnds (part.inline f p) = MaybeEnds f × MaybeEnds p

abbrev LinkEnds : LinkPart → Type 0
LinkEnds l = LimitsEnd l.1

abbrev KeyEnds : KeyPart → Type 0
KeyEnds l = LimitsEnd l.0

abbrev LetEnds : LetPart → Type 0
LetEnds l = LimitsEnd l.1

abbrev AggregateEnds : AggregatePart → Type 0
AggregateEnds g = MaybeEnds g.2

abbrev IntoEnds : IntoPart → Type 0
IntoEnds i = MaybeEnds i.1

maybe_ends : (o : Option ExprTree) → MaybeEnds o → MaybeLimitsEnd (maybe o)
maybe_ends None h = tt
maybe_ends (Some x) h = h

exprs_end : (xs : List ExprTree) → AllByRecursion LimitsEnd xs → AllLimitsEnd (trees xs)
exprs_end [] h = tt
exprs_end (x ∷ xs) h = (h.0, exprs_end xs h.1)

members_end : (ms : List MemberPart) → AllByRecursion MemberEnds ms → MemberLimitsEnd (members ms)
members_end [] h = tt
members_end (named v x ∷ ms) h = (h.0, members_end ms h.1)
members_end (computed n x ∷ ms) h = (h.0.0, h.0.1, members_end ms h.1)

steps_end : (ss : List StepPart) → AllByRecursion StepEnds ss → StepLimitsEnd (steps ss)
steps_end [] h = tt
steps_end (part.name v ∷ ss) h = steps_end ss h.1
steps_end (part.at x ∷ ss) h = (h.0, steps_end ss h.1)
steps_end (part.inline f p ∷ ss) h = (maybe_ends f h.0.0, maybe_ends p h.0.1, steps_end ss h.1)

links_end : (ls : List LinkPart) → AllByRecursion LinkEnds ls → LinkLimitsEnd (links ls)
links_end [] h = tt
links_end (l ∷ ls) h = (h.0, links_end ls h.1)

keys_end : (ks : List KeyPart) → AllByRecursion KeyEnds ks → AllLimitsEnd (trees (map (λ k. k.0) ks))
keys_end [] h = tt
keys_end (l ∷ ks) h = (h.0, keys_end ks h.1)

lets_end : (ls : List LetPart) → AllByRecursion LetEnds ls → AllLimitsEnd (trees (map (λ l. l.1) ls))
lets_end [] h = tt
lets_end (l ∷ ls) h = (h.0, lets_end ls h.1)

aggregates_end : (gs : List AggregatePart) → AllByRecursion AggregateEnds gs
    → AggregateLimitsEnd (aggregates gs)
aggregates_end [] h = tt
aggregates_end (g ∷ gs) h = (maybe_ends g.2 h.0, aggregates_end gs h.1)

into_ends : (i : Option IntoPart) → MatchOption i (Unit {0}) IntoEnds → IntoLimitsEnd (into_tree i)
into_ends None h = tt
into_ends (Some i) h = maybe_ends i.1 h

clauses_end : (cs : List ClauseTree) → AllByRecursion ClauseLimitsEnd cs → ClausesLimitsEnd (clauses cs)
clauses_end [] h = tt
clauses_end (c ∷ cs) h = (h.0, clauses_end cs h.1)

both_end : (cs ds : List ClauseTree) → AllByRecursion ClauseLimitsEnd cs → AllByRecursion ClauseLimitsEnd ds
    → AllByRecursion ClauseLimitsEnd (cs ++ ds)
both_end [] ds h k = k
both_end (c ∷ cs) ds h k = (h.0, both_end cs ds h.1 k)

word_ends : (b : Bool) (v : List ℕ) → LimitsEnd (cond b current (e.name v))
word_ends true v = tt
word_ends false v = tt

variable_ends : (inside : Bool) (v : List ℕ) (x : ExprTree) (a b : Tokens) → IsVariable inside v x a b
    → Kept a → LimitsEnd x × Kept b
variable_ends inside v x a b IsVariable.word h = (word_ends (inside && bytes_eq v (codes "CURRENT")) v, h.1)
variable_ends inside v x a b IsVariable.quoted h = (tt, h.1)

-- ---- clauses, where expressions one bracket deeper have LIMITs that end

module _ (E : Bool → ExprTree → Tokens → Tokens → Type 0)
    (ends : (inside : Bool) → Carries (E inside) LimitsEnd) (inside : Bool) where
  member_ends : Carries (IsMember E inside) MemberEnds
  member_ends m a b (IsMember.named {v = v} {x = x} {b = c} n p) h =
      ends inside x c b p (key_passes v a _ n h).1
  member_ends m a b (IsMember.computed {n = n} {x = x} {a = d} {b = c} p q) h =
      let one = ends inside n d _ p h.1 in
      let two = ends inside x c b q one.1.1.1 in
      ((one.0, two.0), two.1)
  member_ends m a b (IsMember.short {v = v} {x = x} n) h = variable_ends inside v x a b n h

  object_ends : Carries (IsObject E inside) (AllByRecursion MemberEnds)
  object_ends ms a b (IsObject.object {a = c} p) h =
      let all = items_carry (IsMember E inside) MemberEnds member_ends ms c _ p h.1 in (all.0, all.1.1)

  assignment_ends : Carries (IsAssignment E inside) LetEnds
  assignment_ends l a b (IsAssignment.assignment {v = v} {x = x} {b = c} n p) h =
      ends inside x c b p (name_passes v a _ n h).1

  let_ends : Carries (IsLet E inside) ClauseLimitsEnd
  let_ends l a b (IsLet.let_be {v = v} {x = x} {b = c} n p) h =
      ends inside x c b p (name_passes v a _ n h).1

  sort_key_ends : Carries (IsSortKey E inside) KeyEnds
  sort_key_ends l a b (IsSortKey.unsaid {x = x} p) h = ends inside x a b p h
  sort_key_ends l a b (IsSortKey.ascending {x = x} p) h =
      let one = ends inside x a _ p h in (one.0, one.1.1)
  sort_key_ends l a b (IsSortKey.descending {x = x} p) h =
      let one = ends inside x a _ p h in (one.0, one.1.1)

  aggregate_ends : Carries (IsAggregate E inside) AggregateEnds
  aggregate_ends g a b (IsAggregate.aggregate {v = v} {f = f} {x = x} {b = c} n o) h =
      let one = optional_carries (E inside) LimitsEnd (ends inside) x c _ o (name_passes v a _ n h).1.1.1 in
      (one.0, one.1.1)

  into_part_ends : Carries (IsInto E inside) IntoEnds
  into_part_ends i a b (IsInto.alone {v = v} {a = d} n) h = (tt, name_passes v d b n h.1)
  into_part_ends i a b (IsInto.taking {v = v} {x = x} {a = d} {b = c} n p) h =
      ends inside x c b p (name_passes v d _ n h.1).1
  into_part_ends i a b (IsInto.keeping {v = v} {names = names} {a = d} {b = c} {c = f} n o ns) h =
      (tt, names_pass names f b ns (word_passes (codes "KEEP") c f o (name_passes v d c n h.1)))

  are_aggregates_end : Carries (AreAggregates E inside) (AllByRecursion AggregateEnds)
  are_aggregates_end gs a b AreAggregates.none h = (tt, h)
  are_aggregates_end gs a b (AreAggregates.some {a = c} p) h =
      separated_carry (IsAggregate E inside) AggregateEnds aggregate_ends gs c b p h.1

  tail_ends : (gs : List AggregatePart) (i : Option IntoPart) (a b : Tokens) → IsTail E inside gs i a b
      → Kept a
      → AllByRecursion AggregateEnds gs × MatchOption i (Unit {0}) IntoEnds × Kept b
  tail_ends gs i a b (IsTail.count {v = v} {a = d} {b = c} o n) h =
      ((tt, tt), tt, name_passes v c b n (word_passes (codes "COUNT") d _ o h.1).1)
  tail_ends gs i a b (IsTail.parts {b = c} g p) h =
      let one = are_aggregates_end gs a c g h in
      let two = optional_carries (IsInto E inside) IntoEnds into_part_ends i c b p one.1 in
      (one.0, two.0, two.1)

  prune_ends : Carries (IsPrune E inside) MaybeEnds
  prune_ends o a b IsPrune.none h = (tt, h)
  prune_ends o a b (IsPrune.some {x = x} {b = c} w p) h =
      ends inside x c b p (word_passes (codes "PRUNE") a c w h)

  options_end : Carries (AreOptions E inside) (AllByRecursion MemberEnds)
  options_end ms a b AreOptions.none h = (tt, h)
  options_end ms a b (AreOptions.some {b = c} w p) h =
      object_ends ms c b p (word_passes (codes "OPTIONS") a c w h)

  clause_ends : Carries (IsClause E inside) (AllByRecursion ClauseLimitsEnd)
  clause_ends cs a b (IsClause.for_in {v = v} {x = x} {a = d} {b = c} n p) h =
      let one = ends inside x c b p (name_passes v d _ n h.1).1 in ((one.0, tt), one.1)
  clause_ends cs a b (IsClause.traversal {names = names} {least = least} {greatest = greatest} {way = way}
      {start = start} {edges = edges} {prune = prune} {ms = ms} {a = a'} {b = b'} {c = c'} {d = d'} {f = f'}
      {g = g'} {h = h'} hn hd hw hs he hp ho) h =
      let named_ = traversal_names_pass names a' _ hn h.1 in
      let from = direction_passes way c' d' hw (depth_passes least greatest b' c' hd named_.1) in
      let one = ends inside start d' f' hs from in
      let two = prune_ends prune g' h' hp (names_pass edges f' g' he one.1) in
      let three = options_end ms h' b ho two.1 in
      (((one.0, maybe_ends prune two.0, members_end ms three.0), tt), three.1)
  clause_ends cs a b (IsClause.filter {x = x} {a = d} p) h =
      let one = ends inside x d b p h.1 in ((one.0, tt), one.1)
  clause_ends cs a b (IsClause.let_in {a = d} p) h =
      separated_carry (IsLet E inside) ClauseLimitsEnd let_ends cs d b p h.1
  clause_ends cs a b (IsClause.sort_by {ks = ks} {a = d} p) h =
      let all = separated_carry (IsSortKey E inside) KeyEnds sort_key_ends ks d b p h.1 in
      ((keys_end ks all.0, tt), all.1)
  clause_ends cs a b (IsClause.limit {n = n}) h =
      let most = h.1.0 in ((omega (arith, most), tt), h.1.1)
  clause_ends cs a b (IsClause.limit_from {m = m} {n = n}) h =
      let first = h.1.0 in
      let most = h.1.1.1.0 in
      ((omega (arith, first, most), tt), h.1.1.1.1)
  clause_ends cs a b (IsClause.collect {ls = ls} {gs = gs} {into = i} {a = d} {b = c} p t said) h =
      let one = any_carry (IsAssignment E inside) LetEnds assignment_ends ls d c p h.1 in
      let two = tail_ends gs i c b t one.1 in
      (((lets_end ls one.0, aggregates_end gs two.0, into_ends i two.1), tt), two.2)

  are_clauses_end : Carries (AreClauses E inside) (AllByRecursion ClauseLimitsEnd)
  are_clauses_end cs a b AreClauses.none h = (tt, h)
  are_clauses_end cs a b (AreClauses.more {cs = one} {ds = ds} {b = c} p ps) h =
      let first = clause_ends one a c p h in
      let rest = are_clauses_end ds c b ps first.1 in
      (both_end one ds first.0 rest.0, rest.1)

  query_ends : (with_list : List (List ℕ)) → Carries (IsQuery E inside with_list) QueryLimitsEnd
  query_ends with_list q a b (IsQuery.query {cs = cs} {distinct = distinct} {x = x} {b = c} {c = d} ps o p) h =
      let all = are_clauses_end cs a _ ps h in
      let one = ends inside x d b p (distinct_passes distinct c d o all.1.1) in
      ((clauses_end cs all.0, one.0), one.1)

  -- ---- expressions

  argument_ends : Carries (IsArgument E inside) LimitsEnd
  argument_ends x a b (IsArgument.expr p) h = ends inside x a b p h
  argument_ends x a b (IsArgument.query {q = q} p) h = query_ends [] q a b p h

  primary_ends : Carries (IsPrimary E inside) LimitsEnd
  primary_ends x a b IsPrimary.number h = (tt, h.1)
  primary_ends x a b IsPrimary.text h = (tt, h.1)
  primary_ends x a b IsPrimary.null h = (tt, h.1)
  primary_ends x a b IsPrimary.true_word h = (tt, h.1)
  primary_ends x a b IsPrimary.false_word h = (tt, h.1)
  primary_ends x a b (IsPrimary.name {v = v} n) h = variable_ends inside v x a b n h
  primary_ends x a b (IsPrimary.call {xs = xs} {a = c} ps) h =
      let all = any_carry (IsArgument E inside) LimitsEnd argument_ends xs c _ ps h.1.1 in
      (exprs_end xs all.0, all.1.1)
  primary_ends x a b (IsPrimary.list {xs = xs} {a = c} ps) h =
      let all = items_carry (E inside) LimitsEnd (ends inside) xs c _ ps h.1 in
      (exprs_end xs all.0, all.1.1)
  primary_ends x a b (IsPrimary.object {ms = ms} p) h =
      let all = object_ends ms a b p h in (members_end ms all.0, all.1)
  primary_ends x a b (IsPrimary.parentheses {a = c} p) h =
      let one = argument_ends x c _ p h.1 in (one.0, one.1.1)

  element_part_ends : (word : Keyword) → Carries (IsElementPart E inside word) MaybeEnds
  element_part_ends word o a b IsElementPart.none h = (tt, h)
  element_part_ends word o a b (IsElementPart.some {x = x} {a = c} p) h = ends true x c b p h.1

  step_ends : Carries (IsStep E inside) StepEnds
  step_ends s a b (IsStep.name {v = v} {a = c} n) h = (tt, name_passes v c b n h.1)
  step_ends s a b (IsStep.at {x = x} {a = c} p) h =
      let one = ends inside x c _ p h.1 in (one.0, one.1.1)
  step_ends s a b (IsStep.inline {f = f} {p = g} {a = c} {b = d} p q) h =
      let one = element_part_ends _ f c d p h.1.1 in
      let two = element_part_ends _ g d _ q one.1 in
      ((one.0, two.0), two.1.1)

  postfix_ends : Carries (IsPostfix E inside) LimitsEnd
  postfix_ends x a b (IsPostfix.alone p) h = primary_ends x a b p h
  postfix_ends x a b (IsPostfix.with_steps {x = of} {p = s} {ps = ss} {b = c} p ps) h =
      let one = primary_ends of a c p h in
      let all = many_carry (IsStep E inside) StepEnds step_ends (s ∷ ss) c b ps one.1 in
      ((one.0, steps_end (s ∷ ss) all.0), all.1)

  unary_ends : Carries (IsUnary E inside) LimitsEnd
  unary_ends x a b (IsUnary.postfix p) h = postfix_ends x a b p h
  unary_ends x a b (IsUnary.applied {op = op} {x = of} {b = c} o p) h =
      unary_ends of c b p (unary_passes op a c o h)

module _ (P : ExprTree → Tokens → Tokens → Type 0) (ends : Carries P LimitsEnd) where
  link_ends : (precedence : Precedence) → Carries (IsLink precedence P) LinkEnds
  link_ends precedence l a b (IsLink.link {op = op} {x = x} {b = c} o p) h =
      ends x c b p (operator_passes precedence op a c o h)

  chain_ends : (precedence : Precedence) → Carries (IsChain precedence P) LimitsEnd
  chain_ends precedence x a b (IsChain.alone p) h = ends x a b p h
  chain_ends precedence x a b (IsChain.with_links {x = first} {l = l} {ls = ls} {b = c} p ps) h =
      let one = ends first a c p h in
      let all = many_carry (IsLink precedence P) LinkEnds (link_ends precedence) (l ∷ ls) c b ps one.1 in
      ((one.0, links_end (l ∷ ls) all.0), all.1)

  range_ends : Carries (IsRange P) LimitsEnd
  range_ends x a b (IsRange.alone p) h = ends x a b p h
  range_ends x a b (IsRange.range {x = low} {y = high} {b = c} p q) h =
      let one = ends low a _ p h in
      let two = ends high c b q one.1.1 in
      ((one.0, two.0), two.1)

  quantified_ends : Carries (IsQuantified P) LimitsEnd
  quantified_ends x a b (IsQuantified.alone p) h = ends x a b p h
  quantified_ends x a b
      (IsQuantified.array_comparison {x = left} {y = right} {kind = kind} {op = op} {b = c} {c = d} {d = f}
      p q o g) h =
      let one = ends left a c p h in
      let two = ends right f b g (comparison_passes op d f o (quantifier_passes kind c d q one.1)) in
      ((one.0, two.0), two.1)

module _ (E : Bool → ExprTree → Tokens → Tokens → Type 0)
    (ends : (inside : Bool) → Carries (E inside) LimitsEnd) (inside : Bool) where
  product_ends : Carries (IsProduct E inside) LimitsEnd
  product_ends = chain_ends (IsUnary E inside) (unary_ends E ends inside) level.Product

  sum_ends : Carries (IsSum E inside) LimitsEnd
  sum_ends = chain_ends (IsProduct E inside) product_ends level.Sum

  span_ends : Carries (IsSpan E inside) LimitsEnd
  span_ends = range_ends (IsSum E inside) sum_ends

  relation_ends : Carries (IsRelation E inside) LimitsEnd
  relation_ends = chain_ends (IsSpan E inside) span_ends level.Relation

  membership_ends : Carries (IsMembership E inside) LimitsEnd
  membership_ends = chain_ends (IsRelation E inside) relation_ends level.Membership

  equality_ends : Carries (IsEquality E inside) LimitsEnd
  equality_ends = chain_ends (IsMembership E inside) membership_ends level.Equality

  array_comparison_ends : Carries (IsArrayComparison E inside) LimitsEnd
  array_comparison_ends = quantified_ends (IsEquality E inside) equality_ends

  conjunction_ends : Carries (IsConjunction E inside) LimitsEnd
  conjunction_ends = chain_ends (IsArrayComparison E inside) array_comparison_ends level.Conjunction

  disjunction_ends : Carries (IsDisjunction E inside) LimitsEnd
  disjunction_ends = chain_ends (IsConjunction E inside) conjunction_ends level.Disjunction

  conditional_ends : Carries (IsConditional E inside) LimitsEnd
  conditional_ends x a b (IsConditional.plain p) h = disjunction_ends x a b p h
  conditional_ends x a b (IsConditional.short {x = test} {z = z} {b = c} p q) h =
      let one = disjunction_ends test a _ p h in
      let two = ends inside z c b q one.1.1.1 in
      ((one.0, tt, two.0), two.1)
  conditional_ends x a b (IsConditional.full {x = test} {y = y} {z = z} {b = c} {c = d} p f g) h =
      let one = disjunction_ends test a _ p h in
      let two = ends inside y c _ f one.1.1 in
      let three = ends inside z d b g two.1.1 in
      ((one.0, two.0, three.0), three.1)

expr_ends : (depth : ℕ) (inside : Bool) → Carries (IsExpr depth inside) LimitsEnd
expr_ends zero inside x a b p h = absurd p
expr_ends (suc depth) inside x a b p h =
    conditional_ends (IsExpr depth) (expr_ends depth) inside x a b p h

-- ---- a text

top_ends : (depth : ℕ) (q : QueryTree) (a b : Tokens) → IsTop (IsExpr depth) q a b → Kept a
    → QueryLimitsEnd q
top_ends depth q a b (IsTop.plain p) h = (query_ends (IsExpr depth) (expr_ends depth) false [] q a b p h).0
top_ends depth q a b (IsTop.with_list {names = names} {a = c} {b = d} ns p) h =
    (query_ends (IsExpr depth) (expr_ends depth) false names q d b p (names_pass names c d ns h.1)).0

pub text_ends : TextLimitsEnd
text_ends text tokens lexed q spelled =
    top_ends spelled.0 q (kinds_of tokens) [] spelled.1 (read_kept _ text tokens None lexed)
