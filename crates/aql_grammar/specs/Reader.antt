-- What the program does with tokens, rule by rule, as functions.
use Rattle.std.specs.Prelude.{ℕ, zero, suc, ◌==◌, Bool, true, false, not, ◌&&◌, if◌then◌else◌, List}
use Rattle.std.specs.Prelude.{[], ◌∷◌, ◌++◌, length, Option, Some, None, codes}
use Rattle.aql_lex.specs.declared.kinds.TokenKind.{TokenKind}
use Rattle.aql_lex.specs.declared.kinds.TokenKind.TheVariants as k
use Rattle.aql_lex.specs.declared.vocabulary.Symbol.{Symbol}
use Rattle.aql_lex.specs.declared.vocabulary.Symbol.TheVariants as s
use Rattle.aql_lex.specs.declared.vocabulary.Keyword.{Keyword}
use Rattle.aql_lex.specs.declared.vocabulary.Keyword.TheVariants as w
use Rattle.aql_value.specs.declared.operators.BinOp.{BinOp}
use Rattle.aql_value.specs.declared.operators.BinOp.TheVariants as op
use Rattle.aql_value.specs.declared.operators.UnaryOp.{UnaryOp}
use Rattle.aql_value.specs.declared.operators.UnaryOp.TheVariants as un
use Rattle.aql_tree.specs.declared.syntax.QuantKind.{QuantKind}
use Rattle.aql_tree.specs.declared.syntax.QuantKind.TheVariants as quant
use Rattle.aql_tree.specs.declared.syntax.Direction.{Direction}
use Rattle.aql_tree.specs.declared.syntax.Direction.TheVariants as direction
use Rattle.aql_tree.specs.Tree.{ExprTree, ClauseTree, QueryTree, unary_of, range_of, subquery, filter_by}
use Rattle.aql_tree.specs.Tree as tree
use Rattle.aql_tree.specs.View.{MemberPart, StepPart, LinkPart, KeyPart, sort, LetPart, AggregatePart}
use Rattle.aql_tree.specs.View.{IntoPart, collect_clause, traversal_clause}
use Rattle.aql_tree.specs.View as part
use Rattle.aql_tree.specs.Build as e
use Rattle.aql_grammar.specs.declared.precedence.Precedence.{Precedence}
use Rattle.aql_grammar.specs.declared.precedence.Precedence.TheVariants as level
use Rattle.aql_grammar.specs.contracts.precedence.Precedence as precedence
use denote.Enum.Bare.{sameb}
use Rattle.aql_grammar.specs.Kinds.{Tokens}
use Rattle.aql_grammar.specs.Operators.{tighter}
use Rattle.aql_grammar.specs.Objects.{word_value}
use Rattle.aql_grammar.specs.Clauses.{depth_number, says}
use Rattle.aql_grammar.specs.Input.{Parser, ◌>>=◌, ◌>>◌, ◌<$>◌, pure, refuse, peek, look, head, next}
use Rattle.aql_grammar.specs.Input.{at_front, sees, skip, eat, eat_keyword, eat_word, expect}
use Rattle.aql_grammar.specs.Input.{expect_keyword, expect_word, name, is_name, natural, is_number, many}
use Rattle.aql_grammar.specs.Input.{comma_list, comma_list_onto, items}

-- an unquoted name
abbrev pub word_by : Option TokenKind → Parser (List ℕ)
word_by (Some (k.Word v)) = skip >> pure v
word_by other = refuse

unfoldable pub word : Parser (List ℕ)
word = peek >>= word_by

-- ---- operators

-- the precedence of an operator, and the operator
abbrev pub operator_of_symbol : Symbol → Option (Precedence × BinOp)
operator_of_symbol s.Star = Some (level.Product, op.Mul)
operator_of_symbol s.Slash = Some (level.Product, op.Div)
operator_of_symbol s.Percent = Some (level.Product, op.Rem)
operator_of_symbol s.Plus = Some (level.Sum, op.Add)
operator_of_symbol s.Minus = Some (level.Sum, op.Sub)
operator_of_symbol s.Less = Some (level.Relation, op.Lt)
operator_of_symbol s.LessOrEqual = Some (level.Relation, op.Le)
operator_of_symbol s.Greater = Some (level.Relation, op.Gt)
operator_of_symbol s.GreaterOrEqual = Some (level.Relation, op.Ge)
operator_of_symbol s.Equal = Some (level.Equality, op.Eq)
operator_of_symbol s.NotEqual = Some (level.Equality, op.Ne)
operator_of_symbol s.And = Some (level.Conjunction, op.And)
operator_of_symbol s.Or = Some (level.Disjunction, op.Or)
operator_of_symbol other = None

abbrev pub operator_of_keyword : Keyword → Option (Precedence × BinOp)
operator_of_keyword w.In = Some (level.Membership, op.IsIn)
operator_of_keyword w.Like = Some (level.Equality, op.Like)
operator_of_keyword w.And = Some (level.Conjunction, op.And)
operator_of_keyword w.Or = Some (level.Disjunction, op.Or)
operator_of_keyword other = None

-- after `NOT`
abbrev pub operator_after_not : Option TokenKind → Option (Precedence × BinOp)
operator_after_not (Some (k.Keyword w.In)) = Some (level.Membership, op.NotIn)
operator_after_not (Some (k.Keyword w.Like)) = Some (level.Equality, op.NotLike)
operator_after_not other = None

-- by the first token and the second
abbrev pub operator_by : Option TokenKind → Option TokenKind → Option (Precedence × BinOp)
operator_by (Some (k.Symbol symbol)) u = operator_of_symbol symbol
operator_by (Some (k.Keyword w.Not)) u = operator_after_not u
operator_by (Some (k.Keyword keyword)) u = operator_of_keyword keyword
operator_by other u = None

unfoldable pub operator_ahead : Tokens → Option (Precedence × BinOp)
operator_ahead i = operator_by (head i) (head (next i))

abbrev pub has_two_words : BinOp → Bool
has_two_words op.NotIn = true
has_two_words op.NotLike = true
has_two_words other = false

abbrev pub compares : BinOp → Bool
compares op.Eq = true
compares op.Ne = true
compares op.Lt = true
compares op.Le = true
compares op.Gt = true
compares op.Ge = true
compares op.IsIn = true
compares op.NotIn = true
compares other = false

unfoldable pub after_operator : BinOp → Tokens → Tokens
after_operator o i = if has_two_words o then next (next i) else next i

abbrev pub operator_then : Option (Precedence × BinOp) → Parser BinOp
operator_then (Some p) = λ i. Some (p.1, after_operator p.1 i)
operator_then None = refuse

unfoldable pub operator : Parser BinOp
operator = look operator_ahead >>= operator_then

abbrev pub is_comparison : Option (Precedence × BinOp) → Bool
is_comparison (Some p) = compares p.1
is_comparison None = false

unfoldable pub begins_comparison : Tokens → Bool
begins_comparison i = is_comparison (operator_ahead i)

unfoldable pub comparison : Parser BinOp
comparison = do
  is_there ← look begins_comparison
  if is_there then operator else refuse

unfoldable pub same_precedence : Precedence → Precedence → Bool
same_precedence = sameb precedence.the_type

abbrev pub has_precedence : Precedence → Option (Precedence × BinOp) → Bool
has_precedence precedence (Some p) = same_precedence p.0 precedence
has_precedence precedence None = false

-- whether an operator of this precedence comes next
unfoldable pub sees_operator : Precedence → Tokens → Bool
sees_operator precedence i = has_precedence precedence (operator_ahead i)

abbrev pub quantifier_by : Option TokenKind → Parser QuantKind
quantifier_by (Some (k.Keyword w.All)) = skip >> pure quant.All
quantifier_by (Some (k.Keyword w.Any)) = skip >> pure quant.Any
quantifier_by (Some (k.Keyword w.None)) = skip >> pure quant.None
quantifier_by other = refuse

unfoldable pub quantifier : Parser QuantKind
quantifier = peek >>= quantifier_by

abbrev pub begins_quantifier : Option TokenKind → Bool
begins_quantifier (Some (k.Keyword w.All)) = true
begins_quantifier (Some (k.Keyword w.Any)) = true
begins_quantifier (Some (k.Keyword w.None)) = true
begins_quantifier other = false

abbrev pub unary_at : Option TokenKind → Option UnaryOp
unary_at (Some (k.Symbol s.Plus)) = Some un.Plus
unary_at (Some (k.Symbol s.Minus)) = Some un.Minus
unary_at (Some (k.Symbol s.Not)) = Some un.Not
unary_at (Some (k.Keyword w.Not)) = Some un.Not
unary_at other = None

-- ---- what begins with a token

abbrev pub begins_step : Option TokenKind → Bool
begins_step (Some (k.Symbol s.Dot)) = true
begins_step (Some (k.Symbol s.OpenBracket)) = true
begins_step other = false

abbrev pub begins_clause : Option TokenKind → Bool
begins_clause (Some (k.Keyword w.For)) = true
begins_clause (Some (k.Keyword w.Filter)) = true
begins_clause (Some (k.Keyword w.Let)) = true
begins_clause (Some (k.Keyword w.Sort)) = true
begins_clause (Some (k.Keyword w.Limit)) = true
begins_clause (Some (k.Keyword w.Collect)) = true
begins_clause other = false

abbrev pub begins_query : Option TokenKind → Bool
begins_query (Some (k.Keyword w.Return)) = true
begins_query other = begins_clause other

-- ---- where a traversal begins

-- ANY with a comparison after it is part of an expression
abbrev pub begins_direction_by : Option TokenKind → Bool → Bool
begins_direction_by (Some (k.Keyword w.Outbound)) has_comparison = true
begins_direction_by (Some (k.Keyword w.Inbound)) has_comparison = true
begins_direction_by (Some (k.Keyword w.Any)) has_comparison = not has_comparison
begins_direction_by other has_comparison = false

unfoldable pub begins_direction : Tokens → Bool
begins_direction i = begins_direction_by (head i) (begins_comparison (next i))

-- after the first number
unfoldable pub begins_after_number : Tokens → Bool
begins_after_number i = if sees s.Range i && is_number (head (next i))
    then begins_direction (next (next i)) else begins_direction i

unfoldable pub begins_traversal : Tokens → Bool
begins_traversal i = if is_number (head i) then begins_after_number (next i) else begins_direction i

-- ---- the parts of a traversal that hold no expression

unfoldable pub traversal_names : Parser e.TraversalNames
traversal_names = do
  vertex ← name
  has_edge ← eat s.Comma
  if has_edge then (do
    edge ← name
    has_path ← eat s.Comma
    if has_path then (do
      path ← name
      pure (record { vertex = vertex; edge = Some edge; path = Some path }))
        else pure (record { vertex = vertex; edge = Some edge; path = None }))
      else pure (record { vertex = vertex; edge = None; path = None })

unfoldable pub traversal_depth : Parser (ℕ × ℕ)
traversal_depth = do
  t ← peek
  if is_number t then (do
    least ← natural
    has_greatest ← eat s.Range
    if has_greatest then (do
      greatest ← natural
      pure (depth_number least, depth_number greatest))
        else pure (depth_number least, depth_number least))
      else pure (1, 1)

abbrev pub traversal_direction_by : Option TokenKind → Parser Direction
traversal_direction_by (Some (k.Keyword w.Outbound)) = skip >> pure direction.Outbound
traversal_direction_by (Some (k.Keyword w.Inbound)) = skip >> pure direction.Inbound
traversal_direction_by (Some (k.Keyword w.Any)) = skip >> pure direction.Any
traversal_direction_by other = refuse

unfoldable pub traversal_direction : Parser Direction
traversal_direction = peek >>= traversal_direction_by

unfoldable pub limit : Parser ClauseTree
limit = do
  first ← natural
  has_offset ← eat s.Comma
  if has_offset then (do
    count ← natural
    pure (tree.limit first count))
      else pure (tree.limit 0 first)

-- after `WITH`
unfoldable pub count_name : Parser (List ℕ)
count_name = do
  expect_word (codes "COUNT")
  expect_keyword w.Into
  name

unfoldable pub chain_of : ExprTree → List LinkPart → ExprTree
chain_of first [] = first
chain_of first (l ∷ ls) = e.with_links first l ls

unfoldable pub access_of : ExprTree → List StepPart → ExprTree
access_of of [] = of
access_of of (x ∷ xs) = e.with_steps of x xs

abbrev pub apply : {A : Type 0} → Option UnaryOp → (UnaryOp → Parser A) → Parser A → Parser A
apply None f p = p
apply (Some o) f p = f o

-- ---- the rules that hold expressions; `expr` reads one that stands one bracket deeper

module _ (expr : Bool → Parser ExprTree) (inside : Bool) where
  -- after a name
  unfoldable pub named_member : List ℕ → ExprTree → Parser MemberPart
  named_member v short = do
    has_value ← eat s.Colon
    if has_value then part.named v <$> expr inside else pure (part.named v short)

  unfoldable pub text_member : List ℕ → Parser MemberPart
  text_member v = do
    expect s.Colon
    part.named v <$> expr inside

  -- after the opening bracket
  unfoldable pub computed_member : Parser MemberPart
  computed_member = do
    n ← expr inside
    expect s.CloseBracket
    expect s.Colon
    part.computed n <$> expr inside

  abbrev pub member_by : Option TokenKind → Parser MemberPart
  member_by (Some (k.Word v)) = skip >> named_member v (word_value inside v)
  member_by (Some (k.Quoted v)) = skip >> named_member v (e.name v)
  member_by (Some (k.Text v)) = skip >> text_member v
  member_by (Some (k.Symbol s.OpenBracket)) = skip >> computed_member
  member_by other = refuse

  unfoldable pub member : Parser MemberPart
  member = peek >>= member_by

  -- after the opening brace
  abbrev pub members : Parser (List MemberPart)
  members = items s.CloseBrace member

  -- ---- clauses

  unfoldable pub assignment : Parser LetPart
  assignment = do
    v ← name
    expect s.Assign
    e.assignment v <$> expr inside

  unfoldable pub let_clause : Parser ClauseTree
  let_clause = do
    v ← name
    expect s.Assign
    e.let_in v <$> expr inside

  unfoldable pub sort_key : Parser KeyPart
  sort_key = do
    x ← expr inside
    is_descending ← eat_keyword w.Desc
    if is_descending then pure (x, true) else (do
      is_ascending ← eat_keyword w.Asc
      pure (x, false))

  -- after the opening parenthesis of an aggregate
  unfoldable pub optional_argument : Parser (Option ExprTree)
  optional_argument = do
    is_empty ← eat s.CloseParen
    if is_empty then pure None else (do
      x ← expr inside
      expect s.CloseParen
      pure (Some x))

  unfoldable pub aggregate : Parser AggregatePart
  aggregate = do
    v ← name
    expect s.Assign
    f ← word
    expect s.OpenParen
    e.aggregate_as v f <$> optional_argument

  unfoldable pub aggregates : Parser (List AggregatePart)
  aggregates = do
    has_some ← eat_keyword w.Aggregate
    if has_some then comma_list aggregate else pure []

  -- after `INTO`
  unfoldable pub into_part : Parser IntoPart
  into_part = do
    v ← name
    has_value ← eat s.Assign
    if has_value then (do x ← expr inside; pure (e.collect_into v (Some x) [])) else (do
      keeps ← eat_word (codes "KEEP")
      if keeps then e.collect_into v None <$> comma_list name else pure (e.collect_into v None []))

  unfoldable pub into : Parser (Option IntoPart)
  into = do
    has_some ← eat_keyword w.Into
    if has_some then Some <$> into_part else pure None

  unfoldable pub groups : Parser (List LetPart)
  groups = do
    t ← peek
    if is_name t then comma_list assignment else pure []

  -- after `COLLECT`
  unfoldable pub collect : Parser ClauseTree
  collect = do
    ls ← groups
    counts ← eat_keyword w.With
    if counts then (do
      v ← count_name
      pure (collect_clause (ls, e.aggregate_as v (codes "LENGTH") None ∷ [], None)))
        else (do
          gs ← aggregates
          i ← into
          if says ls gs i then pure (collect_clause (ls, gs, i)) else refuse)

  unfoldable pub prune : Parser (Option ExprTree)
  prune = do
    has_some ← eat_word (codes "PRUNE")
    if has_some then Some <$> expr inside else pure None

  unfoldable pub settings : Parser (List MemberPart)
  settings = do
    has_some ← eat_word (codes "OPTIONS")
    if has_some then expect s.OpenBrace >> members else pure []

  unfoldable pub traversal : e.TraversalNames → Parser ClauseTree
  traversal names = do
    depth ← traversal_depth
    direction ← traversal_direction
    start ← expr inside
    edges ← comma_list name
    p ← prune
    ms ← settings
    pure (traversal_clause (e.traversal names depth.0 depth.1 direction start edges p ms))

  abbrev pub single_by : List ℕ → Option (List ℕ) → Parser ClauseTree
  single_by v None = e.for_in v <$> expr inside
  single_by v (Some other) = refuse

  -- after `FOR`
  unfoldable pub for_clause : Parser ClauseTree
  for_clause = do
    names ← traversal_names
    expect_keyword w.In
    is_traversal ← look begins_traversal
    if is_traversal then traversal names else single_by names.vertex names.edge

  abbrev pub with_clause : List ClauseTree → ClauseTree → List ClauseTree
  with_clause found c = found ++ c ∷ []

  abbrev pub clause_by : List ClauseTree → Option TokenKind → Parser (List ClauseTree)
  clause_by found (Some (k.Keyword w.For)) = skip >> with_clause found <$> for_clause
  clause_by found (Some (k.Keyword w.Filter)) = skip >> (λ x. with_clause found (filter_by x)) <$> expr inside
  clause_by found (Some (k.Keyword w.Let)) = skip >> comma_list_onto let_clause found
  clause_by found (Some (k.Keyword w.Sort)) =
      skip >> (λ ks. with_clause found (sort ks)) <$> comma_list sort_key
  clause_by found (Some (k.Keyword w.Limit)) = skip >> with_clause found <$> limit
  clause_by found (Some (k.Keyword w.Collect)) = skip >> with_clause found <$> collect
  clause_by found other = refuse

  -- a clause after those that were found
  unfoldable pub clause : List ClauseTree → Parser (List ClauseTree)
  clause found = peek >>= clause_by found

  unfoldable pub clauses_from : ℕ → List ClauseTree → Parser (List ClauseTree)
  clauses_from zero found = pure found
  clauses_from (suc n) found = do
    t ← peek
    if begins_clause t then (do now ← clause found; clauses_from n now) else pure found

  unfoldable pub clauses : Parser (List ClauseTree)
  clauses = λ i. clauses_from (length i) [] i

  unfoldable pub query : List (List ℕ) → Parser QueryTree
  query with_list = do
    cs ← clauses
    expect_keyword w.Return
    distinct ← eat_keyword w.Distinct
    e.query with_list cs distinct <$> expr inside

  -- ---- primaries and steps

  unfoldable pub argument : Parser ExprTree
  argument = do
    t ← peek
    if begins_query t then subquery <$> query [] else expr inside

  -- after the opening parenthesis of a call
  unfoldable pub arguments : Parser (List ExprTree)
  arguments = do
    is_empty ← eat s.CloseParen
    if is_empty then pure [] else (do found ← comma_list argument; expect s.CloseParen; pure found)

  -- after a word
  unfoldable pub call_or_name : List ℕ → Parser ExprTree
  call_or_name v = do
    is_call ← eat s.OpenParen
    if is_call then e.call v <$> arguments else pure (word_value inside v)

  unfoldable pub parentheses : Parser ExprTree
  parentheses = do
    found ← argument
    expect s.CloseParen
    pure found

  abbrev pub primary_by : Option TokenKind → Parser ExprTree
  primary_by (Some (k.Number n)) = skip >> pure (e.number n)
  primary_by (Some (k.Text v)) = skip >> pure (e.text v)
  primary_by (Some (k.Quoted v)) = skip >> pure (e.name v)
  primary_by (Some (k.Word v)) = skip >> call_or_name v
  primary_by (Some (k.Keyword w.Null)) = skip >> pure e.null
  primary_by (Some (k.Keyword w.True)) = skip >> pure (e.boolean true)
  primary_by (Some (k.Keyword w.False)) = skip >> pure (e.boolean false)
  primary_by (Some (k.Symbol s.OpenParen)) = skip >> parentheses
  primary_by (Some (k.Symbol s.OpenBracket)) = skip >> e.list <$> items s.CloseBracket (expr inside)
  primary_by (Some (k.Symbol s.OpenBrace)) = skip >> e.object <$> members
  primary_by other = refuse

  unfoldable pub primary : Parser ExprTree
  primary = peek >>= primary_by

  -- what a keyword introduces in an inline expression
  unfoldable pub element : Keyword → Parser (Option ExprTree)
  element keyword = do
    has_some ← eat_keyword keyword
    if has_some then Some <$> expr true else pure None

  -- after the opening bracket of a step
  unfoldable pub bracket_step : Parser StepPart
  bracket_step = do
    is_each ← eat s.Star
    if is_each then (do
      filter ← element w.Filter
      project ← element w.Return
      expect s.CloseBracket
      pure (part.inline filter project))
        else (do
          x ← expr inside
          expect s.CloseBracket
          pure (part.at x))

  abbrev pub step_by : Option TokenKind → Parser StepPart
  step_by (Some (k.Symbol s.Dot)) = skip >> part.name <$> name
  step_by (Some (k.Symbol s.OpenBracket)) = skip >> bracket_step
  step_by other = refuse

  unfoldable pub step : Parser StepPart
  step = peek >>= step_by

  unfoldable pub postfix : Parser ExprTree
  postfix = do
    of ← primary
    steps ← many (at_front begins_step) step
    pure (access_of of steps)

  -- ---- operators, from the tightest on

  -- the number bounds the operators
  unfoldable pub unary_from : ℕ → Parser ExprTree
  unary_from zero = refuse
  unary_from (suc n) = do
    t ← peek
    apply (unary_at t) (λ o. do skip; unary_of o <$> unary_from n) postfix

  unfoldable pub unary : Parser ExprTree
  unary = λ i. unary_from (length i) i

unfoldable pub link : Parser ExprTree → Parser LinkPart
link part = do
  o ← operator
  e.link o <$> part

unfoldable pub chain : Precedence → Parser ExprTree → Parser ExprTree
chain precedence part = do
  first ← part
  rest ← many (sees_operator precedence) (link part)
  pure (chain_of first rest)

unfoldable pub range : Parser ExprTree → Parser ExprTree
range part = do
  low ← part
  has_high ← eat s.Range
  if has_high then range_of low <$> part else pure low

unfoldable pub array_comparison : Parser ExprTree → Parser ExprTree
array_comparison part = do
  left ← part
  is_quantified ← look (at_front begins_quantifier)
  if is_quantified then (do
    kind ← quantifier
    o ← comparison
    tree.array_comparison left kind o <$> part)
      else pure left

module _ (expr : Bool → Parser ExprTree) (inside : Bool) where
  unfoldable pub product : Parser ExprTree
  product = chain level.Product (unary expr inside)

  unfoldable pub sum : Parser ExprTree
  sum = chain level.Sum product

  unfoldable pub span : Parser ExprTree
  span = range sum

  unfoldable pub relation : Parser ExprTree
  relation = chain level.Relation span

  unfoldable pub membership : Parser ExprTree
  membership = chain level.Membership relation

  unfoldable pub equality : Parser ExprTree
  equality = chain level.Equality membership

  unfoldable pub comparison_level : Parser ExprTree
  comparison_level = array_comparison equality

  unfoldable pub conjunction : Parser ExprTree
  conjunction = chain level.Conjunction comparison_level

  unfoldable pub disjunction : Parser ExprTree
  disjunction = chain level.Disjunction conjunction

  -- an expression whose operators bind at least so tightly
  abbrev pub level_at : Precedence → Parser ExprTree
  level_at level.Product = product
  level_at level.Sum = sum
  level_at level.Range = span
  level_at level.Relation = relation
  level_at level.Membership = membership
  level_at level.Equality = equality
  level_at level.ArrayComparison = comparison_level
  level_at level.Conjunction = conjunction
  level_at level.Disjunction = disjunction

  abbrev pub tighter_level : Option Precedence → Parser ExprTree
  tighter_level (Some precedence) = level_at precedence
  tighter_level None = unary expr inside

  -- what stands on both sides of an operator of this precedence
  abbrev pub operand : Precedence → Parser ExprTree
  operand precedence = tighter_level (tighter precedence)

  -- after the question mark
  unfoldable pub ternary_of : ExprTree → Parser ExprTree
  ternary_of test = do
    is_short ← eat s.Colon
    if is_short then e.conditional test None <$> expr inside else (do
      first ← expr inside
      expect s.Colon
      e.conditional test (Some first) <$> expr inside)

  unfoldable pub conditional : Parser ExprTree
  conditional = do
    test ← disjunction
    is_choice ← eat s.Question
    if is_choice then ternary_of test else pure test

-- with expressions nested no deeper than the number
unfoldable pub expr : ℕ → Bool → Parser ExprTree
expr zero inside = refuse
expr (suc depth) inside = conditional (expr depth) inside

unfoldable pub top : ℕ → Parser QueryTree
top fuel = do
  has_list ← eat_keyword w.With
  if has_list then (do names ← comma_list name; query (expr fuel) false names) else query (expr fuel) false
      []

abbrev pub at_end : Option (QueryTree × Tokens) → Option QueryTree
at_end None = None
at_end (Some p) = if length p.1 == 0 then Some p.0 else None

-- the query that all the tokens are, in which no more nests than there are tokens
unfoldable pub whole_query : Tokens → Option QueryTree
whole_query i = at_end (top (length i) i)
