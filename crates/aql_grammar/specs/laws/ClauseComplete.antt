-- Objects, clauses and queries: what is spelt is read.
use Rattle.std.proofs.Common.{◌≡◌, ℕ, zero, suc, ◌≤◌, Bool, true, false, cond, List, [], ◌∷◌}
use Rattle.std.proofs.Common.{◌++◌, length, Option, Some, None, refl, sym, ap, ◌∙◌}
use Rattle.std.proofs.Common.{arith, append_assoc}
use Rattle.std.proofs.lemmas.List.{append-nil}
use Rattle.std.specs.Prelude.{pos, codes}
use Rattle.aql_lex.specs.declared.kinds.TokenKind.TheVariants as k
use Rattle.aql_lex.specs.declared.vocabulary.Symbol.{Symbol}
use Rattle.aql_lex.specs.declared.vocabulary.Symbol.TheVariants as s
use Rattle.aql_lex.specs.declared.vocabulary.Keyword.{Keyword}
use Rattle.aql_lex.specs.declared.vocabulary.Keyword.TheVariants as w
use Rattle.aql_tree.specs.Tree.{ExprTree, ClauseTree, QueryTree, filter_by}
use Rattle.aql_tree.specs.Tree as tree
use Rattle.aql_tree.specs.declared.syntax.Direction.{Direction}
use Rattle.aql_tree.specs.View.{MemberPart, LetPart, AggregatePart, IntoPart, collect_clause}
use Rattle.aql_tree.specs.View.{traversal_clause}
use Rattle.aql_tree.specs.Build as e
use Rattle.aql_grammar.specs.Kinds.{Tokens}
use Rattle.aql_grammar.specs.Spelling.{IsName, IsOptional, AreSeparated, AreAny, AreItems}
use Rattle.aql_grammar.specs.Objects.{IsVariable, IsKey, IsMember, IsObject}
use Rattle.aql_grammar.specs.Clauses.{AreTraversalNames, IsDepth, IsDirection, says, IsAssignment, IsLet}
use Rattle.aql_grammar.specs.Clauses.{IsSortKey, IsAggregate, IsInto, AreAggregates, IsTail, IsPrune}
use Rattle.aql_grammar.specs.Clauses.{AreOptions, IsClause, AreClauses, IsDistinct, IsQuery}
use Rattle.aql_grammar.specs.Input.{Parser, head, next, sees, sees_keyword, after_keyword, sees_word}
use Rattle.aql_grammar.specs.Input.{is_name, is_number, same_symbol, same_keyword, name, natural, comma_list}
use Rattle.aql_grammar.specs.Reader.{word, named_member, text_member, computed_member, member, members}
use Rattle.aql_grammar.specs.Reader.{traversal_names, traversal_depth, limit, count_name, assignment}
use Rattle.aql_grammar.specs.Reader.{let_clause}
use Rattle.aql_grammar.specs.Reader.{sort_key, optional_argument, aggregate, aggregates, into_part, into}
use Rattle.aql_grammar.specs.Reader.{groups, collect, prune, settings, traversal, for_clause}
use Rattle.aql_grammar.specs.Reader.{begins_traversal, begins_clause, begins_query, clause, clauses_from}
use Rattle.aql_grammar.specs.Reader.{clauses, query}
use Rattle.aql_grammar.specs.laws.Steps.{Complete, Shrinks, Always, bind_here, if_true, if_false}
use Rattle.aql_grammar.specs.laws.Steps.{expect_then, keyword_then, word_then, eat_then, eat_else}
use Rattle.aql_grammar.specs.laws.Steps.{eat_keyword_then, eat_keyword_else, eat_word_then, eat_word_else}
use Rattle.aql_grammar.specs.laws.Steps.{name_complete, name_shrinks, word_shrinks, not_first}
use Rattle.aql_grammar.specs.laws.Steps.{sees_keyword_here}
use Rattle.aql_grammar.specs.laws.ListLaws.{separated_complete, separated_onto_complete, separated_shrinks}
use Rattle.aql_grammar.specs.laws.ListLaws.{items_complete}
use Rattle.aql_grammar.specs.laws.OperatorLaws.{Ends, traversal_direction_read, traversal_direction_shrinks}
use Rattle.aql_grammar.specs.laws.Shrinking.{member_shrinks, assignment_shrinks, let_shrinks}
use Rattle.aql_grammar.specs.laws.Shrinking.{sort_key_shrinks, aggregate_shrinks, aggregates_fall}
use Rattle.aql_grammar.specs.laws.Shrinking.{prune_falls, traversal_names_shrink, traversal_depth_falls}
use Rattle.aql_grammar.specs.laws.Shrinking.{clause_shrinks}
use Rattle.aql_grammar.specs.laws.Shrinking.{clauses_fall, distinct_falls}
use Rattle.aql_grammar.specs.laws.Ending.{comma_ends, paren_ends, bracket_ends, brace_ends, asc_ends}
use Rattle.aql_grammar.specs.laws.Ending.{desc_ends, with_ends, aggregate_ends, into_ends, name_ends}
use Rattle.aql_grammar.specs.laws.Ending.{word_ends, Stop, stop_ends, stop_no_symbol, stop_no_keyword}
use Rattle.aql_grammar.specs.laws.Ending.{stop_no_word, stop_no_name, clause_stops, word_no_symbol}
use Rattle.aql_grammar.specs.laws.Ending.{options_no_prune, Starts, no_first_keyword}
use Rattle.aql_grammar.specs.laws.Ending.{no_comparison_first, no_traversal_first, traversal_direction_begins}
use Rattle.aql_grammar.specs.laws.Ending.{traversal_begins}

keyword_no_symbol : (keyword : Keyword) (symbol : Symbol) (ts : Tokens)
    → sees symbol (k.Keyword keyword ∷ ts) ≡ false
unfolding sees
keyword_no_symbol keyword symbol ts = refl

names_complete : (vs : List (List ℕ)) (a b : Tokens) → AreSeparated IsName vs a b → sees s.Comma b ≡ false
    → comma_list name a ≡ Some (vs, b)
names_complete vs a b h other =
    separated_complete name IsName Always (length a) (λ v c d short spelt f. name_complete v c d spelt)
    name_shrinks (λ ts. tt) vs a b h (omega arith) tt other

pub names_read : (vs : List (List ℕ)) (a b : Tokens) → AreSeparated IsName vs a b → sees s.Comma b ≡ false
    → comma_list name a ≡ Some (vs, b)
names_read vs a b h other = names_complete vs a b h other

traversal_names_complete : (n : e.TraversalNames) (a b : Tokens) → AreTraversalNames n a b
    → sees s.Comma b ≡ false
    → traversal_names a ≡ Some (n, b)
unfolding traversal_names
traversal_names_complete n a b (AreTraversalNames.vertex {v = v} h) other = bind_here _ _ (v, b) _
    (name_complete v a b h) (eat_else s.Comma _ _ b _ other refl)
traversal_names_complete n a b (AreTraversalNames.edge {v = v} {x = x} {b = c} h g) other =
    bind_here _ _ (v, k.Symbol s.Comma ∷ c) _ (name_complete v a _ h) (eat_then s.Comma _ _ c _
    (bind_here _ _ (x, b) _ (name_complete x c b g) (eat_else s.Comma _ _ b _ other refl)))
traversal_names_complete n a b (AreTraversalNames.path {v = v} {x = x} {p = p} {b = c} {c = d} h g f) other =
    bind_here _ _ (v, k.Symbol s.Comma ∷ c) _ (name_complete v a _ h) (eat_then s.Comma _ _ c _
    (bind_here _ _ (x, k.Symbol s.Comma ∷ d) _ (name_complete x c _ g) (eat_then s.Comma _ _ d _
    (bind_here _ _ (p, b) _ (name_complete p d b f) refl))))

traversal_depth_complete : (m n : ℕ) (a b : Tokens) → IsDepth m n a b → is_number (head b) ≡ false
    → sees s.Range b ≡ false → traversal_depth a ≡ Some ((m, n), b)
unfolding traversal_depth natural
traversal_depth_complete m n a b IsDepth.unsaid number range = if_false _ _ _ a _ number refl
traversal_depth_complete m n a b IsDepth.exact number range = eat_else s.Range _ _ b _ range refl
traversal_depth_complete m n a b (IsDepth.between {b = c}) number range = eat_then s.Range _ _
    (k.Number _ ∷ c) _ refl

distinct_complete : (d : Bool) (a b : Tokens) → IsDistinct d a b → sees_keyword w.Distinct b ≡ false
    → (sees_keyword w.Distinct a ≡ d) × (after_keyword w.Distinct a ≡ b)
unfolding after_keyword
distinct_complete d a b IsDistinct.plain other = (other, ap (λ (c : Bool). cond c (next a) a) other)
distinct_complete d a b IsDistinct.distinct other =
    (sees_keyword_here w.Distinct b, ap (λ (c : Bool). cond c b a) (sees_keyword_here w.Distinct b))

module _ (R : Bool → Parser ExprTree) (E : Bool → ExprTree → Tokens → Tokens → Type 0) (bound : ℕ)
    (complete : (inside : Bool) → Complete (R inside) (E inside) Ends bound)
    (shrinks : (inside : Bool) → Shrinks (E inside)) (starts : (inside : Bool) → Starts (R inside))
    (inside : Bool) where
  -- ---- objects

  record Between (ts : Tokens) : Type 0 where
    ends : Ends ts
    no_colon : sees s.Colon ts ≡ false

  comma_between : (ts : Tokens) → Between (k.Symbol s.Comma ∷ ts)
  unfolding sees same_symbol
  comma_between ts = record { ends = comma_ends ts; no_colon = refl }

  brace_between : (ts : Tokens) → Between (k.Symbol s.CloseBrace ∷ ts)
  unfolding sees same_symbol
  brace_between ts = record { ends = brace_ends ts; no_colon = refl }

  brace_apart : (ts : Tokens) → sees s.Comma (k.Symbol s.CloseBrace ∷ ts) ≡ false
  unfolding sees same_symbol
  brace_apart ts = refl

  brace_none : (ts : Tokens) → member R inside (k.Symbol s.CloseBrace ∷ ts) ≡ None
  unfolding member
  brace_none ts = refl

  member_complete : Complete (member R inside) (IsMember E inside) Between bound
  unfolding member named_member text_member computed_member
  member_complete m a b short (IsMember.named {x = x} {b = c} (IsKey.name IsName.word) g) f = eat_then
      s.Colon _ _ c _ (bind_here _ _ (x, b) _ (complete inside x c b (omega arith) g f.ends) refl)
  member_complete m a b short (IsMember.named {x = x} {b = c} (IsKey.name IsName.quoted) g) f = eat_then
      s.Colon _ _ c _ (bind_here _ _ (x, b) _ (complete inside x c b (omega arith) g f.ends) refl)
  member_complete m a b short (IsMember.named {x = x} {b = c} IsKey.text g) f = expect_then s.Colon c _ _
      (bind_here _ _ (x, b) _ (complete inside x c b (omega arith) g f.ends) refl)
  member_complete m a b short (IsMember.computed {n = n} {x = x} {a = d} {b = c} h g) f =
      let i = shrinks inside n d (k.Symbol s.CloseBracket ∷ k.Symbol s.Colon ∷ c) h in
      bind_here _ _ (n, k.Symbol s.CloseBracket ∷ k.Symbol s.Colon ∷ c) _
      (complete inside n d _ (omega arith) h (bracket_ends _))
      (expect_then s.CloseBracket (k.Symbol s.Colon ∷ c) _ _
      (expect_then s.Colon c _ _ (bind_here _ _ (x, b) _ (complete inside x c b (omega arith) g f.ends)
      refl)))
  member_complete m a b short (IsMember.short IsVariable.word) f = eat_else s.Colon _ _ b _ f.no_colon refl
  member_complete m a b short (IsMember.short IsVariable.quoted) f = eat_else s.Colon _ _ b _ f.no_colon
      refl

  -- after the opening brace
  pub members_complete : (ms : List MemberPart) (a b : Tokens) → AreItems (IsMember E inside) ms a
      (k.Symbol s.CloseBrace ∷ b) → length a ≤ bound → members R inside a ≡ Some (ms, b)
  members_complete ms a b h short =
      items_complete (member R inside) (IsMember E inside) Between bound member_complete
      (member_shrinks E shrinks inside) comma_between s.CloseBrace brace_none brace_between brace_apart
      ms a b h short

  -- ---- clauses

  assignment_complete : Complete (assignment R inside) (IsAssignment E inside) Ends bound
  unfolding assignment
  assignment_complete l a b short (IsAssignment.assignment {v = v} {x = x} {b = c} h g) ends =
      let i = name_shrinks v a (k.Symbol s.Assign ∷ c) h in
      bind_here _ _ (v, k.Symbol s.Assign ∷ c) _ (name_complete v a _ h)
      (expect_then s.Assign c _ _ (bind_here _ _ (x, b) _ (complete inside x c b (omega arith) g ends)
      refl))

  let_complete : Complete (let_clause R inside) (IsLet E inside) Ends bound
  unfolding let_clause
  let_complete l a b short (IsLet.let_be {v = v} {x = x} {b = c} h g) ends =
      let i = name_shrinks v a (k.Symbol s.Assign ∷ c) h in
      bind_here _ _ (v, k.Symbol s.Assign ∷ c) _ (name_complete v a _ h)
      (expect_then s.Assign c _ _ (bind_here _ _ (x, b) _ (complete inside x c b (omega arith) g ends)
      refl))

  record KeyEnds (ts : Tokens) : Type 0 where
    ends : Ends ts
    no_desc : sees_keyword w.Desc ts ≡ false
    no_asc : sees_keyword w.Asc ts ≡ false

  key_comma : (ts : Tokens) → KeyEnds (k.Symbol s.Comma ∷ ts)
  unfolding sees_keyword
  key_comma ts = record { ends = comma_ends ts; no_desc = refl; no_asc = refl }

  key_stop : (ts : Tokens) → Stop ts → KeyEnds ts
  key_stop ts h = record {
    ends = stop_ends ts h;
    no_desc = stop_no_keyword w.Desc ts refl h;
    no_asc =
        stop_no_keyword w.Asc ts refl h;
  }

  asc_no_desc : (ts : Tokens) → sees_keyword w.Desc (k.Keyword w.Asc ∷ ts) ≡ false
  unfolding sees_keyword same_keyword
  asc_no_desc ts = refl

  after_false : (keyword : Keyword) (ts : Tokens) → sees_keyword keyword ts ≡ false
      → after_keyword keyword ts ≡ ts
  unfolding after_keyword
  after_false keyword ts h = ap (λ (c : Bool). cond c (next ts) ts) h

  after_true : (keyword : Keyword) (ts : Tokens) → after_keyword keyword (k.Keyword keyword ∷ ts) ≡ ts
  unfolding after_keyword
  after_true keyword ts = ap (λ (c : Bool). cond c ts (k.Keyword keyword ∷ ts))
      (sees_keyword_here keyword ts)

  sort_key_complete : Complete (sort_key R inside) (IsSortKey E inside) KeyEnds bound
  unfolding sort_key
  sort_key_complete l a b short (IsSortKey.unsaid {x = x} h) f =
      bind_here _ _ (x, b) _ (complete inside x a b short h f.ends)
      (eat_keyword_else w.Desc _ _ b _ f.no_desc
      (ap (λ r. Some ((x, false), r)) (after_false w.Asc b f.no_asc)))
  sort_key_complete l a b short (IsSortKey.ascending {x = x} h) f =
      bind_here _ _ (x, k.Keyword w.Asc ∷ b) _ (complete inside x a _ short h (asc_ends b))
      (eat_keyword_else w.Desc _ _ _ _ (asc_no_desc b)
      (ap (λ r. Some ((x, false), r)) (after_true w.Asc b)))
  sort_key_complete l a b short (IsSortKey.descending {x = x} h) f =
      bind_here _ _ (x, k.Keyword w.Desc ∷ b) _ (complete inside x a _ short h (desc_ends b))
      (eat_keyword_then w.Desc _ _ b _ refl)

  argument_complete : (x : Option ExprTree) (a b : Tokens) → length a ≤ bound
      → IsOptional (E inside) x a (k.Symbol s.CloseParen ∷ b) → optional_argument R inside a ≡ Some (x, b)
  unfolding optional_argument
  argument_complete x a b short IsOptional.none = eat_then s.CloseParen _ _ b _ refl
  argument_complete x a b short (IsOptional.some {x = z} h) =
      let read = complete inside z a _ short h (paren_ends b) in
      eat_else s.CloseParen _ _ a _
      (not_first (R inside) s.CloseParen ((starts inside).no_symbol s.CloseParen refl) a _ read)
      (bind_here _ _ (z, k.Symbol s.CloseParen ∷ b) _ read (expect_then s.CloseParen b _ _ refl))

  word_here : (f : List ℕ) (ts : Tokens) → word (k.Word f ∷ ts) ≡ Some (f, ts)
  unfolding word
  word_here f ts = refl

  aggregate_complete : Complete (aggregate R inside) (IsAggregate E inside) Always bound
  unfolding aggregate
  aggregate_complete g a b short (IsAggregate.aggregate {v = v} {f = f} {x = x} {b = c} h o) always =
      let i = name_shrinks v a (k.Symbol s.Assign ∷ k.Word f ∷ k.Symbol s.OpenParen ∷ c) h in
      bind_here _ _ (v, k.Symbol s.Assign ∷ k.Word f ∷ k.Symbol s.OpenParen ∷ c) _ (name_complete v a _ h)
      (expect_then s.Assign (k.Word f ∷ k.Symbol s.OpenParen ∷ c) _ _
      (bind_here _ _ (f, k.Symbol s.OpenParen ∷ c) _ (word_here f _)
      (expect_then s.OpenParen c _ _ (bind_here _ _ (x, b) _ (argument_complete x c b (omega arith) o)
      refl))))

  -- INTO, or what ends the clause
  data IntoOrStop : Tokens → Type 0 where
    into_there : {ts : Tokens} → IntoOrStop (k.Keyword w.Into ∷ ts)
    stop_there : {ts : Tokens} → Stop ts → IntoOrStop ts

  into_or_stop : (i : Option IntoPart) (a b : Tokens) → IsOptional (IsInto E inside) i a b → Stop b
      → IntoOrStop a
  into_or_stop i a b IsOptional.none stop = stop_there stop
  into_or_stop i a b (IsOptional.some (IsInto.alone h)) stop = into_there
  into_or_stop i a b (IsOptional.some (IsInto.taking h g)) stop = into_there
  into_or_stop i a b (IsOptional.some (IsInto.keeping h o ms)) stop = into_there

  into_no_comma : (ts : Tokens) → IntoOrStop ts → sees s.Comma ts ≡ false
  into_no_comma ts (into_there {ts = us}) = keyword_no_symbol w.Into s.Comma us
  into_no_comma ts (stop_there h) = stop_no_symbol s.Comma ts h

  into_no_keyword : (keyword : Keyword) (ts : Tokens) → begins_query (Some (k.Keyword keyword)) ≡ false
      → same_keyword w.Into keyword ≡ false → IntoOrStop ts → sees_keyword keyword ts ≡ false
  unfolding sees_keyword
  into_no_keyword keyword ts other apart (into_there {ts = us}) = apart
  into_no_keyword keyword ts other apart (stop_there h) = stop_no_keyword keyword ts other h

  into_not_aggregate : same_keyword w.Into w.Aggregate ≡ false
  unfolding same_keyword
  into_not_aggregate = refl

  into_not_with : same_keyword w.Into w.With ≡ false
  unfolding same_keyword
  into_not_with = refl

  aggregate_not_with : same_keyword w.Aggregate w.With ≡ false
  unfolding same_keyword
  aggregate_not_with = refl

  aggregates_complete : (gs : List AggregatePart) (a b : Tokens) → length a ≤ bound
      → AreAggregates E inside gs a b → IntoOrStop b → aggregates R inside a ≡ Some (gs, b)
  unfolding aggregates
  aggregates_complete gs a b short AreAggregates.none f = eat_keyword_else w.Aggregate _ _ a _
      (into_no_keyword w.Aggregate a refl into_not_aggregate f) refl
  aggregates_complete gs a b short (AreAggregates.some {a = c} h) f =
      eat_keyword_then w.Aggregate _ _ c _
      (separated_complete (aggregate R inside) (IsAggregate E inside) Always bound aggregate_complete
      (aggregate_shrinks E shrinks inside) (λ ts. tt) gs c b h (omega arith) tt (into_no_comma b f))

  into_part_complete : (p : IntoPart) (a b : Tokens) → length a ≤ bound
      → IsInto E inside p (k.Keyword w.Into ∷ a) b → Stop b → into_part R inside a ≡ Some (p, b)
  unfolding into_part
  into_part_complete p a b short (IsInto.alone {v = v} h) stop =
      bind_here _ _ (v, b) _ (name_complete v a b h)
      (eat_else s.Assign _ _ b _ (stop_no_symbol s.Assign b stop)
      (eat_word_else (codes "KEEP") _ _ b _ (stop_no_word (codes "KEEP") b stop) refl))
  into_part_complete p a b short (IsInto.taking {v = v} {x = x} {b = c} h g) stop =
      let i = name_shrinks v a (k.Symbol s.Assign ∷ c) h in
      bind_here _ _ (v, k.Symbol s.Assign ∷ c) _ (name_complete v a _ h)
      (eat_then s.Assign _ _ c _
      (bind_here _ _ (x, b) _ (complete inside x c b (omega arith) g (stop_ends b stop)) refl))
  into_part_complete p a b short (IsInto.keeping {v = v} {names = ns} {b = c} {c = d} h o ms) stop =
      bind_here _ _ (v, c) _ (name_complete v a c h)
      (eat_else s.Assign _ _ c _ (word_no_symbol (codes "KEEP") s.Assign c d o)
      (eat_word_then (codes "KEEP") _ _ c d _ o
      (bind_here _ _ (ns, b) _ (names_complete ns d b ms (stop_no_symbol s.Comma b stop)) refl)))

  into_complete : (i : Option IntoPart) (a b : Tokens) → length a ≤ bound → IsOptional (IsInto E inside) i a
      b → Stop b → into R inside a ≡ Some (i, b)
  unfolding into
  into_complete i a b short IsOptional.none stop = eat_keyword_else w.Into _ _ a _
      (stop_no_keyword w.Into a refl stop) refl
  into_complete i a b short (IsOptional.some {x = p} (IsInto.alone {a = c} h)) stop =
      eat_keyword_then w.Into _ _ c _
      (bind_here _ _ (p, b) _ (into_part_complete p c b (omega arith) (IsInto.alone h) stop) refl)
  into_complete i a b short (IsOptional.some {x = p} (IsInto.taking {a = c} h g)) stop =
      eat_keyword_then w.Into _ _ c _
      (bind_here _ _ (p, b) _ (into_part_complete p c b (omega arith) (IsInto.taking h g) stop) refl)
  into_complete i a b short (IsOptional.some {x = p} (IsInto.keeping {a = c} h o ms)) stop =
      eat_keyword_then w.Into _ _ c _
      (bind_here _ _ (p, b) _ (into_part_complete p c b (omega arith) (IsInto.keeping h o ms) stop)
      refl)

  -- what stands after the groups of COLLECT
  record Tailed (ts : Tokens) : Type 0 where
    ends : Ends ts
    no_comma : sees s.Comma ts ≡ false
    no_name : is_name (head ts) ≡ false

  stop_tailed : (ts : Tokens) → IntoOrStop ts → Tailed ts
  stop_tailed ts (into_there {ts = us}) = record {
    ends = into_ends us;
    no_comma = keyword_no_symbol w.Into
        s.Comma us;
    no_name = refl;
  }
  stop_tailed ts (stop_there h) = record {
    ends = stop_ends ts h;
    no_comma = stop_no_symbol s.Comma ts h;
    no_name = stop_no_name ts h;
  }

  tail_tailed : (gs : List AggregatePart) (i : Option IntoPart) (a b : Tokens) → IsTail E inside gs i a b
      → Stop b → Tailed a
  tail_tailed gs i a b (IsTail.count {a = c} o h) stop = record
      { ends = with_ends c; no_comma = keyword_no_symbol w.With s.Comma c; no_name = refl }
  tail_tailed gs i a b (IsTail.parts AreAggregates.none h) stop = stop_tailed a (into_or_stop i a b h stop)
  tail_tailed gs i a b (IsTail.parts (AreAggregates.some {a = c} g) h) stop = record
      { ends = aggregate_ends c; no_comma = keyword_no_symbol w.Aggregate s.Comma c; no_name = refl }

  separated_names : (ls : List LetPart) (a b : Tokens) → AreSeparated (IsAssignment E inside) ls a b
      → is_name (head a) ≡ true
  separated_names ls a b (AreSeparated.last (IsAssignment.assignment IsName.word g)) = refl
  separated_names ls a b (AreSeparated.last (IsAssignment.assignment IsName.quoted g)) = refl
  separated_names ls a b (AreSeparated.before (IsAssignment.assignment IsName.word g) others) = refl
  separated_names ls a b (AreSeparated.before (IsAssignment.assignment IsName.quoted g) others) = refl

  groups_complete : (ls : List LetPart) (a b : Tokens) → length a ≤ bound → AreAny (IsAssignment E inside) ls
      a b → Tailed b → groups R inside a ≡ Some (ls, b)
  unfolding groups
  groups_complete ls a b short AreAny.none f = if_false _ _ _ a _ f.no_name refl
  groups_complete ls a b short (AreAny.some h) f =
      if_true _ _ _ a _ (separated_names ls a b h)
      (separated_complete (assignment R inside) (IsAssignment E inside) Ends bound assignment_complete
      (assignment_shrinks E shrinks inside) comma_ends ls a b h short f.ends f.no_comma)

  any_falls : (ls : List LetPart) (a b : Tokens) → AreAny (IsAssignment E inside) ls a b → length b ≤ length a
  any_falls ls a b AreAny.none = omega arith
  any_falls ls a b (AreAny.some h) = let i = separated_shrinks (IsAssignment E inside)
      (assignment_shrinks E shrinks inside) ls a b h in omega arith

  parts_no_with : (gs : List AggregatePart) (i : Option IntoPart) (a b c : Tokens)
      → AreAggregates E inside gs a b → IntoOrStop b → sees_keyword w.With a ≡ false
  unfolding sees_keyword
  parts_no_with gs i a b c AreAggregates.none f = into_no_keyword w.With a refl into_not_with f
  parts_no_with gs i a b c (AreAggregates.some g) f = aggregate_not_with

  collect_complete : (ls : List LetPart) (gs : List AggregatePart) (i : Option IntoPart) (a b c : Tokens)
      → length a ≤ bound → AreAny (IsAssignment E inside) ls a b → IsTail E inside gs i b c
      → says ls gs i ≡ true → Stop c
      → collect R inside a ≡ Some (collect_clause (ls, gs, i), c)
  unfolding collect count_name
  collect_complete ls gs i a b c short h (IsTail.count {v = v} {a = d} {b = f} o n) said stop =
      bind_here _ _ (ls, b) _
      (groups_complete ls a b short h (tail_tailed gs i b c (IsTail.count o n) stop))
      (eat_keyword_then w.With _ _ d _
      (bind_here _ _ (v, c) _ (word_then (codes "COUNT") d (k.Keyword w.Into ∷ f) _ _ o
      (keyword_then w.Into f _ _ (name_complete v f c n))) refl))
  collect_complete ls gs i a b c short h (IsTail.parts {b = d} g n) said stop =
      let f = into_or_stop i d c n stop in
      let falls = any_falls ls a b h in
      let fall = aggregates_fall E shrinks inside gs b d g in
      bind_here _ _ (ls, b) _
      (groups_complete ls a b short h (tail_tailed gs i b c (IsTail.parts g n) stop))
      (eat_keyword_else w.With _ _ b _ (parts_no_with gs i b d c g f)
      (bind_here _ _ (gs, d) _ (aggregates_complete gs b d (omega arith) g f)
      (bind_here _ _ (i, c) _ (into_complete i d c (omega arith) n stop) (if_true _ _ _ c _ said refl))))

  -- PRUNE, OPTIONS, or what ends the clause
  record TraversalEnds (ts : Tokens) : Type 0 where
    ends : Ends ts
    no_comma : sees s.Comma ts ≡ false

  options_end : (ms : List MemberPart) (a b : Tokens) → AreOptions E inside ms a b → Stop b → TraversalEnds a
      × (sees_word (codes "PRUNE") a ≡ false)
  options_end ms a b AreOptions.none stop = (
    record { ends = stop_ends a stop; no_comma = stop_no_symbol s.Comma a stop },
    stop_no_word
        (codes "PRUNE") a stop,
  )
  options_end ms a b (AreOptions.some {b = c} o h) stop = (
    record {
      ends = word_ends (codes "OPTIONS") a c o;
      no_comma = word_no_symbol (codes "OPTIONS")
          s.Comma a c o;
    },
    options_no_prune a c o,
  )

  prune_ends : (p : Option ExprTree) (ms : List MemberPart) (a b c : Tokens) → IsPrune E inside p a b
      → AreOptions E inside ms b c → Stop c → TraversalEnds a
  prune_ends p ms a b c IsPrune.none g stop = (options_end ms a c g stop).0
  prune_ends p ms a b c (IsPrune.some {b = d} o h) g stop = record {
    ends = word_ends (codes "PRUNE") a d o;
    no_comma = word_no_symbol (codes "PRUNE") s.Comma a d o;
  }

  prune_complete : (p : Option ExprTree) (ms : List MemberPart) (a b c : Tokens) → length a ≤ bound
      → IsPrune E inside p a b → AreOptions E inside ms b c → Stop c → prune R inside a ≡ Some (p, b)
  unfolding prune
  prune_complete p ms a b c short IsPrune.none g stop = eat_word_else (codes "PRUNE") _ _ a _
      (options_end ms a c g stop).1 refl
  prune_complete p ms a b c short (IsPrune.some {x = x} {b = d} o h) g stop =
      let i = word_shrinks (codes "PRUNE") a d o in
      eat_word_then (codes "PRUNE") _ _ a d _ o
      (bind_here _ _ (x, b) _ (complete inside x d b (omega arith) h (options_end ms b c g stop).0.ends)
      refl)

  settings_complete : (ms : List MemberPart) (a b : Tokens) → length a ≤ bound → AreOptions E inside ms a b
      → Stop b → settings R inside a ≡ Some (ms, b)
  unfolding settings
  settings_complete ms a b short AreOptions.none stop = eat_word_else (codes "OPTIONS") _ _ a _
      (stop_no_word (codes "OPTIONS") a stop) refl
  settings_complete ms a b short (AreOptions.some {b = c} o (IsObject.object {a = d} h)) stop =
      let i = word_shrinks (codes "OPTIONS") a c o in
      eat_word_then (codes "OPTIONS") _ _ a c _ o
      (expect_then s.OpenBrace d _ _ (members_complete ms d b h (omega arith)))

  names_front : (vs : List (List ℕ)) (a b : Tokens) → AreSeparated IsName vs a b → Ends a
  names_front vs a b (AreSeparated.last {x = v} h) = name_ends v a b h
  names_front vs a b (AreSeparated.before {x = v} {b = c} h others) = name_ends v a (k.Symbol s.Comma ∷ c) h

  traversal_complete : (names : e.TraversalNames) (m n : ℕ) (d : Direction) (start : ExprTree)
      (edges : List (List ℕ))
      (p : Option ExprTree) (ms : List MemberPart) (a b c f g h i : Tokens) → length a ≤ bound
      → IsDepth m n a b → IsDirection d b c → E inside start c f → AreSeparated IsName edges f g
      → IsPrune E inside p g h → AreOptions E inside ms h i → Stop i
      → (begins_traversal a ≡ true)
      × (traversal R inside names a ≡ Some (traversal_clause (e.traversal names m n d start edges p ms), i))
  unfolding traversal
  traversal_complete names m n d start edges p ms a b c f g h i short hd hw hs he hp ho stop =
      let l1 = traversal_depth_falls m n a b hd in
      let l2 = traversal_direction_shrinks d b c hw in
      let l3 = shrinks inside start c f hs in
      let l4 = separated_shrinks IsName name_shrinks edges f g he in
      let l5 = prune_falls E shrinks inside p g h hp in
      let started = complete inside start c f (omega arith) hs (names_front edges f g he) in
      let begun = traversal_direction_begins d b c hw
      (no_comparison_first (R inside) (starts inside) c (start, f) started)
      in (
        traversal_begins m n a b hd begun.0 begun.1.0 begun.1.1,
        bind_here _ _ ((m, n), b) _ (traversal_depth_complete m n a b hd begun.1.0 begun.1.1)
            (bind_here _ _ (d, c) _ (traversal_direction_read d b c hw)
            (bind_here _ _ (start, f) _ started
            (bind_here _ _ (edges, g) _
            (names_complete edges f g he (prune_ends p ms g h i hp ho stop).no_comma)
            (bind_here _ _ (p, h) _ (prune_complete p ms g h i (omega arith) hp ho stop)
            (bind_here _ _ (ms, i) _ (settings_complete ms h i (omega arith) ho stop) refl))))),
      )

  limit_complete : (m n : ℕ) (b : Tokens)
      → limit (k.Number (pos m) ∷ k.Symbol s.Comma ∷ k.Number (pos n) ∷ b) ≡ Some (tree.limit m n, b)
  unfolding limit natural
  limit_complete m n b = eat_then s.Comma _ _ (k.Number (pos n) ∷ b) _ refl

  limit_alone : (n : ℕ) (b : Tokens) → Stop b → limit (k.Number (pos n) ∷ b) ≡ Some (tree.limit 0 n, b)
  unfolding limit natural
  limit_alone n b stop = eat_else s.Comma _ _ b _ (stop_no_symbol s.Comma b stop) refl

  clause_complete : (found cs : List ClauseTree) (a b : Tokens) → length a ≤ suc bound
      → IsClause E inside cs a b → Stop b → clause R inside found a ≡ Some (found ++ cs, b)
  unfolding clause for_clause
  clause_complete found cs a b short (IsClause.for_in {v = v} {x = x} {a = d} {b = c} h g) stop =
      let i = name_shrinks v d (k.Keyword w.In ∷ c) h in
      let read = complete inside x c b (omega arith) g (stop_ends b stop) in
      bind_here _ _ (e.for_in v x, b) _
      (bind_here _ _ (record { vertex = v; edge = None; path = None }, k.Keyword w.In ∷ c) _
      (traversal_names_complete _ d (k.Keyword w.In ∷ c) (AreTraversalNames.vertex h)
      (keyword_no_symbol w.In s.Comma c))
      (keyword_then w.In c _ _
      (if_false _ _ _ c _ (no_traversal_first (R inside) (starts inside) c (x, b) read stop)
      (bind_here _ _ (x, b) _ read refl))))
      refl
  clause_complete found cs a b short (IsClause.traversal {names = names} {least = m} {greatest = n}
      {way = d} {start = start} {edges = edges} {prune = p} {ms = ms} {a = a'} {b = b'} {c = c'} {d = d'}
      {f = f'} {g = g'} {h = h'} hn hd hw hs he hp ho) stop =
      let i = traversal_names_shrink names a' (k.Keyword w.In ∷ b') hn in
      let read = traversal_complete names m n d start edges p ms b' c' d' f' g' h' b
      (omega arith) hd hw hs he hp
      ho stop in
      bind_here _ _ (traversal_clause (e.traversal names m n d start edges p ms), b) _
      (bind_here _ _ (names, k.Keyword w.In ∷ b') _
      (traversal_names_complete names a' (k.Keyword w.In ∷ b') hn
      (keyword_no_symbol w.In s.Comma b'))
      (keyword_then w.In b' _ _ (if_true _ _ _ b' _ read.0 read.1)))
      refl
  clause_complete found cs a b short (IsClause.filter {x = x} {a = d} h) stop = bind_here _ _ (x, b) _
      (complete inside x d b (omega arith) h (stop_ends b stop)) refl
  clause_complete found cs a b short (IsClause.let_in {a = d} h) stop =
      separated_onto_complete (let_clause R inside) (IsLet E inside) Ends bound let_complete
      (let_shrinks E shrinks inside) comma_ends found cs d b h (omega arith) (stop_ends b stop)
      (stop_no_symbol s.Comma b stop)
  clause_complete found cs a b short (IsClause.sort_by {ks = ks} {a = d} h) stop =
      bind_here _ _ (ks, b) _
      (separated_complete (sort_key R inside) (IsSortKey E inside) KeyEnds bound sort_key_complete
      (sort_key_shrinks E shrinks inside) key_comma ks d b h (omega arith) (key_stop b stop)
      (stop_no_symbol s.Comma b stop)) refl
  clause_complete found cs a b short (IsClause.limit {n = n}) stop = bind_here _ _ (tree.limit 0 n, b) _
      (limit_alone n b stop) refl
  clause_complete found cs a b short (IsClause.limit_from {m = m} {n = n}) stop = bind_here _ _
      (tree.limit m n, b) _ (limit_complete m n b) refl
  clause_complete found cs a b short (IsClause.collect {ls = ls} {gs = gs} {into = i} {a = d} {b = c} h g
      said) stop =
      bind_here _ _ (collect_clause (ls, gs, i), b) _
      (collect_complete ls gs i d c b (omega arith) h g said stop)
      refl

  clause_begins : (cs : List ClauseTree) (a b : Tokens) → IsClause E inside cs a b
      → begins_clause (head a) ≡ true
  clause_begins cs a b (IsClause.for_in h g) = refl
  clause_begins cs a b (IsClause.traversal hn hd hw hs he hp ho) = refl
  clause_begins cs a b (IsClause.filter h) = refl
  clause_begins cs a b (IsClause.let_in h) = refl
  clause_begins cs a b (IsClause.sort_by h) = refl
  clause_begins cs a b IsClause.limit = refl
  clause_begins cs a b IsClause.limit_from = refl
  clause_begins cs a b (IsClause.collect h g said) = refl

  clauses_stop : (cs : List ClauseTree) (a b : Tokens) → AreClauses E inside cs a (k.Keyword w.Return ∷ b)
      → Stop a
  clauses_stop cs a b AreClauses.none = refl
  clauses_stop cs a b (AreClauses.more {cs = one} {b = c} h others) = clause_stops (head a)
      (clause_begins one a c h)

  clauses_from_complete : (n : ℕ) (found cs : List ClauseTree) (a b : Tokens)
      → AreClauses E inside cs a (k.Keyword w.Return ∷ b) → length a ≤ n → length a ≤ suc bound
      → clauses_from R inside n found a ≡ Some (found ++ cs, k.Keyword w.Return ∷ b)
  unfolding clauses_from
  clauses_from_complete zero found cs a b AreClauses.none few short = ap
      (λ q. Some (q, k.Keyword w.Return ∷ b)) (sym (append-nil found))
  clauses_from_complete (suc n) found cs a b AreClauses.none few short = ap
      (λ q. Some (q, k.Keyword w.Return ∷ b)) (sym (append-nil found))
  clauses_from_complete zero found cs a b (AreClauses.more {cs = one} {b = c} h others) few short = let
      some = clause_shrinks E shrinks inside one a c h in absurd (omega arith)
  clauses_from_complete (suc n) found cs a b (AreClauses.more {cs = one} {ds = ds} {b = c} h others) few
      short =
      let some = clause_shrinks E shrinks inside one a c h in
      if_true _ _ _ a _ (clause_begins one a c h)
      (bind_here _ _ (found ++ one, c) _
      (clause_complete found one a c short h (clauses_stop ds c b others))
      (clauses_from_complete n (found ++ one) ds c b others (omega arith) (omega arith)
      ∙ ap (λ q. Some (q, k.Keyword w.Return ∷ b)) (append_assoc found one ds)))

  pub query_complete : (with_list : List (List ℕ)) → Complete (query R inside with_list)
      (IsQuery E inside with_list) Ends (suc bound)
  unfolding query clauses
  query_complete with_list q a b short (IsQuery.query {cs = cs} {distinct = d} {x = x} {b = c} {c = f} h o
      g) ends =
      let fall = clauses_fall E shrinks inside cs a (k.Keyword w.Return ∷ c) h in
      let falls = distinct_falls d c f o in
      let read = complete inside x f b (omega arith) g ends in
      let said = distinct_complete d c f o (no_first_keyword (R inside) (starts inside) w.Distinct refl f
      (x, b) read) in
      bind_here _ _ (cs, k.Keyword w.Return ∷ c) _ (clauses_from_complete (length a) [] cs a c h
      (omega arith) short)
      (keyword_then w.Return c _ _ (bind_here _ _ (x, b) _ (ap (R inside) said.1 ∙ read)
      (ap (λ t. Some (e.query with_list cs t x, b)) said.0)))

  pub query_begins : (with_list : List (List ℕ)) (q : QueryTree) (a b : Tokens) → IsQuery E inside with_list
      q a b → begins_query (head a) ≡ true
  query_begins with_list q a b (IsQuery.query {cs = cs} {b = c} h o g) = clauses_stop cs a c h
