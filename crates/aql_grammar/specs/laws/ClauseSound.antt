-- Objects, clauses and queries: what is read is spelt so.
use Rattle.std.proofs.Common.{◌≡◌, ℕ, zero, suc, Bool, true, false, cond, List, [], ◌∷◌, ◌++◌, length}
use Rattle.std.proofs.Common.{Option, Some, None, ◌⊎◌, inl, inr, ⊎_elim, refl, sym, ap, ◌∙◌, subst}
use Rattle.std.proofs.Common.{append_assoc}
use Rattle.std.proofs.lemmas.List.{append-nil}
use Rattle.std.specs.Prelude.{pos, codes}
use Rattle.aql_lex.specs.declared.kinds.TokenKind.TheVariants as k
use Rattle.aql_lex.specs.declared.vocabulary.Symbol.{Symbol}
use Rattle.aql_lex.specs.declared.vocabulary.Symbol.TheVariants as s
use Rattle.aql_lex.specs.declared.vocabulary.Keyword.{Keyword}
use Rattle.aql_lex.specs.declared.vocabulary.Keyword.TheVariants as w
use Rattle.aql_tree.specs.Tree.{ExprTree, ClauseTree, QueryTree, filter_by}
use Rattle.aql_tree.specs.Tree as tree
use Rattle.aql_tree.specs.View.{MemberPart, KeyPart, sort, LetPart, AggregatePart, IntoPart, collect_clause}
use Rattle.aql_tree.specs.View.{traversal_clause}
use Rattle.aql_tree.specs.View as part
use Rattle.aql_tree.specs.Build as e
use Rattle.aql_grammar.specs.Kinds.{Tokens}
use Rattle.aql_grammar.specs.Spelling.{IsName, IsWord, IsOptional, AreSeparated, AreAny}
use Rattle.aql_grammar.specs.Objects.{word_value, IsVariable, IsKey, IsMember, IsObject}
use Rattle.aql_grammar.specs.Clauses.{AreTraversalNames, depth_number, IsDepth, says, IsAssignment, IsLet}
use Rattle.aql_grammar.specs.Clauses.{IsSortKey, IsAggregate, IsInto, AreAggregates, IsTail, IsPrune}
use Rattle.aql_grammar.specs.Clauses.{AreOptions, IsClause, AreClauses, IsDistinct, IsQuery}
use Rattle.aql_grammar.specs.Input.{Parser, head, next, sees_keyword, after_keyword, is_name, is_number}
use Rattle.aql_grammar.specs.Input.{expect, expect_keyword, expect_word, name, natural, comma_list}
use Rattle.aql_grammar.specs.Reader.{word, named_member, text_member, computed_member, member, members}
use Rattle.aql_grammar.specs.Reader.{traversal_names, traversal_depth, traversal_direction, limit, count_name}
use Rattle.aql_grammar.specs.Reader.{assignment, let_clause}
use Rattle.aql_grammar.specs.Reader.{sort_key, optional_argument, aggregate, aggregates, into_part, into}
use Rattle.aql_grammar.specs.Reader.{groups, collect, prune, settings, traversal, single_by, for_clause}
use Rattle.aql_grammar.specs.Reader.{begins_traversal, begins_clause, clause_by, clause, clauses_from}
use Rattle.aql_grammar.specs.Reader.{clauses}
use Rattle.aql_grammar.specs.Reader.{query}
use Rattle.aql_grammar.specs.laws.Steps.{Sound, bind_some, some_same, done, expect_some, keyword_some}
use Rattle.aql_grammar.specs.laws.Steps.{word_some, eat_cases, keyword_cases, word_cases, if_cases}
use Rattle.aql_grammar.specs.laws.Steps.{name_sound, natural_some, seen_keyword}
use Rattle.aql_grammar.specs.laws.ListLaws.{More, from_nothing, separated_sound, separated_onto_sound}
use Rattle.aql_grammar.specs.laws.ListLaws.{items_sound, Closed}
use Rattle.aql_grammar.specs.laws.OperatorLaws.{traversal_direction_sound}

word_some' : (ts : Tokens) (y : List ℕ × Tokens) → word ts ≡ Some y → ts ≡ k.Word y.0 ∷ y.1
unfolding word
word_some' [] y h = absurd (cc)
word_some' (k.Word v ∷ ts) y h = ap (λ (p : List ℕ × Tokens). k.Word p.0 ∷ p.1) (some_same (v, ts) y h)
word_some' (k.Quoted v ∷ ts) y h = absurd (cc)
word_some' (k.Number n ∷ ts) y h = absurd (cc)
word_some' (k.Text w ∷ ts) y h = absurd (cc)
word_some' (k.Keyword w ∷ ts) y h = absurd (cc)
word_some' (k.Symbol w ∷ ts) y h = absurd (cc)

-- a keyword that may stand there, and what is after it
after_by : (keyword : Keyword) (ts : Tokens) (b : Bool) → sees_keyword keyword ts ≡ b
    → ((ts ≡ k.Keyword keyword ∷ next ts) × (cond b (next ts) ts ≡ next ts)) ⊎ ((b ≡ false)
    × (cond b (next ts) ts ≡ ts))
after_by keyword ts true h = inl (seen_keyword keyword ts h, refl)
after_by keyword ts false h = inr (refl, refl)

after_cases : (keyword : Keyword) (ts : Tokens)
    → ((ts ≡ k.Keyword keyword ∷ next ts) × (after_keyword keyword ts ≡ next ts)) ⊎
    ((sees_keyword keyword ts ≡ false) × (after_keyword keyword ts ≡ ts))
unfolding after_keyword
after_cases keyword ts = after_by keyword ts (sees_keyword keyword ts) refl

distinct_by : (ts : Tokens) (b : Bool) → sees_keyword w.Distinct ts ≡ b
    → IsDistinct b ts (cond b (next ts) ts)
distinct_by ts true h = subst (λ q. IsDistinct true q (next ts)) (sym (seen_keyword w.Distinct ts h))
    IsDistinct.distinct
distinct_by ts false h = IsDistinct.plain

distinct_spelt : (ts : Tokens) → IsDistinct (sees_keyword w.Distinct ts) ts (after_keyword w.Distinct ts)
unfolding after_keyword
distinct_spelt ts = distinct_by ts (sees_keyword w.Distinct ts) refl

pub traversal_names_sound : Sound traversal_names AreTraversalNames
unfolding traversal_names
traversal_names_sound ts y h =
    let v = bind_some (name ts) _ y h in
    let one = name_sound ts v.0 v.1 in
    ⊎_elim
    (λ m.
    let x = bind_some (name (next v.0.1)) _ y m.1 in
    let two = name_sound (next v.0.1) x.0 x.1 in
    ⊎_elim
    (λ c.
    let p = bind_some (name (next x.0.1)) _ y c.1 in
    done AreTraversalNames ts _ p.0.1 y p.2 (AreTraversalNames.path (subst (λ r. IsName v.0.0 ts r) m.0 one)
    (subst (λ r. IsName x.0.0 (next v.0.1) r) c.0 two) (name_sound (next x.0.1) p.0 p.1)))
    (λ c. done AreTraversalNames ts _ x.0.1 y c.1
    (AreTraversalNames.edge (subst (λ r. IsName v.0.0 ts r) m.0 one)
    two))
    (eat_cases s.Comma _ _ x.0.1 y x.2))
    (λ m. done AreTraversalNames ts _ v.0.1 y m.1 (AreTraversalNames.vertex one))
    (eat_cases s.Comma _ _ v.0.1 y v.2)

-- the two numbers of a depth
abbrev pub IsDepthPair : ℕ × ℕ → Tokens → Tokens → Type 0
IsDepthPair p a b = IsDepth p.0 p.1 a b

pub traversal_depth_sound : Sound traversal_depth IsDepthPair
unfolding traversal_depth
traversal_depth_sound ts y h =
    ⊎_elim
    (λ m.
    let n = bind_some (natural ts) _ y m.1 in
    let here = natural_some ts n.0 n.1 in
    ⊎_elim
    (λ c.
    let g = bind_some (natural (next n.0.1)) _ y c.1 in
    let there = natural_some (next n.0.1) g.0 g.1 in
    done IsDepthPair ts (depth_number n.0.0, depth_number g.0.0) g.0.1 y g.2
    (subst (λ q. IsDepth (depth_number n.0.0) (depth_number g.0.0) q g.0.1)
    (sym (here ∙ ap (λ q. k.Number (pos n.0.0) ∷ q) (c.0 ∙ ap (λ q. k.Symbol s.Range ∷ q) there)))
    IsDepth.between))
    (λ c. done IsDepthPair ts (depth_number n.0.0, depth_number n.0.0) n.0.1 y c.1
    (subst (λ q. IsDepth (depth_number n.0.0) (depth_number n.0.0) q n.0.1) (sym here) IsDepth.exact))
    (eat_cases s.Range _ _ n.0.1 y n.2))
    (λ m. done IsDepthPair ts (1, 1) ts y m.1 IsDepth.unsaid)
    (if_cases (is_number (head ts)) _ _ ts y h)

count_sound : (ts : Tokens) (y : List ℕ × Tokens) → count_name ts ≡ Some y → (b : Tokens)
    × (IsWord (codes "COUNT") ts (k.Keyword w.Into ∷ b) × IsName y.0 b y.1)
unfolding count_name
count_sound ts y h =
    let c = bind_some (expect_word (codes "COUNT") ts) _ y h in
    let i = bind_some (expect_keyword w.Into c.0.1) _ y c.2 in (
      i.0.1,
      (
        subst (λ r. IsWord (codes "COUNT") ts r) (keyword_some w.Into c.0.1 i.0 i.1)
            (word_some (codes "COUNT") ts c.0 c.1),
        name_sound i.0.1 y i.2,
      ),
    )

module _ (R : Bool → Parser ExprTree) (E : Bool → ExprTree → Tokens → Tokens → Type 0)
    (sound : (inside : Bool) → Sound (R inside) (E inside)) (inside : Bool) where
  -- ---- objects

  member_named : (v : List ℕ) (short : ExprTree) (a ts : Tokens) (y : MemberPart × Tokens) → IsName v a ts
      → IsVariable inside v short a ts → named_member R inside v short ts ≡ Some y
      → IsMember E inside y.0 a y.1
  unfolding named_member
  member_named v short a ts y n var h =
      ⊎_elim
      (λ m.
      let x = bind_some (R inside (next ts)) _ y m.1 in
      done (IsMember E inside) a (part.named v x.0.0) x.0.1 y x.2
      (IsMember.named (IsKey.name (subst (λ r. IsName v a r) m.0 n)) (sound inside (next ts) x.0 x.1)))
      (λ m. done (IsMember E inside) a (part.named v short) ts y m.1 (IsMember.short var))
      (eat_cases s.Colon _ _ ts y h)

  member_text : (v : List ℕ) (ts : Tokens) (y : MemberPart × Tokens) → text_member R inside v ts ≡ Some y
      → IsMember E inside y.0 (k.Text v ∷ ts) y.1
  unfolding text_member
  member_text v ts y h =
      let c = bind_some (expect s.Colon ts) _ y h in
      let x = bind_some (R inside c.0.1) _ y c.2 in
      done (IsMember E inside) (k.Text v ∷ ts) (part.named v x.0.0) x.0.1 y x.2
      (IsMember.named (subst (λ r. IsKey v (k.Text v ∷ ts) r) (expect_some s.Colon ts c.0 c.1) IsKey.text)
      (sound inside c.0.1 x.0 x.1))

  member_computed : (ts : Tokens) (y : MemberPart × Tokens) → computed_member R inside ts ≡ Some y
      → IsMember E inside y.0 (k.Symbol s.OpenBracket ∷ ts) y.1
  unfolding computed_member
  member_computed ts y h =
      let n = bind_some (R inside ts) _ y h in
      let c = bind_some (expect s.CloseBracket n.0.1) _ y n.2 in
      let d = bind_some (expect s.Colon c.0.1) _ y c.2 in
      let x = bind_some (R inside d.0.1) _ y d.2 in
      let here = expect_some s.CloseBracket n.0.1 c.0 c.1 ∙ ap (λ q. k.Symbol s.CloseBracket ∷ q)
      (expect_some s.Colon c.0.1 d.0 d.1) in
      done (IsMember E inside) (k.Symbol s.OpenBracket ∷ ts) (part.computed n.0.0 x.0.0) x.0.1 y x.2
      (IsMember.computed (subst (λ r. E inside n.0.0 ts r) here (sound inside ts n.0 n.1))
      (sound inside d.0.1 x.0 x.1))

  member_symbol : (symbol : Symbol) (ts : Tokens) (y : MemberPart × Tokens)
      → member R inside (k.Symbol symbol ∷ ts) ≡ Some y → IsMember E inside y.0 (k.Symbol symbol ∷ ts) y.1
  unfolding member
  member_symbol s.OpenBracket ts y h = member_computed ts y h
  member_symbol _ ts y h = absurd (cc)

  pub member_sound : Sound (member R inside) (IsMember E inside)
  unfolding member
  member_sound [] y h = absurd (cc)
  member_sound (k.Word v ∷ ts) y h = member_named v (word_value inside v) _ ts y IsName.word IsVariable.word h
  member_sound (k.Quoted v ∷ ts) y h = member_named v (e.name v) _ ts y IsName.quoted IsVariable.quoted h
  member_sound (k.Text v ∷ ts) y h = member_text v ts y h
  member_sound (k.Symbol symbol ∷ ts) y h = member_symbol symbol ts y h
  member_sound (k.Number n ∷ ts) y h = absurd (cc)
  member_sound (k.Keyword v ∷ ts) y h = absurd (cc)

  -- after the opening brace
  pub object_sound : (ts : Tokens) (y : List MemberPart × Tokens) → members R inside ts ≡ Some y
      → IsObject E inside y.0 (k.Symbol s.OpenBrace ∷ ts) y.1
  object_sound ts y h = IsObject.object (items_sound s.CloseBrace (member R inside) (IsMember E inside)
      member_sound ts y h)

  -- ---- clauses

  assignment_sound : Sound (assignment R inside) (IsAssignment E inside)
  unfolding assignment
  assignment_sound ts y h =
      let v = bind_some (name ts) _ y h in
      let a = bind_some (expect s.Assign v.0.1) _ y v.2 in
      let x = bind_some (R inside a.0.1) _ y a.2 in
      done (IsAssignment E inside) ts (e.assignment v.0.0 x.0.0) x.0.1 y x.2
      (IsAssignment.assignment (subst (λ r. IsName v.0.0 ts r) (expect_some s.Assign v.0.1 a.0 a.1)
      (name_sound ts v.0 v.1)) (sound inside a.0.1 x.0 x.1))

  let_sound : Sound (let_clause R inside) (IsLet E inside)
  unfolding let_clause
  let_sound ts y h =
      let v = bind_some (name ts) _ y h in
      let a = bind_some (expect s.Assign v.0.1) _ y v.2 in
      let x = bind_some (R inside a.0.1) _ y a.2 in
      done (IsLet E inside) ts (e.let_in v.0.0 x.0.0) x.0.1 y x.2
      (IsLet.let_be (subst (λ r. IsName v.0.0 ts r) (expect_some s.Assign v.0.1 a.0 a.1)
      (name_sound ts v.0 v.1)) (sound inside a.0.1 x.0 x.1))

  sort_key_sound : Sound (sort_key R inside) (IsSortKey E inside)
  unfolding sort_key
  sort_key_sound ts y h =
      let x = bind_some (R inside ts) _ y h in
      let spelt = sound inside ts x.0 x.1 in
      ⊎_elim
      (λ m. done (IsSortKey E inside) ts (x.0.0, true) (next x.0.1) y m.1
      (IsSortKey.descending (subst (λ r. E inside x.0.0 ts r) m.0 spelt)))
      (λ m.
      ⊎_elim
      (λ c.
      done (IsSortKey E inside) ts (x.0.0, false) (next x.0.1) y
      (ap (λ r. Some ((x.0.0, false), r)) (sym c.1) ∙ m.1)
      (IsSortKey.ascending (subst (λ r. E inside x.0.0 ts r) c.0 spelt)))
      (λ c. done (IsSortKey E inside) ts (x.0.0, false) x.0.1 y
      (ap (λ r. Some ((x.0.0, false), r)) (sym c.1) ∙ m.1) (IsSortKey.unsaid spelt))
      (after_cases w.Asc x.0.1))
      (keyword_cases w.Desc _ _ x.0.1 y x.2)

  argument_sound : Sound (optional_argument R inside) (Closed s.CloseParen (IsOptional (E inside)))
  unfolding optional_argument
  argument_sound ts y h =
      ⊎_elim
      (λ m. done (Closed s.CloseParen (IsOptional (E inside))) ts None (next ts) y m.1
      (subst (λ r. IsOptional (E inside) None ts r) m.0 IsOptional.none))
      (λ m.
      let x = bind_some (R inside ts) _ y m.1 in
      let c = bind_some (expect s.CloseParen x.0.1) _ y x.2 in
      done (Closed s.CloseParen (IsOptional (E inside))) ts (Some x.0.0) c.0.1 y c.2
      (IsOptional.some (subst (λ r. E inside x.0.0 ts r) (expect_some s.CloseParen x.0.1 c.0 c.1)
      (sound inside ts x.0 x.1))))
      (eat_cases s.CloseParen _ _ ts y h)

  aggregate_sound : Sound (aggregate R inside) (IsAggregate E inside)
  unfolding aggregate
  aggregate_sound ts y h =
      let v = bind_some (name ts) _ y h in
      let a = bind_some (expect s.Assign v.0.1) _ y v.2 in
      let f = bind_some (word a.0.1) _ y a.2 in
      let o = bind_some (expect s.OpenParen f.0.1) _ y f.2 in
      let x = bind_some (optional_argument R inside o.0.1) _ y o.2 in
      let here = expect_some s.Assign v.0.1 a.0 a.1
      ∙ ap (λ q. k.Symbol s.Assign ∷ q) (word_some' a.0.1 f.0 f.1 ∙ ap (λ q. k.Word f.0.0 ∷ q)
      (expect_some s.OpenParen f.0.1 o.0 o.1)) in
      done (IsAggregate E inside) ts (e.aggregate_as v.0.0 f.0.0 x.0.0) x.0.1 y x.2
      (IsAggregate.aggregate (subst (λ r. IsName v.0.0 ts r) here (name_sound ts v.0 v.1))
      (argument_sound o.0.1 x.0 x.1))

  aggregates_sound : Sound (aggregates R inside) (AreAggregates E inside)
  unfolding aggregates
  aggregates_sound ts y h =
      ⊎_elim
      (λ m.
      subst (λ q. AreAggregates E inside y.0 q y.1) (sym m.0)
      (AreAggregates.some (separated_sound (aggregate R inside) (IsAggregate E inside) aggregate_sound
      (next ts) y m.1)))
      (λ m. done (AreAggregates E inside) ts [] ts y m.1 AreAggregates.none)
      (keyword_cases w.Aggregate _ _ ts y h)

  into_part_sound : (ts : Tokens) (y : IntoPart × Tokens) → into_part R inside ts ≡ Some y
      → IsInto E inside y.0 (k.Keyword w.Into ∷ ts) y.1
  unfolding into_part
  into_part_sound ts y h =
      let v = bind_some (name ts) _ y h in
      let named = name_sound ts v.0 v.1 in
      ⊎_elim
      (λ m.
      let x = bind_some (R inside (next v.0.1)) _ y m.1 in
      done (IsInto E inside) (k.Keyword w.Into ∷ ts) (e.collect_into v.0.0 (Some x.0.0) []) x.0.1 y x.2
      (IsInto.taking (subst (λ r. IsName v.0.0 ts r) m.0 named) (sound inside (next v.0.1) x.0 x.1)))
      (λ m.
      ⊎_elim
      (λ c.
      let ns = bind_some (comma_list name (next v.0.1)) _ y c.1 in
      done (IsInto E inside) (k.Keyword w.Into ∷ ts) (e.collect_into v.0.0 None ns.0.0) ns.0.1 y ns.2
      (IsInto.keeping named c.0 (separated_sound name IsName name_sound (next v.0.1) ns.0 ns.1)))
      (λ c. done (IsInto E inside) (k.Keyword w.Into ∷ ts) (e.collect_into v.0.0 None []) v.0.1 y c.1
      (IsInto.alone named))
      (word_cases (codes "KEEP") _ _ v.0.1 y m.1))
      (eat_cases s.Assign _ _ v.0.1 y v.2)

  into_sound : Sound (into R inside) (IsOptional (IsInto E inside))
  unfolding into
  into_sound ts y h =
      ⊎_elim
      (λ m.
      let i = bind_some (into_part R inside (next ts)) _ y m.1 in
      done (IsOptional (IsInto E inside)) ts (Some i.0.0) i.0.1 y i.2
      (IsOptional.some (subst (λ q. IsInto E inside i.0.0 q i.0.1) (sym m.0)
      (into_part_sound (next ts) i.0 i.1))))
      (λ m. done (IsOptional (IsInto E inside)) ts None ts y m.1 IsOptional.none)
      (keyword_cases w.Into _ _ ts y h)

  groups_sound : Sound (groups R inside) (AreAny (IsAssignment E inside))
  unfolding groups
  groups_sound ts y h =
      ⊎_elim
      (λ m. AreAny.some
      (separated_sound (assignment R inside) (IsAssignment E inside) assignment_sound ts y m.1))
      (λ m. done (AreAny (IsAssignment E inside)) ts [] ts y m.1 AreAny.none)
      (if_cases (is_name (head ts)) _ _ ts y h)

  -- one clause, read after its first word
  abbrev OneClause : Keyword → ClauseTree → Tokens → Tokens → Type 0
  OneClause keyword c a b = IsClause E inside (c ∷ []) (k.Keyword keyword ∷ a) b

  count_says : (ls : List LetPart) (i : Option IntoPart) (g : AggregatePart) → says ls (g ∷ []) i ≡ true
  count_says [] None g = refl
  count_says [] (Some i) g = refl
  count_says (l ∷ ls) i g = refl

  collect_sound : Sound (collect R inside) (OneClause w.Collect)
  unfolding collect
  collect_sound ts y h =
      let ls = bind_some (groups R inside ts) _ y h in
      let spelt = groups_sound ts ls.0 ls.1 in
      ⊎_elim
      (λ m.
      let v = bind_some (count_name (next ls.0.1)) _ y m.1 in
      let n = count_sound (next ls.0.1) v.0 v.1 in
      done (OneClause w.Collect) ts _ v.0.1 y v.2
      (IsClause.collect (subst (λ r. AreAny (IsAssignment E inside) ls.0.0 ts r) m.0 spelt)
      (IsTail.count n.1.0 n.1.1) (count_says ls.0.0 None _)))
      (λ m.
      let gs = bind_some (aggregates R inside ls.0.1) _ y m.1 in
      let i = bind_some (into R inside gs.0.1) _ y gs.2 in
      ⊎_elim
      (λ c.
      done (OneClause w.Collect) ts _ i.0.1 y c.1
      (IsClause.collect spelt (IsTail.parts (aggregates_sound ls.0.1 gs.0 gs.1) (into_sound gs.0.1 i.0 i.1))
      c.0))
      (λ c. absurd (let e = c.1 in cc))
      (if_cases (says ls.0.0 gs.0.0 i.0.0) _ _ i.0.1 y i.2))
      (keyword_cases w.With _ _ ls.0.1 y ls.2)

  prune_sound : Sound (prune R inside) (IsPrune E inside)
  unfolding prune
  prune_sound ts y h =
      ⊎_elim
      (λ m. let x = bind_some (R inside (next ts)) _ y m.1 in done (IsPrune E inside) ts (Some x.0.0) x.0.1
      y x.2 (IsPrune.some m.0 (sound inside (next ts) x.0 x.1)))
      (λ m. done (IsPrune E inside) ts None ts y m.1 IsPrune.none)
      (word_cases (codes "PRUNE") _ _ ts y h)

  settings_sound : Sound (settings R inside) (AreOptions E inside)
  unfolding settings
  settings_sound ts y h =
      ⊎_elim
      (λ m.
      let o = bind_some (expect s.OpenBrace (next ts)) _ y m.1 in
      AreOptions.some m.0 (subst (λ q. IsObject E inside y.0 q y.1)
      (sym (expect_some s.OpenBrace (next ts) o.0 o.1)) (object_sound o.0.1 y o.2)))
      (λ m. done (AreOptions E inside) ts [] ts y m.1 AreOptions.none)
      (word_cases (codes "OPTIONS") _ _ ts y h)

  traversal_sound : (names : e.TraversalNames) (a ts : Tokens) (y : ClauseTree × Tokens)
      → AreTraversalNames names a (k.Keyword w.In ∷ ts) → traversal R inside names ts ≡ Some y
      → OneClause w.For y.0 a y.1
  unfolding traversal
  traversal_sound names a ts y n h =
      let d = bind_some (traversal_depth ts) _ y h in
      let direction = bind_some (traversal_direction d.0.1) _ y d.2 in
      let start = bind_some (R inside direction.0.1) _ y direction.2 in
      let edges = bind_some (comma_list name start.0.1) _ y start.2 in
      let p = bind_some (prune R inside edges.0.1) _ y edges.2 in
      let ms = bind_some (settings R inside p.0.1) _ y p.2 in
      done (OneClause w.For) a _ ms.0.1 y ms.2
      (IsClause.traversal n (traversal_depth_sound ts d.0 d.1)
      (traversal_direction_sound d.0.1 direction.0 direction.1)
      (sound inside direction.0.1 start.0 start.1)
      (separated_sound name IsName name_sound start.0.1 edges.0 edges.1) (prune_sound edges.0.1 p.0 p.1)
      (settings_sound p.0.1 ms.0 ms.1))

  single_sound : (names : e.TraversalNames) (a ts : Tokens) (y : ClauseTree × Tokens)
      → AreTraversalNames names a (k.Keyword w.In ∷ ts)
      → single_by R inside names.vertex names.edge ts ≡ Some y
      → OneClause w.For y.0 a y.1
  single_sound names a ts y (AreTraversalNames.vertex {v = v} n) h =
      let x = bind_some (R inside ts) _ y h in
      done (OneClause w.For) a (e.for_in v x.0.0) x.0.1 y x.2 (IsClause.for_in n (sound inside ts x.0 x.1))
  single_sound names a ts y (AreTraversalNames.edge n m) h = absurd (cc)
  single_sound names a ts y (AreTraversalNames.path n m p) h = absurd (cc)

  for_sound : Sound (for_clause R inside) (OneClause w.For)
  unfolding for_clause
  for_sound ts y h =
      let n = bind_some (traversal_names ts) _ y h in
      let i = bind_some (expect_keyword w.In n.0.1) _ y n.2 in
      let named = subst (λ r. AreTraversalNames n.0.0 ts r) (keyword_some w.In n.0.1 i.0 i.1)
      (traversal_names_sound ts n.0 n.1) in
      ⊎_elim
      (λ m. traversal_sound n.0.0 ts i.0.1 y named m.1)
      (λ m. single_sound n.0.0 ts i.0.1 y named m.1)
      (if_cases (begins_traversal i.0.1) _ _ i.0.1 y i.2)

  limit_sound : Sound limit (OneClause w.Limit)
  unfolding limit
  limit_sound ts y h =
      let n = bind_some (natural ts) _ y h in
      let here = natural_some ts n.0 n.1 in
      ⊎_elim
      (λ m.
      let g = bind_some (natural (next n.0.1)) _ y m.1 in
      let there = natural_some (next n.0.1) g.0 g.1 in
      done (OneClause w.Limit) ts (tree.limit n.0.0 g.0.0) g.0.1 y g.2
      (subst (λ q. OneClause w.Limit (tree.limit n.0.0 g.0.0) q g.0.1)
      (sym (here ∙ ap (λ q. k.Number (pos n.0.0) ∷ q) (m.0 ∙ ap (λ q. k.Symbol s.Comma ∷ q) there)))
      IsClause.limit_from))
      (λ m. done (OneClause w.Limit) ts (tree.limit 0 n.0.0) n.0.1 y m.1
      (subst (λ q. OneClause w.Limit (tree.limit 0 n.0.0) q n.0.1) (sym here) IsClause.limit))
      (eat_cases s.Comma _ _ n.0.1 y n.2)

  -- a clause that is pushed after those that were found
  one_clause_more : (keyword : Keyword) (found : List ClauseTree) (ts : Tokens) (p : ClauseTree × Tokens)
      (y : List ClauseTree × Tokens) → OneClause keyword p.0 ts p.1 → Some (found ++ p.0 ∷ [], p.1) ≡ Some y
      → More found (IsClause E inside) (k.Keyword keyword ∷ ts) y
  one_clause_more keyword found ts p y spelt h =
      let e = some_same (found ++ p.0 ∷ [], p.1) y h in
      record {
        xs = p.0 ∷ [];
        all_is = sym (ap (λ (z : List ClauseTree × Tokens). z.0) e);
        spelt = subst (λ (z : List ClauseTree × Tokens). IsClause E inside (p.0 ∷ [])
            (k.Keyword keyword ∷ ts) z.1) e spelt;
      }

  let_more : (found : List ClauseTree) (ts : Tokens) (y : List ClauseTree × Tokens)
      → More found (AreSeparated (IsLet E inside)) ts y → More found (IsClause E inside)
      (k.Keyword w.Let ∷ ts) y
  let_more found ts y m = record { xs = m.xs; all_is = m.all_is; spelt = IsClause.let_in m.spelt }

  clause_by_sound : (keyword : Keyword) (found : List ClauseTree) (ts : Tokens) (y : List ClauseTree
      × Tokens) → clause_by R inside found (Some (k.Keyword keyword)) (k.Keyword keyword ∷ ts) ≡ Some y
      → More found (IsClause E inside) (k.Keyword keyword ∷ ts) y
  clause_by_sound w.For found ts y h = let c = bind_some (for_clause R inside ts) _ y h in
      one_clause_more w.For
      found ts c.0 y (for_sound ts c.0 c.1) c.2
  clause_by_sound w.Filter found ts y h = let x = bind_some (R inside ts) _ y h in one_clause_more w.Filter
      found ts (filter_by x.0.0, x.0.1) y (IsClause.filter (sound inside ts x.0 x.1)) x.2
  clause_by_sound w.Let found ts y h = let_more found ts y (separated_onto_sound (let_clause R inside)
      (IsLet E inside) let_sound found ts y h)
  clause_by_sound w.Sort found ts y h =
      let ks = bind_some (comma_list (sort_key R inside) ts) _ y h in
      one_clause_more w.Sort found ts (sort ks.0.0, ks.0.1) y
      (IsClause.sort_by (separated_sound (sort_key R inside) (IsSortKey E inside) sort_key_sound ts ks.0
      ks.1)) ks.2
  clause_by_sound w.Limit found ts y h = let c = bind_some (limit ts) _ y h in
      one_clause_more w.Limit found ts
      c.0 y (limit_sound ts c.0 c.1) c.2
  clause_by_sound w.Collect found ts y h = let c = bind_some (collect R inside ts) _ y h in one_clause_more
      w.Collect found ts c.0 y (collect_sound ts c.0 c.1) c.2
  clause_by_sound _ found ts y h = absurd (cc)

  clause_sound : (found : List ClauseTree) (ts : Tokens) (y : List ClauseTree × Tokens)
      → clause R inside found ts ≡ Some y → More found (IsClause E inside) ts y
  unfolding clause
  clause_sound found [] y h = absurd (cc)
  clause_sound found (k.Keyword keyword ∷ ts) y h = clause_by_sound keyword found ts y h
  clause_sound found (k.Number n ∷ ts) y h = absurd (cc)
  clause_sound found (k.Word v ∷ ts) y h = absurd (cc)
  clause_sound found (k.Quoted v ∷ ts) y h = absurd (cc)
  clause_sound found (k.Text v ∷ ts) y h = absurd (cc)
  clause_sound found (k.Symbol v ∷ ts) y h = absurd (cc)

  no_more : (found : List ClauseTree) (ts : Tokens) (y : List ClauseTree × Tokens)
      → Some (found, ts) ≡ Some y → More found (AreClauses E inside) ts y
  no_more found ts y h =
      let e = some_same (found, ts) y h in
      record {
        xs = [];
        all_is = sym (ap (λ (z : List ClauseTree × Tokens). z.0) e)
            ∙ sym (append-nil found);
        spelt = subst (λ (z : List ClauseTree × Tokens). AreClauses E inside []
            ts z.1) e AreClauses.none;
      }

  one_more : (found now : List ClauseTree) (ts r : Tokens) (y : List ClauseTree × Tokens)
      → More found (IsClause E inside) ts (now, r) → More now (AreClauses E inside) r y
      → More found (AreClauses E inside) ts y
  one_more found now ts r y first more = record {
    xs = first.xs ++ more.xs;
    all_is = more.all_is ∙ ap (λ q. q ++ more.xs) first.all_is ∙ append_assoc found first.xs more.xs;
    spelt = AreClauses.more first.spelt more.spelt;
  }

  clauses_from_sound : (n : ℕ) (found : List ClauseTree) (ts : Tokens) (y : List ClauseTree × Tokens)
      → clauses_from R inside n found ts ≡ Some y → More found (AreClauses E inside) ts y
  unfolding clauses_from
  clauses_from_sound zero found ts y h = no_more found ts y h
  clauses_from_sound (suc n) found ts y h =
      ⊎_elim
      (λ m.
      let c = bind_some (clause R inside found ts) _ y m.1 in
      one_more found c.0.0 ts c.0.1 y (clause_sound found ts c.0 c.1)
      (clauses_from_sound n c.0.0 c.0.1 y c.2))
      (λ m. no_more found ts y m.1)
      (if_cases (begins_clause (head ts)) _ _ ts y h)

  clauses_sound : Sound (clauses R inside) (AreClauses E inside)
  unfolding clauses
  clauses_sound ts y h = from_nothing (AreClauses E inside) ts y (clauses_from_sound (length ts) [] ts y h)

  pub query_sound : (with_list : List (List ℕ)) → Sound (query R inside with_list)
      (IsQuery E inside with_list)
  unfolding query
  query_sound with_list ts y h =
      let cs = bind_some (clauses R inside ts) _ y h in
      let i = bind_some (expect_keyword w.Return cs.0.1) _ y cs.2 in
      let x = bind_some (R inside (after_keyword w.Distinct i.0.1)) _ y i.2 in
      done (IsQuery E inside with_list) ts _ x.0.1 y x.2
      (IsQuery.query (subst (λ r. AreClauses E inside cs.0.0 ts r) (keyword_some w.Return cs.0.1 i.0 i.1)
      (clauses_sound ts cs.0 cs.1)) (distinct_spelt i.0.1)
      (sound inside (after_keyword w.Distinct i.0.1) x.0 x.1))
