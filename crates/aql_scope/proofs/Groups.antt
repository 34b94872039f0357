-- One more criterion, aggregate or key is lifted, and its variable entered.
use Rattle.std.proofs.Common.{◌≡◌, ◌∙◌, ℕ, suc, ◌+◌, ◌<◌, List, [], ◌∷◌, ◌++◌, length, get_or, set, drop, take, map, sym, ap, ap₂, option_map}
use Rattle.std.proofs.lemmas.List.{map-set, set-get_or}
use Rattle.aql_tree.specs.declared.syntax.Clause.{Clause}
use Rattle.aql_tree.specs.declared.syntax.Ident.{Ident}
use Rattle.aql_tree.specs.declared.syntax.Ident.TheVariants.{Num}
use Rattle.aql_tree.specs.declared.syntax.Let.{Let}
use Rattle.aql_tree.specs.declared.syntax.AggregateItem.{AggregateItem}
use Rattle.aql_tree.specs.Tree.{ExprTree, MaybeExpr, expr_then, AggregateTrees, aggregate_then}
use Rattle.aql_tree.specs.View.{tree, trees, maybe, LetPart, let_part, AggregatePart, aggregate_part, aggregates}
use Rattle.aql_meaning.specs.Visible.{aggregate_vars}
use Rattle.aql_scope.specs.Numbering.{Numbering, enter, text_of}
use Rattle.aql_scope.specs.Lifting as spec
use Rattle.aql_scope.specs.Lifting.{Scoped, declares}
use Rattle.aql_scope.specs.declared.numbers.Numbers.{Numbers}
use Rattle.aql_scope.specs.Lifts.{Progress, progress}
use Rattle.aql_scope.specs.laws.Turns.{Given, Goes, Unvisited, turn_there, from_here}
use Rattle.aql_scope.proofs.Parts.{Criteria, let_then, aggregate_part_then}
use Rattle.aql_scope.proofs.Declared.{after_declare}
use Rattle.aql_tree.specs.laws.Parts.{let_is, aggregate_is}

-- what stands beside the items stays
pub beside : {A B C : Type 0} (h : A → B) (g : B → C) (items : List A) (i : ℕ) (d y : A)
    → g (h y) ≡ g (h (get_or items i d)) → map g (map h (set items i y)) ≡ map g (map h items)
beside {A} h g items i d y same =
    at_item y ∙ ap (set (map g (map h items)) i) same ∙ sym (at_item (get_or items i d))
    ∙ ap (λ xs. map g (map h xs)) (set-get_or items i d) where
      at_item : (z : A) → map g (map h (set items i z)) ≡ set (map g (map h items)) i (g (h z))
      at_item z = ap (map g) (map-set h items i z) ∙ map-set g (map h items) i (h z)

-- ---- variables that are entered

-- `names_of n parts own` are the names after these parts, where n is the next number
pub entered_more : {X A : Type 0} {i m k then : ℕ} {x : X} {v : Ident} {whole own after_own : Numbering}
    (part : X → A) (all : List X) (names_of : ℕ → List A → Numbering → Numbering) (next : ℕ → ℕ)
    → whole ≡ names_of m (map part (drop i all)) own → i < length all → x ≡ get_or all i x
    → ((left : List A) → names_of m (part x ∷ left) own ≡ names_of (next (suc m)) left ((v, m) ∷ own))
    → after_own ≡ (v, m) ∷ own → k ≡ suc m → then ≡ next k
    → whole ≡ names_of then (map part (drop (i + 1) all)) after_own
entered_more {i = i} {m = m} {then = then} {x = x} {v = v} {own = own} part all names_of next entered lt is
    step own_is k_is then_is =
    entered ∙ ap (λ xs. names_of m (map part xs) own) (from_here all i x lt is) ∙ step _
    ∙ ap (λ j. names_of j (map part (drop (i + 1) all)) ((v, m) ∷ own)) (sym (then_is ∙ ap next k_is))
    ∙ ap (names_of then (map part (drop (i + 1) all))) (sym own_is)

-- ---- criteria

abbrev pub criteria_of : Numbering → ℕ → List LetPart → Scoped Criteria
criteria_of names n ls = spec.criteria names n (map (λ l. l.0) ls) (trees (map (λ l. l.1) ls))

abbrev pub enter_criteria : Numbering → ℕ → List LetPart → Numbering → Numbering
enter_criteria names n ls own = enter (map (λ l. l.0) ls) (criteria_of names n ls).tree.0 own

module _ {names : Numbering} {all : List Let} {i : ℕ} {from : Progress} (items start : List Let)
    (lets : List Clause) (m : Numbers)
    (goes : Goes let_part let_then (criteria_of names) all from i (take i items) (progress lets m))
    (ahead : Unvisited all i items) (began : start ≡ all)
  where
    pub criterion_turn : {then : Progress} (d y : Let) (k : Numbers) → i < length start → d ≡ get_or items i d
        → y.var ≡ Num m.next → k.said ≡ m.said ++ text_of (get_or items i d).var ∷ [] → k.next ≡ suc m.next
        → Given (tree y.expr) (spec.expr names k.next (tree (get_or items i d).expr)) (progress lets k) then
        → Goes let_part let_then (criteria_of names) all from (i + 1) (take (i + 1) (set items i y)) then
        × Unvisited all (i + 1) (set items i y)
    criterion_turn {then} d y k lt is number e f g =
        turn_there items start goes ahead began d y s
        (λ (a : ExprTree) (b : Criteria). (Num m.next ∷ b.0, expr_then a b.1)) lt is
        (λ ls. ap (λ l. criteria_of names m.next (l ∷ ls)) (let_is x))
        (λ b. ap (λ (a : ExprTree). let c : Criteria = (Num m.next ∷ b.0, expr_then a b.1) in c) (sym q.0)
        ∙ ap (λ v. let_then (v, tree y.expr) b) (sym number) ∙ ap (λ l. let_then l b) (sym (let_is y)))
        q.1 where
          x : Let
          x = get_or items i d

          s : Scoped ExprTree
          s = declares (x.var ∷ []) (spec.expr names (suc m.next) (tree x.expr))

          q : Given (tree y.expr) s (progress lets m) then
          q = after_declare x.var (λ n. spec.expr names n (tree x.expr)) (tree y.expr) lets m k then e f g

-- ---- aggregates

abbrev pub aggregates_of : Numbering → ℕ → List AggregatePart → Scoped AggregateTrees
aggregates_of names n gs = spec.aggregates names n (aggregates gs)

abbrev pub enter_aggregates : Numbering → ℕ → List AggregatePart → Numbering → Numbering
enter_aggregates names n gs own =
    enter (aggregate_vars (aggregates gs)) (aggregate_vars (aggregates_of names n gs).tree) own

module _ {names : Numbering} {all : List AggregateItem} {i : ℕ} {from : Progress} (items start : List AggregateItem)
    (lets : List Clause) (m : Numbers)
    (goes : Goes aggregate_part aggregate_part_then (aggregates_of names) all from i (take i items)
    (progress lets m))
    (ahead : Unvisited all i items) (began : start ≡ all)
  where
    pub aggregate_turn : {then : Progress} (d y : AggregateItem) (k : Numbers) → i < length start
        → d ≡ get_or items i d → y.var ≡ Num m.next → y.name ≡ (get_or items i d).name
        → k.said ≡ m.said ++ text_of (get_or items i d).var ∷ [] → k.next ≡ suc m.next
        → Given (maybe (option_map tree y.arg))
        (spec.maybe names k.next (maybe (option_map tree (get_or items i d).arg))) (progress lets k) then
        → Goes aggregate_part aggregate_part_then (aggregates_of names) all from (i + 1)
        (take (i + 1) (set items i y)) then
        × Unvisited all (i + 1) (set items i y)
    aggregate_turn {then} d y k lt is number named e f g =
        turn_there items start goes ahead began d y s (aggregate_then (Num m.next) x.name) lt is
        (λ gs. ap (λ a. aggregates_of names m.next (a ∷ gs)) (aggregate_is x))
        (λ gs. ap (λ a. aggregate_then (Num m.next) x.name a gs) (sym q.0)
        ∙ ap₂ (λ v a. aggregate_then v a (maybe (option_map tree y.arg)) gs) (sym number) (sym named)
        ∙ ap (λ a. aggregate_part_then a gs) (sym (aggregate_is y)))
        q.1 where
          x : AggregateItem
          x = get_or items i d

          s : Scoped MaybeExpr
          s = declares (x.var ∷ []) (spec.maybe names (suc m.next) (maybe (option_map tree x.arg)))

          q : Given (maybe (option_map tree y.arg)) s (progress lets m) then
          q = after_declare x.var (λ n. spec.maybe names n (maybe (option_map tree x.arg)))
              (maybe (option_map tree y.arg)) lets m k then e f g
