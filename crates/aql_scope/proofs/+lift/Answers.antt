use Rattle.std.proofs.Common.{arith, ◌≡◌, ◌∙◌, ap, sym, subst, map, refl, rules, option_map, Some, [], ◌∷◌, ◌++◌, ◌<◌, ◌≤◌, length, get_or}
use Rattle.std.proofs.lemmas.Grind.{common_steps}
use Rattle.std.specs.Prelude.{OnOk}
use Rattle.aql_tree.specs.declared.syntax.Link.{roll-Link}
use Rattle.aql_tree.specs.declared.syntax.Key.{roll-Key}
use Rattle.aql_tree.specs.declared.syntax.Let.{roll-Let}
use Rattle.aql_tree.specs.declared.syntax.AggregateItem.{roll-AggregateItem}
use Rattle.aql_tree.specs.declared.syntax.Into.{roll-Into}
use Rattle.aql_tree.specs.declared.syntax.Collect.{the_lemmas as collect_lemmas}
use Rattle.aql_tree.specs.declared.syntax.Traversal.{the_lemmas as traversal_lemmas}
use Rattle.aql_tree.specs.declared.syntax.Expr.{the_lemmas}
use Rattle.aql_tree.specs.declared.syntax.Clause.{the_lemmas as clause_lemmas}
use Rattle.aql_tree.specs.declared.syntax.Step.{the_lemmas as step_lemmas}
use Rattle.aql_tree.specs.declared.syntax.Field.{the_lemmas as field_lemmas}
use Rattle.aql_tree.specs.declared.syntax.Into.{the_lemmas as into_lemmas}
use Rattle.aql_tree.specs.declared.syntax.Ident.TheVariants.{Num}
use Rattle.aql_tree.specs.Tree.{expr_then, no_exprs, no_members, no_steps, no_links, no_aggregates, link_then, for_each, let_be, subquery, query, into, one_expr}
use Rattle.aql_tree.specs.View.{tree, trees, links, clauses, maybe, clause_tree, query_tree, member_part, step_part, link_part, key_part, let_part, aggregate_part, into_part, into_tree}
use Rattle.aql_scope.specs.Lifting as spec
use Rattle.aql_scope.specs.Lifts.{Lifts, bound, progress, visible, member_then, one_member, step_then, one_step}
use Rattle.aql_scope.specs.laws.Turns.{Given, turn_there, finish_there, same_item, one_further, lifts_as}
use Rattle.aql_scope.proofs.Forms.{query_made, query_parts, of_for, of_query, no_variable, no_query}
use Rattle.aql_scope.proofs.Declared.{for_lifted, let_lifted, bound_same}
use Rattle.aql_scope.proofs.Queries.{clause_turn, query_given}
use Rattle.aql_scope.proofs.Clauses.{QueryGiven, inner_same, pushed, subquery_lifted, let_query_lifted, into_some, into_lifted}
use Rattle.aql_scope.proofs.Groups.{beside, entered_more, enter_criteria, criterion_turn, enter_aggregates, aggregate_turn}
use Rattle.aql_scope.proofs.Parts.{before_trees, before_members, before_steps, before_links, before_keys, before_lets, before_aggregates, link_part_then, key_then}
use Rattle.aql_tree.specs.laws.Parts.{link_is, key_is, let_is as let_part_is, aggregate_is}
use Rattle.aql_scope.specs.laws.Elements.{member_first, step_first}
use Rattle.aql_scope.proofs.+lift.Goals as goal

pub lift_exprs::lift_all-loop-expr-preserved : goal.lift_exprs::lift_all-loop-expr-preserved
lift_exprs::lift_all-loop-expr-preserved t c =
    let items = c.loop-expr.items in
    let names = visible c.args.scope.now in
    let n = c.loop-expr.walk.numbers.next in
    let x = get_or items c.loop-expr.expr-index c.expr-item.result in
    let y = c.lift_expr.new.expr in
    turn_there items c.as_mut_slice-items.result.now c.loop-expr.invariant.0 c.loop-expr.invariant.1
    c.as_mut_slice-items.ensures.value c.expr-item.result y
    (spec.expr names n (tree x)) expr_then
    c.loop-expr-test.true c.expr-item.is
    (λ es. refl)
    (λ es. ap (λ e. expr_then e es) (sym c.in_ok-lift_expr.ensures.0)) c.in_ok-lift_expr.ensures.1

pub lift_exprs::lift_all-returns : goal.lift_exprs::lift_all-returns
lift_exprs::lift_all-returns t c =
    finish_there c.loop-expr.items c.as_mut_slice-items.result.now c.loop-expr.invariant.0 c.loop-expr.invariant.1
    c.as_mut_slice-items.ensures.value no_exprs c.loop-expr-test.false refl (λ xs. before_trees (map tree xs))

pub lift_exprs::lift_members-loop-field-preserved : goal.lift_exprs::lift_members-loop-field-preserved
lift_exprs::lift_members-loop-field-preserved t c =
    let items = c.loop-field.items in
    let names = visible c.args.scope.now in
    let n = c.loop-field.walk.numbers.next in
    let x = get_or items c.loop-field.field-index c.field-item.result in
    let y = c.lift_member.new.field in
    turn_there items c.as_mut_slice-items.result.now c.loop-field.invariant.0 c.loop-field.invariant.1
    c.as_mut_slice-items.ensures.value c.field-item.result y
    (one_member names n (member_part x)) member_then
    c.loop-field-test.true c.field-item.is
    (member_first names n (member_part x))
    (λ ms. ap (λ m. member_then m ms) (sym c.in_ok-lift_member.ensures.0)) c.in_ok-lift_member.ensures.1

pub lift_exprs::lift_members-returns : goal.lift_exprs::lift_members-returns
lift_exprs::lift_members-returns t c =
    finish_there c.loop-field.items c.as_mut_slice-items.result.now c.loop-field.invariant.0 c.loop-field.invariant.1
    c.as_mut_slice-items.ensures.value no_members c.loop-field-test.false refl
    (λ xs. before_members (map member_part xs))

pub lift_exprs::lift_steps-loop-step-preserved : goal.lift_exprs::lift_steps-loop-step-preserved
lift_exprs::lift_steps-loop-step-preserved t c =
    let items = c.loop-step.items in
    let names = visible c.args.scope.now in
    let n = c.loop-step.walk.numbers.next in
    let x = get_or items c.loop-step.step-index c.step-item.result in
    let y = c.lift_step.new.step in
    turn_there items c.as_mut_slice-items.result.now c.loop-step.invariant.0 c.loop-step.invariant.1
    c.as_mut_slice-items.ensures.value c.step-item.result y
    (one_step names n (step_part x)) step_then
    c.loop-step-test.true c.step-item.is
    (step_first names n (step_part x))
    (λ ss. ap (λ s. step_then s ss) (sym c.in_ok-lift_step.ensures.0)) c.in_ok-lift_step.ensures.1

pub lift_exprs::lift_steps-returns : goal.lift_exprs::lift_steps-returns
lift_exprs::lift_steps-returns t c =
    finish_there c.loop-step.items c.as_mut_slice-items.result.now c.loop-step.invariant.0 c.loop-step.invariant.1
    c.as_mut_slice-items.ensures.value no_steps c.loop-step-test.false refl (λ xs. before_steps (map step_part xs))

pub lift_exprs::lift_links-loop-link-preserved : goal.lift_exprs::lift_links-loop-link-preserved
lift_exprs::lift_links-loop-link-preserved t c =
    let items = c.loop-link.items in
    let names = visible c.args.scope.now in
    let n = c.loop-link.walk.numbers.next in
    let x = get_or items c.loop-link.link-index c.link-item.result in
    let y = roll-Link (record { op = x.op; right = c.lift_expr.new.expr }) in
    turn_there items c.as_mut_slice-items.result.now c.loop-link.invariant.0 c.loop-link.invariant.1
    c.as_mut_slice-items.ensures.value c.link-item.result y
    (spec.expr names n (tree x.right)) (link_then x.op)
    c.loop-link-test.true c.link-item.is
    (λ ls. ap (λ l. spec.links names n (links (l ∷ ls))) (link_is x))
    (λ ls. ap (λ e. link_then x.op e ls) (sym c.in_ok-lift_expr.ensures.0)
    ∙ ap (λ l. link_part_then l ls) (sym (link_is y))) c.in_ok-lift_expr.ensures.1

pub lift_exprs::lift_links-returns : goal.lift_exprs::lift_links-returns
lift_exprs::lift_links-returns t c =
    finish_there c.loop-link.items c.as_mut_slice-items.result.now c.loop-link.invariant.0 c.loop-link.invariant.1
    c.as_mut_slice-items.ensures.value no_links c.loop-link-test.false refl (λ xs. before_links (map link_part xs))

pub lift_clauses::lift_keys-loop-key-preserved : goal.lift_clauses::lift_keys-loop-key-preserved
lift_clauses::lift_keys-loop-key-preserved t c =
    let items = c.loop-key.items in
    let names = visible c.args.scope.now in
    let n = c.loop-key.walk.numbers.next in
    let i = c.loop-key.key-index in
    let x = get_or items i c.key-item.result in
    let y = roll-Key (record { expr = c.lift_expr.new.expr; descending = x.descending }) in
    let h = turn_there items c.as_mut_slice-items.result.now c.loop-key.invariant.0 c.loop-key.invariant.1
    c.as_mut_slice-items.ensures.value c.key-item.result y (spec.expr names n (tree x.expr)) expr_then
    c.loop-key-test.true c.key-item.is
    (λ ks. ap (λ k. spec.exprs names n (trees (map (λ k. k.0) (k ∷ ks)))) (key_is x))
    (λ es. ap (λ e. expr_then e es) (sym c.in_ok-lift_expr.ensures.0) ∙ ap (λ k. key_then k es) (sym (key_is y)))
    c.in_ok-lift_expr.ensures.1 in (
      h.0,
      h.1,
      beside key_part (λ k. k.1) items i c.key-item.result y
          (ap (λ k. k.1) (key_is y) ∙ ap (λ k. k.1) (sym (key_is x)))
          ∙ c.loop-key.invariant.2,
    )

pub lift_clauses::lift_keys-returns-clause-keys : goal.lift_clauses::lift_keys-returns-clause-keys
lift_clauses::lift_keys-returns-clause-keys t c =
    finish_there c.loop-key.items c.as_mut_slice-items.result.now c.loop-key.invariant.0 c.loop-key.invariant.1
    c.as_mut_slice-items.ensures.value no_exprs c.loop-key-test.false refl (λ xs. before_keys (map key_part xs))

pub lift_collect::lift_criteria-loop-group-preserved : goal.lift_collect::lift_criteria-loop-group-preserved
lift_collect::lift_criteria-loop-group-preserved t c =
    let items = c.loop-group.items in
    let names = visible c.args.scope.now in
    let all = c.args.groups.now in
    let i = c.loop-group.group-index in
    let d = c.group-item.result in
    let x = get_or items i d in
    let y = roll-Let (record { var = c.enter.new.ident; expr = c.lift_expr.new.expr }) in
    let h = criterion_turn items c.as_mut_slice-items.result.now c.loop-group.walk.lets c.loop-group.walk.numbers
    c.loop-group.invariant.0 c.loop-group.invariant.1 c.as_mut_slice-items.ensures.value d y c.enter.new.self
    c.loop-group-test.true c.group-item.is c.in_ok-enter.ensures.ident c.in_ok-enter.ensures.said
    c.in_ok-enter.ensures.next c.in_ok-lift_expr.ensures in (
      h.0,
      h.1,
      entered_more let_part all (enter_criteria names) (λ n. (spec.expr names n (tree x.expr)).next)
          c.loop-group.invariant.2
          (subst (λ xs. i < length xs) c.as_mut_slice-items.ensures.value c.loop-group-test.true)
          (same_item all i items c.loop-group.invariant.1 d c.group-item.is)
          (λ ls. ap (λ l. enter_criteria names c.loop-group.walk.numbers.next (l ∷ ls) c.loop-group.own)
          (let_part_is x)) c.in_ok-enter.ensures.names c.in_ok-enter.ensures.next
          (ap (λ p. p.next) c.in_ok-lift_expr.ensures.1),
    )

pub lift_collect::lift_criteria-returns-clause-criteria
    : goal.lift_collect::lift_criteria-returns-clause-criteria
lift_collect::lift_criteria-returns-clause-criteria t c =
    finish_there c.loop-group.items c.as_mut_slice-items.result.now c.loop-group.invariant.0
    c.loop-group.invariant.1 c.as_mut_slice-items.ensures.value ([], no_exprs) c.loop-group-test.false refl
    (λ xs. before_lets (map let_part xs))

pub lift_collect::lift_aggregates-loop-item-preserved : goal.lift_collect::lift_aggregates-loop-item-preserved
lift_collect::lift_aggregates-loop-item-preserved t c =
    let items = c.loop-item.items in
    let names = visible c.args.scope.now in
    let all = c.args.all.now in
    let i = c.loop-item.item-index in
    let d = c.item-item.result in
    let x = get_or items i d in
    let y = roll-AggregateItem (record { var = c.enter.new.ident; name = x.name; arg = c.lift_maybe.new.expr }) in
    let h = aggregate_turn items c.as_mut_slice-items.result.now c.loop-item.walk.lets c.loop-item.walk.numbers
    c.loop-item.invariant.0 c.loop-item.invariant.1 c.as_mut_slice-items.ensures.value d y c.enter.new.self
    c.loop-item-test.true c.item-item.is c.in_ok-enter.ensures.ident refl c.in_ok-enter.ensures.said
    c.in_ok-enter.ensures.next c.in_ok-lift_maybe.ensures in (
      h.0,
      h.1,
      entered_more aggregate_part all (enter_aggregates names)
          (λ n. (spec.maybe names n (maybe (option_map tree x.arg))).next) c.loop-item.invariant.2
          (subst (λ xs. i < length xs) c.as_mut_slice-items.ensures.value c.loop-item-test.true)
          (same_item all i items c.loop-item.invariant.1 d c.item-item.is)
          (λ gs. ap (λ g. enter_aggregates names c.loop-item.walk.numbers.next (g ∷ gs) c.loop-item.own)
          (aggregate_is x)) c.in_ok-enter.ensures.names c.in_ok-enter.ensures.next
          (ap (λ p. p.next) c.in_ok-lift_maybe.ensures.1),
    )

pub lift_collect::lift_aggregates-returns-clause-aggregates
    : goal.lift_collect::lift_aggregates-returns-clause-aggregates
lift_collect::lift_aggregates-returns-clause-aggregates t c =
    finish_there c.loop-item.items c.as_mut_slice-items.result.now c.loop-item.invariant.0
    c.loop-item.invariant.1 c.as_mut_slice-items.ensures.value no_aggregates c.loop-item-test.false refl
    (λ xs. before_aggregates (map aggregate_part xs))

pub lift_clauses::lift_query-loop-clause-preserved : goal.lift_clauses::lift_query-loop-clause-preserved
lift_clauses::lift_query-loop-clause-preserved t c =
    let outer = visible c.args.around.now in
    let all = c.args.query.now.clauses in
    let i = c.loop-clause.clause-index in
    let items = c.loop-clause.clauses in
    let own = c.loop-clause.scope.own in
    let d = c.clause-item.result in
    let x = get_or items i d in
    let y = c.lift_clause.new.clause in
    let now = progress c.loop-clause.walk.lets c.loop-clause.walk.numbers in
    let then = progress c.lift_clause.new.walk.lets c.lift_clause.new.walk.numbers in
    let at : c.loop-clause.scope.outer ≡ outer = c.loop-clause.invariant.1 in
    let ahead = c.loop-clause.invariant.2 in
    let clause = subst (λ o. Given (clause_tree y) (spec.clause o own now.next (clause_tree x)).clause now then) at
    c.in_ok-lift_clause.ensures.0 in
    let names = subst (λ o. c.lift_clause.new.scope.own ≡ (spec.clause o own now.next (clause_tree x)).own) at
    c.in_ok-lift_clause.ensures.1 in (
      clause_turn outer (spec.clauses outer [] c.args.walk.now.numbers.next (clauses (map clause_tree all)))
          c.args.walk.now.numbers.said all i own now x y c.lift_clause.new.scope.own then _
          c.loop-clause.invariant.0
          (subst (λ xs. i < length xs) c.as_mut_slice-clauses.ensures.value c.loop-clause-test.true)
          (same_item all i items ahead d c.clause-item.is) clause names
          (pushed c.lift_clause.new.walk.lets c.push.new.self c.replace-lifted.result y c.lift_clause.new.walk.numbers
          c.in_ok-push.ensures.ok c.replace-lifted.ensures.value),
      c.in_ok-lift_clause.ensures.2 ∙ at,
      one_further all i items ahead c.replace-lifted.new.dest,
    )

pub lift_clauses::lift_query-returns-clause-query : goal.lift_clauses::lift_query-returns-clause-query
lift_clauses::lift_query-returns-clause-query t c =
    let q = c.args.query.now in
    let outer = visible c.args.around.now in
    let own = c.loop-clause.scope.own in
    let lets = c.lift_boxed.new.walk.lets in
    let now = progress c.loop-clause.walk.lets c.loop-clause.walk.numbers in
    let then = progress lets c.lift_boxed.new.walk.numbers in
    let e = tree q.result.value in
    let f = tree c.lift_boxed.new.expr.value in
    let given = subst (λ o. Given f (spec.expr (own ++ o) now.next e) now then) c.loop-clause.invariant.1
    c.in_ok-lift_boxed.ensures in
    let past = subst (λ xs. length xs ≤ c.loop-clause.clause-index) c.as_mut_slice-clauses.ensures.value
    c.loop-clause-test.false in
    let h = query_given outer q.with q.clauses q.distinct e c.args.walk.now.numbers.next c.args.walk.now.numbers.said
    c.loop-clause.clause-index own now then f c.loop-clause.invariant.0 past given in
    let h' = subst (λ p. QueryGiven (query q.with (clauses (map clause_tree lets)) q.distinct f)
    (spec.scope_query outer c.args.walk.now.numbers.next p) c.args.walk.now.numbers c.lift_boxed.new.walk.numbers)
    (sym (query_parts q)) h in (
      query_made q.with c.replace.result q.distinct c.lift_boxed.new.expr
          ∙ ap (λ cs. query q.with (clauses (map clause_tree cs)) q.distinct f) c.replace.ensures.value ∙ h'.0,
      h'.1,
      h'.2,
    )

pub lift_collect::lift_into-returns-in-Some-what-clause-into
    : goal.lift_collect::lift_into-returns-in-Some-what-clause-into
lift_collect::lift_into-returns-in-Some-what-clause-into t c =
    let s = c.args.scope.now in
    let i = c.in-Some.into in
    let e = c.in-Some-what.what in
    let w = c.lift_expr.new.expr in
    let m = c.args.walk.now.numbers in
    let q = progress c.lift_expr.new.walk.lets c.lift_expr.new.walk.numbers in
    let v = c.enter.new.ident in
    let keep = c.replace-keep.new.dest in
    let p = progress c.args.walk.now.lets m in
    lifts_as p q c.lift_expr.result
    (into_some (roll-Into (record { var = v; what = Some w; keep = keep })) w refl
    ∙ ap (into v (one_expr (tree w))) (c.replace-keep.ensures.after ∙ c.new.ensures))
    (ap (spec.into_part s.own (visible s) m.next)
    (ap (λ o. into_tree (option_map into_part o)) c.in-Some.is ∙ into_some i e c.in-Some-what.is))
    (into_lifted s.own (visible s) i.var v (tree e) (tree w) i.keep c.args.walk.now.lets m c.enter.new.self q
    c.lift_expr.result c.in_ok-enter.ensures.ident c.in_ok-enter.ensures.said c.in_ok-enter.ensures.next
    c.lift_expr.ensures)

pub lift_exprs::lift_expr-returns-in_ok-lift_inner-in-Sub
    : goal.lift_exprs::lift_expr-returns-in_ok-lift_inner-in-Sub
lift_exprs::lift_expr-returns-in_ok-lift_inner-in-Sub t c =
    let names = visible c.args.scope.now in
    let m = c.args.walk.now.numbers in
    let lets = c.args.walk.now.lets in
    let number = c.in_ok-number-in-Sub.number in
    let r = c.take_out.result in
    let new = c.take_out.new.lets in
    let d = c.lift_inner.new.query in
    let q = c.in-Sub.query in
    let k = c.subquery.new.self in
    let l = c.lift_inner.new.walk.numbers in
    let given = inner_same (query_tree d.value) (spec.scope_query names k.next) k l c.in-Sub.query-is
    c.in_ok-lift_inner-in-Sub.ensures.query in
    let more : OnOk r (map clause_tree new
    ≡ map clause_tree lets ++ let_be (Num number) (subquery (query_tree d.value)) ∷ [])
    = search (rules, the_lemmas) in
    lifts_as (progress lets m) (progress new l) r refl
    (ap (spec.expr names m.next) (ap tree c.in-Sub.is ∙ of_query q))
    (subquery_lifted names (query_tree q.value) (query_tree d.value) (tree c.take_out.new.subquery) number lets new
    m k l r c.in_ok-number-in-Sub.ensures.number c.in_ok-number-in-Sub.ensures.said
    c.in_ok-number-in-Sub.ensures.next given c.take_out.ensures.variable more)

pub lift_clauses::lift_let-returns-in_ok-lift_inner-in-Sub
    : goal.lift_clauses::lift_let-returns-in_ok-lift_inner-in-Sub
lift_clauses::lift_let-returns-in_ok-lift_inner-in-Sub t c =
    let s = c.args.scope.now in
    let x = c.args.var.now in
    let m = c.args.walk.now.numbers in
    let lets = c.args.walk.now.lets in
    let r = c.number.result in
    let v = c.number.new.ident in
    let d = c.lift_inner.new.query in
    let q = c.in-Sub.query in
    let l = c.lift_inner.new.walk.numbers in
    let given = inner_same (query_tree d.value) (spec.scope_query (visible s) c.declare.new.self.next)
    c.declare.new.self l c.in-Sub.query-is c.in_ok-lift_inner-in-Sub.ensures.query in
    let h = let_query_lifted s.outer s.own x v (query_tree q.value) (query_tree d.value)
    c.in_ok-number-in-Sub.number lets m c.declare.new.self l r c.number.new.self c.in_ok-number-in-Sub.ensures.number c.number.ensures.ident
    c.in_ok-number-in-Sub.ensures.said c.in_ok-number-in-Sub.ensures.next given c.number.ensures.names in
    let is = ap (let_be x) (ap tree c.in-Sub.is ∙ of_query q) in
    let lifted = subst (λ ls. Lifts (let_be v (subquery (query_tree d.value)))
    (spec.clause s.outer s.own m.next (let_be x (subquery (query_tree q.value)))).clause (progress lets m) r
    (progress ls l)) (sym c.in_ok-lift_inner-in-Sub.ensures.lets) h.0 in (
      lifts_as (progress lets m) (progress c.lift_inner.new.walk.lets l) r (search (rules, the_lemmas))
          (ap (λ e. (spec.clause s.outer s.own m.next e).clause) is) lifted,
      subst (λ e. OnOk r (c.number.new.self ≡ (spec.clause s.outer s.own m.next e).own)) (sym is) h.1,
      search rules,
    )

pub lift_clauses::lift_clause-returns-in_default : goal.lift_clauses::lift_clause-returns-in_default
lift_clauses::lift_clause-returns-in_default t c =
    let s = c.args.scope.now in
    let p = progress c.args.walk.now.lets c.args.walk.now.numbers in
    let q = progress c.lift_bound.new.walk.lets c.lift_bound.new.walk.numbers in
    let r = c.lift_bound.result in
    let x = c.in-For.var in
    let e = c.in-For.list in
    let v = c.lift_bound.new.var in
    let w = c.lift_bound.new.expr in
    let own = c.lift_bound.new.scope.own in
    let other = no_variable e (λ y is. c.in_default.not-Var y (c.in-For.list-is ∙ is)) in
    let part = bound_same (v, tree w) (λ y f. bound (visible s) p.next y (tree f)) p q r c.in-For.var-is
    c.in-For.list-is c.lift_bound.ensures.part in
    let entered = subst (λ y. OnOk r (own ≡ (y, p.next) ∷ s.own)) c.in-For.var-is c.lift_bound.ensures.own in
    let h = subst (λ k. Lifts (for_each v (tree w)) (spec.clause s.outer s.own p.next k).clause p r q
    × OnOk r (own ≡ (spec.clause s.outer s.own p.next k).own)) (sym (ap clause_tree c.in-For.is ∙ of_for x e))
    (for_lifted s.outer s.own x v (tree e) (tree w) p q r own part entered other) in
    (lifts_as p q r (of_for v w) refl h.0, h.1, c.lift_bound.ensures.outer)

pub lift_clauses::lift_let-returns-in_default : goal.lift_clauses::lift_let-returns-in_default
lift_clauses::lift_let-returns-in_default t c =
    let s = c.args.scope.now in
    let p = progress c.args.walk.now.lets c.args.walk.now.numbers in
    let q = progress c.lift_bound.new.walk.lets c.lift_bound.new.walk.numbers in
    let h = let_lifted s.outer s.own c.args.var.now c.lift_bound.new.var (tree c.args.expr.now)
    (tree c.lift_bound.new.expr) p q c.lift_bound.result c.lift_bound.new.scope.own c.lift_bound.ensures.part
    c.lift_bound.ensures.own (no_query c.args.expr.now c.in_default.not-Sub) in
    (h.0, h.1, c.lift_bound.ensures.outer)

-- With no answer the search is tried first, in vain, and these take half a minute more.

pub lift_traversals::lift_traversal-returns : goal.lift_traversals::lift_traversal-returns
lift_traversals::lift_traversal-returns t c = grind (arith, common_steps, traversal_lemmas)

pub lift_collect::lift_collect-returns : goal.lift_collect::lift_collect-returns
lift_collect::lift_collect-returns t c = grind (arith, common_steps, collect_lemmas)

pub lift_exprs::lift_expr-returns-in-Var : goal.lift_exprs::lift_expr-returns-in-Var
lift_exprs::lift_expr-returns-in-Var t c = grind (arith, common_steps, the_lemmas)

pub lift_exprs::lift_expr-returns-in-List : goal.lift_exprs::lift_expr-returns-in-List
lift_exprs::lift_expr-returns-in-List t c = grind (arith, common_steps, the_lemmas)

pub lift_exprs::lift_expr-returns-in-Object : goal.lift_exprs::lift_expr-returns-in-Object
lift_exprs::lift_expr-returns-in-Object t c = grind (arith, common_steps, the_lemmas)

pub lift_exprs::lift_expr-returns-in-Call : goal.lift_exprs::lift_expr-returns-in-Call
lift_exprs::lift_expr-returns-in-Call t c = grind (arith, common_steps, the_lemmas)

pub lift_exprs::lift_expr-returns-in-Unary : goal.lift_exprs::lift_expr-returns-in-Unary
lift_exprs::lift_expr-returns-in-Unary t c = grind (arith, common_steps, the_lemmas)

pub lift_exprs::lift_expr-returns-in_ok-lift_boxed-in-Access : goal.lift_exprs::lift_expr-returns-in_ok-lift_boxed-in-Access
lift_exprs::lift_expr-returns-in_ok-lift_boxed-in-Access t c = grind (arith, common_steps, the_lemmas)

pub lift_exprs::lift_expr-returns-in_ok-lift_boxed-in-Chain : goal.lift_exprs::lift_expr-returns-in_ok-lift_boxed-in-Chain
lift_exprs::lift_expr-returns-in_ok-lift_boxed-in-Chain t c = grind (arith, common_steps, the_lemmas)

pub lift_exprs::lift_expr-returns-in_ok-lift_boxed-in-Quant : goal.lift_exprs::lift_expr-returns-in_ok-lift_boxed-in-Quant
lift_exprs::lift_expr-returns-in_ok-lift_boxed-in-Quant t c = grind (arith, common_steps, the_lemmas)

pub lift_exprs::lift_expr-returns-in_ok-lift_boxed-in-Range : goal.lift_exprs::lift_expr-returns-in_ok-lift_boxed-in-Range
lift_exprs::lift_expr-returns-in_ok-lift_boxed-in-Range t c = grind (arith, common_steps, the_lemmas)

pub lift_exprs::lift_expr-returns-in_ok-lift_branch-in-Cond : goal.lift_exprs::lift_expr-returns-in_ok-lift_branch-in-Cond
lift_exprs::lift_expr-returns-in_ok-lift_branch-in-Cond t c = grind (arith, common_steps, the_lemmas)

pub lift_clauses::lift_clause-returns-in-Traversal : goal.lift_clauses::lift_clause-returns-in-Traversal
lift_clauses::lift_clause-returns-in-Traversal t c = grind (arith, common_steps, clause_lemmas)

pub lift_clauses::lift_clause-returns-in-Filter : goal.lift_clauses::lift_clause-returns-in-Filter
lift_clauses::lift_clause-returns-in-Filter t c = grind (arith, common_steps, clause_lemmas)

pub lift_clauses::lift_clause-returns-in-Let : goal.lift_clauses::lift_clause-returns-in-Let
lift_clauses::lift_clause-returns-in-Let t c = grind (arith, common_steps, clause_lemmas)

pub lift_clauses::lift_clause-returns-in-Sort : goal.lift_clauses::lift_clause-returns-in-Sort
lift_clauses::lift_clause-returns-in-Sort t c = grind (arith, common_steps, clause_lemmas)

pub lift_clauses::lift_clause-returns-in-Collect : goal.lift_clauses::lift_clause-returns-in-Collect
lift_clauses::lift_clause-returns-in-Collect t c = grind (arith, common_steps, clause_lemmas)

pub lift_clauses::lift_clause-returns-in-ForDocs : goal.lift_clauses::lift_clause-returns-in-ForDocs
lift_clauses::lift_clause-returns-in-ForDocs t c = grind (arith, common_steps, clause_lemmas)

pub lift_clauses::lift_clause-returns-in_ok-clause-in-Var : goal.lift_clauses::lift_clause-returns-in_ok-clause-in-Var
lift_clauses::lift_clause-returns-in_ok-clause-in-Var t c = grind (arith, common_steps, clause_lemmas)

pub lift_exprs::lift_step-returns-in_ok-lift_maybe-in-Each : goal.lift_exprs::lift_step-returns-in_ok-lift_maybe-in-Each
lift_exprs::lift_step-returns-in_ok-lift_maybe-in-Each t c = grind (arith, common_steps, step_lemmas)

pub lift_exprs::lift_step-returns-in-At : goal.lift_exprs::lift_step-returns-in-At
lift_exprs::lift_step-returns-in-At t c = grind (arith, common_steps, step_lemmas)

pub lift_exprs::lift_member-returns-in-Named : goal.lift_exprs::lift_member-returns-in-Named
lift_exprs::lift_member-returns-in-Named t c = grind (arith, common_steps, field_lemmas)

pub lift_exprs::lift_member-returns-in_ok-lift_expr-in-Computed : goal.lift_exprs::lift_member-returns-in_ok-lift_expr-in-Computed
lift_exprs::lift_member-returns-in_ok-lift_expr-in-Computed t c = grind (arith, common_steps, field_lemmas)

pub lift_collect::lift_into-returns-clause-into : goal.lift_collect::lift_into-returns-clause-into
lift_collect::lift_into-returns-clause-into t c = grind (arith, common_steps, into_lemmas)

pub lift_clauses::lift_bound-returns-clause-part : goal.lift_clauses::lift_bound-returns-clause-part
lift_clauses::lift_bound-returns-clause-part t c = grind (arith, common_steps, clause_lemmas)
