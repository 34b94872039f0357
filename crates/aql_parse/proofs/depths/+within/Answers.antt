-- One part after another.
use Rattle.std.proofs.Common.{ℕ, Bool, ◌+◌, List, map, option_map, drop, refl, ap}
use Rattle.std.specs.Prelude.{◌&&◌}
use Rattle.aql_tree.specs.declared.syntax.Expr.{Expr}
use Rattle.aql_tree.specs.declared.syntax.Link.{Link}
use Rattle.aql_tree.specs.declared.syntax.Key.{Key}
use Rattle.aql_tree.specs.declared.syntax.Let.{Let}
use Rattle.aql_tree.specs.declared.syntax.AggregateItem.{AggregateItem}
use Rattle.aql_tree.specs.declared.syntax.Clause.{Clause}
use Rattle.aql_tree.specs.View.{tree, trees, maybe, links, clauses, aggregates, clause_tree, link_part, key_part}
use Rattle.aql_tree.specs.View.{let_part, aggregate_part, LinkPart, KeyPart, LetPart, AggregatePart}
use Rattle.aql_tree.specs.laws.Parts.{link_is, key_is, let_is, aggregate_is}
use Rattle.aql_parse.specs.Within.{expr_within, maybe_within, clause_within, exprs_within, links_within}
use Rattle.aql_parse.specs.Within.{aggregates_within, clauses_within}
use Rattle.aql_parse.proofs.Each.{one_holds, one_fails, all_hold}
use Rattle.aql_parse.proofs.depths.+within.Goals as goal

abbrev in_keys : ℕ → List Key → Bool
in_keys most ks = exprs_within most (trees (map (λ k. k.0) (map key_part ks)))

abbrev in_lets : ℕ → List Let → Bool
in_lets most ls = exprs_within most (trees (map (λ l. l.1) (map let_part ls)))

abbrev in_aggregates : ℕ → List AggregateItem → Bool
in_aggregates most gs = aggregates_within most (aggregates (map aggregate_part gs))

abbrev in_links : ℕ → List Link → Bool
in_links most ls = links_within most (links (map link_part ls))

abbrev in_exprs : ℕ → List Expr → Bool
in_exprs most es = exprs_within most (trees (map tree es))

abbrev in_clauses : ℕ → List Clause → Bool
in_clauses most cs = clauses_within most (clauses (map clause_tree cs))

pub exprs_within-loop-first-preserved : goal.exprs_within-loop-first-preserved
exprs_within-loop-first-preserved t c =
    let most = c.args.most in
    let item = c.first-item.result in
    one_holds (in_exprs most) c.args.exprs.now c.loop-first.first-index item
    (expr_within most (tree item)) c.expr_within.result _ c.loop-first-test.true c.first-item.is
    refl
    c.expr_within.ensures c.if-not-expr_within.false c.loop-first.invariant

pub exprs_within-returns-then-not-expr_within : goal.exprs_within-returns-then-not-expr_within
exprs_within-returns-then-not-expr_within t c =
    let most = c.args.most in
    let item = c.first-item.result in
    one_fails (in_exprs most) c.args.exprs.now c.loop-first.first-index item
    (expr_within most (tree item)) c.expr_within.result _ c.loop-first-test.true c.first-item.is
    refl
    c.expr_within.ensures c.if-not-expr_within.true c.loop-first.invariant

pub exprs_within-returns : goal.exprs_within-returns
exprs_within-returns t c =
    all_hold (in_exprs c.args.most) c.args.exprs.now c.loop-first.first-index _ c.loop-first-test.false refl
    c.loop-first.invariant

pub clauses_within-loop-first-preserved : goal.clauses_within-loop-first-preserved
clauses_within-loop-first-preserved t c =
    let most = c.args.most in
    let item = c.first-item.result in
    one_holds (in_clauses most) c.args.all.now c.loop-first.first-index item
    (clause_within most (clause_tree item)) c.clause_within.result _ c.loop-first-test.true c.first-item.is
    refl
    c.clause_within.ensures c.if-not-clause_within.false c.loop-first.invariant

pub clauses_within-returns-then-not-clause_within : goal.clauses_within-returns-then-not-clause_within
clauses_within-returns-then-not-clause_within t c =
    let most = c.args.most in
    let item = c.first-item.result in
    one_fails (in_clauses most) c.args.all.now c.loop-first.first-index item
    (clause_within most (clause_tree item)) c.clause_within.result _ c.loop-first-test.true c.first-item.is
    refl
    c.clause_within.ensures c.if-not-clause_within.true c.loop-first.invariant

pub clauses_within-returns : goal.clauses_within-returns
clauses_within-returns t c =
    all_hold (in_clauses c.args.most) c.args.all.now c.loop-first.first-index _ c.loop-first-test.false refl
    c.loop-first.invariant

pub links_within-loop-first-preserved : goal.links_within-loop-first-preserved
links_within-loop-first-preserved t c =
    let most = c.args.most in
    let item = c.first-item.result in
    let after = in_links most (drop (c.loop-first.first-index + 1) c.args.all.now) in
    one_holds (in_links most) c.args.all.now c.loop-first.first-index item
    (expr_within most (tree item.right)) c.expr_within.result _ c.loop-first-test.true c.first-item.is
    (ap (λ (p : LinkPart). expr_within most p.1 && after) (link_is item))
    c.expr_within.ensures c.if-not-expr_within.false c.loop-first.invariant

pub links_within-returns-then-not-expr_within : goal.links_within-returns-then-not-expr_within
links_within-returns-then-not-expr_within t c =
    let most = c.args.most in
    let item = c.first-item.result in
    let after = in_links most (drop (c.loop-first.first-index + 1) c.args.all.now) in
    one_fails (in_links most) c.args.all.now c.loop-first.first-index item
    (expr_within most (tree item.right)) c.expr_within.result _ c.loop-first-test.true c.first-item.is
    (ap (λ (p : LinkPart). expr_within most p.1 && after) (link_is item))
    c.expr_within.ensures c.if-not-expr_within.true c.loop-first.invariant

pub links_within-returns : goal.links_within-returns
links_within-returns t c =
    all_hold (in_links c.args.most) c.args.all.now c.loop-first.first-index _ c.loop-first-test.false refl
    c.loop-first.invariant

pub keys_within-loop-first-preserved : goal.keys_within-loop-first-preserved
keys_within-loop-first-preserved t c =
    let most = c.args.most in
    let item = c.first-item.result in
    let after = in_keys most (drop (c.loop-first.first-index + 1) c.args.keys.now) in
    one_holds (in_keys most) c.args.keys.now c.loop-first.first-index item
    (expr_within most (tree item.expr)) c.expr_within.result _ c.loop-first-test.true c.first-item.is
    (ap (λ (p : KeyPart). expr_within most p.0 && after) (key_is item))
    c.expr_within.ensures c.if-not-expr_within.false c.loop-first.invariant

pub keys_within-returns-then-not-expr_within : goal.keys_within-returns-then-not-expr_within
keys_within-returns-then-not-expr_within t c =
    let most = c.args.most in
    let item = c.first-item.result in
    let after = in_keys most (drop (c.loop-first.first-index + 1) c.args.keys.now) in
    one_fails (in_keys most) c.args.keys.now c.loop-first.first-index item
    (expr_within most (tree item.expr)) c.expr_within.result _ c.loop-first-test.true c.first-item.is
    (ap (λ (p : KeyPart). expr_within most p.0 && after) (key_is item))
    c.expr_within.ensures c.if-not-expr_within.true c.loop-first.invariant

pub keys_within-returns : goal.keys_within-returns
keys_within-returns t c =
    all_hold (in_keys c.args.most) c.args.keys.now c.loop-first.first-index _ c.loop-first-test.false refl
    c.loop-first.invariant

pub lets_within-loop-first-preserved : goal.lets_within-loop-first-preserved
lets_within-loop-first-preserved t c =
    let most = c.args.most in
    let item = c.first-item.result in
    let after = in_lets most (drop (c.loop-first.first-index + 1) c.args.lets.now) in
    one_holds (in_lets most) c.args.lets.now c.loop-first.first-index item
    (expr_within most (tree item.expr)) c.expr_within.result _ c.loop-first-test.true c.first-item.is
    (ap (λ (p : LetPart). expr_within most p.1 && after) (let_is item))
    c.expr_within.ensures c.if-not-expr_within.false c.loop-first.invariant

pub lets_within-returns-then-not-expr_within : goal.lets_within-returns-then-not-expr_within
lets_within-returns-then-not-expr_within t c =
    let most = c.args.most in
    let item = c.first-item.result in
    let after = in_lets most (drop (c.loop-first.first-index + 1) c.args.lets.now) in
    one_fails (in_lets most) c.args.lets.now c.loop-first.first-index item
    (expr_within most (tree item.expr)) c.expr_within.result _ c.loop-first-test.true c.first-item.is
    (ap (λ (p : LetPart). expr_within most p.1 && after) (let_is item))
    c.expr_within.ensures c.if-not-expr_within.true c.loop-first.invariant

pub lets_within-returns : goal.lets_within-returns
lets_within-returns t c =
    all_hold (in_lets c.args.most) c.args.lets.now c.loop-first.first-index _ c.loop-first-test.false refl
    c.loop-first.invariant

pub aggregates_within-loop-first-preserved : goal.aggregates_within-loop-first-preserved
aggregates_within-loop-first-preserved t c =
    let most = c.args.most in
    let item = c.first-item.result in
    let after = in_aggregates most (drop (c.loop-first.first-index + 1) c.args.all.now) in
    one_holds (in_aggregates most) c.args.all.now c.loop-first.first-index item
    (maybe_within most (maybe (option_map tree item.arg))) c.maybe_within.result _
    c.loop-first-test.true c.first-item.is
    (ap (λ (p : AggregatePart). maybe_within most (maybe p.2) && after) (aggregate_is item))
    c.maybe_within.ensures c.if-not-maybe_within.false c.loop-first.invariant

pub aggregates_within-returns-then-not-maybe_within : goal.aggregates_within-returns-then-not-maybe_within
aggregates_within-returns-then-not-maybe_within t c =
    let most = c.args.most in
    let item = c.first-item.result in
    let after = in_aggregates most (drop (c.loop-first.first-index + 1) c.args.all.now) in
    one_fails (in_aggregates most) c.args.all.now c.loop-first.first-index item
    (maybe_within most (maybe (option_map tree item.arg))) c.maybe_within.result _
    c.loop-first-test.true c.first-item.is
    (ap (λ (p : AggregatePart). maybe_within most (maybe p.2) && after) (aggregate_is item))
    c.maybe_within.ensures c.if-not-maybe_within.true c.loop-first.invariant

pub aggregates_within-returns : goal.aggregates_within-returns
aggregates_within-returns t c =
    all_hold (in_aggregates c.args.most) c.args.all.now c.loop-first.first-index _
    c.loop-first-test.false refl c.loop-first.invariant
