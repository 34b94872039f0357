use Rattle.std.proofs.Common.{◌∙◌, List, Some, true≢false, refl, sym, ap}
use Rattle.aql_tree.specs.declared.syntax.Expr.{Expr}
use Rattle.aql_tree.specs.declared.syntax.Ident.TheVariants.{Num}
use Rattle.aql_meaning.specs.Documents.{no_last}
use Rattle.aql_plan.specs.View.{plan_tree, key_trees, expr_trees}
use Rattle.aql_rules_index.specs.inner.Readers.{plan_indexed}
use Rattle.aql_rules_index.specs.inner.Views.{read_tree}
use Rattle.aql_rules_index.proofs.SortFound.{no_index, no_order, enumeration_at, index_at}
use Rattle.aql_rules_index.proofs.use_index_for_sort.order_reader.Goals as goal

pub returns-in_default-2 : goal.returns-in_default-2
returns-in_default-2 c = (
  no_index c.args.facts.now c.args.descending (key_trees c.args.keys.now) (plan_tree c.args.plan.now)
      (Num c.in-Some.var) c.in-Some.coll.0 c.requires (sym c.in-Some.ensures)
      (rw c.in_default-2.is at c.in_ok-index.ensures),
  refl,
)

pub returns-in-Some : goal.returns-in-Some
returns-in-Some c =
    let p = plan_tree c.args.plan.now in
    let index = c.in-Some-2.index in
    enumeration_at c.args.facts.now c.args.descending (key_trees c.args.keys.now) p
    (plan_tree c.set_index.new.plan) (Num c.in-Some.var) c.in-Some.coll.0 index
    (sym c.reads_once.ensures ∙ c.if-not-reads_once.false) (sym c.in-Some.ensures)
    (rw c.in-Some-2.is at c.in_ok-index.ensures)
    (c.set_index.ensures
    ∙ ap (λ (es : List Expr). plan_indexed (record {
      index = index;
      bounds = record { equal = expr_trees es; last = no_last };
    }) (Some c.args.descending) p) c.new.ensures)

pub returns-then-not-may_order : goal.returns-then-not-may_order
returns-then-not-may_order c = (
  no_order c.args.facts.now c.args.descending (key_trees c.args.keys.now) (plan_tree c.args.plan.now)
      (read_tree c.in-Some-whole_index.read) c.requires (sym c.in_default.ensures)
      (sym c.in-Some-whole_index.ensures)
      (λ m. true≢false (sym (c.may_order.ensures.1 m) ∙ c.if-not-may_order.true)),
  refl,
)

pub returns : goal.returns
returns c = index_at c.args.facts.now c.args.descending (key_trees c.args.keys.now) (plan_tree c.args.plan.now)
    (plan_tree c.set_order.new.plan) (read_tree c.in-Some-whole_index.read)
    (sym c.reads_once.ensures ∙ c.if-not-reads_once.false) (sym c.in-Some-whole_index.ensures)
    (c.may_order.ensures.0 c.if-not-may_order.false) c.set_order.ensures
