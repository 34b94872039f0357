use Rattle.std.proofs.Common.{◌∙◌, ℕ, List, true≢false, sym, subst, subst₂, drop}
use Rattle.std.specs.Prelude.{IsTrue, ◌↔◌}
use Rattle.aql_plan.specs.View.{key_trees}
use Rattle.aql_rules_index.specs.inner.Ordering.{KeysAreFirst}
use Rattle.aql_rules_index.specs.inner.Views.{read_tree}
use Rattle.aql_rules_index.proofs.KeysFound.{many_exprs, absent, may_behind}
use Rattle.aql_rules_index.proofs.use_index_for_sort.may_order.Goals as goal

pub returns-else-are_first : goal.returns-else-are_first
returns-else-are_first c =
    let r = read_tree c.args.read in
    let es = key_trees c.args.keys.now in
    may_behind c.args.facts.now r es (absent c.args.read.ordered (sym c.is_some.ensures ∙ c.if-is_some.false))
    (c.is_sorted.ensures.0 c.if-not-is_sorted.false) (sym c.is_one_of.ensures ∙ c.if-is_one_of.false)
    c.are_behind.result
    (λ k. true≢false (sym (c.are_first.ensures.1 (subst (KeysAreFirst r.var es)
    (sym c.attributes_of-names.ensures) k)) ∙ c.if-are_first.false))
    (subst₂ (λ (n : ℕ) (ns : List (List ℕ)). IsTrue c.are_behind.result ↔ KeysAreFirst r.var es (drop n ns))
    (sym (many_exprs c.args.read.equal.now)) c.attributes_of-names.ensures c.are_behind.ensures)
