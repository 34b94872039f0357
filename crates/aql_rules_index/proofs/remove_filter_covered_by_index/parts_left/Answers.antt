use Rattle.std.proofs.Common.{◌∙◌, true≢false, sym}
use Rattle.aql_rules_index.specs.inner.Covering.{PlainGoes}
use Rattle.aql_rules_index.specs.inner.Views.{read_tree}
use Rattle.aql_rules_index.proofs.PartsLeft.{all_left, one_goes, one_stays}
use Rattle.aql_rules_index.proofs.remove_filter_covered_by_index.parts_left.Goals as goal
use Rattle.aql_rules_index.proofs.remove_filter_covered_by_index.parts_left.Goals.{then-not-branch+in_ok-push, else-not-branch}

pub loop-part-preserved : goal.loop-part-preserved
loop-part-preserved c = elim c.if-not-branch.branch [
  | then-not-branch+in_ok-push w ↦ rw w.left-is (one_stays
      (PlainGoes c.args.names.now (read_tree c.args.read)) c.args.parts.now c.loop-part.part-index
      c.loop-part.left.items c.part-item.result c.loop-part-test.true c.part-item.is c.loop-part.invariant
      (λ g. true≢false (sym (c.in_ok-is_bound.ensures.1 g) ∙ w.if-not-branch.true)) w.push.new.self.items
      w.in_ok-push.ensures.items)
  | else-not-branch w ↦ rw w.left-is (one_goes
      (PlainGoes c.args.names.now (read_tree c.args.read)) c.args.parts.now c.loop-part.part-index
      c.loop-part.left.items c.part-item.result c.loop-part-test.true c.part-item.is c.loop-part.invariant
      (c.in_ok-is_bound.ensures.0 w.if-not-branch.false))
]

pub returns : goal.returns
returns c = all_left (PlainGoes c.args.names.now (read_tree c.args.read)) c.args.parts.now
    c.loop-part.part-index c.loop-part.left.items c.loop-part-test.false c.loop-part.invariant
