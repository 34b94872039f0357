use Rattle.std.proofs.Common.{◌∙◌, sym, arith}
use Rattle.aql_plan.specs.View.{key_trees}
use Rattle.aql_exec_cluster.proofs.Stands.{going_few}
use Rattle.aql_exec_cluster.proofs.Sorted.{none_keyed, none_left}
use Rattle.aql_exec_cluster.proofs.sorted_gather.SortedGatherExecutor.begin.Goals as goal

pub returns-clause-valid : goal.returns-clause-valid
returns-clause-valid g c w = record {
  count = c.begin.ensures.count ∙ sym (c.in_ok-self.ensures.count ∙ c.len.ensures);
  keyed = none_keyed (key_trees c.args.self.now.keys) c.in_ok-self.field-0.list.items
      c.in_ok-self.ensures.none;
}

pub returns-clause-budget : goal.returns-clause-budget
returns-clause-budget g c w f =
    let none = none_left c.in_ok-self.field-0.list.items c.in_ok-self.ensures.none in
    let few = going_few c.begin.new.self.progress.items in
    omega (arith, none, few)
