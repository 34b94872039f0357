use Rattle.std.proofs.Common.{refl}
use Rattle.aql_exec_fragments.specs.Feeds.{no_body}
use Rattle.aql_engine.proofs.Inputs.{of_inputs}
use Rattle.aql_exec_fragments.proofs.Pulling.{count_trees}
use Rattle.aql_exec_fragments.proofs.Gathered.{few, one_input, given_back}
use Rattle.aql_exec_fragments.proofs.gather_node.GatherNodeExecutor.take.Goals as goal

pub overflow_cast-last : goal.overflow_cast-last
overflow_cast-last g c =
    let fragments = c.args.self.now.fragments in
    record {
      fits = few _ _ _ _ (count_trees g.F.Feed fragments.items) c.requires.node.1.5 c.len-last.ensures
          fragments.ok.0;
    }

pub returns-clause-leads : goal.returns-clause-leads
returns-clause-leads g c e w p body d s0 s ins' ins t b r l0 l1 a e' e0 os ends h =
    let node = g.S.Executor.node c.args.self.now.scatter in
    let taken = of_inputs {o = node} {o' = node} refl (one_input c.requires.node.1.1)
    c.in_ok-take.ensures.leads in
    given_back g.X.Executor g.S.Executor g.F.Feed g.W.Surroundings c.args.self.now c.take.new.self
    c.requires.asked.1.0 w w refl ins ins' d (λ lists q z. z)
    (λ k q z. taken e w k no_body d s0 s ins' ins t b q l0 l1 a e' e0 os ends z) r h
