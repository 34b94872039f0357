use Rattle.std.proofs.Common.{◌∙◌, ◌≤◌, length, sym, subst}
use Rattle.std.proofs.lemmas.Bool.{not-true, not-false}
use Rattle.aql_exec_cluster.proofs.Sorted.{left_read}
use Rattle.aql_exec_cluster.proofs.queues.Queues.is_empty_at.Goals as goal

pub returns-clause-yes : goal.returns-clause-yes
returns-clause-yes c e =
    left_read c.args.self.now.list.items c.args.input c.index.result.now c.requires c.index.ensures
    ∙ c.has_next.ensures.none (not-true _ e)

pub returns-clause-not_so : goal.returns-clause-not_so
returns-clause-not_so c e =
    subst (λ z. 1 ≤ length z)
    (sym (left_read c.args.self.now.list.items c.args.input c.index.result.now c.requires c.index.ensures))
    (c.has_next.ensures.some (not-false _ e))
