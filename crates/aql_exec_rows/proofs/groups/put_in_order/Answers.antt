use Rattle.std.proofs.Common.{rules}
use Rattle.std.specs.Ordering.{is_lt}
use Rattle.std.proofs.lemmas.Fn.{always_returns_same}
use Rattle.std.proofs.lemmas.List.Sorted.{ranks_by}
use Rattle.aql_value.specs.View.{datum_of}
use Rattle.aql_value.specs.Compare.{compare}
use Rattle.aql_value.specs.laws.Strict.{compare_total}
use Rattle.aql_exec_rows.specs.declared.group.Finished.{Finished}
use Rattle.aql_exec_rows.proofs.Finishing.{in_order}
use Rattle.aql_exec_rows.proofs.groups.put_in_order.Goals as goal

pub returns-clause-results : goal.returns-clause-results
returns-clause-results c of keys own e =
    let sorted = c.in_ok-sort_by.ensures.sorted
    (λ (a b : Finished). is_lt (compare (datum_of a.criteria) (datum_of b.criteria)))
    (ranks_by compare_total (λ (f : Finished). datum_of f.criteria))
    (always_returns_same _ _ _ (λ a r f k. search rules)) in
    in_order of own c.args.all.now.items c.sort_by.new.self.items keys c.sort_by.ensures.permutation sorted e
