use Rattle.std.proofs.Common.{◌∙◌, ◌++◌, ap}
use Rattle.aql_exec_rows.proofs.Joining.{on_ok}
use Rattle.aql_exec_rows.proofs.subquery.add_results.Goals as goal

pub returns : goal.returns
returns c = on_ok c.add_values.result c.add_values.ensures (λ e.
    e ∙ ap (λ z. c.args.results.now ++ z) c.in_ok-values.ensures)
