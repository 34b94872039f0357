use Rattle.std.proofs.Common.{◌∙◌, ap, reverse}
use Rattle.aql_value.specs.View.{datums_in}
use Rattle.aql_meaning.specs.Row.{bind_all}
use Rattle.aql_block.specs.Rows.{row_of}
use Rattle.aql_exec_rows.specs.Framed.{numbered}
use Rattle.aql_exec_rows.proofs.Setting.{turned}
use Rattle.aql_exec_rows.proofs.frame.set_all.Goals as goal

pub loop-var-init : goal.loop-var-init
loop-var-init c = ap (λ vs. bind_all (numbered c.args.vars.now) vs (row_of c.args.row.now))
    (ap (λ items. reverse (datums_in items)) c.reverse.ensures.items ∙ turned c.args.values.items)
