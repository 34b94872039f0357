use Rattle.std.proofs.Common.{◌∙◌, Some, [], ap, sym, subst}
use Rattle.std.specs.Prelude.{slice_get}
use Rattle.aql_value.specs.Datum.{null}
use Rattle.aql_block.specs.laws.BlockRows.{row_has_all, row_only}
use Rattle.aql_exec_rows.specs.GroupStates.{Result}
use Rattle.aql_exec_rows.specs.Framed.{framed, FitsFrame}
use Rattle.aql_exec_rows.proofs.Setting.{all_fit}
use Rattle.aql_exec_rows.proofs.frame.Frame.all_registers.Goals as goal

pub returns : goal.returns
returns c =
    let me = c.args.self.now in
    let t = c.in_ok-block.block in
    let r : Result = record { criteria = null; aggregates = []; taken = [] } in
    let row = c.in_ok-row.ensures ∙ ap (framed me) c.empty.ensures in
    let at = ap (λ rows. slice_get rows 0) c.in_ok-block.ensures.rows ∙ ap Some row in
    subst (FitsFrame me) (sym (c.in_ok-registers.ensures.items ∙ c.registers.ensures))
    (all_fit me t.registers r (row_has_all t 0 (framed me r) at) (row_only t 0 (framed me r) at))
