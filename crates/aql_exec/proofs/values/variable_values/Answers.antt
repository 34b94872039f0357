use Rattle.std.proofs.Common.{◌∙◌, refl}
use Rattle.aql_value.specs.View.{datums_in}
use Rattle.aql_block.specs.Tables.{rows_of}
use Rattle.aql_exec.proofs.Variables.{values_found, values_missing}
use Rattle.aql_exec.proofs.values.variable_values.Goals as goal

pub returns-in-Some : goal.returns-in-Some
returns-in-Some c =
    values_found c.args.var (rows_of c.args.block) (datums_in c.in-Some.values.items) c.in-Some.ensures.values

pub returns-in_ok-values-in-None : goal.returns-in_ok-values-in-None
returns-in_ok-values-in-None c =
    c.in_ok-values-in-None.ensures
    ∙ values_missing c.args.var c.args.block c.len-count.result c.len-count.ensures (c.in-None.ensures.found.0 refl)
