use Rattle.std.proofs.Common.{◌≡◌, drop, reverse}
use Rattle.aql_value.specs.View.{datums_in}
use Rattle.aql_meaning.specs.Row.{bind_all}
use Rattle.aql_block.specs.Rows.{row_of}
use Rattle.aql_exec_rows.specs.Framed.{numbered}
use Rattle.aql_exec_rows.proofs.frame.set_all.Given as goal

-- with the variables that are left set, it is the row with all set
abbrev pub invariant-loop-var : goal.invariant-loop-var
invariant-loop-var l =
    bind_all (numbered (drop l.var-index l.vars)) (reverse (datums_in l.values.items)) (row_of l.row)
    ≡ bind_all (numbered l.vars) (datums_in l.fn.values.items) (row_of l.fn.row)
