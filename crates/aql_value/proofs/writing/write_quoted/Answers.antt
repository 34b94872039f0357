use Rattle.std.proofs.lemmas.Result.{err_from_is_err_and}
use Rattle.aql_value.proofs.Written.{longer}
use Rattle.aql_value.proofs.writing.write_quoted.Goals as goal

pub returns-in_err-write_byte : goal.returns-in_err-write_byte
returns-in_err-write_byte c =
    let p = err_from_is_err_and c.from_residual-in_err-write_byte.result
    c.from_residual-in_err-write_byte.ensures.1 in
    rw p.1 (tt, longer _ _ _ c.loop-b.invariant.1 c.in_err-write_byte.ensures.1)
