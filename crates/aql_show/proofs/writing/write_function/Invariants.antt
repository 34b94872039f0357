use Rattle.std.proofs.Common.{◌≡◌, ◌++◌, drop}
use Rattle.aql_show.specs.Exprs.{function_text}
use Rattle.aql_show.proofs.writing.write_function.Given as goal

abbrev pub invariant-loop-byte : goal.invariant-loop-byte
invariant-loop-byte l =
    l.out.items ++ function_text (drop l.byte-index l.byte-items) ≡ l.fn.out.items ++ function_text l.name
