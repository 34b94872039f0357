-- A call by its name. It is null where there is no function of this name, and where the function doesn't take
-- this number of arguments.
use Rattle.std.specs.Prelude.{ℕ, List, cond, Option, None, Some, length}
use Rattle.aql_value.specs.Datum.{Datum, null}
use Rattle.aql_func.specs.declared.names.FuncName.{FuncName}
use Rattle.aql_func.specs.Names.{function_named, allows}
use Rattle.aql_func.specs.Functions.{call}

abbrev pub call_of : Option FuncName → List Datum → Datum
call_of None args = null
call_of (Some f) args = cond (allows f (length args)) (call f args) null

abbrev pub call_named : List ℕ → List Datum → Datum
call_named name args = call_of (function_named name) args
