-- What `--generate N` makes is accepted: it is a script whose query has no fault.
use Rattle.std.proofs.Common.{◌≤◌, ℕ, refl}
use Rattle.aql_options.specs.Generated.{generated}
use Rattle.aql_top.specs.Forms.{HasQuery, Accepts}
use Rattle.aql_top.proofs.made.Script.{made_users, made_edges, made_loaded, made_is_script}
use Rattle.aql_top.proofs.made.Query.{made_query}
use Rattle.aql_top.proofs.made.Written.{made_is_written}
use Rattle.aql_top.proofs.made.NoFault.{made_has_no_fault}

pub made_accepted : (n : ℕ) → 1 ≤ n → n ≤ 100000 → Accepts (generated n)
made_accepted n some most =
    let has_query : HasQuery (made_loaded n) = record {
      query = made_query;
      is_written = made_is_written;
      no_fault = made_has_no_fault (made_users n) (made_edges n) refl refl refl;
    } in
    (made_loaded n, (made_is_script n some most, has_query))
