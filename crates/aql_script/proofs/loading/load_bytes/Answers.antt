use Rattle.std.proofs.Common.{inr, sym, subst}
use Rattle.aql_script.specs.inner.Meets.{Meets}
use Rattle.aql_script.specs.laws.Scripts.{script_within, script_beyond}
use Rattle.aql_script.proofs.loading.load_bytes.Goals as goal

pub returns-then-bytes-gt-SCRIPT_BYTES : goal.returns-then-bytes-gt-SCRIPT_BYTES
returns-then-bytes-gt-SCRIPT_BYTES c = inr (script_beyond c.args.bytes.now c.if-bytes-gt-SCRIPT_BYTES.true)

pub returns : goal.returns
returns c =
    let within = c.if-bytes-gt-SCRIPT_BYTES.false in
    subst (Meets c.load_lines.result) (sym (script_within c.args.bytes.now within)) c.load_lines.ensures
