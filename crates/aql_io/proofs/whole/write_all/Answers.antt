use Rattle.std.proofs.Common.{arith, length-drop, ◌∙◌}
use Rattle.std.proofs.lemmas.List.{take_rest}
use Rattle.aql_io.proofs.Moved.{more_appended}
use Rattle.aql_io.proofs.whole.write_all.Goals as goal

pub pieces-preserved : goal.pieces-preserved
pieces-preserved g c =
    let at = c.pieces.at in
    let written = c.in_ok-at.ensures in
    record {
      within = omega (arith, rw (take_rest, length-drop) at written.bound);
      appended = more_appended _ _ _ c.args.bytes.now at c.in_ok-at.field-0 c.pieces.invariant.appended
          (rw take_rest at written.bytes.bytes);
      quiet = written.quiet ∙ c.pieces.invariant.quiet;
    }
