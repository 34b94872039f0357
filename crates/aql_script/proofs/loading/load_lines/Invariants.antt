use Rattle.std.proofs.Common.{◌≡◌, ◌≤◌, ◌+◌, length}
use Rattle.aql_script.specs.Pieces.{pieces}
use Rattle.aql_script.specs.Lines.{read}
use Rattle.aql_script.specs.LineEffects.{line_effect}
use Rattle.aql_script.specs.Script.{lines}
use Rattle.aql_script.proofs.loading.load_lines.Given as goal

-- each line has a byte at least, and the rest goes on to what the whole is
abbrev pub invariant-lines : goal.invariant-lines
invariant-lines l =
    (l.line + length l.rest ≤ length l.bytes)
    × (read line_effect l.line l.catalog (pieces 10 l.rest) ≡ lines l.bytes)

abbrev pub decreases-lines : goal.decreases-lines
decreases-lines l = length l.rest
