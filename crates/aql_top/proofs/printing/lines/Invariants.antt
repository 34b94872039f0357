use Rattle.std.proofs.Common.{◌≡◌, take}
use Rattle.aql_value.specs.View.{datums_in}
use Rattle.aql_top.specs.Forms.{answer_text}
use Rattle.aql_top.proofs.printing.lines.Given as goal

-- the lines of the values so far
abbrev pub invariant-loop-value : goal.invariant-loop-value
invariant-loop-value l = l.text.items ≡ answer_text (datums_in (take l.value-index l.value-items))
