use Rattle.std.proofs.Common.{◌≡◌, take}
use Rattle.aql_block.proofs.blocks.copy_registers.Given as goal

abbrev pub invariant-loop-register : goal.invariant-loop-register
invariant-loop-register l = l.own.items ≡ take l.register-index l.registers
