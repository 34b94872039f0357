use Rattle.std.proofs.Common.{◌≡◌, drop}
use Rattle.aql_tree.specs.declared.syntax.Ident.TheVariants.{Num}
use Rattle.aql_block.specs.Rows.{is_among}
use Rattle.aql_block.proofs.Sought.{FindsRegister}
use Rattle.aql_block.proofs.blocks.index_of.Given as goal

abbrev pub invariant-loop-at : goal.invariant-loop-at
invariant-loop-at l =
    (is_among (drop l.at l.registers) (Num l.var) ≡ is_among l.registers (Num l.var))
    × FindsRegister l.var l.registers l.at
