use Rattle.std.proofs.Common.{◌≡◌, ◌∙◌, ◌<◌, length, get_or, sym, arith}
use Rattle.std.proofs.lemmas.Bool.{eq-eqb, ne_eqb}
use Rattle.std.proofs.lemmas.List.{get_or_default}
use Rattle.aql_block.proofs.Sought.{register_passed, finds_register, found_register}
use Rattle.aql_block.proofs.blocks.index_of.Goals as goal

pub returns-then-register-var : goal.returns-then-register-var
returns-then-register-var c =
    let xs = c.args.registers.now in
    let i = c.loop-at.at in
    let l : i < length xs = omega arith in
    found_register xs i c.args.var (get_or xs i 0) l (get_or_default xs i 0 (get_or xs i 0) l)
    (eq-eqb _ _ c.if-register-var.true) c.loop-at.invariant.1

pub loop-at-preserved : goal.loop-at-preserved
loop-at-preserved c =
    let xs = c.args.registers.now in
    let i = c.loop-at.at in
    let l : i < length xs = omega arith in (
      sym (register_passed xs i c.args.var (get_or xs i 0) l (get_or_default xs i 0 (get_or xs i 0) l)
          (ne_eqb _ _ c.if-register-var.false))
          ∙ c.loop-at.invariant.0,
      finds_register xs i c.args.var (get_or xs i 0) l (get_or_default xs i 0 (get_or xs i 0) l)
          (ne_eqb _ _ c.if-register-var.false) c.loop-at.invariant.1,
    )
