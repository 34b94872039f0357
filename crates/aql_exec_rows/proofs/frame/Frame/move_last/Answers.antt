use Rattle.std.proofs.Common.{◌∙◌, ◌++◌, ◌∷◌, [], map, reverse, ap, sym, subst, append_assoc}
use Rattle.aql_block.specs.Rows.{HasAll, only}
use Rattle.aql_block.specs.Tables.{rows_of}
use Rattle.aql_exec_rows.specs.GroupStates.{finished_of, finished_in}
use Rattle.aql_exec_rows.specs.Framed.{framed}
use Rattle.aql_exec_rows.proofs.Setting.{last_first}
use Rattle.aql_exec_rows.proofs.frame.Frame.move_last.Goals as goal

pub append-requires : goal.append-requires
append-requires c = subst (HasAll c.args.block.now.registers) (sym c.in_ok-row-in-Some.ensures)
    (c.requires.fits (finished_of c.in-Some.last)).0

pub returns-clause-rows : goal.returns-clause-rows
returns-clause-rows c =
    let me = c.args.self.now in
    let registers = c.args.block.now.registers in
    let old = rows_of c.args.block.now in
    let rest = c.pop.new.self.items in
    let left = map (framed me) (reverse (finished_in rest)) in
    let first = last_first me c.args.groups.now.items rest c.in-Some.last c.in-Some.ensures.items in
    let one = ap (only registers) c.in_ok-row-in-Some.ensures ∙ (c.requires.fits (finished_of c.in-Some.last)).1 in
    ap (λ z. z ++ left) (c.in-Ok.ensures.ok ∙ ap (λ row. old ++ row ∷ []) one)
    ∙ append_assoc old (framed me (finished_of c.in-Some.last) ∷ []) left ∙ ap (λ z. old ++ z) (sym first)
