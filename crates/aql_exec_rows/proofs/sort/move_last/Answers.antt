use Rattle.std.proofs.Common.{◌∙◌, ◌∷◌, [], ap, sym, subst}
use Rattle.std.specs.Prelude.{option_to_list}
use Rattle.std.proofs.lemmas.List.{map-append}
use Rattle.aql_block.specs.Rows.{row_of, HasAll}
use Rattle.aql_exec_rows.specs.Keys.{keyed_of, keyed_in}
use Rattle.aql_exec_rows.proofs.Keyings.{last_has, rest_have}
use Rattle.aql_exec_rows.proofs.sort.move_last.Goals as goal

pub append-requires : goal.append-requires
append-requires c =
    let rest = c.pop.new.self.items in
    let e = ap keyed_in c.in-Some.ensures.items ∙ map-append keyed_of rest (c.in-Some.last ∷ []) in
    let h = last_has c.args.block.now.registers (keyed_in c.args.held.now.items) (keyed_in rest)
    (keyed_of c.in-Some.last) e c.requires.alike in
    subst (λ z. HasAll c.args.block.now.registers (row_of z)) (sym c.into_row.ensures) h.1.0

pub returns-clause-alike : goal.returns-clause-alike
returns-clause-alike c =
    let rest = c.pop.new.self.items in
    let last = option_to_list c.pop.result in
    rest_have c.args.block.now.registers (keyed_in c.args.held.now.items) (keyed_in rest) (keyed_in last)
    (ap keyed_in c.pop.ensures.items ∙ map-append keyed_of rest last) c.requires.alike
