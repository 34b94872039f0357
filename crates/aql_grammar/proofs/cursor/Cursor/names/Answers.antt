use Rattle.std.proofs.Common.{rules, arith}
use Rattle.std.proofs.lemmas.Grind.{common_steps}
use Rattle.aql_grammar.specs.Input.{name, comma_list_from}
use Rattle.aql_grammar.specs.laws.Turns.{one_more}
use Rattle.aql_grammar.proofs.cursor.Cursor.names.Goals as goal

pub loop-turn-preserved : goal.loop-turn-preserved
unfolding comma_list_from
loop-turn-preserved c =
    let e = one_more
    (λ n. comma_list_from name n c.loop-turn.found c.loop-turn.self) c.remaining-turn-end.result
    c.loop-turn._turn (omega arith) c.loop-turn.invariant in
    first_of (search rules, grind (arith, common_steps))
