use Rattle.std.proofs.Common.{map, ℕ, Bool, List, rules, arith}
use Rattle.std.proofs.lemmas.Grind.{common_steps}
use Rattle.aql_tree.specs.View.{StepPart, step_part}
use Rattle.aql_grammar.specs.Kinds.{Tokens}
use Rattle.aql_grammar.specs.Input.{Outcome, many, many_from, at_front}
use Rattle.aql_grammar.specs.Reader.{expr, step, begins_step}
use Rattle.aql_grammar.specs.laws.Turns.{one_more, no_more}
use Rattle.aql_parse.proofs.parser.Parser.steps.Goals as goal

-- what is read in the turns that are left
abbrev rest : ℕ → Bool → List StepPart → Tokens → ℕ → Outcome (List StepPart)
rest depth inside found tokens turns =
    many_from (at_front begins_step) (step (expr depth) inside) turns found tokens

pub loop-turn-init : goal.loop-turn-init
unfolding many
loop-turn-init g c = first_of (search rules, grind (arith, common_steps))

pub returns-then-not-begins_step : goal.returns-then-not-begins_step
unfolding many_from
returns-then-not-begins_step g c =
    let e = one_more (rest c.args.self.now.depth c.args.self.now.inside (map step_part c.loop-turn.found)
    c.loop-turn.tokens) c.remaining-turn-end.result c.loop-turn._turn (omega arith) c.loop-turn.invariant in
    first_of (search rules, grind (arith, common_steps))

pub returns-in_err-step : goal.returns-in_err-step
unfolding many_from
returns-in_err-step g c =
    let e = one_more (rest c.args.self.now.depth c.args.self.now.inside (map step_part c.loop-turn.found)
    c.loop-turn.tokens) c.remaining-turn-end.result c.loop-turn._turn (omega arith) c.loop-turn.invariant in
    first_of (search rules, grind (arith, common_steps))

pub loop-turn-preserved : goal.loop-turn-preserved
unfolding many_from
loop-turn-preserved g c =
    let e = one_more (rest c.args.self.now.depth c.args.self.now.inside (map step_part c.loop-turn.found)
    c.loop-turn.tokens) c.remaining-turn-end.result c.loop-turn._turn (omega arith) c.loop-turn.invariant in
    first_of (search rules, grind (arith, common_steps))

pub returns : goal.returns
unfolding many_from
returns g c =
    let e = no_more (rest c.args.self.now.depth c.args.self.now.inside (map step_part c.loop-turn.found)
    c.loop-turn.tokens) c.remaining-turn-end.result c.loop-turn._turn (omega arith) c.loop-turn.invariant in
    first_of (search rules, grind (arith, common_steps))
