use Rattle.std.proofs.Common.{map, ℕ, Bool, List, rules, arith}
use Rattle.std.proofs.lemmas.Grind.{common_steps}
use Rattle.aql_tree.specs.View.{AggregatePart, aggregate_part}
use Rattle.aql_grammar.specs.Kinds.{Tokens}
use Rattle.aql_grammar.specs.Input.{Outcome, comma_list_onto, comma_list_from}
use Rattle.aql_grammar.specs.Reader.{expr, aggregate}
use Rattle.aql_grammar.specs.laws.Turns.{one_more, no_more}
use Rattle.aql_parse.proofs.parser.Parser.aggregate_list.Goals as goal

-- what is read in the turns that are left
abbrev rest : ℕ → Bool → List AggregatePart → Tokens → ℕ → Outcome (List AggregatePart)
rest depth inside found tokens turns = comma_list_from (aggregate (expr depth) inside) turns found tokens

pub loop-turn-init : goal.loop-turn-init
unfolding comma_list_onto
loop-turn-init g c = first_of (search rules, grind (arith, common_steps))

pub returns-in_err-aggregate : goal.returns-in_err-aggregate
unfolding comma_list_from
returns-in_err-aggregate g c =
    let e = one_more (rest c.args.self.now.depth c.args.self.now.inside (map aggregate_part c.loop-turn.found)
    c.loop-turn.tokens) c.remaining-turn-end.result c.loop-turn._turn (omega arith) c.loop-turn.invariant in
    first_of (search rules, grind (arith, common_steps))

pub returns-then-not-eat : goal.returns-then-not-eat
unfolding comma_list_from
returns-then-not-eat g c =
    let e = one_more (rest c.args.self.now.depth c.args.self.now.inside (map aggregate_part c.loop-turn.found)
    c.loop-turn.tokens) c.remaining-turn-end.result c.loop-turn._turn (omega arith) c.loop-turn.invariant in
    first_of (search rules, grind (arith, common_steps))

pub loop-turn-preserved : goal.loop-turn-preserved
unfolding comma_list_from
loop-turn-preserved g c =
    let e = one_more (rest c.args.self.now.depth c.args.self.now.inside (map aggregate_part c.loop-turn.found)
    c.loop-turn.tokens) c.remaining-turn-end.result c.loop-turn._turn (omega arith) c.loop-turn.invariant in
    first_of (search rules, grind (arith, common_steps))

pub returns : goal.returns
unfolding comma_list_from
returns g c =
    let e = no_more (rest c.args.self.now.depth c.args.self.now.inside (map aggregate_part c.loop-turn.found)
    c.loop-turn.tokens) c.remaining-turn-end.result c.loop-turn._turn (omega arith) c.loop-turn.invariant in
    first_of (search rules, grind (arith, common_steps))
