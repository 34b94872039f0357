use Rattle.std.proofs.Common.{map, ℕ, Bool, List, rules, arith}
use Rattle.std.proofs.lemmas.Grind.{common_steps}
use Rattle.aql_tree.specs.View.{clause_tree}
use Rattle.aql_tree.specs.Tree.{ClauseTree}
use Rattle.aql_grammar.specs.Kinds.{Tokens}
use Rattle.aql_grammar.specs.Input.{Outcome}
use Rattle.aql_grammar.specs.Reader.{expr, clauses, clauses_from}
use Rattle.aql_grammar.specs.laws.Turns.{one_more, no_more}
use Rattle.aql_parse.proofs.parser.Parser.clauses.Goals as goal

-- what is read in the turns that are left
abbrev rest : ℕ → Bool → List ClauseTree → Tokens → ℕ → Outcome (List ClauseTree)
rest depth inside found tokens turns = clauses_from (expr depth) inside turns found tokens

pub loop-turn-init : goal.loop-turn-init
unfolding clauses
loop-turn-init g c = first_of (search rules, grind (arith, common_steps))

pub returns-then-not-begins_clause : goal.returns-then-not-begins_clause
unfolding clauses_from
returns-then-not-begins_clause g c =
    let e = one_more (rest c.args.self.now.depth c.args.self.now.inside (map clause_tree c.loop-turn.found)
    c.loop-turn.tokens) c.remaining-turn-end.result c.loop-turn._turn (omega arith) c.loop-turn.invariant in
    first_of (search rules, grind (arith, common_steps))

pub returns-in_err-found : goal.returns-in_err-found
unfolding clauses_from
returns-in_err-found g c =
    let e = one_more (rest c.args.self.now.depth c.args.self.now.inside (map clause_tree c.loop-turn.found)
    c.loop-turn.tokens) c.remaining-turn-end.result c.loop-turn._turn (omega arith) c.loop-turn.invariant in
    first_of (search rules, grind (arith, common_steps))

pub loop-turn-preserved : goal.loop-turn-preserved
unfolding clauses_from
loop-turn-preserved g c =
    let e = one_more (rest c.args.self.now.depth c.args.self.now.inside (map clause_tree c.loop-turn.found)
    c.loop-turn.tokens) c.remaining-turn-end.result c.loop-turn._turn (omega arith) c.loop-turn.invariant in
    first_of (search rules, grind (arith, common_steps))

pub returns : goal.returns
unfolding clauses_from
returns g c =
    let e = no_more (rest c.args.self.now.depth c.args.self.now.inside (map clause_tree c.loop-turn.found)
    c.loop-turn.tokens) c.remaining-turn-end.result c.loop-turn._turn (omega arith) c.loop-turn.invariant in
    first_of (search rules, grind (arith, common_steps))
