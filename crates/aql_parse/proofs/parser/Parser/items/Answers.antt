use Rattle.std.proofs.Common.{map, ℕ, Bool, List, rules, arith}
use Rattle.std.proofs.lemmas.Grind.{common_steps}
use Rattle.aql_tree.specs.View.{tree}
use Rattle.aql_tree.specs.Tree.{ExprTree}
use Rattle.aql_grammar.specs.Kinds.{Tokens}
use Rattle.aql_lex.specs.declared.vocabulary.Symbol.TheVariants as s
use Rattle.aql_grammar.specs.Input.{Outcome, items, items_from}
use Rattle.aql_grammar.specs.Reader.{expr}
use Rattle.aql_grammar.specs.laws.Turns.{one_more, no_more}
use Rattle.aql_parse.proofs.parser.Parser.items.Goals as goal

-- what is read in the turns that are left
abbrev rest : ℕ → Bool → List ExprTree → Tokens → ℕ → Outcome (List ExprTree)
rest depth inside found tokens turns = items_from s.CloseBracket (expr depth inside) turns found tokens

pub loop-turn-init : goal.loop-turn-init
unfolding items
loop-turn-init g c = first_of (search rules, grind (arith, common_steps))

pub returns-then-eat : goal.returns-then-eat
unfolding items_from
returns-then-eat g c =
    let e = one_more (rest c.args.self.now.depth c.args.self.now.inside (map tree c.loop-turn.found)
    c.loop-turn.tokens) c.remaining-turn-end.result c.loop-turn._turn (omega arith) c.loop-turn.invariant in
    first_of (search rules, grind (arith, common_steps))

pub returns-in_err-expr : goal.returns-in_err-expr
unfolding items_from
returns-in_err-expr g c =
    let e = one_more (rest c.args.self.now.depth c.args.self.now.inside (map tree c.loop-turn.found)
    c.loop-turn.tokens) c.remaining-turn-end.result c.loop-turn._turn (omega arith) c.loop-turn.invariant in
    first_of (search rules, grind (arith, common_steps))

pub returns-in_err-expect : goal.returns-in_err-expect
unfolding items_from
returns-in_err-expect g c =
    let e = one_more (rest c.args.self.now.depth c.args.self.now.inside (map tree c.loop-turn.found)
    c.loop-turn.tokens) c.remaining-turn-end.result c.loop-turn._turn (omega arith) c.loop-turn.invariant in
    first_of (search rules, grind (arith, common_steps))

pub returns-then-not-eat : goal.returns-then-not-eat
unfolding items_from
returns-then-not-eat g c =
    let e = one_more (rest c.args.self.now.depth c.args.self.now.inside (map tree c.loop-turn.found)
    c.loop-turn.tokens) c.remaining-turn-end.result c.loop-turn._turn (omega arith) c.loop-turn.invariant in
    first_of (search rules, grind (arith, common_steps))

pub loop-turn-preserved : goal.loop-turn-preserved
unfolding items_from
loop-turn-preserved g c =
    let e = one_more (rest c.args.self.now.depth c.args.self.now.inside (map tree c.loop-turn.found)
    c.loop-turn.tokens) c.remaining-turn-end.result c.loop-turn._turn (omega arith) c.loop-turn.invariant in
    first_of (search rules, grind (arith, common_steps))

pub returns : goal.returns
unfolding items_from
returns g c =
    let e = no_more (rest c.args.self.now.depth c.args.self.now.inside (map tree c.loop-turn.found)
    c.loop-turn.tokens) c.remaining-turn-end.result c.loop-turn._turn (omega arith) c.loop-turn.invariant in
    first_of (search rules, grind (arith, common_steps))
