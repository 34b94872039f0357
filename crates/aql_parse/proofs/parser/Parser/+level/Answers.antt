use Rattle.std.proofs.Common.{ℕ, Bool, List, map, ap, rules, arith}
use Rattle.std.proofs.lemmas.Grind.{common_steps}
use Rattle.aql_tree.specs.View.{LinkPart, link_part}
use Rattle.aql_grammar.specs.Kinds.{Tokens}
use Rattle.aql_grammar.specs.Input.{Outcome, many, many_from}
use Rattle.aql_grammar.specs.Reader.{expr, sees_operator, link, operand, level_at, span, comparison_level}
use Rattle.aql_grammar.specs.declared.precedence.Precedence.{Precedence}
use Rattle.aql_grammar.specs.laws.Turns.{one_more, no_more}
use Rattle.aql_parse.proofs.Levels.{chain_level}
use Rattle.aql_parse.proofs.parser.Parser.+level.Goals as goal

-- what is read in the turns that are left
abbrev rest : ℕ → Bool → Precedence → List LinkPart → Tokens → ℕ → Outcome (List LinkPart)
rest depth inside precedence found tokens turns =
    many_from (sees_operator precedence) (link (operand (expr depth) inside precedence)) turns found tokens

pub links-loop-turn-init : goal.links-loop-turn-init
unfolding many
links-loop-turn-init g t c = first_of (search rules, grind (arith, common_steps))

pub links-returns-then-not-sees_operator : goal.links-returns-then-not-sees_operator
unfolding many_from
links-returns-then-not-sees_operator g t c =
    let e = one_more (rest c.args.self.now.depth c.args.self.now.inside c.args.precedence
    (map link_part c.loop-turn.found) c.loop-turn.tokens) _ c.loop-turn._turn
    (omega arith) c.loop-turn.invariant in
    first_of (search rules, grind (arith, common_steps))

pub links-returns-in_err-link : goal.links-returns-in_err-link
unfolding many_from
links-returns-in_err-link g t c =
    let e = one_more (rest c.args.self.now.depth c.args.self.now.inside c.args.precedence
    (map link_part c.loop-turn.found) c.loop-turn.tokens) _ c.loop-turn._turn
    (omega arith) c.loop-turn.invariant in
    first_of (search rules, grind (arith, common_steps))

pub links-loop-turn-preserved : goal.links-loop-turn-preserved
unfolding many_from
links-loop-turn-preserved g t c =
    let e = one_more (rest c.args.self.now.depth c.args.self.now.inside c.args.precedence
    (map link_part c.loop-turn.found) c.loop-turn.tokens) _ c.loop-turn._turn
    (omega arith) c.loop-turn.invariant in
    first_of (search rules, grind (arith, common_steps))

pub links-returns : goal.links-returns
unfolding many_from
links-returns g t c =
    let e = no_more (rest c.args.self.now.depth c.args.self.now.inside c.args.precedence
    (map link_part c.loop-turn.found) c.loop-turn.tokens) _ c.loop-turn._turn
    (omega arith) c.loop-turn.invariant in
    first_of (search rules, grind (arith, common_steps))

pub level-returns-in-Range : goal.level-returns-in-Range
unfolding span
level-returns-in-Range g t c =
    rw (ap
    (λ p. level_at (expr c.args.self.now.depth) c.args.self.now.inside p c.args.tokens.now) c.in-Range.is)
    c.range.ensures

pub level-returns-in-ArrayComparison : goal.level-returns-in-ArrayComparison
unfolding comparison_level
level-returns-in-ArrayComparison g t c =
    rw (ap (λ p. level_at (expr c.args.self.now.depth) c.args.self.now.inside p c.args.tokens.now)
    c.in-ArrayComparison.is) c.array_comparison.ensures

pub level-returns-in_default : goal.level-returns-in_default
level-returns-in_default g t c =
    rw (chain_level (expr c.args.self.now.depth) c.args.self.now.inside c.args.precedence c.args.tokens.now
    c.in_default.not-Range c.in_default.not-ArrayComparison) c.chain.ensures
