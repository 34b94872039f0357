use Rattle.std.proofs.Common.{◌≡◌, ap, rules, arith}
use Rattle.std.proofs.lemmas.Grind.{common_steps}
use Rattle.aql_grammar.specs.Reader.{expr, unary_from}
use Rattle.aql_grammar.specs.laws.Turns.{deeper}
use Rattle.aql_parse.proofs.parser.Parser.+unary_from.Goals as goal

pub returns-then-turns-eq0 : goal.returns-then-turns-eq0
unfolding unary_from
returns-then-turns-eq0 g t c =
    let none : c.args.turns ≡ 0 = omega arith in
    ap (λ n. unary_from (expr c.args.self.now.depth) c.args.self.now.inside n c.args.tokens.now) none

pub returns-in_err-of-in-Some : goal.returns-in_err-of-in-Some
unfolding unary_from
returns-in_err-of-in-Some g t c =
    let e = deeper (λ n. unary_from (expr c.args.self.now.depth) c.args.self.now.inside n c.args.tokens.now)
    c.args.turns (omega arith) in
    first_of (search rules, grind (arith, common_steps))

pub returns-in-None : goal.returns-in-None
unfolding unary_from
returns-in-None g t c =
    let e = deeper (λ n. unary_from (expr c.args.self.now.depth) c.args.self.now.inside n c.args.tokens.now)
    c.args.turns (omega arith) in
    first_of (search rules, grind (arith, common_steps))

pub returns-in_ok-unary-in-Some : goal.returns-in_ok-unary-in-Some
unfolding unary_from
returns-in_ok-unary-in-Some g t c =
    let e = deeper (λ n. unary_from (expr c.args.self.now.depth) c.args.self.now.inside n c.args.tokens.now)
    c.args.turns (omega arith) in
    first_of (search rules, grind (arith, common_steps))
