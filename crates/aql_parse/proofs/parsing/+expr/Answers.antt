use Rattle.std.proofs.Common.{◌≡◌, ap, arith}
use Rattle.aql_grammar.specs.Reader.{expr}
use Rattle.aql_grammar.specs.laws.Turns.{deeper}
use Rattle.aql_parse.proofs.parsing.+expr.Goals as goal

pub returns-then-depth-eq0 : goal.returns-then-depth-eq0
unfolding expr
returns-then-depth-eq0 t c =
    let none : c.args.depth ≡ 0 = omega arith in
    ap (λ n. expr n c.args.inside c.args.tokens.now) none

pub returns : goal.returns
unfolding expr
returns t c =
    rw (deeper (λ n. expr n c.args.inside c.args.tokens.now) c.args.depth (omega arith)) c.conditional.ensures
