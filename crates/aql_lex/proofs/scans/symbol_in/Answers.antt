use Rattle.aql_lex.proofs.Tables.{symbol_none, symbol_found}
use Rattle.aql_lex.proofs.scans.symbol_in.Goals as goal

pub returns-in-Some-clause-longest : goal.returns-in-Some-clause-longest
returns-in-Some-clause-longest c =
    let found = c.in-Some.ensures.cases in
    symbol_found c.args.lines.now c.requires.table c.args.text.now c.requires.order _ _ _ _
    c.loop-spelling-test.true c.loop-spelling.invariant found.1.1 found.2

pub returns-clause-longest : goal.returns-clause-longest
returns-clause-longest c = symbol_none c.args.lines.now c.requires.table c.args.text.now _
    c.loop-spelling-test.false c.loop-spelling.invariant
