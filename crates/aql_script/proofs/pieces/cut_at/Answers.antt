use Rattle.std.proofs.Common.{arith}
use Rattle.std.proofs.lemmas.List.{take_rest}
use Rattle.aql_script.specs.laws.Cuts.{cut_here, cut_none}
use Rattle.aql_script.proofs.pieces.cut_at.Goals as goal

pub returns-in-Some : goal.returns-in-Some
returns-in-Some c =
    let found = c.in-Some.ensures in
    rw take_rest
    (cut_here c.args.at c.args.bytes.now c.in-Some.place found.0.high
    (λ k m. found.0.before k (omega arith) m) found.1)

pub returns-in-None : goal.returns-in-None
returns-in-None c = cut_none c.args.at c.args.bytes.now (λ k m. c.in-None.ensures k (omega arith) m)
