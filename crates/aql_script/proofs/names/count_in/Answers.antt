use Rattle.aql_script.proofs.NamesOn.{one_digit}
use Rattle.aql_script.proofs.names.count_in.Goals as goal

pub loop-b-preserved : goal.loop-b-preserved
loop-b-preserved c =
    one_digit c.loop-b.count _ _ c.args.digits.now c.loop-b.b-index c.loop-b-test.true
    c.count_with-next.ensures c.loop-b.invariant.1
