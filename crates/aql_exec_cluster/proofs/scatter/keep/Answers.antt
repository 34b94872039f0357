use Rattle.std.proofs.Common.{◌∙◌, ◌++◌, append-nil, sym, ap, arith}
use Rattle.std.proofs.lemmas.List.{nil_from_length}
use Rattle.aql_block.specs.Tables.{rows_of}
use Rattle.aql_engine.specs.Run.{rows_in}
use Rattle.aql_exec_cluster.proofs.Scattered.{rows_push}
use Rattle.aql_exec_cluster.proofs.scatter.keep.Goals as goal

pub returns-then-len-eq0 : goal.returns-then-len-eq0
returns-then-len-eq0 c =
    let kept = rows_in c.args.kept.now in
    let zero = c.if-len-eq0.true in
    let len = c.len.ensures in
    let none = nil_from_length (rows_of c.args.block) (omega (arith, zero, len)) in
    sym (ap (λ z. kept ++ z) none ∙ append-nil kept)

pub returns : goal.returns
returns c = ap rows_in c.in_ok-push.ensures.ok ∙ rows_push c.args.kept.now c.args.block
