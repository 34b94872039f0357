use Rattle.std.proofs.Common.{arith}
use Rattle.aql_engine.proofs.Running.{rows_pushed, no_rows}
use Rattle.aql_engine.proofs.run.keep.Goals as goal

pub returns-then-len-eq0 : goal.returns-then-len-eq0
returns-then-len-eq0 c = no_rows c.args.blocks.now.items c.args.block (omega (arith, c.len.ensures))

pub returns : goal.returns
returns c = rw c.in_ok-push.ensures.items (rows_pushed c.args.blocks.now.items c.args.block)
