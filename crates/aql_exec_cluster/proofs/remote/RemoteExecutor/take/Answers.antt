use Rattle.std.proofs.Common.{◌≡◌, ◌+◌, ◌++◌, length, ap, subst, arith}
use Rattle.aql_block.specs.Tables.{rows_of}
use Rattle.aql_exec.specs.laws.Telling.{only_input}
use Rattle.aql_exec_cluster.specs.Remotes.{on_link, replied, due, AtStage}
use Rattle.aql_exec_cluster.proofs.Linking.{took_rows, took_kept}
use Rattle.aql_exec_cluster.proofs.Stages.{serving_ask}
use Rattle.aql_exec_cluster.proofs.remote.RemoteExecutor.take.Goals as goal

pub returns-clause-leads : goal.returns-clause-leads
returns-clause-leads g c e w p body d s0 s ins' ins t b r l0 l1 a e' e0 others ends h =
    let me = c.args.self.now in
    let first = only_input c.args._input c.requires.input in
    let asked = rw first at c.requires.asked.1 in
    let skipped = c.requires.asked.2.skipped in
    let offset = asked.is_ask.offset in
    let block = rows_of c.args.step.block in
    let batch = g.W.Surroundings.batch c.requires.valid.0 in
    let line = on_link me.link (g.W.Surroundings.flight c.requires.valid.0) in
    let served = subst
    (λ z. AtStage batch z me.done me.ended me.ready (rows_of me.held) (rows_of me.answer) line)
    (serving_ask me.stage asked.served asked.serves) c.requires.valid.1.stage in
    let none = served.unready asked.not_ready in
    let fl = replied (on_link me.link (g.W.Surroundings.flight w)).flying in
    let count : length block ≡ length (rows_of me.answer) + length block =
    (let n = ap length none in omega (arith, n)) in
    took_rows (due me) (record (due me) { unsent = length block })
    (rows_of me.held ++ (fl ++ rows_of me.answer)) (rows_of me.held ++ (fl ++ block)) block
    p d s0 s (ins' 0) (ins 0) t b r
    (took_kept (rows_of me.held) fl (rows_of me.answer) block none)
    (ap (λ n. record (due me) { unsent = n }) count) l0
    (omega (arith, l1, skipped, offset)) a (rw first at e') (rw first at e0) h
