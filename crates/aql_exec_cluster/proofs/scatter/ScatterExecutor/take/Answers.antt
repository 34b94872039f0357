use Rattle.std.proofs.Common.{◌∙◌, ◌+◌, ◌*◌, ◌≤◌, length, length-append, Some, ap, sym, subst, arith}
use Rattle.aql_block.specs.Tables.{rows_of}
use Rattle.aql_exec.specs.Steps.{unless_waiting, reported}
use Rattle.aql_exec.specs.laws.Telling.{only_input}
use Rattle.aql_engine.specs.Run.{rows_in}
use Rattle.aql_exec_cluster.specs.Ports.{count_ports}
use Rattle.aql_exec_cluster.specs.Scattering.{port_rows, budget_scatter}
use Rattle.aql_exec_cluster.specs.laws.Taking.{taken_step}
use Rattle.aql_exec_cluster.proofs.Scattered.{kept_more, filled_more, scattered, budget_of_kept, budget_of_filled}
use Rattle.aql_exec_cluster.proofs.scatter.ScatterExecutor.take.Goals as goal

pub returns-in-Waiting-clause-leads : goal.returns-in-Waiting-clause-leads
returns-in-Waiting-clause-leads g c v w p body d s0 s ins' ins t b r l0 l1 a e' e os ends h =
    let me = c.args.self.now in
    let first = only_input c.args._input c.requires.input in
    let asked = rw first at c.requires.asked.1 in
    let skipped = c.requires.asked.2.skipped in
    let offset = asked.0.0 in
    let rows = rows_of c.args.step.block in
    scattered me.coll me.routing (g.W.Surroundings.stock w) me.shards.items p (port_rows me.kept me.filled) (port_rows c.keep.new.kept me.filled)
    rows d
    ins' ins r (kept_more me.kept c.keep.new.kept me.filled rows asked.1 c.in_ok-keep.ensures)
    (taken_step rows s0 s d (ins' 0) (ins 0) t b l0 (omega (arith, l1, skipped, offset)) a (rw first at e')
    (rw first at e)) h

pub returns-in-HasMore-clause-leads : goal.returns-in-HasMore-clause-leads
returns-in-HasMore-clause-leads g c v w p body d s0 s ins' ins t b r l0 l1 a e' e os ends h =
    let me = c.args.self.now in
    let first = only_input c.args._input c.requires.input in
    let asked = rw first at c.requires.asked.1 in
    let skipped = c.requires.asked.2.skipped in
    let offset = asked.0.0 in
    let rows = rows_of c.args.step.block in
    scattered me.coll me.routing (g.W.Surroundings.stock w) me.shards.items p (port_rows me.kept me.filled) (port_rows c.keep.new.kept me.filled)
    rows d
    ins' ins r (kept_more me.kept c.keep.new.kept me.filled rows asked.1 c.in_ok-keep.ensures)
    (taken_step rows s0 s d (ins' 0) (ins 0) t b l0 (omega (arith, l1, skipped, offset)) a (rw first at e')
    (rw first at e)) h

pub returns-in_ok-new-in-Done-clause-leads : goal.returns-in_ok-new-in-Done-clause-leads
returns-in_ok-new-in-Done-clause-leads g c v w p body d s0 s ins' ins t b r l0 l1 a e' e os ends h =
    let me = c.args.self.now in
    let first = only_input c.args._input c.requires.input in
    let asked = rw first at c.requires.asked.1 in
    let skipped = c.requires.asked.2.skipped in
    let offset = asked.0.0 in
    let rows = rows_of c.args.step.block in
    let filled = c.in_ok-new-in-Done.field-0 in
    scattered me.coll me.routing (g.W.Surroundings.stock w) me.shards.items p (port_rows me.kept me.filled) (port_rows c.replace-blocks.new.dest
    (Some filled))
    rows d ins' ins r (filled_more me.kept c.replace-blocks.new.dest me.filled filled rows asked.1
    (λ q. c.in_ok-new-in-Done.ensures.start q ∙ ap rows_in c.replace-blocks.ensures.value ∙
    c.in_ok-keep.ensures))
    (taken_step rows s0 s d (ins' 0) (ins 0) t b l0 (omega (arith, l1, skipped, offset)) a (rw first at e')
    (rw first at e)) h

pub returns-in-Waiting-clause-budget : goal.returns-in-Waiting-clause-budget
returns-in-Waiting-clause-budget g c w f =
    let me = c.args.self.now in
    let n = length me.shards.items in
    let first = only_input c.args._input c.requires.input in
    let asked = rw first at c.requires.asked.1 in
    let rows = rows_of c.args.step.block in
    let came = ap length c.in_ok-keep.ensures ∙ length-append (rows_in me.kept) rows in
    subst (λ z. budget_scatter n c.keep.new.kept me.filled + unless_waiting z
    ≤ budget_scatter n me.kept me.filled + (n + 1) * reported c.args.step) (sym c.in-Waiting.is)
    (budget_of_kept n me.kept c.keep.new.kept me.filled (length rows) (reported c.args.step) _ asked.1 came
    (omega arith) (omega arith))

pub returns-in-HasMore-clause-budget : goal.returns-in-HasMore-clause-budget
returns-in-HasMore-clause-budget g c w f =
    let me = c.args.self.now in
    let n = length me.shards.items in
    let first = only_input c.args._input c.requires.input in
    let asked = rw first at c.requires.asked.1 in
    let rows = rows_of c.args.step.block in
    let came = ap length c.in_ok-keep.ensures ∙ length-append (rows_in me.kept) rows in
    subst (λ z. budget_scatter n c.keep.new.kept me.filled + unless_waiting z
    ≤ budget_scatter n me.kept me.filled + (n + 1) * reported c.args.step) (sym c.in-HasMore.is)
    (budget_of_kept n me.kept c.keep.new.kept me.filled (length rows) (reported c.args.step) _ asked.1 came
    (omega arith) (c.requires.more c.in-HasMore.is))

pub returns-in_ok-new-in-Done-clause-budget : goal.returns-in_ok-new-in-Done-clause-budget
returns-in_ok-new-in-Done-clause-budget g c w f =
    let me = c.args.self.now in
    let n = length me.shards.items in
    let first = only_input c.args._input c.requires.input in
    let asked = rw first at c.requires.asked.1 in
    let rows = rows_of c.args.step.block in
    let filled = c.in_ok-new-in-Done.field-0 in
    let count = count_ports filled.blocks.value filled.places.items in
    let came = ap (λ z. length (rows_in z)) c.replace-blocks.ensures.value ∙ ap length c.in_ok-keep.ensures
    ∙ length-append (rows_in me.kept) rows in
    subst (λ z. count + unless_waiting z ≤ budget_scatter n me.kept me.filled + (n + 1) * reported
    c.args.step)
    (sym c.in-Done.is)
    (budget_of_filled n c.len.result me.kept me.filled count (length (rows_in c.replace-blocks.result))
    (length rows)
    (reported c.args.step) asked.1 came (omega arith) (c.len.ensures ∙ me.shards.ok.0)
    c.in_ok-new-in-Done.ensures.rows)
