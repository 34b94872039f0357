use Rattle.std.proofs.Common.{◌≡◌, ◌+◌, ◌*◌, ◌<◌, ◌≤◌, List, length, ap, sym, subst, arith}
use Rattle.std.specs.Prelude.{slice_set}
use Rattle.std.proofs.lemmas.List.{length-set}
use Rattle.aql_plan.specs.View.{directions, key_trees}
use Rattle.aql_block.specs.Tables.{rows_of}
use Rattle.aql_exec.specs.Steps.{reported, unless_waiting}
use Rattle.aql_exec_cluster.specs.declared.queue.Queue.{Queue}
use Rattle.aql_exec_cluster.specs.Standing.{count_going}
use Rattle.aql_exec_cluster.specs.Queues.{count_left}
use Rattle.aql_exec_cluster.specs.SortedGathering.{gives_sorted}
use Rattle.aql_exec_cluster.specs.laws.Places.{said_of_some, of_some}
use Rattle.aql_exec_cluster.specs.laws.Taking.{taken_step}
use Rattle.aql_exec_cluster.proofs.Stands.{going_set, taken_budget}
use Rattle.aql_exec_cluster.proofs.Sorted.{sorted_taken, count_set}
use Rattle.aql_exec_cluster.proofs.sorted_gather.SortedGatherExecutor.take.Goals as goal

pub returns-clause-leads : goal.returns-clause-leads
returns-clause-leads g c =
    let me = c.args.self.now in
    let ds = directions me.keys in
    let es = key_trees me.keys in
    let inputs = me.inputs.progress.items in
    let n = length inputs in
    let k = c.args.input in
    let rows = rows_of c.args.step.block in
    let test = c.if-input-len.false in
    let len = c.len.ensures in
    let l : k < n = omega (arith, test, len) in
    let asked = said_of_some n k _ l c.requires.asked in
    let skipped = asked.2.skipped in
    let offset = asked.1.0.0.0 in
    of_some n _ (λ some v w p body d s0 s ins' ins t b r l0 l1 a e' e os ends h.
    sorted_taken ds es n k me.queues.list.items c.in_ok-queue.queue rows d ins' ins r l
    (c.requires.valid.1.count) asked.1.1 c.in_ok-queue.ensures.rows
    (taken_step rows s0 s d (ins' k) (ins k) t b l0 (omega (arith, l1, skipped, offset)) a e' e) os
    (subst (λ (z : List Queue). gives_sorted ds es n z ins' r) c.put.ensures
    (subst (λ z. gives_sorted ds es z c.put.new.self.list.items ins' r)
    (length-set inputs k c.args.step.progress) h)))

pub returns-clause-budget : goal.returns-clause-budget
returns-clause-budget g c =
    let me = c.args.self.now in
    let inputs = me.inputs.progress.items in
    let queues = me.queues.list.items in
    let n = length inputs in
    let k = c.args.input in
    let rows = rows_of c.args.step.block in
    let progress = c.args.step.progress in
    let test = c.if-input-len.false in
    let len = c.len.ensures in
    let l : k < n = omega (arith, test, len) in
    let asked = said_of_some n k _ l c.requires.asked in
    let within : k < length queues = subst (λ z. k < z) c.requires.valid.1.count l in
    let s = count_set queues k c.in_ok-queue.queue within in
    let none = ap length asked.1.1 in
    let came = ap length c.in_ok-queue.ensures.rows in
    let more : count_left (slice_set queues k c.in_ok-queue.queue) ≡ count_left queues + length rows =
    omega (arith, s, none, came) in
    of_some n _ (λ some w f.
    subst (λ (z : List Queue). (count_left z + count_going (slice_set inputs k progress)) + unless_waiting
    progress
    ≤ (count_left queues + count_going inputs) + 2 * reported c.args.step) (sym c.put.ensures)
    (taken_budget progress (count_left queues) _ (length rows) (count_going inputs) _ (reported c.args.step)
    more
    (going_set inputs k progress l asked.1.0.2) (omega arith) c.requires.more))
