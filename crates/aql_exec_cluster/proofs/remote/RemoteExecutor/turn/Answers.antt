use Rattle.std.proofs.Common.{[], inr, length, refl, sym, ap, ◌∙◌}
use Rattle.aql_block.specs.Tables.{rows_of}
use Rattle.aql_exec.specs.Counting.{nothing}
use Rattle.aql_exec.specs.Operators.{on_this}
use Rattle.aql_exec.specs.laws.Counted.{rises_none, rises_weaker, prefixed_none}
use Rattle.aql_exec_cluster.specs.Remotes.{on_link, kept, opens, due}
use Rattle.aql_exec_cluster.proofs.Linking.{owes_none, reply_owed, ask_owed, gave_rows, served, beside_kept, beside_given, none_served, not_first, none_given, held_given}
use Rattle.aql_exec_cluster.proofs.remote.RemoteExecutor.turn.Goals as goal

-- no ask is served: nothing comes at port 1

pub returns-in_default-clause-leads : goal.returns-in_default-clause-leads
returns-in_default-clause-leads g c =
    let s = c.args.self.now in
    let k = kept s (on_link s.link (g.W.Surroundings.flight c.args.world.now)).flying in (
      nothing,
      rises_none g.W.Surroundings c.args._tally.now c.args.world.now,
      λ e within body q ins ins' l is ends. served (due s) (due s) k k c.args.port nothing c.nothing.result
          (q 0) (ins' 0) (ins 0) c.if-port-gt0.true
          (owes_none (due s) (due s) refl) (l 0) (is 0)
          c.nothing.ensures.skipped c.nothing.ensures.rows,
    )

pub returns-in_default-clause-other_ports : goal.returns-in_default-clause-other_ports
returns-in_default-clause-other_ports g c =
    let s = c.args.self.now in
    let k = kept s (on_link s.link (g.W.Surroundings.flight c.args.world.now)).flying in (
      nothing,
      rises_none g.W.Surroundings c.args._tally.now c.args.world.now,
      λ e within p body q ins ins' r other port l is ends h. beside_kept (due s) (due s) k k p nothing (q 0)
          (ins' 0) (ins 0) r refl (owes_none (due s) (due s) refl) (l 0)
          (is 0) h,
    )

pub returns-in_default-clause-done : goal.returns-in_default-clause-done
returns-in_default-clause-done g c d =
    let s = c.args.self.now in
    let k = kept s (on_link s.link (g.W.Surroundings.flight c.args.world.now)).flying in
    inr (λ e first within body ins ends r h. (
      none_served (due s) k c.args.port (ins 0) r c.if-port-gt0.true h,
      λ j x. absurd (not_first c.args.port c.if-port-gt0.true (first j x)),
    ))

-- a reply is sent

pub returns-then-self-clause-leads : goal.returns-then-self-clause-leads
returns-then-self-clause-leads g c =
    let s = c.args.self.now in
    let s' = c.reply.new.self in
    let k = kept s (on_link s.link (g.W.Surroundings.flight c.args.world.now)).flying in
    let k' = kept s' (on_link s'.link (g.W.Surroundings.flight c.reply.new.world)).flying in
    let n = length (rows_of s.answer) in
    let sent = c.in_ok-reply.ensures in
    let l = sent.rises.0 in
    let owes = reply_owed s s' l sent.rises.1 sent.same sent.answer in (
      on_this l 0 0 n,
      rises_weaker g.W.Surroundings c.args._tally.now c.args._tally.now c.args.world.now c.reply.new.world
          (on_this l 0 0 n) (λ j x. tt {0}) (sent.rises.2 c.args._tally.now),
      λ e within body q ins ins' lens is ends. served (due s) (due s') k k' c.args.port (on_this l 0 0 n)
          c.nothing-then-self.result (q 0) (ins' 0) (ins 0) c.if-port-gt0.true owes (lens 0) (is 0)
          c.nothing-then-self.ensures.skipped c.nothing-then-self.ensures.rows,
    )

pub returns-then-self-clause-other_ports : goal.returns-then-self-clause-other_ports
returns-then-self-clause-other_ports g c =
    let s = c.args.self.now in
    let s' = c.reply.new.self in
    let k = kept s (on_link s.link (g.W.Surroundings.flight c.args.world.now)).flying in
    let k' = kept s' (on_link s'.link (g.W.Surroundings.flight c.reply.new.world)).flying in
    let n = length (rows_of s.answer) in
    let sent = c.in_ok-reply.ensures in
    let l = sent.rises.0 in
    let owes = reply_owed s s' l sent.rises.1 sent.same sent.answer in (
      on_this l 0 0 n,
      rises_weaker g.W.Surroundings c.args._tally.now c.args._tally.now c.args.world.now c.reply.new.world
          (on_this l 0 0 n) (λ j x. tt {0}) (sent.rises.2 c.args._tally.now),
      λ e within p body q ins ins' r other port lens is ends h. beside_kept (due s) (due s') k k' p
          (on_this l 0 0 n) (q 0) (ins' 0) (ins 0) r sent.kept owes (lens 0) (is 0) h,
    )

-- the input waits

pub returns-then-self-2-clause-leads : goal.returns-then-self-2-clause-leads
returns-then-self-2-clause-leads g c =
    let s = c.args.self.now in
    let k = kept s (on_link s.link (g.W.Surroundings.flight c.args.world.now)).flying in (
      nothing,
      rises_none g.W.Surroundings c.args._tally.now c.args.world.now,
      λ e within body q ins ins' l is ends. served (due s) (due s) k k c.args.port nothing
          c.nothing-then-self-2.result (q 0) (ins' 0) (ins 0) c.if-port-gt0.true
          (owes_none (due s) (due s) refl) (l 0) (is 0)
          c.nothing-then-self-2.ensures.skipped c.nothing-then-self-2.ensures.rows,
    )

pub returns-then-self-2-clause-other_ports : goal.returns-then-self-2-clause-other_ports
returns-then-self-2-clause-other_ports g c =
    let s = c.args.self.now in
    let k = kept s (on_link s.link (g.W.Surroundings.flight c.args.world.now)).flying in (
      nothing,
      rises_none g.W.Surroundings c.args._tally.now c.args.world.now,
      λ e within p body q ins ins' r other port l is ends h. beside_kept (due s) (due s) k k p nothing (q 0)
          (ins' 0) (ins 0) r refl (owes_none (due s) (due s) refl) (l 0)
          (is 0) h,
    )

-- the input is asked

pub returns-then-port-gt0-clause-leads : goal.returns-then-port-gt0-clause-leads
returns-then-port-gt0-clause-leads g c = (
  nothing,
  rises_none g.W.Surroundings c.args._tally.now c.args.world.now,
  λ e within p body ins r ends h. (r, prefixed_none r, h),
)

-- rows that came are given

pub returns-then-len-gt0-clause-leads : goal.returns-then-len-gt0-clause-leads
returns-then-len-gt0-clause-leads g c =
    let s = c.args.self.now in
    let s' = c.give.new.self in
    let f = g.W.Surroundings.flight c.args.world.now in
    let given = c.in_ok-step.ensures in
    let link = ap (λ z. z.link) given.same in
    let answer = ap (λ z. z.answer) given.same in (
      nothing,
      rises_none g.W.Surroundings c.args._tally.now c.args.world.now,
      λ e within body q ins ins' l is ends. gave_rows (due s) (due s') (kept s (on_link s.link f).flying)
          (kept s' (on_link s'.link f).flying) given.rows.0 c.args.port nothing c.in_ok-step.step (q 0)
          (ins' 0) (ins 0) c.if-port-gt0.false
          (owes_none (due s) (due s') (ap due given.same))
          (l 0) (is 0) given.rows.1
          (held_given s s' f given.rows.0 (rows_of c.in_ok-step.step.block) link answer given.rows.2),
    )

pub returns-then-len-gt0-clause-other_ports : goal.returns-then-len-gt0-clause-other_ports
returns-then-len-gt0-clause-other_ports g c =
    let s = c.args.self.now in
    let s' = c.give.new.self in
    let f = g.W.Surroundings.flight c.args.world.now in
    let given = c.in_ok-step.ensures in
    let link = ap (λ z. z.link) given.same in
    let answer = ap (λ z. z.answer) given.same in (
      nothing,
      rises_none g.W.Surroundings c.args._tally.now c.args.world.now,
      λ e within p body q ins ins' r other port l is ends h. beside_given (due s) (due s')
          (kept s (on_link s.link f).flying) (kept s' (on_link s'.link f).flying) p c.args.port nothing
          (q 0) (ins' 0) (ins 0) r c.if-port-gt0.false other
          (owes_none (due s) (due s') (ap due given.same))
          (l 0) (is 0) h,
    )

-- nothing more comes

pub returns-then-self-3-clause-leads : goal.returns-then-self-3-clause-leads
returns-then-self-3-clause-leads g c =
    let s = c.args.self.now in
    let k = kept s (on_link s.link (g.W.Surroundings.flight c.args.world.now)).flying in
    let step = c.nothing-then-self-3.result in (
      nothing,
      rises_none g.W.Surroundings c.args._tally.now c.args.world.now,
      λ e within body q ins ins' l is ends. gave_rows (due s) (due s) k k [] c.args.port nothing step (q 0) (ins' 0) (ins 0) c.if-port-gt0.false
          (owes_none (due s) (due s) refl) (l 0) (is 0)
          (sym c.nothing-then-self-3.ensures.skipped)
          (none_given k (rows_of step.block) c.nothing-then-self-3.ensures.rows),
    )

pub returns-then-self-3-clause-other_ports : goal.returns-then-self-3-clause-other_ports
returns-then-self-3-clause-other_ports g c =
    let s = c.args.self.now in
    let k = kept s (on_link s.link (g.W.Surroundings.flight c.args.world.now)).flying in (
      nothing,
      rises_none g.W.Surroundings c.args._tally.now c.args.world.now,
      λ e within p body q ins ins' r other port l is ends h. beside_kept (due s) (due s) k k p nothing (q 0)
          (ins' 0) (ins 0) r refl (owes_none (due s) (due s) refl) (l 0)
          (is 0) h,
    )

-- an ask is sent

pub returns-in-Idle-clause-leads : goal.returns-in-Idle-clause-leads
returns-in-Idle-clause-leads g c =
    let s = c.args.self.now in
    let s' = c.ask.new.self in
    let k = kept s (on_link s.link (g.W.Surroundings.flight c.args.world.now)).flying in
    let k' = kept s' (on_link s'.link (g.W.Surroundings.flight c.ask.new.world)).flying in
    let sent = c.in_ok-ask.ensures in
    let l = sent.link.0 in
    let step = c.nothing-in-Idle.result in
    let rows = c.nothing-in-Idle.ensures.rows in
    let d = on_this l (opens s.link) 0 0 in (
      d,
      rises_weaker g.W.Surroundings c.args._tally.now c.args._tally.now c.args.world.now c.ask.new.world d
          (λ j x. tt {0}) (sent.rises l sent.link.1 c.args._tally.now),
      λ e within body q ins ins' lens is ends. gave_rows (due s) (due s') k k' [] c.args.port d step
          (q 0) (ins' 0) (ins 0) c.if-port-gt0.false
          (ask_owed s s' l sent.link.1 sent.link.2 (ap (λ z. z.done) sent.same) (ap (λ z. z.answer) sent.same)) (lens 0) (is 0)
          (sym c.nothing-in-Idle.ensures.skipped)
          (sym sent.kept ∙ none_given k' (rows_of step.block) rows),
    )

pub returns-in-Idle-clause-other_ports : goal.returns-in-Idle-clause-other_ports
returns-in-Idle-clause-other_ports g c =
    let s = c.args.self.now in
    let s' = c.ask.new.self in
    let k = kept s (on_link s.link (g.W.Surroundings.flight c.args.world.now)).flying in
    let k' = kept s' (on_link s'.link (g.W.Surroundings.flight c.ask.new.world)).flying in
    let sent = c.in_ok-ask.ensures in
    let l = sent.link.0 in
    let d = on_this l (opens s.link) 0 0 in (
      d,
      rises_weaker g.W.Surroundings c.args._tally.now c.args._tally.now c.args.world.now c.ask.new.world d
          (λ j x. tt {0}) (sent.rises l sent.link.1 c.args._tally.now),
      λ e within p body q ins ins' r other port lens is ends h. beside_kept (due s) (due s') k k' p d
          (q 0) (ins' 0) (ins 0) r sent.kept
          (ask_owed s s' l sent.link.1 sent.link.2 (ap (λ z. z.done) sent.same) (ap (λ z. z.answer) sent.same)) (lens 0) (is 0) h,
    )

-- an ask is out

pub returns-clause-leads : goal.returns-clause-leads
returns-clause-leads g c =
    let s = c.args.self.now in
    let k = kept s (on_link s.link (g.W.Surroundings.flight c.args.world.now)).flying in
    let step = c.nothing-2.result in (
      nothing,
      rises_none g.W.Surroundings c.args._tally.now c.args.world.now,
      λ e within body q ins ins' l is ends. gave_rows (due s) (due s) k k [] c.args.port nothing step (q 0) (ins' 0) (ins 0) c.if-port-gt0.false
          (owes_none (due s) (due s) refl) (l 0) (is 0)
          (sym c.nothing-2.ensures.skipped) (none_given k (rows_of step.block) c.nothing-2.ensures.rows),
    )

pub returns-clause-other_ports : goal.returns-clause-other_ports
returns-clause-other_ports g c =
    let s = c.args.self.now in
    let k = kept s (on_link s.link (g.W.Surroundings.flight c.args.world.now)).flying in (
      nothing,
      rises_none g.W.Surroundings c.args._tally.now c.args.world.now,
      λ e within p body q ins ins' r other port l is ends h. beside_kept (due s) (due s) k k p nothing (q 0)
          (ins' 0) (ins 0) r refl (owes_none (due s) (due s) refl) (l 0)
          (is 0) h,
    )
