use Rattle.std.proofs.Common.{◌<◌, ◌++◌, cond, sym, ap, subst, ◌∙◌, arith}
use Rattle.aql_block.specs.Tables.{rows_of}
use Rattle.aql_exec.specs.Counting.{nothing}
use Rattle.aql_exec.specs.Operators.{on_this}
use Rattle.aql_exec.specs.Lines.{answered, opened_by, closed_by}
use Rattle.aql_exec.specs.laws.Counted.{rises_taken, prefixed_none, unclosed}
use Rattle.aql_exec_cluster.specs.Remotes.{opens, due}
use Rattle.aql_exec_cluster.proofs.Sending.{closed_now, rises_here}
use Rattle.aql_exec_cluster.proofs.Linking.{reply_taken, came_on, same_rest, same_budget}
use Rattle.aql_exec_cluster.proofs.Stages.{took_ask, took_reply, took_last, still_open}
use Rattle.aql_exec_cluster.proofs.remote.RemoteWired.deliver.Goals as goal

pub returns-in-Ask-clause-valid : goal.returns-in-Ask-clause-valid
returns-in-Ask-clause-valid g c own =
    let s = c.args.self.now in
    let p = g.W.Surroundings in
    let w = c.requires.taken.0 in
    let v = c.requires.taken.1 in
    let k = c.requires.taken.2 in
    record {
      stage = (took_ask p s w c.args._world.now c.args._link c.args.message k own v.stage
          c.in-Ask.call c.in-Ask.is).0;
      link = λ j e. subst (λ n. j < n) (sym k.links_kept) (v.link j e);
      opened = still_open p s w c.args._world.now c.args._link c.args.message k own v.opened;
      done_opened = v.done_opened;
    }

pub returns-in-Ask-clause-undisturbed : goal.returns-in-Ask-clause-undisturbed
returns-in-Ask-clause-undisturbed g c own w v k =
    let s = c.args.self.now in
    let p = g.W.Surroundings in
    let flying = (took_ask p s w c.args._world.now c.args._link c.args.message k own v.stage
    c.in-Ask.call c.in-Ask.is).1 in
    let same = ap (λ z. rows_of s.held ++ (z ++ rows_of s.answer)) flying in (
      nothing,
      rises_taken p c.args._tally.now w c.args._world.now c.args._link c.args.message k,
      λ e within q body ins r h. (r, prefixed_none r, same_rest (due s) _ _ q (ins 0) r same h),
    )

pub returns-in-Ask-clause-budget : goal.returns-in-Ask-clause-budget
returns-in-Ask-clause-budget g c own w v k f =
    let s = c.args.self.now in
    let flying = (took_ask g.W.Surroundings s w c.args._world.now c.args._link c.args.message k own v.stage
    c.in-Ask.call c.in-Ask.is).1 in
    same_budget _ _ s.ended (ap (λ z. rows_of s.held ++ (z ++ rows_of s.answer)) flying)

pub returns-in-Reply-clause-valid : goal.returns-in-Reply-clause-valid
returns-in-Reply-clause-valid g c own =
    let s = c.args.self.now in
    let p = g.W.Surroundings in
    let w = c.requires.taken.0 in
    let v = c.requires.taken.1 in
    let k = c.requires.taken.2 in
    let done = c.is_done-self.ensures in
    record {
      stage = (took_reply p s w c.args._world.now c.args._link c.args.message k own v.stage
          c.is_done-self.result c.in-Reply.step c.in-Reply.is done.done done.so).0;
      link = λ j e. subst (λ n. j < n) (sym k.links_kept) (v.link j e);
      opened = still_open p s w c.args._world.now c.args._link c.args.message k own v.opened;
      done_opened = λ _. ap opens own;
    }

pub returns-in-Reply-clause-undisturbed : goal.returns-in-Reply-clause-undisturbed
returns-in-Reply-clause-undisturbed g c own w v k =
    let s = c.args.self.now in
    let p = g.W.Surroundings in
    let w' = c.args._world.now in
    let l = c.args._link in
    let done = c.is_done-self.ensures in
    let last = c.is_done-self.result in
    let took = took_last p s w w' l c.args.message k own v.stage last c.in-Reply.step c.in-Reply.is done.done done.so in
    let same = (took_reply p s w w' l c.args.message k own v.stage
    last c.in-Reply.step c.in-Reply.is done.done done.so).1 in
    let opened = ap opened_by (k.talk_kept l) in
    let before = ap (closed_by (p.flight w l).talk) k.was
    ∙ unclosed (p.flight w l).talk k.older k.newer c.args.message in
    let after = ap (λ z. closed_by z (p.flight w' l).flying) took.1
    ∙ ap (closed_by (answered c.in-Reply.step.progress)) took.2 ∙ closed_now c.in-Reply.step.progress last done.done done.so in
    let sent = k.sent_kept l in
    let d = on_this l 0 (cond last 1 0) 0 in (
      d,
      rises_here p c.args._tally.now w w' l 0 (cond last 1 0) 0 k.counted_kept (omega (arith, opened))
          (omega (arith, before, after)) (omega (arith, sent)) k.others,
      λ e within q body ins r h. came_on (due s) (record (due s) { done = last }) _ _ q d (ins 0) r same
          (reply_taken s l last own took.0) h,
    )

pub returns-in-Reply-clause-budget : goal.returns-in-Reply-clause-budget
returns-in-Reply-clause-budget g c own w v k f =
    let s = c.args.self.now in
    let done = c.is_done-self.ensures in
    same_budget _ _ s.ended
    (took_reply g.W.Surroundings s w c.args._world.now c.args._link c.args.message k own v.stage
    c.is_done-self.result c.in-Reply.step c.in-Reply.is done.done done.so).1
