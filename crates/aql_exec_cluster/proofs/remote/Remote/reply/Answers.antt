use Rattle.std.proofs.Common.{◌≡◌, ◌+◌, ◌<◌, length, sym, ap, subst, ◌∙◌, arith}
use Rattle.aql_block.specs.declared.calls.Step.{Step}
use Rattle.aql_block.specs.Tables.{rows_of}
use Rattle.aql_exec.specs.declared.turns.Message.TheVariants.{Reply}
use Rattle.aql_exec.specs.Steps.{given}
use Rattle.aql_exec.specs.Lines.{Line, with_message, opened_by, closed_by}
use Rattle.aql_exec_cluster.specs.Remotes.{on_link, opens, AtStage}
use Rattle.aql_exec_cluster.proofs.Sending.{said_opened, said_unclosed, rises_here}
use Rattle.aql_exec_cluster.proofs.Stages.{serving, sent_reply}
use Rattle.aql_exec_cluster.proofs.remote.Remote.reply.Goals as goal

pub returns-clause-valid : goal.returns-clause-valid
returns-clause-valid g c =
    let s = c.args.self.now in
    let p = g.W.Surroundings in
    let batch = p.batch c.args.world.now in
    let f = p.flight c.args.world.now in
    let f' = p.flight c.send.new.self in
    let ask = serving s.stage c.requires.serves in
    let served = subst (λ z. AtStage batch z s.done s.ended s.ready (rows_of s.held) (rows_of s.answer)
    (on_link s.link f))
    ask.1 c.requires.valid.stage in
    let reply : Step = record {
      skipped = 0;
      block = c.replace-block.result;
      progress = c.progress_of.result;
    } in
    let here = ap (λ o. on_link o f') c.in-Some.is ∙ c.in_ok-send.ensures.sent
    ∙ ap (λ z. with_message z (Reply reply)) (sym (ap (λ o. on_link o f) c.in-Some.is)) in
    let none = ap rows_of (c.replace-block.ensures.after ∙ c.empty.ensures) in
    let progress = c.progress_of.ensures in
    record {
      stage = sent_reply batch ask.0 s.done s.ended s.ready (rows_of s.held) (rows_of s.answer)
          (rows_of c.replace-block.new.dest) (on_link s.link f) (on_link s.link f') reply served here none
          progress.done progress.so progress.ready;
      link = λ l e. subst (λ n. l < n) (sym c.send.ensures.links) (c.requires.valid.link l e);
      opened = (let said = ap (λ (z : Line). opened_by z.talk) here ∙ said_opened (on_link s.link f) (Reply reply) in
          let made = ap opens c.in-Some.is in omega (arith, said, made));
      done_opened = c.requires.valid.done_opened;
    }

pub returns-clause-rises : goal.returns-clause-rises
returns-clause-rises g c =
    let s = c.args.self.now in
    let p = g.W.Surroundings in
    let w = c.args.world.now in
    let l = c.in-Some.link in
    let sent = c.in_ok-send.ensures in
    let reply : Step = record {
      skipped = 0;
      block = c.replace-block.result;
      progress = c.progress_of.result;
    } in
    let line = p.flight w l in
    let on : on_link s.link (p.flight w) ≡ line = ap (λ o. on_link o (p.flight w)) c.in-Some.is in
    let ask = serving s.stage c.requires.serves in
    let served = subst (λ z. AtStage (p.batch w) z s.done s.ended s.ready (rows_of s.held) (rows_of s.answer)
    (on_link s.link (p.flight w)))
    ask.1 c.requires.valid.stage in
    let talk = ap (λ (z : Line). z.talk) (sym on) ∙ served.said in
    let asked = ap opened_by talk in
    let unclosed = ap (λ z. closed_by z line.flying) talk in
    let after = ap (λ (z : Line). opened_by z.talk) sent.sent ∙ said_opened line (Reply reply) in
    let still = ap (λ (z : Line). closed_by z.talk z.flying) sent.sent ∙ said_unclosed line (Reply reply) in
    let more = ap (λ (z : Line). z.sent) sent.sent in
    let rows = ap (λ z. length (rows_of z)) c.replace-block.ensures.value in
    let all : reply.skipped + length (given reply) ≡ length (rows_of s.answer) = omega (arith, rows) in (
      l,
      c.in-Some.is,
      λ t. rises_here p t w c.send.new.self l 0 0 (length (rows_of s.answer)) sent.counted
          (omega (arith, asked, after)) (omega (arith, unclosed, still)) (omega (arith, more, all)) sent.others,
    )
