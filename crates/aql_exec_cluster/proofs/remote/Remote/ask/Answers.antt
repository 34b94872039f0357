use Rattle.std.proofs.Common.{ap, subst, ◌∙◌, arith}
use Rattle.std.proofs.lemmas.Option.{same_Some}
use Rattle.aql_block.specs.Tables.{rows_of}
use Rattle.aql_exec.specs.declared.turns.Message.TheVariants.{Ask}
use Rattle.aql_exec.specs.Operators.{on_this}
use Rattle.aql_exec.specs.Rising.{Rises}
use Rattle.aql_exec.specs.Lines.{Line, Next, opened_by, closed_by}
use Rattle.aql_exec_cluster.specs.Remotes.{on_link, opens, AtStage}
use Rattle.aql_exec_cluster.proofs.Sending.{said_opened, said_unclosed, unclosed_before, rises_here}
use Rattle.aql_exec_cluster.proofs.remote.Remote.ask.Goals as goal

pub returns-clause-rises : goal.returns-clause-rises
returns-clause-rises g c j e t =
    let s = c.args.self.now in
    let p = g.W.Surroundings in
    let w = c.args.world.now in
    let w' = c.post.new.world in
    let l = c.in_ok-link.link in
    let sent = c.in_ok-link.ensures in
    let ask = Ask c.all_rows.result in
    let idle = subst
    (λ z. AtStage (p.batch w) z s.done s.ended s.ready (rows_of s.held) (rows_of s.answer)
    (on_link s.link (p.flight w)))
    c.requires.idle c.requires.valid.stage in
    let line = on_link s.link (p.flight w) in
    let next : Next (p.batch w) line.talk ask =
    idle.may_ask c.requires.more c.all_rows.result (rw c.all_rows.ensures c.requires.ask) in
    let before = ap (λ (z : Line). opened_by z.talk) sent.before in
    let after = ap (λ (z : Line). opened_by z.talk) sent.sent in
    let said = said_opened line ask in
    let opened = c.requires.valid.opened in
    let unclosed = ap (λ (z : Line). closed_by z.talk z.flying) sent.before
    ∙ unclosed_before (p.batch w) line.talk ask line.flying next in
    let still = ap (λ (z : Line). closed_by z.talk z.flying) sent.sent ∙ said_unclosed line ask in
    let were = ap (λ (z : Line). z.sent) sent.before in
    let are = ap (λ (z : Line). z.sent) sent.sent in
    subst (λ k. Rises p (λ _. Unit {0}) t w t w' (on_this k (opens s.link) 0 0)) (same_Some l j e)
    (rises_here p t w w' l (opens s.link) 0 0 sent.counted (omega (arith, before, after, said, opened))
    (omega (arith, unclosed, still)) (omega (arith, were, are)) sent.others)
