use Rattle.std.proofs.Common.{arith, ◌≡◌, ◌⊎◌, sym, subst}
use Rattle.aql_top.specs.Reasons.{Tells}
use Rattle.aql_top.proofs.Ends.{Deserved, Completes, told_leads, deserved, refused, complete, unless_read, accepts_made, printed_deserves, IsOfWords, printed_words, fault_words, never_0, of_fault, unread, idle}
use Rattle.aql_top.proofs.shell.run_shell.Goals as goal

pub returns-in-Ok-clause-refused : goal.returns-in-Ok-clause-refused
returns-in-Ok-clause-refused g c = λ settings status text w tells d.
    absurd
    (printed_deserves c.args.words.now settings w (g.S.Source.left c.args.source.now) status text
    c.in-Ok.ensures.accepts tells d)

pub returns-in-Ok-clause-bad_words : goal.returns-in-Ok-clause-bad_words
returns-in-Ok-clause-bad_words g c = printed_words c.args.words.now c.in-Ok.ensures.accepts

pub returns-in-Err-clause-bad_words : goal.returns-in-Err-clause-bad_words
returns-in-Err-clause-bad_words g c =
    let words = c.args.words.now in
    let left = g.S.Source.left c.args.source.now in
    let fault = c.tell-fault.result in
    let leads = told_leads c.in-Err.fault fault words left c.tell-fault.ensures.same c.in-Err.ensures.leads in
    subst (IsOfWords words) (sym c.status.ensures) (fault_words words fault left leads)

pub returns-in-Err-clause-printed : goal.returns-in-Err-clause-printed
returns-in-Err-clause-printed g c = λ zero.
    absurd
    (never_0 c.in-Err.fault c.tell-fault.result c.tell-fault.ensures.same _ c.status.ensures zero)

pub returns-in-Err-clause-front : goal.returns-in-Err-clause-front
returns-in-Err-clause-front g c =
    of_fault c.in-Err.fault c.tell-fault.result c.tell-fault.ensures.same _ c.status.ensures 7
    (λ k. omega (arith, k)) c.in-Err.ensures.front

pub returns-in-Err-clause-within : goal.returns-in-Err-clause-within
returns-in-Err-clause-within g c =
    of_fault c.in-Err.fault c.tell-fault.result c.tell-fault.ensures.same _ c.status.ensures 6
    (λ k. omega (arith, k)) c.in-Err.ensures.within

pub returns-in-Err-clause-unread : goal.returns-in-Err-clause-unread
returns-in-Err-clause-unread g c =
    unread c.in-Err.fault c.tell-fault.result c.tell-fault.ensures.same _ c.status.ensures
    c.in-Err.ensures.unread c.run.ensures.made

pub returns-in-Err-clause-line : goal.returns-in-Err-clause-line
returns-in-Err-clause-line g c = λ _.
    let words = c.args.words.now in
    let left = g.S.Source.left c.args.source.now in
    let fault = c.tell-fault.result in
    let leads = told_leads c.in-Err.fault fault words left c.tell-fault.ensures.same c.in-Err.ensures.leads in
    let due = deserved words left fault leads in (
      due.0,
      subst (λ n. Deserved words left n due.0) (sym c.status.ensures) due.1,
      subst
          (λ line. Tells line (g.E.Sink.written c.args.err.now) (g.E.Sink.written c.tell-fault.new.err)
          (g.E.Sink.faults c.args.err.now) (g.E.Sink.faults c.tell-fault.new.err))
          (sym due.2) c.tell-fault.ensures.line,
    )

pub returns-in-Err-clause-refused : goal.returns-in-Err-clause-refused
returns-in-Err-clause-refused g c = λ settings status text w tells d.
    let words = c.args.words.now in
    let left = g.S.Source.left c.args.source.now in
    let fault = c.tell-fault.result in
    let leads = told_leads c.in-Err.fault fault words left c.tell-fault.ensures.same c.in-Err.ensures.leads in
    subst (λ n. (n ≡ status) ⊎ ((n ≡ 6) ⊎ (n ≡ 8))) (sym c.status.ensures)
    (refused words settings w left status text fault leads tells d)

pub returns-in-Err-clause-complete : goal.returns-in-Err-clause-complete
returns-in-Err-clause-complete g c = λ settings w accepts.
    let words = c.args.words.now in
    let left = g.S.Source.left c.args.source.now in
    let fault = c.tell-fault.result in
    let leads = told_leads c.in-Err.fault fault words left c.tell-fault.ensures.same c.in-Err.ensures.leads in
    subst Completes (sym c.status.ensures) (complete words settings w left fault leads accepts)

pub returns-in-Err-clause-made : goal.returns-in-Err-clause-made
returns-in-Err-clause-made g c = λ generates.
    let words = c.args.words.now in
    let left = g.S.Source.left c.args.source.now in
    let settings = generates.0 in
    let accepts = accepts_made words settings generates.1 left generates.2.0 generates.2.1 in
    unless_read _ (returns-in-Err-clause-complete g c settings generates.1 accepts)
    (of_fault c.in-Err.fault c.tell-fault.result c.tell-fault.ensures.same _ c.status.ensures 6
    (λ k. omega (arith, k)) (λ six. c.in-Err.ensures.no_read six generates))

pub returns-in-Err-clause-idle : goal.returns-in-Err-clause-idle
returns-in-Err-clause-idle g c = λ success.
    idle c.in-Err.fault c.tell-fault.result c.tell-fault.ensures.same _ c.status.ensures c.in-Err.ensures.idle
