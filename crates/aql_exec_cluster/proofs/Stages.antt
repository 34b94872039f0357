-- How far the ask of a link has come, before and after each step.
use Rattle.std.proofs.Common.{◌≡◌, ℕ, ◌+◌, ◌<◌, ◌≤◌, ◌⊎◌, inl, inr, List, [], ◌∷◌, ◌++◌, length, Bool, true, false, refl, sym, ap, ◌∙◌, subst, arith}
use Rattle.std.specs.Prelude.{Option, None, Some}
use Rattle.std.proofs.lemmas.List.{append-nil}
use mathlib.Core.Bool.{false≢true}
use Rattle.aql_meaning.specs.Row.{Row}
use Rattle.aql_block.specs.declared.calls.Call.{Call}
use Rattle.aql_block.specs.declared.calls.Step.{Step}
use Rattle.aql_block.specs.declared.calls.Progress.{Progress}
use Rattle.aql_block.specs.declared.calls.Progress.TheVariants.{Waiting, HasMore, Done}
use Rattle.aql_exec.specs.declared.turns.Message.{Message}
use Rattle.aql_exec.specs.declared.turns.Message.TheVariants.{Ask, Reply}
use Rattle.aql_exec.specs.declared.surroundings.Surroundings
use Rattle.aql_exec.specs.Links.{Taken}
use Rattle.aql_exec.specs.Steps.{IsCall, given}
use Rattle.aql_block.specs.Tables.{rows_of}
use Rattle.aql_exec.specs.Lines.{Talk, fresh, asked, answered, Line, IsAsk, Next, with_message, opened_by}
use Rattle.aql_exec_cluster.specs.declared.remote.Stage.{Stage}
use Rattle.aql_exec_cluster.specs.declared.remote.Stage.TheVariants.{Idle, Sent, Serving, Replied}
use Rattle.aql_exec_cluster.specs.declared.remote.Remote.{Remote}
use Rattle.aql_exec_cluster.specs.Remotes.{on_link, replied, kept, opens, serves_of, Serves, AtIdle, AtSent, AtServing, AtReplied, AtStage}

pub serving : (stage : Stage) → serves_of stage ≡ true → (c : Call) × (stage ≡ Serving c)
serving Idle h = absurd (false≢true h)
serving Sent h = absurd (false≢true h)
serving (Serving c) h = (c, refl)
serving Replied h = absurd (false≢true h)

pub serving_ask : (stage : Stage) (c : Call) → Serves stage c → stage ≡ Serving c
serving_ask Idle c h = absurd h
serving_ask Sent c h = absurd h
serving_ask (Serving d) c h = ap Serving h
serving_ask Replied c h = absurd h

-- an ask that came, came over a link
pub serves_linked : (batch : ℕ) (stage : Stage) (done ended ready : Bool) (held answer : List Row)
    (link : Option ℕ) (f : ℕ → Line) → serves_of stage ≡ true
    → AtStage batch stage done ended ready held answer (on_link link f) → link ≡ None → ⊥
serves_linked batch Idle done ended ready held answer link f s h e = false≢true s
serves_linked batch Sent done ended ready held answer link f s h e = false≢true s
serves_linked batch (Serving c) done ended ready held answer link f s h e =
    (let talk : fresh ≡ asked c = ap (λ o. (on_link o f).talk) (sym e) ∙ h.said in absurd (cc))
serves_linked batch Replied done ended ready held answer link f s h e = false≢true s

pub not_true : (b : Bool) → (b ≡ true → ⊥) → b ≡ false
not_true true f = absurd (f refl)
not_true false f = refl

-- ---- an ask and a reply are sent

pub ask_of : (batch soft : ℕ) (call : Call) → soft ≡ call.soft → call.soft ≤ batch → IsCall call
    → IsAsk batch (record { offset = 0; soft = soft; hard = 18446744073709551615 })
ask_of batch soft call e b i = (let a = i.some in record {
  offset = refl;
  some = omega (arith, e, a);
  batch = omega (arith, e, b);
  hard = refl;
})

pub ask_is_call : (batch : ℕ) (c : Call) → IsAsk batch c → c.soft ≤ 10000 → IsCall c
ask_is_call batch c i few = (let b = i.hard in record {
  some = i.some;
  soft = omega (arith, few, b);
  batch = few;
})

pub sent_ask : (batch : ℕ) (done ended : Bool) (held answer : List Row) (line line' : Line) (c : Call)
    → AtIdle batch done ended answer line → done ≡ false → held ≡ [] → IsAsk batch c → IsCall c
    → line' ≡ with_message line (Ask c) → AtSent batch done ended held answer line'
sent_ask batch done ended held answer line line' c h d none i call e = record {
  ask = c;
  is_ask = i;
  is_call = call;
  flies = ap (λ (z : Line). z.flying) e ∙ ap (λ z. z ++ Ask c ∷ []) h.none_flies;
  said = ap (λ (z : Line). z.talk) e;
  none_held = none;
  none_answered = h.none_answered;
  not_done = d;
  not_ended = not_true ended (λ x. false≢true (sym d ∙ h.ended_done x));
}

pub kept_ask : (held answer : List Row) (line line' : Line) (c : Call) → line.flying ≡ []
    → line' ≡ with_message line (Ask c)
    → held ++ (replied line'.flying ++ answer) ≡ held ++ (replied line.flying ++ answer)
kept_ask held answer line line' c none e =
    let flies = ap (λ (z : Line). z.flying) e ∙ ap (λ z. z ++ Ask c ∷ []) none in
    ap (λ z. held ++ (replied z ++ answer)) flies ∙ sym (ap (λ z. held ++ (replied z ++ answer)) none)

-- a reply with more has a row
pub has_more : (progress : Progress) (ended : Bool) (n : ℕ) → (ended ≡ true → progress ≡ Done)
    → (ended ≡ false → 0 < n) → progress ≡ HasMore → 0 < n
has_more progress true n d h e = absurd (let q = sym (d refl) ∙ e in cc q)
has_more progress false n d h e = h refl

pub may_reply : (batch : ℕ) (c : Call) (done ended ready : Bool) (held answer : List Row) (line : Line)
    (step : Step) → AtServing batch c done ended ready held answer line → ready ≡ true → step.skipped ≡ 0
    → given step ≡ answer → (ended ≡ true → step.progress ≡ Done) → (step.progress ≡ Waiting → ⊥)
    → Next batch line.talk (Reply step)
may_reply batch c done ended ready held answer line step h r z is d w =
    let rows = ap length is in
    let few = h.few in
    subst (λ t. Next batch t (Reply step)) (sym h.said) (record {
      skipped = (let o = h.is_ask.offset in omega (arith, z, o));
      rows = omega (arith, rows, few);
      first = λ _. z ∙ sym h.is_ask.offset;
      ready = w;
      more = λ e. (let m = has_more step.progress ended (length answer) d (h.some r) e in
          omega (arith, m, rows));
    })

pub sent_reply : (batch : ℕ) (c : Call) (done ended ready : Bool) (held answer answer' : List Row)
    (line line' : Line) (step : Step) → AtServing batch c done ended ready held answer line
    → line' ≡ with_message line (Reply step) → answer' ≡ [] → (step.progress ≡ Done → ended ≡ true)
    → (ended ≡ true → step.progress ≡ Done) → (step.progress ≡ Waiting → ⊥)
    → AtReplied done ended held answer' line'
sent_reply batch c done ended ready held answer answer' line line' step h e none d d' w = record {
  reply = step;
  flies = ap (λ (z : Line). z.flying) e ∙ ap (λ z. z ++ Reply step ∷ []) h.none_flies;
  said = ap (λ (z : Line). z.talk) e;
  ready = w;
  none_held = h.none_held;
  none_answered = none;
  not_done = h.not_done;
  ended_done = d';
  done_ended = d;
}

pub kept_reply : (held answer answer' : List Row) (line line' : Line) (step : Step) → line.flying ≡ []
    → line' ≡ with_message line (Reply step) → given step ≡ answer → answer' ≡ []
    → held ++ (replied line'.flying ++ answer') ≡ held ++ (replied line.flying ++ answer)
kept_reply held answer answer' line line' step none e is none' =
    let flies = ap (λ (z : Line). z.flying) e ∙ ap (λ z. z ++ Reply step ∷ []) none in
    ap (λ z. held ++ (replied z ++ answer')) flies
    ∙ ap (λ z. held ++ z) (ap (λ z. (given step ++ []) ++ z) none' ∙ append-nil (given step ++ [])
    ∙ append-nil (given step) ∙ is)
    ∙ sym (ap (λ z. held ++ (replied z ++ answer)) none)

-- ---- what is given, and what is left

-- where rows are held no ask is out
pub held_idle : (batch : ℕ) (stage : Stage) (done ended ready : Bool) (held held' answer : List Row)
    (line : Line) → 0 < length held → AtStage batch stage done ended ready held answer line
    → AtStage batch stage done ended ready held' answer line
held_idle batch Idle done ended ready held held' answer line some h = h
held_idle batch Sent done ended ready held held' answer line some h =
    (let n = ap length h.none_held in absurd (omega (arith, some, n)))
held_idle batch (Serving c) done ended ready held held' answer line some h =
    (let n = ap length h.none_held in absurd (omega (arith, some, n)))
held_idle batch Replied done ended ready held held' answer line some h =
    (let n = ap length h.none_held in absurd (omega (arith, some, n)))

pub done_ended : (batch : ℕ) (stage : Stage) (done ended ready : Bool) (held answer : List Row) (line : Line)
    → done ≡ true → AtStage batch stage done ended ready held answer line → ended ≡ true
done_ended batch Idle done ended ready held answer line d h = h.done_ended d
done_ended batch Sent done ended ready held answer line d h = absurd (false≢true (sym h.not_done ∙ d))
done_ended batch (Serving c) done ended ready held answer line d h = absurd (false≢true (sym h.not_done ∙ d))
done_ended batch Replied done ended ready held answer line d h = absurd (false≢true (sym h.not_done ∙ d))

-- nothing is left once the last reply was given
pub done_all : (batch : ℕ) (stage : Stage) (done ended ready : Bool) (held answer : List Row) (line : Line)
    → done ≡ true → AtStage batch stage done ended ready held answer line
    → (replied line.flying ≡ []) × (answer ≡ [])
done_all batch Idle done ended ready held answer line d h = (ap replied h.none_flies, h.none_answered)
done_all batch Sent done ended ready held answer line d h = absurd (false≢true (sym h.not_done ∙ d))
done_all batch (Serving c) done ended ready held answer line d h = absurd (false≢true (sym h.not_done ∙ d))
done_all batch Replied done ended ready held answer line d h = absurd (false≢true (sym h.not_done ∙ d))

-- ---- it waits

one_flies : (messages : List Message) (m : Message) → messages ≡ m ∷ [] → 0 < length messages
one_flies messages m e = (let n = ap length e in omega (arith, n))

linked : (link : Option ℕ) (f : ℕ → Line) (m : Message) → (on_link link f).flying ≡ m ∷ []
    → (l : ℕ) × (link ≡ Some l) × (0 < length (f l).flying)
linked None f m e = absurd (cc)
linked (Some l) f m e = (l, refl, one_flies (f l).flying m e)

-- an ask is served, or a message is in flight
pub waits_for : (batch : ℕ) (stage : Stage) (done ended ready working : Bool) (held answer : List Row)
    (link : Option ℕ) (f : ℕ → Line) → AtStage batch stage done ended ready held answer (on_link link f)
    → (stage ≡ Idle → ⊥) → (working ≡ true → ⊥)
    → ((serves_of stage ≡ true) × (working ≡ false)) ⊎ ((l : ℕ) × (link ≡ Some l) × (0 < length (f l).flying))
waits_for batch Idle done ended ready working held answer link f h n w = absurd (n refl)
waits_for batch Sent done ended ready working held answer link f h n w =
    inr (linked link f (Ask h.ask) h.flies)
waits_for batch (Serving c) done ended ready working held answer link f h n w = inl (refl, not_true working w)
waits_for batch Replied done ended ready working held answer link f h n w =
    inr (linked link f (Reply h.reply) h.flies)

-- ---- a step of the input

-- a step that does not wait and is not the last has a row, where none was skipped
pub has_row : (progress : Progress) (ended ready : Bool) (skipped n offset : ℕ)
    → (progress ≡ Done → ended ≡ true)
    → (ready ≡ true → progress ≡ Waiting → 0 < n) → (progress ≡ HasMore → 0 < skipped + n) → skipped ≤ offset
    → offset ≡ 0 → ready ≡ true → ended ≡ false → 0 < n
has_row Waiting ended ready skipped n offset d w m l z r e = w r refl
has_row HasMore ended ready skipped n offset d w m l z r e = (let p = m refl in omega (arith, p, l, z))
has_row Done ended ready skipped n offset d w m l z r e = absurd (false≢true (sym e ∙ d refl))

pub done_ready : (progress : Progress) (ready : Bool) → (ready ≡ false → progress ≡ Waiting) → progress ≡ Done
    → ready ≡ true
done_ready progress true h e = refl
done_ready progress false h e = absurd (let q = sym (h refl) ∙ e in cc q)

pub took_step : (batch : ℕ) (c : Call) (done ended ready ended' ready' : Bool)
    (held answer answer' : List Row) (line : Line)
    → AtServing batch c done ended ready held answer line → length answer' ≤ c.soft
    → (ended' ≡ true → ready' ≡ true)
    → (ready' ≡ false → answer' ≡ []) → (ready' ≡ true → ended' ≡ false → 0 < length answer')
    → AtServing batch c done ended' ready' held answer' line
took_step batch c done ended ready ended' ready' held answer answer' line h few d none some = record {
  is_ask = h.is_ask;
  is_call = h.is_call;
  none_flies = h.none_flies;
  said = h.said;
  none_held = h.none_held;
  not_done = h.not_done;
  ended_ready = d;
  unready = none;
  some = some;
  few = few;
}

-- ---- a message is taken off the link, which has at most one

none_taken : (m : Message) (older newer : List Message) → [] ≡ older ++ (m ∷ newer) → ⊥
none_taken m [] newer e = cc e
none_taken m (x ∷ older) newer e = cc e

one_taken : (x m : Message) (older newer : List Message) → x ∷ [] ≡ older ++ (m ∷ newer)
    → (x ≡ m) × (older ++ newer ≡ [])
one_taken x m [] newer e = (cc, cc)
one_taken x m (y ∷ older) newer e =
    (let f : [] ≡ older ++ (m ∷ newer) = cc in absurd (none_taken m older newer f))

none_few : (n : ℕ) → 0 ≤ n
none_few n = omega arith

-- an ask: it is served
pub received_ask : (batch : ℕ) (stage : Stage) (done ended ready : Bool) (held answer : List Row)
    (line line' : Line) (older newer : List Message) (c : Call)
    → AtStage batch stage done ended ready held answer line
    → line.flying ≡ older ++ (Ask c ∷ newer) → line'.flying ≡ older ++ newer → line'.talk ≡ line.talk
    → AtServing batch c done ended false held answer line' × (replied line'.flying ≡ replied line.flying)
received_ask batch Idle done ended ready held answer line line' older newer c h was is talk =
    absurd (none_taken (Ask c) older newer (sym h.none_flies ∙ was))
received_ask batch Sent done ended ready held answer line line' older newer c h was is talk =
    let one = one_taken (Ask h.ask) (Ask c) older newer (sym h.flies ∙ was) in
    let same : h.ask ≡ c = (let q = one.0 in cc q) in
    let none = is ∙ one.1 in (
      record {
        is_ask = subst (IsAsk batch) same h.is_ask;
        is_call = subst IsCall same h.is_call;
        none_flies = none;
        said = talk ∙ h.said ∙ ap asked same;
        none_held = h.none_held;
        not_done = h.not_done;
        ended_ready = λ e. absurd (false≢true (sym h.not_ended ∙ e));
        unready = λ _. h.none_answered;
        some = λ e. absurd (false≢true e);
        few = rw h.none_answered (none_few c.soft);
      },
      ap replied none ∙ sym (ap replied h.flies),
    )
received_ask batch (Serving d) done ended ready held answer line line' older newer c h was is talk =
    absurd (none_taken (Ask c) older newer (sym h.none_flies ∙ was))
received_ask batch Replied done ended ready held answer line line' older newer c h was is talk =
    let one = one_taken (Reply h.reply) (Ask c) older newer (sym h.flies ∙ was) in
    let q = one.0 in absurd (cc q)

may_ask : (batch : ℕ) (progress : Progress) (done : Bool) (t : Talk) (c : Call) → t ≡ answered progress
    → (progress ≡ Waiting → ⊥) → (progress ≡ Done → done ≡ true) → done ≡ false → IsAsk batch c
    → Next batch t (Ask c)
may_ask batch Waiting done t c e w d n i = absurd (w refl)
may_ask batch HasMore done t c e w d n i = subst (λ z. Next batch z (Ask c)) (sym e) (refl, i)
may_ask batch Done done t c e w d n i = absurd (false≢true (sym n ∙ d refl))

-- a reply: its rows are held
pub received_reply : (batch : ℕ) (stage : Stage) (done done' ended ready : Bool) (held answer : List Row)
    (line line' : Line) (older newer : List Message) (step : Step)
    → AtStage batch stage done ended ready held answer line
    → line.flying ≡ older ++ (Reply step ∷ newer) → line'.flying ≡ older ++ newer → line'.talk ≡ line.talk
    → (done' ≡ true → step.progress ≡ Done) → (step.progress ≡ Done → done' ≡ true)
    → AtIdle batch done' ended answer line'
    × (given step ++ (replied line'.flying ++ answer) ≡ held ++ (replied line.flying ++ answer))
received_reply batch Idle done done' ended ready held answer line line' older newer step h was is talk d d' =
    absurd (none_taken (Reply step) older newer (sym h.none_flies ∙ was))
received_reply batch Sent done done' ended ready held answer line line' older newer step h was is talk d d' =
    let one = one_taken (Ask h.ask) (Reply step) older newer (sym h.flies ∙ was) in
    let q = one.0 in absurd (cc q)
received_reply batch (Serving c) done done' ended ready held answer line line' older newer step h was is talk
    d d' =
    absurd (none_taken (Reply step) older newer (sym h.none_flies ∙ was))
received_reply batch Replied done done' ended ready held answer line line' older newer step h was is talk
    d d' =
    let one = one_taken (Reply h.reply) (Reply step) older newer (sym h.flies ∙ was) in
    let same : h.reply ≡ step = (let q = one.0 in cc q) in
    let none = is ∙ one.1 in
    let progress = ap (λ (z : Step). z.progress) same in (
      record {
        none_flies = none;
        none_answered = h.none_answered;
        done_ended = λ e. h.done_ended (progress ∙ d e);
        ended_done = λ e. d' (sym progress ∙ h.ended_done e);
        may_ask = λ n c i. may_ask batch step.progress done' line'.talk c
            (talk ∙ h.said ∙ ap answered progress) (λ w. h.ready (progress ∙ w)) d' n i;
      },
      rows none same (h.flies) h.none_held h.none_answered,
    )
  where
    rows : {r : Step} → line'.flying ≡ [] → r ≡ step → line.flying ≡ Reply r ∷ [] → held ≡ [] → answer ≡ []
        → given step ++ (replied line'.flying ++ answer) ≡ held ++ (replied line.flying ++ answer)
    rows none same flies none_held none_answered =
        ap (λ z. given step ++ (replied z ++ answer)) none
        ∙ ap (λ z. given step ++ z) none_answered ∙ append-nil (given step)
        ∙ sym (ap (λ z. z ++ (replied line.flying ++ answer)) none_held
        ∙ ap (λ z. replied z ++ answer) flies ∙ ap (λ z. (given z ++ []) ++ answer) same
        ∙ ap (λ z. (given step ++ []) ++ z) none_answered ∙ append-nil (given step ++ [])
        ∙ append-nil (given step))

-- it was said last, and it is the first that may say Done
pub reply_said : (batch : ℕ) (stage : Stage) (done ended ready : Bool) (held answer : List Row)
    (line : Line) (older newer : List Message) (step : Step)
    → AtStage batch stage done ended ready held answer line → line.flying ≡ older ++ (Reply step ∷ newer)
    → (done ≡ false) × (line.talk ≡ answered step.progress)
reply_said batch Idle done ended ready held answer line older newer step h was =
    absurd (none_taken (Reply step) older newer (sym h.none_flies ∙ was))
reply_said batch Sent done ended ready held answer line older newer step h was =
    let one = one_taken (Ask h.ask) (Reply step) older newer (sym h.flies ∙ was) in
    let q = one.0 in absurd (cc q)
reply_said batch (Serving c) done ended ready held answer line older newer step h was =
    absurd (none_taken (Reply step) older newer (sym h.none_flies ∙ was))
reply_said batch Replied done ended ready held answer line older newer step h was =
    let one = one_taken (Reply h.reply) (Reply step) older newer (sym h.flies ∙ was) in
    let same : h.reply ≡ step = (let q = one.0 in cc q) in
    (h.not_done, h.said ∙ ap (λ (z : Step). answered z.progress) same)

-- the same of a message that was taken off the link
module _ {W : Type 0} (p : Surroundings.Ghosts W) (s : Remote) (w w' : W) (l : ℕ) (m : Message)
    (taken : Taken p w w' l m) (own : s.link ≡ Some l)
    (h : AtStage (p.batch w) s.stage s.done s.ended s.ready (rows_of s.held) (rows_of s.answer)
    (on_link s.link (p.flight w))) where
  here : (v : W) → on_link s.link (p.flight v) ≡ p.flight v l
  here v = ap (λ o. on_link o (p.flight v)) own

  was : (n : Message) → m ≡ n → (on_link s.link (p.flight w)).flying ≡ taken.older ++ (n ∷ taken.newer)
  was n e = ap (λ (z : Line). z.flying) (here w) ∙ taken.was ∙ ap (λ z. taken.older ++ (z ∷ taken.newer)) e

  is : (on_link s.link (p.flight w')).flying ≡ taken.older ++ taken.newer
  is = ap (λ (z : Line). z.flying) (here w') ∙ taken.is

  talk : (on_link s.link (p.flight w')).talk ≡ (on_link s.link (p.flight w)).talk
  talk = ap (λ (z : Line). z.talk) (here w') ∙ taken.talk_kept l ∙ sym (ap (λ (z : Line). z.talk) (here w))

  pub took_ask : (c : Call) → m ≡ Ask c
      → AtServing (p.batch w') c s.done s.ended false (rows_of s.held) (rows_of s.answer)
      (on_link s.link (p.flight w'))
      × (replied (on_link s.link (p.flight w')).flying ≡ replied (on_link s.link (p.flight w)).flying)
  took_ask c e = rw taken.batch_kept
      (received_ask (p.batch w) s.stage s.done s.ended s.ready (rows_of s.held) (rows_of s.answer)
      (on_link s.link (p.flight w))
      (on_link s.link (p.flight w')) taken.older taken.newer c h (was (Ask c) e) is talk)

  pub took_reply : (done : Bool) (step : Step) → m ≡ Reply step → (done ≡ true → step.progress ≡ Done)
      → (step.progress ≡ Done → done ≡ true)
      → AtIdle (p.batch w') done s.ended (rows_of s.answer) (on_link s.link (p.flight w'))
      × (given step ++ (replied (on_link s.link (p.flight w')).flying ++ rows_of s.answer)
      ≡ kept s (on_link s.link (p.flight w)).flying)
  took_reply done step e d d' = rw taken.batch_kept
      (received_reply (p.batch w) s.stage s.done done s.ended s.ready (rows_of s.held) (rows_of s.answer)
      (on_link s.link (p.flight w)) (on_link s.link (p.flight w')) taken.older taken.newer step h
      (was (Reply step) e) is talk d d')

  -- nothing else is in flight on its link then
  pub took_last : (done : Bool) (step : Step) → m ≡ Reply step → (done ≡ true → step.progress ≡ Done)
      → (step.progress ≡ Done → done ≡ true) → (s.done ≡ false)
      × ((p.flight w' l).talk ≡ answered step.progress) × ((p.flight w' l).flying ≡ [])
  took_last done step e d d' =
      let said = reply_said (p.batch w) s.stage s.done s.ended s.ready (rows_of s.held) (rows_of s.answer)
      (on_link s.link (p.flight w)) taken.older taken.newer step h (was (Reply step) e) in
      let none = (received_reply (p.batch w) s.stage s.done done s.ended s.ready (rows_of s.held)
      (rows_of s.answer) (on_link s.link (p.flight w)) (on_link s.link (p.flight w')) taken.older taken.newer
      step h (was (Reply step) e) is talk d d').0.none_flies in (
        said.0,
        taken.talk_kept l ∙ ap (λ (z : Line). z.talk) (sym (here w)) ∙ said.1,
        ap (λ (z : Line). z.flying) (sym (here w')) ∙ none,
      )

-- and it stays open
pub still_open : {W : Type 0} (p : Surroundings.Ghosts W) (s : Remote) (w w' : W) (l : ℕ) (m : Message)
    → Taken p w w' l m → s.link ≡ Some l → opened_by (on_link s.link (p.flight w)).talk + opens s.link ≡ 1
    → opened_by (on_link s.link (p.flight w')).talk + opens s.link ≡ 1
still_open p s w w' l m taken own h =
    let before = ap (λ o. opened_by (on_link o (p.flight w)).talk) own in
    let after = ap (λ o. opened_by (on_link o (p.flight w')).talk) own in
    let kept = ap opened_by (taken.talk_kept l) in omega (arith, before, after, kept, h)
