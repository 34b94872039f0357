-- What a world promises of its links where it leaves them to a net.
use Rattle.std.proofs.Common.{◌≡◌, ℕ, ◌+◌, ◌<◌, ◌≤◌, List, [], ◌∷◌, length, map, take, drop, suc, true, false, cond, refl, sym, ap, ◌∙◌, arith}
use Rattle.std.specs.Prelude.{max, sum_by, filter, ◌==◌, Option, Some, None, MatchOption, Result, Ok, Err, IfOk, OnErr}
use Rattle.std.proofs.lemmas.List.{length-map}
use Rattle.aql_block.specs.declared.calls.Progress.TheVariants.{Waiting, HasMore, Done}
use Rattle.aql_exec.specs.declared.turns.Message.{Message}
use Rattle.aql_exec.specs.declared.links.Delivered.{Delivered}
use Rattle.aql_exec.specs.declared.surroundings.Surroundings
use Rattle.aql_exec.specs.Lines.{Talk, fresh, asked, answered, Line, no_line, with_message, opened_by, closed_by}
use Rattle.aql_exec.specs.Links.{Taken, TakenAt, Delivers}
use Rattle.aql_exec.specs.Promises.{Beside}
use Rattle.aql_net.specs.declared.net.Envelope.{Envelope}
use Rattle.aql_net.specs.Logs.{Dispatch, in_flight, said_on, talk_on, rows_of_sort, opened_in, closed_in}
use Rattle.aql_net.specs.Traffic.{Traffic, dispatch_of, messages_on, line_on, flying_of, queue_of, deliveries_of, after_sending, Takes}
use Rattle.aql_net.specs.laws.Sending.{line-own, line-other, deliveries-kept, links-grow}
use Rattle.aql_net.specs.laws.Delivering.{queue-taken, messages-were, messages-are, talk-kept, rows-kept, line-kept}

-- its links are those of a net
pub record LinksOf {W : Type 0} (p : Surroundings.Ghosts W) (w : W) (t : Traffic) : Type 0 where
  pub batch : p.batch w ≡ t.batch
  pub links : p.links w ≡ t.links
  pub flight : (l : ℕ) → p.flight w l ≡ line_on l t
  pub deliveries : p.deliveries w ≡ deliveries_of t

-- what a link counts is the sum of what the replies on it skipped and sent
pub sent-is : {W : Type 0} (p : Surroundings.Ghosts W) (w : W) (t : Traffic) → LinksOf p w t
    → (l : ℕ) → (p.flight w l).sent ≡ sum_by rows_of_sort (said_on l t.log)
sent-is p w t is l = ap (λ (z : Line). z.sent) (is.flight l)

-- it is opened where something was said on it
pub opened-is : {W : Type 0} (p : Surroundings.Ghosts W) (w : W) (t : Traffic) → LinksOf p w t
    → (l : ℕ) → opened_by (p.flight w l).talk ≡ opened_in l t.log
opened-is p w t is l = ap (λ (z : Line). opened_by z.talk) (is.flight l)

closed-map : {A B : Type 0} (f : A → B) (talk : Talk) (flying : List A)
    → closed_by talk (map f flying) ≡ closed_by talk flying
closed-map f fresh flying = refl
closed-map f (asked c) flying = refl
closed-map f (answered Waiting) flying = refl
closed-map f (answered HasMore) flying = refl
closed-map f (answered Done) [] = refl
closed-map f (answered Done) (m ∷ flying) = refl

told-on : (l : ℕ) (flying : List Envelope)
    → filter (λ m. m.link == l) (map dispatch_of flying) ≡ map dispatch_of (filter (λ e. e.link == l) flying)
told-on l [] = refl
told-on l (e ∷ flying) = elim (e.link == l) as (λ b. cond b
    (dispatch_of e ∷ filter (λ m. m.link == l) (map dispatch_of flying))
    (filter (λ m. m.link == l) (map dispatch_of flying))
    ≡ map dispatch_of (cond b (e ∷ filter (λ e. e.link == l) flying) (filter (λ e. e.link == l) flying))) [
      | true ↦ ap (λ z. dispatch_of e ∷ z) (told-on l flying)
      | false ↦ told-on l flying
    ]

-- and closed where its last reply, which says Done, was taken
pub closed-is : {W : Type 0} (p : Surroundings.Ghosts W) (w : W) (t : Traffic) → LinksOf p w t
    → in_flight t.log ≡ map dispatch_of t.flying
    → (l : ℕ) → closed_by (p.flight w l).talk (p.flight w l).flying ≡ closed_in l t.log
closed-is p w t is told l =
    let talk = talk_on l t.log in
    let on = filter (λ (e : Envelope). e.link == l) t.flying in
    ap (λ (z : Line). closed_by z.talk z.flying) (is.flight l) ∙ closed-map (λ (e : Envelope). e.message) talk on
    ∙ sym (ap (λ z. closed_by talk (filter (λ (m : Dispatch). m.link == l) z)) told
    ∙ ap (closed_by talk) (told-on l t.flying) ∙ closed-map dispatch_of talk on)

module _ {W : Type 0} (p : Surroundings.Ghosts W) (w w' : W) (t t' : Traffic)
    (is : LinksOf p w t) (is' : LinksOf p w' t') (stock : p.stock w' ≡ p.stock w) where
  -- nothing changes
  pub beside-same : (own : ℕ → Type 0) → t' ≡ t → Beside p own w w'
  beside-same own same = record {
    stock = stock;
    deliveries = is'.deliveries ∙ ap deliveries_of same ∙ sym is.deliveries;
    batch = is'.batch ∙ ap (λ (t : Traffic). t.batch) same ∙ sym is.batch;
    grows = (
        let as_many : p.links w ≡ p.links w' =
        is.links ∙ ap (λ (t : Traffic). t.links) (sym same) ∙ sym is'.links in
        omega (arith, as_many));
    others = λ l _ _. is'.flight l ∙ ap (line_on l) same ∙ sym (is.flight l);
  }

  -- where a message is sent on a link, all others are as they were
  pub others-sent : (l : ℕ) (m : Message) → t' ≡ after_sending l m t
      → (k : ℕ) → (k ≡ l → ⊥) → p.flight w' k ≡ p.flight w k
  others-sent l m sent k apart =
      is'.flight k ∙ ap (line_on k) sent ∙ line-other l t m k apart ∙ sym (is.flight k)

  -- a message is sent on a link of its own, or on one that is made
  pub beside-sent : (own : ℕ → Type 0) (l : ℕ) (m : Message) → t' ≡ after_sending l m t
      → ((k : ℕ) → k < t.links → (own k → ⊥) → k ≡ l → ⊥) → Beside p own w w'
  beside-sent own l m sent apart = record {
    stock = stock;
    deliveries = is'.deliveries ∙ ap deliveries_of sent ∙ deliveries-kept l t m ∙ sym is.deliveries;
    batch = is'.batch ∙ ap (λ (t : Traffic). t.batch) sent ∙ sym is.batch;
    grows = (
        let more = links-grow l t m in
        let links : p.links w' ≡ max t.links (l + 1) = is'.links ∙ ap (λ (t : Traffic). t.links) sent in
        let were = is.links in omega (arith, more, links, were));
    others = λ k within not_own.
        let links = is.links in others-sent l m sent k (apart k (omega (arith, within, links)) not_own);
  }

  pub line-sent : (l : ℕ) (m : Message) → t' ≡ after_sending l m t
      → p.flight w' l ≡ with_message (line_on l t) m
  line-sent l m sent = is'.flight l ∙ ap (line_on l) sent ∙ line-own l t m

  -- the call that makes a link
  pub first-beside : {E : Type 0} (r : Result ℕ E) (m : Message)
      → IfOk r (λ l. (l ≡ t.links) × (t' ≡ after_sending l m t)) → OnErr r (t' ≡ t) → Beside p (λ _. ⊥) w w'
  first-beside (Ok l) m ok err = beside-sent (λ _. ⊥) l m ok.1
      (λ k within _ same. let link = ok.0 in absurd (omega (arith, within, same, link)))
  first-beside (Err e) m ok err = beside-same (λ _. ⊥) err

  pub first-unused : {E : Type 0} (r : Result ℕ E) (m : Message)
      → IfOk r (λ l. (l ≡ t.links) × (t' ≡ after_sending l m t)) → line_on t.links t ≡ no_line
      → IfOk r (λ l. (p.links w ≤ l) × (l < p.links w') × (p.flight w l ≡ no_line))
  first-unused (Ok l) m ok unused =
      let link = ok.0 in
      let links : p.links w' ≡ max t.links (l + 1) = is'.links ∙ ap (λ (t : Traffic). t.links) ok.1 in
      let were = is.links in (
        omega (arith, link, were),
        omega (arith, links),
        is.flight l ∙ ap (λ k. line_on k t) link ∙ unused,
      )
  first-unused (Err e) m ok unused = tt

  pub first-line : {E : Type 0} (r : Result ℕ E) (m : Message)
      → IfOk r (λ l. (l ≡ t.links) × (t' ≡ after_sending l m t)) → line_on t.links t ≡ no_line
      → IfOk r (λ l. p.flight w' l ≡ with_message no_line m)
  first-line (Ok l) m ok unused =
      line-sent l m ok.1 ∙ ap (λ k. with_message (line_on k t) m) ok.0 ∙ ap (λ z. with_message z m) unused
  first-line (Err e) m ok unused = tt

  pub first-others : {E : Type 0} (r : Result ℕ E) (m : Message)
      → IfOk r (λ l. (l ≡ t.links) × (t' ≡ after_sending l m t))
      → IfOk r (λ l. (k : ℕ) → (k ≡ l → ⊥) → p.flight w' k ≡ p.flight w k)
  first-others (Ok l) m ok = others-sent l m ok.1
  first-others (Err e) m ok = tt

  -- the call that sends on a link that was made
  pub send-beside : (l : ℕ) (m : Message) → t' ≡ after_sending l m t → Beside p (λ k. k ≡ l) w w'
  send-beside l m sent = beside-sent (λ k. k ≡ l) l m sent (λ k within not_own. not_own)

  pub send-links : (l : ℕ) (m : Message) → l < t.links → t' ≡ after_sending l m t → p.links w' ≡ p.links w
  send-links l m within sent =
      let links : p.links w' ≡ max t.links (l + 1) = is'.links ∙ ap (λ (t : Traffic). t.links) sent in
      let were = is.links in omega (arith, links, were, within)

  pub send-line : (l : ℕ) (m : Message) → t' ≡ after_sending l m t
      → p.flight w' l ≡ with_message (p.flight w l) m
  send-line l m sent = line-sent l m sent ∙ ap (λ z. with_message z m) (sym (is.flight l))

  -- a message is taken
  pub taken-in : p.counted w' ≡ p.counted w → (place l : ℕ) (m : Message)
      → Takes place t t' l m → Taken p w w' l m
  taken-in counted place l m takes = record {
    stock_kept = stock;
    batch_kept = is'.batch ∙ ap (λ (t : Traffic). t.batch) takes.is ∙ sym is.batch;
    links_kept = is'.links ∙ ap (λ (t : Traffic). t.links) takes.is ∙ sym is.links;
    counted_kept = counted;
    older = messages_on l (take place t.flying);
    newer = messages_on l (drop (suc place) t.flying);
    was = ap (λ (z : Line). z.flying) (is.flight l) ∙ messages-were place t t' l m takes;
    is = ap (λ (z : Line). z.flying) (is'.flight l) ∙ messages-are place t t' l m takes;
    talk_kept = λ k. ap (λ (z : Line). z.talk) (is'.flight k) ∙ talk-kept place t t' l m takes k
        ∙ ap (λ (z : Line). z.talk) (sym (is.flight k));
    sent_kept = λ k. ap (λ (z : Line). z.sent) (is'.flight k) ∙ rows-kept place t t' l m takes k
        ∙ ap (λ (z : Line). z.sent) (sym (is.flight k));
    others = λ k apart. is'.flight k ∙ line-kept place t t' l m takes k apart ∙ sym (is.flight k);
  }

  -- the call that takes one
  pub delivered : p.counted w' ≡ p.counted w → (r : Option Delivered) (place : ℕ)
      → place < length (queue_of t)
      → MatchOption r ((length t.flying ≤ place) × (t' ≡ t)) (λ d. Takes place t t' d.link d.message
      × Delivers (length t.flying) place (deliveries_of t) (deliveries_of t'))
      → MatchOption r ⊥ (λ d. TakenAt place (queue_of t) (queue_of t') d.link d.message
      × Delivers (length (queue_of t)) place (p.deliveries w) (p.deliveries w')
      × Taken p w w' d.link d.message)
  delivered counted None place within none =
      let all = length-map t.flying flying_of in
      let out = none.0 in absurd (omega (arith, within, all, out))
  delivered counted (Some d) place within (takes, picked) = (
    queue-taken place t t' d.link d.message takes,
    rw (length-map t.flying flying_of, is.deliveries, is'.deliveries) picked,
    taken-in counted place d.link d.message takes,
  )
