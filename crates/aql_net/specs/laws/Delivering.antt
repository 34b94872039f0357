-- What is seen of a delivery.
use Rattle.std.proofs.Common.{◌≡◌, ℕ, zero, suc, ◌<◌, ◌≤◌, ◌++◌, List, [], ◌∷◌, length, map, take, drop, Bool, true, false, cond, refl, sym, ap, ◌∙◌, arith}
use Rattle.std.specs.Prelude.{◌==◌, filter, slice_get, Some}
use Rattle.std.proofs.lemmas.Bool.{eq-eqb, ne_eqb}
use Rattle.std.proofs.lemmas.List.{map-append, length-map, length-take-le}
use Rattle.std.proofs.lemmas.List.Elements.{filter-append}
use Rattle.std.proofs.lemmas.Option.{none-some, same_Some, slice_get_within}
use Rattle.aql_exec.specs.declared.turns.Message.{Message}
use Rattle.aql_exec.specs.Links.{TakenAt}
use Rattle.aql_net.specs.declared.net.Envelope.{Envelope}
use Rattle.aql_net.specs.Logs.{talk_on, rows_on}
use Rattle.aql_net.specs.Traffic.{Traffic, messages_on, line_on, flying_of, queue_of, Takes}
use Rattle.aql_net.specs.laws.Entries.{talk_on-taken, rows_on-taken, same_line}

fewer : (p : Envelope → Bool) (xs : List Envelope) → length (filter p xs) ≤ length xs
fewer p [] = omega arith
fewer p (x ∷ xs) = elim (p x) as (λ b. length (cond b (x ∷ filter p xs) (filter p xs)) ≤ length (x ∷ xs)) [
  | true ↦ omega (arith, fewer p xs)
  | false ↦ omega (arith, fewer p xs)
]

abbrev on_link : ℕ → List Envelope → List Envelope
on_link l xs = filter (λ e. e.link == l) xs

-- where a message is on a link, one is in flight
pub some_in_queue : (t : Traffic) (l : ℕ) → 0 < length (line_on l t).flying → 0 < length (queue_of t)
some_in_queue t l some =
    let few = fewer (λ (e : Envelope). e.link == l) t.flying in
    let as_many = length-map (on_link l t.flying) (λ (e : Envelope). e.message) in
    let all = length-map t.flying flying_of in
    omega (arith, some, few, as_many, all)

-- a list is what is before a place, what is there, and what is after it
pub split_at : {X : Type 0} (xs : List X) (at : ℕ) (x : X) → slice_get xs at ≡ Some x
    → xs ≡ take at xs ++ x ∷ drop (suc at) xs
split_at [] at x is = absurd (none-some x is)
split_at (y ∷ xs) zero x is = ap (λ z. z ∷ xs) (same_Some y x is)
split_at (y ∷ xs) (suc at) x is = ap (λ z. y ∷ z) (split_at xs at x is)

pub messages_on-append : (l : ℕ) (xs ys : List Envelope)
    → messages_on l (xs ++ ys) ≡ messages_on l xs ++ messages_on l ys
messages_on-append l xs ys = ap (map (λ (e : Envelope). e.message)) (filter-append (λ e. e.link == l) xs ys)
    ∙ map-append (λ (e : Envelope). e.message) (on_link l xs) (on_link l ys)

pub messages_on-own : (l : ℕ) (x : Envelope) (xs : List Envelope) → x.link ≡ l
    → messages_on l (x ∷ xs) ≡ x.message ∷ messages_on l xs
messages_on-own l x xs is =
    ap (λ b. map (λ (e : Envelope). e.message) (cond b (x ∷ on_link l xs) (on_link l xs)))
    (eq-eqb x.link l is)

pub messages_on-other : (l : ℕ) (x : Envelope) (xs : List Envelope) → (x.link ≡ l → ⊥)
    → messages_on l (x ∷ xs) ≡ messages_on l xs
messages_on-other l x xs apart =
    ap (λ b. map (λ (e : Envelope). e.message) (cond b (x ∷ on_link l xs) (on_link l xs)))
    (ne_eqb x.link l apart)

module _ (place : ℕ) (before after : Traffic) (l : ℕ) (m : Message)
    (takes : Takes place before after l m) where
  abbrev envelope : Envelope
  envelope = record { number = takes.number; link = l; message = m }

  abbrev older : List Envelope
  older = take place before.flying

  abbrev newer : List Envelope
  newer = drop (suc place) before.flying

  were : before.flying ≡ older ++ envelope ∷ newer
  were = split_at before.flying place envelope takes.was

  -- of the queue it is the one at the place
  pub queue-taken : TakenAt place (queue_of before) (queue_of after) l m
  queue-taken = record {
    older = map flying_of older;
    newer = map flying_of newer;
    was = ap (map flying_of) were ∙ map-append flying_of older (envelope ∷ newer);
    is = ap queue_of takes.is ∙ map-append flying_of older newer;
    at = length-map older flying_of
        ∙ length-take-le place before.flying
        (let within = slice_get_within before.flying place envelope takes.was in omega (arith, within));
  }

  -- on its link it is one of the messages
  pub messages-were : messages_on l before.flying
      ≡ messages_on l (take place before.flying) ++ m ∷ messages_on l (drop (suc place) before.flying)
  messages-were = ap (messages_on l) were ∙ messages_on-append l older (envelope ∷ newer)
      ∙ ap (λ z. messages_on l older ++ z) (messages_on-own l envelope newer refl)

  pub messages-are : messages_on l after.flying
      ≡ messages_on l (take place before.flying) ++ messages_on l (drop (suc place) before.flying)
  messages-are = ap (λ (t : Traffic). messages_on l t.flying) takes.is ∙ messages_on-append l older newer

  pub messages-others : (k : ℕ) → (k ≡ l → ⊥) → messages_on k after.flying ≡ messages_on k before.flying
  messages-others k apart = ap (λ (t : Traffic). messages_on k t.flying) takes.is
      ∙ messages_on-append k older newer
      ∙ ap (λ z. messages_on k older ++ z) (sym (messages_on-other k envelope newer (λ e. apart (sym e))))
      ∙ sym (messages_on-append k older (envelope ∷ newer))
      ∙ ap (messages_on k) (sym were)

  -- nothing is said
  pub talk-kept : (k : ℕ) → talk_on k after.log ≡ talk_on k before.log
  talk-kept k = ap (λ (t : Traffic). talk_on k t.log) takes.is ∙ talk_on-taken k before.log takes.number

  pub rows-kept : (k : ℕ) → rows_on k after.log ≡ rows_on k before.log
  rows-kept k = ap (λ (t : Traffic). rows_on k t.log) takes.is ∙ rows_on-taken k before.log takes.number

  pub line-kept : (k : ℕ) → (k ≡ l → ⊥) → line_on k after ≡ line_on k before
  line-kept k apart = same_line (talk-kept k) (messages-others k apart) (rows-kept k)
