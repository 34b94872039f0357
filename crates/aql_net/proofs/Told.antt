-- A net keeps what is true of its fields when a message is sent, and when one is taken.
use Rattle.std.proofs.Common.{◌≡◌, ℕ, ◌+◌, ◌^◌, ◌<◌, ◌≤◌, ◌++◌, inl, inr, List, [], ◌∷◌, length, map, take, drop, suc, Bool, true, false, cond, refl, sym, ap, ap₂, ◌∙◌, arith}
use Rattle.std.specs.Prelude.{max, filter, fold, sum_by, remove, slice_get, Some, ◌==◌, option_map, not}
use Rattle.std.proofs.Math.Nat.{le_refl}
use Rattle.std.proofs.lemmas.Bool.{cases_eq}
use Rattle.std.proofs.lemmas.List.{map-append, take-map, drop-map, length-map, length_push, nil_from_length}
use Rattle.std.proofs.lemmas.List.Edits.{length-remove}
use Rattle.std.proofs.lemmas.Option.{slice_get-map, slice_get_within}
use Rattle.aql_exec.specs.declared.turns.Message.{Message}
use Rattle.aql_exec.specs.declared.turns.Message.TheVariants.{Ask, Reply}
use Rattle.aql_exec.specs.Lines.{Talk, fresh, asked, answered, no_line, Next}
use Rattle.aql_exec.specs.Links.{Delivers}
use Rattle.aql_net.specs.declared.logs.Sort.{Sort}
use Rattle.aql_net.specs.declared.logs.LogEntry.{LogEntry}
use Rattle.aql_net.specs.declared.logs.LogEntry.TheVariants.{Sent, Taken}
use Rattle.aql_net.specs.declared.net.Envelope.{Envelope}
use Rattle.aql_net.specs.Logs.{Dispatch, sort_of, sent_in, taken_in, is_taken, in_flight, said_on, talk_of, talk_on, rows_of_sort, MaySay, MaySend, pick_of, picks_in}
use Rattle.aql_net.specs.Traffic.{dispatch_of, messages_on, line_on, deliveries_of}
use Rattle.aql_net.specs.inner.Nets.{IsNet}
use Rattle.aql_net.specs.laws.Entries.{sent_in-append, sent_in-taken, taken_in-append, said_on-own, said_on-other, said_on-taken, picks_in-taken, same_line}
use Rattle.aql_net.proofs.Numbered.{rising-remaining, position-is}
use Rattle.aql_net.proofs.Lawful.{is_log-push, in_flight-sent, in_flight-taken, numbered-log}

-- what may be said next, as the log tells it
may_say : (batch : ℕ) (t : Talk) (m : Message) → Next batch t m → MaySay batch t (sort_of m)
may_say batch fresh (Ask c) next = next
may_say batch fresh (Reply step) next = next
may_say batch (asked d) (Ask c) next = next
may_say batch (asked d) (Reply step) next = record {
  within = next.skipped;
  soft = next.rows;
  first = next.first;
  ready = next.ready;
  more = next.more;
}
may_say batch (answered p) (Ask c) next = next
may_say batch (answered p) (Reply step) next = next

abbrev told_of : ℕ → List Dispatch → List Dispatch
told_of l ms = filter (λ m. m.link == l) ms

-- what is in flight on a link, as the log tells it
told_on : (l : ℕ) (xs : List Envelope)
    → length (messages_on l xs) ≡ length (told_of l (map dispatch_of xs))
told_on l [] = refl
told_on l (x ∷ xs) =
    let rest : List Envelope = filter (λ (e : Envelope). e.link == l) xs in
    let told : List Dispatch = told_of l (map dispatch_of xs) in
    elim (x.link == l) as (λ b. length (map (λ (e : Envelope). e.message) (cond b (x ∷ rest) rest))
    ≡ length (cond b (dispatch_of x ∷ told) told)) [
      | true ↦ ap (λ n. suc n) (told_on l xs)
      | false ↦ told_on l xs
    ]

map_remove : (xs : List Envelope) (at : ℕ) → remove (map dispatch_of xs) at ≡ map dispatch_of (remove xs at)
map_remove xs at = ap₂ (λ y z. y ++ z) (take-map dispatch_of at xs) (drop-map dispatch_of (suc at) xs)
    ∙ sym (map-append dispatch_of (take at xs) (drop (suc at) xs))

more_than_none : (xs : List Sort) (x : Sort) → xs ++ x ∷ [] ≡ [] → ⊥
more_than_none [] x e = cc
more_than_none (y ∷ xs) x e = cc

pub net-sent : (batch links : ℕ) (log : List LogEntry) (flying : List Envelope)
    (sent capacity capacity' l : ℕ) (m : Message) → IsNet batch links log flying sent capacity
    → l ≤ links → messages_on l flying ≡ [] → Next batch (talk_on l log) m
    → length log + (length flying + 2) ≤ capacity'
    → IsNet batch (max links (l + 1)) (log ++ Sent sent l (sort_of m) ∷ [])
    (flying ++ record { number = sent; link = l; message = m } ∷ []) (sent + 1) capacity'
net-sent batch links log flying sent capacity capacity' l m net within free next room =
    let what : Sort = sort_of m in
    let none : length (told_of l (map dispatch_of flying)) ≡ 0 =
    sym (told_on l flying) ∙ ap length free in
    let may : MaySend batch log sent l what = record {
      number = net.count;
      free = ap (filter (λ (d : Dispatch). d.link == l)) net.told ∙ nil_from_length _ none;
      next = may_say batch (talk_on l log) m next;
      made = λ k before. net.used k (omega (arith, before, within));
    } in
    record {
      lawful = is_log-push batch log (Sent sent l what) net.lawful may;
      count = (
          let more : length (sent_in (log ++ Sent sent l what ∷ [])) ≡ length (sent_in log) + 1 =
          ap length (sent_in-append log (Sent sent l what ∷ [])) ∙ length_push (sent_in log) _ in
          let was = net.count in omega (arith, more, was));
      told = in_flight-sent batch log sent l what net.lawful net.count
          ∙ ap (λ z. z ++ record { number = sent; link = l; what = what } ∷ []) net.told
          ∙ sym (map-append dispatch_of flying (record { number = sent; link = l; message = m } ∷ []));
      unused = λ k past. said_on-other k l log sent what (λ e. absurd (omega (arith, past, e)))
          ∙ net.unused k (omega (arith, past));
      used = λ k before none. elim (cases_eq k l) [
        | inl e ↦ more_than_none (said_on l log) what
            (sym (said_on-own l log sent what)
            ∙ ap (λ z. said_on z (log ++ Sent sent l what ∷ [])) (sym e) ∙ none)
        | inr apart ↦ net.used k (omega (arith, before, apart, within))
            (sym (said_on-other k l log sent what apart) ∙ none)
      ];
      room = (
          let more = length_push log (Sent sent l what) in
          let more' = length_push flying (record { number = sent; link = l; message = m }) in
          omega (arith, more, more', room));
    }

module _ (batch links : ℕ) (log : List LogEntry) (flying : List Envelope) (sent capacity at : ℕ)
    (x : Envelope) (net : IsNet batch links log flying sent capacity)
    (is : slice_get flying at ≡ Some x) where
  told_at : slice_get (in_flight log) at ≡ Some (dispatch_of x)
  told_at = ap (λ z. slice_get z at) net.told ∙ slice_get-map dispatch_of flying at
      ∙ ap (option_map dispatch_of) is

  place-is : (pick_of log x.number).place ≡ at
  place-is = position-is (in_flight log) at (dispatch_of x)
      (rising-remaining (sent_in log) (taken_in log) (numbered-log batch log net.lawful)) told_at

  among-is : (pick_of log x.number).among ≡ length flying
  among-is = ap length net.told ∙ length-map flying dispatch_of

  pub net-taken : (capacity' : ℕ) → capacity ≤ capacity'
      → IsNet batch links (log ++ Taken x.number ∷ []) (remove flying at) sent capacity'
  net-taken capacity' room =
      let within = slice_get_within flying at x is in
      let place = place-is in
      let among = among-is in
      record {
        lawful = is_log-push batch log (Taken x.number) net.lawful (omega (arith, within, place, among));
        count = net.count ∙ ap length (sym (sent_in-taken log x.number));
        told = in_flight-taken batch log at (dispatch_of x) net.lawful told_at
            ∙ ap (λ z. remove z at) net.told ∙ map_remove flying at;
        unused = λ k past. said_on-taken k log x.number ∙ net.unused k past;
        used = λ k before none. net.used k before (sym (said_on-taken k log x.number) ∙ none);
        room = (
            let more = length_push log (Taken x.number) in
            let fewer = length-remove flying at within in
            let was = net.room in omega (arith, more, fewer, was, room));
      }

  pub net-picked : (links' : ℕ) (flying' : List Envelope) → sent < 2 ^ 64
      → Delivers (length flying) at
      (deliveries_of (record { batch = batch; links = links'; log = log; flying = flying' }))
      (deliveries_of (record {
        batch = batch;
        links = links;
        log = log ++ Taken x.number ∷ [];
        flying = remove flying at;
      }))
  net-picked links' flying' fits = record {
    picks = picks_in-taken log x.number
        ∙ ap₂ (λ (n k : ℕ). picks_in log ++ record { among = n; place = k } ∷ []) among-is place-is;
    left = (
        let within = slice_get_within flying at x is in
        let among = among-is in
        let many = (numbered-log batch log net.lawful).as_many in
        let count = net.count in
        let more : length (taken_in (log ++ Taken x.number ∷ [])) ≡ length (taken_in log) + 1 =
        ap length (taken_in-append log (Taken x.number ∷ [])) ∙ length_push (taken_in log) x.number in
        omega (arith, within, among, many, count, more, fits));
  }

-- ---- the next link

-- what is left of messages has no more on a link than they had
fewer_on : (l : ℕ) (p : Dispatch → Bool) (xs : List Dispatch)
    → length (told_of l (filter p xs)) ≤ length (told_of l xs)
fewer_on l p [] = omega arith
fewer_on l p (x ∷ xs) =
    let all : List Dispatch = told_of l xs in
    let some : List Dispatch = told_of l (filter p xs) in
    let less : length some ≤ length all = fewer_on l p xs in
    elim (p x) as (λ b. length (told_of l (cond b (x ∷ filter p xs) (filter p xs)))
    ≤ length (cond (x.link == l) (x ∷ all) all)) [
      | true ↦ elim (x.link == l) as (λ d. length (cond d (x ∷ some) some) ≤ length (cond d (x ∷ all) all)) [
        | true ↦ omega (arith, less)
        | false ↦ less
      ]
      | false ↦ elim (x.link == l) as (λ d. length some ≤ length (cond d (x ∷ all) all)) [
        | true ↦ omega (arith, less)
        | false ↦ less
      ]
    ]

none_left : (l : ℕ) (log : List LogEntry) → said_on l log ≡ []
    → length (told_of l (in_flight log)) ≡ 0
none_left l log none =
    let some = fewer_on l (λ m. not (is_taken log m.number)) (sent_in log) in
    let said = length-map (told_of l (sent_in log)) (λ (m : Dispatch). m.what) in
    let no_more : length (said_on l log) ≡ 0 = ap length none in
    omega (arith, some, said, no_more)

-- a link on which nothing was said has nothing in flight
pub unused-free : (batch links : ℕ) (log : List LogEntry) (flying : List Envelope) (sent capacity : ℕ)
    → IsNet batch links log flying sent capacity → messages_on links flying ≡ []
unused-free batch links log flying sent capacity net =
    nil_from_length (messages_on links flying)
    (told_on links flying ∙ ap (λ z. length (told_of links z)) (sym net.told)
    ∙ none_left links log (net.unused links (le_refl links)))

pub unused-line : (batch links : ℕ) (log : List LogEntry) (flying : List Envelope) (sent capacity : ℕ)
    → IsNet batch links log flying sent capacity
    → line_on links (record { batch = batch; links = links; log = log; flying = flying }) ≡ no_line
unused-line batch links log flying sent capacity net =
    let none = net.unused links (le_refl links) in
    same_line (ap (fold (λ _ what. talk_of what) fresh) none)
    (unused-free batch links log flying sent capacity net)
    (ap (sum_by rows_of_sort) none)
