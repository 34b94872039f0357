-- What is seen of a message that is sent.
use Rattle.std.proofs.Common.{◌≡◌, ℕ, ◌≤◌, ◌++◌, [], ◌∷◌, length, refl, sym, ap, ◌∙◌, arith}
use Rattle.std.specs.Prelude.{fold, sum_by}
use Rattle.std.proofs.lemmas.List.{append-nil}
use Rattle.aql_exec.specs.declared.turns.Message.{Message}
use Rattle.aql_exec.specs.declared.turns.Message.TheVariants.{Ask, Reply}
use Rattle.aql_exec.specs.Lines.{fresh, with_message}
use Rattle.aql_net.specs.Logs.{sort_of, sent_in, talk_of, rows_of_sort}
use Rattle.aql_net.specs.Traffic.{Traffic, messages_on, line_on, deliveries_of, after_sending}
use Rattle.aql_net.specs.laws.Entries.{said_on-other, talk_on-own, rows_on-own, picks_in-sent, taken_in-sent, same_line}
use Rattle.aql_net.specs.laws.Delivering.{messages_on-append, messages_on-own, messages_on-other}

module _ (l : ℕ) (t : Traffic) where
  -- on its link the message is the newest
  messages-own : (m : Message) → messages_on l (after_sending l m t).flying ≡ messages_on l t.flying ++ m ∷ []
  messages-own m =
      messages_on-append l t.flying (record { number = length (sent_in t.log); link = l; message = m } ∷ [])
      ∙ ap (λ z. messages_on l t.flying ++ z)
      (messages_on-own l (record { number = length (sent_in t.log); link = l; message = m }) [] refl)

  pub line-own : (m : Message) → line_on l (after_sending l m t) ≡ with_message (line_on l t) m
  line-own (Ask c) =
      same_line (talk_on-own l t.log (length (sent_in t.log)) (sort_of (Ask c))) (messages-own (Ask c))
      (rows_on-own l t.log (length (sent_in t.log)) (sort_of (Ask c)) ∙ omega arith)
  line-own (Reply step) =
      same_line (talk_on-own l t.log (length (sent_in t.log)) (sort_of (Reply step)))
      (messages-own (Reply step)) (rows_on-own l t.log (length (sent_in t.log)) (sort_of (Reply step)))

  -- on the others nothing is said
  pub line-other : (m : Message) (k : ℕ) → (k ≡ l → ⊥) → line_on k (after_sending l m t) ≡ line_on k t
  line-other m k apart =
      let n = length (sent_in t.log) in
      let said = said_on-other k l t.log n (sort_of m) apart in
      same_line (ap (fold (λ _ w. talk_of w) fresh) said)
      (messages_on-append k t.flying (record { number = n; link = l; message = m } ∷ [])
      ∙ ap (λ z. messages_on k t.flying ++ z)
      (messages_on-other k (record { number = n; link = l; message = m }) [] (λ e. apart (sym e)))
      ∙ append-nil (messages_on k t.flying))
      (ap (sum_by rows_of_sort) said)

  -- nothing is delivered
  pub deliveries-kept : (m : Message) → deliveries_of (after_sending l m t) ≡ deliveries_of t
  deliveries-kept m =
      let n = length (sent_in t.log) in
      rw (picks_in-sent t.log n l (sort_of m), taken_in-sent t.log n l (sort_of m)) refl

  pub links-grow : (m : Message) → t.links ≤ (after_sending l m t).links
  links-grow m = omega arith
