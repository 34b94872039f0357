-- Lawful logs: what may be said of their entries, and how they grow.
use Rattle.std.proofs.Common.{◌≡◌, ℕ, ◌++◌, ◌⊎◌, inl, inr, List, [], ◌∷◌, length, refl, sym, ap, subst, append_assoc, arith}
use Rattle.std.specs.Prelude.{Some, slice_get, remove}
use Rattle.std.proofs.lemmas.List.{append-nil}
use Rattle.aql_net.specs.declared.logs.Sort.{Sort}
use Rattle.aql_net.specs.declared.logs.LogEntry.{LogEntry}
use Rattle.aql_net.specs.declared.logs.LogEntry.TheVariants.{Sent, Taken}
use Rattle.aql_net.specs.Logs.{Dispatch, sent_in, taken_in, in_flight, MayCome, IsLog}
use Rattle.aql_net.specs.laws.Entries.{sent_in-append, taken_in-append, sent_in-taken, taken_in-sent}
use Rattle.aql_net.proofs.Numbered.{Numbered, remaining-sent, numbered-sent, remaining-taken, numbered-taken}

-- ---- one entry more

head_is : {A : Type 0} (x y : A) (xs ys : List A) → x ∷ xs ≡ y ∷ ys → x ≡ y
head_is x y xs ys e = cc

tail_is : {A : Type 0} (x y : A) (xs ys : List A) → x ∷ xs ≡ y ∷ ys → xs ≡ ys
tail_is x y xs ys e = cc

none_is : {A : Type 0} (x : A) (xs ys : List A) → [] ≡ ys ++ x ∷ xs → ⊥
none_is x xs [] e = cc
none_is x xs (y ∷ ys) e = cc

-- an entry of a longer log is its last, or one of the log
split-push : (log before after : List LogEntry) (last entry : LogEntry)
    → log ++ last ∷ [] ≡ before ++ entry ∷ after
    → ((log ≡ before) × (last ≡ entry)) ⊎ ((rest : List LogEntry) × (log ≡ before ++ entry ∷ rest))
split-push [] [] after last entry e = inl (refl, head_is last entry [] after e)
split-push [] (b ∷ before) after last entry e =
    absurd (none_is entry after before (tail_is last b [] (before ++ entry ∷ after) e))
split-push (x ∷ log) [] after last entry e =
    inr (log, ap (λ z. z ∷ log) (head_is x entry (log ++ last ∷ []) after e))
split-push (x ∷ log) (b ∷ before) after last entry e =
    let same = head_is x b (log ++ last ∷ []) (before ++ entry ∷ after) e in
    let rest = tail_is x b (log ++ last ∷ []) (before ++ entry ∷ after) e in
    elim (split-push log before after last entry rest) [
      | inl h ↦ inl ((rw (same, h.0) refl), h.1)
      | inr h ↦ inr (h.0, (rw (same, h.1) refl))
    ]

pub is_log-push : (batch : ℕ) (log : List LogEntry) (entry : LogEntry) → IsLog batch log
    → MayCome batch log entry → IsLog batch (log ++ entry ∷ [])
is_log-push batch log last lawful may before after entry e =
    elim (split-push log before after last entry e) [
      | inl h ↦ subst (λ z. MayCome batch before z) h.1 (subst (λ z. MayCome batch z last) h.0 may)
      | inr h ↦ lawful before h.0 entry h.1
    ]

-- ---- the numbers of a lawful log

abbrev NumberedIn : List LogEntry → Type 0
NumberedIn log = Numbered (sent_in log) (taken_in log)

numbered-push : (batch : ℕ) (log : List LogEntry) (entry : LogEntry) → NumberedIn log
    → MayCome batch log entry → NumberedIn (log ++ entry ∷ [])
numbered-push batch log (Sent n l what) h may =
    let new : Dispatch = record { number = n; link = l; what = what } in
    rw (sent_in-append log (Sent n l what ∷ []), taken_in-sent log n l what)
    (numbered-sent (sent_in log) (taken_in log) new h may.number)
numbered-push batch log (Taken n) h may =
    rw (sent_in-taken log n, taken_in-append log (Taken n ∷ []))
    (numbered-taken (sent_in log) (taken_in log) n h may)

numbered-from : (batch : ℕ) (front rest : List LogEntry) → IsLog batch (front ++ rest) → NumberedIn front
    → NumberedIn (front ++ rest)
numbered-from batch front [] lawful h = subst NumberedIn (sym (append-nil front)) h
numbered-from batch front (entry ∷ rest) lawful h =
    let same = append_assoc front (entry ∷ []) rest in
    subst NumberedIn same
    (numbered-from batch (front ++ entry ∷ []) rest (subst (IsLog batch) (sym same) lawful)
    (numbered-push batch front entry h (lawful front rest entry refl)))

pub numbered-log : (batch : ℕ) (log : List LogEntry) → IsLog batch log → NumberedIn log
numbered-log batch log lawful = numbered-from batch [] log lawful (record {
  below = λ k d within. absurd (omega (arith, within));
  rising = λ i j d less within. absurd (omega (arith, within));
  known = λ k d within. absurd (omega (arith, within));
  as_many = refl;
})

-- ---- what is in flight

pub in_flight-sent : (batch : ℕ) (log : List LogEntry) (n l : ℕ) (what : Sort) → IsLog batch log
    → n ≡ length (sent_in log)
    → in_flight (log ++ Sent n l what ∷ [])
    ≡ in_flight log ++ record { number = n; link = l; what = what } ∷ []
in_flight-sent batch log n l what lawful next =
    let new : Dispatch = record { number = n; link = l; what = what } in
    rw (sent_in-append log (Sent n l what ∷ []), taken_in-sent log n l what)
    (remaining-sent (sent_in log) (taken_in log) new (numbered-log batch log lawful) next)

pub in_flight-taken : (batch : ℕ) (log : List LogEntry) (at : ℕ) (x : Dispatch) → IsLog batch log
    → slice_get (in_flight log) at ≡ Some x
    → in_flight (log ++ Taken x.number ∷ []) ≡ remove (in_flight log) at
in_flight-taken batch log at x lawful is =
    rw (sent_in-taken log x.number, taken_in-append log (Taken x.number ∷ []))
    (remaining-taken (sent_in log) (taken_in log) at x (numbered-log batch log lawful) is)
