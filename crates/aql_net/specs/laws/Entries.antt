-- What a log tells with one entry more.
use Rattle.std.proofs.Common.{◌≡◌, ℕ, suc, length, ◌+◌, ◌++◌, List, [], ◌∷◌, map, cond, refl, sym, ap, ◌∙◌, append_assoc}
use Rattle.std.specs.Prelude.{◌==◌, filter, fold, sum_by}
use Rattle.std.proofs.lemmas.Bool.{eq-eqb, ne_eqb}
use Rattle.std.proofs.lemmas.List.{append-nil, map-append}
use Rattle.std.proofs.lemmas.List.Elements.{filter-append}
use Rattle.std.proofs.lemmas.List.Sums.{sum_by_push}
use Rattle.aql_exec.specs.declared.turns.Message.{Message}
use Rattle.aql_exec.specs.Lines.{Talk, Line, fresh}
use Rattle.aql_net.specs.declared.logs.Sort.{Sort}
use Rattle.aql_net.specs.declared.logs.LogEntry.{LogEntry}
use Rattle.aql_net.specs.declared.logs.LogEntry.TheVariants.{Sent, Taken}
use Rattle.aql_net.specs.Logs.{Dispatch, sent_in, taken_in, said_on, talk_of, talk_on, rows_of_sort, rows_on, pick_of, picks_after, picks_in}

pub sent_in-append : (log more : List LogEntry) → sent_in (log ++ more) ≡ sent_in log ++ sent_in more
sent_in-append [] more = refl
sent_in-append (Sent n l what ∷ log) more =
    ap (λ z. record { number = n; link = l; what = what } ∷ z) (sent_in-append log more)
sent_in-append (Taken n ∷ log) more = sent_in-append log more

pub taken_in-append : (log more : List LogEntry) → taken_in (log ++ more) ≡ taken_in log ++ taken_in more
taken_in-append [] more = refl
taken_in-append (Sent n l what ∷ log) more = taken_in-append log more
taken_in-append (Taken n ∷ log) more = ap (λ z. n ∷ z) (taken_in-append log more)

-- what is taken is no message more
pub sent_in-taken : (log : List LogEntry) (n : ℕ) → sent_in (log ++ Taken n ∷ []) ≡ sent_in log
sent_in-taken log n = sent_in-append log (Taken n ∷ []) ∙ append-nil (sent_in log)

pub taken_in-sent : (log : List LogEntry) (n l : ℕ) (what : Sort)
    → taken_in (log ++ Sent n l what ∷ []) ≡ taken_in log
taken_in-sent log n l what = taken_in-append log (Sent n l what ∷ []) ∙ append-nil (taken_in log)

pub said_on-append : (l : ℕ) (log more : List LogEntry)
    → said_on l (log ++ more) ≡ said_on l log ++ said_on l more
said_on-append l log more =
    ap (λ z. map (λ (m : Dispatch). m.what) (filter (λ m. m.link == l) z)) (sent_in-append log more)
    ∙ ap (map (λ (m : Dispatch). m.what)) (filter-append (λ m. m.link == l) (sent_in log) (sent_in more))
    ∙ map-append (λ (m : Dispatch). m.what) (filter (λ m. m.link == l) (sent_in log))
    (filter (λ m. m.link == l) (sent_in more))

pub said_on-taken : (l : ℕ) (log : List LogEntry) (n : ℕ) → said_on l (log ++ Taken n ∷ []) ≡ said_on l log
said_on-taken l log n = said_on-append l log (Taken n ∷ []) ∙ append-nil (said_on l log)

abbrev dispatch : ℕ → ℕ → Sort → Dispatch
dispatch n l what = record { number = n; link = l; what = what }

pub said_on-own : (l : ℕ) (log : List LogEntry) (n : ℕ) (what : Sort)
    → said_on l (log ++ Sent n l what ∷ []) ≡ said_on l log ++ what ∷ []
said_on-own l log n what = said_on-append l log (Sent n l what ∷ [])
    ∙ ap (λ b. said_on l log ++ map (λ (m : Dispatch). m.what) (cond b (dispatch n l what ∷ []) []))
    (eq-eqb l l refl)

pub said_on-other : (k l : ℕ) (log : List LogEntry) (n : ℕ) (what : Sort) → (k ≡ l → ⊥)
    → said_on k (log ++ Sent n l what ∷ []) ≡ said_on k log
said_on-other k l log n what apart = said_on-append k log (Sent n l what ∷ [])
    ∙ ap (λ b. said_on k log ++ map (λ (m : Dispatch). m.what) (cond b (dispatch n l what ∷ []) []))
    (ne_eqb l k (λ e. apart (sym e)))
    ∙ append-nil (said_on k log)

fold_push : {A B : Type 0} (f : B → A → B) (a : B) (xs : List A) (x : A)
    → fold f a (xs ++ x ∷ []) ≡ f (fold f a xs) x
fold_push f a [] x = refl
fold_push f a (y ∷ xs) x = fold_push f (f a y) xs x

-- what was said last is what is sent
pub talk_on-own : (l : ℕ) (log : List LogEntry) (n : ℕ) (what : Sort)
    → talk_on l (log ++ Sent n l what ∷ []) ≡ talk_of what
talk_on-own l log n what = ap (fold (λ _ w. talk_of w) fresh) (said_on-own l log n what)
    ∙ fold_push (λ _ w. talk_of w) fresh (said_on l log) what

pub rows_on-own : (l : ℕ) (log : List LogEntry) (n : ℕ) (what : Sort)
    → rows_on l (log ++ Sent n l what ∷ []) ≡ rows_on l log + rows_of_sort what
rows_on-own l log n what = ap (sum_by rows_of_sort) (said_on-own l log n what)
    ∙ sum_by_push rows_of_sort (said_on l log) what

-- picks are of what is taken
pub picks_after-append : (before log more : List LogEntry)
    → picks_after before (log ++ more) ≡ picks_after before log ++ picks_after (before ++ log) more
picks_after-append before [] more = ap (λ z. picks_after z more) (sym (append-nil before))
picks_after-append before (Sent n l what ∷ log) more =
    picks_after-append (before ++ Sent n l what ∷ []) log more
    ∙ ap (λ z. picks_after (before ++ Sent n l what ∷ []) log ++ picks_after z more)
    (append_assoc before (Sent n l what ∷ []) log)
picks_after-append before (Taken n ∷ log) more =
    ap (λ z. pick_of before n ∷ z) (picks_after-append (before ++ Taken n ∷ []) log more
    ∙ ap (λ z. picks_after (before ++ Taken n ∷ []) log ++ picks_after z more)
    (append_assoc before (Taken n ∷ []) log))

pub picks_in-sent : (log : List LogEntry) (n l : ℕ) (what : Sort)
    → picks_in (log ++ Sent n l what ∷ []) ≡ picks_in log
picks_in-sent log n l what = picks_after-append [] log (Sent n l what ∷ []) ∙ append-nil (picks_in log)

pub picks_in-taken : (log : List LogEntry) (n : ℕ)
    → picks_in (log ++ Taken n ∷ []) ≡ picks_in log ++ pick_of log n ∷ []
picks_in-taken log n = picks_after-append [] log (Taken n ∷ [])

length-picks_after : (before log : List LogEntry) → length (picks_after before log) ≡ length (taken_in log)
length-picks_after before [] = refl
length-picks_after before (Sent n l what ∷ log) = length-picks_after (before ++ Sent n l what ∷ []) log
length-picks_after before (Taken n ∷ log) = ap suc (length-picks_after (before ++ Taken n ∷ []) log)

-- as many as messages that were taken
pub length-picks_in : (log : List LogEntry) → length (picks_in log) ≡ length (taken_in log)
length-picks_in log = length-picks_after [] log

-- nothing is said where a message is taken
pub talk_on-taken : (l : ℕ) (log : List LogEntry) (n : ℕ) → talk_on l (log ++ Taken n ∷ []) ≡ talk_on l log
talk_on-taken l log n = ap (fold (λ _ w. talk_of w) fresh) (said_on-taken l log n)

pub rows_on-taken : (l : ℕ) (log : List LogEntry) (n : ℕ) → rows_on l (log ++ Taken n ∷ []) ≡ rows_on l log
rows_on-taken l log n = ap (sum_by rows_of_sort) (said_on-taken l log n)

pub same_line : {t t' : Talk} {f f' : List Message} {s s' : ℕ} → t ≡ t' → f ≡ f' → s ≡ s'
    → ◌≡◌ {A = Line} (record { talk = t; flying = f; sent = s })
    (record { talk = t'; flying = f'; sent = s' })
same_line e f g = rw (e, f, g) refl
