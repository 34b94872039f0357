-- A link: what its two ends leave to give after each step, and how far its ask has come.
use Rattle.std.proofs.Common.{◌≡◌, ℕ, zero, suc, ◌+◌, ◌<◌, ◌≤◌, List, [], ◌++◌, length, Bool, true, false, cond, refl, sym, ap, ◌∙◌, subst, arith, append_assoc, length-append}
use Rattle.std.specs.Prelude.{Option, Some}
use Rattle.std.proofs.Math.Nat.{le_refl}
use Rattle.std.proofs.lemmas.List.{nil_from_length, append-nil}
use mathlib.Core.Bool.{false≢true}
use Rattle.aql_meaning.specs.Row.{Row}
use Rattle.aql_block.specs.declared.calls.Step.{Step}
use Rattle.aql_exec.specs.Rests.{Counts, Exact, Rest, Prefixed, with_rows}
use Rattle.aql_exec.specs.Steps.{Continues, given}
use Rattle.aql_exec.specs.Counting.{nothing}
use Rattle.aql_exec.specs.Operators.{on_this, is_first}
use Rattle.aql_exec.specs.Lines.{Line}
use Rattle.aql_exec.specs.laws.Handing.{none_unreported, same_rows, same_counts}
use Rattle.aql_block.specs.Tables.{rows_of}
use Rattle.aql_exec_cluster.specs.declared.remote.Remote.{Remote}
use Rattle.aql_exec_cluster.specs.declared.remote.Stage.TheVariants.{Replied}
use Rattle.aql_exec_cluster.specs.Remotes.{on_link, ThisLink, replied, kept, at_end, opens, closes, Due, due, Sending, gives_rows}
use Rattle.aql_exec_cluster.proofs.Sending.{on_this_plus}

-- ---- what is still to be sent

-- with so much counted, what one state sends is what another did
abbrev pub Owes : Counts → Due → Due → Type 0
Owes d o o' = (i : Rest) (after : Counts) → Sending o' i after → Sending o i (λ c. after c + d c)

pub owes_none : (o o' : Due) → o' ≡ o → Owes nothing o o'
owes_none o o' e i after h =
    let k : Sending o i after = subst (λ z. Sending z i after) e h in
    (k.0, k.1, λ c. (let m = k.2 c in omega (arith, m)))

-- so many opened it, closed it, and were sent
pub owes_some : (o o' : Due) (l a b m : ℕ) → ThisLink o.link l → o'.link ≡ Some l
    → opens o'.link + a ≡ opens o.link → closes o'.done + b ≡ closes o.done → o'.unsent + m ≡ o.unsent
    → Owes (on_this l a b m) o o'
owes_some o o' l a b m this link opened closed sent i after h =
    let here : h.0 ≡ l = subst (λ z. ThisLink z h.0) link h.1 in
    let n = length i.rows in
    let all : (o'.unsent + n) + m ≡ o.unsent + n = omega (arith, sent) in (
      l,
      this,
      λ c. (let k = h.2 c in
          let at = ap (λ z. on_this z (opens o'.link) (closes o'.done) (o'.unsent + n) c) here in
          let sum = on_this_plus l (opens o'.link) (closes o'.done) (o'.unsent + n) a b m c in
          let same = ap (λ z. on_this l z (closes o'.done + b) ((o'.unsent + n) + m) c) opened
          ∙ ap (λ z. on_this l (opens o.link) z ((o'.unsent + n) + m) c) closed
          ∙ ap (λ z. on_this l (opens o.link) (closes o.done) z c) all in omega (arith, k, at, sum, same)),
    )

-- a link that the state has is this one
pub this_link : (link : Option ℕ) (l : ℕ) → link ≡ Some l → ThisLink link l
this_link link l e = subst (λ z. ThisLink z l) (sym e) refl

-- an ask was sent
pub ask_owed : (s s' : Remote) (l : ℕ) → s'.link ≡ Some l → ThisLink s.link l
    → s'.done ≡ s.done → s'.answer ≡ s.answer → Owes (on_this l (opens s.link) 0 0) (due s) (due s')
ask_owed s s' l e this same_done same_answer =
    let done = ap closes same_done in
    let answer = ap (λ z. length (rows_of z)) same_answer in
    let none = ap opens e in
    owes_some (due s) (due s') l (opens s.link) 0 0 this e (omega (arith, none)) (omega (arith, done))
    (omega (arith, answer))

-- a reply was sent
pub reply_owed : (s s' : Remote) (l : ℕ) → s.link ≡ Some l
    → s' ≡ record s { stage = Replied; answer = s'.answer } → rows_of s'.answer ≡ []
    → Owes (on_this l 0 0 (length (rows_of s.answer))) (due s) (due s')
reply_owed s s' l e same none =
    let link = ap (λ z. z.link) same in
    let opened = ap opens link in
    let done = ap (λ z. closes z.done) same in
    let answer = ap length none in
    owes_some (due s) (due s') l 0 0 (length (rows_of s.answer)) (this_link s.link l e) (link ∙ e)
    (omega (arith, opened)) (omega (arith, done)) (omega (arith, answer))

-- a reply came
pub reply_taken : (s : Remote) (l : ℕ) (last : Bool) → s.link ≡ Some l → s.done ≡ false
    → Owes (on_this l 0 (cond last 1 0) 0) (due s) (record (due s) { done = last })
reply_taken s l last e not_done =
    let before = ap closes not_done in
    let after = either last in
    owes_some (due s) (record (due s) { done = last }) l 0 (cond last 1 0) 0 (this_link s.link l e) e
    (omega arith) (omega (arith, before, after)) (omega arith)
  where
    either : (b : Bool) → closes b + cond b 1 0 ≡ 1
    either true = refl
    either false = refl

-- ---- what a turn gives

regroup : (k s b k' i r : List Row) → k ≡ (s ++ b) ++ k' → r ≡ k' ++ i → k ++ i ≡ (s ++ b) ++ r
regroup k s b k' i r e f = rw (e, f) (append_assoc (s ++ b) k' i)

-- at the asking end
pub gave_rows : {e : Exact} (o o' : Due) (k k' s : List Row) (p : ℕ) (d : Counts)
    (step : Step)
    (q : List Row) (i' i : Rest) → p ≤ 0 → Owes d o o' → length q ≡ 0 → i' ≡ with_rows q i
    → length s ≡ step.skipped → k ≡ (s ++ given step) ++ k'
    → Continues e (gives_rows o k p i') d step (gives_rows o' k' p i)
gave_rows o o' k k' s zero d step q i' i z owes l is ls rows r h =
    let same : i' ≡ i = none_unreported q i' i l is in (
      s,
      record { rows = k ++ i.rows; counts = λ c. r.counts c + d c },
      ls,
      record {
        rows = regroup k s (given step) k' i.rows r.rows rows h.0;
        counts = λ c. le_refl (r.counts c + d c);
        exact = λ c x. le_refl (r.counts c + d c);
      },
      rw same (refl, owes i r.counts h.1),
    )
gave_rows o o' k k' s (suc p) d step q i' i z owes l is ls rows r h = absurd (omega (arith, z))

none_then : (b r : List Row) → b ≡ [] → r ≡ [] → [] ≡ ([] ++ b) ++ r
none_then b r e f = rw (e, f) refl

-- at the serving end
pub served : {e : Exact} (o o' : Due) (k k' : List Row) (p : ℕ) (d : Counts) (step : Step)
    (q : List Row) (i' i : Rest) → 0 < p → Owes d o o' → length q ≡ 0 → i' ≡ with_rows q i
    → step.skipped ≡ 0 → given step ≡ []
    → Continues e (gives_rows o k p i') d step (gives_rows o' k' p i)
served o o' k k' zero d step q i' i z owes l is none rows r h = absurd (omega (arith, z))
served o o' k k' (suc p) d step q i' i z owes l is none rows r h =
    let same : i' ≡ i = none_unreported q i' i l is in (
      [],
      record { rows = []; counts = λ c. r.counts c + d c },
      sym none,
      record {
        rows = none_then (given step) r.rows rows h.0;
        counts = λ c. le_refl (r.counts c + d c);
        exact = λ c x. le_refl (r.counts c + d c);
      },
      rw same (refl, owes i r.counts h.1),
    )

-- at the other end, where the rows stay
pub beside_kept : {e : Exact} (o o' : Due) (k k' : List Row) (p : ℕ) (d : Counts)
    (q : List Row) (i' i r : Rest) → k' ≡ k → Owes d o o' → length q ≡ 0 → i' ≡ with_rows q i
    → gives_rows o' k' p i r → (b : Rest) × Prefixed e [] d r b × gives_rows o k p i' b
beside_kept o o' k k' p d q i' i r kept owes l is h =
    let same : i' ≡ i = none_unreported q i' i l is in (
      record { rows = r.rows; counts = λ c. r.counts c + d c },
      record {
        rows = refl;
        counts = λ c. le_refl (r.counts c + d c);
        exact = λ c x. le_refl (r.counts c + d c);
      },
      rw same (h.0 ∙ ap (λ z. at_end p (z ++ i.rows)) kept, owes i r.counts h.1),
    )

-- at the serving end, where the asking end gave some
pub beside_given : {e : Exact} (o o' : Due) (k k' : List Row) (p port : ℕ) (d : Counts)
    (q : List Row) (i' i r : Rest) → port ≤ 0 → (p ≡ port → ⊥) → Owes d o o' → length q ≡ 0
    → i' ≡ with_rows q i → gives_rows o' k' p i r
    → (b : Rest) × Prefixed e [] d r b × gives_rows o k p i' b
beside_given o o' k k' zero port d q i' i r z other owes l is h = absurd (other (omega (arith, z)))
beside_given o o' k k' (suc p) port d q i' i r z other owes l is h =
    let same : i' ≡ i = none_unreported q i' i l is in (
      record { rows = r.rows; counts = λ c. r.counts c + d c },
      record {
        rows = refl;
        counts = λ c. le_refl (r.counts c + d c);
        exact = λ c x. le_refl (r.counts c + d c);
      },
      rw same (h.0, owes i r.counts h.1),
    )

-- a message came, and so much was counted
pub came_on : {e : Exact} (o o' : Due) (k k' : List Row) (p : ℕ) (d : Counts) (i r : Rest) → k' ≡ k
    → Owes d o o' → gives_rows o' k' p i r → (b : Rest) × Prefixed e [] d r b × gives_rows o k p i b
came_on o o' k k' p d i r kept owes h = (
  record { rows = r.rows; counts = λ c. r.counts c + d c },
  record {
    rows = refl;
    counts = λ c. le_refl (r.counts c + d c);
    exact = λ c x. le_refl (r.counts c + d c);
  },
  (h.0 ∙ ap (λ z. at_end p (z ++ i.rows)) kept, owes i r.counts h.1),
)

-- nothing changed
pub same_rest : (o : Due) (k k' : List Row) (p : ℕ) (i r : Rest) → k' ≡ k
    → gives_rows o k' p i r → gives_rows o k p i r
same_rest o k k' p i r kept h = (h.0 ∙ ap (λ z. at_end p (z ++ i.rows)) kept, h.1)

-- the serving end never gives a row
pub none_served : (o : Due) (k : List Row) (p : ℕ) (i r : Rest) → 0 < p → gives_rows o k p i r
    → r.rows ≡ []
none_served o k zero i r z h = absurd (omega (arith, z))
none_served o k (suc p) i r z h = h.0

pub not_first : (p : ℕ) → 0 < p → is_first p ≡ true → ⊥
not_first zero h e = omega (arith, h)
not_first (suc p) h e = false≢true e

-- a step that tells of nothing
pub none_given : (k block : List Row) → block ≡ [] → k ≡ ([] ++ block) ++ k
none_given k block e = sym (ap (λ z. ([] ++ z) ++ k) e)

-- what is held is given first
pub held_given : (s s' : Remote) (f : ℕ → Line) (skipped block : List Row) → s'.link ≡ s.link
    → s'.answer ≡ s.answer
    → rows_of s.held ≡ (skipped ++ block) ++ rows_of s'.held
    → kept s (on_link s.link f).flying ≡ (skipped ++ block) ++ kept s' (on_link s'.link f).flying
held_given s s' f skipped block link answer held =
    let rest = replied (on_link s.link f).flying ++ rows_of s.answer in
    ap (λ z. z ++ rest) held ∙ append_assoc (skipped ++ block) (rows_of s'.held) rest
    ∙ ap (λ z. (skipped ++ block) ++ (rows_of s'.held ++ (replied (on_link z f).flying ++ rows_of s.answer)))
    (sym link)
    ∙ ap (λ z. (skipped ++ block) ++ (rows_of s'.held ++ (replied (on_link s'.link f).flying ++ rows_of z)))
    (sym answer)

pub same_budget : (k k' : List Row) (b : Bool) → k' ≡ k → length k' + cond b 0 1 ≤ length k + cond b 0 1
same_budget k k' b e = (let n = ap length e in omega (arith, n))

-- ---- a step of the input

-- the rows of the step, which are still to be sent, stand before those to come
pub took_rows : {e : Exact} (o o' : Due) (k k' block : List Row) (p : ℕ) (d : Counts)
    (s0 s : List Row)
    (i' i t b r : Rest) → k' ≡ k ++ block → o' ≡ record o { unsent = o.unsent + length block }
    → length s0 ≡ 0 → length s ≡ 0
    → Prefixed e (s ++ block) d t b → i' ≡ with_rows (s0 ++ s) t → i ≡ with_rows s0 b
    → gives_rows o' k' p i' r → (q : Rest) × Prefixed e [] d r q × gives_rows o k p i q
took_rows o o' k k' block p d s0 s i' i t b r rows more l0 l a e' e0 h =
    let none0 : s0 ≡ [] = nil_from_length s0 l0 in
    let none : s ≡ [] = nil_from_length s l in
    let after : i'.rows ≡ t.rows =
    ap (λ (z : Rest). z.rows) e' ∙ ap (λ z. (z ++ s) ++ t.rows) none0 ∙ ap (λ z. z ++ t.rows) none in
    let before : i.rows ≡ block ++ t.rows =
    same_rows s0 i b l0 e0 ∙ a.rows ∙ ap (λ z. (z ++ block) ++ t.rows) none in
    let many : length i.rows ≡ length block + length i'.rows =
    ap length before ∙ length-append block t.rows ∙ ap (λ z. length block + length z) (sym after) in
    let total : (o.unsent + length block) + length i'.rows ≡ o.unsent + length i.rows = omega (arith, many) in
    let g : Sending (record o { unsent = o.unsent + length block }) i' r.counts =
    subst (λ z. Sending z i' r.counts) more h.1 in
    let on = λ (n : ℕ). on_this g.0 (opens o.link) (closes o.done) n in (
      record { rows = r.rows; counts = λ c. i.counts c + on (o.unsent + length i.rows) c },
      record {
        rows = refl;
        counts = λ c. (let m = a.counts c in let x = g.2 c in let y = same_counts (s0 ++ s) i' t e' c in
            let z = same_counts s0 i b e0 c in let same = ap (λ j. on j c) total in
            omega (arith, m, x, y, z, same));
        exact = λ c v. (let m = a.exact c v in let x = g.2 c in let y = same_counts (s0 ++ s) i' t e' c in
            let z = same_counts s0 i b e0 c in let same = ap (λ j. on j c) total in
            omega (arith, m, x, y, z, same));
      },
      (
        h.0 ∙ ap (λ z. at_end p (z ++ i'.rows)) rows ∙ ap (λ z. at_end p ((k ++ block) ++ z)) after
            ∙ ap (at_end p) (append_assoc k block t.rows) ∙ ap (λ z. at_end p (k ++ z)) (sym before),
        (g.0, g.1, λ c. refl),
      ),
    )

-- the rows that are kept, with those of a step where none were to be sent
pub took_kept : (held fl answer block : List Row) → answer ≡ []
    → held ++ (fl ++ block) ≡ (held ++ (fl ++ answer)) ++ block
took_kept held fl answer block none =
    sym (ap (λ z. (held ++ (fl ++ z)) ++ block) none ∙ ap (λ z. (held ++ z) ++ block) (append-nil fl)
    ∙ append_assoc held fl block)
