-- A link gives something in every state, and neither what happens on other links nor more counts of its input
-- change what it gives.
use Rattle.std.proofs.Common.{◌≡◌, ℕ, zero, suc, ◌+◌, ◌<◌, ◌≤◌, List, [], length, true, refl, sym, ap, ◌∙◌, subst, arith}
use Rattle.std.specs.Prelude.{Option, None, Some, ◌++◌}
use Rattle.std.proofs.Math.Nat.{le_refl}
use mathlib.Core.Bool.{false≢true}
use Rattle.aql_block.specs.Tables.{rows_of}
use Rattle.aql_exec.specs.declared.turns.Message.{Message}
use Rattle.aql_exec.specs.Rests.{Counts, Exact, Rest, Prefixed}
use Rattle.aql_exec.specs.Operators.{is_first, on_this}
use Rattle.aql_exec.specs.Lines.{Line}
use Rattle.aql_exec_cluster.specs.declared.remote.Remote.{Remote}
use Rattle.aql_exec_cluster.specs.Remotes.{on_link, ThisLink, kept, at_end, opens, closes, Due, due, Sending, gives_remote, budget_remote, RemoteIs}

-- what happens on other links does not matter
pub same_line : (o : Option ℕ) (f f' : ℕ → Line) → ((l : ℕ) → o ≡ Some l → f' l ≡ f l)
    → on_link o f' ≡ on_link o f
same_line None f f' h = refl
same_line (Some l) f f' h = h l refl

a_link : (o : Option ℕ) → (l : ℕ) × ThisLink o l
a_link None = (0, tt)
a_link (Some l) = (l, refl)

pub some_remote : (s : Remote) (messages : List Message) (p : ℕ) (i : Rest) → (r : Rest)
    × gives_remote s messages p i r
some_remote s messages p i =
    let l = a_link s.link in (
      record {
        rows = at_end p (kept s messages ++ i.rows);
        counts = λ c. i.counts c
            + on_this l.0 (opens s.link) (closes s.done) (length (rows_of s.answer) + length i.rows) c;
      },
      (refl, (l.0, l.1, λ c. refl)),
    )

-- where the input counts more on the way to the same rows, so does the link
more_sending : (e : Exact) (o : Due) (d : Counts) (i j r : Rest) → Prefixed e [] d i j
    → Sending o i r.counts
    → (b : Rest) × Prefixed e [] d r b × (b.rows ≡ r.rows) × Sending o j b.counts
more_sending e o d i j r a h =
    let same = ap length a.rows in
    let on = λ (n : ℕ). on_this h.0 (opens o.link) (closes o.done) (o.unsent + n) in (
      record { rows = r.rows; counts = λ c. j.counts c + on (length j.rows) c },
      record {
        rows = refl;
        counts = λ c. (let m = a.counts c in let n = h.2 c in
            let k = ap (λ x. on x c) same in omega (arith, m, n, k));
        exact = λ c x. (let m = a.exact c x in let n = h.2 c in
            let k = ap (λ x. on x c) same in omega (arith, m, n, k));
      },
      refl,
      (h.0, h.1, λ c. refl),
    )

pub more_remote : (e : Exact) (s : Remote) (messages : List Message) (p k : ℕ) (d : Counts)
    (ins ins' : ℕ → Rest)
    (r : Rest) → is_first k ≡ true → Prefixed e [] d (ins k) (ins' k) → gives_remote s messages p (ins 0) r
    → (b : Rest) × Prefixed e [] d r b × gives_remote s messages p (ins' 0) b
more_remote e s messages p zero d ins ins' r b a h =
    let x = more_sending e (due s) d (ins 0) (ins' 0) r a h.1 in (
      x.0,
      x.1,
      (x.2 ∙ h.0 ∙ ap (λ z. at_end p (kept s messages ++ z)) (sym a.rows), x.3),
    )
more_remote e s messages p (suc k) d ins ins' r b a h = absurd (false≢true b)

pub kept_gives : (s : Remote) (f f' : ℕ → Line) → ((l : ℕ) → s.link ≡ Some l → f' l ≡ f l)
    → (p : ℕ) (i r : Rest)
    → gives_remote s (on_link s.link f').flying p i r → gives_remote s (on_link s.link f).flying p i r
kept_gives s f f' e p i r h = subst (λ line. gives_remote s line.flying p i r) (same_line s.link f f' e) h

pub kept_valid : (s : Remote) (f f' : ℕ → Line) (n m b b' : ℕ) → b' ≡ b → n ≤ m
    → ((l : ℕ) → s.link ≡ Some l → f' l ≡ f l) → RemoteIs s (on_link s.link f) n b
    → RemoteIs s (on_link s.link f') m b'
kept_valid s f f' n m b b' same grows e h = record {
  stage = rw (same_line s.link f f' e, same) h.stage;
  link = λ l q. (let k : l < n = h.link l q in omega (arith, k, grows));
  opened = rw (same_line s.link f f' e) h.opened;
  done_opened = h.done_opened;
}

pub kept_budget : (s : Remote) (f f' : ℕ → Line) → ((l : ℕ) → s.link ≡ Some l → f' l ≡ f l)
    → budget_remote s (on_link s.link f').flying ≤ budget_remote s (on_link s.link f).flying
kept_budget s f f' e = rw (same_line s.link f f' e) (le_refl (budget_remote s (on_link s.link f).flying))

pub own_link : (s : Remote) (line : Line) (links batch : ℕ) → RemoteIs s line links batch → (l : ℕ)
    → s.link ≡ Some l → l < links
own_link s line links batch v = v.link

pub two_ports : 1 < 2
two_ports = omega arith
