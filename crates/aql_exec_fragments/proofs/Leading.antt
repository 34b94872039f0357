-- The loop of an executor over feeds, step by step: each rest after a step leads to one before it.
use Rattle.std.proofs.Common.{ℕ, ◌≡◌, ◌+◌, ◌++◌, inl, inr, List, [], length, length-append, Bool, true, refl, sym, ap, ◌∙◌, subst, arith}
use Rattle.std.proofs.lemmas.Bool.{cases_eq}
use Rattle.aql_meaning.specs.Row.{Row}
use Rattle.aql_block.specs.declared.calls.Step.{Step}
use Rattle.aql_exec.specs.Rests.{Counts, Exact, Rest, with_rows, Prefixed, IsOver, EndsUnreported, Ends}
use Rattle.aql_exec.specs.laws.Counted.{prefixed_none}
use Rattle.aql_exec.specs.Counting.{nothing}
use Rattle.aql_exec.specs.Steps.{given, Continues}
use Rattle.aql_engine.proofs.Leading.{plus, prefixed_then}
use Rattle.aql_exec_fragments.proofs.Loops.{LeadsAll}
use Rattle.aql_exec_fragments.proofs.Families.{put, put_same, put_other, put_holds}

sums : (a b c k : ℕ) → a ≡ c → b ≡ k → a + b ≡ c + k
sums a b c k e f = omega arith

plus_none : (a n : ℕ) → a ≡ n → a + 0 ≡ n
plus_none a n h = omega (arith, h)

no_more : (s t : List Row) (n : ℕ) → t ≡ [] → length s ≡ n → length (s ++ t) ≡ n
no_more s t n e h = rw e (length-append s [] ∙ plus_none _ _ h)

-- with what is unreported in front, an input that ended has that alone
ends_unreported : {v : Exact} (ended : ℕ → Bool) (s : ℕ → List Row) (ins ins' : ℕ → Rest) (unreported : ℕ → ℕ)
    → Ends v ended ins → ((k : ℕ) → ins' k ≡ with_rows (s k) (ins k))
    → ((k : ℕ) → length (s k) ≡ unreported k) → EndsUnreported v ended unreported ins'
ends_unreported ended s ins ins' unreported ends e lens k q = (
  ap (λ (z : Rest). length z.rows) (e k) ∙ no_more (s k) (ins k).rows (unreported k) (ends k q).0 (lens k),
  λ c y. ap (λ (z : Rest). z.counts c) (e k) ∙ (ends k q).1 c y,
)

same_put : (k : ℕ) (s : ℕ → List Row) (a : List Row) (b : Rest) (ins ins' : ℕ → Rest)
    → ((j : ℕ) → ins' j ≡ with_rows (put k a s j) (ins j)) → (j : ℕ)
    → put k (with_rows (s k) b) ins' j ≡ with_rows (s j) (put k b ins j)
same_put k s a b ins ins' e j = elim (cases_eq j k) [
  | inl q ↦ rw (q, put_same k (with_rows (s k) b) ins', put_same k b ins) refl
  | inr n ↦ put_other k j (with_rows (s k) b) ins' n ∙ e j
      ∙ rw (put_other k j a s n, put_other k j b ins n) refl
]

-- at first
pub leads_all_init : {v : Exact} (R : ℕ → Rest → Type 0) {unreported : ℕ → ℕ} {ended : ℕ → Bool}
    {G : (ℕ → Rest) → Rest → Type 0} → ((k : ℕ) → unreported k ≡ 0)
    → LeadsAll v R ended unreported G nothing
    (λ b. (ins : ℕ → Rest) × Ends v ended ins × ((k : ℕ) → R k (ins k)) × G ins b)
leads_all_init R none ins ends h = (
  λ k. [],
  λ k. sym (none k),
  λ ins' e r o. (
    r,
    prefixed_none r,
    (
      ins',
      (λ k q. (
        ap (λ (z : Rest). z.rows) (e k) ∙ (ends k q).0,
        λ c y. ap (λ (z : Rest). z.counts c) (e k) ∙ (ends k q).1 c y,
      )),
      (λ k. subst (R k) (sym (e k)) (h k)),
      o,
    ),
  ),
)

-- what was asked of an input came, and was taken
pub leads_at : {v : Exact} {R R' : ℕ → Rest → Type 0} {B : Rest → Type 0} {unreported unreported' : ℕ → ℕ}
    {ended ended' : ℕ → Bool} {G G1 G' : (ℕ → Rest) → Rest → Type 0} {n d1 d2 : Counts} (k : ℕ) (step : Step)
    → LeadsAll v R ended unreported G n B
    → ((ins : ℕ → Rest) (r : Rest) → EndsUnreported v ended unreported ins → G1 ins r
    → (b : Rest) × Prefixed v [] d1 r b × G ins b)
    → Continues v (R k) d2 step (R' k) → ((j : ℕ) → (j ≡ k → ⊥) → (r : Rest) → R' j r → R j r)
    → (unreported' k ≡ unreported k + step.skipped) → ((j : ℕ) → (j ≡ k → ⊥) → unreported' j ≡ unreported j)
    → (ended k ≡ true → ⊥) → ((j : ℕ) → ended j ≡ true → ended' j ≡ true)
    → ((s0 s : List Row) (ins' ins : ℕ → Rest) (t b r : Rest) → length s0 ≡ unreported k
    → length s ≡ step.skipped → Prefixed v (s ++ given step) d2 t b
    → ins' k ≡ with_rows (s0 ++ s) t → ins k ≡ with_rows s0 b
    → ((j : ℕ) → (j ≡ k → ⊥) → ins' j ≡ ins j) → EndsUnreported v ended' unreported' ins' → G' ins' r
    → (q : Rest) × Prefixed v [] d2 r q × G1 ins q)
    → LeadsAll v R' ended' unreported' G' (plus n (plus d1 d2)) B
leads_at {v} {R} {unreported} {unreported'} {ended} {ended'} {d1} {d2} k step leads turn led back o os
    not_ended more take ins ends h =
    let a = led (ins k) (h k) in
    let old = put k a.1 ins in
    let h_old : (j : ℕ) → R j (old j) = put_holds R k a.1 ins a.4 (λ j n. back j n (ins j) (h j)) in
    let ends_old : Ends v ended old =
    put_holds (λ j z. ended j ≡ true → IsOver v z) k a.1 ins (λ q. absurd (not_ended q))
    (λ j n q. ends j (more j q)) in
    let d = leads old ends_old h_old in
    let new = put k (d.0 k ++ a.0) d.0 in
    let lens : (j : ℕ) → length (new j) ≡ unreported' j =
    put_holds (λ j z. length z ≡ unreported' j) k (d.0 k ++ a.0) d.0
    (length-append (d.0 k) a.0
    ∙ sums (length (d.0 k)) (length a.0) (unreported k) step.skipped (d.1 k) a.2 ∙ sym o)
    (λ j n. d.1 j ∙ sym (os j n)) in (
      new,
      lens,
      λ ins' e r i.
          let full = put k (with_rows (d.0 k) a.1) ins' in
          let here : ins' k ≡ with_rows (d.0 k ++ a.0) (ins k) =
          e k ∙ ap (λ z. with_rows z (ins k)) (put_same k (d.0 k ++ a.0) d.0) in
          let t = take (d.0 k) a.0 ins' full (ins k) a.1 r (d.1 k) a.2 a.3 here
          (put_same k (with_rows (d.0 k) a.1) ins')
          (λ j n. sym (put_other k j (with_rows (d.0 k) a.1) ins' n))
          (ends_unreported ended' new ins ins' unreported' ends e lens) i in
          let same = same_put k d.0 (d.0 k ++ a.0) a.1 ins ins' e in
          let u = turn full t.0 (ends_unreported ended d.0 old full unreported ends_old same d.1) t.2 in
          let f = d.2 full same u.0 u.2 in
          (f.0, prefixed_then _ _ _ _ _ _ (prefixed_then _ _ _ _ _ _ t.1 u.1) f.1, f.2),
    )

-- what is given leads to what was possible at first
pub leads_all_given : {v : Exact} {R R' : ℕ → Rest → Type 0} {B : Rest → Type 0} {unreported : ℕ → ℕ}
    {ended ended' : ℕ → Bool} {G G' : (ℕ → Rest) → Rest → Type 0} {n d1 : Counts} (step : Step)
    → LeadsAll v R ended unreported G n B
    → ((s : ℕ → List Row) (ins ins' : ℕ → Rest) → ((j : ℕ) → length (s j) ≡ unreported j)
    → ((j : ℕ) → ins' j ≡ with_rows (s j) (ins j)) → EndsUnreported v ended unreported ins'
    → Continues v (G ins') d1 step (G' ins))
    → ((k : ℕ) (r : Rest) → R' k r → R k r) → ((j : ℕ) → ended j ≡ true → ended' j ≡ true)
    → Continues v B (plus n d1) step
    (λ r. (ins : ℕ → Rest) × Ends v ended' ins × ((k : ℕ) → R' k (ins k)) × G' ins r)
leads_all_given {v} {unreported} {ended} {d1} step leads gives back more r h =
    let ends : Ends v ended h.0 = λ k q. h.1 k (more k q) in
    let d = leads h.0 ends (λ k. back k (h.0 k) (h.2 k)) in
    let all : ℕ → Rest = λ k. with_rows (d.0 k) (h.0 k) in
    let a = gives d.0 h.0 all d.1 (λ k. refl)
    (ends_unreported ended d.0 h.0 all unreported ends (λ k. refl) d.1) r h.3 in
    let f = d.2 all (λ k. refl) a.1 a.4 in
    (a.0, f.0, a.2, prefixed_then _ _ _ _ _ _ a.3 f.1, f.2)
