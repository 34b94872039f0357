-- How the inputs of a Gather stand after a step and after an answer.
use Rattle.std.proofs.Common.{◌≡◌, ℕ, zero, suc, ◌+◌, ◌*◌, ◌<◌, ◌≤◌, ◌⊎◌, inl, inr, List, [], ◌∷◌, length, map, true, false, refl, sym, ap, ◌∙◌, arith}
use Rattle.std.specs.Prelude.{slice_set}
use Rattle.std.proofs.lemmas.Bool.{cases_eq, cases_lt}
use Rattle.std.proofs.lemmas.List.{get_or-set_same, get_or-set_other, get_or_past, set_past, length-map}
use Rattle.std.proofs.lemmas.List.Sums.{sum_by-set, sum_by-cons}
use mathlib.Core.Bool.{false≢true}
use Rattle.aql_block.specs.declared.calls.Call.{Call}
use Rattle.aql_block.specs.declared.calls.Progress.{Progress}
use Rattle.aql_block.specs.declared.calls.Progress.TheVariants.{Waiting, HasMore, Done}
use Rattle.aql_exec.specs.Steps.{unless_waiting, weight}
use Rattle.aql_exec.specs.Operators.{is_below}
use Rattle.aql_exec_cluster.specs.Standing.{standing, IsWaiting, after_answer, asks_input, is_done, unless_done, count_going, count_awake}

-- ---- after an answer

pub standing_after : (inputs : List Progress) (k : ℕ)
    → standing (map after_answer inputs) k ≡ after_answer (standing inputs k)
standing_after [] zero = refl
standing_after [] (suc k) = refl
standing_after (p ∷ ps) zero = refl
standing_after (p ∷ ps) (suc k) = standing_after ps k

pub not_waiting : (p : Progress) → after_answer p ≡ Waiting → ⊥
not_waiting Waiting e = absurd (cc)
not_waiting HasMore e = absurd (cc)
not_waiting Done e = absurd (cc)

pub done_after : (p : Progress) → is_done (after_answer p) ≡ is_done p
done_after Waiting = refl
done_after HasMore = refl
done_after Done = refl

-- what is known of all inputs
pub woken : (inputs inputs' : List Progress) → inputs' ≡ map after_answer inputs → (j : ℕ)
    → (is_below (length inputs') j ≡ is_below (length inputs) j)
    × (is_done (standing inputs' j) ≡ is_done (standing inputs j)) × (IsWaiting inputs' j → ⊥)
    × ((c : Call) → asks_input inputs' j c → asks_input inputs j c)
woken inputs inputs' e j =
    let at : standing inputs' j ≡ after_answer (standing inputs j) =
    ap (λ z. standing z j) e ∙ standing_after inputs j in
    let done = ap is_done at ∙ done_after (standing inputs j) in (
      ap (λ n. is_below n j) (ap length e ∙ length-map inputs after_answer),
      done,
      (λ w. not_waiting (standing inputs j) (sym at ∙ w)),
      (λ c h. (h.0, h.1, h.2, sym done ∙ h.3)),
    )

going_one : (p : Progress) → unless_done (after_answer p) ≡ unless_done p
going_one Waiting = refl
going_one HasMore = refl
going_one Done = refl

pub going_after : (inputs : List Progress) → count_going (map after_answer inputs) ≡ count_going inputs
going_after [] = refl
going_after (p ∷ ps) =
    let a = sum_by-cons unless_done (after_answer p) (map after_answer ps) in
    let b = sum_by-cons unless_done p ps in
    let e = going_one p in
    let i = going_after ps in
    omega (arith, a, b, e, i)

one_at_most : (p : Progress) → unless_done p ≤ 1
one_at_most Waiting = omega arith
one_at_most HasMore = omega arith
one_at_most Done = omega arith

pub going_few : (inputs : List Progress) → count_going inputs ≤ length inputs
going_few [] = omega arith
going_few (p ∷ ps) =
    let a = sum_by-cons unless_done p ps in
    let e = one_at_most p in
    let i = going_few ps in
    omega (arith, a, e, i)

-- ---- after a step

pub standing_there : (inputs : List Progress) (k : ℕ) (p : Progress) → k < length inputs
    → standing (slice_set inputs k p) k ≡ p
standing_there inputs k p l = get_or-set_same inputs k p HasMore l

pub standing_elsewhere : (inputs : List Progress) (k j : ℕ) (p : Progress) → (j ≡ k → ⊥)
    → standing (slice_set inputs k p) j ≡ standing inputs j
standing_elsewhere inputs k j p d = get_or-set_other inputs k j p HasMore d

pub going_set : (inputs : List Progress) (k : ℕ) (p : Progress) → k < length inputs
    → standing inputs k ≡ HasMore
    → count_going (slice_set inputs k p) + 1 ≡ count_going inputs + unless_done p
going_set inputs k p l e =
    let s = sum_by-set unless_done inputs k p HasMore l in
    let one : unless_done (standing inputs k) ≡ 1 = ap unless_done e in
    omega (arith, s, one)

pub awake_set : (inputs : List Progress) (k : ℕ) (p : Progress) → k < length inputs
    → standing inputs k ≡ HasMore
    → count_awake (slice_set inputs k p) + 1 ≡ count_awake inputs + unless_waiting p
awake_set inputs k p l e =
    let s = sum_by-set unless_waiting inputs k p HasMore l in
    let one : unless_waiting (standing inputs k) ≡ 1 = ap unless_waiting e in
    omega (arith, s, one)

-- of the inputs that may still be found waiting
pub waits_fewer : (inputs : List Progress) (k : ℕ) (p : Progress) → k < length inputs
    → standing inputs k ≡ HasMore
    → count_awake (slice_set inputs k p) + 1 ≤ count_awake inputs + unless_waiting p * weight
waits_fewer inputs k p l e = by p (awake_set inputs k p l e)
  where
    by : (q : Progress) → count_awake (slice_set inputs k p) + 1 ≡ count_awake inputs + unless_waiting q
        → count_awake (slice_set inputs k p) + 1 ≤ count_awake inputs + unless_waiting q * weight
    by Waiting s = omega (arith, s)
    by HasMore s = omega (arith, s)
    by Done s = omega (arith, s)

-- and of the rows to come
pub taken_budget : (p : Progress) (left left' rows going going' reported : ℕ) → left' ≡ left + rows
    → going' + 1 ≡ going + unless_done p → rows ≤ reported → (p ≡ HasMore → 0 < reported)
    → (left' + going') + unless_waiting p ≤ (left + going) + 2 * reported
taken_budget Waiting left left' rows going going' reported e g r m = omega (arith, e, g, r)
taken_budget HasMore left left' rows going going' reported e g r m =
    (let n = m refl in omega (arith, e, g, r, n))
taken_budget Done left left' rows going going' reported e g r m = omega (arith, e, g, r)

-- ---- what is known of an input

pub stays_done : (inputs : List Progress) (k j : ℕ) (p : Progress) → standing inputs k ≡ HasMore
    → is_done (standing inputs j) ≡ true → is_done (standing (slice_set inputs k p) j) ≡ true
stays_done inputs k j p e d = by (cases_eq j k)
  where
    by : (j ≡ k) ⊎ (j ≡ k → ⊥) → is_done (standing (slice_set inputs k p) j) ≡ true
    by (inl q) = absurd (false≢true (sym (ap is_done (ap (standing inputs) q ∙ e)) ∙ d))
    by (inr n) = ap is_done (standing_elsewhere inputs k j p n) ∙ d

pub is_done_by : (p : Progress) → is_done p ≡ true → p ≡ Done
is_done_by Waiting e = absurd (false≢true e)
is_done_by HasMore e = absurd (false≢true e)
is_done_by Done e = refl

-- an input that is done, or waits, after a step of one was so before, or is this one
pub done_by_step : (inputs : List Progress) (k j : ℕ) (p : Progress) → k < length inputs
    → is_done (standing (slice_set inputs k p) j) ≡ true
    → (is_done (standing inputs j) ≡ true) ⊎ ((j ≡ k) × (p ≡ Done))
done_by_step inputs k j p l d = by (cases_eq j k)
  where
    by : (j ≡ k) ⊎ (j ≡ k → ⊥) → (is_done (standing inputs j) ≡ true) ⊎ ((j ≡ k) × (p ≡ Done))
    by (inl q) = inr (
      q,
      is_done_by p (sym (ap is_done (ap (standing (slice_set inputs k p)) q
          ∙ standing_there inputs k p l)) ∙ d),
    )
    by (inr n) = inl (sym (ap is_done (standing_elsewhere inputs k j p n)) ∙ d)

pub waits_by_step : (inputs : List Progress) (k j : ℕ) (p : Progress) → k < length inputs
    → standing (slice_set inputs k p) j ≡ Waiting
    → (standing inputs j ≡ Waiting) ⊎ ((j ≡ k) × (p ≡ Waiting))
waits_by_step inputs k j p l w = by (cases_eq j k)
  where
    by : (j ≡ k) ⊎ (j ≡ k → ⊥) → (standing inputs j ≡ Waiting) ⊎ ((j ≡ k) × (p ≡ Waiting))
    by (inl q) = inr (q, sym (standing_there inputs k p l) ∙ ap (standing (slice_set inputs k p)) (sym q) ∙ w)
    by (inr n) = inl (sym (standing_elsewhere inputs k j p n) ∙ w)

-- one that is neither ready nor done waits
pub waits_else : (p : Progress) → is_done p ≡ false → (p ≡ HasMore → ⊥) → p ≡ Waiting
waits_else Waiting d h = refl
waits_else HasMore d h = absurd (h refl)
waits_else Done d h = absurd (false≢true (sym d))

-- and one that neither may be asked nor waits is done
pub done_else : (p : Progress) → (p ≡ HasMore → ⊥) → (p ≡ Waiting → ⊥) → is_done p ≡ true
done_else Waiting h w = absurd (w refl)
done_else HasMore h w = absurd (h refl)
done_else Done h w = refl

-- one that has more is not done and does not wait
pub more_not_done : (p : Progress) → p ≡ HasMore → is_done p ≡ false
more_not_done p e = ap is_done e

pub more_not_waiting : (p : Progress) → p ≡ HasMore → p ≡ Waiting → ⊥
more_not_waiting p e w = absurd (cc)

-- ---- one input after another

pub ready_more : (inputs : List Progress) (k : ℕ) → ((j : ℕ) → j < k → standing inputs j ≡ HasMore)
    → (j : ℕ) → j < k + 1 → standing (slice_set inputs k HasMore) j ≡ HasMore
ready_more inputs k h j l = by (cases_eq j k) (cases_lt k (length inputs))
  where
    by : (j ≡ k) ⊎ (j ≡ k → ⊥) → (k < length inputs) ⊎ (length inputs ≤ k)
        → standing (slice_set inputs k HasMore) j ≡ HasMore
    by (inl e) (inl m) = ap (standing (slice_set inputs k HasMore)) e ∙ standing_there inputs k HasMore m
    by (inl e) (inr m) =
        ap (λ z. standing z j) (set_past inputs k HasMore m)
        ∙ get_or_past inputs j HasMore (omega (arith, e, m))
    by (inr d) m = standing_elsewhere inputs k j HasMore d ∙ h j (omega (arith, l, d))
