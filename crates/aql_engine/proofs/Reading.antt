-- What the loop over a node of a tree reads, where its plan reads little.
use Rattle.std.proofs.Common.{ℕ, ◌≡◌, ◌+◌, ◌<◌, ◌≤◌, inl, inr, length, Bool, true, false, not, cond, refl, sym, arith}
use Rattle.std.specs.Prelude.{◌&&◌, ◌||◌}
use Rattle.std.proofs.lemmas.Bool.{false≢true}
use Rattle.std.proofs.Math.Nat.{le_refl}
use Rattle.aql_plan.specs.Plan as plan
use Rattle.aql_block.specs.declared.calls.Step.{Step}
use Rattle.aql_exec.specs.Rests.{filtered}
use Rattle.aql_exec.specs.Steps.{given}
use Rattle.aql_exec.specs.Reads.{hands_on, scans_all, is_limit, has_limit, has_no_link, reads_none, reads_little, ReadInStep}
use Rattle.aql_exec.specs.Operators.{Operator, OperatorTree, leaf, within, StartRow, NoRows, ShardRows, OnRows, WithBody, Remote, Scatter, Gather, Shards, arity, exact_at}
use Rattle.aql_engine.specs.laws.Exactness.{and_left, and_right}
use Rattle.aql_engine.specs.laws.Unlinked.{either}

-- its input skips a row that it took at no call, where the node is called with this offset
abbrev SkipsNone : Operator → OperatorTree → ℕ → Type 0
SkipsNone o below offset = has_limit below ≡ true → (offset ≡ 0) × (is_limit o ≡ false)

-- so far, since the node was turned first: `held` rows of its input are held
abbrev pub ReadSoFar : Operator → OperatorTree → ℕ → ℕ → ℕ → ℕ → Type 0
ReadSoFar o below offset held read read' = (hands_on o ≡ true → reads_none below ≡ true → read' ≤ read)
    × (hands_on o ≡ true → reads_little below ≡ true → SkipsNone o below offset → read' ≤ read + held)
    × (scans_all o ≡ true → reads_none below ≡ true → read' ≤ read)

-- in an Ask or a Start
abbrev pub ReadsNone : Operator → ℕ → ℕ → ℕ → ℕ → Type 0
ReadsNone o held held' read read' =
    (scans_all o ≡ true → read' ≤ read) × (hands_on o ≡ true → (read' ≤ read) × (held ≤ held'))

pub read_first : (o : Operator) (below : OperatorTree) (offset held read : ℕ)
    → ReadSoFar o below offset held read read
read_first o below offset held read = (λ h n. le_refl read, λ h n s. omega arith, λ s n. le_refl read)

pub read_on : (o : Operator) (below : OperatorTree) (offset h h1 t0 t t1 : ℕ) → ReadSoFar o below offset h t0 t
    → ReadsNone o h h1 t t1 → ReadSoFar o below offset h1 t0 t1
read_on o below offset h h1 t0 t t1 so turned = (
  λ e n. (let a = so.0 e n in let b = (turned.1 e).0 in omega (arith, a, b)),
  λ e n s. (let a = so.1 e n s in let b = (turned.1 e).0 in let k = (turned.1 e).1 in omega (arith, a, b, k)),
  λ e n. (let a = so.2 e n in let b = turned.0 e in omega (arith, a, b)),
)

-- what hands rows on asks for all rows where all are wanted of it
pub hands_exact : (o : Operator) → hands_on o ≡ true → is_limit o ≡ false → exact_at o filtered ≡ true
hands_exact StartRow h l = refl
hands_exact (OnRows (plan.Limit offset count)) h l = absurd (false≢true (sym l))
hands_exact (OnRows n) h l = refl
hands_exact NoRows h l = refl
hands_exact ShardRows h l = refl
hands_exact (WithBody x) h l = refl
hands_exact Remote h l = refl
hands_exact (Scatter n shards) h l = refl
hands_exact (Gather n directions es) h l = refl
hands_exact (Shards a b ts) h l = absurd (false≢true h)

-- its input was pulled
pub read_below : (o : Operator) (below : OperatorTree) (offset asked h h1 h2 t0 t t1 t2 : ℕ) (step : Step)
    → ReadSoFar o below offset h t0 t → ReadsNone o h h1 t t1 → ReadInStep below asked t1 t2 step
    → (hands_on o ≡ true → is_limit o ≡ false → offset ≡ 0 → asked ≡ 0)
    → (hands_on o ≡ true → h1 + length (given step) ≤ h2) → ReadSoFar o below offset h2 t0 t2
read_below o below offset asked h h1 h2 t0 t t1 t2 step so turned pulled skips holds =
    let s = read_on o below offset h h1 t0 t t1 so turned in (
      λ e n. (let a = s.0 e n in let c = pulled.0 n in omega (arith, a, c)),
      λ e n k.
          (let a = s.1 e n k in let c = pulled.1 n (λ l. (let q = k l in skips e q.1 q.0)) in let d = holds e in
          omega (arith, a, c, d)),
      λ e n. (let a = s.2 e n in let c = pulled.0 n in omega (arith, a, c)),
    )

-- ---- an operator that reads little has one input

none_one : 0 ≤ 1
none_one = omega arith

hands_one : (o : Operator) → hands_on o ≡ true → arity o ≤ 1
hands_one StartRow h = none_one
hands_one (OnRows n) h = le_refl 1
hands_one NoRows h = absurd (false≢true h)
hands_one ShardRows h = absurd (false≢true h)
hands_one (WithBody x) h = absurd (false≢true h)
hands_one Remote h = absurd (false≢true h)
hands_one (Scatter n shards) h = absurd (false≢true h)
hands_one (Gather n directions es) h = absurd (false≢true h)
hands_one (Shards a b ts) h = absurd (false≢true h)

scans_one : (o : Operator) → scans_all o ≡ true → arity o ≤ 1
scans_one StartRow h = none_one
scans_one (OnRows n) h = le_refl 1
scans_one NoRows h = absurd (false≢true h)
scans_one ShardRows h = absurd (false≢true h)
scans_one (WithBody x) h = absurd (false≢true h)
scans_one Remote h = absurd (false≢true h)
scans_one (Scatter n shards) h = absurd (false≢true h)
scans_one (Gather n directions es) h = absurd (false≢true h)
scans_one (Shards a b ts) h = absurd (false≢true h)

-- so its body is not pulled
pub read_body : (o : Operator) (below : OperatorTree) (offset held read read' : ℕ) → 1 < arity o
    → ReadSoFar o below offset held read read'
read_body o below offset held read read' two = (
  λ h n. (let a = hands_one o h in absurd (omega (arith, a, two))),
  λ h n s. (let a = hands_one o h in absurd (omega (arith, a, two))),
  λ h n. (let a = scans_one o h in absurd (omega (arith, a, two))),
)

-- ---- a Give

abbrev pub ReadsGiven : Operator → ℕ → ℕ → ℕ → ℕ → Step → Type 0
ReadsGiven o offset held read read' step = (scans_all o ≡ true → read' ≤ read + length (given step))
    × (hands_on o ≡ true → (read' ≤ read)
    × ((is_limit o ≡ true → offset ≡ 0) → held ≤ length (given step)))

-- of two LIMITs, one over the other, none is a plan that reads little
not_both : (a b : Bool) → not (a && b) ≡ true → b ≡ true → a ≡ false
not_both true true h e = absurd (false≢true h)
not_both true false h e = absurd (false≢true e)
not_both false b h e = refl

or_first : (a b : Bool) → a ≡ true → a || b ≡ true
or_first true b h = refl
or_first false b h = absurd (false≢true h)

or_second : (a b : Bool) → b ≡ true → a || b ≡ true
or_second true b h = refl
or_second false b h = h

pub read_given : (o : Operator) (below body : OperatorTree) (offset h t0 t t1 : ℕ) (step : Step)
    → ReadSoFar o below offset h t0 t → ReadsGiven o offset h t t1 step
    → ReadInStep (within o below body) offset t0 t1 step
read_given o below body offset h t0 t t1 step so turned = (
  λ e. (let k = and_left (hands_on o && reads_none below) (has_no_link body) e in
      let i = and_left (hands_on o) (reads_none below) k in
      let a = so.0 i (and_right (hands_on o) (reads_none below) k) in let b = (turned.1 i).0 in omega (arith, a, b)),
  λ e w. (let some = reads_little below && not (is_limit o && has_limit below) in
      elim (either (hands_on o) some (scans_all o && reads_none below)
      (and_left (cond (hands_on o) some (scans_all o && reads_none below)) (has_no_link body) e)) [
        | inl q ↦ (let little = and_left (reads_little below) (not (is_limit o && has_limit below)) q.1 in
            let one = and_right (reads_little below) (not (is_limit o && has_limit below)) q.1 in
            let a = so.1 q.0 little (λ l. (
              w (or_second (is_limit o) (has_limit below) l),
              not_both (is_limit o) (has_limit below) one l,
            )) in
            let b = (turned.1 q.0).0 in
            let d = (turned.1 q.0).1 (λ l. w (or_first (is_limit o) (has_limit below) l)) in
            omega (arith, a, b, d))
        | inr q ↦ (let k = and_left (scans_all o) (reads_none below) q in
            let a = so.2 k (and_right (scans_all o) (reads_none below) q) in let b = turned.0 k in
            omega (arith, a, b))
      ]),
)

pub read_leaf : (o : Operator) (offset h t t1 : ℕ) (step : Step) → ReadsGiven o offset h t t1 step
    → ReadInStep (leaf o) offset t t1 step
read_leaf o offset h t t1 step turned = (
  λ e. (turned.1 e).0,
  λ e w. (let b = (turned.1 e).0 in omega (arith, b)),
)
