-- The loop over a node, step by step: each rest after a step of the loop leads to one before it.
use Rattle.std.proofs.Common.{ℕ, zero, suc, ◌≡◌, ◌+◌, ◌++◌, List, [], length, length-append, Bool, true, refl, sym, ap, ◌∙◌, arith, subst}
use Rattle.aql_meaning.specs.Row.{Row}
use Rattle.aql_block.specs.declared.calls.Step.{Step}
use Rattle.aql_exec.specs.Rests.{Counts, Exact, Rest, with_rows, Prefixed, IsOver, EndsUnreported, Ends}
use Rattle.aql_exec.specs.laws.Counted.{prefixed_none}
use Rattle.aql_exec.specs.Counting.{nothing}
use Rattle.aql_exec.specs.Steps.{given, Continues}
use Rattle.aql_engine.proofs.Loops.{Leads}

-- ---- counts and families of rests

abbrev pub plus : Counts → Counts → Counts
plus a b c = a c + b c

-- a family with another at 0, or at 1
abbrev pub first : {A : Type 0} → A → (ℕ → A) → ℕ → A
first b f zero = b
first b f (suc k) = f (suc k)

abbrev pub second : {A : Type 0} → A → (ℕ → A) → ℕ → A
second b f zero = f zero
second b f (suc zero) = b
second b f (suc (suc k)) = f (suc (suc k))

pub prefixed_then : {v : Exact} (s : List Row) (d e : Counts) (r q b : Rest) → Prefixed v s d r q
    → Prefixed v [] e q b → Prefixed v s (plus e d) r b
prefixed_then s d e r q b i j = record {
  rows = j.rows ∙ i.rows;
  counts = λ c. (let m = i.counts c in let n = j.counts c in omega (arith, m, n));
  exact = λ c y. (let m = i.exact c y in let n = j.exact c y in omega (arith, m, n));
}

sums : (a b c k : ℕ) → a ≡ c → b ≡ k → a + b ≡ c + k
sums a b c k e f = omega arith

plus_none : (a n : ℕ) → a ≡ n → a + 0 ≡ n
plus_none a n h = omega (arith, h)

not_zero : (k : ℕ) → suc k ≡ 0 → ⊥
not_zero k e = absurd (omega (arith, e))

pub one_zero : ◌≡◌ {A = ℕ} 1 0 → ⊥
one_zero e = not_zero 0 e

pub zero_one : ◌≡◌ {A = ℕ} 0 1 → ⊥
zero_one e = not_zero 0 (sym e)

not_one : (k : ℕ) → suc (suc k) ≡ 1 → ⊥
not_one k e = absurd (omega (arith, e))

-- ---- what is unreported, and inputs that ended

firsts : (s : ℕ → List Row) (a : List Row) (unreported unreported' : ℕ → ℕ) → ((k : ℕ) → length (s k) ≡ unreported k)
    → length (s 0 ++ a) ≡ unreported' 0 → ((j : ℕ) → (j ≡ 0 → ⊥) → unreported' j ≡ unreported j) → (k : ℕ)
    → length (first (s 0 ++ a) s k) ≡ unreported' k
firsts s a unreported unreported' h e os zero = e
firsts s a unreported unreported' h e os (suc k) = h (suc k) ∙ sym (os (suc k) (not_zero k))

seconds : (s : ℕ → List Row) (a : List Row) (unreported unreported' : ℕ → ℕ) → ((k : ℕ) → length (s k) ≡ unreported k)
    → length a ≡ unreported' 1 → ((j : ℕ) → (j ≡ 1 → ⊥) → unreported' j ≡ unreported j) → (k : ℕ)
    → length (second a s k) ≡ unreported' k
seconds s a unreported unreported' h e os zero = h zero ∙ sym (os zero zero_one)
seconds s a unreported unreported' h e os (suc zero) = e
seconds s a unreported unreported' h e os (suc (suc k)) = h (suc (suc k)) ∙ sym (os (suc (suc k)) (not_one k))

others_first : (b : Rest) (ins : ℕ → Rest) (j : ℕ) → (j ≡ 0 → ⊥) → ins j ≡ first b ins j
others_first b ins zero h = absurd (h refl)
others_first b ins (suc j) h = refl

others_second : (b : Rest) (ins : ℕ → Rest) (j : ℕ) → (j ≡ 1 → ⊥) → ins j ≡ second b ins j
others_second b ins zero h = refl
others_second b ins (suc zero) h = absurd (h refl)
others_second b ins (suc (suc j)) h = refl

first_is : (s : ℕ → List Row) (a : List Row) (b : Rest) (ins ins' : ℕ → Rest)
    → ((k : ℕ) → ins' k ≡ with_rows (first a s k) (ins k)) → (k : ℕ)
    → first (with_rows (s 0) b) ins' k ≡ with_rows (s k) (first b ins k)
first_is s a b ins ins' e zero = refl
first_is s a b ins ins' e (suc k) = e (suc k)

second_is : (s : ℕ → List Row) (a : List Row) (b : Rest) (ins ins' : ℕ → Rest)
    → ((k : ℕ) → ins' k ≡ with_rows (second a s k) (ins k)) → (k : ℕ)
    → second (with_rows (s 1) b) ins' k ≡ with_rows (s k) (second b ins k)
second_is s a b ins ins' e zero = e zero
second_is s a b ins ins' e (suc zero) = refl
second_is s a b ins ins' e (suc (suc k)) = e (suc (suc k))

no_more : (s t : List Row) (n : ℕ) → t ≡ [] → length s ≡ n → length (s ++ t) ≡ n
no_more s t n e h = rw e (length-append s [] ∙ plus_none _ _ h)

-- with what is unreported in front, an input that ended has that alone
pub ends_unreported : {v : Exact} (ended : ℕ → Bool) (s : ℕ → List Row) (ins ins' : ℕ → Rest) (unreported : ℕ → ℕ) → Ends v ended ins
    → ((k : ℕ) → ins' k ≡ with_rows (s k) (ins k)) → ((k : ℕ) → length (s k) ≡ unreported k)
    → EndsUnreported v ended unreported ins'
ends_unreported ended s ins ins' unreported ends e lens k q = (
  ap (λ z. length z.rows) (e k) ∙ no_more (s k) (ins k).rows (unreported k) (ends k q).0 (lens k),
  λ c y. ap (λ (z : Rest). z.counts c) (e k) ∙ (ends k q).1 c y,
)

ends_first : {v : Exact} (b : Rest) (ins : ℕ → Rest) (ended ended' : ℕ → Bool) → (ended 0 ≡ true → ⊥)
    → ((j : ℕ) → ended j ≡ true → ended' j ≡ true) → Ends v ended' ins → Ends v ended (first b ins)
ends_first b ins ended ended' n more ends zero q = absurd (n q)
ends_first b ins ended ended' n more ends (suc k) q = ends (suc k) (more (suc k) q)

ends_second : {v : Exact} (b : Rest) (ins : ℕ → Rest) (ended ended' : ℕ → Bool) → (ended 1 ≡ true → IsOver v b)
    → ((j : ℕ) → (j ≡ 1 → ⊥) → ended j ≡ true → ended' j ≡ true) → Ends v ended' ins
    → Ends v ended (second b ins)
ends_second b ins ended ended' n more ends zero q = ends zero (more zero zero_one q)
ends_second b ins ended ended' n more ends (suc zero) q = n q
ends_second b ins ended ended' n more ends (suc (suc k)) q =
    ends (suc (suc k)) (more (suc (suc k)) (not_one k) q)

-- ---- the steps of the loop. B says which rests were possible before the loop; Below and Body say it of the
-- input and of the body, and G of the executor; a prime is after the step

pub leads_init : {v : Exact} (Below Body : Rest → Type 0) {S : Type 0} {unreported : ℕ → ℕ} {ended : ℕ → Bool}
    {G : (ℕ → Rest) → Rest → Type 0} → ((k : ℕ) → unreported k ≡ 0)
    → Leads v Below S Body ended unreported G nothing
    (λ b. (ins : ℕ → Rest) × Ends v ended ins × Below (ins 0) × (S → Body (ins 1)) × G ins b)
leads_init Below Body none ins ends h0 h1 = (
  λ k. [],
  λ k. sym (none k),
  λ ins' e r h. (
    r,
    prefixed_none r,
    (
      ins',
      (λ k q. (
        ap (λ (z : Rest). z.rows) (e k) ∙ (ends k q).0,
        λ c y. ap (λ (z : Rest). z.counts c) (e k) ∙ (ends k q).1 c y,
      )),
      subst Below (sym (e 0)) h0,
      (λ s. subst Body (sym (e 1)) (h1 s)),
      h,
    ),
  ),
)

-- what was asked of input 0 came, and was taken
pub leads_first : {v : Exact} {Below Body Below' Body' B : Rest → Type 0} {S S' : Type 0} {unreported unreported' : ℕ → ℕ}
    {ended ended' : ℕ → Bool} {G G1 G' : (ℕ → Rest) → Rest → Type 0} {n d1 d2 : Counts} (step : Step)
    → Leads v Below S Body ended unreported G n B
    → ((ins : ℕ → Rest) (r : Rest) → EndsUnreported v ended unreported ins → G1 ins r
    → (b : Rest) × Prefixed v [] d1 r b × G ins b)
    → Continues v Below d2 step Below' → (S → S') → (S → (r : Rest) → Body' r → Body r)
    → (unreported' 0 ≡ unreported 0 + step.skipped) → ((j : ℕ) → (j ≡ 0 → ⊥) → unreported' j ≡ unreported j)
    → (ended 0 ≡ true → ⊥) → ((j : ℕ) → ended j ≡ true → ended' j ≡ true)
    → ((s0 s : List Row) (ins' ins : ℕ → Rest) (t b r : Rest) → length s0 ≡ unreported 0
    → length s ≡ step.skipped → Prefixed v (s ++ given step) d2 t b
    → ins' 0 ≡ with_rows (s0 ++ s) t → ins 0 ≡ with_rows s0 b
    → ((j : ℕ) → (j ≡ 0 → ⊥) → ins' j ≡ ins j) → EndsUnreported v ended' unreported' ins' → G' ins' r
    → (q : Rest) × Prefixed v [] d2 r q × G1 ins q)
    → Leads v Below' S' Body' ended' unreported' G' (plus n (plus d1 d2)) B
leads_first {ended} {ended'} {d1} {d2} step leads turn led begun back o os not_ended more take
    ins ends h0 h1 =
    let a = led (ins 0) h0 in
    let ends_old = ends_first a.1 ins ended ended' not_ended more ends in
    let d = leads (first a.1 ins) ends_old a.4 (λ s. back s (ins 1) (h1 (begun s))) in
    let lens = firsts d.0 a.0 _ _ d.1 (length-append (d.0 0) a.0 ∙ sums _ _ _ _ (d.1 0) a.2 ∙ sym o) os in (
      first (d.0 0 ++ a.0) d.0,
      lens,
      λ ins' e r h.
          let t = take (d.0 0) a.0 ins' (first (with_rows (d.0 0) a.1) ins') (ins 0) a.1 r (d.1 0) a.2 a.3 (e 0)
          refl (others_first _ ins') (ends_unreported ended' _ _ _ _ ends e lens) h in
          let same = first_is d.0 (d.0 0 ++ a.0) a.1 ins ins' e in
          let u = turn _ t.0 (ends_unreported ended _ _ _ _ ends_old same d.1) t.2 in
          let f = d.2 (first (with_rows (d.0 0) a.1) ins') same u.0 u.2 in
          (f.0, prefixed_then _ _ _ _ _ _ (prefixed_then _ _ _ _ _ _ t.1 u.1) f.1, f.2),
    )

-- the same for the body
pub leads_second : {v : Exact} {Below Body Below' Body' B : Rest → Type 0} {S S' : Type 0} {unreported unreported' : ℕ → ℕ}
    {ended ended' : ℕ → Bool} {G G1 G' : (ℕ → Rest) → Rest → Type 0} {n d1 d2 : Counts} (step : Step)
    → Leads v Below S Body ended unreported G n B
    → ((ins : ℕ → Rest) (r : Rest) → EndsUnreported v ended unreported ins → G1 ins r
    → (b : Rest) × Prefixed v [] d1 r b × G ins b)
    → Continues v Body d2 step Body' → S' → ((r : Rest) → Below' r → Below r)
    → (unreported' 1 ≡ unreported 1 + step.skipped) → ((j : ℕ) → (j ≡ 1 → ⊥) → unreported' j ≡ unreported j)
    → (ended 1 ≡ true → ⊥) → ((j : ℕ) → ended j ≡ true → ended' j ≡ true)
    → ((s0 s : List Row) (ins' ins : ℕ → Rest) (t b r : Rest) → length s0 ≡ unreported 1
    → length s ≡ step.skipped → Prefixed v (s ++ given step) d2 t b
    → ins' 1 ≡ with_rows (s0 ++ s) t → ins 1 ≡ with_rows s0 b
    → ((j : ℕ) → (j ≡ 1 → ⊥) → ins' j ≡ ins j) → EndsUnreported v ended' unreported' ins' → G' ins' r
    → (q : Rest) × Prefixed v [] d2 r q × G1 ins q)
    → Leads v Below' S' Body' ended' unreported' G' (plus n (plus d1 d2)) B
leads_second {ended} {ended'} {d1} {d2} step leads turn led begun back o os not_ended more take
    ins ends h0 h1 =
    let a = led (ins 1) (h1 begun) in
    let ends_old = ends_second a.1 ins ended ended' (λ q. absurd (not_ended q)) (λ j n. more j) ends in
    let d = leads (second a.1 ins) ends_old (back (ins 0) h0) (λ s. a.4) in
    let lens = seconds d.0 (d.0 1 ++ a.0) _ _ d.1
    (length-append (d.0 1) a.0 ∙ sums _ _ _ _ (d.1 1) a.2 ∙ sym o) os in (
      second (d.0 1 ++ a.0) d.0,
      lens,
      λ ins' e r h.
          let t = take (d.0 1) a.0 ins' (second (with_rows (d.0 1) a.1) ins') (ins 1) a.1 r (d.1 1) a.2 a.3 (e 1)
          refl (others_second _ ins') (ends_unreported ended' _ _ _ _ ends e lens) h in
          let same = second_is d.0 (d.0 1 ++ a.0) a.1 ins ins' e in
          let u = turn _ t.0 (ends_unreported ended _ _ _ _ ends_old same d.1) t.2 in
          let f = d.2 (second (with_rows (d.0 1) a.1) ins') same u.0 u.2 in
          (f.0, prefixed_then _ _ _ _ _ _ (prefixed_then _ _ _ _ _ _ t.1 u.1) f.1, f.2),
    )

-- the body was begun afresh
pub leads_started : {v : Exact} {Below Body Below' Body' B : Rest → Type 0} {S S' : Type 0} {unreported unreported' : ℕ → ℕ}
    {ended ended' : ℕ → Bool} {G G' : (ℕ → Rest) → Rest → Type 0} {n d1 : Counts} (body : Rest → Type 0)
    → Leads v Below S Body ended unreported G n B
    → ((ins ins' : ℕ → Rest) (r : Rest) → ((j : ℕ) → (j ≡ 1 → ⊥) → ins' j ≡ ins j) → body (ins' 1)
    → EndsUnreported v ended unreported ins → G' ins' r → (b : Rest) × Prefixed v [] d1 r b × G ins b)
    → ((r : Rest) → Body' r → body r) → S' → ((r : Rest) → Below' r → Below r)
    → ((r : Rest) × (ended 1 ≡ true → IsOver v r) × (S → Body r))
    → (unreported' 1 ≡ 0) → ((j : ℕ) → (j ≡ 1 → ⊥) → unreported' j ≡ unreported j)
    → ((j : ℕ) → (j ≡ 1 → ⊥) → ended j ≡ true → ended' j ≡ true)
    → Leads v Below' S' Body' ended' unreported' G' (plus n d1) B
leads_started {ended} {ended'} {d1} body leads turn runs begun back any o os more ins ends h0 h1 =
    let ends_old = ends_second any.0 ins ended ended' any.1 more ends in
    let d = leads (second any.0 ins) ends_old (back (ins 0) h0) any.2 in (
      second [] d.0,
      seconds d.0 [] _ _ d.1 (sym o) os,
      λ ins' e r h.
          let same = second_is d.0 [] any.0 ins ins' e in
          let u = turn (second (with_rows (d.0 1) any.0) ins') ins' r (others_second _ ins')
          (subst body (sym (e 1)) (runs (ins 1) (h1 begun))) (ends_unreported ended _ _ _ _ ends_old same d.1) h in
          let f = d.2 (second (with_rows (d.0 1) any.0) ins') same u.0 u.2 in
          (f.0, prefixed_then _ _ _ _ _ _ u.1 f.1, f.2),
    )

-- what is given leads to what was possible at first
pub leads_given : {v : Exact} {Below Body Below' Body' B : Rest → Type 0} {S S' : Type 0} {unreported : ℕ → ℕ}
    {ended ended' : ℕ → Bool} {G G' : (ℕ → Rest) → Rest → Type 0} {n d1 : Counts} (step : Step)
    → Leads v Below S Body ended unreported G n B
    → ((s : ℕ → List Row) (ins ins' : ℕ → Rest) → ((j : ℕ) → length (s j) ≡ unreported j)
    → ((j : ℕ) → ins' j ≡ with_rows (s j) (ins j)) → EndsUnreported v ended unreported ins'
    → Continues v (G ins') d1 step (G' ins))
    → ((r : Rest) → Below' r → Below r) → (S → (r : Rest) → Body' r → Body r) → (S → S')
    → ((j : ℕ) → ended j ≡ true → ended' j ≡ true)
    → Continues v B (plus n d1) step
    (λ r. (ins : ℕ → Rest) × Ends v ended' ins × Below' (ins 0) × (S' → Body' (ins 1)) × G' ins r)
leads_given {v} {ended} {d1} step leads gives back0 back1 begun more r h =
    let ends : Ends v ended h.0 = λ k q. h.1 k (more k q) in
    let d = leads h.0 ends (back0 _ h.2) (λ s. back1 s _ (h.3 (begun s))) in
    let all : ℕ → Rest = λ k. with_rows (d.0 k) (h.0 k) in
    let a = gives d.0 h.0 all d.1 (λ k. refl) (ends_unreported ended d.0 h.0 all _ ends (λ k. refl) d.1) r h.4 in
    let f = d.2 all (λ k. refl) a.1 a.4 in
    (a.0, f.0, a.2, prefixed_then _ _ _ _ _ _ a.3 f.1, f.2)

-- where another port gave something, a rest of this port leads to what was possible at first
pub leads_beside : {v : Exact} {Below Body Below' Body' B : Rest → Type 0} {S S' : Type 0} {unreported : ℕ → ℕ}
    {ended ended' : ℕ → Bool} {G G' : (ℕ → Rest) → Rest → Type 0} {n d1 : Counts}
    → Leads v Below S Body ended unreported G n B
    → ((s : ℕ → List Row) (ins ins' : ℕ → Rest) (r : Rest) → ((j : ℕ) → length (s j) ≡ unreported j)
    → ((j : ℕ) → ins' j ≡ with_rows (s j) (ins j)) → EndsUnreported v ended unreported ins' → G' ins r
    → (b : Rest) × Prefixed v [] d1 r b × G ins' b)
    → ((r : Rest) → Below' r → Below r) → (S → (r : Rest) → Body' r → Body r) → (S → S')
    → ((j : ℕ) → ended j ≡ true → ended' j ≡ true) → (r : Rest)
    → ((ins : ℕ → Rest) × Ends v ended' ins × Below' (ins 0) × (S' → Body' (ins 1)) × G' ins r)
    → (b : Rest) × Prefixed v [] (plus n d1) r b × B b
leads_beside {v} {ended} {d1} leads other back0 back1 begun more r h =
    let ends : Ends v ended h.0 = λ k q. h.1 k (more k q) in
    let d = leads h.0 ends (back0 _ h.2) (λ s. back1 s _ (h.3 (begun s))) in
    let all : ℕ → Rest = λ k. with_rows (d.0 k) (h.0 k) in
    let a = other d.0 h.0 all r d.1 (λ k. refl) (ends_unreported ended d.0 h.0 all _ ends (λ k. refl) d.1) h.4 in
    let f = d.2 all (λ k. refl) a.0 a.2 in
    (f.0, prefixed_then _ _ _ _ _ _ a.1 f.1, f.2)
