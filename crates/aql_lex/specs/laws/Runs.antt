-- Runs of bytes that pass a test, and the first byte that does not.
use Rattle.std.proofs.Common.{◌≡◌, ◌≢◌, ℕ, suc, ◌+◌, ◌≤◌, Bool, true, false, cond, List, [], ◌∷◌}
use Rattle.std.proofs.Common.{◌++◌, length, take, drop, refl, sym, ap, ◌∙◌, subst, arith, length-append}
use Rattle.std.specs.Prelude.{◌&&◌, All}
use Rattle.std.specs.List.{prefix_len, list_all}
use Rattle.std.proofs.lemmas.List.{take-append-drop}
use Rattle.std.proofs.lemmas.List.Elements.{All-head, All-tail}
use Rattle.aql_lex.specs.Characters.{begins}

pub and_left : (a b : Bool) → (a && b) ≡ true → a ≡ true
and_left true b h = refl
and_left false b h = h

pub and_right : (a b : Bool) → (a && b) ≡ true → b ≡ true
and_right true b h = h
and_right false b h = absurd (cc)

pub and_both : (a b : Bool) → a ≡ true → b ≡ true → (a && b) ≡ true
and_both a b h k = rw (h, k) refl

one_more : (n : ℕ) → suc n ≡ 1 + n
one_more n = omega arith

pub longest_run_passes : (p : ℕ → Bool) (text : List ℕ) → list_all p (take (prefix_len p text) text) ≡ true
longest_run_passes p [] = refl
longest_run_passes p (b ∷ text) = by_test (p b) refl (longest_run_passes p text)
  where
    by_test : (t : Bool) → p b ≡ t → list_all p (take (prefix_len p text) text) ≡ true
        → list_all p (take (cond (p b) (1 + prefix_len p text) 0) (b ∷ text)) ≡ true
    by_test true e more =
        rw e
        (subst (λ k. list_all p (take k (b ∷ text)) ≡ true) (one_more (prefix_len p text))
        (and_both (p b) _ e more))
    by_test false e more = rw e refl

pub longest_run_stops : (p : ℕ → Bool) (text : List ℕ) → begins p (drop (prefix_len p text) text) ≡ false
longest_run_stops p [] = refl
longest_run_stops p (b ∷ text) = by_test (p b) refl (longest_run_stops p text)
  where
    by_test : (t : Bool) → p b ≡ t → begins p (drop (prefix_len p text) text) ≡ false
        → begins p (drop (cond (p b) (1 + prefix_len p text) 0) (b ∷ text)) ≡ false
    by_test true e more =
        rw e (subst (λ k. begins p (drop k (b ∷ text)) ≡ false) (one_more (prefix_len p text)) more)
    by_test false e more = rw e e

-- no run at the front leaves less than the longest
pub run_longest : (p : ℕ → Bool) (run other rest after : List ℕ) → run ++ rest ≡ other ++ after
    → list_all p other ≡ true → begins p rest ≡ false → length rest ≤ length after
run_longest p [] [] rest after e all stop = let long = ap length e in omega arith
run_longest p [] (y ∷ other) rest after e all stop =
    let here = and_left (p y) _ all in let first = ap (begins p) e in absurd (cc)
run_longest p (x ∷ run) [] rest after e all stop =
    let long = ap length e in let sum = length-append run rest in omega arith
run_longest p (x ∷ run) (y ∷ other) rest after e all stop =
    let more : run ++ rest ≡ other ++ after = cc in
    run_longest p run other rest after more (and_right (p y) _ all) stop

-- the run is the longest at the front of the text, and the rest is after it
pub record IsRun (p : ℕ → Bool) (text run rest : List ℕ) : Type 0 where
  pub splits : text ≡ run ++ rest
  pub passes : list_all p run ≡ true
  pub stops : begins p rest ≡ false

-- a list has one longest run at its front
pub one_run : (p : ℕ → Bool) (xs ys us vs : List ℕ) → xs ++ us ≡ ys ++ vs → list_all p xs ≡ true
    → list_all p ys ≡ true → begins p us ≡ false → begins p vs ≡ false → (xs ≡ ys) × (us ≡ vs)
one_run p [] [] us vs e all every stop end = (refl, e)
one_run p [] (y ∷ ys) us vs e all every stop end =
    let here = and_left (p y) _ every in let same = ap (begins p) e in absurd (cc)
one_run p (x ∷ xs) [] us vs e all every stop end =
    let here = and_left (p x) _ all in let same = ap (begins p) e in absurd (cc)
one_run p (x ∷ xs) (y ∷ ys) us vs e all every stop end =
    let front : x ≡ y = cc in
    let after : xs ++ us ≡ ys ++ vs = cc in
    let more = one_run p xs ys us vs after (and_right (p x) _ all) (and_right (p y) _ every) stop end in
    (λ i. front i ∷ more.0 i, more.1)

-- the first occurrence of a byte splits a list in one way
pub one_split : (c : ℕ) (xs ys us vs : List ℕ) → xs ++ c ∷ us ≡ ys ++ c ∷ vs → All (λ b. b ≢ c) xs
    → All (λ b. b ≢ c) ys → (xs ≡ ys) × (us ≡ vs)
one_split c [] [] us vs e none free = (refl, let same : us ≡ vs = cc in same)
one_split c [] (y ∷ ys) us vs e none free =
    let same : c ≡ y = cc in absurd (All-head (λ b. b ≢ c) y ys free (sym same))
one_split c (x ∷ xs) [] us vs e none free =
    let same : x ≡ c = cc in absurd (All-head (λ b. b ≢ c) x xs none same)
one_split c (x ∷ xs) (y ∷ ys) us vs e none free =
    let front : x ≡ y = cc in
    let after : xs ++ c ∷ us ≡ ys ++ c ∷ vs = cc in
    let more =
    one_split c xs ys us vs after (All-tail (λ b. b ≢ c) x xs none)
    (All-tail (λ b. b ≢ c) y ys free) in
    (λ i. front i ∷ more.0 i, more.1)

-- a list without the byte has no such split
pub no_split : (c : ℕ) (xs ys vs : List ℕ) → xs ≡ ys ++ c ∷ vs → All (λ b. b ≢ c) xs → ⊥
no_split c [] [] vs e none = absurd (cc)
no_split c [] (y ∷ ys) vs e none = absurd (cc)
no_split c (x ∷ xs) [] vs e none = let same : x ≡ c = cc in All-head (λ b. b ≢ c) x xs none same
no_split c (x ∷ xs) (y ∷ ys) vs e none =
    let after : xs ≡ ys ++ c ∷ vs = cc in no_split c xs ys vs after (All-tail (λ b. b ≢ c) x xs none)

-- two ends of a list of one length are one
pub one_end : (xs ys us vs : List ℕ) → xs ++ us ≡ ys ++ vs → length us ≡ length vs → (xs ≡ ys) × (us ≡ vs)
one_end [] [] us vs e same = (refl, e)
one_end [] (y ∷ ys) us vs e same =
    let long = ap length e in let sum = length-append ys vs in absurd (omega arith)
one_end (x ∷ xs) [] us vs e same =
    let long = ap length e in let sum = length-append xs us in absurd (omega arith)
one_end (x ∷ xs) (y ∷ ys) us vs e same =
    let front : x ≡ y = cc in
    let after : xs ++ us ≡ ys ++ vs = cc in
    let more = one_end xs ys us vs after same in
    (λ i. front i ∷ more.0 i, more.1)

pub cut_is_run : (p : ℕ → Bool) (text run rest : List ℕ) (n : ℕ) → n ≡ prefix_len p text → run ≡ take n text
    → rest ≡ drop n text → IsRun p text run rest
cut_is_run p text run rest n len front back =
    let run_is : run ≡ take (prefix_len p text) text = front ∙ ap (λ k. take k text) len in
    let rest_is : rest ≡ drop (prefix_len p text) text = back ∙ ap (λ k. drop k text) len in
    record {
      splits = sym (take-append-drop (prefix_len p text) text) ∙ (λ i. sym run_is i ++ sym rest_is i);
      passes = rw run_is (longest_run_passes p text);
      stops = rw rest_is (longest_run_stops p text);
    }
