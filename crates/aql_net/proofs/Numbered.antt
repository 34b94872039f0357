-- Messages with rising numbers, and what remains of them when some are taken.
use Rattle.std.proofs.Common.{◌≡◌, ℕ, zero, suc, ◌+◌, ◌<◌, ◌++◌, List, [], ◌∷◌, length, Bool, true, false, not, ◌&&◌, ◌||◌, cond, refl, sym, ap, ◌∙◌, subst, arith, get_or}
use Rattle.std.specs.Prelude.{◌==◌, filter, remove, slice_get, Some}
use Rattle.std.specs.List.{All, AllPairs, list_any, position_or_len}
use Rattle.std.proofs.lemmas.Bool.{eq-eqb, ne_eqb, eqb-true}
use Rattle.std.proofs.lemmas.List.{length_push}
use Rattle.std.proofs.lemmas.List.Edits.{length-remove}
use Rattle.std.proofs.lemmas.List.Elements.{filter-append, All-push, All-weaker, All-filter, All-head, All-tail, filter_agree}
use Rattle.std.proofs.lemmas.List.Folds.{list_any-append, list_any_none}
use Rattle.std.proofs.lemmas.List.Kept.{AllPairs-filter}
use Rattle.std.proofs.lemmas.List.Quantifiers.{all_pairs_push}
use Rattle.std.proofs.lemmas.List.Sums.{position_or_len_is, passes_at_first}
use Rattle.std.proofs.lemmas.Option.{none-some, same_Some, slice_get_within, slice_get-get_or, get_or_from_slice_get}
use Rattle.aql_block.specs.declared.calls.Progress.TheVariants.{Done}
use Rattle.aql_net.specs.declared.logs.Sort.TheVariants.{Reply}
use Rattle.aql_net.specs.Logs.{Dispatch}

abbrev pub Rises : List Dispatch → Type 0
Rises ms = AllPairs (λ (m k : Dispatch). m.number < k.number) ms

abbrev is_left : List ℕ → Dispatch → Bool
is_left taken m = not (list_any (λ k. k == m.number) taken)

abbrev is_other : ℕ → Dispatch → Bool
is_other n m = not (n == m.number)

-- those of the messages that were not taken
abbrev pub remaining : List Dispatch → List ℕ → List Dispatch
remaining sent taken = filter (is_left taken) sent

pub record Numbered (sent : List Dispatch) (taken : List ℕ) : Type 0 where
  pub below : All (λ (m : Dispatch). m.number < length sent) sent
  pub rising : Rises sent
  pub known : All (λ n. n < length sent) taken
  pub as_many : length taken + length (remaining sent taken) ≡ length sent

pub rising-remaining : (sent : List Dispatch) (taken : List ℕ) → Numbered sent taken
    → Rises (remaining sent taken)
rising-remaining sent taken h =
    AllPairs-filter (λ (m k : Dispatch). m.number < k.number) (is_left taken) sent h.rising

-- ---- one more is sent

pub remaining-sent : (sent : List Dispatch) (taken : List ℕ) (m : Dispatch) → Numbered sent taken
    → m.number ≡ length sent → remaining (sent ++ m ∷ []) taken ≡ remaining sent taken ++ m ∷ []
remaining-sent sent taken m h next =
    let fresh : list_any (λ k. k == m.number) taken ≡ false =
    list_any_none (λ k. k == m.number) taken
    (All-weaker (λ n. n < length sent) (λ k. (k == m.number) ≡ false)
    (λ k less. ne_eqb k m.number (λ e. absurd (omega (arith, less, e, next)))) taken h.known) in
    filter-append (is_left taken) sent (m ∷ [])
    ∙ ap (λ b. remaining sent taken ++ cond (not b) (m ∷ []) []) fresh

pub numbered-sent : (sent : List Dispatch) (taken : List ℕ) (m : Dispatch) → Numbered sent taken
    → m.number ≡ length sent → Numbered (sent ++ m ∷ []) taken
numbered-sent sent taken m h next =
    let more = length_push sent m in
    let P : Dispatch → Type 0 = λ x. x.number < length (sent ++ m ∷ []) in
    record {
      below = All-push P sent m (All-weaker (λ (x : Dispatch). x.number < length sent) P
          (λ x less. omega (arith, less, more)) sent h.below) (omega (arith, next, more));
      rising = all_pairs_push (λ (x y : Dispatch). x.number < y.number) sent m h.rising
          (λ k d within. let less = h.below k d within in omega (arith, less, next));
      known = All-weaker (λ n. n < length sent) (λ n. n < length (sent ++ m ∷ []))
          (λ n less. omega (arith, less, more)) taken h.known;
      as_many = (
          let many = h.as_many in
          let left : length (remaining (sent ++ m ∷ []) taken) ≡ length (remaining sent taken) + 1 =
          ap length (remaining-sent sent taken m h next) ∙ length_push (remaining sent taken) m in
          omega (arith, many, left, more));
    }

-- ---- one more is taken

some_dispatch : Dispatch
some_dispatch = record { number = 0; link = 0; what = Reply 0 0 Done }

filter_all : (test : Dispatch → Bool) (xs : List Dispatch) → All (λ x. test x ≡ true) xs → filter test xs ≡ xs
filter_all test [] h = refl
filter_all test (x ∷ xs) h =
    ap (λ b. cond b (x ∷ filter test xs) (filter test xs)) (All-head (λ x. test x ≡ true) x xs h)
    ∙ ap (λ z. x ∷ z) (filter_all test xs (All-tail (λ x. test x ≡ true) x xs h))

filter_both : (p q : Dispatch → Bool) (xs : List Dispatch)
    → filter (λ x. p x && q x) xs ≡ filter q (filter p xs)
filter_both p q [] = refl
filter_both p q (x ∷ xs) =
    let more = filter_both p q xs in
    elim (p x) as (λ b. cond (b && q x) (x ∷ filter (λ x. p x && q x) xs) (filter (λ x. p x && q x) xs)
    ≡ filter q (cond b (x ∷ filter p xs) (filter p xs))) [
      | true ↦ ap (λ z. cond (q x) (x ∷ z) z) more
      | false ↦ more
    ]

not_either : (a b : Bool) → not (a || (b || false)) ≡ (not a && not b)
not_either true b = refl
not_either false true = refl
not_either false false = refl

remaining-without : (sent : List Dispatch) (taken : List ℕ) (n : ℕ)
    → remaining sent (taken ++ n ∷ []) ≡ filter (is_other n) (remaining sent taken)
remaining-without sent taken n =
    filter_agree (is_left (taken ++ n ∷ [])) (λ m. is_left taken m && is_other n m)
    (λ m. ap not (list_any-append (λ k. k == m.number) taken (n ∷ []))
    ∙ not_either (list_any (λ k. k == m.number) taken) (n == m.number)) sent
    ∙ filter_both (is_left taken) (is_other n) sent

after_first : (x : Dispatch) (xs : List Dispatch) → Rises (x ∷ xs) → All (λ m. x.number < m.number) xs
after_first x xs h k d within = h zero (suc k) d (omega arith) (omega (arith, within))

rest_rises : (x : Dispatch) (xs : List Dispatch) → Rises (x ∷ xs) → Rises xs
rest_rises x xs h i j d less within = h (suc i) (suc j) d (omega (arith, less)) (omega (arith, within))

-- where the numbers rise, one number is at one place
without-is : (xs : List Dispatch) (at : ℕ) (x : Dispatch) → Rises xs → slice_get xs at ≡ Some x
    → filter (is_other x.number) xs ≡ remove xs at
without-is [] at x rises is = absurd (none-some x is)
without-is (y ∷ xs) zero x rises is =
    let same : x.number ≡ y.number = ap (λ (m : Dispatch). m.number) (sym (same_Some y x is)) in
    let rest : List Dispatch = filter (is_other x.number) xs in
    ap (λ b. cond (not b) (y ∷ rest) rest) (eq-eqb x.number y.number same)
    ∙ filter_all (is_other x.number) xs
    (All-weaker (λ (m : Dispatch). y.number < m.number) (λ m. is_other x.number m ≡ true)
    (λ m less. ap not (ne_eqb x.number m.number (λ e. absurd (omega (arith, less, e, same))))) xs
    (after_first y xs rises))
without-is (y ∷ xs) (suc at) x rises is =
    let less : y.number < x.number =
    subst (λ (m : Dispatch). y.number < m.number) (get_or_from_slice_get xs at x y is)
    (after_first y xs rises at y (slice_get_within xs at x is)) in
    let rest : List Dispatch = filter (is_other x.number) xs in
    ap (λ b. cond (not b) (y ∷ rest) rest) (ne_eqb x.number y.number (λ e. absurd (omega (arith, less, e))))
    ∙ ap (λ z. y ∷ z) (without-is xs at x (rest_rises y xs rises) is)

pub position-is : (xs : List Dispatch) (at : ℕ) (x : Dispatch) → Rises xs → slice_get xs at ≡ Some x
    → position_or_len (λ m. m.number == x.number) xs ≡ at
position-is xs at x rises is =
    let within = slice_get_within xs at x is in
    let here = get_or_from_slice_get xs at x x is in
    position_or_len_is (λ m. m.number == x.number) xs at x (omega (arith, within))
    (λ k before.
    let less : (get_or xs k x).number < x.number =
    subst (λ (m : Dispatch). (get_or xs k x).number < m.number) here (rises k at x before within) in
    ne_eqb (get_or xs k x).number x.number (λ e. absurd (omega (arith, less, e))))
    (λ _. eq-eqb (get_or xs at x).number x.number (ap (λ (m : Dispatch). m.number) here))

pub remaining-taken : (sent : List Dispatch) (taken : List ℕ) (at : ℕ) (x : Dispatch) → Numbered sent taken
    → slice_get (remaining sent taken) at ≡ Some x
    → remaining sent (taken ++ x.number ∷ []) ≡ remove (remaining sent taken) at
remaining-taken sent taken at x h is =
    remaining-without sent taken x.number
    ∙ without-is (remaining sent taken) at x (rising-remaining sent taken h) is

pub numbered-taken : (sent : List Dispatch) (taken : List ℕ) (n : ℕ) → Numbered sent taken
    → position_or_len (λ m. m.number == n) (remaining sent taken) < length (remaining sent taken)
    → Numbered sent (taken ++ n ∷ [])
numbered-taken sent taken n h within =
    let xs : List Dispatch = remaining sent taken in
    let at : ℕ = position_or_len (λ m. m.number == n) xs in
    let x : Dispatch = get_or xs at some_dispatch in
    let passes = passes_at_first (λ (m : Dispatch). m.number == n) xs some_dispatch within in
    let number : x.number ≡ n = eqb-true x.number n passes in
    let left : remaining sent (taken ++ n ∷ []) ≡ remove xs at =
    ap (λ z. remaining sent (taken ++ z ∷ [])) (sym number)
    ∙ remaining-taken sent taken at x h (slice_get-get_or xs at some_dispatch within) in
    let was_sent : x.number < length sent =
    All-filter (is_left taken) (λ (m : Dispatch). m.number < length sent) sent h.below
    at some_dispatch within in
    record {
      below = h.below;
      rising = h.rising;
      known = All-push (λ k. k < length sent) taken n h.known (omega (arith, was_sent, number));
      as_many = (
          let many = h.as_many in
          let fewer : length (remaining sent (taken ++ n ∷ [])) + 1 ≡ length xs =
          ap (λ z. length z + 1) left ∙ length-remove xs at within in
          let more = length_push taken n in
          omega (arith, many, fewer, more));
    }
