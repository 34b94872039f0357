-- A loop that puts what stands in a queue in the places of a list, one item after another.
use Rattle.std.proofs.Common.{◌≡◌, ◌∙◌, ℕ, ◌+◌, ◌<◌, ◌≤◌, List, [], ◌∷◌, ◌++◌, length, get_or, set, drop, take, map, arith, sym, ap, subst, append_assoc, append-nil, add-one, drop-set-lt}
use Rattle.std.specs.List.{refill}
use Rattle.std.proofs.Math.Seq.{drop-cons, take-append_seam}
use Rattle.std.proofs.lemmas.List.{map-append, drop_all, length-set, take_all, take_more_set}

from_here : {A : Type 0} (all : List A) (i : ℕ) (d : A) → i < length all
    → drop i all ≡ get_or all i d ∷ drop (i + 1) all
from_here all i d h =
    subst (λ n. drop i all ≡ get_or all i d ∷ drop n all) (sym (add-one i)) (drop-cons all i d h)

module _ {X A Q : Type 0} (part : X → A) (over : List A → Q → List A) (after : List A → Q → Q) where
  -- what is done stands before what is to come
  pub record Goes (all : List X) (q : Q) (i : ℕ) (items : List X) (left : Q) : Type 0 where
    pub long : length items ≡ length all
    pub made : map part (take i items) ++ over (map part (drop i items)) left ≡ over (map part all) q
    pub rest : after (map part (drop i items)) left ≡ after (map part all) q

  pub begun : (all start : List X) (q : Q) → start ≡ all → Goes all q 0 start q
  begun all start q began = record {
    long = ap length began;
    made = ap (λ xs. over (map part xs) q) began;
    rest = ap (λ xs. after (map part xs) q) began;
  }

  module _ (all start : List X) (q : Q) (i : ℕ) (items : List X) (left : Q)
      (goes : Goes all q i items left) (began : start ≡ all) where
    pub one_set : (d y : X) (then : Q) → i < length start
        → ((more : List A) → over (part (get_or items i d) ∷ more) left ≡ part y ∷ over more then)
        → ((more : List A) → after (part (get_or items i d) ∷ more) left ≡ after more then)
        → Goes all q (i + 1) (set items i y) then
    one_set d y then lt made rest = record {
      long = length-set items i y ∙ goes.long;
      made = ap (λ xs. map part xs ++ over (map part (drop (i + 1) (set items i y))) then)
          (take_more_set items i y inside)
          ∙ ap (λ xs. map part (take i items ++ y ∷ []) ++ over (map part xs) then) later
          ∙ ap (λ ps. ps ++ over rests then) (map-append part (take i items) (y ∷ []))
          ∙ append_assoc (map part (take i items)) (part y ∷ []) (over rests then)
          ∙ ap (λ ps. map part (take i items) ++ ps) (sym (made rests))
          ∙ ap (λ xs. map part (take i items) ++ over (map part xs) left) (sym here) ∙ goes.made;
      rest = ap (λ xs. after (map part xs) then) later ∙ sym (rest rests)
          ∙ ap (λ xs. after (map part xs) left) (sym here) ∙ goes.rest;
    } where
      inside : i < length items
      inside = subst (λ n. i < n) (ap length began ∙ sym goes.long) lt

      rests : List A
      rests = map part (drop (i + 1) items)

      here : drop i items ≡ get_or items i d ∷ drop (i + 1) items
      here = from_here items i d inside

      later : drop (i + 1) (set items i y) ≡ drop (i + 1) items
      later = drop-set-lt (i + 1) items i y (omega arith)

    refilled : refill (length all) all items ≡ items
    refilled = ap (λ n. take n (items ++ drop (length items) all)) (sym goes.long) ∙ take-append_seam items _

    past : length start ≤ i → length items ≤ i
    past h = subst (λ n. n ≤ i) (ap length began ∙ sym goes.long) h

    pub all_set : length start ≤ i → over [] left ≡ []
        → map part (refill (length all) all items) ≡ over (map part all) q
    all_set h none = ap (map part) refilled ∙ ap (map part) (sym (take_all i items (past h)))
        ∙ sym (append-nil (map part (take i items)))
        ∙ ap (λ ps. map part (take i items) ++ ps) (sym none)
        ∙ ap (λ xs. map part (take i items) ++ over (map part xs) left) (sym (drop_all i items (past h)))
        ∙ goes.made

    pub none_left : length start ≤ i → after [] left ≡ left → left ≡ after (map part all) q
    none_left h none = sym none ∙ ap (λ xs. after (map part xs) left) (sym (drop_all i items (past h)))
        ∙ goes.rest

-- ---- the parts of items
