-- One part is lifted after another: what each leaves is what the whole leaves.
use Rattle.std.proofs.Common.{◌≡◌, ◌∙◌, ℕ, suc, ◌+◌, ◌<◌, ◌≤◌, List, [], ◌∷◌, ◌++◌, length, get_or, set, drop, take, map, refl, arith, ◌≢◌, sym, ap, ap₂, subst, append_assoc, append-nil, add-one}
use Rattle.std.specs.Prelude.{Result, Ok, Err}
use Rattle.std.specs.List.{refill}
use Rattle.std.proofs.Math.Seq.{drop-cons, take-append_seam}
use Rattle.std.proofs.lemmas.List.{map-append, drop_all, get_or-set_other, length-set, take_all, take_more_set}
use Rattle.aql_value.specs.declared.memory.OutOfMemory.{OutOfMemory}
use Rattle.aql_tree.specs.Tree.{ClauseTree}
use Rattle.aql_scope.specs.Lifting.{NumberedSubquery, Scoped, as_it_is, over, both, three}
use Rattle.aql_scope.specs.Lifts.{Progress, let_of, after, Lifts}

pub progress_is : (cs ds : List ClauseTree) (said more : List (List ℕ)) (n m : ℕ) → cs ≡ ds → said ≡ more → n ≡ m
    → ◌≡◌ {A = Progress} (record { clauses = cs; said = said; next = n })
    (record { clauses = ds; said = more; next = m })
progress_is cs ds said more n m e f g =
    ap₂ (λ a b. let p : Progress = record { clauses = a; said = b; next = n } in p) e f
    ∙ ap (λ k. let p : Progress = record { clauses = ds; said = more; next = k } in p) g

-- ---- two parts, three parts, and none

pub after_both : {S T U : Type 0} (h : S → T → U) (s : Scoped S) (t : Scoped T) (p : Progress)
    → after t (after s p) ≡ after (both h s t) p
after_both h s t p = progress_is _ _ _ _ t.next t.next
    (append_assoc p.clauses (map let_of s.subqueries) (map let_of t.subqueries)
    ∙ ap (λ ls. p.clauses ++ ls) (sym (map-append let_of s.subqueries t.subqueries)))
    (append_assoc p.said s.said t.said) refl

pub after_none : {T : Type 0} (t : T) (p : Progress) → p ≡ after (as_it_is t p.next) p
after_none t p = progress_is _ _ _ _ p.next p.next (sym (append-nil p.clauses)) (sym (append-nil p.said)) refl

-- of three parts the first two are one
abbrev pub pair : {S T : Type 0} → S → T → S × T
pair a b = (a, b)

scoped_is : {T : Type 0} (t : T) (a b : List NumberedSubquery) (said more : List (List ℕ)) (n : ℕ)
    → a ≡ b → said ≡ more
    → ◌≡◌ {A = Scoped T} (record { tree = t; subqueries = a; said = said; next = n })
    (record { tree = t; subqueries = b; said = more; next = n })
scoped_is {T} t a b said more n e f = ap₂ (λ x y. let s : Scoped T = record {
  tree = t;
  subqueries = x;
  said = y;
  next = n;
} in s) e f

pub three_both : {S T U V : Type 0} (h : S → T → U → V) (s : Scoped S) (t : Scoped T) (u : Scoped U)
    → three h s t u ≡ both (λ (p : S × T) c. h p.0 p.1 c) (both pair s t) u
three_both h s t u = scoped_is _ _ _ _ _ _ (sym (append_assoc s.subqueries t.subqueries u.subqueries))
    (sym (append_assoc s.said t.said u.said))

-- what the function that lifts a part answers
abbrev pub Given : {T : Type 0} → T → Scoped T → Progress → Progress → Type 0
Given a s before then = (a ≡ s.tree) × (then ≡ after s before)

pub over_given : {S T : Type 0} (h : S → T) (s : Scoped S) (a : S) (p q : Progress) → Given a s p q
    → Given (h a) (over h s) p q
over_given h s a p q g = (ap h g.0, g.1)

-- ---- the same for a call at the end, which may run out of memory

module _ {A : Type 0} (p l : Progress) (r : Result A OutOfMemory) where
  pub lifts_as : {T : Type 0} {t u : T} {s v : Scoped T} → t ≡ u → s ≡ v → Lifts u v p r l → Lifts t s p r l
  lifts_as {u = u} {s = s} e f h =
      subst (λ x. Lifts x s p r l) (sym e) (subst (λ x. Lifts u x p r l) (sym f) h)

pub lifts_over : {A S T : Type 0} (h : S → T) (s : Scoped S) (a : S) (p l : Progress) (r : Result A OutOfMemory)
    → Lifts a s p r l → Lifts (h a) (over h s) p r l
lifts_over h s a p l (Ok u) g = over_given h s a p l g
lifts_over h s a p l (Err e) g = tt

-- ---- lists

-- what was lifted of a list stands before the rest
abbrev pub before : {A T : Type 0} → (A → T → T) → List A → T → T
before cons [] t = t
before cons (a ∷ more) t = cons a (before cons more t)

before_more : {A T : Type 0} (cons : A → T → T) (done : List A) (a : A) (t : T)
    → before cons (done ++ a ∷ []) t ≡ before cons done (cons a t)
before_more cons [] a t = refl
before_more cons (b ∷ done) a t = ap (cons b) (before_more cons done a t)

-- The list `all` from its beginning on is what was lifted of it, `done`, and the rest from i on.
pub record Goes {X A T : Type 0} (part : X → A) (cons : A → T → T) (rest : ℕ → List A → Scoped T)
    (all : List X) (from : Progress) (i : ℕ) (done : List X) (now : Progress) : Type 0 where
  pub tree : (rest from.next (map part all)).tree
      ≡ before cons (map part done) (rest now.next (map part (drop i all))).tree
  pub left : after (rest from.next (map part all)) from ≡ after (rest now.next (map part (drop i all))) now

pub from_here : {A : Type 0} (all : List A) (i : ℕ) (x : A) → i < length all → x ≡ get_or all i x
    → drop i all ≡ x ∷ drop (i + 1) all
from_here all i x h e =
    subst (λ n. drop i all ≡ x ∷ drop n all) (sym (add-one i))
    (subst (λ y. drop i all ≡ y ∷ drop (suc i) all) (sym e) (drop-cons all i x h))

module _ {X A T : Type 0} {part : X → A} {cons : A → T → T} {rest : ℕ → List A → Scoped T} {all : List X}
    {from : Progress} {i : ℕ} {done : List X} {now : Progress}
    (goes : Goes part cons rest all from i done now)
  where
    -- one more was lifted
    pub turn : {S : Type 0} {x y : X} {new : List X} {then : Progress} (s : Scoped S) (h : S → T → T)
        → i < length all → x ≡ get_or all i x → new ≡ done ++ y ∷ []
        → ((more : List A) → rest now.next (part x ∷ more) ≡ both h s (rest s.next more))
        → ((t : T) → h s.tree t ≡ cons (part y) t) → then ≡ after s now
        → Goes part cons rest all from (i + 1) new then
    turn {x = x} {y = y} {new = new} s h lt is more step lifted e =
        subst (λ (p : Progress). Goes part cons rest all from (i + 1) new p) (sym e)
        (record { tree = tree_is; left = left_is }) where
          at_s : Scoped T
          at_s = rest s.next (map part (drop (i + 1) all))

          is_both : rest now.next (map part (drop i all)) ≡ both h s at_s
          is_both = ap (λ xs. rest now.next (map part xs)) (from_here all i x lt is) ∙ step _

          tree_is : (rest from.next (map part all)).tree ≡ before cons (map part new) at_s.tree
          tree_is = goes.tree ∙ ap (λ r. before cons (map part done) r.tree) is_both
              ∙ ap (before cons (map part done)) (lifted at_s.tree)
              ∙ sym (before_more cons (map part done) (part y) at_s.tree)
              ∙ ap (λ ps. before cons ps at_s.tree) (sym (map-append part done (y ∷ [])))
              ∙ ap (λ xs. before cons (map part xs) at_s.tree) (sym more)

          left_is : after (rest from.next (map part all)) from ≡ after at_s (after s now)
          left_is = goes.left ∙ ap (λ r. after r now) is_both ∙ sym (after_both h s at_s now)

    -- all were lifted
    pub finish : (e : T) {d : T} → length all ≤ i → rest now.next [] ≡ as_it_is e now.next
        → before cons (map part done) e ≡ d → Given d (rest from.next (map part all)) from now
    finish e past ends is = (
      sym (goes.tree ∙ ap (λ r. before cons (map part done) r.tree) none ∙ is),
      after_none e now ∙ sym (goes.left ∙ ap (λ r. after r now) none),
    ) where
      none : rest now.next (map part (drop i all)) ≡ as_it_is e now.next
      none = ap (λ xs. rest now.next (map part xs)) (drop_all i all past) ∙ ends

-- ---- lists that are lifted where they stand

-- the items from i on are those of the list `all`
abbrev pub Unvisited : {X : Type 0} → List X → ℕ → List X → Type 0
Unvisited {X} all i items =
    (length items ≡ length all) × ((k : ℕ) (d : X) → i ≤ k → get_or items k d ≡ get_or all k d)

module _ {X : Type 0} (all : List X) (i : ℕ) (items : List X) (ahead : Unvisited all i items) where
  -- the item at hand is that of the list
  pub same_item : (d : X) → d ≡ get_or items i d → get_or items i d ≡ get_or all i (get_or items i d)
  same_item d is = subst (λ z. get_or items i d ≡ get_or all i z) is (ahead.1 i d (omega arith))

  pub one_further : (y : X) → Unvisited all (i + 1) (set items i y)
  one_further y = (
    length-set items i y ∙ ahead.0,
    λ k d h. let other : k ≢ i = omega arith in get_or-set_other items i k y d other ∙ ahead.1 k d (omega arith),
  )

  pub refilled : refill (length all) all items ≡ items
  refilled = ap (λ n. take n (items ++ drop (length items) all)) (sym ahead.0) ∙ take-append_seam items _

module _ {X A T : Type 0} {part : X → A} {cons : A → T → T} {rest : ℕ → List A → Scoped T} {all : List X}
    {from : Progress} {i : ℕ} {now : Progress} (items : List X) (start : List X)
    (goes : Goes part cons rest all from i (take i items) now) (ahead : Unvisited all i items) (began : start ≡ all)
  where
    -- one more was lifted where it stands
    pub turn_there : {S : Type 0} {then : Progress} (d y : X) (s : Scoped S) (h : S → T → T)
        → i < length start → d ≡ get_or items i d
        → ((more : List A) → rest now.next (part (get_or items i d) ∷ more) ≡ both h s (rest s.next more))
        → ((t : T) → h s.tree t ≡ cons (part y) t) → then ≡ after s now
        → Goes part cons rest all from (i + 1) (take (i + 1) (set items i y)) then
        × Unvisited all (i + 1) (set items i y)
    turn_there d y s h lt is step lifted e = (
      turn goes s h inside (same_item all i items ahead d is)
          (take_more_set items i y (subst (λ n. i < n) (sym ahead.0) inside)) step lifted e,
      one_further all i items ahead y,
    ) where
      inside : i < length all
      inside = subst (λ xs. i < length xs) began lt

    -- all were lifted
    pub finish_there : {d : List X → T} (e : T) → length start ≤ i → rest now.next [] ≡ as_it_is e now.next
        → ((xs : List X) → before cons (map part xs) e ≡ d xs)
        → Given (d (refill (length all) all items)) (rest from.next (map part all)) from now
    finish_there {d = d} e past ends is =
        subst (λ xs. Given (d xs) (rest from.next (map part all)) from now)
        (take_all i items (subst (λ n. n ≤ i) (sym ahead.0) end) ∙ sym (refilled all i items ahead))
        (finish goes e end ends (is (take i items)))
      where
        end : length all ≤ i
        end = subst (λ xs. length xs ≤ i) began past
