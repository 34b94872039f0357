-- Numbers that are taken one after the other: by the variables of COLLECT and of a traversal, and what the
-- visible names are after them.
use Rattle.std.proofs.Common.{◌≡◌, ◌∙◌, ℕ, zero, suc, ◌+◌, ◌<◌, ◌≤◌, List, [], ◌∷◌, ◌++◌, map, length, refl, ap, arith}
use Rattle.std.specs.Prelude.{Option, Some, None, option_to_list}
use Rattle.std.specs.List.{AllByRecursion}
use Rattle.aql_tree.specs.declared.syntax.Ident.{Ident}
use Rattle.aql_tree.specs.declared.syntax.Ident.TheVariants.{Num}
use Rattle.aql_tree.specs.Tree.{TraversalShape}
use Rattle.aql_meaning.specs.Visible.{onto}
use Rattle.aql_meaning.specs.Numbered.{IsNumber}
use Rattle.aql_scope.specs.Numbering.{Numbering, idents, text_of, enter, numbers_from, number_after, maybe_number, after_traversal, traversal_names}
use Rattle.aql_scope.specs.laws.Alike.{NumbersAre, Below, numbers_bind, below_more}

pub number_more : (n m : ℕ) → n ≤ m → IsNumber (Num n) → IsNumber (Num m)
number_more zero m l h = absurd h
number_more (suc n) zero l h = absurd (omega arith)
number_more (suc n) (suc m) l h = tt

-- the variables ys are the numbers of xs, ascending from n on and below m
pub data Named : ℕ → List Ident → List Ident → ℕ → Type 0 where
  none : {n m : ℕ} → n ≤ m → Named n [] [] m
  next : (k : ℕ) (x : Ident) {n m : ℕ} {xs ys : List Ident} → n ≤ k → Named (suc k) xs ys m
      → Named n (x ∷ xs) (Num k ∷ ys) m

pub named_le : {n m : ℕ} {xs ys : List Ident} → Named n xs ys m → n ≤ m
named_le (none l) = l
named_le (next k x l w) = let more = named_le w in omega arith

pub named_from : {n o m : ℕ} {xs ys : List Ident} → n ≤ o → Named o xs ys m → Named n xs ys m
named_from h (none l) = none (omega arith)
named_from h (next k x l w) = next k x (omega arith) w

pub named_all : (xs : List Ident) (n : ℕ) → Named n xs (numbers_from n xs) (number_after xs n)
named_all [] n = none (omega arith)
named_all (x ∷ xs) n = next n x (omega arith) (named_all xs (suc n))

pub named_given : (o : Option Ident) (n : ℕ)
    → Named n (option_to_list o) (option_to_list (maybe_number n o)) (number_after (option_to_list o) n)
named_given None n = none (omega arith)
named_given (Some x) n = next n x (omega arith) (none (omega arith))

pub named_numbers : {n m : ℕ} {xs ys : List Ident} → Named n xs ys m → IsNumber (Num n)
    → AllByRecursion IsNumber ys
named_numbers (none l) h = tt
named_numbers {n} (next k x l w) h = (number_more n k l h, named_numbers w tt)

pub idents_entered : {n m : ℕ} {xs ys : List Ident} (names : Numbering) → Named n xs ys m
    → idents (enter xs ys names) ≡ onto xs (idents names)
idents_entered names (none l) = refl
idents_entered names (next k x l w) = idents_entered ((x, k) ∷ names) w

pub numbers_entered : (P : ℕ → Type 0) {n m : ℕ} {xs ys : List Ident} (own outer : Numbering)
    → Named n xs ys m → ((k : ℕ) → n ≤ k → k < m → P k) → NumbersAre P (own ++ outer)
    → NumbersAre P (enter xs ys own ++ outer)
numbers_entered P own outer (none l) f b = b
numbers_entered P own outer (next k x l w) f b =
    let more = named_le w in
    numbers_entered P ((x, k) ∷ own) outer w (λ j h i. f j (omega arith) i)
    (numbers_bind P k (own ++ outer) x (f k l (omega arith)) b)

pub below_entered : {n m : ℕ} {xs ys : List Ident} (own outer : Numbering) → Named n xs ys m
    → Below n (own ++ outer) → Below m (enter xs ys own ++ outer)
below_entered {n} {m} own outer w b =
    numbers_entered (λ k. k < m) own outer w (λ k i j. j) (below_more n m (own ++ outer) (named_le w) b)

-- The query's own names after a clause, and the variables that it has set: to those before it, or to none,
-- the clause adds variables with numbers from n on and below m.
pub data Grown (own : Numbering) (n : ℕ) : ℕ → Numbering → List Ident → Type 0 where
  same : {m : ℕ} → n ≤ m → Grown own n m own (idents own)
  fresh : {m : ℕ} → n ≤ m → Grown own n m [] []
  with_named : {k j m : ℕ} {o : Numbering} {vars xs ys : List Ident} → Grown own n k o vars → Named k xs ys j
      → j ≤ m → Grown own n m (enter xs ys o) (onto xs vars)

pub grown_le : {own : Numbering} {n m : ℕ} {o : Numbering} {vars : List Ident} → Grown own n m o vars → n ≤ m
grown_le (same l) = l
grown_le (fresh l) = l
grown_le (with_named g w l) = let j = grown_le g in let k = named_le w in omega arith

pub grown_later : {own : Numbering} {n k m : ℕ} {o : Numbering} {vars : List Ident} → Grown own n k o vars
    → k ≤ m → Grown own n m o vars
grown_later (same l) h = same (omega arith)
grown_later (fresh l) h = fresh (omega arith)
grown_later (with_named g w l) h = with_named g w (omega arith)

pub grown_idents : {own : Numbering} {n m : ℕ} {o : Numbering} {vars : List Ident} → Grown own n m o vars
    → idents o ≡ vars
grown_idents (same l) = refl
grown_idents (fresh l) = refl
grown_idents (with_named {o = o} {xs = xs} g w l) = idents_entered o w ∙ ap (onto xs) (grown_idents g)

pub grown_numbers : (P : ℕ → Type 0) {own : Numbering} {n m : ℕ} {o : Numbering} {vars : List Ident}
    (outer : Numbering) → Grown own n m o vars → ((k : ℕ) → n ≤ k → k < m → P k) → NumbersAre P outer
    → NumbersAre P (own ++ outer) → NumbersAre P (o ++ outer)
grown_numbers P outer (same l) f a b = b
grown_numbers P outer (fresh l) f a b = a
grown_numbers P outer (with_named {o = o} g w l) f a b =
    let before = grown_le g in
    let after = named_le w in
    numbers_entered P o outer w (λ k i j. f k (omega arith) (omega arith))
    (grown_numbers P outer g (λ k i j. f k i (omega arith)) a b)

pub grown_by : {own : Numbering} {n k m : ℕ} {o : Numbering} {vars xs ys : List Ident} → Grown own n k o vars
    → Named k xs ys m → Grown own n m (enter xs ys o) (onto xs vars)
grown_by g w = with_named g w (omega arith)

pub grown_one : (x : Ident) (own : Numbering) (n : ℕ) {m : ℕ} → n < m
    → Grown own n m ((x, n) ∷ own) (x ∷ idents own)
grown_one x own n l = grown_by {k = n} (same (omega arith)) (next n x (omega arith) (none l))

pub grown_traversal : (n : ℕ) (w : TraversalShape) (own : Numbering) → Grown own n (after_traversal n w)
    (traversal_names n w own)
    (onto (option_to_list w.path) (onto (option_to_list w.edge) (w.vertex ∷ idents own)))
grown_traversal n w own =
    grown_by (grown_by (grown_one w.vertex own n (omega arith)) (named_given w.edge (suc n)))
    (named_given w.path _)

-- ---- names and the numbers that they take

pub counted_append : (xs ys : List Ident) (n : ℕ)
    → number_after (xs ++ ys) n ≡ number_after ys (number_after xs n)
counted_append [] ys n = refl
counted_append (x ∷ xs) ys n = counted_append xs ys (suc n)

pub counted : (xs : List Ident) (n : ℕ) → n + length (map text_of xs) ≡ number_after xs n
counted [] n = omega arith
counted (x ∷ xs) n = let rest = counted xs (suc n) in omega arith
