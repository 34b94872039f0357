-- Rows of the scoped query beside rows of the written one.
use Rattle.std.proofs.Common.{◌≡◌, ◌∙◌, ℕ, ◌<◌, ◌≤◌, [], ◌∷◌, ◌++◌, Bool, true, false, cond, refl, ap, sym, arith}
use Rattle.std.specs.Prelude.{Option, Some, None, MatchOption, is_some, ◌==◌, ◌||◌}
use Rattle.std.specs.Bool.{Decides}
use Rattle.std.specs.Cmp.{unsigned_Decides}
use Rattle.std.proofs.lemmas.Slice.Eq.{bytes_eq-Decides}
use Rattle.std.specs.List.{list_any}
use Rattle.aql_value.specs.Datum.{Datum}
use Rattle.aql_tree.specs.declared.syntax.Ident.{Ident}
use Rattle.aql_tree.specs.declared.syntax.Ident.TheVariants.{Name, Num}
use Rattle.aql_meaning.specs.Row.{Row, bind, same_ident}
use Rattle.aql_meaning.specs.Visible.{sees}
use Rattle.aql_scope.specs.Numbering.{Numbering, number_of, idents}

-- the value of a name that has this number, or no value
abbrev pub AlikeAt : Row → Option ℕ → Option Datum → Type 0
AlikeAt s None o = o ≡ None
AlikeAt s (Some k) o = (v : Datum) × (s (Num k) ≡ Some v) × (o ≡ Some v)

-- s has under its number the value that r has under each visible name, and r has no others
abbrev pub Alike : Numbering → Row → Row → Type 0
Alike names s r = (x : Ident) → AlikeAt s (number_of names x) (r x)

-- P holds of the number of each visible name
abbrev pub NumbersAre : (ℕ → Type 0) → Numbering → Type 0
NumbersAre P names = (x : Ident) → MatchOption (number_of names x) (Unit {0}) P

-- the numbers of the visible names are below n
abbrev pub Below : ℕ → Numbering → Type 0
Below n names = NumbersAre (λ k. k < n) names

same_answer : (a b : Bool) {P Q : Type 0} → Decides a P → Decides b Q → (P → Q) → (Q → P) → a ≡ b
same_answer true true h k f g = refl
same_answer true false h k f g = sym (k.1 (f (h.0 refl)))
same_answer false true h k f g = h.1 (g (k.0 refl))
same_answer false false h k f g = refl

num_self : (n : ℕ) → same_ident (Num n) (Num n) ≡ true
num_self n = (unsigned_Decides n n).1 refl

num_apart : (n k : ℕ) → k < n → same_ident (Num n) (Num k) ≡ false
num_apart n k h = by (n == k) refl
  where
    by : (b : Bool) → (n == k) ≡ b → b ≡ false
    by true e = absurd (let f : n ≡ k = (unsigned_Decides n k).0 e in omega arith)
    by false e = refl

same_ident_sym : (x y : Ident) → same_ident x y ≡ same_ident y x
same_ident_sym (Name a) (Name b) = same_answer _ _ (bytes_eq-Decides a b) (bytes_eq-Decides b a) sym sym
same_ident_sym (Name a) (Num k) = refl
same_ident_sym (Num k) (Name a) = refl
same_ident_sym (Num k) (Num j) = same_answer _ _ (unsigned_Decides k j) (unsigned_Decides j k) sym sym

pub numbers_bind : (P : ℕ → Type 0) (n : ℕ) (names : Numbering) (x : Ident) → P n → NumbersAre P names
    → NumbersAre P ((x, n) ∷ names)
numbers_bind P n names x h b y = by (same_ident x y)
  where
    by : (c : Bool) → MatchOption (cond c (Some n) (number_of names y)) (Unit {0}) P
    by true = h
    by false = b y

-- a greater bound
pub below_more : (n m : ℕ) (names : Numbering) → n ≤ m → Below n names → Below m names
below_more n m names h b x = by (number_of names x) (b x)
  where
    by : (o : Option ℕ) → MatchOption o (Unit {0}) (λ k. k < n) → MatchOption o (Unit {0}) (λ k. k < m)
    by None l = tt
    by (Some k) l = omega arith

pub below_bind : (n m : ℕ) (names : Numbering) (x : Ident) → n < m → Below n names → Below m ((x, n) ∷ names)
below_bind n m names x h b =
    numbers_bind (λ k. k < m) n names x h (below_more n m names (omega arith) b)

pub bind_at : (n k : ℕ) (s : Row) (v : Datum) → k < n → bind (Num n) s v (Num k) ≡ s (Num k)
bind_at n k s v h = ap (λ (b : Bool). cond b (Some v) (s (Num k))) (num_apart n k h)

pub bind_self : (n : ℕ) (s : Row) (v : Datum) → bind (Num n) s v (Num n) ≡ Some v
bind_self n s v = ap (λ (b : Bool). cond b (Some v) (s (Num n))) (num_self n)

-- a further number changes nothing
pub alike_more : (names : Numbering) (n : ℕ) (s r : Row) (v : Datum) → Below n names → Alike names s r
    → Alike names (bind (Num n) s v) r
alike_more names n s r v b h x = by (number_of names x) (b x) (h x)
  where
    by : (o : Option ℕ) → MatchOption o (Unit {0}) (λ k. k < n) → AlikeAt s o (r x)
        → AlikeAt (bind (Num n) s v) o (r x)
    by None l k = k
    by (Some j) l k = (k.0, bind_at n j s v l ∙ k.1, k.2)

-- a new variable, by its number and by its name
pub alike_bind : (names : Numbering) (n : ℕ) (x : Ident) (s r : Row) (v : Datum) → Below n names
    → Alike names s r
    → Alike ((x, n) ∷ names) (bind (Num n) s v) (bind x r v)
alike_bind names n x s r v b h y = by (same_ident x y)
  where
    by : (c : Bool) → AlikeAt (bind (Num n) s v) (cond c (Some n) (number_of names y)) (cond c (Some v) (r y))
    by true = (v, bind_self n s v, refl)
    by false = alike_more names n s r v b h y

-- a name has a number where it is one of the query's own or of the outer ones
seen_append : (own outer : Numbering) (y : Ident) → is_some (number_of (own ++ outer) y)
    ≡ (list_any (same_ident y) (idents own) || is_some (number_of outer y))
seen_append [] outer y = refl
seen_append (v ∷ own) outer y =
    by (same_ident v.0 y) (seen_append own outer y)
    ∙ ap (λ (c : Bool). (c || list_any (same_ident y) (idents own)) || is_some (number_of outer y))
    (same_ident_sym v.0 y)
  where
    by : (c : Bool)
        → is_some (number_of (own ++ outer) y)
        ≡ (list_any (same_ident y) (idents own) || is_some (number_of outer y))
        → is_some (cond c (Some v.1) (number_of (own ++ outer) y))
        ≡ ((c || list_any (same_ident y) (idents own)) || is_some (number_of outer y))
    by true h = refl
    by false h = h

-- the written query sees the names that have a number
pub sees_own : (own outer : Numbering) (s r : Row) → Alike outer s r → (x : Ident)
    → sees r (idents own) x ≡ is_some (number_of (own ++ outer) x)
sees_own own outer s r a x =
    ap (λ (b : Bool). list_any (same_ident x) (idents own) || b) (by (number_of outer x) (a x))
    ∙ sym (seen_append own outer x)
  where
    by : (o : Option ℕ) → AlikeAt s o (r x) → is_some (r x) ≡ is_some o
    by None k = ap is_some k
    by (Some j) k = ap is_some k.2
