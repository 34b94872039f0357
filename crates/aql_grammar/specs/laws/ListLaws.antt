-- Lists of parts: what is read is spelt so, and what is spelt is read.
use Rattle.std.proofs.Common.{◌≡◌, ℕ, zero, suc, ◌<◌, ◌≤◌, Bool, true, false, List, [], ◌∷◌}
use Rattle.std.proofs.Common.{◌++◌, length, Some, ⊎_elim, refl, sym, ap, ◌∙◌}
use Rattle.std.proofs.Common.{subst, arith, append_assoc}
use Rattle.std.proofs.lemmas.List.{append-nil}
use Rattle.aql_lex.specs.declared.kinds.TokenKind.TheVariants as k
use Rattle.aql_lex.specs.declared.vocabulary.Symbol.{Symbol}
use Rattle.aql_lex.specs.declared.vocabulary.Symbol.TheVariants as s
use Rattle.aql_grammar.specs.Kinds.{Tokens}
use Rattle.aql_grammar.specs.Spelling.{AreMany, AreSeparated, AreItems}
use Rattle.aql_grammar.specs.Input.{Parser, next, sees, expect, many, many_from, comma_list, comma_list_onto}
use Rattle.aql_grammar.specs.Input.{comma_list_from, items, items_from}
use Rattle.aql_grammar.specs.laws.Steps.{Sound, Complete, Shrinks, bind_some, some_same, eat_cases}
use Rattle.aql_grammar.specs.laws.Steps.{if_cases, expect_some, bind_here, if_true, if_false, eat_then}
use Rattle.aql_grammar.specs.laws.Steps.{eat_else, expect_then, Refuses, not_first}

-- what is read after what was found
pub record More {A : Type 0} (found : List A) (P : List A → Tokens → Tokens → Type 0) (ts : Tokens)
    (y : List A × Tokens) : Type 0 where
  pub xs : List A
  pub all_is : y.0 ≡ found ++ xs
  pub spelt : P xs ts y.1

pub from_nothing : {A : Type 0} (P : List A → Tokens → Tokens → Type 0) (ts : Tokens) (y : List A × Tokens)
    → More [] P ts y → P y.0 ts y.1
from_nothing P ts y m = subst (λ xs. P xs ts y.1) (sym m.all_is) m.spelt

-- ---- shrinking

pub separated_shrinks : {A : Type 0} (P : A → Tokens → Tokens → Type 0) → Shrinks P
    → Shrinks (AreSeparated P)
separated_shrinks P shrinks xs a b (AreSeparated.last {x = x} h) = shrinks x a b h
separated_shrinks P shrinks xs a b (AreSeparated.before {x = x} {xs = ys} {b = c} h more) =
    let one = shrinks x a (k.Symbol s.Comma ∷ c) h in let rest = separated_shrinks P shrinks ys c b more in
    omega arith

pub many_falls : {A : Type 0} (P : A → Tokens → Tokens → Type 0) → Shrinks P → (xs : List A) (a b : Tokens)
    → AreMany P xs a b → length b ≤ length a
many_falls P shrinks xs a b AreMany.none = omega arith
many_falls P shrinks xs a b (AreMany.one {x = x} {xs = ys} {b = c} h more) =
    let one = shrinks x a c h in let rest = many_falls P shrinks ys c b more in omega arith

pub items_fall : {A : Type 0} (P : A → Tokens → Tokens → Type 0) → Shrinks P → (xs : List A) (a b : Tokens)
    → AreItems P xs a b → length b ≤ length a
items_fall P shrinks xs a b AreItems.none = omega arith
items_fall P shrinks xs a b (AreItems.some h) = let one = separated_shrinks P shrinks xs a b h in omega
    arith
items_fall P shrinks xs a b (AreItems.trailing h) = let one = separated_shrinks P shrinks xs a
    (k.Symbol s.Comma ∷ b) h in omega arith

-- ---- back

pub separated_from_sound : {A : Type 0} (R : Parser A) (P : A → Tokens → Tokens → Type 0) → Sound R P
    → (n : ℕ) (found : List A) (ts : Tokens) (y : List A × Tokens)
    → comma_list_from R n found ts ≡ Some y → More found (AreSeparated P) ts y
unfolding comma_list_from
separated_from_sound R P sound zero found ts y h = absurd (cc)
separated_from_sound {A} R P sound (suc n) found ts y h =
    let b = bind_some (R ts) _ y h in
    ⊎_elim
    (λ m.
    let more = separated_from_sound R P sound n (found ++ b.0.0 ∷ []) (next b.0.1) y m.1 in
    record {
      xs = b.0.0 ∷ more.xs;
      all_is = more.all_is ∙ append_assoc found (b.0.0 ∷ []) more.xs;
      spelt = AreSeparated.before (subst (λ r. P b.0.0 ts r) m.0 (sound ts b.0 b.1)) more.spelt;
    })
    (λ m.
    let e = some_same (found ++ b.0.0 ∷ [], b.0.1) y m.1 in
    record {
      xs = b.0.0 ∷ [];
      all_is = sym (ap (λ (z : List A × Tokens). z.0) e);
      spelt = subst (λ (z : List A × Tokens). AreSeparated P (b.0.0 ∷ []) ts z.1) e
          (AreSeparated.last (sound ts b.0 b.1));
    })
    (eat_cases s.Comma _ _ b.0.1 y b.2)

pub separated_onto_sound : {A : Type 0} (R : Parser A) (P : A → Tokens → Tokens → Type 0) → Sound R P
    → (found : List A) (ts : Tokens) (y : List A × Tokens)
    → comma_list_onto R found ts ≡ Some y → More found (AreSeparated P) ts y
unfolding comma_list_onto
separated_onto_sound R P sound found ts y h = separated_from_sound R P sound (length ts) found ts y h

pub separated_sound : {A : Type 0} (R : Parser A) (P : A → Tokens → Tokens → Type 0) → Sound R P
    → Sound (comma_list R) (AreSeparated P)
separated_sound R P sound ts y h = from_nothing (AreSeparated P) ts y
    (separated_onto_sound R P sound [] ts y h)

pub many_from_sound : {A : Type 0} (starts : Tokens → Bool) (one : Parser A) (P : A → Tokens → Tokens
    → Type 0)
    → ((ts : Tokens) (y : A × Tokens) → starts ts ≡ true → one ts ≡ Some y → P y.0 ts y.1)
    → (n : ℕ) (found : List A) (ts : Tokens) (y : List A × Tokens) → many_from starts one n found ts ≡ Some
    y → More found (AreMany P) ts y
unfolding many_from
many_from_sound {A} starts one P sound zero found ts y h =
    let e = some_same (found, ts) y h in
    record {
      xs = [];
      all_is = sym (ap (λ (z : List A × Tokens). z.0) e) ∙ sym (append-nil found);
      spelt =
          subst (λ (z : List A × Tokens). AreMany P [] ts z.1) e AreMany.none;
    }
many_from_sound {A} starts one P sound (suc n) found ts y h =
    ⊎_elim
    (λ m.
    let b = bind_some (one ts) _ y m.1 in
    let more = many_from_sound starts one P sound n (found ++ b.0.0 ∷ []) b.0.1 y b.2 in
    record {
      xs = b.0.0 ∷ more.xs;
      all_is = more.all_is ∙ append_assoc found (b.0.0 ∷ []) more.xs;
      spelt = AreMany.one (sound ts b.0 m.0 b.1) more.spelt;
    })
    (λ m.
    let e = some_same (found, ts) y m.1 in
    record {
      xs = [];
      all_is = sym (ap (λ (z : List A × Tokens). z.0) e) ∙ sym (append-nil found);
      spelt =
          subst (λ (z : List A × Tokens). AreMany P [] ts z.1) e AreMany.none;
    })
    (if_cases (starts ts) _ _ ts y h)

pub many_sound : {A : Type 0} (starts : Tokens → Bool) (one : Parser A) (P : A → Tokens → Tokens → Type 0)
    → ((ts : Tokens) (y : A × Tokens) → starts ts ≡ true → one ts ≡ Some y → P y.0 ts y.1)
    → Sound (many starts one) (AreMany P)
unfolding many
many_sound starts one P sound ts y h = from_nothing (AreMany P) ts y
    (many_from_sound starts one P sound (length ts) [] ts y h)

-- an item, a comma and more
with_item : {A : Type 0} (P : A → Tokens → Tokens → Type 0) (x : A) (xs : List A) (a b c : Tokens)
    → P x a (k.Symbol s.Comma ∷ b) → AreItems P xs b c → AreItems P (x ∷ xs) a c
with_item P x xs a b c first AreItems.none = AreItems.trailing (AreSeparated.last first)
with_item P x xs a b c first (AreItems.some more) = AreItems.some (AreSeparated.before first more)
with_item P x xs a b c first (AreItems.trailing more) = AreItems.trailing (AreSeparated.before first more)

-- with the closing symbol
abbrev pub Closed : {A : Type 0} → Symbol → (A → Tokens → Tokens → Type 0) → A → Tokens → Tokens → Type 0
Closed {A} close P x a b = P x a (k.Symbol close ∷ b)

pub items_from_sound : {A : Type 0} (close : Symbol) (R : Parser A) (P : A → Tokens → Tokens → Type 0)
    → Sound R P → (n : ℕ) (found : List A) (ts : Tokens) (y : List A × Tokens)
    → items_from close R n found ts ≡ Some y → More found (Closed close (AreItems P)) ts y
unfolding items_from
items_from_sound close R P sound zero found ts y h = absurd (cc)
items_from_sound {A} close R P sound (suc n) found ts y h =
    ⊎_elim
    (λ m.
    let e = some_same (found, next ts) y m.1 in
    record {
      xs = [];
      all_is = sym (ap (λ (z : List A × Tokens). z.0) e) ∙ sym (append-nil found);
      spelt = subst (λ r. AreItems P [] ts r) (m.0 ∙ ap (λ (z : List A × Tokens). k.Symbol close ∷ z.1) e)
          AreItems.none;
    })
    (λ m.
    let b = bind_some (R ts) _ y m.1 in
    ⊎_elim
    (λ c.
    let more = items_from_sound close R P sound n (found ++ b.0.0 ∷ []) (next b.0.1) y c.1 in
    record {
      xs = b.0.0 ∷ more.xs;
      all_is = more.all_is ∙ append_assoc found (b.0.0 ∷ []) more.xs;
      spelt = with_item P b.0.0 more.xs ts (next b.0.1) (k.Symbol close ∷ y.1)
          (subst (λ r. P b.0.0 ts r) c.0 (sound ts b.0 b.1)) more.spelt;
    })
    (λ c.
    let q = bind_some (expect close b.0.1) _ y c.1 in
    let here = expect_some close b.0.1 q.0 q.1 in
    let e = some_same (found ++ b.0.0 ∷ [], q.0.1) y q.2 in
    record {
      xs = b.0.0 ∷ [];
      all_is = sym (ap (λ (z : List A × Tokens). z.0) e);
      spelt = subst (λ r. AreItems P (b.0.0 ∷ []) ts r)
          (here ∙ ap (λ (z : List A × Tokens). k.Symbol close ∷ z.1) e)
          (AreItems.some (AreSeparated.last (sound ts b.0 b.1)));
    })
    (eat_cases s.Comma _ _ b.0.1 y b.2))
    (eat_cases close _ _ ts y h)

pub items_sound : {A : Type 0} (close : Symbol) (R : Parser A) (P : A → Tokens → Tokens → Type 0)
    → Sound R P → Sound (items close R) (Closed close (AreItems P))
unfolding items
items_sound close R P sound ts y h = from_nothing (Closed close (AreItems P)) ts y
    (items_from_sound close R P sound (length ts) [] ts y h)

-- ---- forth

module _ {A : Type 0} (R : Parser A) (P : A → Tokens → Tokens → Type 0) (F : Tokens → Type 0) (bound : ℕ)
    (complete : Complete R P F bound) (shrinks : Shrinks P)
    (comma : (ts : Tokens) → F (k.Symbol s.Comma ∷ ts)) where
  separated_from_complete : (n : ℕ) (found xs : List A) (a b : Tokens) → AreSeparated P xs a b
      → length a ≤ n → length a ≤ bound → F b → sees s.Comma b ≡ false
      → comma_list_from R n found a ≡ Some (found ++ xs, b)
  unfolding comma_list_from
  separated_from_complete zero found xs a b h few short f other = let some = separated_shrinks P shrinks xs
      a b h in absurd (omega arith)
  separated_from_complete (suc n) found xs a b (AreSeparated.last {x = x} h) few short f other =
      bind_here _ _ (x, b) _ (complete x a b short h f) (eat_else s.Comma _ _ b _ other refl)
  separated_from_complete (suc n) found xs a b (AreSeparated.before {x = x} {xs = ys} {b = c} h more) few
      short f other =
      let one = shrinks x a (k.Symbol s.Comma ∷ c) h in
      bind_here _ _ (x, k.Symbol s.Comma ∷ c) _ (complete x a _ short h (comma c))
      (eat_then s.Comma _ _ c _ (
      separated_from_complete n (found ++ x ∷ []) ys c b more (omega arith) (omega arith) f other
      ∙ ap (λ q. Some (q, b)) (append_assoc found (x ∷ []) ys)))

  pub separated_onto_complete : (found xs : List A) (a b : Tokens) → AreSeparated P xs a b
      → length a ≤ bound → F b → sees s.Comma b ≡ false
      → comma_list_onto R found a ≡ Some (found ++ xs, b)
  unfolding comma_list_onto
  separated_onto_complete found xs a b h short f other = separated_from_complete (length a) found xs a b h
      (omega arith) short f other

  pub separated_complete : (xs : List A) (a b : Tokens) → AreSeparated P xs a b → length a ≤ bound → F b
      → sees s.Comma b ≡ false → comma_list R a ≡ Some (xs, b)
  separated_complete xs a b h short f other = separated_onto_complete [] xs a b h short f other

  -- what is separated doesn't begin with a symbol that R refuses
  pub separated_first : (symbol : Symbol) → Refuses R (k.Symbol symbol) → (xs : List A) (a b : Tokens)
      → AreSeparated P xs a b → length a ≤ bound → F b → sees symbol a ≡ false
  separated_first symbol none xs a b (AreSeparated.last {x = x} h) short f = not_first R symbol none a
      (x, b) (complete x a b short h f)
  separated_first symbol none xs a b (AreSeparated.before {x = x} {b = c} h more) short f =
      not_first R symbol none a (x, k.Symbol s.Comma ∷ c) (complete x a _ short h (comma c))

  module _ (close : Symbol) (none : Refuses R (k.Symbol close)) (closes : (ts : Tokens)
      → F (k.Symbol close ∷ ts)) (apart : (ts : Tokens) → sees s.Comma (k.Symbol close ∷ ts) ≡ false) where
    items_some : (n : ℕ) (found xs : List A) (a b : Tokens) → AreSeparated P xs a (k.Symbol close ∷ b)
        → length a ≤ n → length a ≤ bound
        → items_from close R n found a ≡ Some (found ++ xs, b)
    unfolding items_from
    items_some zero found xs a b h few short = let some = separated_shrinks P shrinks xs a _ h in absurd
        (omega arith)
    items_some (suc n) found xs a b (AreSeparated.last {x = x} h) few short =
        let read = complete x a _ short h (closes b) in
        eat_else close _ _ a _ (not_first R close none a _ read)
        (bind_here _ _ (x, k.Symbol close ∷ b) _ read
        (eat_else s.Comma _ _ _ _ (apart b) (expect_then close b _ _ refl)))
    items_some (suc n) found xs a b (AreSeparated.before {x = x} {xs = ys} {b = c} h more) few short =
        let one = shrinks x a (k.Symbol s.Comma ∷ c) h in
        let read = complete x a _ short h (comma c) in
        eat_else close _ _ a _ (not_first R close none a _ read)
        (bind_here _ _ (x, k.Symbol s.Comma ∷ c) _ read
        (eat_then s.Comma _ _ c _ (
        items_some n (found ++ x ∷ []) ys c b more (omega arith) (omega arith)
        ∙ ap (λ q. Some (q, b)) (append_assoc found (x ∷ []) ys))))

    items_over : (n : ℕ) (found : List A) (b : Tokens) → 0 < n → items_from close R n found
        (k.Symbol close ∷ b) ≡ Some (found, b)
    unfolding items_from
    items_over zero found b some = absurd (omega arith)
    items_over (suc n) found b some = eat_then close _ _ b _ refl

    items_trailing : (n : ℕ) (found xs : List A) (a b : Tokens)
        → AreSeparated P xs a (k.Symbol s.Comma ∷ k.Symbol close ∷ b) → length a ≤ n → length a ≤ bound
        → items_from close R n found a ≡ Some (found ++ xs, b)
    unfolding items_from
    items_trailing zero found xs a b h few short = let some = separated_shrinks P shrinks xs a _ h in absurd
        (omega arith)
    items_trailing (suc n) found xs a b (AreSeparated.last {x = x} h) few short =
        let one = shrinks x a (k.Symbol s.Comma ∷ k.Symbol close ∷ b) h in
        let read = complete x a _ short h (comma (k.Symbol close ∷ b)) in
        eat_else close _ _ a _ (not_first R close none a _ read)
        (bind_here _ _ (x, k.Symbol s.Comma ∷ k.Symbol close ∷ b) _ read
        (eat_then s.Comma _ _ (k.Symbol close ∷ b) _ (items_over n (found ++ x ∷ []) b (omega arith))))
    items_trailing (suc n) found xs a b (AreSeparated.before {x = x} {xs = ys} {b = c} h more) few short =
        let one = shrinks x a (k.Symbol s.Comma ∷ c) h in
        let read = complete x a _ short h (comma c) in
        eat_else close _ _ a _ (not_first R close none a _ read)
        (bind_here _ _ (x, k.Symbol s.Comma ∷ c) _ read
        (eat_then s.Comma _ _ c _ (
        items_trailing n (found ++ x ∷ []) ys c b more (omega arith) (omega arith)
        ∙ ap (λ q. Some (q, b)) (append_assoc found (x ∷ []) ys))))

    pub items_complete : (xs : List A) (a b : Tokens) → AreItems P xs a (k.Symbol close ∷ b)
        → length a ≤ bound → items close R a ≡ Some (xs, b)
    unfolding items
    items_complete xs a b AreItems.none short = items_over (length a) [] b (omega arith)
    items_complete xs a b (AreItems.some h) short = items_some (length a) [] xs a b h (omega arith) short
    items_complete xs a b (AreItems.trailing h) short = items_trailing (length a) [] xs a b h (omega arith)
        short

module _ {A : Type 0} (starts : Tokens → Bool) (one : Parser A) (P : A → Tokens → Tokens → Type 0)
    (F : Tokens → Type 0) (bound : ℕ) (complete : Complete one P F bound) (shrinks : Shrinks P)
    (begins : (x : A) (a b : Tokens) → P x a b → starts a ≡ true) (starting : (ts : Tokens)
    → starts ts ≡ true → F ts) where
  pub many_follow : (xs : List A) (a b : Tokens) → AreMany P xs a b → F b → F a
  many_follow xs a b AreMany.none f = f
  many_follow xs a b (AreMany.one {x = x} {b = c} h more) f = starting a (begins x a c h)

  many_from_complete : (n : ℕ) (found xs : List A) (a b : Tokens) → AreMany P xs a b → length a ≤ n
      → length a ≤ bound → F b → starts b ≡ false
      → many_from starts one n found a ≡ Some (found ++ xs, b)
  unfolding many_from
  many_from_complete zero found xs a b AreMany.none few short f over = ap (λ q. Some (q, b))
      (sym (append-nil found))
  many_from_complete (suc n) found xs a b AreMany.none few short f over = if_false _ _ _ a _ over
      (ap (λ q. Some (q, b)) (sym (append-nil found)))
  many_from_complete zero found xs a b (AreMany.one {x = x} {b = c} h more) few short f over = let some =
      shrinks x a c h in absurd (omega arith)
  many_from_complete (suc n) found xs a b (AreMany.one {x = x} {xs = ys} {b = c} h more) few short f over =
      let some = shrinks x a c h in
      if_true _ _ _ a _ (begins x a c h)
      (bind_here _ _ (x, c) _ (complete x a c short h (many_follow ys c b more f))
      (many_from_complete n (found ++ x ∷ []) ys c b more (omega arith) (omega arith) f over
      ∙ ap (λ q. Some (q, b)) (append_assoc found (x ∷ []) ys)))

  pub many_complete : (xs : List A) (a b : Tokens) → AreMany P xs a b → length a ≤ bound → F b
      → starts b ≡ false → many starts one a ≡ Some (xs, b)
  unfolding many
  many_complete xs a b h short f over = many_from_complete (length a) [] xs a b h (omega arith) short f over
