-- Lists that have the same variables, and numbers that are added to a list.
use Rattle.std.proofs.Common.{◌≡◌, ◌∙◌, ap, sym, refl, ℕ, List, [], ◌∷◌, ◌++◌, Bool, true, false, true≢false, cond, eqb, append_assoc}
use Rattle.std.specs.Prelude.{◌||◌}
use Rattle.std.specs.List.{list_any}
use Rattle.std.proofs.lemmas.List.{append-nil, map-append}
use Rattle.std.proofs.lemmas.List.Folds.{list_any-append}
use Rattle.std.proofs.lemmas.Bool.{eqb-true}
use Rattle.aql_tree.specs.declared.syntax.Ident.{Ident}
use Rattle.aql_tree.specs.declared.syntax.Ident.TheVariants.{Name, Num}
use Rattle.aql_meaning.specs.Row.{same_ident}
use Rattle.aql_plan_check.specs.inner.Rows.{variables, Same, Adds}

abbrev pub any_of : Ident → List Ident → Bool
any_of x xs = list_any (same_ident x) xs

or_moved : (a b c : Bool) → (a || (b || c)) ≡ (b || (a || c))
or_moved true true c = refl
or_moved true false c = refl
or_moved false b c = refl

or_grouped : (a b c : Bool) → ((a || b) || c) ≡ (a || (b || c))
or_grouped true b c = refl
or_grouped false b c = refl

pub same_itself : (xs : List Ident) → Same xs xs
same_itself xs = record { same = λ x. refl }

pub same_along : (xs ys zs : List Ident) → Same xs ys → Same ys zs → Same xs zs
same_along xs ys zs h k = record { same = λ x. h.same x ∙ k.same x }

pub same_back : (xs ys : List Ident) → Same xs ys → Same ys xs
same_back xs ys h = record { same = λ x. sym (h.same x) }

pub same_after : (zs xs ys : List Ident) → Same xs ys → Same (zs ++ xs) (zs ++ ys)
same_after zs xs ys h = record {
  same = λ x. list_any-append (same_ident x) zs xs ∙ ap (λ b. any_of x zs || b) (h.same x)
      ∙ sym (list_any-append (same_ident x) zs ys);
}

-- the variables of numbers
pub any_variables : (n : ℕ) (ns : List ℕ) → any_of (Num n) (variables ns) ≡ list_any (λ k. eqb n k) ns
any_variables n [] = refl
any_variables n (k ∷ ns) = ap (λ b. eqb n k || b) (any_variables n ns)

pub no_name : (name : List ℕ) (ns : List ℕ) → any_of (Name name) (variables ns) ≡ false
no_name name [] = refl
no_name name (k ∷ ns) = no_name name ns

-- ---- numbers that are added

pub adds_none : (ns : List ℕ) → Adds ns [] ns
adds_none ns = record { added = []; whole = sym (append-nil ns); same = same_itself (variables ns) }

pub adds_on : (a b c : List ℕ) (xs ys : List Ident) → Adds a xs b → Adds b ys c → Adds a (xs ++ ys) c
adds_on a b c xs ys h k = record {
  added = h.added ++ k.added;
  whole = k.whole ∙ ap (λ l. l ++ k.added) h.whole ∙ append_assoc a h.added k.added;
  same = record {
    same = λ x. k.same.same x ∙ list_any-append (same_ident x) ys (variables b)
        ∙ ap (λ t. any_of x ys || t) (h.same.same x ∙ list_any-append (same_ident x) xs (variables a))
        ∙ or_moved (any_of x ys) (any_of x xs) (any_of x (variables a))
        ∙ sym (list_any-append (same_ident x) (xs ++ ys) (variables a)
        ∙ ap (λ t. t || any_of x (variables a)) (list_any-append (same_ident x) xs ys)
        ∙ or_grouped (any_of x xs) (any_of x ys) (any_of x (variables a)));
  };
}

-- one number more, where it is not there
fresh : (n : ℕ) (ns : List ℕ) → Adds ns (Num n ∷ []) (ns ++ n ∷ [])
fresh n ns = record {
  added = n ∷ [];
  whole = refl;
  same = record {
    same = λ x. ap (any_of x) (map-append (λ (k : ℕ). Num k) ns (n ∷ []))
        ∙ list_any-append (same_ident x) (variables ns) (Num n ∷ [])
        ∙ or_last (any_of x (variables ns)) (same_ident x (Num n));
  };
}
  where
    or_last : (a b : Bool) → (a || (b || false)) ≡ (b || a)
    or_last true true = refl
    or_last true false = refl
    or_last false true = refl
    or_last false false = refl

-- and where it is there
there : (n : ℕ) (ns : List ℕ) → list_any (λ k. eqb n k) ns ≡ true → Adds ns (Num n ∷ []) ns
there n ns h = record {
  added = [];
  whole = sym (append-nil ns);
  same = record { same = λ x. by x (same_ident x (Num n)) refl };
}
  where
    found : (x : Ident) → same_ident x (Num n) ≡ true → any_of x (variables ns) ≡ true
    found (Name name) e = absurd (true≢false (sym e))
    found (Num m) e = ap (λ k. any_of (Num k) (variables ns)) (eqb-true m n e) ∙ any_variables n ns ∙ h

    by : (x : Ident) (b : Bool) → same_ident x (Num n) ≡ b
        → any_of x (variables ns) ≡ (b || any_of x (variables ns))
    by x true e = found x e
    by x false e = refl

pub adds_number : (n : ℕ) (ns ms : List ℕ)
    → ms ≡ cond (list_any (λ k. eqb n k) ns) ns (ns ++ n ∷ []) → Adds ns (Num n ∷ []) ms
adds_number n ns ms e = by (list_any (λ k. eqb n k) ns) refl e
  where
    along : (l : List ℕ) → ms ≡ l → Adds ns (Num n ∷ []) l → Adds ns (Num n ∷ []) ms
    along l f h = record {
      added = h.added;
      whole = f ∙ h.whole;
      same = record { same = λ x. ap (λ w. any_of x (variables w)) f ∙ h.same.same x };
    }

    by : (b : Bool) → list_any (λ k. eqb n k) ns ≡ b → ms ≡ cond b ns (ns ++ n ∷ [])
        → Adds ns (Num n ∷ []) ms
    by true h f = along ns f (there n ns h)
    by false h f = along (ns ++ n ∷ []) f (fresh n ns)

-- some of the variables are added, and these are left
pub record AddsLeft (before : List ℕ) (xs : List Ident) (now : List ℕ) (left : List Ident) : Type 0 where
  pub more : List ℕ
  pub stands : now ≡ before ++ more
  pub alike : Same (left ++ variables now) (xs ++ variables before)

pub adds_begun : (a : List ℕ) (xs : List Ident) → AddsLeft a xs a xs
adds_begun a xs = record { more = []; stands = sym (append-nil a); alike = same_itself (xs ++ variables a) }

pub adds_next : (a b c : List ℕ) (xs ys zs : List Ident) (x : Ident) → zs ≡ x ∷ ys → AddsLeft a xs b zs
    → Adds b (x ∷ []) c → AddsLeft a xs c ys
adds_next a b c xs ys zs x e h k = record {
  more = h.more ++ k.added;
  stands = k.whole ∙ ap (λ l. l ++ k.added) h.stands ∙ append_assoc a h.more k.added;
  alike = record {
    same = λ y. list_any-append (same_ident y) ys (variables c)
        ∙ ap (λ t. any_of y ys || t) (k.same.same y)
        ∙ or_moved (any_of y ys) (same_ident y x) (any_of y (variables b))
        ∙ ap (λ t. same_ident y x || t) (sym (list_any-append (same_ident y) ys (variables b)))
        ∙ ap (λ l. any_of y (l ++ variables b)) (sym e)
        ∙ h.alike.same y;
  };
}

pub adds_ended : (a b : List ℕ) (xs zs : List Ident) → zs ≡ [] → AddsLeft a xs b zs → Adds a xs b
adds_ended a b xs zs e h = record {
  added = h.more;
  whole = h.stands;
  same = record { same = λ y. ap (λ l. any_of y (l ++ variables b)) (sym e) ∙ h.alike.same y };
}
