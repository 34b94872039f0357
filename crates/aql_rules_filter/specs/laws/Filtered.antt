-- The rows that pass a condition, as those at which it holds.
use Rattle.std.proofs.Common.{◌≡◌, ◌∙◌, List, [], ◌∷◌, Bool, true, false, cond, refl, ap, ap₂, sym}
use Rattle.std.specs.Prelude.{filter, ◌&&◌}
use Rattle.aql_value.specs.Truth.{truth}
use Rattle.aql_tree.specs.Tree.{ExprTree}
use Rattle.aql_meaning.specs.Row.{Row}
use Rattle.aql_meaning.specs.AtRows.{value_of, values_of}
use Rattle.aql_meaning.specs.Clauses.{filter_true}

-- a condition holds at a row
abbrev pub holds : ExprTree → Row → Bool
holds e row = truth (value_of e row)

pub filtered : (e : ExprTree) (rows : List Row) → filter_true rows (values_of e rows) ≡ filter (holds e) rows
filtered e [] = refl
filtered e (row ∷ rows) = ap (λ ks. cond (holds e row) (row ∷ ks) ks) (filtered e rows)

module _ {X : Type 0} (test : X → Bool) where
  pub all_pass : ((x : X) → test x ≡ true) → (xs : List X) → filter test xs ≡ xs
  all_pass h [] = refl
  all_pass h (x ∷ xs) = ap₂ (λ b ys. cond b (x ∷ ys) ys) (h x) (all_pass h xs)

  pub none_pass : ((x : X) → test x ≡ false) → (xs : List X) → filter test xs ≡ []
  none_pass h [] = refl
  none_pass h (x ∷ xs) = ap₂ (λ b ys. cond b (x ∷ ys) ys) (h x) (none_pass h xs)

  pub filter_same : (other : X → Bool) → ((x : X) → test x ≡ other x) → (xs : List X)
      → filter test xs ≡ filter other xs
  filter_same other h [] = refl
  filter_same other h (x ∷ xs) = ap₂ (λ b ys. cond b (x ∷ ys) ys) (h x) (filter_same other h xs)

  -- one test after another
  pub filter_twice : (other : X → Bool) (xs : List X)
      → filter other (filter test xs) ≡ filter (λ x. test x && other x) xs
  filter_twice other [] = refl
  filter_twice other (x ∷ xs) = by (test x) (filter_twice other xs)
    where
      by : (b : Bool) → filter other (filter test xs) ≡ filter (λ y. test y && other y) xs
          → filter other (cond b (x ∷ filter test xs) (filter test xs))
          ≡ cond (b && other x) (x ∷ filter (λ y. test y && other y) xs) (filter (λ y. test y && other y) xs)
      by true e = ap (λ ys. cond (other x) (x ∷ ys) ys) e
      by false e = e

  -- two tests in either order
  pub filter_swap : (other : X → Bool) (xs : List X)
      → filter other (filter test xs) ≡ filter test (filter other xs)
  filter_swap other [] = refl
  filter_swap other (x ∷ xs) = by (test x) refl (other x) refl (filter_swap other xs)
    where
      by : (a : Bool) → test x ≡ a → (b : Bool) → other x ≡ b
          → filter other (filter test xs) ≡ filter test (filter other xs)
          → filter other (cond a (x ∷ filter test xs) (filter test xs))
          ≡ filter test (cond b (x ∷ filter other xs) (filter other xs))
      by true d true e h =
          ap (λ b. cond b (x ∷ filter other (filter test xs)) (filter other (filter test xs))) e
          ∙ ap (λ ys. x ∷ ys) h
          ∙ sym (ap (λ b. cond b (x ∷ filter test (filter other xs)) (filter test (filter other xs))) d)
      by true d false e h =
          ap (λ b. cond b (x ∷ filter other (filter test xs)) (filter other (filter test xs))) e ∙ h
      by false d true e h =
          h ∙ sym (ap (λ b. cond b (x ∷ filter test (filter other xs)) (filter test (filter other xs))) d)
      by false d false e h = h
