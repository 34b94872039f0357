-- A text cut at its first slash, whose second part has none.
use Rattle.std.proofs.Common.{◌≡◌, ℕ, suc, ◌<◌, List, [], ◌∷◌, Bool, true, false, not, ◌&&◌, ◌||◌, ◌==◌, length, get_or, refl, ap, sym, ◌∙◌, arith}
use Rattle.std.proofs.lemmas.Bool.Decides.{nat_tests}
use Rattle.std.specs.List.{list_any, before_first, after_first}
use Rattle.aql_func.specs.Objects.{is_slash, is_id}

pub id_is : (id collection key : List ℕ) → collection ≡ before_first is_slash id
    → key ≡ after_first is_slash id
    → (length collection == 0) ≡ false → (length key == 0) ≡ false → list_any is_slash key ≡ false
    → is_id id ≡ true
id_is id collection key e f g h k =
    ap (λ n. not n && (not (length (after_first is_slash id) == 0) && not
    (list_any is_slash (after_first is_slash id)))) (sym (ap (λ l. length l == 0) e) ∙ g)
    ∙ ap (λ n. not n && not (list_any is_slash (after_first is_slash id))) (sym (ap (λ l. length l == 0) f)
    ∙ h)
    ∙ ap not (sym (ap (list_any is_slash) f) ∙ k)

is_that : (b : ℕ) → is_slash b ≡ true → b ≡ 47
is_that b h = grind (arith, nat_tests)

-- no byte is a slash
pub no_slash : (bs : List ℕ) → ((k : ℕ) → k < length bs → get_or bs k 0 ≡ 47 → ⊥)
    → list_any is_slash bs ≡ false
no_slash [] h = refl
no_slash (b ∷ bs) h = by (is_slash b) refl (no_slash bs (λ k l e. h (suc k) (omega arith) e))
  where
    by : (d : Bool) → is_slash b ≡ d → list_any is_slash bs ≡ false → d || list_any is_slash bs ≡ false
    by true e r = absurd (h 0 (omega arith) (is_that b e))
    by false e r = r
