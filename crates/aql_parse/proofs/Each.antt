-- A loop that tests one thing of a list after another: F says it of what is left, and b of one thing.
use Rattle.std.proofs.Common.{◌≡◌, ◌∙◌, ℕ, ◌+◌, ◌<◌, ◌≤◌, List, [], ◌∷◌, length, get_or, drop, ap, sym}
use Rattle.std.proofs.Common.{Bool, true, false}
use Rattle.std.specs.Prelude.{◌&&◌}
use Rattle.std.proofs.lemmas.List.{at_drop_more, at_drop_all}

tested : {X : Type 0} (F : List X → Bool) (xs : List X) (i : ℕ) (x : X) (b r answer whole : Bool)
    → i < length xs → x ≡ get_or xs i x → F (x ∷ drop (i + 1) xs) ≡ (b && F (drop (i + 1) xs))
    → r ≡ b → r ≡ answer → whole ≡ F (drop i xs) → whole ≡ (answer && F (drop (i + 1) xs))
tested F xs i x b r answer whole within here step test is h =
    h ∙ at_drop_more F xs i x within ∙ ap (λ z. F (z ∷ drop (i + 1) xs)) (sym here) ∙ step
    ∙ ap (λ t. t && F (drop (i + 1) xs)) (sym test ∙ is)

pub one_holds : {X : Type 0} (F : List X → Bool) (xs : List X) (i : ℕ) (x : X) (b r whole : Bool)
    → i < length xs → x ≡ get_or xs i x → F (x ∷ drop (i + 1) xs) ≡ (b && F (drop (i + 1) xs))
    → r ≡ b → r ≡ true → whole ≡ F (drop i xs) → whole ≡ F (drop (i + 1) xs)
one_holds F xs i x b r whole within here step test is h =
    tested F xs i x b r true whole within here step test is h

pub one_fails : {X : Type 0} (F : List X → Bool) (xs : List X) (i : ℕ) (x : X) (b r whole : Bool)
    → i < length xs → x ≡ get_or xs i x → F (x ∷ drop (i + 1) xs) ≡ (b && F (drop (i + 1) xs))
    → r ≡ b → r ≡ false → whole ≡ F (drop i xs) → false ≡ whole
one_fails F xs i x b r whole within here step test is h =
    sym (tested F xs i x b r false whole within here step test is h)

pub all_hold : {X : Type 0} (F : List X → Bool) (xs : List X) (i : ℕ) (whole : Bool)
    → length xs ≤ i → F [] ≡ true → whole ≡ F (drop i xs) → true ≡ whole
all_hold F xs i whole end none h = sym (h ∙ at_drop_all F xs i end ∙ none)
