-- One more element of a list is copied.
use Rattle.std.proofs.Common.{◌≡◌, ℕ, ◌+◌, ◌<◌, List, [], ◌∷◌, ◌++◌, length, get_or, map, take, ap, sym, subst, ◌∙◌}
use Rattle.std.proofs.lemmas.List.{take_more, map-append}

pub copied_more : {A B : Type 0} (f : A → B) (xs out new : List A) (i : ℕ) (x y : A)
    → map f out ≡ map f (take i xs) → i < length xs → x ≡ get_or xs i x → new ≡ out ++ y ∷ [] → f y ≡ f x
    → map f new ≡ map f (take (i + 1) xs)
copied_more {A = A} f xs out new i x y before h e p k =
    let taken = subst (λ (z : A). take (i + 1) xs ≡ take i xs ++ z ∷ []) (sym e) (take_more xs i x h) in
    ap (map f) p ∙ map-append f out (y ∷ []) ∙ ap (λ ys. ys ++ f y ∷ []) before
    ∙ ap (λ z. map f (take i xs) ++ z ∷ []) k ∙ sym (ap (map f) taken ∙ map-append f (take i xs) (x ∷ []))
