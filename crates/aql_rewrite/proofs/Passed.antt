-- A loop that puts what stands for the rest of a list after what stood there.
use Rattle.std.proofs.Common.{◌≡◌, ◌∙◌, ℕ, ◌+◌, ◌<◌, ◌≤◌, List, [], ◌∷◌, ◌++◌, length, get_or, drop}
use Rattle.std.proofs.Common.{append_assoc, ap, sym}
use Rattle.std.proofs.lemmas.List.{append-nil, at_drop_more, at_drop_all}

pub one_passed : {X Y : Type 0} (F : List X → List Y) (xs : List X) (i : ℕ) (x : X)
    (before after one whole : List Y) → i < length xs → x ≡ get_or xs i x
    → F (x ∷ drop (i + 1) xs) ≡ one ++ F (drop (i + 1) xs) → after ≡ before ++ one
    → before ++ F (drop i xs) ≡ whole → after ++ F (drop (i + 1) xs) ≡ whole
one_passed F xs i x before after one whole within here step put h =
    ap (λ zs. zs ++ F (drop (i + 1) xs)) put ∙ append_assoc before one (F (drop (i + 1) xs))
    ∙ sym (ap (λ zs. before ++ zs) (at_drop_more F xs i x within
    ∙ ap (λ z. F (z ∷ drop (i + 1) xs)) (sym here) ∙ step)) ∙ h

pub all_passed : {X Y : Type 0} (F : List X → List Y) (xs : List X) (i : ℕ) (before whole : List Y)
    → length xs ≤ i → F [] ≡ [] → before ++ F (drop i xs) ≡ whole → before ≡ whole
all_passed F xs i before whole end none h =
    sym (append-nil before) ∙ sym (ap (λ zs. before ++ zs) (at_drop_all F xs i end ∙ none)) ∙ h
