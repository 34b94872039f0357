-- Lists that belong together place by place.
use Rattle.std.proofs.Common.{◌≡◌, ◌∙◌, sym, arith, ◌+◌, ◌<◌, length, get_or, ℕ, zero, suc, List, [], ◌∷◌, map, take, drop, Bool, refl}
use Rattle.std.specs.Prelude.{IsSortedBy, zip}
use Rattle.std.specs.List.{AllZip}

-- two relations with one list in common
pub zip_join : {A B C : Type 0} (R : A → B → Type 0) (S : A → C → Type 0) (T : B → C → Type 0)
    → ((a : A) (b : B) (c : C) → R a b → S a c → T b c)
    → (xs : List A) (ys : List B) (zs : List C) → AllZip R xs ys → AllZip S xs zs → AllZip T ys zs
zip_join R S T f [] [] [] h k = tt
zip_join R S T f [] [] (z ∷ zs) h k = absurd k
zip_join R S T f [] (y ∷ ys) zs h k = absurd h
zip_join R S T f (x ∷ xs) [] zs h k = absurd h
zip_join R S T f (x ∷ xs) (y ∷ ys) [] h k = absurd k
zip_join R S T f (x ∷ xs) (y ∷ ys) (z ∷ zs) h k = (f x y z h.0 k.0, zip_join R S T f xs ys zs h.1 k.1)

-- at each place something is found that is related to both
pub zip_found : {A B C : Type 0} (S : A → B → Type 0) (T : A → C → Type 0) (U : B → C → Type 0)
    → ((a : A) (b : B) → S a b → (c : C) × T a c × U b c)
    → (xs : List A) (ys : List B) → AllZip S xs ys → (zs : List C) × AllZip T xs zs × AllZip U ys zs
zip_found S T U f [] [] h = ([], tt, tt)
zip_found S T U f [] (y ∷ ys) h = absurd h
zip_found S T U f (x ∷ xs) [] h = absurd h
zip_found S T U f (x ∷ xs) (y ∷ ys) h =
    let one = f x y h.0 in
    let rest = zip_found S T U f xs ys h.1 in
    (one.0 ∷ rest.0, (one.1, rest.1), (one.2, rest.2))

pub zip_take : {A B : Type 0} (R : A → B → Type 0) (n : ℕ) (xs : List A) (ys : List B) → AllZip R xs ys
    → AllZip R (take n xs) (take n ys)
zip_take R zero xs ys h = tt
zip_take R (suc n) [] [] h = tt
zip_take R (suc n) [] (y ∷ ys) h = absurd h
zip_take R (suc n) (x ∷ xs) [] h = absurd h
zip_take R (suc n) (x ∷ xs) (y ∷ ys) h = (h.0, zip_take R n xs ys h.1)

pub zip_drop : {A B : Type 0} (R : A → B → Type 0) (n : ℕ) (xs : List A) (ys : List B) → AllZip R xs ys
    → AllZip R (drop n xs) (drop n ys)
zip_drop R zero xs ys h = h
zip_drop R (suc n) [] [] h = tt
zip_drop R (suc n) [] (y ∷ ys) h = absurd h
zip_drop R (suc n) (x ∷ xs) [] h = absurd h
zip_drop R (suc n) (x ∷ xs) (y ∷ ys) h = zip_drop R n xs ys h.1

-- ---- pairs with equal keys

zip_at : {A : Type 0} (R : A → A → Type 0) (xs ys : List A) → AllZip R xs ys → (i : ℕ) (d : A) → i < length ys
    → (i < length xs) × R (get_or xs i d) (get_or ys i d)
zip_at R [] [] h i d l = absurd (omega arith)
zip_at R [] (y ∷ ys) h i d l = absurd h
zip_at R (x ∷ xs) [] h i d l = absurd h
zip_at R (x ∷ xs) (y ∷ ys) h zero d l = (omega arith, h.0)
zip_at R (x ∷ xs) (y ∷ ys) h (suc i) d l =
    let k = zip_at R xs ys h.1 i d (omega arith) in
    (let j = k.0 in omega arith, k.1)

pub sorted_alike : {A : Type 0} (R : A → A → Type 0) (lt : A → A → Bool)
    → ((a b c d : A) → R a b → R c d → lt a c ≡ lt b d)
    → (xs ys : List A) → AllZip R xs ys → IsSortedBy lt xs → IsSortedBy lt ys
sorted_alike R lt f xs ys h up = λ k d l m.
    let a = zip_at R xs ys h k d (omega arith) in
    let b = zip_at R xs ys h (k + 1) d m in
    let j = b.0 in
    sym (f (get_or xs (k + 1) d) (get_or ys (k + 1) d) (get_or xs k d) (get_or ys k d) b.1 a.1) ∙ up k d l j

pub zip_pairs : {K A B : Type 0} (R : A → B → Type 0) (ks : List K) (xs : List A) (ys : List B)
    → AllZip R xs ys
    → AllZip (λ (p : K × A) (q : K × B). (p.0 ≡ q.0) × R p.1 q.1) (zip ks xs) (zip ks ys)
zip_pairs R [] xs ys h = tt
zip_pairs R (k ∷ ks) [] [] h = tt
zip_pairs R (k ∷ ks) [] (y ∷ ys) h = absurd h
zip_pairs R (k ∷ ks) (x ∷ xs) [] h = absurd h
zip_pairs R (k ∷ ks) (x ∷ xs) (y ∷ ys) h = ((refl, h.0), zip_pairs R ks xs ys h.1)

pub zip_seconds : {K A B : Type 0} (R : A → B → Type 0) (ps : List (K × A)) (qs : List (K × B))
    → AllZip (λ (p : K × A) (q : K × B). (p.0 ≡ q.0) × R p.1 q.1) ps qs
    → AllZip R (map (λ (p : K × A). p.1) ps) (map (λ (q : K × B). q.1) qs)
zip_seconds R [] [] h = tt
zip_seconds R [] (q ∷ qs) h = absurd h
zip_seconds R (p ∷ ps) [] h = absurd h
zip_seconds R (p ∷ ps) (q ∷ qs) h = (h.0.1, zip_seconds R ps qs h.1)

-- each of some rows with the value beside it
pub zip_starts : {A B C : Type 0} (R : A → B → Type 0) (xs : List A) (ys : List B) (vs : List C)
    → AllZip R xs ys → AllZip (λ (p : A × C) (q : B × C). R p.0 q.0 × (p.1 ≡ q.1)) (zip xs vs) (zip ys vs)
zip_starts R [] [] vs a = tt
zip_starts R [] (y ∷ ys) vs a = absurd a
zip_starts R (x ∷ xs) [] vs a = absurd a
zip_starts R (x ∷ xs) (y ∷ ys) [] a = tt
zip_starts R (x ∷ xs) (y ∷ ys) (v ∷ vs) a = ((a.0, refl), zip_starts R xs ys vs a.1)
