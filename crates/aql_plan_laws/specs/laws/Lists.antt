-- Lists that are related place by place stay so under what works on lists.
use Rattle.std.proofs.Common.{◌≡◌, ℕ, zero, suc, List, [], ◌∷◌, ◌++◌, map, take, drop, Bool, true, false, cond, refl, ap₂, subst}
use Rattle.std.specs.Prelude.{filter, flat_map}
use Rattle.std.specs.List.{AllZip}

module _ {A B : Type 0} (R : A → B → Type 0) where
  pub append_related : (xs : List A) (ys : List B) (us : List A) (vs : List B)
      → AllZip R xs ys → AllZip R us vs → AllZip R (xs ++ us) (ys ++ vs)
  append_related [] [] us vs h k = k
  append_related [] (y ∷ ys) us vs h k = absurd h
  append_related (x ∷ xs) [] us vs h k = absurd h
  append_related (x ∷ xs) (y ∷ ys) us vs h k = (h.0, append_related xs ys us vs h.1 k)

module _ {A B : Type 0} (R : A → B → Type 0) where
  pub take_related : (n : ℕ) (xs : List A) (ys : List B) → AllZip R xs ys → AllZip R (take n xs) (take n ys)
  take_related zero xs ys h = tt
  take_related (suc n) [] [] h = tt
  take_related (suc n) [] (y ∷ ys) h = absurd h
  take_related (suc n) (x ∷ xs) [] h = absurd h
  take_related (suc n) (x ∷ xs) (y ∷ ys) h = (h.0, take_related n xs ys h.1)

  pub drop_related : (n : ℕ) (xs : List A) (ys : List B) → AllZip R xs ys → AllZip R (drop n xs) (drop n ys)
  drop_related zero xs ys h = h
  drop_related (suc n) [] [] h = tt
  drop_related (suc n) [] (y ∷ ys) h = absurd h
  drop_related (suc n) (x ∷ xs) [] h = absurd h
  drop_related (suc n) (x ∷ xs) (y ∷ ys) h = drop_related n xs ys h.1

  pub weaker : (Q : A → B → Type 0) → ((x : A) (y : B) → R x y → Q x y)
      → (xs : List A) (ys : List B) → AllZip R xs ys → AllZip Q xs ys
  weaker Q f [] [] h = tt
  weaker Q f [] (y ∷ ys) h = absurd h
  weaker Q f (x ∷ xs) [] h = absurd h
  weaker Q f (x ∷ xs) (y ∷ ys) h = (f x y h.0, weaker Q f xs ys h.1)

  pub map_related : {C D : Type 0} (Q : C → D → Type 0) (f : A → C) (g : B → D)
      → ((x : A) (y : B) → R x y → Q (f x) (g y))
      → (xs : List A) (ys : List B) → AllZip R xs ys → AllZip Q (map f xs) (map g ys)
  map_related Q f g k [] [] h = tt
  map_related Q f g k [] (y ∷ ys) h = absurd h
  map_related Q f g k (x ∷ xs) [] h = absurd h
  map_related Q f g k (x ∷ xs) (y ∷ ys) h = (k x y h.0, map_related Q f g k xs ys h.1)

  -- what is computed of related elements is the same
  pub map_equal : {C : Type 0} (f : A → C) (g : B → C) → ((x : A) (y : B) → R x y → f x ≡ g y)
      → (xs : List A) (ys : List B) → AllZip R xs ys → map f xs ≡ map g ys
  map_equal f g k [] [] h = refl
  map_equal f g k [] (y ∷ ys) h = absurd h
  map_equal f g k (x ∷ xs) [] h = absurd h
  map_equal f g k (x ∷ xs) (y ∷ ys) h = ap₂ (λ z zs. z ∷ zs) (k x y h.0) (map_equal f g k xs ys h.1)

  pub flat_related : {C D : Type 0} (Q : C → D → Type 0) (f : A → List C) (g : B → List D)
      → ((x : A) (y : B) → R x y → AllZip Q (f x) (g y))
      → (xs : List A) (ys : List B) → AllZip R xs ys → AllZip Q (flat_map f xs) (flat_map g ys)
  flat_related Q f g k [] [] h = tt
  flat_related Q f g k [] (y ∷ ys) h = absurd h
  flat_related Q f g k (x ∷ xs) [] h = absurd h
  flat_related Q f g k (x ∷ xs) (y ∷ ys) h = both (k x y h.0) (flat_related Q f g k xs ys h.1)
    where
      both : AllZip Q (f x) (g y) → AllZip Q (flat_map f xs) (flat_map g ys)
          → AllZip Q (f x ++ flat_map f xs) (g y ++ flat_map g ys)
      both = append_related Q (f x) (g y) (flat_map f xs) (flat_map g ys)

  pub filter_related : (Q : A → B → Type 0) (p : A → Bool) (q : B → Bool)
      → ((x : A) (y : B) → R x y → p x ≡ q y) → ((x : A) (y : B) → R x y → Q x y)
      → (xs : List A) (ys : List B) → AllZip R xs ys → AllZip Q (filter p xs) (filter q ys)
  filter_related Q p q e f [] [] h = tt
  filter_related Q p q e f [] (y ∷ ys) h = absurd h
  filter_related Q p q e f (x ∷ xs) [] h = absurd h
  filter_related Q p q e f (x ∷ xs) (y ∷ ys) h =
      subst (λ b. AllZip Q (cond (p x) (x ∷ filter p xs) (filter p xs))
      (cond b (y ∷ filter q ys) (filter q ys)))
      (e x y h.0) (by (p x) (filter_related Q p q e f xs ys h.1))
    where
      by : (b : Bool) → AllZip Q (filter p xs) (filter q ys)
          → AllZip Q (cond b (x ∷ filter p xs) (filter p xs)) (cond b (y ∷ filter q ys) (filter q ys))
      by true k = (f x y h.0, k)
      by false k = k

  -- each element of a list of Ps has a related one that is a Q
  pub chosen : {C : Type 0} (P : C → A → Type 0) (Q : C → B → Type 0)
      → ((c : C) (x : A) → P c x → (y : B) × Q c y × R x y)
      → (cs : List C) (xs : List A) → AllZip P cs xs → (ys : List B) × AllZip Q cs ys × AllZip R xs ys
  chosen P Q f [] [] h = ([], tt, tt)
  chosen P Q f [] (x ∷ xs) h = absurd h
  chosen P Q f (c ∷ cs) [] h = absurd h
  chosen P Q f (c ∷ cs) (x ∷ xs) h =
      let y = f c x h.0 in
      let ys = chosen P Q f cs xs h.1 in
      (y.0 ∷ ys.0, (y.1, ys.1), (y.2, ys.2))

  -- the same where the elements before them are related too
  pub carried : {C D : Type 0} (S : C → D → Type 0) (P : C → A → Type 0) (Q : D → B → Type 0)
      → ((c : C) (d : D) (x : A) → S c d → P c x → (y : B) × Q d y × R x y)
      → (cs : List C) (ds : List D) (xs : List A) → AllZip S cs ds → AllZip P cs xs
      → (ys : List B) × AllZip Q ds ys × AllZip R xs ys
  carried S P Q f [] [] [] s h = ([], tt, tt)
  carried S P Q f [] [] (x ∷ xs) s h = absurd h
  carried S P Q f [] (d ∷ ds) xs s h = absurd s
  carried S P Q f (c ∷ cs) [] xs s h = absurd s
  carried S P Q f (c ∷ cs) (d ∷ ds) [] s h = absurd h
  carried S P Q f (c ∷ cs) (d ∷ ds) (x ∷ xs) s h =
      let y = f c d x s.0 h.0 in
      let ys = carried S P Q f cs ds xs s.1 h.1 in
      (y.0 ∷ ys.0, (y.1, ys.1), (y.2, ys.2))

pub related_self : {A : Type 0} (R : A → A → Type 0) → ((x : A) → R x x) → (xs : List A) → AllZip R xs xs
related_self R f [] = tt
related_self R f (x ∷ xs) = (f x, related_self R f xs)

pub related_through : {A B C : Type 0} (R : A → B → Type 0) (S : B → C → Type 0) (Q : A → C → Type 0)
    → ((x : A) (y : B) (z : C) → R x y → S y z → Q x z)
    → (xs : List A) (ys : List B) (zs : List C) → AllZip R xs ys → AllZip S ys zs → AllZip Q xs zs
related_through R S Q f [] [] [] h k = tt
related_through R S Q f [] [] (z ∷ zs) h k = absurd k
related_through R S Q f [] (y ∷ ys) zs h k = absurd h
related_through R S Q f (x ∷ xs) [] zs h k = absurd h
related_through R S Q f (x ∷ xs) (y ∷ ys) [] h k = absurd k
related_through R S Q f (x ∷ xs) (y ∷ ys) (z ∷ zs) h k =
    (f x y z h.0 k.0, related_through R S Q f xs ys zs h.1 k.1)

pub related_back : {A B : Type 0} (R : A → B → Type 0) (xs : List A) (ys : List B) → AllZip R xs ys
    → AllZip (λ y x. R x y) ys xs
related_back R [] [] h = tt
related_back R [] (y ∷ ys) h = absurd h
related_back R (x ∷ xs) [] h = absurd h
related_back R (x ∷ xs) (y ∷ ys) h = (h.0, related_back R xs ys h.1)
