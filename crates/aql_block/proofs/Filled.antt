-- The columns of a block stay filled.
use Rattle.std.proofs.Common.{◌≡◌, ◌∙◌, ℕ, suc, ◌+◌, ◌-◌, ◌<◌, ◌≤◌, min, List, [], ◌∷◌, length, map, replicate, Bool, true, false, refl, ap, sym, subst, arith, length-append, length-take, length-drop, length-set, add-one}
use Rattle.std.proofs.lemmas.List.{length-map}
use Rattle.std.specs.List.{AllByRecursion}
use Rattle.aql_value.specs.Datum.{Datum, null}
use Rattle.aql_meaning.specs.Row.{Row}
use Rattle.aql_block.specs.Rows.{Entries}
use Rattle.aql_block.specs.Tables.{marked}
use Rattle.aql_block.specs.Columns.{ColumnView, Fits, IsFilled, HasRoom, pushed, moved_values, copied_values, single_columns, without, first_of, rest_of, marked_of}

-- what follows from one fact of each, where the fact of each column follows
pub each : {P Q : ColumnView → Type 0} → ((c : ColumnView) → P c → Q c) → (cs : List ColumnView)
    → AllByRecursion P cs
    → AllByRecursion Q cs
each f [] h = tt
each f (c ∷ cs) h = (f c h.0, each f cs h.1)

-- the same of columns to which the same was done
pub each_map : (P Q : ColumnView → Type 0) (g : ColumnView → ColumnView) → ((c : ColumnView) → P c → Q (g c))
    → (cs : List ColumnView) → AllByRecursion P cs → AllByRecursion Q (map g cs)
each_map P Q g f [] h = tt
each_map P Q g f (c ∷ cs) h = (f c h.0, each_map P Q g f cs h.1)

pub all_room : (n room : ℕ) (cs : List ColumnView) → AllByRecursion (Fits n room) cs → n < room
    → AllByRecursion HasRoom cs
all_room n room cs h l = each (λ c f. (let e = f.0 in let le = f.1 in omega arith)) cs h

pub all_held : (n room : ℕ) (cs : List ColumnView) → AllByRecursion (Fits n room) cs
    → AllByRecursion (λ c. length c.held ≡ n) cs
all_held n room cs h = each (λ c f. f.0) cs h

pub all_place : (n room at : ℕ) (cs : List ColumnView) → AllByRecursion (Fits n room) cs → at < n
    → AllByRecursion (λ c. at < length c.held) cs
all_place n room at cs h l = each (λ c f. (let e = f.0 in omega arith)) cs h

pub length-taken : (xs : List ℕ) (row : Row) → length (moved_values xs row) ≡ length xs
length-taken [] row = refl
length-taken (x ∷ xs) row = ap suc (length-taken xs _)

pub length-copied : (xs : List ℕ) (x : ℕ) (row : Row) (v : Datum)
    → length (copied_values xs x row v) ≡ length xs
length-copied [] x row v = refl
length-copied (y ∷ ys) x row v = ap suc (length-copied ys x row _)

pub length-pushed : (cs : List ColumnView) (vs : List Datum) → length (pushed cs vs) ≡ length cs
length-pushed [] vs = refl
length-pushed (c ∷ cs) [] = refl
length-pushed (c ∷ cs) (v ∷ vs) = ap suc (length-pushed cs vs)

fits_pushed : (n room : ℕ) (cs : List ColumnView) (vs : List Datum) → AllByRecursion (Fits n room) cs
    → length cs ≡ length vs → AllByRecursion (Fits (suc n) room) (pushed cs vs)
fits_pushed n room [] vs h e = tt
fits_pushed n room (c ∷ cs) [] h e = absurd (cc)
fits_pushed n room (c ∷ cs) (v ∷ vs) h e =
    ((length-append c.held (v ∷ []) ∙ (omega (arith, h.0.0)), h.0.1), fits_pushed n room cs vs h.1 (cc))

-- ---- after each of a block's calls

pub filled_new : (xs : List ℕ) (room : ℕ)
    → IsFilled xs (replicate (length xs) (record { room = room; held = [] })) 0 room
filled_new xs room = record { count = counts xs; fit = fits xs; within = omega arith }
  where
    counts : (ys : List ℕ)
        → length (replicate {A = ColumnView} (length ys) (record { room = room; held = [] })) ≡ length ys
    counts [] = refl
    counts (y ∷ ys) = ap suc (counts ys)

    fits : (ys : List ℕ)
        → AllByRecursion (Fits 0 room) (replicate (length ys) (record { room = room; held = [] }))
    fits [] = tt
    fits (y ∷ ys) = ((refl, omega arith), fits ys)

pub filled_single : (es : Entries) → IsFilled (map (λ e. e.0) es) (single_columns es) 1 1
filled_single es = record { count = counts es; fit = fits es; within = omega arith }
  where
    counts : (fs : Entries) → length (single_columns fs) ≡ length (map (λ (e : ℕ × Datum). e.0) fs)
    counts [] = refl
    counts (f ∷ fs) = ap suc (counts fs)

    fits : (fs : Entries) → AllByRecursion (Fits 1 1) (single_columns fs)
    fits [] = tt
    fits (f ∷ fs) = ((refl, omega arith), fits fs)

pub filled_set : (xs : List ℕ) (cs : List ColumnView) (n room x more : ℕ) (vs : List Datum)
    → IsFilled xs cs n room → length vs ≡ n → n ≤ more
    → IsFilled (x ∷ xs) (record { room = more; held = vs } ∷ cs) n n
filled_set xs cs n room x more vs h e le = record {
  count = ap suc h.count;
  fit = ((e, le), each (λ c f. (f.0, (let a = f.1 in let b = h.within in omega arith))) cs h.fit);
  within = omega arith;
}

pub filled_pushed : (xs : List ℕ) (cs : List ColumnView) (n room : ℕ) (vs : List Datum)
    → IsFilled xs cs n room → length vs ≡ length xs → n < room → IsFilled xs (pushed cs vs) (n + 1) room
filled_pushed xs cs n room vs h e l = record {
  count = length-pushed cs vs ∙ h.count;
  fit = rw add-one (fits_pushed n room cs vs h.fit (h.count ∙ sym e));
  within = omega arith;
}

pub filled_without : (xs : List ℕ) (cs : List ColumnView) (n room at : ℕ) → IsFilled xs cs n room
    → IsFilled xs (map (without at) cs) n room
filled_without xs cs n room at h = record {
  count = length-map cs (without at) ∙ h.count;
  fit = each_map (Fits n room) (Fits n room) (without at) (λ c f. (length-set c.held at null ∙ f.0, f.1)) cs h.fit;
  within = h.within;
}

pub filled_first : (xs : List ℕ) (cs : List ColumnView) (n room k : ℕ) → IsFilled xs cs n room
    → IsFilled xs (map (first_of k) cs) (min n k) room
filled_first xs cs n room k h = record {
  count = length-map cs (first_of k) ∙ h.count;
  fit = each_map (Fits n room) (Fits (min n k) room) (first_of k)
      (λ c f. ((let e = length-take k c.held in let g = f.0 in omega arith), f.1)) cs h.fit;
  within = (let b = h.within in omega arith);
}

pub filled_rest : (xs : List ℕ) (cs : List ColumnView) (n room k : ℕ) → IsFilled xs cs n room
    → IsFilled xs (map (rest_of k) cs) (n - k) (n - k)
filled_rest xs cs n room k h = record {
  count = length-map cs (rest_of k) ∙ h.count;
  fit = each_map (Fits n room) (Fits (n - k) (n - k)) (rest_of k)
      (λ c f. (let e = length-drop k c.held in let g = f.0 in (omega arith, omega arith))) cs h.fit;
  within = omega arith;
}

pub length-marked : {X Y : Type 0} (xs : List X) (ys : List Y) (marks : List Bool) → length xs ≡ length ys
    → length (marked xs marks) ≡ length (marked ys marks)
length-marked [] [] marks e = refl
length-marked [] (y ∷ ys) marks e = absurd (cc)
length-marked (x ∷ xs) [] marks e = absurd (cc)
length-marked (x ∷ xs) (y ∷ ys) [] e = refl
length-marked (x ∷ xs) (y ∷ ys) (true ∷ marks) e = ap suc (length-marked xs ys marks (cc))
length-marked (x ∷ xs) (y ∷ ys) (false ∷ marks) e = length-marked xs ys marks (cc)

pub length-marked-le : {X : Type 0} (xs : List X) (marks : List Bool) → length (marked xs marks) ≤ length xs
length-marked-le [] marks = omega arith
length-marked-le (x ∷ xs) [] = omega arith
length-marked-le (x ∷ xs) (true ∷ marks) = (let h = length-marked-le xs marks in omega arith)
length-marked-le (x ∷ xs) (false ∷ marks) = (let h = length-marked-le xs marks in omega arith)

pub filled_marked : (xs : List ℕ) (cs : List ColumnView) (n room : ℕ) (marks : List Bool)
    → IsFilled xs cs n room → length marks ≡ n
    → IsFilled xs (map (marked_of marks) cs) (length (marked marks marks)) room
filled_marked xs cs n room marks h e = record {
  count = length-map cs (marked_of marks) ∙ h.count;
  fit = each_map (Fits n room) (Fits (length (marked marks marks)) room) (marked_of marks)
      (λ c f. (length-marked c.held marks marks (f.0 ∙ sym e), f.1)) cs h.fit;
  within = (let b = h.within in let k = length-marked-le marks marks in omega arith);
}

pub filled_made : (xs : List ℕ) (k room : ℕ) (cs : List ColumnView)
    → cs ≡ replicate k (record { room = room; held = [] }) → k ≡ length xs → IsFilled xs cs 0 room
filled_made xs k room cs e same =
    subst (λ (ds : List ColumnView). IsFilled xs ds 0 room)
    (sym (e ∙ ap (λ (n : ℕ). replicate {A = ColumnView} n (record { room = room; held = [] })) same))
    (filled_new xs room)

pub below_room : (n room : ℕ) → n ≤ room → (n ≡ room → ⊥) → n < room
below_room n room le ne = omega arith
