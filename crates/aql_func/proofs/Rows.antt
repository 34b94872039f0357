-- The row of answers of LIKE, as one more piece stands before the others.
use Rattle.std.proofs.Common.{◌≡◌, ℕ, zero, suc, ◌+◌, ◌<◌, List, [], ◌∷◌, ◌++◌, Bool, true, false, ◌&&◌, ◌||◌, length, get_or, set, take, drop, refl, ap, sym, ◌∙◌, true≢false, arith}
use Rattle.aql_func.specs.Like.{Piece, one, run, this, fits}
use Rattle.aql_func.specs.inner.Pieces.{row_of, ors, or_head, takes, head_of, shift}

or_false : (b : Bool) → b || false ≡ b
or_false true = refl
or_false false = refl

pub row_counted : (ps : List Piece) (cs : List ℕ) → length (row_of ps cs) ≡ suc (length cs)
row_counted ps [] = refl
row_counted ps (c ∷ cs) = ap suc (row_counted ps cs)

pub row_head : (d : Bool) (ps : List Piece) (cs : List ℕ) → get_or (row_of ps cs) 0 d ≡ fits ps cs
row_head d ps [] = refl
row_head d ps (c ∷ cs) = refl

pub row_kept : (row : List Bool) (at : ℕ) (x : Bool) → length (set row at x) ≡ length row
row_kept [] at x = refl
row_kept (r ∷ rs) zero x = refl
row_kept (r ∷ rs) (suc at) x = ap suc (row_kept rs at x)

pub row_head_of : (ps : List Piece) (cs : List ℕ) → head_of (row_of ps cs) ≡ fits ps cs
row_head_of ps [] = refl
row_head_of ps (c ∷ cs) = refl

or_row : (b : Bool) (ps : List Piece) (cs : List ℕ) → or_head b (row_of ps cs) ≡ b || fits ps cs
or_row b ps [] = refl
or_row b ps (c ∷ cs) = refl

pub run_row : (ps : List Piece) (cs : List ℕ) → ors (row_of ps cs) ≡ row_of (run ∷ ps) cs
run_row ps [] = ap (λ b. b ∷ []) (sym (or_false (fits ps [])))
run_row ps (c ∷ cs) =
    ap (λ bs. or_head (fits ps (c ∷ cs)) bs ∷ bs) (run_row ps cs)
    ∙ ap (λ b. b ∷ row_of (run ∷ ps) cs) (or_row (fits ps (c ∷ cs)) (run ∷ ps) cs)

pub one_row : (ps : List Piece) (cs : List ℕ) → shift one cs (row_of ps cs) ≡ row_of (one ∷ ps) cs
one_row ps [] = refl
one_row ps (c ∷ cs) = ap (λ b. b ∷ shift one cs (row_of ps cs)) (row_head_of ps cs)
    ∙ ap (λ l. fits ps cs ∷ l) (one_row ps cs)

pub this_row : (d : ℕ) (ps : List Piece) (cs : List ℕ)
    → shift (this d) cs (row_of ps cs) ≡ row_of (this d ∷ ps) cs
this_row d ps [] = refl
this_row d ps (c ∷ cs) = ap (λ b. (takes (this d) c && b) ∷ shift (this d) cs (row_of ps cs))
    (row_head_of ps cs) ∙ ap (λ l. (takes (this d) c && fits ps cs) ∷ l) (this_row d ps cs)

-- a list with an element isn't empty
abbrev is_some_list : List Bool → Bool
is_some_list [] = false
is_some_list (b ∷ bs) = true

nothing : (b : Bool) {bs : List Bool} → b ∷ bs ≡ [] → true ≡ false
nothing b e = ap is_some_list e

-- the last answer stays as it is
pub ors_last : (bs : List Bool) (at : ℕ) → suc at ≡ length bs → drop at bs ≡ ors (drop at bs)
ors_last [] at h = absurd (omega arith)
ors_last (b ∷ []) zero h = refl
ors_last (b ∷ []) (suc at) h = absurd (omega arith)
ors_last (b ∷ c ∷ bs) zero h = absurd (omega arith)
ors_last (b ∷ c ∷ bs) (suc at) h = ors_last (c ∷ bs) at (omega arith)

-- one more answer of a run
pub ors_more : (row old : List Bool) (at : ℕ) (x y : Bool) → suc at < length row → x ≡ get_or row at x
    → y ≡ get_or row (suc at) y
    → take (suc at) row ≡ take (suc at) old → drop (suc at) row ≡ ors (drop (suc at) old)
    → drop at (set row at (x || y)) ≡ ors (drop at old)
ors_more [] old at x y l p q f h = absurd (omega arith)
ors_more (r ∷ []) old zero x y l p q f h = absurd (omega arith)
ors_more (r ∷ []) old (suc at) x y l p q f h = absurd (omega arith)
ors_more (r ∷ s ∷ rs) [] zero x y l p q f h = absurd (true≢false (nothing r f))
ors_more (r ∷ s ∷ rs) [] (suc at) x y l p q f h = absurd (true≢false (nothing r f))
ors_more (r ∷ s ∷ rs) (o ∷ os) zero x y l p q f h =
    let e : r ≡ o = cc in
    ap (λ b. (b || y) ∷ s ∷ rs) (p ∙ e) ∙ ap (λ b. (o || b) ∷ s ∷ rs) q ∙ ap (λ l. or_head o l ∷ l) h
ors_more (r ∷ s ∷ rs) (o ∷ os) (suc at) x y l p q f h =
    let t : take (suc at) (s ∷ rs) ≡ take (suc at) os = cc in
    ors_more (s ∷ rs) os at x y (omega arith) p q t h

pub front_kept : (row old : List Bool) (at : ℕ) (x : Bool) → take (suc at) row ≡ take (suc at) old
    → take at (set row at x) ≡ take at old
front_kept row old zero x h = refl
front_kept [] [] (suc at) x h = refl
front_kept [] (o ∷ os) (suc at) x h = absurd (true≢false (nothing o (sym h)))
front_kept (r ∷ rs) [] (suc at) x h = absurd (true≢false (nothing r h))
front_kept (r ∷ rs) (o ∷ os) (suc at) x h =
    let e : r ≡ o = cc in
    let t : take (suc at) rs ≡ take (suc at) os = cc in
    ap (λ b. b ∷ take at (set rs at x)) e ∙ ap (λ l. o ∷ l) (front_kept rs os at x t)

pub last_set : (row : List Bool) (n : ℕ) → length row ≡ suc n → set row n false ≡ take n row ++ false ∷ []
last_set [] n h = absurd (omega arith)
last_set (r ∷ []) zero h = refl
last_set (r ∷ s ∷ rs) zero h = absurd (omega arith)
last_set (r ∷ rs) (suc n) h = ap (λ l. r ∷ l) (last_set rs n (omega arith))

pub ors_counted : (bs : List Bool) → length (ors bs) ≡ length bs
ors_counted [] = refl
ors_counted (b ∷ bs) = ap suc (ors_counted bs)

pub shifted_counted : (p : Piece) (cs : List ℕ) (bs : List Bool) → length bs ≡ length cs + 1
    → length (shift p cs bs) ≡ length bs
shifted_counted p [] bs h = sym h
shifted_counted p (c ∷ cs) [] h = absurd (omega arith)
shifted_counted p (c ∷ cs) (b ∷ bs) h = ap suc (shifted_counted p cs bs (omega arith))
