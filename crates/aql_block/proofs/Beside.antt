-- What becomes of rows where the same is done to each of their columns.
use Rattle.std.proofs.Common.{◌≡◌, ◌∙◌, ℕ, zero, suc, ◌+◌, ◌-◌, ◌<◌, ◌≤◌, min, List, [], ◌∷◌, ◌++◌, length, take, drop, set, map, Bool, true, false, refl, ap, ap₂, sym, arith}
use Rattle.std.specs.Prelude.{Some, slice_get, slice_set, unwrap_or}
use Rattle.std.specs.List.{AllByRecursion}
use Rattle.aql_value.specs.Datum.{Datum, null}
use Rattle.aql_block.specs.Tables.{marked}
use Rattle.aql_block.specs.Columns.{ColumnView, blanks, beside, rows_in, Fits, pushed, values_at, without, first_of, rest_of, marked_of}

pub length-blanks : (n : ℕ) → length (blanks n) ≡ n
length-blanks zero = refl
length-blanks (suc n) = ap suc (length-blanks n)

pub length-beside : (vs : List Datum) (rows : List (List Datum)) → length vs ≡ length rows
    → length (beside vs rows) ≡ length rows
length-beside [] [] e = refl
length-beside [] (row ∷ rows) e = e
length-beside (v ∷ vs) [] e = refl
length-beside (v ∷ vs) (row ∷ rows) e = ap suc (length-beside vs rows (cc))

-- columns of n values have n rows
pub length-rows_in : (n room : ℕ) (cs : List ColumnView) → AllByRecursion (Fits n room) cs
    → length (rows_in n cs) ≡ n
length-rows_in n room [] h = length-blanks n
length-rows_in n room (c ∷ cs) h =
    let k = length-rows_in n room cs h.1 in
    length-beside c.held (rows_in n cs) (h.0.0 ∙ sym k) ∙ k

-- ---- one more row

blanks_more : (n : ℕ) → blanks (suc n) ≡ blanks n ++ [] ∷ []
blanks_more zero = refl
blanks_more (suc n) = ap (λ rows. [] ∷ rows) (blanks_more n)

beside_more : (vs : List Datum) (rows : List (List Datum)) (v : Datum) (row : List Datum)
    → length vs ≡ length rows
    → beside (vs ++ v ∷ []) (rows ++ row ∷ []) ≡ beside vs rows ++ (v ∷ row) ∷ []
beside_more [] [] v row e = refl
beside_more [] (other ∷ rows) v row e = absurd (cc)
beside_more (w ∷ vs) [] v row e = absurd (cc)
beside_more (w ∷ vs) (other ∷ rows) v row e = ap (λ rest. (w ∷ other) ∷ rest) (beside_more vs rows v row (cc))

pub rows_in-pushed : (n room : ℕ) (cs : List ColumnView) (vs : List Datum) → AllByRecursion (Fits n room) cs
    → length cs ≡ length vs → rows_in (suc n) (pushed cs vs) ≡ rows_in n cs ++ vs ∷ []
rows_in-pushed n room [] [] h e = blanks_more n
rows_in-pushed n room [] (v ∷ vs) h e = absurd (cc)
rows_in-pushed n room (c ∷ cs) [] h e = absurd (cc)
rows_in-pushed n room (c ∷ cs) (v ∷ vs) h e =
    ap (λ rows. beside (c.held ++ v ∷ []) rows) (rows_in-pushed n room cs vs h.1 (cc))
    ∙ beside_more c.held (rows_in n cs) v vs (h.0.0 ∙ sym (length-rows_in n room cs h.1))

-- ---- the row at a place

blank_at : (n at : ℕ) → at < n → slice_get (blanks n) at ≡ Some []
blank_at zero at l = absurd (omega arith)
blank_at (suc n) zero l = refl
blank_at (suc n) (suc at) l = blank_at n at (omega arith)

beside_at : (vs : List Datum) (rows : List (List Datum)) (row : List Datum) (at : ℕ)
    → length vs ≡ length rows → slice_get rows at ≡ Some row
    → slice_get (beside vs rows) at ≡ Some (unwrap_or (slice_get vs at) null ∷ row)
beside_at [] [] row at e none_there = absurd (cc)
beside_at [] (other ∷ rows) row at e h = absurd (cc)
beside_at (v ∷ vs) [] row at e none_there = absurd (cc)
beside_at (v ∷ vs) (other ∷ rows) row zero e h = ap (λ r. Some (v ∷ r)) (cc)
beside_at (v ∷ vs) (other ∷ rows) row (suc at) e h = beside_at vs rows row at (cc) h

pub row_in_at : (n room : ℕ) (cs : List ColumnView) (at : ℕ) → AllByRecursion (Fits n room) cs → at < n
    → slice_get (rows_in n cs) at ≡ Some (values_at cs at)
row_in_at n room [] at h l = blank_at n at l
row_in_at n room (c ∷ cs) at h l =
    beside_at c.held (rows_in n cs) (values_at cs at) at
    (h.0.0 ∙ sym (length-rows_in n room cs h.1)) (row_in_at n room cs at h.1 l)

-- ---- null at a place

blank_set : (n at : ℕ) → blanks n ≡ slice_set (blanks n) at []
blank_set zero at = refl
blank_set (suc n) zero = refl
blank_set (suc n) (suc at) = ap (λ rows. [] ∷ rows) (blank_set n at)

beside_set : (vs : List Datum) (rows : List (List Datum)) (v : Datum) (row : List Datum) (at : ℕ)
    → beside (slice_set vs at v) (slice_set rows at row) ≡ slice_set (beside vs rows) at (v ∷ row)
beside_set [] rows v row at = refl
beside_set (w ∷ vs) [] v row zero = refl
beside_set (w ∷ vs) [] v row (suc at) = refl
beside_set (w ∷ vs) (other ∷ rows) v row zero = refl
beside_set (w ∷ vs) (other ∷ rows) v row (suc at) =
    ap (λ rest. (w ∷ other) ∷ rest) (beside_set vs rows v row at)

pub rows_in-without : (n at : ℕ) (cs : List ColumnView)
    → rows_in n (map (without at) cs) ≡ slice_set (rows_in n cs) at (map (λ c. null) cs)
rows_in-without n at [] = blank_set n at
rows_in-without n at (c ∷ cs) =
    ap (λ rows. beside (slice_set c.held at null) rows) (rows_in-without n at cs)
    ∙ beside_set c.held (rows_in n cs) null (map (λ c. null) cs) at

-- ---- the first rows, and the others

blank_take : (k n : ℕ) → blanks (min n k) ≡ take k (blanks n)
blank_take zero n = (let e : min n 0 ≡ 0 = omega arith in ap blanks e)
blank_take (suc k) zero = (let e : min 0 (suc k) ≡ 0 = omega arith in ap blanks e)
blank_take (suc k) (suc n) =
    (let e : min (suc n) (suc k) ≡ suc (min n k) = omega arith in ap blanks e)
    ∙ ap (λ rows. [] ∷ rows) (blank_take k n)

beside_take : (k : ℕ) (vs : List Datum) (rows : List (List Datum))
    → beside (take k vs) (take k rows) ≡ take k (beside vs rows)
beside_take zero vs rows = refl
beside_take (suc k) [] rows = refl
beside_take (suc k) (v ∷ vs) [] = refl
beside_take (suc k) (v ∷ vs) (row ∷ rows) = ap (λ rest. (v ∷ row) ∷ rest) (beside_take k vs rows)

pub rows_in-first_of : (k n : ℕ) (cs : List ColumnView)
    → rows_in (min n k) (map (first_of k) cs) ≡ take k (rows_in n cs)
rows_in-first_of k n [] = blank_take k n
rows_in-first_of k n (c ∷ cs) =
    ap (λ rows. beside (take k c.held) rows) (rows_in-first_of k n cs)
    ∙ beside_take k c.held (rows_in n cs)

blank_drop : (k n : ℕ) → blanks (n - k) ≡ drop k (blanks n)
blank_drop zero n = (let e : n - 0 ≡ n = omega arith in ap blanks e)
blank_drop (suc k) zero = (let e : 0 - suc k ≡ 0 = omega arith in ap blanks e)
blank_drop (suc k) (suc n) =
    (let e : suc n - suc k ≡ n - k = omega arith in ap blanks e) ∙ blank_drop k n

beside_none : (vs : List Datum) → beside vs [] ≡ []
beside_none [] = refl
beside_none (v ∷ vs) = refl

beside_drop : (k : ℕ) (vs : List Datum) (rows : List (List Datum))
    → beside (drop k vs) (drop k rows) ≡ drop k (beside vs rows)
beside_drop zero vs rows = refl
beside_drop (suc k) [] rows = refl
beside_drop (suc k) (v ∷ vs) [] = beside_none (drop k vs)
beside_drop (suc k) (v ∷ vs) (row ∷ rows) = beside_drop k vs rows

pub rows_in-rest_of : (k n : ℕ) (cs : List ColumnView)
    → rows_in (n - k) (map (rest_of k) cs) ≡ drop k (rows_in n cs)
rows_in-rest_of k n [] = blank_drop k n
rows_in-rest_of k n (c ∷ cs) =
    ap (λ rows. beside (drop k c.held) rows) (rows_in-rest_of k n cs)
    ∙ beside_drop k c.held (rows_in n cs)

-- ---- the rows whose mark is true

blank_marked : (others marks : List Bool)
    → blanks (length (marked others marks)) ≡ marked (blanks (length others)) marks
blank_marked [] marks = refl
blank_marked (b ∷ others) [] = refl
blank_marked (b ∷ others) (true ∷ marks) = ap (λ rows. [] ∷ rows) (blank_marked others marks)
blank_marked (b ∷ others) (false ∷ marks) = blank_marked others marks

beside_marked : (vs : List Datum) (rows : List (List Datum)) (marks : List Bool)
    → length vs ≡ length rows
    → beside (marked vs marks) (marked rows marks) ≡ marked (beside vs rows) marks
beside_marked [] rows marks e = refl
beside_marked (v ∷ vs) [] marks e = absurd (cc)
beside_marked (v ∷ vs) (row ∷ rows) [] e = refl
beside_marked (v ∷ vs) (row ∷ rows) (true ∷ marks) e =
    ap (λ rest. (v ∷ row) ∷ rest) (beside_marked vs rows marks (cc))
beside_marked (v ∷ vs) (row ∷ rows) (false ∷ marks) e = beside_marked vs rows marks (cc)

pub rows_in-marked_of : (n room : ℕ) (marks : List Bool) (cs : List ColumnView)
    → AllByRecursion (Fits n room) cs → length marks ≡ n
    → rows_in (length (marked marks marks)) (map (marked_of marks) cs) ≡ marked (rows_in n cs) marks
rows_in-marked_of n room marks [] h e =
    blank_marked marks marks ∙ ap (λ k. marked (blanks k) marks) e
rows_in-marked_of n room marks (c ∷ cs) h e =
    ap (λ rows. beside (marked c.held marks) rows) (rows_in-marked_of n room marks cs h.1 e)
    ∙ beside_marked c.held (rows_in n cs) marks (h.0.0 ∙ sym (length-rows_in n room cs h.1))
