-- The rows of a block after each of its calls.
use Rattle.std.proofs.Common.{◌≡◌, ◌∙◌, ℕ, zero, suc, ◌+◌, ◌-◌, ◌<◌, min, List, [], ◌∷◌, ◌++◌, length, take, drop, map, Bool, true, false, refl, ap, ap₂, sym, subst, arith}
use Rattle.std.proofs.lemmas.List.{length-map, map-append, take-map, map-set, with_items_is}
use Rattle.std.proofs.lemmas.Option.{slice_get-map}
use Rattle.std.proofs.lemmas.Bool.{eqb-true, eq-eqb}
use Rattle.std.specs.Prelude.{Some, None, IsTrue, ◌==◌, ◌≤◌, option_map, slice_get, slice_set, unwrap_or}
use Rattle.std.specs.List.{AllByRecursion}
use Rattle.aql_value.specs.Datum.{Datum, null}
use Rattle.aql_tree.specs.declared.syntax.Ident.TheVariants.{Num}
use Rattle.aql_meaning.specs.Row.{Row, empty_row, bind}
use Rattle.aql_meaning.specs.Clauses.{with_values}
use Rattle.aql_block.specs.Rows.{Entries, row_of, IsFirst}
use Rattle.std.specs.Prelude.{Vec}
use Rattle.std.specs.Vec.{with_items}
use Rattle.aql_block.specs.Tables.{Table, cells, rows_of, marked}
use Rattle.aql_block.specs.Columns.{ColumnView, blanks, beside, rows_in, Fits, IsFilled, pushed, single_columns, values_at, without, first_of, rest_of, marked_of}
use Rattle.aql_block.proofs.Beside.{length-rows_in, rows_in-pushed, row_in_at, rows_in-without, rows_in-first_of, rows_in-rest_of, rows_in-marked_of}
use Rattle.aql_block.proofs.Filled.{length-pushed}
use Rattle.aql_block.proofs.Found.{first_cell}

-- the rows of a block with these registers and columns
abbrev pub rows_by : List ℕ → List (List Datum) → List Row
rows_by xs rows = map (λ vs. row_of (cells xs vs)) rows

pub rows_held : (xs : List ℕ) (cs : List ColumnView) (n room : ℕ) → IsFilled xs cs n room
    → length (rows_by xs (rows_in n cs)) ≡ n
rows_held xs cs n room h =
    length-map (rows_in n cs) (λ vs. row_of (cells xs vs)) ∙ length-rows_in n room cs h.fit

pub rows_pushed : (xs : List ℕ) (cs : List ColumnView) (n room : ℕ) (vs : List Datum) (row : Row)
    → IsFilled xs cs n room → length vs ≡ length xs → row_of (cells xs vs) ≡ row
    → rows_by xs (rows_in (n + 1) (pushed cs vs)) ≡ rows_by xs (rows_in n cs) ++ row ∷ []
rows_pushed xs cs n room vs row h e is =
    (let next : n + 1 ≡ suc n = omega arith in ap (λ k. rows_by xs (rows_in k (pushed cs vs))) next)
    ∙ ap (λ rows. rows_by xs rows) (rows_in-pushed n room cs vs h.fit (h.count ∙ sym e))
    ∙ map-append (λ ws. row_of (cells xs ws)) (rows_in n cs) (vs ∷ [])
    ∙ ap (λ r. rows_by xs (rows_in n cs) ++ r ∷ []) is

pub row_at : (xs : List ℕ) (cs : List ColumnView) (n room at : ℕ) → IsFilled xs cs n room → at < n
    → slice_get (rows_by xs (rows_in n cs)) at ≡ Some (row_of (cells xs (values_at cs at)))
row_at xs cs n room at h l =
    slice_get-map (λ vs. row_of (cells xs vs)) (rows_in n cs) at
    ∙ ap (λ o. option_map (λ vs. row_of (cells xs vs)) o) (row_in_at n room cs at h.fit l)

-- null in each register
nulls : (xs : List ℕ) (cs : List ColumnView) → cells xs (map (λ c. null) cs) ≡ cells xs []
nulls [] cs = refl
nulls (x ∷ xs) [] = refl
nulls (x ∷ xs) (c ∷ cs) = ap (λ es. (x, null) ∷ es) (nulls xs cs)

pub rows_without : (xs : List ℕ) (cs : List ColumnView) (n at : ℕ)
    → rows_by xs (rows_in n (map (without at) cs))
    ≡ slice_set (rows_by xs (rows_in n cs)) at (row_of (cells xs []))
rows_without xs cs n at =
    ap (λ rows. rows_by xs rows) (rows_in-without n at cs)
    ∙ map-set (λ vs. row_of (cells xs vs)) (rows_in n cs) at (map (λ c. null) cs)
    ∙ ap (λ es. slice_set (rows_by xs (rows_in n cs)) at (row_of es)) (nulls xs cs)

pub rows_first : (xs : List ℕ) (cs : List ColumnView) (n k : ℕ)
    → rows_by xs (rows_in (min n k) (map (first_of k) cs)) ≡ take k (rows_by xs (rows_in n cs))
rows_first xs cs n k =
    ap (λ rows. rows_by xs rows) (rows_in-first_of k n cs)
    ∙ sym (take-map (λ vs. row_of (cells xs vs)) k (rows_in n cs))

pub drop-map : {X Y : Type 0} (f : X → Y) (n : ℕ) (xs : List X) → drop n (map f xs) ≡ map f (drop n xs)
drop-map f zero xs = refl
drop-map f (suc n) [] = refl
drop-map f (suc n) (x ∷ xs) = drop-map f n xs

pub rows_rest : (xs : List ℕ) (cs : List ColumnView) (n k : ℕ)
    → rows_by xs (rows_in (n - k) (map (rest_of k) cs)) ≡ drop k (rows_by xs (rows_in n cs))
rows_rest xs cs n k =
    ap (λ rows. rows_by xs rows) (rows_in-rest_of k n cs)
    ∙ sym (drop-map (λ vs. row_of (cells xs vs)) k (rows_in n cs))

pub marked-map : {X Y : Type 0} (f : X → Y) (xs : List X) (marks : List Bool)
    → marked (map f xs) marks ≡ map f (marked xs marks)
marked-map f [] marks = refl
marked-map f (x ∷ xs) [] = refl
marked-map f (x ∷ xs) (true ∷ marks) = ap (λ rest. f x ∷ rest) (marked-map f xs marks)
marked-map f (x ∷ xs) (false ∷ marks) = marked-map f xs marks

pub rows_marked : (xs : List ℕ) (cs : List ColumnView) (n room : ℕ) (marks : List Bool)
    → IsFilled xs cs n room
    → length marks ≡ n
    → rows_by xs (rows_in (length (marked marks marks)) (map (marked_of marks) cs))
    ≡ marked (rows_by xs (rows_in n cs)) marks
rows_marked xs cs n room marks h e =
    ap (λ rows. rows_by xs rows) (rows_in-marked_of n room marks cs h.fit e)
    ∙ sym (marked-map (λ vs. row_of (cells xs vs)) (rows_in n cs) marks)

pub rows_set : (xs : List ℕ) (x : ℕ) (vs : List Datum) (rows : List (List Datum)) → length vs ≡ length rows
    → rows_by (x ∷ xs) (beside vs rows) ≡ with_values (Num x) (rows_by xs rows) vs
rows_set xs x [] [] e = refl
rows_set xs x [] (row ∷ rows) e = absurd (cc)
rows_set xs x (v ∷ vs) [] e = refl
rows_set xs x (v ∷ vs) (row ∷ rows) e =
    ap (λ rest. bind (Num x) (row_of (cells xs row)) v ∷ rest) (rows_set xs x vs rows (cc))

pub rows_single : (es : Entries) → cells (map (λ e. e.0) es) (map (λ e. e.1) es) ≡ es
rows_single [] = refl
rows_single (e ∷ es) = ap (λ fs. (e.0, e.1) ∷ fs) (rows_single es)

pub single_row : (es : Entries) → rows_in 1 (single_columns es) ≡ map (λ e. e.1) es ∷ []
single_row [] = refl
single_row (e ∷ es) = ap (λ rows. beside (e.1 ∷ []) rows) (single_row es)

pub rows_of_values : (x : ℕ) (vs : List Datum)
    → rows_by (x ∷ []) (beside vs (blanks (length vs))) ≡ map (λ v. bind (Num x) empty_row v) vs
rows_of_values x [] = refl
rows_of_values x (v ∷ vs) = ap (λ rest. bind (Num x) empty_row v ∷ rest) (rows_of_values x vs)

-- the value of a register at a place
pub value_there : (xs : List ℕ) (cs : List ColumnView) (n room at x place : ℕ) (c : ColumnView)
    → IsFilled xs cs n room → at < n → IsFirst xs x place → slice_get cs place ≡ Some c
    → row_of (cells xs (values_at cs at)) (Num x) ≡ slice_get c.held at
value_there xs cs n room at x place c h l first there =
    first_cell xs (values_at cs at) x place first
    ∙ ap (λ o. Some (unwrap_or o null))
    (slice_get-map (λ (d : ColumnView). unwrap_or (slice_get d.held at) null) cs place
    ∙ ap (λ o. option_map (λ (d : ColumnView). unwrap_or (slice_get d.held at) null) o) there)
    ∙ held cs place h.fit there
  where
    within : (vs : List Datum) (k : ℕ) → k < length vs
        → Some (unwrap_or (slice_get vs k) null) ≡ slice_get vs k
    within [] k g = absurd (omega arith)
    within (v ∷ vs) zero g = refl
    within (v ∷ vs) (suc k) g = within vs k (omega arith)

    held : (ds : List ColumnView) (k : ℕ) → AllByRecursion (Fits n room) ds → slice_get ds k ≡ Some c
        → Some (unwrap_or (slice_get c.held at) null) ≡ slice_get c.held at
    held [] k g none_there = absurd (cc)
    held (d ∷ ds) zero g e =
        let same : d ≡ c = cc in
        within c.held at (let m = g.0.0 in let k = ap (λ (p : ColumnView). length p.held) same in omega arith)
    held (d ∷ ds) (suc k) g e = held ds k g.1 e

-- whether a block is full
pub is_full_when : (n room len : ℕ) → len ≡ n → (IsTrue (n == room) → len ≡ room) × (len ≡ room → IsTrue (n == room))
is_full_when n room len e = (λ full. e ∙ eqb-true n room full, λ same. eq-eqb n room (sym e ∙ same))

pub row_there : (xs : List ℕ) (rows : List (List Datum)) (at : ℕ) → at < length rows
    → Some (row_of (cells xs (unwrap_or (slice_get rows at) []))) ≡ slice_get (rows_by xs rows) at
row_there xs [] at l = absurd (omega arith)
row_there xs (row ∷ rows) zero l = refl
row_there xs (row ∷ rows) (suc at) l = row_there xs rows at (omega arith)

pub no_row_there : (xs : List ℕ) (rows : List (List Datum)) (at : ℕ) → length rows ≤ at
    → None ≡ slice_get (rows_by xs rows) at
no_row_there xs [] at l = refl
no_row_there xs (row ∷ rows) zero l = absurd (omega arith)
no_row_there xs (row ∷ rows) (suc at) l = no_row_there xs rows at (omega arith)

abbrev pub table_of : List ℕ → ℕ → List (List Datum) → Table
table_of xs room rows = record { registers = xs; room = room; values = rows }

no_rows : (cs : List ColumnView) → rows_in 0 cs ≡ []
no_rows [] = refl
no_rows (c ∷ cs) = ap (λ rows. beside c.held rows) (no_rows cs) ∙ none c.held
  where
    none : (vs : List Datum) → beside vs [] ≡ []
    none [] = refl
    none (v ∷ vs) = refl

pub new_table : (xs ys : List ℕ) (room : ℕ) (cs : List ColumnView) → xs ≡ ys
    → table_of xs room (rows_in 0 cs) ≡ table_of ys room []
new_table xs ys room cs e = ap₂ (λ zs rows. table_of zs room rows) e (no_rows cs)

-- columns that stand in the place of others
pub with_mapped : {Z : Type 0} (f : ColumnView → ColumnView) (v : Vec ColumnView Z) (ws : List ColumnView) → ws ≡ map f v.items
    → v.len ≡ length v.items → (with_items v ws).items ≡ map f v.items
with_mapped f v ws e l = with_items_is v ws (ap length e ∙ length-map v.items f ∙ sym l) ∙ e

pub cells_here : (xs : List ℕ) (cs : List ColumnView) (n room at : ℕ) → AllByRecursion (Fits n room) cs
    → at < n
    → cells xs (unwrap_or (slice_get (rows_in n cs) at) []) ≡ cells xs (values_at cs at)
cells_here xs cs n room at h l = ap (λ o. cells xs (unwrap_or o [])) (row_in_at n room cs at h l)

pub looked_up : (xs : List ℕ) (rows : List (List Datum)) (x : ℕ)
    → map (λ (row : Row). row (Num x)) (rows_by xs rows) ≡ map (λ vs. row_of (cells xs vs) (Num x)) rows
looked_up xs [] x = refl
looked_up xs (row ∷ rows) x = ap (λ rest. row_of (cells xs row) (Num x) ∷ rest) (looked_up xs rows x)

pub with_pushed : {Z : Type 0} (v : Vec ColumnView Z) (ws : List ColumnView) (vs : List Datum) → ws ≡ pushed v.items vs
    → v.len ≡ length v.items → (with_items v ws).items ≡ pushed v.items vs
with_pushed v ws vs e l = with_items_is v ws (ap length e ∙ length-pushed v.items vs ∙ sym l) ∙ e

-- columns that were pushed to and cut back
pub with_cut : {Z : Type 0} (v : Vec ColumnView Z) (now seen cut : List ColumnView) (n : ℕ)
    → map (first_of n) now ≡ v.items → seen ≡ (with_items v now).items → cut ≡ map (first_of n) seen
    → v.len ≡ length v.items → (with_items (with_items v now) cut).items ≡ v.items
with_cut v now seen cut n back is e l =
    let k : length now ≡ v.len = sym (length-map now (first_of n)) ∙ ap length back ∙ sym l in
    let same : cut ≡ v.items = e ∙ ap (λ cs. map (first_of n) cs) (is ∙ with_items_is v now k) ∙ back in
    with_items_is (with_items v now) cut (ap length same ∙ sym l) ∙ same

-- a block that isn't full
pub room_left : (t : Table) (xs : List ℕ) (cs : List ColumnView) (n room : ℕ) → IsFilled xs cs n room
    → table_of xs room (rows_in n cs) ≡ t → length (rows_of t) < t.room → n < room
room_left t xs cs n room h is l =
    let k : length (rows_by xs (rows_in n cs)) < room =
    subst (λ (u : Table). length (rows_of u) < u.room) (sym is) l in
    omega (arith, rows_held xs cs n room h)
