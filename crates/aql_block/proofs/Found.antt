-- The value of a variable is found at the variable's first place.
use Rattle.std.proofs.Common.{◌≡◌, ◌≢◌, ◌∙◌, ℕ, zero, suc, ◌<◌, List, [], ◌∷◌, ◌++◌, length, set, get_or, map, Bool, true, false, cond, refl, ap, sym, arith}
use Rattle.std.proofs.lemmas.Bool.{eqb-true, eq-eqb, ne_eqb}
use mathlib.Core.Path.{fun_ext}
use Rattle.std.specs.Prelude.{Option, Some, None, ◌==◌, ◌||◌, slice_get, unwrap_or}
use Rattle.std.specs.List.{AllByRecursion}
use Rattle.aql_value.specs.Datum.{Datum, null}
use Rattle.aql_tree.specs.declared.syntax.Ident.{Ident}
use Rattle.aql_tree.specs.declared.syntax.Ident.TheVariants.{Name, Num}
use Rattle.aql_meaning.specs.Row.{Row, bind, same_ident}
use Rattle.aql_meaning.specs.laws.Idents.{same_is}
use Rattle.aql_meaning.specs.laws.Rows.{binds_swap}
use Rattle.aql_block.specs.Rows.{Entries, row_of, variables_of, is_among, IsFirst}
use Rattle.aql_block.specs.Tables.{cells}
use Rattle.aql_block.specs.Columns.{ColumnView, beside, rows_in, Fits, values_at}
use Rattle.aql_block.specs.laws.Registers.{bind_self}
use Rattle.aql_block.proofs.Beside.{length-rows_in}

-- another variable keeps its value
pub bind_other : (y x : ℕ) (row : Row) (v : Datum) → y ≢ x → bind (Num y) row v (Num x) ≡ row (Num x)
bind_other y x row v ne = ap (λ b. cond b (Some v) (row (Num x))) (ne_eqb y x ne)

bind_is : (y x : ℕ) (row : Row) (v : Datum) → y ≡ x → bind (Num y) row v (Num x) ≡ Some v
bind_is y x row v e = ap (λ b. cond b (Some v) (row (Num x))) (eq-eqb y x e)

bind_twice : (x : ℕ) (row : Row) (u v : Datum) → bind (Num x) (bind (Num x) row u) v ≡ bind (Num x) row v
bind_twice x row u v = fun_ext (λ z. by (same_ident (Num x) z) (row z))
  where
    by : (b : Bool) (o : Option Datum) → cond b (Some v) (cond b (Some u) o) ≡ cond b (Some v) o
    by true o = refl
    by false o = refl

apart : (y x : ℕ) → y ≢ x → (z : Ident) → same_ident (Num y) z ≡ true → same_ident (Num x) z ≡ false
apart y x ne z e =
    ap (λ w. same_ident (Num x) w) (sym (same_is (Num y) z e)) ∙ ne_eqb x y (λ same. ne (sym same))

swapped : (y x : ℕ) (row : Row) (u v : Datum) → y ≢ x
    → bind (Num y) (bind (Num x) row v) u ≡ bind (Num x) (bind (Num y) row u) v
swapped y x row u v ne = binds_swap (Num y) (Num x) row u v (apart y x ne)

-- ---- entries

pub first_within : (es : Entries) (x at : ℕ) → IsFirst (variables_of es) x at → at < length es
first_within [] x at none_there = absurd none_there
first_within (e ∷ es) x zero h = omega arith
first_within (e ∷ es) x (suc at) h = (let k = first_within es x at h.1 in omega arith)

pub first_variable : (es : Entries) (x at : ℕ) (d : ℕ × Datum) → IsFirst (variables_of es) x at
    → (get_or es at d).0 ≡ x
first_variable [] x at d none_there = absurd none_there
first_variable (e ∷ es) x zero d h = h
first_variable (e ∷ es) x (suc at) d h = first_variable es x at d h.1

pub first_value : (es : Entries) (x at : ℕ) (d : ℕ × Datum) → IsFirst (variables_of es) x at
    → row_of es (Num x) ≡ Some (get_or es at d).1
first_value [] x at d none_there = absurd none_there
first_value (e ∷ es) x zero d h = bind_is e.0 x (row_of es) e.1 h
first_value (e ∷ es) x (suc at) d h = bind_other e.0 x (row_of es) e.1 h.0 ∙ first_value es x at d h.1

pub first_set : (es : Entries) (x at : ℕ) (v : Datum) → IsFirst (variables_of es) x at
    → row_of (set es at (x, v)) ≡ bind (Num x) (row_of es) v
first_set [] x at v none_there = absurd none_there
first_set (e ∷ es) x zero v h =
    sym (bind_twice x (row_of es) e.1 v)
    ∙ ap (λ y. bind (Num x) (bind (Num y) (row_of es) e.1) v) (sym h)
first_set (e ∷ es) x (suc at) v h =
    ap (λ r. bind (Num e.0) r e.1) (first_set es x at v h.1)
    ∙ swapped e.0 x (row_of es) e.1 v h.0

-- a variable that the row does not have
differs : (y x : ℕ) (row : Row) (v : Datum) → bind (Num y) row v (Num x) ≡ None → y ≢ x
differs y x row v h e = (let k : Some v ≡ None = sym (bind_is y x row v e) ∙ h in cc)

pub pushed_entry : (es : Entries) (x : ℕ) (v : Datum) → row_of es (Num x) ≡ None
    → row_of (es ++ (x, v) ∷ []) ≡ bind (Num x) (row_of es) v
pushed_entry [] x v h = refl
pushed_entry (e ∷ es) x v h =
    let ne = differs e.0 x (row_of es) e.1 h in
    ap (λ r. bind (Num e.0) r e.1)
    (pushed_entry es x v (sym (bind_other e.0 x (row_of es) e.1 ne) ∙ h))
    ∙ swapped e.0 x (row_of es) e.1 v ne

-- ---- cells

pub first_cell : (xs : List ℕ) (vs : List Datum) (x at : ℕ) → IsFirst xs x at
    → row_of (cells xs vs) (Num x) ≡ Some (unwrap_or (slice_get vs at) null)
first_cell [] vs x at none_there = absurd none_there
first_cell (y ∷ ys) [] x zero h = bind_is y x (row_of (cells ys [])) null h
first_cell (y ∷ ys) [] x (suc at) h =
    bind_other y x (row_of (cells ys [])) null h.0 ∙ first_cell ys [] x at h.1
first_cell (y ∷ ys) (v ∷ vs) x zero h = bind_is y x (row_of (cells ys vs)) v h
first_cell (y ∷ ys) (v ∷ vs) x (suc at) h =
    bind_other y x (row_of (cells ys vs)) v h.0 ∙ first_cell ys vs x at h.1

or_false : (b a : Bool) → (b || a) ≡ false → (b ≡ false) × (a ≡ false)
or_false true a e = absurd (cc)
or_false false a e = (refl, e)

pub no_cell : (xs : List ℕ) (vs : List Datum) (x : ℕ) → is_among xs (Num x) ≡ false
    → row_of (cells xs vs) (Num x) ≡ None
no_cell [] vs x h = refl
no_cell (y ∷ ys) [] x h =
    let k = or_false (y == x) (is_among ys (Num x)) h in
    ap (λ b. cond b (Some null) (row_of (cells ys []) (Num x))) k.0 ∙ no_cell ys [] x k.1
no_cell (y ∷ ys) (v ∷ vs) x h =
    let k = or_false (y == x) (is_among ys (Num x)) h in
    ap (λ b. cond b (Some v) (row_of (cells ys vs) (Num x))) k.0 ∙ no_cell ys vs x k.1

pub among : (xs : List ℕ) (x at : ℕ) → IsFirst xs x at → is_among xs (Num x) ≡ true
among [] x at none_there = absurd none_there
among (y ∷ ys) x zero h = ap (λ b. b || is_among ys (Num x)) (eq-eqb y x h)
among (y ∷ ys) x (suc at) h =
    ap (λ b. b || is_among ys (Num x)) (ne_eqb y x h.0) ∙ among ys x at h.1

pub first_register : (xs : List ℕ) (x at : ℕ) → IsFirst xs x at → at < length xs
first_register [] x at none_there = absurd none_there
first_register (y ∷ ys) x zero h = omega arith
first_register (y ∷ ys) x (suc at) h = (let k = first_register ys x at h.1 in omega arith)

-- ---- the values of one register in all rows

first_column : (y x : ℕ) (ys : List ℕ) (held : List Datum) (rows : List (List Datum)) → y ≡ x
    → length held ≡ length rows
    → map (λ vs. row_of (cells (y ∷ ys) vs) (Num x)) (beside held rows) ≡ map (λ v. Some v) held
first_column y x ys [] rows h e = refl
first_column y x ys (v ∷ held) [] h e = absurd (cc)
first_column y x ys (v ∷ held) (vs ∷ rows) h e =
    ap (λ o. o ∷ map (λ ws. row_of (cells (y ∷ ys) ws) (Num x)) (beside held rows))
    (bind_is y x (row_of (cells ys vs)) v h)
    ∙ ap (λ rest. Some v ∷ rest) (first_column y x ys held rows h (cc))

later_column : (y x : ℕ) (ys : List ℕ) (held : List Datum) (rows : List (List Datum)) → y ≢ x
    → length held ≡ length rows
    → map (λ vs. row_of (cells (y ∷ ys) vs) (Num x)) (beside held rows)
    ≡ map (λ vs. row_of (cells ys vs) (Num x)) rows
later_column y x ys [] [] h e = refl
later_column y x ys [] (vs ∷ rows) h e = absurd (cc)
later_column y x ys (v ∷ held) [] h e = absurd (cc)
later_column y x ys (v ∷ held) (vs ∷ rows) h e =
    ap (λ o. o ∷ map (λ ws. row_of (cells (y ∷ ys) ws) (Num x)) (beside held rows))
    (bind_other y x (row_of (cells ys vs)) v h)
    ∙ ap (λ rest. row_of (cells ys vs) (Num x) ∷ rest) (later_column y x ys held rows h (cc))

pub column_values : (xs : List ℕ) (cs : List ColumnView) (n room x at : ℕ) (d : ColumnView) → IsFirst xs x at
    → AllByRecursion (Fits n room) cs → length cs ≡ length xs
    → map (λ vs. row_of (cells xs vs) (Num x)) (rows_in n cs) ≡ map (λ v. Some v) (get_or cs at d).held
column_values [] cs n room x at d none_there h e = absurd none_there
column_values (y ∷ ys) [] n room x at d f h e = absurd (cc)
column_values (y ∷ ys) (c ∷ cs) n room x zero d f h e =
    first_column y x ys c.held (rows_in n cs) f (h.0.0 ∙ sym (length-rows_in n room cs h.1))
column_values (y ∷ ys) (c ∷ cs) n room x (suc at) d f h e =
    later_column y x ys c.held (rows_in n cs) f.0 (h.0.0 ∙ sym (length-rows_in n room cs h.1))
    ∙ column_values ys cs n room x at d f.1 h.1 (cc)
