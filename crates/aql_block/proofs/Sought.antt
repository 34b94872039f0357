-- Steps of the loops that seek a variable, and of those that go over columns.
use Rattle.std.proofs.Common.{◌≡◌, ◌≢◌, ◌∙◌, ℕ, zero, suc, ◌+◌, ◌<◌, List, [], ◌∷◌, ◌++◌, length, take, drop, set, get_or, map, Bool, true, false, cond, refl, ap, sym, subst, arith}
use Rattle.std.proofs.lemmas.Bool.{eqb-true, eqb-false}
use Rattle.std.proofs.lemmas.List.{drop_more, at_drop_more, map-set}
use Rattle.std.specs.Prelude.{Option, Some, ◌==◌, ◌||◌}
use Rattle.aql_value.specs.Datum.{Datum}
use Rattle.aql_value.specs.View.{datum_of}
use Rattle.aql_value.specs.declared.values.Value.{Value}
use Rattle.aql_tree.specs.declared.syntax.Ident.TheVariants.{Num}
use Rattle.aql_meaning.specs.Row.{bind}
use Rattle.aql_block.specs.declared.rows.Entry.{Entry}
use Rattle.aql_block.specs.Rows.{row_of, variables_of, is_among, IsFirst}
use Rattle.aql_block.specs.Entries.{entries_in}
use Rattle.aql_block.proofs.Found.{bind_other, first_value, first_set}

-- ---- among entries

abbrev pub value_in : ℕ → List Entry → Option Datum
value_in x es = row_of (entries_in es) (Num x)

pub entry_passed : (es : List Entry) (i x : ℕ) (e : Entry) → i < length es → e ≡ get_or es i e
    → (e.var == x) ≡ false → value_in x (drop i es) ≡ value_in x (drop (i + 1) es)
entry_passed es i x e l is other =
    at_drop_more (value_in x) es i e l
    ∙ ap (λ (d : Entry). value_in x (d ∷ drop (i + 1) es)) (sym is)
    ∙ ap (λ b. cond b (Some (datum_of e.value)) (value_in x (drop (i + 1) es))) other

pub entry_found : (es : List Entry) (i x : ℕ) (e : Entry) → i < length es → e ≡ get_or es i e
    → (e.var == x) ≡ true → value_in x (drop i es) ≡ Some (datum_of e.value)
entry_found es i x e l is same =
    at_drop_more (value_in x) es i e l
    ∙ ap (λ (d : Entry). value_in x (d ∷ drop (i + 1) es)) (sym is)
    ∙ ap (λ b. cond b (Some (datum_of e.value)) (value_in x (drop (i + 1) es))) same

-- the first place in what is left is a first place in all
abbrev pub FindsEntry : ℕ → List Entry → ℕ → Type 0
FindsEntry x es i =
    (j : ℕ) → IsFirst (variables_of (entries_in (drop i es))) x j → IsFirst (variables_of (entries_in es)) x (i + j)

pub finds_entry : (es : List Entry) (i x : ℕ) (e : Entry) → i < length es → e ≡ get_or es i e
    → (e.var == x) ≡ false → FindsEntry x es i → FindsEntry x es (i + 1)
finds_entry es i x e l is other h j first =
    let here : (get_or es i e).var ≢ x =
    λ same. eqb-false e.var x other (ap (λ (d : Entry). d.var) is ∙ same) in
    let there : IsFirst (variables_of (entries_in (drop i es))) x (suc j) =
    subst (λ (ds : List Entry). IsFirst (variables_of (entries_in ds)) x (suc j))
    (sym (drop_more es i e l)) (here, first) in
    let same : i + suc j ≡ (i + 1) + j = omega arith in
    subst (λ k. IsFirst (variables_of (entries_in es)) x k) same (h (suc j) there)

pub found_entry : (es : List Entry) (i x : ℕ) (e : Entry) → i < length es → e ≡ get_or es i e
    → (e.var == x) ≡ true → FindsEntry x es i → IsFirst (variables_of (entries_in es)) x i
found_entry es i x e l is same h =
    let here : (get_or es i e).var ≡ x = ap (λ (d : Entry). d.var) (sym is) ∙ eqb-true e.var x same in
    let there : IsFirst (variables_of (entries_in (drop i es))) x 0 =
    subst (λ (ds : List Entry). IsFirst (variables_of (entries_in ds)) x 0)
    (sym (drop_more es i e l)) here in
    let whole : i + 0 ≡ i = omega arith in
    subst (λ k. IsFirst (variables_of (entries_in es)) x k) whole (h 0 there)

-- the entry at a first place
pub entry_variable : (es : List Entry) (x at : ℕ) (e : Entry) → IsFirst (variables_of (entries_in es)) x at
    → e ≡ get_or es at e → e.var ≡ x
entry_variable [] x at e first is = absurd first
entry_variable (d ∷ es) x zero e first is = ap (λ (f : Entry). f.var) is ∙ first
entry_variable (d ∷ es) x (suc at) e first is = entry_variable es x at e first.1 is

pub entry_value : (es : List Entry) (x at : ℕ) (e : Entry) → IsFirst (variables_of (entries_in es)) x at
    → e ≡ get_or es at e → value_in x es ≡ Some (datum_of e.value)
entry_value [] x at e first is = absurd first
entry_value (d ∷ es) x zero e first is =
    first_value (entries_in (d ∷ es)) x 0 (d.var, datum_of d.value) first
    ∙ ap (λ (f : Entry). Some (datum_of f.value)) (sym is)
entry_value (d ∷ es) x (suc at) e first is =
    bind_other d.var x (row_of (entries_in es)) (datum_of d.value) first.0
    ∙ entry_value es x at e first.1 is

pub entry_set : (es : List Entry) (x at : ℕ) (e : Entry) (v : Value)
    → IsFirst (variables_of (entries_in es)) x at → e ≡ get_or es at e
    → row_of (entries_in (set es at (record { var = e.var; value = v })))
    ≡ bind (Num x) (row_of (entries_in es)) (datum_of v)
entry_set es x at e v first is =
    ap row_of (map-set (λ (d : Entry). (d.var, datum_of d.value)) es at (record { var = e.var; value = v }))
    ∙ ap (λ y. row_of (set (entries_in es) at (y, datum_of v))) (entry_variable es x at e first is)
    ∙ first_set (entries_in es) x at (datum_of v) first

pub entry_within : (es : List Entry) (x at : ℕ) → IsFirst (variables_of (entries_in es)) x at → at < length es
entry_within [] x at first = absurd first
entry_within (d ∷ es) x zero first = omega arith
entry_within (d ∷ es) x (suc at) first = (let k = entry_within es x at first.1 in omega arith)

-- ---- among registers

abbrev pub FindsRegister : ℕ → List ℕ → ℕ → Type 0
FindsRegister x xs i = (j : ℕ) → IsFirst (drop i xs) x j → IsFirst xs x (i + j)

pub register_passed : (xs : List ℕ) (i x y : ℕ) → i < length xs → y ≡ get_or xs i y → (y == x) ≡ false
    → is_among (drop i xs) (Num x) ≡ is_among (drop (i + 1) xs) (Num x)
register_passed xs i x y l is other =
    at_drop_more (λ ys. is_among ys (Num x)) xs i y l
    ∙ ap (λ z. is_among (z ∷ drop (i + 1) xs) (Num x)) (sym is)
    ∙ ap (λ b. b || is_among (drop (i + 1) xs) (Num x)) other

pub finds_register : (xs : List ℕ) (i x y : ℕ) → i < length xs → y ≡ get_or xs i y → (y == x) ≡ false
    → FindsRegister x xs i → FindsRegister x xs (i + 1)
finds_register xs i x y l is other h j first =
    let here : get_or xs i y ≢ x = λ same. eqb-false y x other (is ∙ same) in
    let there : IsFirst (drop i xs) x (suc j) =
    subst (λ (ys : List ℕ). IsFirst ys x (suc j)) (sym (drop_more xs i y l)) (here, first) in
    let same : i + suc j ≡ (i + 1) + j = omega arith in
    subst (λ k. IsFirst xs x k) same (h (suc j) there)

pub found_register : (xs : List ℕ) (i x y : ℕ) → i < length xs → y ≡ get_or xs i y → (y == x) ≡ true
    → FindsRegister x xs i → IsFirst xs x i
found_register xs i x y l is same h =
    let here : get_or xs i y ≡ x = sym is ∙ eqb-true y x same in
    let there : IsFirst (drop i xs) x 0 =
    subst (λ (ys : List ℕ). IsFirst ys x 0) (sym (drop_more xs i y l)) here in
    let whole : i + 0 ≡ i = omega arith in
    subst (λ k. IsFirst xs x k) whole (h 0 there)
