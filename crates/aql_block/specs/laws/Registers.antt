-- Rows cut down to some variables, and which variables the row of some cells has.
use Rattle.std.proofs.Common.{◌≡◌, ◌∙◌, ℕ, List, [], ◌∷◌, Bool, true, false, cond, refl, ap, sym}
use Rattle.std.proofs.lemmas.Bool.{eqb-true}
use mathlib.Core.Path.{fun_ext}
use Rattle.std.specs.Prelude.{Option, Some, None, is_some, IsSome, unwrap_or, ◌||◌, ◌==◌}
use Rattle.aql_value.specs.Datum.{Datum, null}
use Rattle.aql_tree.specs.declared.syntax.Ident.{Ident}
use Rattle.aql_tree.specs.declared.syntax.Ident.TheVariants.{Name, Num}
use Rattle.aql_meaning.specs.Row.{Row, bind, same_ident, value_at}
use Rattle.aql_meaning.specs.laws.Idents.{same_is, same_self}
use Rattle.aql_block.specs.Rows.{Entries, row_of, HasAll, is_among, only}
use Rattle.aql_block.specs.Tables.{cells}
use Rattle.aql_block.specs.Columns.{moved_values, copied_values}

-- the variable that was set last has its value
pub bind_self : (x : ℕ) (row : Row) (v : Datum) → bind (Num x) row v (Num x) ≡ Some v
bind_self x row v = ap (λ b. cond b (Some v) (row (Num x))) (same_self (Num x))

-- no variable of a row that the program holds goes by a name
pub row_numbered : (es : Entries) (name : List ℕ) → row_of es (Name name) ≡ None
row_numbered [] name = refl
row_numbered (e ∷ es) name = row_numbered es name

some_cond : (b : Bool) (v : Datum) (o : Option Datum) → IsSome o → IsSome (cond b (Some v) o)
some_cond true v o h = refl
some_cond false v o h = h

-- one more variable
pub has_all_bind : (xs : List ℕ) (x : ℕ) (row : Row) (v : Datum) → HasAll xs row
    → HasAll xs (bind (Num x) row v)
has_all_bind [] x row v h = tt
has_all_bind (y ∷ ys) x row v h =
    (some_cond (same_ident (Num x) (Num y)) v (row (Num y)) h.0, has_all_bind ys x row v h.1)

-- the row of some cells has each register
pub has_all_cells : (xs : List ℕ) (vs : List Datum) → HasAll xs (row_of (cells xs vs))
has_all_cells [] vs = tt
has_all_cells (x ∷ xs) [] = (
  ap is_some (bind_self x (row_of (cells xs [])) null),
  has_all_bind xs x (row_of (cells xs [])) null (has_all_cells xs []),
)
has_all_cells (x ∷ xs) (v ∷ vs) = (
  ap is_some (bind_self x (row_of (cells xs vs)) v),
  has_all_bind xs x (row_of (cells xs vs)) v (has_all_cells xs vs),
)

cond_or : {A : Type 0} (b a : Bool) (s t n : A) → cond (b || a) (cond b s t) n ≡ cond b s (cond a t n)
cond_or true a s t n = refl
cond_or false a s t n = refl

-- a row with one more variable, cut down to some variables and that one
pub only_bind : (x : ℕ) (xs : List ℕ) (row : Row) (v : Datum)
    → only (x ∷ xs) (bind (Num x) row v) ≡ bind (Num x) (only xs row) v
only_bind x xs row v =
    fun_ext (λ y. cond_or (same_ident (Num x) y) (is_among xs y) (Some v) (row y) None)

-- the row of some cells has no other variable
pub only_cells : (xs : List ℕ) (vs : List Datum) → only xs (row_of (cells xs vs)) ≡ row_of (cells xs vs)
only_cells [] vs = refl
only_cells (x ∷ xs) [] =
    only_bind x xs (row_of (cells xs [])) null ∙ ap (λ r. bind (Num x) r null) (only_cells xs [])
only_cells (x ∷ xs) (v ∷ vs) =
    only_bind x xs (row_of (cells xs vs)) v ∙ ap (λ r. bind (Num x) r v) (only_cells xs vs)

value_is : (o p : Option Datum) → IsSome o → o ≡ p → Some (unwrap_or o null) ≡ p
value_is None p none_there e = absurd (cc)
value_is (Some v) p h e = e

-- a row cut down to one more variable
only_more : (x : ℕ) (xs : List ℕ) (row others : Row) → IsSome (row (Num x))
    → ((y : Ident) → same_ident (Num x) y ≡ false → others y ≡ row y)
    → bind (Num x) (only xs others) (value_at row (Num x)) ≡ only (x ∷ xs) row
only_more x xs row others h same = fun_ext (λ y. by y (same_ident (Num x) y) refl)
  where
    by : (y : Ident) (b : Bool) → same_ident (Num x) y ≡ b
        → bind (Num x) (only xs others) (value_at row (Num x)) y ≡ only (x ∷ xs) row y
    by y true e =
        ap (λ b. cond b (Some (value_at row (Num x))) (only xs others y)) e
        ∙ value_is (row (Num x)) (row y) h (ap row (same_is (Num x) y e))
        ∙ sym (ap (λ b. cond (b || is_among xs y) (row y) None) e)
    by y false e =
        ap (λ b. cond b (Some (value_at row (Num x))) (only xs others y)) e
        ∙ ap (λ o. cond (is_among xs y) o None) (same y e)
        ∙ sym (ap (λ b. cond (b || is_among xs y) (row y) None) e)

-- the values that are taken out of a row give the row, cut down to these variables
pub only_taken : (xs : List ℕ) (row : Row) → HasAll xs row
    → row_of (cells xs (moved_values xs row)) ≡ only xs row
only_taken [] row h = refl
only_taken (x ∷ xs) row h =
    ap (λ r. bind (Num x) r (value_at row (Num x)))
    (only_taken xs (bind (Num x) row null) (has_all_bind xs x row null h.1))
    ∙ only_more x xs row (bind (Num x) row null) h.0 (λ y e. ap (λ b. cond b (Some null) (row y)) e)

has_all_again : (xs : List ℕ) (x : ℕ) (row : Row) (v w : Datum) → HasAll xs (bind (Num x) row v)
    → HasAll xs (bind (Num x) row w)
has_all_again [] x row v w h = tt
has_all_again (y ∷ ys) x row v w h =
    (some (same_ident (Num x) (Num y)) (row (Num y)) h.0, has_all_again ys x row v w h.1)
  where
    some : (b : Bool) (o : Option Datum) → IsSome (cond b (Some v) o) → IsSome (cond b (Some w) o)
    some true o g = refl
    some false o g = g

-- so do the values of which one is moved and the others are copied
pub only_copied : (xs : List ℕ) (x : ℕ) (row : Row) (v : Datum) → HasAll xs (bind (Num x) row v)
    → row_of (cells xs (copied_values xs x row v)) ≡ only xs (bind (Num x) row v)
only_copied [] x row v h = refl
only_copied (y ∷ ys) x row v h =
    ap (λ r. bind (Num y) r (value_at (bind (Num x) row v) (Num y)))
    (only_copied ys x row (cond (x == y) null v) (has_all_again ys x row v (cond (x == y) null v) h.1))
    ∙ only_more y ys (bind (Num x) row v) (bind (Num x) row (cond (x == y) null v)) h.0
    (λ z e. same z e (x == y) refl)
  where
    same : (z : Ident) → same_ident (Num y) z ≡ false → (b : Bool) → (x == y) ≡ b
        → bind (Num x) row (cond b null v) z ≡ bind (Num x) row v z
    same z e true is =
        let k : same_ident (Num x) z ≡ false = ap (λ n. same_ident (Num n) z) (eqb-true x y is) ∙ e in
        ap (λ b. cond b (Some null) (row z)) k ∙ sym (ap (λ b. cond b (Some v) (row z)) k)
    same z e false is = refl
