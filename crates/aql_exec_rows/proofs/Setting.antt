-- The rows of groups: variables are set one after another, and the rows of all groups have the same variables.
use Rattle.std.proofs.Common.{◌≡◌, ℕ, List, [], ◌∷◌, ◌++◌, length, map, take, drop, reverse, Bool, true, false, cond, Option, Some, None, refl, sym, ap, ◌∙◌, true≢false}
use Rattle.std.specs.Prelude.{is_some}
use mathlib.Core.Path.{fun_ext}
use Rattle.std.proofs.lemmas.List.{reverse-append, map-append, take-append-drop, length-map, length-reverse}
use Rattle.aql_value.specs.declared.values.Value.{Value}
use Rattle.aql_value.specs.Datum.{Datum, null}
use Rattle.aql_value.specs.View.{datum_of, datums_in}
use Rattle.aql_value.specs.Contents.{list, elements}
use Rattle.aql_func.specs.Arguments.{argument}
use Rattle.aql_tree.specs.declared.syntax.Ident.{Ident}
use Rattle.aql_tree.specs.declared.syntax.Ident.TheVariants.{Num}
use Rattle.aql_meaning.specs.Row.{Row, same_ident, bind, bind_all}
use Rattle.aql_block.specs.Rows.{row_of, HasAll, only, is_among}
use Rattle.aql_exec_rows.specs.GroupStates.{Result, finished_of, finished_in}
use Rattle.aql_exec_rows.specs.Framed.{numbered, with_into_values, framed, FitsFrame}
use Rattle.aql_exec_rows.specs.declared.frame.Frame.{Frame}
use Rattle.aql_exec_rows.specs.declared.group.Finished.{Finished}

-- the first variable is set first
pub first_set : (x : Ident) (xs : List Ident) (vs : List Datum) (row : Row)
    → bind_all (x ∷ xs) vs row ≡ bind_all xs (drop 1 vs) (bind x row (argument vs 0))
first_set x xs [] row = refl
first_set x xs (v ∷ vs) row = refl

-- ---- which variables a row has

abbrev HaveSame : Row → Row → Type 0
HaveSame row other = (y : Ident) → is_some (row y) ≡ is_some (other y)

bind_same : (x : Ident) (v w : Datum) (row other : Row) → HaveSame row other
    → HaveSame (bind x row v) (bind x other w)
bind_same x v w row other h y = by (same_ident x y)
  where
    by : (b : Bool) → is_some (cond b (Some v) (row y)) ≡ is_some (cond b (Some w) (other y))
    by true = refl
    by false = h y

all_same : (xs : List Ident) (vs ws : List Datum) (row other : Row) → HaveSame row other
    → HaveSame (bind_all xs vs row) (bind_all xs ws other)
all_same [] vs ws row other h = h
all_same (x ∷ xs) [] [] row other h =
    all_same xs [] [] (bind x row null) (bind x other null) (bind_same x null null row other h)
all_same (x ∷ xs) [] (w ∷ ws) row other h =
    all_same xs [] ws (bind x row null) (bind x other w) (bind_same x null w row other h)
all_same (x ∷ xs) (v ∷ vs) [] row other h =
    all_same xs vs [] (bind x row v) (bind x other null) (bind_same x v null row other h)
all_same (x ∷ xs) (v ∷ vs) (w ∷ ws) row other h =
    all_same xs vs ws (bind x row v) (bind x other w) (bind_same x v w row other h)

taken_same : (n : Option ℕ) (ts us : List Datum) (row other : Row) → HaveSame row other
    → HaveSame (with_into_values n ts row) (with_into_values n us other)
taken_same None ts us row other h = h
taken_same (Some n) ts us row other h = bind_same (Num n) (list ts) (list us) row other h

-- the rows of two groups
framed_same : (f : Frame) (r s : Result) → HaveSame (framed f r) (framed f s)
framed_same f r s = taken_same f.into r.taken s.taken _ _
    (all_same (numbered f.aggregates.items) r.aggregates s.aggregates _ _
    (all_same (numbered f.criteria.items) (elements r.criteria) (elements s.criteria) (row_of f.start)
    (row_of f.start) (λ y. refl)))

have_all : (xs : List ℕ) (row other : Row) → HaveSame row other → HasAll xs row → HasAll xs other
have_all [] row other h a = tt
have_all (x ∷ xs) row other h a = (sym (h (Num x)) ∙ a.0, have_all xs row other h a.1)

none_there : (o : Option Datum) → is_some o ≡ false → None ≡ o
none_there None e = refl
none_there (Some v) e = absurd (true≢false e)

have_only : (xs : List ℕ) (row other : Row) → HaveSame row other → only xs row ≡ row → only xs other ≡ other
have_only xs row other h e = fun_ext (λ y. by y (is_among xs y) (ap (λ (r : Row). r y) e))
  where
    by : (y : Ident) (b : Bool) → cond b (row y) None ≡ row y → cond b (other y) None ≡ other y
    by y true e = refl
    by y false e = none_there (other y) (sym (h y) ∙ sym (ap is_some e))

pub all_fit : (f : Frame) (registers : List ℕ) (r : Result) → HasAll registers (framed f r)
    → only registers (framed f r) ≡ framed f r → FitsFrame f registers
all_fit f registers r a o s = (
  have_all registers (framed f r) (framed f s) (framed_same f r s) a,
  have_only registers (framed f r) (framed f s) (framed_same f r s) o,
)

-- ---- the last group is the first to be given

pub last_first : (f : Frame) (groups rest : List Finished) (last : Finished) → groups ≡ rest ++ last ∷ []
    → map (framed f) (reverse (finished_in groups))
    ≡ framed f (finished_of last) ∷ map (framed f) (reverse (finished_in rest))
last_first f groups rest last e =
    ap (λ gs. map (framed f) (reverse (finished_in gs))) e
    ∙ ap (λ rs. map (framed f) (reverse rs)) (map-append finished_of rest (last ∷ []))
    ∙ ap (map (framed f)) (reverse-append (finished_in rest) (finished_of last ∷ []))

-- ---- values in reverse

pub turned : (vs : List Value) → reverse (datums_in (reverse vs)) ≡ datums_in vs
turned [] = refl
turned (v ∷ vs) = ap (λ ws. reverse (datums_in ws)) (reverse-append (v ∷ []) vs)
    ∙ ap reverse (map-append datum_of (reverse vs) (v ∷ []))
    ∙ reverse-append (datums_in (reverse vs)) (datum_of v ∷ []) ∙ ap (λ ts. datum_of v ∷ ts) (turned vs)

-- the first groups are skipped
pub cut : (f : Frame) (n : ℕ) (gs : List Finished)
    → map (framed f) (reverse (finished_in gs))
    ≡ map (framed f) (reverse (finished_in (drop n gs))) ++ map (framed f) (reverse (finished_in (take n gs)))
cut f n gs =
    ap (λ z. map (framed f) (reverse (finished_in z))) (sym (take-append-drop n gs))
    ∙ ap (λ z. map (framed f) (reverse z)) (map-append finished_of (take n gs) (drop n gs))
    ∙ ap (map (framed f)) (reverse-append (finished_in (take n gs)) (finished_in (drop n gs)))
    ∙ map-append (framed f) (reverse (finished_in (drop n gs))) (reverse (finished_in (take n gs)))

pub row_count : (f : Frame) (gs : List Finished) → length (map (framed f) (reverse (finished_in gs))) ≡ length gs
row_count f gs = length-map (reverse (finished_in gs)) (framed f) ∙ length-reverse (finished_in gs)
    ∙ length-map gs finished_of
