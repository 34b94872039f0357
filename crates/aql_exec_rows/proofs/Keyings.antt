-- Rows with their keys: one more in a list, the order of keys, and the last that is held.
use Rattle.std.proofs.Common.{◌≡◌, ◌∙◌, ℕ, zero, suc, ◌+◌, ◌<◌, ◌++◌, List, [], ◌∷◌, length, get_or, drop, take, map, reverse, Bool, true, false, Some, refl, sym, ap, ap₂, subst, arith, append_assoc}
use Rattle.std.specs.Prelude.{slice_get, slice_set}
use Rattle.std.specs.Ordering.{is_ne, ordering_then}
use Rattle.std.specs.declared.cmp.Ordering.{Ordering}
use Rattle.std.specs.declared.cmp.Ordering.TheVariants.{Less, Equal, Greater}
use mathlib.Core.Bool.{false≢true}
use Rattle.std.specs.List.Sorted.{IsSortedBy}
use Rattle.std.proofs.lemmas.List.{drop_more, drop-drop, drop-set-lt, map-append, length-map, get_or-map, reverse-append, take_at}
use Rattle.std.proofs.lemmas.List.Elements.{All-pop, All-take}
use Rattle.std.proofs.lemmas.Option.{get_or_from_slice_get, slice_get_within}
use Rattle.aql_value.specs.Datum.{Datum}
use Rattle.aql_func.specs.Arguments.{argument}
use Rattle.aql_tree.specs.Tree.{ExprTrees}
use Rattle.aql_tree.specs.declared.syntax.Key.{Key}
use Rattle.aql_tree.specs.View.{KeyPart, key_part}
use Rattle.aql_meaning.specs.Row.{Row}
use Rattle.aql_meaning.specs.Clauses.{KeyedRow, key_cmp, keys_cmp}
use Rattle.aql_plan.specs.View.{directions}
use Rattle.aql_exec_rows.specs.Keys.{with_keys, rows_alone}
use Rattle.aql_exec_rows.specs.Sorting.{HasExactly, AllHave}
use Rattle.aql_tree.specs.laws.Parts.{key_is}

-- ---- one row after another

-- a row that is found stands in front of those after it
pub found : {X : Type 0} (xs : List X) (i : ℕ) (x : X) → slice_get xs i ≡ Some x
    → drop i xs ≡ x ∷ drop (i + 1) xs
found xs i x e =
    drop_more xs i x (slice_get_within xs i x e)
    ∙ ap (λ y. y ∷ drop (i + 1) xs) (get_or_from_slice_get xs i x x e)

-- the row at a place is moved to those that are held, with its keys
pub one_moved : (es : ExprTrees) (held held' all : List KeyedRow) (rows rows' : List Row) (at : ℕ)
    (row left : Row)
    → slice_get rows at ≡ Some row → rows' ≡ slice_set rows at left → held' ≡ held ++ with_keys es row ∷ []
    → held ++ map (with_keys es) (drop at rows) ≡ all
    → held' ++ map (with_keys es) (drop (at + 1) rows') ≡ all
one_moved es held held' all rows rows' at row left f s h e =
    ap₂ (λ a b. a ++ map (with_keys es) b) h
    (ap (drop (at + 1)) s ∙ drop-set-lt (at + 1) rows at left (omega arith))
    ∙ append_assoc held (with_keys es row ∷ []) (map (with_keys es) (drop (at + 1) rows))
    ∙ ap (λ z. held ++ map (with_keys es) z) (sym (found rows at row f)) ∙ e

-- ---- the order of keys

argument_at : (xs : List Datum) (i : ℕ) → argument (drop i xs) 0 ≡ argument xs i
argument_at [] zero = refl
argument_at [] (suc i) = refl
argument_at (x ∷ xs) zero = refl
argument_at (x ∷ xs) (suc i) = argument_at xs i

-- two lists of values from a place on: the value there decides, or else those after it
pub from_place : (ds ds' : List Bool) (descending : Bool) (left right : List Datum) (at : ℕ)
    → ds ≡ descending ∷ ds'
    → keys_cmp ds (drop at left) (drop at right)
    ≡ ordering_then (key_cmp descending (argument left at) (argument right at))
    (keys_cmp ds' (drop (at + 1) left) (drop (at + 1) right))
from_place ds ds' descending left right at e =
    ap (λ z. keys_cmp z (drop at left) (drop at right)) e
    ∙ ap₂ ordering_then (ap₂ (key_cmp descending) (argument_at left at) (argument_at right at))
    (ap₂ (keys_cmp ds') (drop-drop 1 at left) (drop-drop 1 at right))

-- rows are sorted where what is seen of them is
pub sorted_seen : {X Y : Type 0} (f : X → Y) (lt : Y → Y → Bool) (xs : List X)
    → IsSortedBy (λ a b. lt (f a) (f b)) xs → IsSortedBy lt (map f xs)
sorted_seen f lt [] up = λ k d low h. absurd (omega arith)
sorted_seen f lt (x ∷ xs) up = λ k d low h.
    let n = length-map (x ∷ xs) f in
    let inside : k + 1 < length (x ∷ xs) = omega (arith, h, n) in
    let inside' : k < length (x ∷ xs) = omega (arith, inside) in
    ap₂ lt (get_or-map f (x ∷ xs) (k + 1) x d inside) (get_or-map f (x ∷ xs) k x d inside')
    ∙ up k x low inside

-- ---- the last that is held

-- it is given first
pub last_first : (held held' : List KeyedRow) (last : KeyedRow) → held ≡ held' ++ last ∷ []
    → rows_alone (reverse held) ≡ last.1 ∷ rows_alone (reverse held')
last_first held held' last e =
    ap (λ z. rows_alone (reverse z)) e ∙ ap rows_alone (reverse-append held' (last ∷ []))

pub last_has : (xs : List ℕ) (held held' : List KeyedRow) (last : KeyedRow) → held ≡ held' ++ last ∷ []
    → AllHave xs held → AllHave xs held' × HasExactly xs last.1
last_has xs held held' last e h =
    All-pop (λ (k : KeyedRow). HasExactly xs k.1) held held' (Some last) e h

-- the directions from a place on
pub key_here : (keys : List Key) (at : ℕ) (key : Key) → key ≡ get_or keys at key → at < length keys
    → directions (drop at keys) ≡ key.descending ∷ directions (drop (at + 1) keys)
key_here keys at key e l =
    ap directions (drop_more keys at key l)
    ∙ ap (λ (k : Key). (key_part k).1 ∷ directions (drop (at + 1) keys)) (sym e)
    ∙ ap (λ (p : KeyPart). p.1 ∷ directions (drop (at + 1) keys)) (key_is key)

-- the first key that differs decides
pub differs : (first order rest : Ordering) → order ≡ first → is_ne order ≡ true
    → ordering_then first rest ≡ order
differs first order rest e n = by first e
  where
    by : (o : Ordering) → order ≡ o → ordering_then o rest ≡ order
    by Less q = sym q
    by Equal q = absurd (false≢true (ap is_ne (sym q) ∙ n))
    by Greater q = sym q

pub equals : (first order rest : Ordering) → order ≡ first → is_ne order ≡ false
    → ordering_then first rest ≡ rest
equals first order rest e n = by first e
  where
    by : (o : Ordering) → order ≡ o → ordering_then o rest ≡ rest
    by Less q = absurd (false≢true (sym n ∙ ap is_ne q))
    by Equal q = refl
    by Greater q = absurd (false≢true (sym n ∙ ap is_ne q))

pub map_reverse : {X Y : Type 0} (f : X → Y) (xs : List X) → map f (reverse xs) ≡ reverse (map f xs)
map_reverse f [] = refl
map_reverse f (x ∷ xs) =
    ap (map f) (reverse-append (x ∷ []) xs) ∙ map-append f (reverse xs) (x ∷ [])
    ∙ ap (λ z. z ++ f x ∷ []) (map_reverse f xs) ∙ sym (reverse-append (f x ∷ []) (map f xs))

-- those in front of the last
pub rest_have : (xs : List ℕ) (held rest last : List KeyedRow) → held ≡ rest ++ last → AllHave xs held
    → AllHave xs rest
rest_have xs held rest last e h =
    subst (λ z. AllHave xs z) (ap (take (length rest)) e ∙ take_at rest last (length rest) refl)
    (All-take (λ (k : KeyedRow). HasExactly xs k.1) (length rest) held h)
