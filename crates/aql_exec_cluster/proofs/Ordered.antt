-- The order of lists of keys, one key after another.
use Rattle.std.proofs.Common.{◌≡◌, ◌∙◌, ℕ, zero, suc, ◌+◌, ◌<◌, List, [], ◌∷◌, length, get_or, drop, Bool, true, false, refl, sym, ap, ap₂}
use Rattle.std.specs.Ordering.{is_ne, ordering_then}
use Rattle.std.specs.declared.cmp.Ordering.{Ordering}
use Rattle.std.specs.declared.cmp.Ordering.TheVariants.{Less, Equal, Greater}
use mathlib.Core.Bool.{false≢true}
use Rattle.std.proofs.lemmas.List.{drop_more, drop-drop}
use Rattle.aql_value.specs.Datum.{Datum}
use Rattle.aql_func.specs.Arguments.{argument}
use Rattle.aql_tree.specs.declared.syntax.Key.{Key}
use Rattle.aql_tree.specs.View.{KeyPart, key_part}
use Rattle.aql_tree.specs.laws.Parts.{key_is}
use Rattle.aql_meaning.specs.Clauses.{key_cmp, keys_cmp}
use Rattle.aql_plan.specs.View.{directions}

argument_at : (xs : List Datum) (i : ℕ) → argument (drop i xs) 0 ≡ argument xs i
argument_at [] zero = refl
argument_at [] (suc i) = refl
argument_at (x ∷ xs) zero = refl
argument_at (x ∷ xs) (suc i) = argument_at xs i

-- two lists of values from a place on: the value there decides, or else those after it
pub from_place : (ds ds' : List Bool) (descending : Bool) (left right : List Datum) (at : ℕ)
    → ds ≡ descending ∷ ds'
    → keys_cmp ds (drop at left) (drop at right)
    ≡ ordering_then (key_cmp descending (argument left at) (argument right at))
    (keys_cmp ds' (drop (at + 1) left) (drop (at + 1) right))
from_place ds ds' descending left right at e =
    ap (λ z. keys_cmp z (drop at left) (drop at right)) e
    ∙ ap₂ ordering_then (ap₂ (key_cmp descending) (argument_at left at) (argument_at right at))
    (ap₂ (keys_cmp ds') (drop-drop 1 at left) (drop-drop 1 at right))

-- the directions from a place on
pub key_here : (keys : List Key) (at : ℕ) (key : Key) → key ≡ get_or keys at key → at < length keys
    → directions (drop at keys) ≡ key.descending ∷ directions (drop (at + 1) keys)
key_here keys at key e l =
    ap directions (drop_more keys at key l)
    ∙ ap (λ (k : Key). (key_part k).1 ∷ directions (drop (at + 1) keys)) (sym e)
    ∙ ap (λ (p : KeyPart). p.1 ∷ directions (drop (at + 1) keys)) (key_is key)

-- the first key that differs decides
pub differs : (first order rest : Ordering) → order ≡ first → is_ne order ≡ true
    → ordering_then first rest ≡ order
differs first order rest e n = by first e
  where
    by : (o : Ordering) → order ≡ o → ordering_then o rest ≡ order
    by Less q = sym q
    by Equal q = absurd (false≢true (ap is_ne (sym q) ∙ n))
    by Greater q = sym q

pub equals : (first order rest : Ordering) → order ≡ first → is_ne order ≡ false
    → ordering_then first rest ≡ rest
equals first order rest e n = by first e
  where
    by : (o : Ordering) → order ≡ o → ordering_then o rest ≡ rest
    by Less q = absurd (false≢true (sym n ∙ ap is_ne q))
    by Equal q = refl
    by Greater q = absurd (false≢true (sym n ∙ ap is_ne q))
