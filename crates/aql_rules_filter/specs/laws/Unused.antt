-- A condition does not look at a variable that it does not use; what is used is there without those that are
-- not.
use Rattle.std.proofs.Common.{◌≡◌, ◌∙◌, List, [], ◌∷◌, ◌++◌, Bool, true, false, true≢false, refl, ap, sym}
use Rattle.std.specs.Prelude.{◌||◌, not, Option, Some, None, option_to_list}
use Rattle.std.proofs.lemmas.Bool.{and_parts, not-true, or_parts}
use Rattle.std.proofs.lemmas.List.Folds.{list_all-append}
use Rattle.aql_value.specs.Datum.{Datum, null}
use Rattle.aql_value.specs.Truth.{truth}
use Rattle.aql_tree.specs.declared.syntax.Ident.{Ident}
use Rattle.aql_tree.specs.Tree.{ExprTree}
use Rattle.aql_meaning.specs.Row.{Row, bind, bind_maybe, same_ident}
use Rattle.aql_meaning.specs.Uses.{Uses, used_variable, uses, is_used}
use Rattle.aql_meaning.specs.laws.Agrees.{value_same}
use Rattle.aql_plan.specs.Variables.{are_among}
use Rattle.aql_meaning.specs.laws.Idents.{same_swapped}
use Rattle.aql_rewrite.specs.laws.Among.{has, both, and_true}
use Rattle.aql_rewrite.specs.laws.Unused.{agree_unused}
use Rattle.aql_rules_filter.specs.MoveFiltersUp.{none_used}
use Rattle.aql_rules_filter.specs.laws.Filtered.{holds}

-- a condition does not look at what it does not use
pub holds_still : (c : ExprTree) (x : Ident) (row : Row) (v : Datum) → is_used x (uses c) ≡ false
    → holds c (bind x row v) ≡ holds c row
holds_still c x row v h =
    ap truth (sym (value_same c null row (bind x row v) (agree_unused (uses c) x row v h)))

pub first_unused : (x : Ident) (xs : List Ident) (us : Uses) → none_used (x ∷ xs) us ≡ true
    → (is_used x us ≡ false) × (none_used xs us ≡ true)
first_unused x xs us h =
    let k = and_parts (not (is_used x us)) (none_used xs us) h in (not-true (is_used x us) k.0, k.1)

pub unused_split : (xs ys : List Ident) (us : Uses) → none_used (xs ++ ys) us ≡ true
    → (none_used xs us ≡ true) × (none_used ys us ≡ true)
unused_split xs ys us h = and_parts (none_used xs us) (none_used ys us)
    (sym (list_all-append (λ x. not (is_used x us)) xs ys) ∙ h)

pub holds_maybe : (c : ExprTree) (x : Option Ident) (row : Row) (v : Datum)
    → none_used (option_to_list x) (uses c) ≡ true → holds c (bind_maybe x row v) ≡ holds c row
holds_maybe c None row v h = refl
holds_maybe c (Some x) row v h = holds_still c x row v (first_unused x [] (uses c) h).0

-- what is used is there without the variables that are not
among_without : (us : Uses) (x : Ident) (xs : List Ident) → is_used x us ≡ false
    → are_among us (x ∷ xs) ≡ true → are_among us xs ≡ true
among_without [] x xs h k = refl
among_without (u ∷ us) x xs h k =
    let l = or_parts (same_ident x (used_variable u)) (is_used x us) h in
    let m = both (has (used_variable u) (x ∷ xs)) (are_among us (x ∷ xs)) k in
    and_true (has (used_variable u) xs) (are_among us xs)
    (by (same_ident (used_variable u) x) (same_swapped x (used_variable u) l.0) m.0)
    (among_without us x xs l.1 m.1)
  where
    by : (b : Bool) → b ≡ false → (b || has (used_variable u) xs) ≡ true → has (used_variable u) xs ≡ true
    by true e h = absurd (true≢false e)
    by false e h = h

pub among_others : (us : Uses) (xs ys : List Ident) → none_used xs us ≡ true
    → are_among us (xs ++ ys) ≡ true → are_among us ys ≡ true
among_others us [] ys h k = k
among_others us (x ∷ xs) ys h k =
    let l = first_unused x xs us h in
    among_others us xs ys l.1 (among_without us x (xs ++ ys) l.0 k)
