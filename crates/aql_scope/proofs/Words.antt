-- Facts about the words that single names are judged in.
use Rattle.std.proofs.Common.{◌≡◌, ◌∙◌, ℕ, ◌<◌, List, [], ◌∷◌, ◌++◌, suc, length, map, ap, Bool, true, false, cond, refl, arith}
use mathlib.Core.List.{reverse-cons}
use Rattle.std.proofs.lemmas.List.{map-append, reverse-append, length-map}
use Rattle.std.specs.Option.{option_or}
use Rattle.std.specs.Prelude.{reverse, Option, Some, None, is_some, ◌||◌}
use Rattle.aql_aggregate.specs.declared.kinds.AggregateKind.{AggregateKind}
use Rattle.aql_aggregate.specs.declared.kinds.AggregateKind.TheVariants.{Count, Sum, Min, Max, SortedUnique, CountDistinct}
use Rattle.aql_aggregate.specs.View.{aggregate_of}
use Rattle.aql_tree.specs.declared.syntax.Expr.{Expr}
use Rattle.aql_tree.specs.declared.syntax.Ident.{Ident}
use Rattle.aql_tree.specs.declared.syntax.Ident.TheVariants.{Name}
use Rattle.aql_tree.specs.Build.{default_options}
use Rattle.aql_tree.specs.Tree.{ExprTree, TraversalOptions, named_then}
use Rattle.aql_tree.specs.View.{tree, MemberPart, named, computed, members, trees}
use Rattle.aql_meaning.specs.Options.{set_all, options_of}
use Rattle.aql_meaning.specs.Row.{same_ident}
use Rattle.aql_scope.specs.Numbering.{Numbering, number_of, numbered_variable, idents, variable_members}
use Rattle.aql_scope.specs.declared.faults.ScopeFault.{ScopeFault}
use Rattle.aql_meaning.specs.Groups.{into_names}
use Rattle.aql_meaning.specs.Visible.{onto}
use Rattle.aql_scope.specs.Faults.{is_among, first, expr_count, is_counting, new_name, new_names}

-- a name has its number among the first ones, or else among the others
pub number_append : (own outer : Numbering) (x : Ident)
    → number_of (own ++ outer) x ≡ option_or (number_of own x) (number_of outer x)
number_append [] outer x = refl
number_append (v ∷ own) outer x = by (same_ident v.0 x) (number_append own outer x) where
  by : (same : Bool) → number_of (own ++ outer) x ≡ option_or (number_of own x) (number_of outer x)
      → cond same (Some v.1) (number_of (own ++ outer) x)
      ≡ option_or (cond same (Some v.1) (number_of own x)) (number_of outer x)
  by true e = refl
  by false e = e

-- a name is one of these where it has a number
pub has_number : (names : Numbering) (x : Ident) → is_some (number_of names x) ≡ is_among (idents names) x
has_number [] x = refl
has_number (v ∷ names) x = by (same_ident v.0 x) (has_number names x) where
  by : (same : Bool) → is_some (number_of names x) ≡ is_among (idents names) x
      → is_some (cond same (Some v.1) (number_of names x)) ≡ (same || is_among (idents names) x)
  by true e = refl
  by false e = e

-- the names of a list whose latest entry comes first, the latest last
pub idents_turned : (entries : Numbering) → reverse (idents (reverse entries)) ≡ idents entries
idents_turned [] = refl
idents_turned (v ∷ entries) =
    ap (λ (names : Numbering). reverse (idents names)) (reverse-cons v entries)
    ∙ ap reverse (map-append (λ (entry : Ident × ℕ). entry.0) (reverse entries) (v ∷ []))
    ∙ reverse-append (idents (reverse entries)) (v.0 ∷ [])
    ∙ ap (λ xs. v.0 ∷ xs) (idents_turned entries)

-- names that are declared one after another
pub new_append : (visible earlier xs ys : List Ident)
    → new_names visible earlier (xs ++ ys)
    ≡ first (new_names visible earlier xs) (new_names visible (onto xs earlier) ys)
new_append visible earlier [] ys = refl
new_append visible earlier (x ∷ xs) ys =
    by (new_name visible earlier x) (new_append visible (x ∷ earlier) xs ys) where
      by : (fault : Option ScopeFault)
          → new_names visible (x ∷ earlier) (xs ++ ys)
          ≡ first (new_names visible (x ∷ earlier) xs) (new_names visible (onto xs (x ∷ earlier)) ys)
          → first fault (new_names visible (x ∷ earlier) (xs ++ ys))
          ≡ first (first fault (new_names visible (x ∷ earlier) xs))
          (new_names visible (onto xs (x ∷ earlier)) ys)
      by (Some fault) e = refl
      by None e = e

-- a member of the object of variables
abbrev pub member_of : Numbering → List ℕ → MemberPart
member_of names x = named x (numbered_variable (number_of names (Name x)))

pub object_members : (names : Numbering) (xs : List (List ℕ))
    → variable_members names xs ≡ members (map (member_of names) xs)
object_members names [] = refl
object_members names (x ∷ xs) =
    ap (λ ms. named_then x (numbered_variable (number_of names (Name x))) ms) (object_members names xs)

pub kept_taken : (vars : List Ident) (keep : List (List ℕ)) → 0 < length keep → into_names vars keep ≡ keep
kept_taken vars [] some = absurd (omega arith)
kept_taken vars (x ∷ keep) some = refl

-- the options of a traversal are those that its settings choose, where there is one
pub options_chosen : (ms : List MemberPart) (o : TraversalOptions) → 0 < length ms
    → options_of (members ms) o ≡ set_all default_options (members ms)
options_chosen [] o some = absurd (omega arith)
options_chosen (named name e ∷ ms) o some = refl
options_chosen (computed k e ∷ ms) o some = refl

-- an aggregate that is not that of LENGTH and COUNT does not count
pub no_counting : (k : AggregateKind) → (k ≡ Count → ⊥) → is_counting (aggregate_of k) ≡ false
no_counting Count not = absurd (not refl)
no_counting Sum not = refl
no_counting Min not = refl
no_counting Max not = refl
no_counting SortedUnique not = refl
no_counting CountDistinct not = refl

count_trees : (ts : List ExprTree) → expr_count (trees ts) ≡ length ts
count_trees [] = refl
count_trees (t ∷ ts) = ap suc (count_trees ts)

pub count_args : (args : List Expr) → expr_count (trees (map tree args)) ≡ length args
count_args args = count_trees (map tree args) ∙ length-map args tree
