-- The steps of an access, one step further, and an inline operator, one element further.
use Rattle.std.proofs.Common.{rules, ◌≡◌, ℕ, suc, ◌+◌, ◌<◌, ◌≤◌, List, [], ◌∷◌, ◌++◌, length, get_or, map, drop, option_map, Option, Bool, true, false, cond, refl, ap, sym, subst, ◌∙◌, append_assoc, add-one}
use Rattle.std.proofs.Math.Seq.{drop-cons}
use Rattle.std.proofs.lemmas.List.{append-nil, at_drop_all}
use Rattle.aql_value.specs.declared.values.Value.{Value}
use Rattle.aql_value.specs.Datum.{Datum}
use Rattle.aql_value.specs.Truth.{truth}
use Rattle.aql_value.specs.View.{datums_in}
use Rattle.aql_func.specs.Objects.{with_all}
use Rattle.aql_tree.specs.declared.syntax.Expr.{Expr}
use Rattle.aql_tree.specs.declared.syntax.Step.{Step, Name, At, Each, the_lemmas}
use Rattle.aql_tree.specs.View.{tree, StepPart, name, at, inline, step_part, steps, MemberPart, named, computed, members}
use Rattle.aql_meaning.specs.Clauses.{filter_true}
use Rattle.aql_meaning.specs.Row.{Row}
use Rattle.aql_meaning.specs.Value.{steps_value, members as values_of}

-- what is left of a list begins with its item at this place
pub left : {A : Type 0} (xs : List A) (i : ℕ) (x : A) → i < length xs → x ≡ get_or xs i x
    → drop i xs ≡ x ∷ drop (i + 1) xs
left {A = A} xs i x h e =
    subst (λ n. drop i xs ≡ x ∷ drop n xs) (sym (add-one i))
    (subst (λ (y : A). drop i xs ≡ y ∷ drop (suc i) xs) (sym e) (drop-cons xs i x h))

-- what each step is for the definitions
pub part-Name : (n : List ℕ) → step_part (Name n) ≡ name n
part-Name n = search (rules, the_lemmas)

pub part-At : (e : Expr) → step_part (At e) ≡ at (tree e)
part-At e = search (rules, the_lemmas)

pub part-Each : (f p : Option Expr) → step_part (Each f p) ≡ inline (option_map tree f) (option_map tree p)
part-Each f p = search (rules, the_lemmas)

pub parts_from : (all : List Step) (i : ℕ) (s : Step) (p : StepPart) → i < length all → s ≡ get_or all i s
    → step_part s ≡ p → map step_part (drop i all) ≡ p ∷ map step_part (drop (i + 1) all)
parts_from all i s p h e k =
    ap (map step_part) (left all i s h e) ∙ ap (λ q. q ∷ map step_part (drop (i + 1) all)) k

-- the steps from a place on begin with the step there
pub from_here : (all : List Step) (i : ℕ) (s : Step) (p : StepPart) → i < length all → s ≡ get_or all i s
    → step_part s ≡ p → (cur : Datum) (row : Row) (t : Datum)
    → steps_value (steps (map step_part (drop i all))) cur row t
    ≡ steps_value (steps (p ∷ map step_part (drop (i + 1) all))) cur row t
from_here all i s p h e k cur row t =
    ap (λ ss. steps_value (steps ss) cur row t) (parts_from all i s p h e k)

module _ (after given tested : Datum → Datum) where
  -- of those that are tested true-like what is given, and what comes after
  abbrev pub taken : List Datum → List Datum
  taken ts = map after (map given (filter_true ts (map tested ts)))

  -- whether the first element is taken, or only the others
  abbrev by_test : Bool → Datum → List Datum → List Datum
  by_test b t ts =
      map after (map given (cond b (t ∷ filter_true ts (map tested ts)) (filter_true ts (map tested ts))))

  -- the element is kept: what comes after it was done
  pub one_kept : (done : List Datum) (t : Datum) (ts whole : List Datum) → truth (tested t) ≡ true
      → done ++ taken (t ∷ ts) ≡ whole → (done ++ after (given t) ∷ []) ++ taken ts ≡ whole
  one_kept done t ts whole e h =
      append_assoc done (after (given t) ∷ []) (taken ts)
      ∙ ap (λ b. done ++ by_test b t ts) (sym e) ∙ h

  pub one_dropped : (done : List Datum) (t : Datum) (ts whole : List Datum) → truth (tested t) ≡ false
      → done ++ taken (t ∷ ts) ≡ whole → done ++ taken ts ≡ whole
  one_dropped done t ts whole e h =
      ap (λ b. done ++ by_test b t ts) (sym e) ∙ h

  -- nothing is left
  pub all_taken : (done : List Datum) (vs : List Value) (i : ℕ) → length vs ≤ i
      → done ++ taken (datums_in (drop i vs)) ≡ taken (datums_in vs) → done ≡ taken (datums_in vs)
  all_taken done vs i e h =
      sym (append-nil done) ∙ sym (at_drop_all (λ us. done ++ taken (datums_in us)) vs i e) ∙ h

-- the first member of an object literal is set before the others
pub one_member : (out : List (List ℕ × Datum)) (m : MemberPart) (ms : List MemberPart) (cur : Datum)
    (row : Row)
    → with_all (with_all out (values_of (members (m ∷ [])) cur row)) (values_of (members ms) cur row)
    ≡ with_all out (values_of (members (m ∷ ms)) cur row)
one_member out (named n e) ms cur row = refl
one_member out (computed n e) ms cur row = refl
