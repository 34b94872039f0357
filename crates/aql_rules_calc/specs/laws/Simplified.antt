-- What simplify-conditions shows of itself.
use Rattle.std.proofs.Common.{◌≡◌, ◌∙◌, inl, inr, ℕ, ◌+◌, ◌<◌, ◌≤◌, List, [], Bool, true, false}
use Rattle.std.proofs.Common.{true≢false, cond, refl, ap, sym, arith}
use Rattle.std.specs.Prelude.{Option, Some, ◌||◌, unwrap_or, bytes_eq}
use Rattle.std.specs.List.{list_any}
use Rattle.std.proofs.lemmas.Bool.{or_cases, or_left, or_right}
use Rattle.aql_value.specs.Datum.{Datum, null}
use Rattle.aql_value.specs.Contents.{at_name}
use Rattle.aql_value.specs.Attributes.{with_attribute, attribute}
use Rattle.aql_value.specs.laws.Lists.{fields_list-object_of}
use Rattle.aql_func.specs.Objects.{with_all}
use Rattle.aql_tree.specs.Tree.{ExprTree, literal, variable, current, array_literal, object_literal, access}
use Rattle.aql_tree.specs.Tree.{function_call, unary_of, chain, array_comparison, ternary, range_of, subquery}
use Rattle.aql_tree.specs.Tree.{StepTrees, no_steps, name_then, at_then, inline_then, MemberTrees, no_members}
use Rattle.aql_tree.specs.Tree.{named_then, computed_then}
use Rattle.aql_meaning.specs.Row.{Row, empty_row}
use Rattle.aql_meaning.specs.Value.{value, members, steps_value}
use Rattle.aql_meaning.specs.Expressions.{object_value}
use Rattle.aql_meaning.specs.Plain.{IsPlain, MembersPlain, StepsPlain}
use Rattle.aql_rewrite.specs.Keeps.{uses_variable, uses_current, steps_current, Keeps}
use Rattle.aql_rewrite.specs.Children.{member_children, step_children}
use Rattle.aql_rewrite.specs.Size.{size, members_size, steps_size}
use Rattle.aql_rewrite.specs.laws.Constants.{constant_value as one_value}
use Rattle.aql_rules_calc.specs.SimplifyConditions.{is_literal, all_named, last_of, with_steps}
use Rattle.aql_rules_calc.specs.SimplifyConditions.{Simplifies, to_literal, to_member}
use Rattle.aql_rules_calc.specs.laws.AttributesSet.{set_name}
use Rattle.aql_rules_calc.specs.laws.PartTests.{object_variables, access_variables, object_current}

-- ---- the value is the same

module _ (cur : Datum) (row : Row) (name : List ℕ) where
  last_value : (ms : MemberTrees) → all_named ms ≡ true → (before : ExprTree) (fs : List (List ℕ × Datum))
      → unwrap_or (attribute name fs) null ≡ value before cur row
      → unwrap_or (attribute name (with_all fs (members ms cur row))) null
      ≡ value (last_of name ms before) cur row
  last_value no_members o before fs h = h
  last_value (named_then n e ms) o before fs h =
      last_value ms o (cond (bytes_eq name n) e before) (with_attribute n (value e cur row) fs)
      (ap (λ (a : Option Datum). unwrap_or a null) (set_name name n (value e cur row) fs)
      ∙ by (bytes_eq name n))
    where
      by : (b : Bool)
          → unwrap_or (cond b (Some (value e cur row)) (attribute name fs)) null
          ≡ value (cond b e before) cur row
      by true = refl
      by false = h
  last_value (computed_then n e ms) o before fs h = absurd (true≢false (sym o))

  member_value : (ms : MemberTrees) → all_named ms ≡ true
      → at_name (object_value (members ms cur row)) name ≡ value (last_of name ms (literal null)) cur row
  member_value ms o =
      ap (λ (fs : List (List ℕ × Datum)). unwrap_or (attribute name fs) null)
      (fields_list-object_of (with_all [] (members ms cur row)))
      ∙ last_value ms o (literal null) [] refl

steps_after : (e : ExprTree) (ss : StepTrees) (cur : Datum) (row : Row)
    → value (with_steps e ss) cur row ≡ steps_value ss cur row (value e cur row)
steps_after e no_steps cur row = refl
steps_after e (name_then name ss) cur row = refl
steps_after e (at_then i ss) cur row = refl
steps_after e (inline_then filter gives ss) cur row = refl

-- ---- nothing comes in that was not there

-- a test that holds of an expression where it holds of a part or of a step
module _ (T : ExprTree → Bool) (G : StepTrees → Bool)
    (accesses : (e : ExprTree) (ss : StepTrees) → T (access e ss) ≡ (T e || G ss))
    (objects : (ms : MemberTrees) → T (object_literal ms) ≡ list_any T (member_children ms)) where
  with_steps_there : (e : ExprTree) (ss : StepTrees) → T (with_steps e ss) ≡ true → (T e || G ss) ≡ true
  with_steps_there e no_steps h = or_left (T e) (G no_steps) h
  with_steps_there e (name_then name ss) h = sym (accesses e (name_then name ss)) ∙ h
  with_steps_there e (at_then i ss) h = sym (accesses e (at_then i ss)) ∙ h
  with_steps_there e (inline_then filter gives ss) h = sym (accesses e (inline_then filter gives ss)) ∙ h

  last_there : (name : List ℕ) (ms : MemberTrees) (before : ExprTree) → T (last_of name ms before) ≡ true
      → (T before || list_any T (member_children ms)) ≡ true
  last_there name no_members before h = or_left (T before) false h
  last_there name (named_then n e ms) before h =
      by (bytes_eq name n) (last_there name ms (cond (bytes_eq name n) e before) h)
    where
      rest : Bool
      rest = list_any T (member_children ms)

      by : (b : Bool) → (T (cond b e before) || rest) ≡ true → (T before || (T e || rest)) ≡ true
      by true h = or_right (T before) (T e || rest) h
      by false h = elim (or_cases (T before) rest h) [
        | inl g ↦ or_left (T before) (T e || rest) g
        | inr g ↦ or_right (T before) (T e || rest) (or_right (T e) rest g)
      ]
  last_there name (computed_then n e ms) before h =
      let rest = list_any T (member_children ms) in
      elim (or_cases (T before) rest (last_there name ms before h)) [
        | inl g ↦ or_left (T before) (T n || (T e || rest)) g
        | inr g ↦ or_right (T before) (T n || (T e || rest))
            (or_right (T n) (T e || rest) (or_right (T e) rest g))
      ]

  member_there : (name : List ℕ) (ms : MemberTrees) (ss : StepTrees) → T (literal null) ≡ false
      → G (name_then name ss) ≡ G ss → T (with_steps (last_of name ms (literal null)) ss) ≡ true
      → T (access (object_literal ms) (name_then name ss)) ≡ true
  member_there name ms ss empty same h =
      let e = last_of name ms (literal null) in
      accesses (object_literal ms) (name_then name ss)
      ∙ elim (or_cases (T e) (G ss) (with_steps_there e ss h)) [
        | inl g ↦ or_left (T (object_literal ms)) (G (name_then name ss)) (objects ms
            ∙ ap (λ (b : Bool). b || list_any T (member_children ms)) (sym empty)
            ∙ last_there name ms (literal null) g)
        | inr g ↦ or_right (T (object_literal ms)) (G (name_then name ss)) (same ∙ g)
      ]

-- ---- no subquery comes in

last_plain : (name : List ℕ) (ms : MemberTrees) (before : ExprTree) → MembersPlain ms → IsPlain before
    → IsPlain (last_of name ms before)
last_plain name no_members before h k = k
last_plain name (named_then n e ms) before h k =
    last_plain name ms (cond (bytes_eq name n) e before) h.1 (by (bytes_eq name n))
  where
    by : (b : Bool) → IsPlain (cond b e before)
    by true = h.0
    by false = k
last_plain name (computed_then n e ms) before h k = last_plain name ms before h.2 k

plain_with_steps : (e : ExprTree) (ss : StepTrees) → IsPlain e → StepsPlain ss → IsPlain (with_steps e ss)
plain_with_steps e no_steps h k = h
plain_with_steps e (name_then name ss) h k = (h, k)
plain_with_steps e (at_then i ss) h k = (h, k)
plain_with_steps e (inline_then filter gives ss) h k = (h, k)

pub simplifies_keep : (p q : ExprTree) → Simplifies p q → Keeps p q
simplifies_keep _ _ (to_literal {e = e} h) = record {
  plain = λ g. tt;
  same_value = λ g cur row. one_value h.1 null cur empty_row row;
  no_variable = λ x g. absurd (true≢false (sym g));
  no_current = λ g. absurd (true≢false (sym g));
}
simplifies_keep _ _ (to_member {ms = ms} {name = name} {ss = ss} o c) = record {
  plain = λ g. plain_with_steps (last_of name ms (literal null)) ss
      (last_plain name ms (literal null) g.0 tt) g.1;
  same_value = λ g cur row. steps_after (last_of name ms (literal null)) ss cur row
      ∙ ap (steps_value ss cur row) (sym (member_value cur row name ms o));
  no_variable = λ x. member_there (uses_variable x) (λ ss. list_any (uses_variable x) (step_children ss))
      (access_variables x) (object_variables x) name ms ss refl refl;
  no_current = member_there uses_current steps_current (λ e ss. refl) object_current name ms ss refl refl;
}

-- ---- the new one is smaller

above_one : (e : ExprTree) → is_literal e ≡ false → 1 < size e
above_one (literal v) h = absurd (true≢false h)
above_one (variable x) h = omega arith
above_one current h = omega arith
above_one (array_literal es) h = omega arith
above_one (object_literal ms) h = omega arith
above_one (access e ss) h = omega arith
above_one (function_call name es) h = omega arith
above_one (unary_of op e) h = omega arith
above_one (chain e ls) h = omega arith
above_one (array_comparison a kind op b) h = omega arith
above_one (ternary test first other) h = omega arith
above_one (range_of a b) h = omega arith
above_one (subquery q) h = omega arith

last_size : (name : List ℕ) (ms : MemberTrees) (before : ExprTree)
    → size (last_of name ms before) ≤ members_size ms + size before
last_size name no_members before = omega arith
last_size name (named_then n e ms) before =
    by (bytes_eq name n) (last_size name ms (cond (bytes_eq name n) e before))
  where
    by : (b : Bool) → size (last_of name ms (cond (bytes_eq name n) e before))
        ≤ members_size ms + size (cond b e before)
        → size (last_of name ms (cond (bytes_eq name n) e before))
        ≤ (size e + members_size ms) + size before
    by true h = omega (arith, h)
    by false h = omega (arith, h)
last_size name (computed_then n e ms) before = let h = last_size name ms before in omega (arith, h)

with_steps_size : (e : ExprTree) (ss : StepTrees) → size (with_steps e ss) ≤ size e + (steps_size ss + 2)
with_steps_size e no_steps = omega arith
with_steps_size e (name_then name ss) = omega arith
with_steps_size e (at_then i ss) = omega arith
with_steps_size e (inline_then filter gives ss) = omega arith

pub simplifies_fall : (p q : ExprTree) → Simplifies p q → size q < size p
simplifies_fall _ _ (to_literal {e = e} h) = above_one e h.0
simplifies_fall _ _ (to_member {ms = ms} {name = name} {ss = ss} o c) =
    let h = last_size name ms (literal null) in
    let k = with_steps_size (last_of name ms (literal null)) ss in
    omega (arith, h, k)
