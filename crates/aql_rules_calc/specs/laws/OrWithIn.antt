-- What replace-or-with-in shows of itself.
use Rattle.std.proofs.Common.{◌≡◌, ◌∙◌, inl, inr, ◌+◌, ◌<◌, ◌≤◌, List, [], ◌∷◌, ◌++◌, map, Bool, true, false}
use Rattle.std.proofs.Common.{true≢false, cond, refl, ap, sym, subst, arith}
use Rattle.std.specs.Prelude.{◌||◌, ℕ}
use Rattle.std.specs.List.{list_any}
use Rattle.std.proofs.lemmas.Bool.{or_cases, or_left, or_right}
use Rattle.std.proofs.lemmas.List.Folds.{list_any-append}
use Rattle.aql_value.specs.Datum.{Datum, boolean}
use Rattle.aql_value.specs.Contents.{list, elements, same, is_in}
use Rattle.aql_value.specs.laws.Lists.{datum_list-array_of}
use Rattle.aql_value.specs.declared.operators.BinOp.TheVariants.{Or, Eq, IsIn}
use Rattle.aql_tree.specs.Tree.{ExprTree, array_literal, chain, ExprTrees, no_exprs, expr_then, LinkTrees}
use Rattle.aql_tree.specs.Tree.{no_links, link_then}
use Rattle.aql_tree.specs.View.{trees}
use Rattle.aql_meaning.specs.Row.{Row}
use Rattle.aql_meaning.specs.Value.{value, values, links_value}
use Rattle.aql_meaning.specs.Plain.{IsPlain, AllPlain}
use Rattle.aql_rewrite.specs.Keeps.{uses_variable, uses_current, Keeps}
use Rattle.aql_rewrite.specs.Children.{list_children, link_children}
use Rattle.aql_rewrite.specs.Size.{size, list_size, size_all}
use Rattle.aql_rewrite.specs.laws.Constants.{constant_plain}
use Rattle.aql_rewrite.specs.laws.PartSizes.{size_split}
use Rattle.aql_rules_calc.specs.laws.PartTests.{chain_variables, list_variables, chain_current}
use Rattle.aql_rules_calc.specs.laws.PartTests.{list_with_current}
use Rattle.aql_rules_calc.specs.ReplaceOrWithIn.{each_or, is_or_chain, operation, Compares, equal_to}
use Rattle.aql_rules_calc.specs.ReplaceOrWithIn.{one_of, AllCompare, no_more, compares_then, Replaces}
use Rattle.aql_rules_calc.specs.ReplaceOrWithIn.{by_in}

-- ---- lists of expressions

pub listed : (ks : List ExprTree) → list_children (trees ks) ≡ ks
listed [] = refl
listed (k ∷ ks) = ap (λ (es : List ExprTree). k ∷ es) (listed ks)

trees_back : (es : ExprTrees) → trees (list_children es) ≡ es
trees_back no_exprs = refl
trees_back (expr_then e es) = ap (expr_then e) (trees_back es)

-- ---- the value is the same

or_false : (b : Bool) → b ≡ (b || false)
or_false true = refl
or_false false = refl

or_or : (a b c : Bool) → ((a || b) || c) ≡ (a || (b || c))
or_or true b c = refl
or_or false b c = refl

module _ (cur : Datum) (row : Row) where
  abbrev at : List ExprTree → List Datum
  at es = map (λ e. value e cur row) es

  values_at : (es : ExprTrees) → values es cur row ≡ at (list_children es)
  values_at no_exprs = refl
  values_at (expr_then e es) = ap (λ (vs : List Datum). value e cur row ∷ vs) (values_at es)

  in_list : (es : ExprTrees) (v : Datum)
      → is_in (elements (list (values es cur row))) v ≡ is_in (at (list_children es)) v
  in_list es v = ap (λ (vs : List Datum). is_in vs v) (datum_list-array_of (values es cur row) ∙ values_at es)

  both_in : (xs ys : List ExprTree) (v : Datum)
      → is_in (at (xs ++ ys)) v ≡ (is_in (at xs) v || is_in (at ys) v)
  both_in [] ys v = refl
  both_in (x ∷ xs) ys v = ap (λ b. same v (value x cur row) || b) (both_in xs ys v)
      ∙ sym (or_or (same v (value x cur row)) (is_in (at xs) v) (is_in (at ys) v))

  or_values : (a b : Bool) → cond a (boolean a) (boolean b) ≡ boolean (a || b)
  or_values true b = refl
  or_values false b = refl

  module _ (e : ExprTree) where
    part_value : (d : ExprTree) (ks : List ExprTree) → Compares e d ks
        → value d cur row ≡ boolean (is_in (at ks) (value e cur row))
    part_value _ _ (equal_to {k = k} p c) = ap boolean (or_false (same (value e cur row) (value k cur row)))
    part_value _ _ (one_of {k = k} {ks = ks} p c) = ap boolean (in_list (expr_then k ks) (value e cur row))

    links_in : (ls : LinkTrees) (ks : List ExprTree) → each_or ls ≡ true → AllCompare e (link_children ls) ks
        → (a : Bool) → links_value ls cur row (boolean a) ≡ boolean (a || is_in (at ks) (value e cur row))
    links_in no_links _ o no_more a = ap boolean (or_false a)
    links_in (link_then Or d ls) _ o (compares_then {ks = ks} {js = js} h k) a =
        let v = value e cur row in
        let b = is_in (at ks) v in
        ap (λ (w : Datum). links_value ls cur row (cond a (boolean a) w)) (part_value d ks h)
        ∙ ap (links_value ls cur row) (or_values a b)
        ∙ links_in ls js o k (a || b)
        ∙ ap boolean (or_or a b (is_in (at js) v) ∙ ap (λ (c : Bool). a || c) (sym (both_in ks js v)))
    links_in (link_then op d ls) ks o h a = absurd (true≢false (sym o))

    whole_in : (d : ExprTree) (ls : LinkTrees) (ks : List ExprTree) → each_or ls ≡ true
        → AllCompare e (d ∷ link_children ls) ks
        → links_value ls cur row (value d cur row) ≡ boolean (is_in (at ks) (value e cur row))
    whole_in d ls _ o (compares_then {ks = ks} {js = js} h k) =
        let v = value e cur row in
        ap (links_value ls cur row) (part_value d ks h) ∙ links_in ls js o k (is_in (at ks) v)
        ∙ ap boolean (sym (both_in ks js v))

    in_value : (ks : List ExprTree)
        → value (operation e IsIn (array_literal (trees ks))) cur row
        ≡ boolean (is_in (at ks) (value e cur row))
    in_value ks = ap boolean (in_list (trees ks) (value e cur row)
        ∙ ap (λ (es : List ExprTree). is_in (at es) (value e cur row)) (listed ks))

some_or : (ls : LinkTrees) → is_or_chain ls ≡ true → each_or ls ≡ true
some_or no_links h = absurd (true≢false (sym h))
some_or (link_then op e ls) h = h

-- ---- nothing comes in that was not there

-- a test that holds of an expression where it holds of a part
module _ (e : ExprTree) (T : ExprTree → Bool)
    (chains : (d : ExprTree) (ls : LinkTrees) → T (chain d ls) ≡ list_any T (d ∷ link_children ls))
    (lists : (es : ExprTrees) → T (array_literal es) ≡ list_any T (list_children es)) where
  part_there : (d : ExprTree) (ks : List ExprTree) → Compares e d ks → (T e || list_any T ks) ≡ true
      → T d ≡ true
  part_there _ _ (equal_to {k = k} p c) h = chains e (link_then Eq k no_links) ∙ h
  part_there _ _ (one_of {k = k} {ks = ks} p c) h =
      let es = expr_then k ks in
      chains e (link_then IsIn (array_literal es) no_links)
      ∙ ap (λ (b : Bool). T e || b) (sym (or_false (T (array_literal es))) ∙ lists es) ∙ h

  each_there : (ds ks : List ExprTree) → AllCompare e ds ks → list_any T ks ≡ true → list_any T ds ≡ true
  each_there _ _ no_more h = h
  each_there _ _ (compares_then {d = d} {ds = ds} {ks = ks} {js = js} k l) h =
      elim (or_cases (list_any T ks) (list_any T js) (sym (list_any-append T ks js) ∙ h)) [
        | inl g ↦ or_left (T d) (list_any T ds) (part_there d ks k (or_right (T e) (list_any T ks) g))
        | inr g ↦ or_right (T d) (list_any T ds) (each_there ds js l g)
      ]

  first_there : (d : ExprTree) (ds ks : List ExprTree) → AllCompare e (d ∷ ds) ks → T e ≡ true → T d ≡ true
  first_there d ds _ (compares_then {ks = ks} k l) h = part_there d ks k (or_left (T e) (list_any T ks) h)

  whole_there : (d : ExprTree) (ls : LinkTrees) (ks : List ExprTree) → AllCompare e (d ∷ link_children ls) ks
      → T (operation e IsIn (array_literal (trees ks))) ≡ true → T (chain d ls) ≡ true
  whole_there d ls ks k h =
      let array = array_literal (trees ks) in
      chains d ls
      ∙ elim (or_cases (T e) (T array || false) (sym (chains e (link_then IsIn array no_links)) ∙ h)) [
        | inl g ↦ or_left (T d) (list_any T (link_children ls)) (first_there d (link_children ls) ks k g)
        | inr g ↦ each_there (d ∷ link_children ls) ks k
            (ap (list_any T) (sym (listed ks)) ∙ sym (lists (trees ks)) ∙ or_false (T array) ∙ g)
      ]

-- ---- no subquery comes in

plain_join : (ks js : List ExprTree) → AllPlain (trees ks) → AllPlain (trees js) → AllPlain (trees (ks ++ js))
plain_join [] js h k = k
plain_join (d ∷ ks) js h k = (h.0, plain_join ks js h.1 k)

part_plain : {e d : ExprTree} {ks : List ExprTree} → Compares e d ks → IsPlain e × AllPlain (trees ks)
part_plain (equal_to p c) = (p, (constant_plain c, tt))
part_plain (one_of {k = k} {ks = ks} p c) =
    (p, subst (λ (es : ExprTrees). AllPlain es) (sym (trees_back (expr_then k ks))) (constant_plain c))

all_plain : {e : ExprTree} {ds ks : List ExprTree} → AllCompare e ds ks → AllPlain (trees ks)
all_plain no_more = tt
all_plain (compares_then {ks = ks} {js = js} h k) = plain_join ks js (part_plain h).1 (all_plain k)

left_plain : {e d : ExprTree} {ds ks : List ExprTree} → AllCompare e (d ∷ ds) ks → IsPlain e
left_plain (compares_then h k) = (part_plain h).0

pub replaces_keep : (p q : ExprTree) → Replaces p q → Keeps p q
replaces_keep _ _ (by_in {e = e} {d = d} {ls = ls} {ks = ks} o c h) = record {
  plain = λ g. (left_plain h, (all_plain h, tt));
  same_value = λ g cur row. in_value cur row e ks ∙ sym (whole_in cur row e d ls ks (some_or ls o) h);
  no_variable = λ x. whole_there e (uses_variable x) (chain_variables x) (list_variables x) d ls ks h;
  no_current = whole_there e uses_current chain_current list_with_current d ls ks h;
}

-- ---- the new one is smaller

abbrev sizes : List ExprTree → ℕ
sizes ks = list_size (trees ks)

sizes_join : (ks js : List ExprTree) → sizes (ks ++ js) ≡ sizes ks + sizes js
sizes_join [] js = omega arith
sizes_join (k ∷ ks) js = let h = sizes_join ks js in omega (arith, h)

part_size : (e d : ExprTree) (ks : List ExprTree) → Compares e d ks → size e + (sizes ks + 2) ≤ size d
part_size e _ _ (equal_to p c) = omega arith
part_size e _ _ (one_of {k = k} {ks = ks} p c) =
    let h = ap list_size (trees_back (expr_then k ks)) in omega (arith, h)

parts_size : (e : ExprTree) (ds ks : List ExprTree) → AllCompare e ds ks → sizes ks ≤ size_all ds
parts_size e _ _ no_more = omega arith
parts_size e _ _ (compares_then {d = d} {ds = ds} {ks = ks} {js = js} k l) =
    let h = part_size e d ks k in
    let g = parts_size e ds js l in
    let j = sizes_join ks js in
    omega (arith, h, g, j)

two_parts : (e d f : ExprTree) (ds ks : List ExprTree) → AllCompare e (d ∷ f ∷ ds) ks
    → size e + (sizes ks + 4) ≤ size_all (d ∷ f ∷ ds)
two_parts e d f ds _ (compares_then {ks = ks} k (compares_then {ks = hs} {js = js} l m)) =
    let h = part_size e d ks k in
    let g = part_size e f hs l in
    let a = parts_size e ds js m in
    let i = sizes_join ks (hs ++ js) in
    let j = sizes_join hs js in
    omega (arith, h, g, a, i, j)

pub replaces_fall : (p q : ExprTree) → Replaces p q → size q < size p
replaces_fall _ _ (by_in {e = e} {d = d} {ls = ls} {ks = ks} o c h) = by ls o h
  where
    by : (ls : LinkTrees) → is_or_chain ls ≡ true → AllCompare e (d ∷ link_children ls) ks
        → size (operation e IsIn (array_literal (trees ks))) < size (chain d ls)
    by no_links o h = absurd (true≢false (sym o))
    by (link_then op f ls) o h =
        let k = two_parts e d f (link_children ls) ks h in
        let s = size_split (chain d (link_then op f ls)) in
        omega (arith, k, s)
