-- What holds of each application of a rule holds of the first place of an expression.
use Rattle.std.proofs.Common.{◌≡◌, ◌<◌, List, [], ◌∷◌, refl, ap, ◌∙◌, sym, subst, arith}
use Rattle.std.specs.List.{AllZip}
use Rattle.aql_tree.specs.Tree.{ExprTree, literal, variable, current, array_literal, object_literal, access}
use Rattle.aql_tree.specs.Tree.{function_call, unary_of, chain, array_comparison, ternary, range_of, subquery}
use Rattle.aql_meaning.specs.laws.Replaced.{all_map}
use Rattle.aql_rewrite.specs.Children.{children}
use Rattle.aql_rewrite.specs.OverChildren.{over_children}
use Rattle.aql_rewrite.specs.FirstInExpr.{FirstIn, in_child, at_whole}
use Rattle.aql_rewrite.specs.FirstInExpr.{FirstOf, first, later}
use Rattle.aql_rewrite.specs.Keeps.{Keeps}
use Rattle.aql_rewrite.specs.Size.{size, size_all}
use Rattle.aql_rewrite.specs.ExprView.{each_over}
use Rattle.aql_rewrite.specs.laws.Related.{each_related}
use Rattle.aql_rewrite.specs.laws.PartValues.{AllSame, parts_same}
use Rattle.aql_rewrite.specs.laws.PlainParts.{EachPlain, is_subquery, plain_parts, plain_whole}
use Rattle.aql_rewrite.specs.laws.PlainParts.{not_subquery}
use Rattle.aql_rewrite.specs.laws.PartCurrent.{NoCurrent, current_only}
use Rattle.aql_rewrite.specs.laws.PartVariables.{NoVariable, variables_only}
use Rattle.aql_rewrite.specs.laws.PartsBack.{new_parts, each_old}
use Rattle.aql_rewrite.specs.laws.PartSizes.{smaller_over}

pub keeps_itself : (e : ExprTree) → Keeps e e
keeps_itself e = record {
  plain = λ h. h;
  same_value = λ h cur row. refl;
  no_variable = λ x h. h;
  no_current = λ h. h;
}

each_plain : (es ps : List ExprTree) → AllZip Keeps es ps → EachPlain es → EachPlain ps
each_plain [] [] h k = tt
each_plain [] (p ∷ ps) h k = absurd h
each_plain (e ∷ es) [] h k = absurd h
each_plain (e ∷ es) (p ∷ ps) h k = (h.0.plain k.0, each_plain es ps h.1 k.1)

pub each_same : (es ps : List ExprTree) → AllZip Keeps es ps → EachPlain es → AllSame es ps
each_same [] [] h k = tt
each_same [] (p ∷ ps) h k = absurd h
each_same (e ∷ es) [] h k = absurd h
each_same (e ∷ es) (p ∷ ps) h k = (h.0.same_value k.0, each_same es ps h.1 k.1)

kind_kept : (e : ExprTree) (ps : List ExprTree) → is_subquery (over_children e ps) ≡ is_subquery e
kind_kept (literal v) ps = refl
kind_kept (variable x) ps = refl
kind_kept current ps = refl
kind_kept (array_literal es) ps = refl
kind_kept (object_literal ms) ps = refl
kind_kept (access e ss) ps = refl
kind_kept (function_call name es) ps = refl
kind_kept (unary_of op e) ps = refl
kind_kept (chain e ls) ps = refl
kind_kept (array_comparison a kind op b) ps = refl
kind_kept (ternary test middle other) ps = refl
kind_kept (range_of a b) ps = refl
kind_kept (subquery q) ps = refl

-- an expression over parts that keep the old ones
pub parts_keep : (e : ExprTree) (ps : List ExprTree) → AllZip Keeps (children e) ps
    → Keeps e (over_children e ps)
parts_keep e ps h = record {
  plain = λ k. plain_whole (over_children e ps) (kind_kept e ps ∙ not_subquery e k)
      (subst EachPlain (sym (new_parts Keeps e ps h)) (each_plain (children e) ps h (plain_parts e k)));
  same_value = λ k. parts_same e ps (each_same (children e) ps h (plain_parts e k));
  no_variable = λ x. variables_only x e ps
      (all_map Keeps (NoVariable x) (λ p q k. k.no_variable x) (children e) ps h);
  no_current = current_only e ps (all_map Keeps NoCurrent (λ p q k. k.no_current) (children e) ps h);
}

module _ (R : ExprTree → ExprTree → Type 0) where
  -- as many new parts as there were
  first_of_each : {es ds : List ExprTree} → FirstOf R es ds → each_over es ds ≡ ds
  first_of_each (first {d = d} {es = es} h) = ap (λ (xs : List ExprTree). d ∷ xs) (each_old es)
  first_of_each (later {e = e} n h) = ap (λ (xs : List ExprTree). e ∷ xs) (first_of_each h)

  module _ (law : (p q : ExprTree) → R p q → Keeps p q) where
    mutual
      pub first_in_keeps : {p q : ExprTree} → FirstIn R p q → Keeps p q
      first_in_keeps (in_child {e = e} {ps = ps} h) = parts_keep e ps (first_of_keeps h)
      first_in_keeps (at_whole {e = e} {q = q} n h) = law e q h

      pub first_of_keeps : {es ds : List ExprTree} → FirstOf R es ds → AllZip Keeps es ds
      first_of_keeps (first {es = es} h) = (first_in_keeps h, each_related Keeps keeps_itself es)
      first_of_keeps (later {e = e} n h) = (keeps_itself e, first_of_keeps h)

  module _ (law : (p q : ExprTree) → R p q → size q < size p) where
    mutual
      pub first_in_smaller : {p q : ExprTree} → FirstIn R p q → size q < size p
      first_in_smaller (in_child {e = e} {ps = ps} h) =
          smaller_over e ps (first_of_each h) (first_of_smaller h)
      first_in_smaller (at_whole {e = e} {q = q} n h) = law e q h

      pub first_of_smaller : {es ds : List ExprTree} → FirstOf R es ds → size_all ds < size_all es
      first_of_smaller (first h) = omega (arith, first_in_smaller h)
      first_of_smaller (later n h) = omega (arith, first_of_smaller h)
