-- What an item says of a document.
use Rattle.std.proofs.Common.{◌≡◌, ◌∙◌, ℕ, List, Bool, true, false, cond, not, Option, Some, None, refl, sym, ap, ap₂}
use Rattle.std.specs.Prelude.{unwrap_or}
use Rattle.std.proofs.lemmas.Bool.{not-true}
use Rattle.std.proofs.lemmas.Cmp.{eq_by_cmp_equiv}
use Rattle.aql_value.specs.Datum.{Datum, null}
use Rattle.aql_value.specs.Contents.{at_name}
use Rattle.aql_value.specs.Truth.{truth}
use Rattle.aql_value.specs.laws.Strict.{compare_total}
use Rattle.aql_value.specs.declared.operators.BinOp.{BinOp}
use Rattle.aql_value.specs.declared.operators.BinOp.TheVariants.{Eq, Lt, Le, Gt, Ge}
use Rattle.aql_func.specs.Operators.{binary}
use Rattle.aql_tree.specs.declared.syntax.Ident.{Ident}
use Rattle.aql_tree.specs.Tree.{ExprTree, variable, access, chain, StepTrees, no_steps, name_then, LinkTrees, no_links, link_then}
use Rattle.aql_meaning.specs.AtRows.{value_of}
use Rattle.aql_meaning.specs.Row.{Row, bind, same_ident}
use Rattle.aql_meaning.specs.Uses.{uses, is_used}
use Rattle.aql_meaning.specs.Value.{steps_value}
use Rattle.aql_meaning.specs.laws.Agrees.{value_same}
use Rattle.aql_rewrite.specs.laws.Unused.{agree_unused}
use Rattle.aql_rules_filter.specs.laws.Filtered.{holds}
use Rattle.aql_rules_index.specs.Choice.{Item, lone_name, of_variable, attribute_of, is_bound, mirrored, make_item, where_apart, from_right, from_left, lone_link, item_of}
use Rattle.aql_rules_index.specs.Tests.{says}

-- ---- the side that does not use the document

value_still : (e : ExprTree) (x : Ident) (row : Row) (d : Datum) → not (is_used x (uses e)) ≡ true
    → value_of e (bind x row d) ≡ value_of e row
value_still e x row d h =
    sym (value_same e null row (bind x row d) (agree_unused (uses e) x row d (not-true _ h)))

-- ---- the side of the document

pub some_same : {X : Type 0} (a b : X) → Some a ≡ Some b → a ≡ b
some_same a b h = cc

pub picked : {X : Type 0} (b : Bool) (o : Option X) (v : X) → cond b o None ≡ Some v
    → (b ≡ true) × (o ≡ Some v)
picked true o v h = (refl, h)
picked false o v h = absurd (cc)

module _ (x : Ident) (row : Row) (d : Datum) where
  lone_is : (ss : StepTrees) (name : List ℕ) (v : Datum) → lone_name ss ≡ Some name
      → steps_value ss null (bind x row d) v ≡ at_name v name
  lone_is no_steps name v h = absurd (cc)
  lone_is (name_then n no_steps) name v h = ap (at_name v) (some_same n name h)
  lone_is ss name v h = absurd (cc)

  of_is : (e : ExprTree) (o : Option (List ℕ)) (name : List ℕ) → of_variable x e o ≡ Some name
      → (value_of e (bind x row d) ≡ d) × (o ≡ Some name)
  of_is (variable y) o name h =
      let k = picked (same_ident x y) o name h in
      (ap (λ b. unwrap_or (cond b (Some d) (row y)) null) k.0, k.1)
  of_is e o name h = absurd (cc)

  attribute_is : (e : ExprTree) (name : List ℕ) → attribute_of x e ≡ Some name
      → value_of e (bind x row d) ≡ at_name d name
  attribute_is (access e ss) name h =
      let k = of_is e (lone_name ss) name h in
      lone_is ss name (value_of e (bind x row d)) k.1 ∙ ap (λ v. at_name v name) k.0
  attribute_is e name h = absurd (cc)

  -- ---- both sides

  mirror_is : (op turned : BinOp) (a b : Datum) → mirrored op ≡ Some turned
      → truth (binary op a b) ≡ truth (binary turned b a)
  mirror_is Eq turned a b h =
      (eq_by_cmp_equiv compare_total).symm a b ∙ ap (λ o. truth (binary o b a)) (some_same Eq turned h)
  mirror_is Lt turned a b h = ap (λ o. truth (binary o b a)) (some_same Gt turned h)
  mirror_is Le turned a b h = ap (λ o. truth (binary o b a)) (some_same Ge turned h)
  mirror_is Gt turned a b h = ap (λ o. truth (binary o b a)) (some_same Lt turned h)
  mirror_is Ge turned a b h = ap (λ o. truth (binary o b a)) (some_same Le turned h)
  mirror_is op turned a b h = absurd (cc)

  right_is : (op : BinOp) (a b : ExprTree) (turned : Option BinOp) (o : Option (List ℕ)) (i : Item)
      → mirrored op ≡ turned → attribute_of x b ≡ o → from_right x a turned o ≡ Some i
      → truth (binary op (value_of a (bind x row d)) (value_of b (bind x row d))) ≡ says i row d
  right_is op a b None o i m e h = absurd (cc)
  right_is op a b (Some turned) None i m e h = absurd (cc)
  right_is op a b (Some turned) (Some name) i m e h =
      let k = picked (not (is_used x (uses a))) (Some (make_item a name turned)) i h in
      mirror_is op turned (value_of a (bind x row d)) (value_of b (bind x row d)) m
      ∙ ap₂ (λ u v. truth (binary turned u v)) (attribute_is b name e) (value_still a x row d k.0)
      ∙ ap (λ (j : Item). says j row d) (some_same (make_item a name turned) i k.1)

  left_is : (op : BinOp) (a b : ExprTree) (o : Option (List ℕ)) (i : Item) → attribute_of x a ≡ o
      → from_left x op a b o ≡ Some i
      → truth (binary op (value_of a (bind x row d)) (value_of b (bind x row d))) ≡ says i row d
  left_is op a b None i e h = right_is op a b (mirrored op) (attribute_of x b) i refl refl h
  left_is op a b (Some name) i e h =
      let k = picked (is_bound op) (where_apart x b (Some (make_item b name op))) i h in
      let m = picked (not (is_used x (uses b))) (Some (make_item b name op)) i k.1 in
      ap₂ (λ u v. truth (binary op u v)) (attribute_is a name e) (value_still b x row d m.0)
      ∙ ap (λ (j : Item). says j row d) (some_same (make_item b name op) i m.1)

  link_is : (a : ExprTree) (ls : LinkTrees) (i : Item) → lone_link x a ls ≡ Some i
      → holds (chain a ls) (bind x row d) ≡ says i row d
  link_is a no_links i h = absurd (cc)
  link_is a (link_then op b no_links) i h = left_is op a b (attribute_of x a) i refl h
  link_is a (link_then op b ls) i h = absurd (cc)

  -- an item that fits holds of a document beside a row as it says
  pub item_is : (e : ExprTree) (i : Item) → item_of x e ≡ Some i → holds e (bind x row d) ≡ says i row d
  item_is (chain a ls) i h = link_is a ls i h
  item_is e i h = absurd (cc)
