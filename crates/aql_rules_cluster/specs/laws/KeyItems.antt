-- The expressions that a node gives for the shard keys have, at a row, the values of the shard keys of each
-- document that the node keeps for the row.
use Rattle.std.proofs.Common.{◌≡◌, ◌∙◌, ℕ, List, [], ◌∷◌, ◌++◌, map, true, true≢false, refl, ap, ap₂, sym}
use Rattle.std.specs.List.{AllByRecursion}
use Rattle.std.specs.Ordering.{is_eq}
use Rattle.std.specs.declared.cmp.Ordering.{Ordering}
use Rattle.std.specs.declared.cmp.Ordering.TheVariants.{Less, Equal, Greater}
use Rattle.std.proofs.lemmas.Bool.{and_parts}
use Rattle.aql_value.specs.Compare.{compare}
use Rattle.aql_value.specs.Contents.{at_name, same}
use Rattle.aql_value.specs.Datum.{Datum}
use Rattle.aql_value.specs.Truth.{truth}
use Rattle.aql_value.specs.laws.Alls.{all_append}
use Rattle.aql_value.specs.laws.Keyed.{same_from_equal}
use Rattle.aql_func.specs.Operators.{binary}
use Rattle.aql_tree.specs.declared.syntax.Ident.{Ident}
use Rattle.aql_tree.specs.Tree.{ExprTree, ExprTrees, no_exprs, expr_then, MaybeExpr, no_expr, one_expr}
use Rattle.aql_meaning.specs.AtRows.{value_of, keys_of, passes}
use Rattle.aql_meaning.specs.Documents.{Last, in_bounds, last_map}
use Rattle.aql_meaning.specs.Row.{Row, bind}
use Rattle.aql_plan.specs.declared.facts.Facts.{Facts}
use Rattle.aql_plan.specs.Facts.{attributes_in, keys_in}
use Rattle.aql_plan.specs.FirstPlan.{conjuncts}
use Rattle.aql_plan.specs.Plan.{Node, EnumerateCollection, Index}
use Rattle.aql_rules_filter.specs.laws.Joined.{parts_hold}
use Rattle.aql_rules_index.specs.Choice.{Item}
use Rattle.aql_rules_index.specs.Tests.{says}
use Rattle.aql_rules_index.specs.laws.Rules.{all_say}
use Rattle.aql_rules_cluster.specs.declared.key_items.Wanted.{Wanted}
use Rattle.aql_rules_cluster.specs.FragmentParts.{ReadsHere}
use Rattle.aql_rules_cluster.specs.KeyItems.{bound_items, filter_items, Wants, GivesKey, FirstFor, here, later, FirstForEach, GivesKeys}
use Rattle.aql_rules_cluster.specs.laws.SentRows.{keeps, KeepsByKeys}

-- equal values are the same one
same_is : (a b : Datum) → same a b ≡ true → a ≡ b
same_is a b h = equal (compare a b) refl h
  where
    equal : (o : Ordering) → compare a b ≡ o → is_eq o ≡ true → a ≡ b
    equal Equal e k = same_from_equal a b e
    equal Less e k = absurd (true≢false (sym k))
    equal Greater e k = absurd (true≢false (sym k))

module _ (row : Row) (d : Datum) where
  abbrev Holds : Item → Type 0
  Holds i = says i row d ≡ true

  -- ---- items

  module _ (W : ExprTree → Type 0) where
    one_says : (i : Item) (key : List ℕ) → GivesKey W key i → Holds i → value_of i.other row ≡ at_name d key
    one_says i key g h =
        let v = value_of i.other row in
        sym (same_is (at_name d i.name) v
        (sym (ap (λ o. truth (binary o (at_name d i.name) v)) g.equal) ∙ h))
        ∙ ap (at_name d) g.on_key

    first_says : (key : List ℕ) (is : List Item) (e : ExprTree) → FirstFor W key is e
        → AllByRecursion Holds is → value_of e row ≡ at_name d key
    first_says key _ _ (here {i = i} g) h = one_says i key g h.0
    first_says key _ _ (later {is = is} {e = e} n f) h = first_says key is e f h.1

    each_says : (is : List Item) (keys : List (List ℕ)) (es : ExprTrees) → FirstForEach W is keys es
        → AllByRecursion Holds is → keys_of es row ≡ map (at_name d) keys
    each_says is [] no_exprs f h = refl
    each_says is [] (expr_then e es) f h = absurd f
    each_says is (key ∷ keys) no_exprs f h = absurd f
    each_says is (key ∷ keys) (expr_then e es) f h =
        ap₂ (λ v vs. v ∷ vs) (first_says key is e f.0 h) (each_says is keys es f.1 h)

  -- ---- what holds of a document that is kept

  bounds_say : (names : List (List ℕ)) (equal : ExprTrees) (last : Last Datum)
      → in_bounds names (keys_of equal row) last d ≡ true → AllByRecursion Holds (bound_items names equal)
  bounds_say [] equal last h = tt
  bounds_say (name ∷ names) no_exprs last h = tt
  bounds_say (name ∷ names) (expr_then e equal) last h =
      let k = and_parts (same (at_name d name) (value_of e row))
      (in_bounds names (keys_of equal row) last d) h in
      (k.0, bounds_say names equal last k.1)

  filter_says : (x : Ident) (filter : MaybeExpr) → passes filter (bind x row d) ≡ true
      → AllByRecursion Holds (filter_items x filter)
  filter_says x no_expr h = tt
  filter_says x (one_expr c) h = all_say x row d (conjuncts c) (parts_hold (bind x row d) c ∙ h)

  kept_says : (facts : Facts) (wanted : Wanted) (n : Node) (coll : ℕ) (es : ExprTrees) → ReadsHere coll n
      → GivesKeys facts wanted n es → keeps facts n row d ≡ true
      → keys_of es row ≡ map (at_name d) (keys_in facts coll)
  kept_says facts wanted (EnumerateCollection x) coll es reads given h =
      each_says (Wants wanted x.var) (filter_items x.var x.filter) (keys_in facts x.coll) es given
      (filter_says x.var x.filter h)
      ∙ ap (λ c. map (at_name d) (keys_in facts c)) reads.0
  kept_says facts wanted (Index x index equal last ordered) coll es reads given h =
      let names = attributes_in facts x.coll index in
      let bounds = bound_items names equal in
      let is = filter_items x.var x.filter in
      let at_last = last_map (λ e. value_of e row) last in
      let k = and_parts (in_bounds names (keys_of equal row) at_last d)
      (passes x.filter (bind x.var row d)) h in
      each_says (Wants wanted x.var) (bounds ++ is) (keys_in facts x.coll) es given
      (all_append Holds bounds is (bounds_say names equal at_last k.0) (filter_says x.var x.filter k.1))
      ∙ ap (λ c. map (at_name d) (keys_in facts c)) reads.0
  kept_says facts wanted n coll es reads given h = absurd reads

pub keys_given : (facts : Facts) (wanted : Wanted) (n : Node) (coll : ℕ) (es : ExprTrees) → ReadsHere coll n
    → GivesKeys facts wanted n es → KeepsByKeys facts coll n es
keys_given facts wanted n coll es reads given row d h = kept_says row d facts wanted n coll es reads given h
