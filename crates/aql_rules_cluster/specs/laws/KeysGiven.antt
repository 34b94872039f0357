-- The expressions that a node gives for the shard keys are as many as the keys, hold no subquery, and use
-- only variables that are there below the node.
use Rattle.std.proofs.Common.{◌≡◌, ◌∙◌, ℕ, List, [], ◌∷◌, ◌++◌, length, true, false, refl, ap, sym, subst, arith}
use Rattle.std.specs.Prelude.{◌||◌}
use Rattle.std.specs.List.{AllByRecursion}
use Rattle.std.proofs.lemmas.Bool.{or_parts}
use Rattle.aql_value.specs.laws.Alls.{all_append, all_more}
use Rattle.aql_tree.specs.declared.syntax.Ident.{Ident}
use Rattle.aql_tree.specs.Tree.{ExprTree, ExprTrees, no_exprs, expr_then, MaybeExpr, no_expr, one_expr}
use Rattle.aql_meaning.specs.Plain.{IsPlain, AllPlain, MaybePlain}
use Rattle.aql_meaning.specs.Row.{same_ident}
use Rattle.aql_meaning.specs.Uses.{Uses, used_variable, uses, all_uses, maybe_uses, is_used}
use Rattle.aql_meaning.specs.laws.Idents.{same_swapped}
use Rattle.aql_plan.specs.declared.facts.Facts.{Facts}
use Rattle.aql_plan.specs.Facts.{keys_in, attributes_in}
use Rattle.aql_plan.specs.FirstPlan.{conjuncts}
use Rattle.aql_plan.specs.Fits.{exprs_in, Fits}
use Rattle.aql_plan.specs.Needs.{sets, last_uses}
use Rattle.aql_plan.specs.Plan.{Node, EnumerateCollection, Index}
use Rattle.aql_plan.specs.Variables.{are_among, input_uses, filter_uses}
use Rattle.aql_rewrite.specs.laws.Among.{has, both, and_true, among_join, among_split}
use Rattle.aql_rules_filter.specs.laws.Joined.{split_plain, parts_plain, IsFound, split_found, parts_found}
use Rattle.aql_rules_index.specs.Choice.{Item, items_of}
use Rattle.aql_rules_index.specs.laws.BoundsFit.{HasOther, items_have}
use Rattle.aql_rules_cluster.specs.declared.key_items.Wanted.TheVariants.{Apart}
use Rattle.aql_rules_cluster.specs.FragmentParts.{ReadsHere}
use Rattle.aql_rules_cluster.specs.KeyItems.{bound_items, filter_items, FirstFor, here, later, FirstForEach, GivesKeys}

-- ---- of items that have something, the expressions that are taken have it

module _ (Q : ExprTree → Type 0) where
  abbrev pub EachIs : ExprTrees → Type 0
  EachIs no_exprs = Unit {0}
  EachIs (expr_then e es) = Q e × EachIs es

  abbrev HaveIt : List Item → Type 0
  HaveIt is = AllByRecursion (λ (i : Item). Q i.other) is

  first_is : (W : ExprTree → Type 0) (key : List ℕ) (is : List Item) (e : ExprTree) → FirstFor W key is e
      → HaveIt is → Q e
  first_is W key _ _ (here g) h = h.0
  first_is W key _ _ (later {is = is} {e = e} n f) h = first_is W key is e f h.1

  each_is : (W : ExprTree → Type 0) (is : List Item) (keys : List (List ℕ)) (es : ExprTrees)
      → FirstForEach W is keys es → HaveIt is → EachIs es
  each_is W is [] no_exprs f h = tt
  each_is W is [] (expr_then e es) f h = absurd f
  each_is W is (key ∷ keys) no_exprs f h = absurd f
  each_is W is (key ∷ keys) (expr_then e es) f h = (first_is W key is e f.0 h, each_is W is keys es f.1 h)

  bounds_are : (names : List (List ℕ)) (equal : ExprTrees) → EachIs equal → HaveIt (bound_items names equal)
  bounds_are [] equal h = tt
  bounds_are (name ∷ names) no_exprs h = tt
  bounds_are (name ∷ names) (expr_then e es) h = (h.0, bounds_are names es h.1)

-- one for each key
as_many : (W : ExprTree → Type 0) (is : List Item) (keys : List (List ℕ)) (es : ExprTrees)
    → FirstForEach W is keys es → exprs_in es ≡ length keys
as_many W is [] no_exprs f = refl
as_many W is [] (expr_then e es) f = absurd f
as_many W is (key ∷ keys) no_exprs f = absurd f
as_many W is (key ∷ keys) (expr_then e es) f = omega (arith, as_many W is keys es f.1)

-- ---- no subquery

plain_each : (es : ExprTrees) → AllPlain es → EachIs IsPlain es
plain_each no_exprs h = tt
plain_each (expr_then e es) h = (h.0, plain_each es h.1)

each_plain : (es : ExprTrees) → EachIs IsPlain es → AllPlain es
each_plain no_exprs h = tt
each_plain (expr_then e es) h = (h.0, each_plain es h.1)

filter_plain : (x : Ident) (filter : MaybeExpr) → MaybePlain filter
    → AllByRecursion (λ (i : Item). IsPlain i.other) (filter_items x filter)
filter_plain x no_expr h = tt
filter_plain x (one_expr c) h =
    all_more (HasOther IsPlain split_plain x) (λ (i : Item). IsPlain i.other) (λ i k. k.0)
    (items_of x (conjuncts c)) (items_have IsPlain split_plain x (conjuncts c) (parts_plain c h))

-- ---- variables that are there

module _ (xs : List Ident) where
  found_each : (es : ExprTrees) → are_among (all_uses es) xs ≡ true → EachIs (IsFound xs) es
  found_each no_exprs h = tt
  found_each (expr_then e es) h =
      let k = among_split (uses e) (all_uses es) xs h in (k.0, found_each es k.1)

  each_found : (es : ExprTrees) → EachIs (IsFound xs) es → are_among (all_uses es) xs ≡ true
  each_found no_exprs h = refl
  each_found (expr_then e es) h = among_join (uses e) (all_uses es) xs h.0 (each_found es h.1)

  -- without one that is not used
  among_others : (us : Uses) (x : Ident) → are_among us (x ∷ xs) ≡ true → is_used x us ≡ false
      → are_among us xs ≡ true
  among_others [] x h k = refl
  among_others (u ∷ us) x h k =
      let y = used_variable u in
      let l = both (has y (x ∷ xs)) (are_among us (x ∷ xs)) h in
      let m = or_parts (same_ident x y) (is_used x us) k in
      and_true (has y xs) (are_among us xs)
      (sym (ap (λ b. b || has y xs) (same_swapped x y m.0)) ∙ l.0) (among_others us x l.1 m.1)

  filter_found : (x : Ident) (filter : MaybeExpr) → are_among (maybe_uses filter) (x ∷ xs) ≡ true
      → AllByRecursion (λ (i : Item). IsFound xs i.other) (filter_items x filter)
  filter_found x no_expr h = tt
  filter_found x (one_expr c) h =
      let There = IsFound (x ∷ xs) in
      all_more (HasOther There (split_found (x ∷ xs)) x) (λ (i : Item). IsFound xs i.other)
      (λ i k. among_others (uses i.other) x k.0 k.1) (items_of x (conjuncts c))
      (items_have There (split_found (x ∷ xs)) x (conjuncts c) (parts_found (x ∷ xs) c h))

-- ---- nodes

-- as many as the shard keys of the collection
pub given_many : (facts : Facts) (n : Node) (coll : ℕ) (es : ExprTrees) → ReadsHere coll n
    → GivesKeys facts Apart n es → exprs_in es ≡ length (keys_in facts coll)
given_many facts (EnumerateCollection x) coll es reads given =
    subst (λ (c : ℕ). exprs_in es ≡ length (keys_in facts c)) reads.0
    (as_many _ (filter_items x.var x.filter) (keys_in facts x.coll) es given)
given_many facts (Index x index equal last ordered) coll es reads given =
    subst (λ (c : ℕ). exprs_in es ≡ length (keys_in facts c)) reads.0
    (as_many _ (bound_items (attributes_in facts x.coll index) equal ++ filter_items x.var x.filter)
    (keys_in facts x.coll) es given)
given_many facts n coll es reads given = absurd reads

pub given_plain : (facts : Facts) (n : Node) (es : ExprTrees) → Fits facts n → GivesKeys facts Apart n es
    → AllPlain es
given_plain facts (EnumerateCollection x) es fits given =
    each_plain es (each_is IsPlain _ (filter_items x.var x.filter) (keys_in facts x.coll) es given
    (filter_plain x.var x.filter fits.1))
given_plain facts (Index x index equal last ordered) es fits given =
    let names = attributes_in facts x.coll index in
    let bounds = bound_items names equal in
    let items = filter_items x.var x.filter in
    each_plain es (each_is IsPlain _ (bounds ++ items) (keys_in facts x.coll) es given
    (all_append (λ (i : Item). IsPlain i.other) bounds items
    (bounds_are IsPlain names equal (plain_each equal fits.2)) (filter_plain x.var x.filter fits.1)))
given_plain facts n es fits given = absurd given

-- where a node finds its variables, those of the expressions are there below it
pub given_found : (facts : Facts) (n : Node) (es : ExprTrees) (xs : List Ident)
    → are_among (input_uses n) xs ≡ true → are_among (filter_uses n) (sets n ++ xs) ≡ true
    → GivesKeys facts Apart n es → are_among (all_uses es) xs ≡ true
given_found facts (EnumerateCollection x) es xs input filter given =
    each_found xs es (each_is (IsFound xs) _ (filter_items x.var x.filter) (keys_in facts x.coll) es given
    (filter_found xs x.var x.filter filter))
given_found facts (Index x index equal last ordered) es xs input filter given =
    let names = attributes_in facts x.coll index in
    let bounds = bound_items names equal in
    let items = filter_items x.var x.filter in
    let used = among_split (all_uses equal) (last_uses last) xs input in
    each_found xs es (each_is (IsFound xs) _ (bounds ++ items) (keys_in facts x.coll) es given
    (all_append (λ (i : Item). IsFound xs i.other) bounds items
    (bounds_are (IsFound xs) names equal (found_each xs equal used.0))
    (filter_found xs x.var x.filter filter)))
given_found facts n es xs input filter given = absurd given
