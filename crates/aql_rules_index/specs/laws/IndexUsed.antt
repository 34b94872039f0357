-- What the rule use-indexes shows of itself beside what it gives: a well-formed plan stays so, and its pass
-- ends.
use Rattle.std.proofs.Common.{◌≡◌, ◌∙◌, ◌<◌, ℕ, List, [], ◌∷◌, ◌++◌, true, false, Option, Some, None, refl, sym, ap, subst, arith}
use Rattle.std.specs.Prelude.{◌||◌, slice_get, length, MatchOption}
use Rattle.std.specs.List.{AllByRecursion}
use Rattle.std.proofs.lemmas.Bool.{or_parts}
use Rattle.aql_value.specs.laws.Alls.{all_more}
use Rattle.aql_tree.specs.declared.syntax.Ident.{Ident}
use Rattle.aql_tree.specs.Tree.{ExprTree, ExprTrees, no_exprs, expr_then, MaybeExpr, no_expr, one_expr}
use Rattle.aql_meaning.specs.Documents.{End, Last, no_last, one_of, between}
use Rattle.aql_meaning.specs.Plain.{IsPlain, AllPlain}
use Rattle.aql_meaning.specs.Row.{same_ident}
use Rattle.aql_meaning.specs.Uses.{Uses, used_variable, uses, all_uses, is_used}
use Rattle.aql_meaning.specs.laws.Idents.{same_swapped}
use Rattle.aql_plan.specs.declared.facts.Facts.{Facts}
use Rattle.aql_plan.specs.declared.facts.IndexFact.{IndexFact}
use Rattle.aql_plan.specs.Exprs.{map_node}
use Rattle.aql_plan.specs.Facts.{indexes_in}
use Rattle.aql_plan.specs.FirstPlan.{conjuncts}
use Rattle.aql_plan.specs.Fits.{exprs_in, EndPlain, LastPlain, BoundsFit, KindFits, KeepsOrder, IndexFits}
use Rattle.aql_plan.specs.Needs.{result_uses, end_uses, last_uses}
use Rattle.aql_plan.specs.Plan.{Reading, Plan, Singleton, Over, Node, EnumerateCollection, Index, Filter, top}
use Rattle.aql_plan.specs.Shapes.{Shape, Rows, Shaped, plain_rows}
use Rattle.aql_plan.specs.Variables.{vars_of, are_among}
use Rattle.aql_rewrite.specs.declared.swap.Rename.{Rename}
use Rattle.aql_rewrite.specs.Placed.{IsWhole, Placed}
use Rattle.aql_rewrite.specs.Places.{First, Stays}
use Rattle.aql_rewrite.specs.Sums.{total}
use Rattle.aql_rewrite.specs.Swaps.{KeepsPlaced}
use Rattle.aql_rewrite.specs.laws.Among.{has, both, and_true, among_join}
use Rattle.aql_rewrite.specs.laws.Falling.{total_falls}
use Rattle.aql_rules_filter.specs.Readers.{filter_in}
use Rattle.aql_rules_filter.specs.laws.Filters.{filter_shaped}
use Rattle.aql_rules_filter.specs.laws.Joined.{split_plain, parts_plain, IsFound, split_found, parts_found}
use Rattle.aql_rules_index.specs.Choice.{Item, items_of, Bounds, has_bound, Candidate, candidates, IsChosen}
use Rattle.aql_rules_index.specs.Measures.{is_enumeration}
use Rattle.aql_rules_index.specs.UseIndexes.{UsesIndex, used}
use Rattle.aql_rules_index.specs.inner.Readers.{where_bare, bare_reading, var_and_coll, input_indexed}
use Rattle.aql_rules_index.specs.laws.BoundsFit.{HasOther, items_have, EachHas, EndHas, LastHas, BoundsHave, bounds_have, bounds_fit, kind_fits}
use Rattle.aql_rules_index.specs.laws.Chosen.{IsIndexOf, chosen_of}
use Rattle.aql_rules_index.specs.laws.Items.{some_same}

-- ---- the expressions of the bounds

module _ (facts : Facts) (coll : ℕ) (is : List Item) (chosen : Candidate) where
  chosen_has : (Q : ExprTree → Type 0) → IsIndexOf facts coll is chosen
      → AllByRecursion (λ (i : Item). Q i.other) is → BoundsHave Q chosen.bounds
  chosen_has Q h k = subst (BoundsHave Q) (sym h.given) (bounds_have Q h.fact.kind h.fact.attributes is k)

each_plain : (es : ExprTrees) → EachHas IsPlain es → AllPlain es
each_plain no_exprs h = tt
each_plain (expr_then e es) h = (h.0, each_plain es h.1)

end_plain : (end : Option (End ExprTree)) → EndHas IsPlain end → EndPlain end
end_plain None h = tt
end_plain (Some end) h = h

last_plain : (last : Last ExprTree) → LastHas IsPlain last → LastPlain last
last_plain no_last h = tt
last_plain (one_of e) h = h
last_plain (between low high) h = (end_plain low h.0, end_plain high h.1)

module _ (xs : List Ident) where
  each_found : (es : ExprTrees) → EachHas (IsFound xs) es → are_among (all_uses es) xs ≡ true
  each_found no_exprs h = refl
  each_found (expr_then e es) h = among_join (uses e) (all_uses es) xs h.0 (each_found es h.1)

  end_found : (end : Option (End ExprTree)) → EndHas (IsFound xs) end → are_among (end_uses end) xs ≡ true
  end_found None h = refl
  end_found (Some end) h = h

  last_found : (last : Last ExprTree) → LastHas (IsFound xs) last → are_among (last_uses last) xs ≡ true
  last_found no_last h = refl
  last_found (one_of e) h = h
  last_found (between low high) h =
      among_join (end_uses low) (end_uses high) xs (end_found low h.0) (end_found high h.1)

-- what is used is there without a variable that is not used
among_others : (us : Uses) (x : Ident) (xs : List Ident) → are_among us (x ∷ xs) ≡ true
    → is_used x us ≡ false → are_among us xs ≡ true
among_others [] x xs h k = refl
among_others (u ∷ us) x xs h k =
    let y = used_variable u in
    let l = both (has y (x ∷ xs)) (are_among us (x ∷ xs)) h in
    let m = or_parts (same_ident x y) (is_used x us) k in
    and_true (has y xs) (are_among us xs)
    (sym (ap (λ b. b || has y xs) (same_swapped x y m.0)) ∙ l.0) (among_others us x xs l.1 m.1)

-- ---- a well-formed plan stays so

module _ (facts : Facts) (x : Reading) (c : ExprTree) (chosen : Candidate)
    (of : IsIndexOf facts x.coll (items_of x.var (conjuncts c)) chosen) where
  bounds_plain : IsPlain c → BoundsHave IsPlain chosen.bounds
  bounds_plain h =
      let is = items_of x.var (conjuncts c) in
      chosen_has facts x.coll is chosen IsPlain of
      (all_more (HasOther IsPlain split_plain x.var) (λ (i : Item). IsPlain i.other) (λ i k. k.0) is
      (items_have IsPlain split_plain x.var (conjuncts c) (parts_plain c h)))

  bounds_found : (xs : List Ident) → are_among (uses c) (x.var ∷ xs) ≡ true
      → BoundsHave (IsFound xs) chosen.bounds
  bounds_found xs h =
      let is = items_of x.var (conjuncts c) in
      let There = IsFound (x.var ∷ xs) in
      chosen_has facts x.coll is chosen (IsFound xs) of
      (all_more (HasOther There (split_found (x.var ∷ xs)) x.var) (λ (i : Item). IsFound xs i.other)
      (λ i k. among_others (uses i.other) x.var xs k.0 k.1) is
      (items_have There (split_found (x.var ∷ xs)) x.var (conjuncts c) (parts_found (x.var ∷ xs) c h)))

  index_fits : x.attrs ≡ None
      → MatchOption (slice_get (indexes_in facts x.coll) chosen.index) ⊥
      (λ i. IndexFits i x (exprs_in chosen.bounds.equal) chosen.bounds.last None)
  index_fits a =
      let is = items_of x.var (conjuncts c) in
      let f = of.fact in
      let bounds = sym of.given in
      subst (λ (o : Option IndexFact).
      MatchOption o ⊥ (λ i. IndexFits i x (exprs_in chosen.bounds.equal) chosen.bounds.last None))
      (sym of.there) (
        subst (λ (b : Bounds). BoundsFit (length f.attributes) (exprs_in b.equal) b.last) bounds
            (bounds_fit f.kind f.attributes is),
        subst (λ (b : Bounds). KindFits f.kind (exprs_in b.equal) b.last None) bounds
            (kind_fits f.kind f.attributes is
            (subst (λ (b : Bounds). has_bound b.equal b.last ≡ true) of.given of.some)),
        subst (λ (names : Option (List (List ℕ))). KeepsOrder f.attributes names None) (sym a) tt,
      )

  index_shaped : (b : Plan) → x.attrs ≡ None → IsPlain c
      → Shaped facts (Over b (EnumerateCollection x)) (Rows false)
      → Shaped facts (Over b (Index x chosen.index chosen.bounds.equal chosen.bounds.last None)) (Rows false)
  index_shaped b a plain (plain_rows i f h) =
      let k = bounds_plain plain in
      plain_rows i
      (f.0, f.1, each_plain chosen.bounds.equal k.0, last_plain chosen.bounds.last k.1, index_fits a) h

pub uses_keep : (facts : Facts) (outer away : List Ident) (us : Uses) (p q : Plan) (r : Option Rename)
    → Placed false false facts outer away us p → UsesIndex facts us p q r
    → KeepsPlaced false false facts outer us p q r
uses_keep facts outer away _ _ _ _ placed
    (used {us = us} {b = b} {x = x} {c = c} {chosen = chosen} f a h) =
    let of = chosen_of facts x.coll (items_of x.var (conjuncts c)) chosen h in
    let bounds = bounds_found facts x c chosen of (vars_of outer b) placed.found.1 in record {
      suits = placed.suits;
      shape = λ s out g.
          let k = filter_shaped facts (Over b (EnumerateCollection x)) c s out g in
          subst (λ (t : Shape). Shaped facts (Over (Over b
          (Index x chosen.index chosen.bounds.equal chosen.bounds.last None)) (Filter c)) t) (sym k.0)
          (plain_rows tt k.1 (index_shaped facts x c chosen of b a k.1 k.2));
      found = (
        (
          placed.found.0.0,
          among_join (all_uses chosen.bounds.equal) (last_uses chosen.bounds.last) (vars_of outer b)
              (each_found (vars_of outer b) chosen.bounds.equal bounds.0)
              (last_found (vars_of outer b) chosen.bounds.last bounds.1),
          placed.found.0.2,
          tt,
        ),
        placed.found.1,
        refl,
        tt,
      );
      vars = λ z there k. k;
      fewer = λ z. omega arith;
    }

-- ---- the pass ends

same_enumerations : (f : ExprTree → ExprTree) (n : Node) → is_enumeration (map_node f n) ≡ is_enumeration n
same_enumerations f (EnumerateCollection x) = refl
same_enumerations f n = refl

uses_lower : (facts : Facts) (us : Uses) (p q : Plan) (r : Option Rename) → UsesIndex facts us p q r
    → total is_enumeration q < total is_enumeration p
uses_lower facts _ _ _ _ (used f a h) = omega arith

pub uses_fall : (facts : Facts) (p q : Plan) (r : Option Rename) → IsWhole false facts p
    → First (UsesIndex facts) false result_uses p q r → total is_enumeration q < total is_enumeration p
uses_fall facts p q r whole h =
    total_falls is_enumeration same_enumerations facts (UsesIndex facts) (uses_lower facts) p q r whole h

-- ---- where the rule applies

pub no_filter : (facts : Facts) (us : Uses) (p : Plan) → filter_in p ≡ None → Stays (UsesIndex facts) us p
no_filter facts us _ h _ _ (used f a k) = cc

-- a reading that is bare, and one that is not
bare_is : (y x : Reading) (e : MaybeExpr) (names : Option (List (List ℕ))) → y.filter ≡ e → y.attrs ≡ names
    → where_bare e names y ≡ Some x → (y ≡ x) × (y.filter ≡ no_expr) × (y.attrs ≡ None)
bare_is y x no_expr None f a h = (some_same y x h, f, a)
bare_is y x no_expr (Some names) f a h = absurd (cc)
bare_is y x (one_expr e) names f a h = absurd (cc)

is_bare : (x : Reading) → x.filter ≡ no_expr → x.attrs ≡ None → where_bare x.filter x.attrs x ≡ Some x
is_bare x f a =
    ap (λ (e : MaybeExpr). where_bare e x.attrs x) f
    ∙ ap (λ (names : Option (List (List ℕ))). where_bare no_expr names x) a

abbrev Bare : Plan → Reading → Type 0
Bare b x = (d : Plan) × (b ≡ Over d (EnumerateCollection x)) × (x.filter ≡ no_expr) × (x.attrs ≡ None)

bare_plan : (b : Plan) (x : Reading) → bare_reading (top b) ≡ Some x → Bare b x
bare_plan Singleton x h = absurd (cc)
bare_plan (Over d n) x h = by n h
  where
    by : (n : Node) → bare_reading n ≡ Some x → Bare (Over d n) x
    by (EnumerateCollection y) h =
        let k = bare_is y x y.filter y.attrs refl refl h in (
          d,
          ap (λ (z : Reading). Over d (EnumerateCollection z)) k.0,
          subst (λ (z : Reading). z.filter ≡ no_expr) k.0 k.1,
          subst (λ (z : Reading). z.attrs ≡ None) k.0 k.2,
        )
    by n h = absurd (cc)

bare_seen : (o : Option Reading) (v : Ident) (coll : ℕ) → var_and_coll o ≡ Some (v, coll)
    → (x : Reading) × (o ≡ Some x) × (x.var ≡ v) × (x.coll ≡ coll)
bare_seen None v coll h = absurd (cc)
bare_seen (Some x) v coll h =
    let k = some_same (x.var, x.coll) (v, coll) h in
    (x, refl, ap (λ (s : Ident × ℕ). s.0) k, ap (λ (s : Ident × ℕ). s.1) k)

none_bare : (facts : Facts) (us : Uses) (b : Plan) (c : ExprTree) → var_and_coll (bare_reading (top b)) ≡ None
    → Stays (UsesIndex facts) us (Over b (Filter c))
none_bare facts us _ c h _ _ (used {x = x} f a k) = absurd (let e = ap var_and_coll (is_bare x f a) in cc)

pub not_bare : (facts : Facts) (us : Uses) (p b : Plan) (c : ExprTree) → p ≡ Over b (Filter c)
    → var_and_coll (bare_reading (top b)) ≡ None → Stays (UsesIndex facts) us p
not_bare facts us p b c e h = subst (Stays (UsesIndex facts) us) (sym e) (none_bare facts us b c h)

not_there : {X : Type 0} (xs : List X) (x : X) (ys : List X) → xs ++ x ∷ ys ≡ [] → ⊥
not_there [] x ys h = cc
not_there (y ∷ xs) x ys h = cc

none_chosen : (facts : Facts) (us : Uses) (b : Plan) (c : ExprTree) (v : Ident) (coll : ℕ)
    → var_and_coll (bare_reading (top b)) ≡ Some (v, coll) → candidates facts coll (items_of v (conjuncts c)) ≡ []
    → Stays (UsesIndex facts) us (Over b (Filter c))
none_chosen facts us _ c v coll e g _ _ (used {x = x} {chosen = chosen} f a k) =
    let s = some_same (x.var, x.coll) (v, coll) (sym (ap var_and_coll (is_bare x f a)) ∙ e) in
    not_there k.before chosen k.after (sym k.among
    ∙ ap (λ (s : Ident × ℕ). candidates facts s.1 (items_of s.0 (conjuncts c))) s ∙ g)

pub no_candidate : (facts : Facts) (us : Uses) (p b : Plan) (c : ExprTree) (v : Ident) (coll : ℕ)
    → p ≡ Over b (Filter c) → var_and_coll (bare_reading (top b)) ≡ Some (v, coll)
    → candidates facts coll (items_of v (conjuncts c)) ≡ [] → Stays (UsesIndex facts) us p
no_candidate facts us p b c v coll d e g =
    subst (Stays (UsesIndex facts) us) (sym d) (none_chosen facts us b c v coll e g)

pub used_at : (facts : Facts) (us : Uses) (p b : Plan) (c : ExprTree) (v : Ident) (coll : ℕ)
    (chosen : Candidate)
    → p ≡ Over b (Filter c) → var_and_coll (bare_reading (top b)) ≡ Some (v, coll)
    → IsChosen facts coll (items_of v (conjuncts c)) chosen
    → UsesIndex facts us p (input_indexed chosen None p) None
used_at facts us p b c v coll chosen d e h =
    let x = bare_seen (bare_reading (top b)) v coll e in
    by x.0 (bare_plan b x.0 x.1)
    (subst (λ (n : ℕ). IsChosen facts n (items_of x.0.var (conjuncts c)) chosen) (sym x.3)
    (subst (λ (w : Ident). IsChosen facts coll (items_of w (conjuncts c)) chosen) (sym x.2) h))
  where
    by : (x : Reading) → Bare b x → IsChosen facts x.coll (items_of x.var (conjuncts c)) chosen
        → UsesIndex facts us p (input_indexed chosen None p) None
    by x (under, is, f, a) k =
        subst (λ (m : Plan). UsesIndex facts us m (input_indexed chosen None m) None)
        (sym (d ∙ ap (λ (m : Plan). Over m (Filter c)) is)) (used f a k)
