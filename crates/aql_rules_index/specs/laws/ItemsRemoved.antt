-- What the rule remove-filter-covered-by-index shows of itself beside what it gives: a well-formed plan stays
-- so, and its pass ends.
use Rattle.std.proofs.Common.{◌≡◌, ◌∙◌, ◌<◌, ◌≤◌, ℕ, List, [], ◌∷◌, length, false, Option, Some, None, refl, sym, ap, subst, arith}
use Rattle.std.specs.Prelude.{MatchOption}
use Rattle.std.specs.List.{AllByRecursion}
use Rattle.aql_tree.specs.declared.syntax.Ident.{Ident}
use Rattle.aql_tree.specs.declared.syntax.Expr.{Expr}
use Rattle.aql_tree.specs.Tree.{ExprTree, ExprTrees}
use Rattle.aql_tree.specs.View.{tree}
use Rattle.aql_meaning.specs.Documents.{Last}
use Rattle.aql_meaning.specs.Plain.{IsPlain}
use Rattle.aql_meaning.specs.Uses.{Uses}
use Rattle.aql_plan.specs.declared.facts.Facts.{Facts}
use Rattle.aql_plan.specs.Facts.{attributes_in}
use Rattle.aql_plan.specs.FirstPlan.{conjuncts}
use Rattle.aql_plan.specs.Needs.{result_uses}
use Rattle.aql_plan.specs.Plan.{Plan, Over, Index, Filter, top}
use Rattle.aql_plan.specs.Shapes.{Shape, Shaped, plain_rows}
use Rattle.aql_plan.specs.Variables.{vars_of}
use Rattle.aql_rewrite.specs.declared.swap.Rename.{Rename}
use Rattle.aql_rewrite.specs.Placed.{IsWhole, Placed}
use Rattle.aql_rewrite.specs.Places.{First, Stays}
use Rattle.aql_rewrite.specs.Sums.{total}
use Rattle.aql_rewrite.specs.Swaps.{KeepsPlaced}
use Rattle.aql_rules_index.specs.laws.Nameless.{nameless_falls}
use Rattle.aql_rules_filter.specs.Conditions.{with_more, all_of}
use Rattle.aql_rules_filter.specs.Readers.{filter_in}
use Rattle.aql_rules_filter.specs.laws.Filters.{filter_shaped}
use Rattle.aql_rules_filter.specs.laws.Joined.{split_plain, parts_plain, all_plain, IsFound, parts_found, all_found}
use Rattle.aql_rules_order.specs.Readers.{input_of}
use Rattle.aql_rules_index.specs.Measures.{condition_size}
use Rattle.aql_rules_index.specs.RemoveFilterCoveredByIndex.{Goes, Drops, no_more, keeps, drops, DropsAll, RemovesCovered, some_left, none_left}
use Rattle.aql_rules_index.specs.inner.Covering.{PlainGoes, Sifts, sifts_none, stays, goes, HasPlainFilter}
use Rattle.aql_rules_index.specs.inner.Readers.{IndexRead, whole_index, plan_with_cond}
use Rattle.aql_rules_index.specs.laws.BoundsFit.{item_has}
use Rattle.aql_rules_index.specs.laws.IndexReads.{whole_is, IsRead, read_plan}
use Rattle.aql_rules_index.specs.laws.Items.{some_same}
use Rattle.aql_rules_index.specs.laws.Shrinking.{size_is_positive, smaller_condition}

-- ---- what is left has what all parts have

left_has : (P : ExprTree → Type 0) {names : List (List ℕ)} {x : Ident} {equal : ExprTrees}
    {last : Last ExprTree} {es left : List ExprTree} → Drops names x equal last es left
    → AllByRecursion P es → AllByRecursion P left
left_has P no_more h = tt
left_has P (keeps d) h = (h.0, left_has P d h.1)
left_has P (drops g d) h = left_has P d h.1

-- ---- a well-formed plan stays so

pub covered_keep : (facts : Facts) (outer away : List Ident) (us : Uses) (p q : Plan) (r : Option Rename)
    → Placed false false facts outer away us p → RemovesCovered facts us p q r
    → KeepsPlaced false false facts outer us p q r
covered_keep facts outer away _ _ _ _ placed
    (some_left {us = us} {b = b} {x = x} {index = index} {equal = equal} {last = last} {ordered = ordered}
    {c = c} {e = e} {left = left} a h) = record {
      suits = placed.suits;
      shape = λ s out g.
          let k = filter_shaped facts (Over b (Index x index equal last ordered)) c s out g in
          subst (λ (t : Shape). Shaped facts
          (Over (Over b (Index x index equal last ordered)) (Filter (all_of (e ∷ left)))) t) (sym k.0)
          (plain_rows tt (all_plain (e ∷ left) (left_has IsPlain h.0 (parts_plain c k.1))) k.2);
      found =
          let there = IsFound (x.var ∷ vars_of outer b) in (
            placed.found.0,
            all_found (x.var ∷ vars_of outer b) (e ∷ left)
                (left_has there h.0 (parts_found (x.var ∷ vars_of outer b) c placed.found.1)),
            refl,
            tt,
          );
      vars = λ z used k. k;
      fewer = λ z. omega arith;
    }
covered_keep facts outer away _ _ _ _ placed
    (none_left {us = us} {b = b} {x = x} {index = index} {equal = equal} {last = last} {ordered = ordered}
    {c = c} a h) = record {
      suits = placed.suits.0;
      shape = λ s out g.
          let k = filter_shaped facts (Over b (Index x index equal last ordered)) c s out g in
          subst (λ (t : Shape). Shaped facts (Over b (Index x index equal last ordered)) t) (sym k.0) k.2;
      found = placed.found.0;
      vars = λ z used k. k;
      fewer = λ z. omega arith;
    }

-- ---- the pass ends

covered_lower : (facts : Facts) (us : Uses) (p q : Plan) (r : Option Rename) → RemovesCovered facts us p q r
    → (r ≡ None) × (total condition_size q < total condition_size p)
covered_lower facts _ _ _ _ (some_left {c = c} {e = e} {left = left} a h) =
    (refl, omega (arith, smaller_condition c e left h))
covered_lower facts _ _ _ _ (none_left {c = c} a h) = (refl, omega (arith, size_is_positive c))

pub covered_fall : (facts : Facts) (p q : Plan) (r : Option Rename) → IsWhole false facts p
    → First (RemovesCovered facts) false result_uses p q r
    → total condition_size q < total condition_size p
covered_fall facts p q r whole h =
    nameless_falls condition_size facts (RemovesCovered facts) (covered_lower facts) p q r whole h

-- ---- where the rule applies

module _ (facts : Facts) (r : IndexRead) where
  abbrev names_of : List (List ℕ)
  names_of = attributes_in facts r.coll r.index

  -- an item of a plain part is plain
  goes_plain : (e : ExprTree) → IsPlain e → Goes names_of r.var r.equal r.last e → PlainGoes names_of r e
  goes_plain e plain (i, is, covered) =
      (i, is, (item_has IsPlain split_plain r.var e i plain is).0, covered)

  sifted : (es left : List ExprTree) → AllByRecursion IsPlain es → Sifts (PlainGoes names_of r) es left
      → Drops names_of r.var r.equal r.last es left
      × AllByRecursion (λ e. Goes names_of r.var r.equal r.last e → ⊥) left
  sifted _ _ h sifts_none = (no_more, tt)
  sifted _ _ h (stays {e = e} {es = es} {left = left} f s) =
      let k = sifted es left h.1 s in (keeps k.0, ((λ g. f (goes_plain e h.0 g)), k.1))
  sifted _ _ h (goes {e = e} {es = es} {left = left} (i, is, plain, covered) s) =
      let k = sifted es left h.1 s in (drops (i, is, covered) k.0, k.1)

sifted_few : (G : ExprTree → Type 0) (es left : List ExprTree) → Sifts G es left → length left ≤ length es
sifted_few G _ _ sifts_none = omega arith
sifted_few G _ _ (stays {es = es} {left = left} f s) = omega (arith, sifted_few G es left s)
sifted_few G _ _ (goes {es = es} {left = left} g s) = omega (arith, sifted_few G es left s)

-- where as many are left as there were, none goes
none_sifted : (G : ExprTree → Type 0) (es left : List ExprTree) → Sifts G es left → length left ≡ length es
    → AllByRecursion (λ e. G e → ⊥) es
none_sifted G _ _ sifts_none h = tt
none_sifted G _ _ (stays {es = es} {left = left} f s) h = (f, none_sifted G es left s (omega (arith, h)))
none_sifted G _ _ (goes {es = es} {left = left} g s) h = absurd (omega (arith, h, sifted_few G es left s))

none_drops : {names : List (List ℕ)} {x : Ident} {equal : ExprTrees} {last : Last ExprTree}
    {es left : List ExprTree} → Drops names x equal last es left
    → AllByRecursion (λ e. Goes names x equal last e → ⊥) es → length es ≤ length left
none_drops no_more h = omega arith
none_drops (keeps d) h = omega (arith, none_drops d h.1)
none_drops (drops g d) h = absurd (h.0 g)

-- ---- the changes

pub not_filtered : (facts : Facts) (us : Uses) (p : Plan) → filter_in p ≡ None
    → Stays (RemovesCovered facts) us p
not_filtered facts us _ h _ _ (some_left a k) = cc
not_filtered facts us _ h _ _ (none_left a k) = cc

-- no part of the condition is a bound of the Index
abbrev NoneGoes : Facts → ExprTree → IndexRead → Type 0
NoneGoes facts c r =
    AllByRecursion (λ e. Goes (attributes_in facts r.coll r.index) r.var r.equal r.last e → ⊥) (conjuncts c)

none_covered : (facts : Facts) (us : Uses) (b : Plan) (c : ExprTree) (r : IndexRead)
    → whole_index (top b) ≡ Some r → NoneGoes facts c r
    → Stays (RemovesCovered facts) us (Over b (Filter c))
none_covered facts us _ c r e g _ _
    (some_left {x = x} {index = index} {equal = equal} {last = last} {ordered = ordered} a k) =
    let same = some_same _ r (sym (whole_is x index equal last ordered a) ∙ e) in
    let none_goes = subst (NoneGoes facts c) (sym same) g in
    absurd (omega (arith, k.1, none_drops k.0 none_goes))
none_covered facts us _ c r e g _ _
    (none_left {x = x} {index = index} {equal = equal} {last = last} {ordered = ordered} a k) =
    let same = some_same _ r (sym (whole_is x index equal last ordered a) ∙ e) in
    let none_goes = subst (NoneGoes facts c) (sym same) g in
    absurd (omega (arith, k.1, none_drops k.0 none_goes))

all_apart : (facts : Facts) (r : IndexRead) (es : List ExprTree)
    → AllByRecursion IsPlain es
    → AllByRecursion (λ e. PlainGoes (attributes_in facts r.coll r.index) r e → ⊥) es
    → AllByRecursion (λ e. Goes (attributes_in facts r.coll r.index) r.var r.equal r.last e → ⊥) es
all_apart facts r [] h k = tt
all_apart facts r (e ∷ es) h k = ((λ g. k.0 (goes_plain facts r e h.0 g)), all_apart facts r es h.1 k.1)

module _ (facts : Facts) (us : Uses) (p b : Plan) (c : ExprTree) (r : IndexRead) (left : List ExprTree)
    (is : p ≡ Over b (Filter c)) (plain : HasPlainFilter p) (read : whole_index (top b) ≡ Some r)
    (s : Sifts (PlainGoes (attributes_in facts r.coll r.index) r) (conjuncts c) left) where
  plain_parts : AllByRecursion IsPlain (conjuncts c)
  plain_parts = parts_plain c (subst HasPlainFilter is plain)

  pub all_stay : length left ≡ length (conjuncts c) → Stays (RemovesCovered facts) us p
  all_stay h = subst (Stays (RemovesCovered facts) us) (sym is)
      (none_covered facts us b c r read (all_apart facts r (conjuncts c) plain_parts
      (none_sifted (PlainGoes (attributes_in facts r.coll r.index) r) (conjuncts c) left s h)))

  some_gone : (length left ≡ length (conjuncts c) → ⊥)
      → DropsAll (attributes_in facts r.coll r.index) r.var r.equal r.last (conjuncts c) left
  some_gone h =
      let k = sifted facts r (conjuncts c) left plain_parts s in
      let few = sifted_few (PlainGoes (attributes_in facts r.coll r.index) r) (conjuncts c) left s in
      (k.0, omega (arith, few, h), k.1)

  -- in the words of the reading
  by_reading : (i : IsRead b r)
      → DropsAll (attributes_in facts r.coll r.index) r.var r.equal r.last (conjuncts c) left
      → DropsAll (attributes_in facts i.reading.coll r.index) i.reading.var r.equal r.last (conjuncts c) left
  by_reading i h =
      subst (λ (n : ℕ). DropsAll (attributes_in facts n r.index) i.reading.var r.equal r.last (conjuncts c) left)
      (sym i.coll)
      (subst (λ (x : Ident). DropsAll (attributes_in facts r.coll r.index) x r.equal r.last (conjuncts c) left)
      (sym i.var) h)

  pub all_gone : (length left ≡ length (conjuncts c) → ⊥) → left ≡ []
      → RemovesCovered facts us p (input_of p) None
  all_gone h e =
      let i = read_plan b r read in
      subst (λ (q : Plan). RemovesCovered facts us q (input_of q) None)
      (sym (is ∙ ap (λ (d : Plan). Over d (Filter c)) i.is))
      (none_left i.whole (subst (λ (ds : List ExprTree).
      DropsAll (attributes_in facts i.reading.coll r.index) i.reading.var r.equal r.last (conjuncts c) ds) e
      (by_reading i (some_gone h))))

  pub some_stay : (length left ≡ length (conjuncts c) → ⊥) → (e : ExprTree) (ds : List ExprTree)
      → left ≡ e ∷ ds → RemovesCovered facts us p (plan_with_cond (with_more e ds) p) None
  some_stay h e ds f =
      let i = read_plan b r read in
      subst (λ (q : Plan). RemovesCovered facts us q (plan_with_cond (with_more e ds) q) None)
      (sym (is ∙ ap (λ (d : Plan). Over d (Filter c)) i.is))
      (some_left i.whole (subst (λ (ks : List ExprTree).
      DropsAll (attributes_in facts i.reading.coll r.index) i.reading.var r.equal r.last (conjuncts c) ks) f
      (by_reading i (some_gone h))))

-- the input is left where the Filter is taken from the top of a plan to which the rule applies
pub taken_is : (facts : Facts) (p q : Plan) (o : Option Expr)
    → MatchOption o ((filter_in p ≡ None) × (q ≡ p)) (λ c. p ≡ Over q (Filter (tree c)))
    → RemovesCovered facts [] p (input_of p) None → q ≡ input_of p
taken_is facts p q None h g = absurd (not_filtered facts [] p h.0 (input_of p) None g)
taken_is facts p q (Some c) h g = sym (ap input_of h)
