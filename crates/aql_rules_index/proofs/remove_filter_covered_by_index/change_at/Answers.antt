use Rattle.std.proofs.Common.{◌∙◌, ℕ, [], List, map, sym, ap, subst, subst₂}
use Rattle.std.specs.Prelude.{None}
use Rattle.aql_tree.specs.Tree.{ExprTree}
use Rattle.aql_tree.specs.View.{tree}
use Rattle.aql_plan.specs.View.{plan_tree}
use Rattle.aql_rewrite.specs.ExprView.{lent}
use Rattle.aql_rules_index.specs.RemoveFilterCoveredByIndex.{RemovesCovered}
use Rattle.aql_rules_index.specs.inner.Covering.{PlainGoes, Sifts}
use Rattle.aql_rules_index.specs.inner.Readers.{plan_with_cond}
use Rattle.aql_rules_index.specs.inner.Views.{read_tree}
use Rattle.aql_rules_index.specs.laws.ItemsRemoved.{all_stay, all_gone, some_stay}
use Rattle.aql_rules_index.proofs.PartsLeft.{same_long, other_long, nothing_left}
use Rattle.aql_rules_index.proofs.remove_filter_covered_by_index.change_at.Goals as goal

pub returns-then-left-parts : goal.returns-then-left-parts
returns-then-left-parts c =
    let r = read_tree c.in-Some-whole_index.read in
    let left = map lent c.as_slice-left.result.now in
    let parts = ap (map lent) c.as_slice-parts.ensures.value ∙ c.in_ok-all.ensures in
    let sifted = subst₂ (λ (ns : List (List ℕ)) (es : List ExprTree). Sifts (PlainGoes ns r) es left)
    c.attributes_of-names.ensures parts
    (subst (λ ds. Sifts (PlainGoes c.attributes_of-names.result.now r) (map lent c.as_slice-parts.result.now)
    (map lent ds)) (sym c.as_slice-left.ensures.value) c.in_ok-rest.ensures) in
    all_stay c.args.facts.now [] (plan_tree c.args.part.now) (plan_tree c.in-Some.below.now)
    (tree c.in-Some.cond.now) r left c.in-Some.ensures c.requires (sym c.in-Some-whole_index.ensures) sifted
    (same_long c.as_slice-left.result.now c.as_slice-parts.result.now _ parts c.if-left-parts.true)

pub returns-in-Some-split_first : goal.returns-in-Some-split_first
returns-in-Some-split_first c =
    let r = read_tree c.in-Some-whole_index.read in
    let left = map lent c.as_slice-left.result.now in
    let parts = ap (map lent) c.as_slice-parts.ensures.value ∙ c.in_ok-all.ensures in
    let sifted = subst₂ (λ (ns : List (List ℕ)) (es : List ExprTree). Sifts (PlainGoes ns r) es left)
    c.attributes_of-names.ensures parts
    (subst (λ ds. Sifts (PlainGoes c.attributes_of-names.result.now r) (map lent c.as_slice-parts.result.now)
    (map lent ds)) (sym c.as_slice-left.ensures.value) c.in_ok-rest.ensures) in
    subst (λ (t : ExprTree).
    RemovesCovered c.args.facts.now [] (plan_tree c.args.part.now) (plan_with_cond t (plan_tree c.args.part.now))
    None) (sym c.in_ok-condition_of-in-Some-split_first.ensures)
    (some_stay c.args.facts.now [] (plan_tree c.args.part.now) (plan_tree c.in-Some.below.now)
    (tree c.in-Some.cond.now) r left c.in-Some.ensures c.requires (sym c.in-Some-whole_index.ensures) sifted
    (other_long c.as_slice-left.result.now c.as_slice-parts.result.now _ parts c.if-left-parts.false)
    (lent c.in-Some-split_first.first.now) (map lent c.in-Some-split_first.more.now)
    (ap (map lent) c.in-Some-split_first.ensures.cases.0))

pub returns : goal.returns
returns c =
    let r = read_tree c.in-Some-whole_index.read in
    let left = map lent c.as_slice-left.result.now in
    let parts = ap (map lent) c.as_slice-parts.ensures.value ∙ c.in_ok-all.ensures in
    let sifted = subst₂ (λ (ns : List (List ℕ)) (es : List ExprTree). Sifts (PlainGoes ns r) es left)
    c.attributes_of-names.ensures parts
    (subst (λ ds. Sifts (PlainGoes c.attributes_of-names.result.now r) (map lent c.as_slice-parts.result.now)
    (map lent ds)) (sym c.as_slice-left.ensures.value) c.in_ok-rest.ensures) in
    all_gone c.args.facts.now [] (plan_tree c.args.part.now) (plan_tree c.in-Some.below.now)
    (tree c.in-Some.cond.now) r left c.in-Some.ensures c.requires (sym c.in-Some-whole_index.ensures) sifted
    (other_long c.as_slice-left.result.now c.as_slice-parts.result.now _ parts c.if-left-parts.false)
    (nothing_left c.as_slice-left.result.now c.in-None.ensures.cases)
