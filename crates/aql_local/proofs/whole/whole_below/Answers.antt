-- A scan stays as it is, or is one of whole documents, by what is looked at above it.
use Rattle.std.proofs.Common.{◌≡◌, ◌∙◌, List, Bool, true, false, Some, option_map, ap, ap₂, sym, subst}
use Rattle.std.specs.Prelude.{◌&&◌}
use Rattle.std.specs.List.{list_all}
use Rattle.aql_tree.specs.declared.syntax.Ident.TheVariants.{Num}
use Rattle.aql_plan.specs.Plan.{top}
use Rattle.aql_plan.specs.Used.{uses_tree}
use Rattle.aql_plan.specs.View.{plan_tree}
use Rattle.aql_plan.specs.declared.uses.Use.{Use}
use Rattle.aql_engine.specs.OperatorsOf.{is_covered, last_looks}
use Rattle.aql_local.specs.inner.Whole.{passes_covered, uncut, below_looks}
use Rattle.aql_local.proofs.Uncut.{uncut_stays, cut_or_whole}
use Rattle.aql_local.proofs.whole.whole_below.Goals as goal

pub returns-in_default : goal.returns-in_default
returns-in_default c =
    uncut_stays (last_looks (top (plan_tree c.args.plan.now))) (plan_tree c.args.below.now) c.in_default.ensures

pub returns-then-not-are_covered : goal.returns-then-not-are_covered
returns-then-not-are_covered c =
    let b = plan_tree c.args.below.now in
    let names = c.in-Some.names.now in
    let us = uses_tree c.in-Some-2.looks in
    let is : last_looks (top (plan_tree c.args.plan.now)) ≡ Some us =
    sym c.in_ok-looks.ensures ∙ ap (option_map (λ vs. uses_tree vs)) c.in-Some-2.is in
    let covered : List Use → Bool = λ vs. list_all (is_covered (Num c.in-Some.var) (Some names)) (uses_tree vs) in
    let no = ap covered (sym c.as_slice.ensures) ∙ sym c.are_covered.ensures ∙ c.if-not-are_covered.true in
    subst (λ looks. b ≡ below_looks looks b) (sym is)
    (cut_or_whole (Num c.in-Some.var) names us false b c.in-Some.ensures
    (ap (λ y. y && passes_covered (Num c.in-Some.var) names b) no))

pub returns-then-not-branch : goal.returns-then-not-branch
returns-then-not-branch c =
    let b = plan_tree c.args.below.now in
    let names = c.in-Some.names.now in
    let us = uses_tree c.in-Some-2.looks in
    let is : last_looks (top (plan_tree c.args.plan.now)) ≡ Some us =
    sym c.in_ok-looks.ensures ∙ ap (option_map (λ vs. uses_tree vs)) c.in-Some-2.is in
    let covered : List Use → Bool = λ vs. list_all (is_covered (Num c.in-Some.var) (Some names)) (uses_tree vs) in
    let yes = ap covered (sym c.as_slice.ensures) ∙ sym c.are_covered.ensures ∙ c.if-not-are_covered.false in
    let no = sym c.in_ok-passes_covered.ensures ∙ c.if-not-branch.true in
    subst (λ looks. b ≡ below_looks looks b) (sym is)
    (cut_or_whole (Num c.in-Some.var) names us false b c.in-Some.ensures (ap₂ (λ y z. y && z) yes no))

pub returns : goal.returns
returns c =
    let b = plan_tree c.args.below.now in
    let names = c.in-Some.names.now in
    let us = uses_tree c.in-Some-2.looks in
    let is : last_looks (top (plan_tree c.args.plan.now)) ≡ Some us =
    sym c.in_ok-looks.ensures ∙ ap (option_map (λ vs. uses_tree vs)) c.in-Some-2.is in
    let covered : List Use → Bool = λ vs. list_all (is_covered (Num c.in-Some.var) (Some names)) (uses_tree vs) in
    let yes = ap covered (sym c.as_slice.ensures) ∙ sym c.are_covered.ensures ∙ c.if-not-are_covered.false in
    let too = sym c.in_ok-passes_covered.ensures ∙ c.if-not-branch.false in
    c.uncut.ensures ∙ ap uncut c.in_ok-whole.ensures
    ∙ subst (λ looks. uncut b ≡ below_looks looks b) (sym is)
    (cut_or_whole (Num c.in-Some.var) names us true b c.in-Some.ensures (ap₂ (λ y z. y && z) yes too))
