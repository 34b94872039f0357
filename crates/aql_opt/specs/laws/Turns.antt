-- Rules that run one after another.
use Rattle.std.proofs.Common.{◌≡◌, ◌∙◌, Bool, true, false, ◌+◌, ◌<◌, ℕ, List, [], ◌∷◌, ◌++◌, length, take, get_or, ap, sym, subst}
use Rattle.std.proofs.lemmas.List.{take_more}
use Rattle.aql_plan.specs.declared.facts.Facts.{Facts}
use Rattle.aql_plan.specs.declared.rules.RuleName.{RuleName}
use Rattle.aql_plan.specs.Plan.{Plan}
use Rattle.aql_plan.specs.Refines.{Refines}
use Rattle.aql_plan.specs.declared.rule_sets.Rules.{Rules}
use Rattle.aql_opt.specs.Passes.{IsPassOf}
use Rattle.aql_opt.specs.Chosen.{IsEnabled, RunsRule, unchanged, changed, AfterRules, at_first, and_then}

pub one_more : (facts : Facts) (rules : Rules) (p q s : Plan) (applied more : List RuleName)
    (order : List RuleName) (i : ℕ) (r : RuleName) → i < length order → r ≡ get_or order i r
    → AfterRules facts rules p (take i order) q applied → RunsRule facts rules r q applied s more
    → AfterRules facts rules p (take (i + 1) order) s more
one_more facts rules p q s applied more order i r within here h k =
    subst (λ (rs : List RuleName). AfterRules facts rules p rs s more)
    (sym (take_more order i r within ∙ ap (λ x. take i order ++ x ∷ []) (sym here))) (and_then h k)

pub refines_itself : (facts : Facts) (p : Plan) → Refines facts p p
refines_itself facts p db meets start vs a = a

pub first_told : (facts : Facts) (rules : Rules) (p : Plan) (applied : List RuleName) → applied ≡ []
    → AfterRules facts rules p [] p applied
first_told facts rules p applied e =
    subst (λ (names : List RuleName). AfterRules facts rules p [] p names) (sym e) at_first

pub turn_changed : (facts : Facts) (rules : Rules) (r : RuleName) (q s : Plan) (applied more : List RuleName)
    (b : Bool) → IsEnabled facts rules r → IsPassOf r facts q s b → b ≡ true → more ≡ applied ++ r ∷ []
    → RunsRule facts rules r q applied s more
turn_changed facts rules r q s applied more b on pass e f =
    subst (λ (names : List RuleName). RunsRule facts rules r q applied s names) (sym f)
    (changed on (subst (λ (c : Bool). IsPassOf r facts q s c) e pass))

pub turn_unchanged : (facts : Facts) (rules : Rules) (r : RuleName) (q s : Plan) (applied : List RuleName)
    (b : Bool) → IsEnabled facts rules r → IsPassOf r facts q s b → b ≡ false
    → RunsRule facts rules r q applied s applied
turn_unchanged facts rules r q s applied b on pass e =
    unchanged on (subst (λ (c : Bool). IsPassOf r facts q s c) e pass)
