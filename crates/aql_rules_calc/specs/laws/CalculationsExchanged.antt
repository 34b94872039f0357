-- That a Calculation or a Subquery goes down is a matter of two nodes alone.
use Rattle.std.proofs.Common.{◌≡◌, ◌∙◌, Bool, true, false, true≢false, refl, ap, sym}
use Rattle.std.specs.Prelude.{Option, None, ◌&&◌}
use Rattle.std.proofs.lemmas.Bool.{and_parts, and_from}
use Rattle.aql_tree.specs.declared.syntax.Ident.{Ident}
use Rattle.aql_meaning.specs.Uses.{Uses}
use Rattle.aql_plan.specs.Needs.{sets, needs, result_uses}
use Rattle.aql_plan.specs.Plan.{Plan, Over, Node, Calculation, Subquery}
use Rattle.aql_rewrite.specs.declared.swap.Rename.{Rename}
use Rattle.aql_rewrite.specs.Nodes.{uses_alone}
use Rattle.aql_rewrite.specs.Places.{First}
use Rattle.aql_rewrite.specs.Exchanged.{Swaps}
use Rattle.aql_rules_calc.specs.MoveCalculationsUp.{enumerates, may_pass, none_used, Moves, swapped}
use Rattle.aql_rules_calc.specs.laws.SameUsed.{moved_needs, same_none}

-- the upper node goes below the lower one
abbrev pub calculation_swaps : Node → Node → Bool
calculation_swaps upper lower = may_pass upper lower && none_used (sets lower) (uses_alone upper)

pub calculations_exchanged : (us : Uses) (b : Plan) (upper lower : Node)
    → calculation_swaps upper lower ≡ true
    → Moves us (Over (Over b lower) upper) (Over (Over b upper) lower) None
calculations_exchanged us b upper lower h =
    let k = and_parts (may_pass upper lower) (none_used (sets lower) (uses_alone upper)) h in swapped k.0 k.1

pub calculations_alone : (us : Uses) (p q : Plan) (r : Option Rename) → Moves us p q r
    → Swaps calculation_swaps p
calculations_alone us _ _ _ (swapped {upper = upper} {lower = lower} h g) =
    and_from (may_pass upper lower) (none_used (sets lower) (uses_alone upper)) h g

stays : (upper lower further : Node) → may_pass upper lower ≡ true → may_pass lower further ≡ false
stays (Calculation x e) (Calculation y d) further h = absurd (true≢false (sym h))
stays (Calculation x e) (Subquery y s) further h = absurd (true≢false (sym h))
stays (Calculation x e) lower further h = refl
stays (Subquery x t) (Calculation y d) further h = absurd (true≢false (sym h))
stays (Subquery x t) (Subquery y s) further h = absurd (true≢false (sym h))
stays (Subquery x t) lower further h = refl
stays upper lower further h = absurd (true≢false (sym h))

pub calculations_apart : (upper lower further : Node) → calculation_swaps upper lower ≡ true
    → calculation_swaps lower further ≡ false
calculations_apart upper lower further h =
    let k = and_parts (may_pass upper lower) (none_used (sets lower) (uses_alone upper)) h in
    ap (λ (c : Bool). c && none_used (sets further) (uses_alone lower)) (stays upper lower further k.0)

pub calculations_steady : (v : Ident) (s t : Plan) (lower : Node) → First Moves false result_uses s t None
    → calculation_swaps (Subquery v t) lower ≡ calculation_swaps (Subquery v s) lower
calculations_steady v s t lower h = ap (λ (c : Bool). enumerates lower && c)
    (sym (same_none (sets lower) (needs s result_uses) (needs t result_uses) (moved_needs h)))

-- ---- as the program asks

pub no_pass : (upper lower : Node) (passes : Bool) → passes ≡ may_pass upper lower → passes ≡ false
    → false ≡ calculation_swaps upper lower
no_pass upper lower passes e h =
    sym (ap (λ (c : Bool). c && none_used (sets lower) (uses_alone upper)) (sym e ∙ h))

pub passes_where : (upper lower : Node) (passes answer : Bool) → passes ≡ may_pass upper lower → passes ≡ true
    → answer ≡ none_used (sets lower) (uses_alone upper) → answer ≡ calculation_swaps upper lower
passes_where upper lower passes answer e h f =
    f ∙ sym (ap (λ (c : Bool). c && none_used (sets lower) (uses_alone upper)) (sym e ∙ h))
