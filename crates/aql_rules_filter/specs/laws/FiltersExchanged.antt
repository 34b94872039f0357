-- That a Filter goes down is a matter of two nodes alone.
use Rattle.std.proofs.Common.{◌≡◌, ◌∙◌, Bool, true, false, true≢false, refl, ap, sym}
use Rattle.std.specs.Prelude.{Option, None, ◌&&◌}
use Rattle.std.proofs.lemmas.Bool.{and_parts, and_from}
use Rattle.aql_tree.specs.declared.syntax.Ident.{Ident}
use Rattle.aql_tree.specs.Tree.{ExprTree}
use Rattle.aql_meaning.specs.Uses.{Uses, uses}
use Rattle.aql_plan.specs.Needs.{sets}
use Rattle.aql_plan.specs.Plan.{Plan, Singleton, Over, Node, Subquery, Filter, top}
use Rattle.aql_rewrite.specs.declared.swap.Rename.{Rename}
use Rattle.aql_rewrite.specs.Exchanged.{Swaps}
use Rattle.aql_rules_filter.specs.MoveFiltersUp.{may_swap, none_used, MovesUp, swapped}
use Rattle.aql_rules_filter.specs.Readers.{filter_in}

-- a Filter over such a node goes below it
abbrev pub filter_swaps : Node → Node → Bool
filter_swaps (Filter c) n = may_swap n && none_used (sets n) (uses c)
filter_swaps m n = false

pub filters_exchanged : (us : Uses) (b : Plan) (upper lower : Node) → filter_swaps upper lower ≡ true
    → MovesUp us (Over (Over b lower) upper) (Over (Over b upper) lower) None
filters_exchanged us b (Filter c) lower h =
    let k = and_parts (may_swap lower) (none_used (sets lower) (uses c)) h in swapped k.0 k.1
filters_exchanged us b upper lower h = absurd (true≢false (sym h))

pub filters_alone : (us : Uses) (p q : Plan) (r : Option Rename) → MovesUp us p q r → Swaps filter_swaps p
filters_alone us _ _ _ (swapped {n = n} {c = c} h g) =
    and_from (may_swap n) (none_used (sets n) (uses c)) h g

pub filters_apart : (upper lower further : Node) → filter_swaps upper lower ≡ true
    → filter_swaps lower further ≡ false
filters_apart (Filter c) (Filter d) further h = absurd (true≢false (sym h))
filters_apart (Filter c) lower further h = refl
filters_apart upper lower further h = absurd (true≢false (sym h))

pub filters_steady : (v : Ident) (s t : Plan) (lower : Node)
    → filter_swaps (Subquery v t) lower ≡ filter_swaps (Subquery v s) lower
filters_steady v s t lower = refl

-- ---- as the program asks

pub no_filter : (p : Plan) (lower : Node) → filter_in p ≡ None → false ≡ filter_swaps (top p) lower
no_filter Singleton lower h = refl
no_filter (Over b (Filter c)) lower h = cc
no_filter (Over b n) lower h = refl

pub filter_goes : (p b : Plan) (c : ExprTree) (lower : Node) (us : Uses) (goes : Bool)
    → p ≡ Over b (Filter c) → us ≡ uses c → goes ≡ (may_swap lower && none_used (sets lower) us)
    → goes ≡ filter_swaps (top p) lower
filter_goes p b c lower us goes e f h =
    h ∙ ap (λ (vs : Uses). may_swap lower && none_used (sets lower) vs) f
    ∙ sym (ap (λ (o : Plan). filter_swaps (top o) lower) e)
