-- A body in which calculations go down needs the same variables.
use Rattle.std.proofs.Common.{◌≡◌, ◌∙◌, List, [], ◌∷◌, ◌++◌, Bool, true, false, true≢false, refl, ap, ap₂, sym, subst}
use Rattle.std.specs.Prelude.{Option, None, not, ◌&&◌, ◌||◌}
use Rattle.aql_tree.specs.declared.syntax.Ident.{Ident}
use Rattle.aql_meaning.specs.Uses.{Uses, is_used}
use Rattle.aql_plan.specs.Needs.{under, needs, result_uses}
use Rattle.aql_plan.specs.Plan.{Plan, Singleton, Over, Node, Calculation, Subquery, Collect, Return}
use Rattle.aql_rewrite.specs.declared.swap.Rename.{Rename}
use Rattle.aql_rewrite.specs.Nodes.{uses_alone, gives_new_rows}
use Rattle.aql_rewrite.specs.Places.{renamed_by, First, below, here, body}
use Rattle.aql_rewrite.specs.laws.Levels.{used_either}
use Rattle.aql_rewrite.specs.laws.Walk.{under_new, under_old}
use Rattle.aql_rules_calc.specs.MoveCalculationsUp.{enumerates_or_sorts, may_pass, none_used, Moves, swapped}

abbrev pub SameUsed : Uses → Uses → Type 0
SameUsed us vs = (x : Ident) → is_used x us ≡ is_used x vs

same_append : (us vs ws xs : Uses) → SameUsed us vs → SameUsed ws xs → SameUsed (us ++ ws) (vs ++ xs)
same_append us vs ws xs h k x =
    used_either x us ws ∙ ap₂ (λ (a b : Bool). a || b) (h x) (k x) ∙ sym (used_either x vs xs)

same_turned : (us vs ws : Uses) → SameUsed (us ++ (vs ++ ws)) (vs ++ (us ++ ws))
same_turned us vs ws x =
    used_either x us (vs ++ ws) ∙ ap (λ (b : Bool). is_used x us || b) (used_either x vs ws)
    ∙ turned (is_used x us) (is_used x vs) (is_used x ws)
    ∙ sym (ap (λ (b : Bool). is_used x vs || b) (used_either x us ws)) ∙ sym (used_either x vs (us ++ ws))
  where
    turned : (a b c : Bool) → (a || (b || c)) ≡ (b || (a || c))
    turned true true c = refl
    turned true false c = refl
    turned false true c = refl
    turned false false c = refl

same_under : (n : Node) (us vs : Uses) → SameUsed us vs → SameUsed (under n us) (under n vs)
same_under (Collect xs es gs i s) us vs h = λ x. refl
same_under (Return distinct e) us vs h = λ x. refl
same_under n us vs h = by (gives_new_rows n) refl
  where
    by : (b : Bool) → gives_new_rows n ≡ b → SameUsed (under n us) (under n vs)
    by true e = λ x. ap (is_used x) (under_new n us e ∙ sym (under_new n vs e))
    by false e = λ x. ap (is_used x) (under_old n us e)
        ∙ same_append (uses_alone n) (uses_alone n) us vs (λ y. refl) h x
        ∙ sym (ap (is_used x) (under_old n vs e))

same_needs : (p : Plan) (us vs : Uses) → SameUsed us vs → SameUsed (needs p us) (needs p vs)
same_needs Singleton us vs h = h
same_needs (Over b (Collect xs es gs i s)) us vs h =
    let below = needs b (under (Collect xs es gs i s) us) in same_append below below us vs (λ x. refl) h
same_needs (Over b n) us vs h = same_needs b (under n us) (under n vs) (same_under n us vs h)

same_over : (b c : Plan) (n : Node) (us : Uses) → SameUsed (needs b (under n us)) (needs c (under n us))
    → SameUsed (needs (Over b n) us) (needs (Over c n) us)
same_over b c (Collect xs es gs i s) us h =
    same_append (needs b (under (Collect xs es gs i s) us))
    (needs c (under (Collect xs es gs i s) us)) us us h (λ x. refl)
same_over b c n us h = h

-- ---- two nodes that swap places

old_upper : (upper lower : Node) → may_pass upper lower ≡ true → gives_new_rows upper ≡ false
old_upper (Calculation x e) lower h = refl
old_upper (Subquery x s) lower h = refl
old_upper upper lower h = absurd (true≢false (sym h))

old_lower : (upper lower : Node) → may_pass upper lower ≡ true → gives_new_rows lower ≡ false
old_lower (Calculation x e) lower h = by lower h
  where
    by : (lower : Node) → enumerates_or_sorts lower ≡ true → gives_new_rows lower ≡ false
    by (Collect xs es gs i s) h = absurd (true≢false (sym h))
    by (Return distinct e) h = absurd (true≢false (sym h))
    by lower h = refl
old_lower (Subquery x s) (Collect xs es gs i t) h = absurd (true≢false (sym h))
old_lower (Subquery x s) (Return distinct e) h = absurd (true≢false (sym h))
old_lower (Subquery x s) lower h = refl
old_lower upper lower h = absurd (true≢false (sym h))

plain_needs : (b : Plan) (n : Node) (us : Uses) → gives_new_rows n ≡ false
    → needs (Over b n) us ≡ needs b (uses_alone n ++ us)
plain_needs b (Collect xs es gs i s) us h = absurd (true≢false h)
plain_needs b (Return distinct e) us h = absurd (true≢false h)
plain_needs b n us h = refl

swap_needs : (b : Plan) (upper lower : Node) (us : Uses) → may_pass upper lower ≡ true
    → SameUsed (needs (Over (Over b lower) upper) us) (needs (Over (Over b upper) lower) us)
swap_needs b upper lower us h x =
    ap (is_used x) (plain_needs (Over b lower) upper us (old_upper upper lower h)
    ∙ plain_needs b lower (uses_alone upper ++ us) (old_lower upper lower h))
    ∙ same_needs b (uses_alone lower ++ (uses_alone upper ++ us))
    (uses_alone upper ++ (uses_alone lower ++ us))
    (same_turned (uses_alone lower) (uses_alone upper) us) x
    ∙ sym (ap (is_used x) (plain_needs (Over b upper) lower us (old_lower upper lower h)
    ∙ plain_needs b upper (uses_alone lower ++ us) (old_upper upper lower h)))

-- ---- one application

renames_nothing : {inside : Bool} {us : Uses} {p q : Plan} {r : Option Rename} → First Moves inside us p q r
    → r ≡ None
renames_nothing (below h) = renames_nothing h
renames_nothing (here m (swapped h g)) = refl
renames_nothing (body m g h) = refl

pub moved_needs : {inside : Bool} {us : Uses} {p q : Plan} {r : Option Rename} → First Moves inside us p q r
    → SameUsed (needs p us) (needs q us)
moved_needs (below {us = us} {b = b} {c = c} {n = n} {r = r} h) =
    subst (λ (o : Option Rename). SameUsed (needs (Over b n) us) (needs (Over c (renamed_by o n)) us))
    (sym (renames_nothing h)) (same_over b c n us (moved_needs h))
moved_needs (here {us = us} m (swapped {b = b} {upper = upper} {lower = lower} h g)) =
    swap_needs b upper lower us h
moved_needs (body {us = us} {b = b} {s = s} {t = t} {x = y} m g h) =
    same_needs b (needs s result_uses ++ us) (needs t result_uses ++ us)
    (same_append (needs s result_uses) (needs t result_uses) us us (moved_needs h) (λ x. refl))

pub same_none : (xs : List Ident) (us vs : Uses) → SameUsed us vs → none_used xs us ≡ none_used xs vs
same_none [] us vs h = refl
same_none (x ∷ xs) us vs h = ap₂ (λ (a b : Bool). not a && b) (h x) (same_none xs us vs h)
