-- Whether a plan needs a variable of its start row, from its top node on down.
use Rattle.std.proofs.Common.{◌≡◌, ◌∙◌, ℕ, Bool, true, false, cond, ◌++◌, refl, ap, ap₂, sym}
use Rattle.std.specs.Prelude.{◌||◌, ◌==◌}
use Rattle.aql_tree.specs.declared.syntax.Ident.{Ident}
use Rattle.aql_tree.specs.declared.syntax.Ident.TheVariants.{Num}
use Rattle.aql_meaning.specs.Uses.{Uses, is_used}
use Rattle.aql_plan.specs.Needs.{needs, under, result_uses}
use Rattle.aql_plan.specs.Plan.{Plan, Over, Node, top}
use Rattle.aql_rewrite.specs.Nodes.{uses_alone, gives_new_rows, is_collect}
use Rattle.aql_rewrite.specs.laws.Levels.{used_either}
use Rattle.aql_rewrite.specs.laws.Walk.{under_new, under_old, needs_new, needs_old}

-- of its input a node needs what it uses, and what is used of its rows where it hands these on
pub input_needed : (x : Ident) (n : Node) (us : Uses) (own above used : Bool)
    → own ≡ is_used x (uses_alone n) → above ≡ is_used x us
    → used ≡ cond (gives_new_rows n) own (own || above) → used ≡ is_used x (under n us)
input_needed x n us own above used h k g = by (gives_new_rows n) (under_new n us) (under_old n us) g
  where
    by : (new : Bool) → (new ≡ true → under n us ≡ uses_alone n)
        → (new ≡ false → under n us ≡ uses_alone n ++ us)
        → used ≡ cond new own (own || above) → used ≡ is_used x (under n us)
    by true f l g = g ∙ h ∙ ap (is_used x) (sym (f refl))
    by false f l g = g ∙ ap₂ (λ (a b : Bool). a || b) h k ∙ sym (used_either x (uses_alone n) us)
        ∙ ap (is_used x) (sym (l refl))

pub start_needed : (x : Ident) (p b : Plan) (us : Uses) (below above needed : Bool) → p ≡ Over b (top p)
    → below ≡ is_used x (needs b (under (top p) us)) → above ≡ is_used x us
    → needed ≡ cond (is_collect (top p)) (below || above) below → needed ≡ is_used x (needs p us)
start_needed x p b us below above needed e h k g =
    by (is_collect (top p)) (needs_new p b us e) (needs_old p b us e) g
  where
    by : (collect : Bool) → (collect ≡ true → needs p us ≡ needs b (under (top p) us) ++ us)
        → (collect ≡ false → needs p us ≡ needs b (under (top p) us))
        → needed ≡ cond collect (below || above) below → needed ≡ is_used x (needs p us)
    by true f l g = g ∙ ap₂ (λ (c d : Bool). c || d) h k
        ∙ sym (used_either x (needs b (under (top p) us)) us) ∙ ap (is_used x) (sym (f refl))
    by false f l g = g ∙ h ∙ ap (is_used x) (sym (l refl))

-- the result of a body
pub result_needed : (v : ℕ) → (v == 0) ≡ is_used (Num v) result_uses
result_needed v = by (v == 0)
  where
    by : (b : Bool) → b ≡ (b || false)
    by true = refl
    by false = refl
