-- One list of uses more, and one less.
use Rattle.std.proofs.Common.{◌≡◌, ◌∙◌, ℕ, Bool, true, false, List, [], ◌∷◌, ◌++◌, length, take, ap, sym, append_assoc, append-nil}
use Rattle.std.specs.Prelude.{◌||◌}
use Rattle.std.proofs.lemmas.List.{take_at}
use Rattle.std.proofs.lemmas.List.Folds.{list_any-append}
use Rattle.aql_tree.specs.declared.syntax.Ident.{Ident}
use Rattle.aql_meaning.specs.Row.{same_ident}
use Rattle.aql_meaning.specs.Uses.{Uses, used_variable, is_used}
use Rattle.aql_plan.specs.declared.uses.Use.{Use}
use Rattle.aql_plan.specs.Used.{uses_tree}
use Rattle.aql_rewrite.specs.View.{above_uses}

pub pushed : (levels : List (List Use)) (own : List Use)
    → above_uses (levels ++ own ∷ []) ≡ uses_tree own ++ above_uses levels
pushed [] own = sym (append-nil (uses_tree own))
pushed (l ∷ levels) own = ap (λ (us : Uses). us ++ uses_tree l) (pushed levels own)
    ∙ append_assoc (uses_tree own) (above_uses levels) (uses_tree l)

pub nearest_first : (levels further : List (List Use)) (own : List Use) → levels ≡ further ++ own ∷ []
    → above_uses levels ≡ uses_tree own ++ above_uses further
nearest_first levels further own e = ap above_uses e ∙ pushed further own

pub used_either : (x : Ident) (us vs : Uses) → is_used x (us ++ vs) ≡ (is_used x us || is_used x vs)
used_either x us vs = list_any-append (λ u. same_ident x (used_variable u)) us vs

pub popped : (levels more : List (List Use)) (own : List Use) (n : ℕ) → length levels ≡ n
    → more ≡ levels ++ own ∷ [] → take n more ≡ levels
popped levels more own n e h = ap (take n) h ∙ take_at levels (own ∷ []) n e

-- the nearest list is appended, and then the others
pub added : (to mid : Uses) (levels further : List (List Use)) (own lent : List Use)
    → levels ≡ further ++ own ∷ [] → lent ≡ own → mid ≡ to ++ uses_tree lent
    → mid ++ above_uses further ≡ to ++ above_uses levels
added to mid levels further own lent e f g =
    ap (λ (us : Uses). us ++ above_uses further) (g ∙ ap (λ (l : List Use). to ++ uses_tree l) f)
    ∙ append_assoc to (uses_tree own) (above_uses further)
    ∙ ap (λ (us : Uses). to ++ us) (sym (nearest_first levels further own e))

used_at : (x : Ident) (levels further : List (List Use)) (own lent : List Use)
    → levels ≡ further ++ own ∷ [] → lent ≡ own
    → is_used x (above_uses levels) ≡ (is_used x (uses_tree lent) || is_used x (above_uses further))
used_at x levels further own lent e f =
    ap (is_used x) (nearest_first levels further own e)
    ∙ used_either x (uses_tree own) (above_uses further)
    ∙ ap (λ (l : List Use). is_used x (uses_tree l) || is_used x (above_uses further)) (sym f)

pub used_nearest : (x : Ident) (levels further : List (List Use)) (own lent : List Use) (b : Bool)
    → levels ≡ further ++ own ∷ [] → lent ≡ own → b ≡ is_used x (uses_tree lent) → b ≡ true
    → true ≡ is_used x (above_uses levels)
used_nearest x levels further own lent b e f g h =
    sym (used_at x levels further own lent e f
    ∙ ap (λ (c : Bool). c || is_used x (above_uses further)) (sym g ∙ h))

pub used_further : (x : Ident) (levels further : List (List Use)) (own lent : List Use) (b d : Bool)
    → levels ≡ further ++ own ∷ [] → lent ≡ own → b ≡ is_used x (uses_tree lent) → b ≡ false
    → d ≡ is_used x (above_uses further) → d ≡ is_used x (above_uses levels)
used_further x levels further own lent b d e f g h k =
    k ∙ sym (used_at x levels further own lent e f
    ∙ ap (λ (c : Bool). c || is_used x (above_uses further)) (sym g ∙ h))
