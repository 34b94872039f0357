-- New expressions for those of a node, each of which may stand in the place of the old one.
use Rattle.std.proofs.Common.{◌≡◌, List, [], ◌∷◌, ◌++◌, true, sym, subst, append-nil}
use Rattle.std.specs.List.{AllZip, AllByRecursion}
use Rattle.aql_tree.specs.declared.syntax.Ident.{Ident}
use Rattle.aql_tree.specs.Tree.{ExprTree}
use Rattle.aql_meaning.specs.Plain.{IsPlain}
use Rattle.aql_rewrite.specs.Keeps.{SameValue, uses_variable, Keeps}
use Rattle.aql_rewrite.specs.OverChildren.{first_or}
use Rattle.aql_rewrite.specs.laws.Related.{first_related}

-- q is plain, has the value of p at every row, and uses no variable that p doesn't use
pub record StandsFor (p q : ExprTree) : Type 0 where
  pub plain : IsPlain q
  pub value : SameValue p q
  pub variables : (x : Ident) → uses_variable x q ≡ true → uses_variable x p ≡ true

abbrev pub AllStand : List ExprTree → List ExprTree → Type 0
AllStand = AllZip StandsFor

pub kept_stand : (es ps : List ExprTree) → AllByRecursion IsPlain es → AllZip Keeps es ps → AllStand es ps
kept_stand [] [] k h = tt
kept_stand [] (p ∷ ps) k h = absurd h
kept_stand (e ∷ es) [] k h = absurd h
kept_stand (e ∷ es) (p ∷ ps) k h = (
  record { plain = h.0.plain k.0; value = h.0.same_value k.0; variables = h.0.no_variable },
  kept_stand es ps k.1 h.1,
)

pub first_stands : (e : ExprTree) (es ps : List ExprTree) → AllStand (e ∷ es) ps → StandsFor e (first_or e ps)
first_stands = first_related StandsFor

module _ (P : ExprTree → ExprTree → Type 0) where
  -- where none come after them
  pub alone : (es ps : List ExprTree) → AllZip P es ps → AllZip P (es ++ []) ps
  alone es ps h = subst (λ (ds : List ExprTree). AllZip P ds ps) (sym (append-nil es)) h

  pub regrouped : (es fs gs ps : List ExprTree) → AllZip P ((es ++ fs) ++ gs) ps
      → AllZip P (es ++ (fs ++ gs)) ps
  regrouped [] fs gs ps h = h
  regrouped (e ∷ es) fs gs [] h = absurd h
  regrouped (e ∷ es) fs gs (p ∷ ps) h = (h.0, regrouped es fs gs ps h.1)
