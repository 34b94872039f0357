-- The first place of a rule in an expression. A rule is a relation: R e q says that q may stand in place of
-- e. Places go by the order of the text, a child before its whole.
use Rattle.std.specs.Prelude.{List, [], ◌∷◌}
use Rattle.aql_tree.specs.Tree.{ExprTree}
use Rattle.aql_rewrite.specs.Children.{children}
use Rattle.aql_rewrite.specs.OverChildren.{over_children}

-- the rule doesn't apply at e
abbrev pub Stays : (ExprTree → ExprTree → Type 0) → ExprTree → Type 0
Stays R e = (q : ExprTree) → R e q → ⊥

mutual
  -- an expression without a place of the rule
  pub data NoneIn (R : ExprTree → ExprTree → Type 0) : ExprTree → Type 0 where
    none_in : {e : ExprTree} → NoneInAll R (children e) → Stays R e → NoneIn R e

  pub data NoneInAll (R : ExprTree → ExprTree → Type 0) : List ExprTree → Type 0 where
    none_left : NoneInAll R []
    none_then : {e : ExprTree} {es : List ExprTree} → NoneIn R e → NoneInAll R es → NoneInAll R (e ∷ es)

mutual
  -- the first place of an expression is rewritten: that of its children, or the whole where they have none
  pub data FirstIn (R : ExprTree → ExprTree → Type 0) : ExprTree → ExprTree → Type 0 where
    in_child : {e : ExprTree} {ps : List ExprTree} → FirstOf R (children e) ps
        → FirstIn R e (over_children e ps)
    at_whole : {e q : ExprTree} → NoneInAll R (children e) → R e q → FirstIn R e q

  -- the same of expressions one after another
  pub data FirstOf (R : ExprTree → ExprTree → Type 0) : List ExprTree → List ExprTree → Type 0 where
    first : {e d : ExprTree} {es : List ExprTree} → FirstIn R e d → FirstOf R (e ∷ es) (d ∷ es)
    later : {e : ExprTree} {es ds : List ExprTree} → NoneIn R e → FirstOf R es ds
        → FirstOf R (e ∷ es) (e ∷ ds)
