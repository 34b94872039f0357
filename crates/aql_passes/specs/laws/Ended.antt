-- Each part to its end, in order, and then the whole, is a way of applications each at the first place.
use Rattle.std.proofs.Common.{◌≡◌, ◌∙◌, ◌<◌, ◌≤◌, Bool, true, List, [], ◌∷◌, ◌++◌, length, refl, ap, sym, subst, arith}
use Rattle.aql_tree.specs.Tree.{ExprTree}
use Rattle.aql_rewrite.specs.FirstInExpr.{Stays, none_in, NoneInAll, none_left}
use Rattle.aql_rewrite.specs.FirstInExpr.{FirstIn, in_child, at_whole, FirstOf, first, later}
use Rattle.aql_rewrite.specs.OverChildren.{over_children}
use Rattle.aql_rewrite.specs.Children.{children}
use Rattle.aql_rewrite.specs.Size.{size}
use Rattle.aql_rewrite.specs.ExprView.{each_over}
use Rattle.aql_rewrite.specs.laws.FirstKept.{first_in_smaller}
use Rattle.aql_rewrite.specs.laws.OneAfter.{none_more, first_after}
use Rattle.aql_rewrite.specs.laws.PartsBack.{parts_back}
use Rattle.aql_rewrite.specs.inner.Applications.{Applications, at_once, next}
use Rattle.aql_passes.specs.inner.Ends.{Ends, AllEnd}
use Rattle.aql_passes.specs.laws.PartsAgain.{longer, parts_own, parts_again}
use Rattle.aql_rewrite.specs.laws.StepByStep.{keeps_on, joined, along}

longer_same : (es : List ExprTree) → longer es es ≡ es
longer_same [] = refl
longer_same (e ∷ es) = ap (λ ds. e ∷ ds) (longer_same es)

-- as many new ones all come in
pub each_new : (es ds : List ExprTree) → length ds ≡ length es → each_over es ds ≡ ds
each_new [] [] h = refl
each_new [] (d ∷ ds) h = absurd (let k : ⊥ = omega (arith, h) in k)
each_new (e ∷ es) [] h = absurd (let k : ⊥ = omega (arith, h) in k)
each_new (e ∷ es) (d ∷ ds) h = ap (λ cs. d ∷ cs) (each_new es ds (omega (arith, h)))

module _ (R : ExprTree → ExprTree → Type 0) where
  -- ---- one after another

  first_before : {es ds : List ExprTree} (more : List ExprTree) → FirstOf R es ds
      → FirstOf R (es ++ more) (ds ++ more)
  first_before more (first h) = first h
  first_before more (later n h) = later n (first_before more h)

  pub none_yet : (x : Bool) → AllEnd R [] [] x x
  none_yet x = record { reached = at_once; ended = none_left }

  pub one_more : (es ds : List ExprTree) (e d : ExprTree) (x y z : Bool) → AllEnd R es ds x y → Ends R e d y z
      → AllEnd R (es ++ e ∷ []) (ds ++ d ∷ []) x z
  one_more es ds e d x y z h k = record {
    reached = joined (List ExprTree) (FirstOf R)
        (along (List ExprTree) (List ExprTree) (FirstOf R) (FirstOf R) (λ cs. cs ++ e ∷ [])
        (λ bs cs f. first_before (e ∷ []) f) h.reached)
        (along ExprTree (List ExprTree) (FirstIn R) (FirstOf R) (λ c. ds ++ c ∷ [])
        (λ b c f. first_after R [] h.ended f) k.reached);
    ended = none_more R h.ended k.ended;
  }

  -- ---- in the whole

  first_many : {es ds : List ExprTree} → FirstOf R es ds → length ds ≡ length es
  first_many (first h) = refl
  first_many (later n h) = let k = first_many h in omega (arith, k)

  pub first_longer : {es ds : List ExprTree} → FirstOf R es ds → longer ds es ≡ ds
  first_longer (first {d = d} {es = es} h) = ap (λ cs. d ∷ cs) (longer_same es)
  first_longer (later {e = e} n h) = ap (λ cs. e ∷ cs) (first_longer h)

  pub as_many : {es ds : List ExprTree} {x y : Bool} → Applications (List ExprTree) (FirstOf R) es ds x y
      → length ds ≡ length es
  as_many {es = es} h = keeps_on (List ExprTree) (FirstOf R) (λ cs. length cs ≡ length es)
      (λ bs cs f k. first_many f ∙ k) h refl

  module _ (e : ExprTree) (es : List ExprTree) (of : es ≡ children e) where
    new_parts : {ps : List ExprTree} {x y : Bool} → Applications (List ExprTree) (FirstOf R) es ps x y
        → children (over_children e ps) ≡ ps
    new_parts {ps = ps} h = parts_back e ps ∙ each_new (children e) ps (as_many h ∙ ap length of)

    in_whole : {ps : List ExprTree} {x y : Bool} → Applications (List ExprTree) (FirstOf R) es ps x y
        → Applications ExprTree (FirstIn R) e (over_children e ps) x y
    in_whole (at_once {x = x}) = subst (λ (d : ExprTree). Applications ExprTree (FirstIn R) e d x x)
        (sym (ap (over_children e) of ∙ parts_own e)) at_once
    in_whole (next {m = ms} {d = ps} k f) =
        next (in_whole k) (subst (λ (d : ExprTree). FirstIn R (over_children e ms) d)
        (parts_again e ms ps ∙ ap (over_children e) (first_longer f))
        (in_child (subst (λ (cs : List ExprTree). FirstOf R cs ps) (sym (new_parts k)) f)))

  -- by its parts
  module _ (e whole : ExprTree) (es ps : List ExprTree) (x y : Bool) (of : es ≡ children e)
      (all : AllEnd R es ps x y) (made : whole ≡ over_children e ps) where
    reached : Applications ExprTree (FirstIn R) e whole x y
    reached = subst (λ (d : ExprTree). Applications ExprTree (FirstIn R) e d x y) (sym made)
        (in_whole e es of all.reached)

    pub no_part : NoneInAll R (children whole)
    no_part = subst (λ (cs : List ExprTree). NoneInAll R cs)
        (sym (ap children made ∙ new_parts e es of all.reached)) all.ended

    pub whole_ends : (d : ExprTree) (z : Bool) → Ends R whole d y z → Ends R e d x z
    whole_ends d z h = record { reached = joined ExprTree (FirstIn R) reached h.reached; ended = h.ended }

    pub no_larger : ((p q : ExprTree) → R p q → size q < size p) → size whole ≤ size e
    no_larger falls = keeps_on ExprTree (FirstIn R) (λ d. size d ≤ size e)
        (λ c d f l. (let m = first_in_smaller R falls f in omega (arith, l, m))) reached (omega arith)

  -- by itself, where no part has a place
  module _ (e : ExprTree) (x : Bool) (no_part : NoneInAll R (children e)) where
    pub at_end : Stays R e → Ends R e e x x
    at_end s = record { reached = at_once; ended = none_in no_part s }

    pub goes_on : (q d : ExprTree) (z : Bool) → R e q → Ends R q d true z → Ends R e d x z
    goes_on q d z r h = record {
      reached = joined ExprTree (FirstIn R) (next at_once (at_whole no_part r)) h.reached;
      ended = h.ended;
    }

-- where the parts stay as they are
pub made_of_own : (e : ExprTree) (es : List ExprTree) → es ≡ children e → e ≡ over_children e es
made_of_own e es of = sym (ap (over_children e) of ∙ parts_own e)
