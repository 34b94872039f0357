-- One application at the first place, by the case of the walk: in the input of a node, at the node, in its
-- body.
use Rattle.std.proofs.Common.{◌≡◌, ◌∙◌, ◌+◌, ◌≤◌, Bool, true, false, true≢false, refl, ap, sym, subst, subst₂, arith}
use Rattle.std.specs.Prelude.{Option, Some, None}
use Rattle.aql_meaning.specs.Uses.{Uses}
use Rattle.aql_plan.specs.declared.facts.Facts.{Facts}
use Rattle.aql_plan.specs.Needs.{under, result_uses}
use Rattle.aql_plan.specs.Nodes.{over, with_body, body_in, weight}
use Rattle.aql_plan.specs.Plan.{Plan, Singleton, Over, Node, Subquery, top}
use Rattle.aql_plan.specs.Shapes.{HasNoFragment}
use Rattle.aql_rewrite.specs.declared.swap.Rename.{Rename}
use Rattle.aql_rewrite.specs.Apart.{is_start, has_body}
use Rattle.aql_rewrite.specs.Changed.{IsChanged}
use Rattle.aql_rewrite.specs.Placed.{IsPlaced}
use Rattle.aql_rewrite.specs.Places.{Rewriting, Stays, NoPlace, First, below}
use Rattle.aql_rewrite.specs.inner.Applications.{at_once}
use Rattle.aql_rewrite.specs.InputPlaces.{NoPlaceBelow}
use Rattle.aql_rewrite.specs.laws.Standing.{outside}
use Rattle.aql_rewrite.specs.laws.Taken.{Taken}
use Rattle.aql_rewrite.specs.laws.Walk.{found_here, found_inside, none_at, none_with, none_over}
use Rattle.aql_passes.specs.inner.Finished.{Finishes, IsRewritten, IsRewrittenHere}
use Rattle.aql_passes.specs.laws.Changing.{no_body}
use Rattle.aql_passes.specs.laws.Finishing.{over_top, input_ended, first_seen, no_place_seen}

pub weight_taken : (p m b : Plan) → Taken p m b → weight b + 1 ≤ weight p
weight_taken p m b t = subst (λ (o : Plan). weight b + 1 ≤ weight o) (sym t.was) (omega arith)

-- ---- a body that was taken out of q, where m is left, and one that was put in its place

pub body_held : (q s : Plan) → has_body (top q) ≡ true → q ≡ with_body q s → body_in (top q) ≡ Some s
body_held Singleton s h e = absurd (true≢false (sym h))
body_held (Over b (Subquery v r)) s h e = let k : r ≡ s = cc in ap Some k
body_held (Over b n) s h e = absurd (true≢false (sym h))

body_again : (q s t : Plan) → with_body (with_body q s) t ≡ with_body q t
body_again Singleton s t = refl
body_again (Over b (Subquery v r)) s t = refl
body_again (Over b n) s t = refl

pub body_put : (q m s t k : Plan) → m ≡ with_body q s → k ≡ with_body m t → k ≡ with_body q t
body_put q m s t k e f = f ∙ ap (λ (o : Plan). with_body o t) e ∙ body_again q s t

module _ (R : Rewriting) (us : Uses) where
  pub start_rewritten : (p : Plan) → is_start p ≡ true → IsRewritten R us p p false
  start_rewritten Singleton h = (tt, refl)
  start_rewritten (Over b n) h = absurd (true≢false (sym h))

  -- ---- as the program holds them: b was the input of p and m is left, k is m over c

  pub input_back : (p m b c k : Plan) → Taken p m b → k ≡ over m c → c ≡ b → k ≡ p
  input_back p m b c k t e f =
      over_top p m b c k t e ∙ ap (λ (o : Plan). Over o (top m)) f ∙ sym t.was

  pub input_rewritten : (p m b c k : Plan) → HasNoFragment p → Taken p m b → k ≡ over m c
      → IsRewritten R (under (top m) us) b c true → IsRewritten R us p k true
  input_rewritten p m b c k lone t e h =
      subst₂ (λ (o l : Plan). First R false us o l None) (sym t.was) (sym (over_top p m b c k t e))
      (below (subst (λ (o : Bool). First R o (under (top m) us) b c None)
      (sym (outside (top m) (subst HasNoFragment t.was lone).1)) h))

  pub node_rewritten : (p m b c k q : Plan) (x : Bool) → HasNoFragment p → Taken p m b → k ≡ over m c
      → IsRewritten R (under (top m) us) b c false → IsRewrittenHere R us k q x → IsRewritten R us p q x
  node_rewritten p m b c k q x lone t e h here =
      let back = input_back p m b c k t e h.1 in
      let none : Finishes R (under (top m) us) b b false false = record { reached = at_once; ended = h.0 } in
      let i = input_ended R us p m b b k false false lone t (e ∙ ap (over m) h.1) none in
      subst (λ (o : Plan). IsRewritten R us o q x) back (by x here i.0 i.1)
    where
      by : (x : Bool) → IsRewrittenHere R us k q x → k ≡ Over b (top k) → NoPlaceBelow R false us k b
          → IsRewritten R us k q x
      by true h made none = h b made none
      by false h made none = (none_over R us k b made none h.0, h.1)

  -- ---- a rule that does not look at what is used above

  pub rewritten_seen : ((us vs : Uses) (p q : Plan) (r : Option Rename) → R us p q r → R vs p q r)
      → (vs : Uses) (p q : Plan) (x : Bool) → IsRewritten R us p q x → IsRewritten R vs p q x
  rewritten_seen blind vs p q true h = first_seen R blind h vs
  rewritten_seen blind vs p q false h = (no_place_seen R blind false us vs p h.0, h.1)

  -- ---- at the node, and in its body

  pub top_rewritten : (p q : Plan) → IsChanged R us p q true → IsRewrittenHere R us p q true
  top_rewritten p q h = found_here R us p q None h

  pub bare_stays : (p q : Plan) → IsChanged R us p q false → has_body (top q) ≡ false
      → IsRewrittenHere R us p q false
  bare_stays p q h e = (
    none_at R us p h.0 (subst (λ (o : Plan). body_in (top o) ≡ None) h.1 (no_body (top q) e)),
    h.1,
  )

  pub body_rewritten : (vs : Uses) (p q m s t k : Plan) (x : Bool) → IsChanged R us p q false
      → has_body (top q) ≡ true → m ≡ with_body q Singleton → q ≡ with_body q s → k ≡ with_body m t
      → vs ≡ result_uses → IsRewritten R vs s t x → IsRewrittenHere R us p k x
  body_rewritten vs p q m s t k x h e f g l i r =
      subst (λ (o : Plan). IsRewrittenHere R us o k x) h.1
      (by x (subst (λ (o : Plan). Stays R us o) (sym h.1) h.0) (body_held q s e g)
      (body_put q m Singleton t k f l) r)
    where
      by : (x : Bool) → Stays R us q → body_in (top q) ≡ Some s → k ≡ with_body q t → IsRewritten R vs s t x
          → IsRewrittenHere R us q k x
      by true stays held put r = found_inside R us vs q s t k None stays held i r put
      by false stays held put r = (
        none_with R us q s stays held (subst (λ (ws : Uses). NoPlace R false ws s) i r.0),
        put ∙ ap (with_body q) r.1 ∙ sym g,
      )
