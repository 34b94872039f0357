-- From the lowest node up, each node once, is a way of applications each at the first place, where what a
-- node uses of its input stays.
use Rattle.std.proofs.Common.{◌≡◌, ◌∙◌, ◌+◌, ◌<◌, ◌++◌, Bool, true, false, true≢false, refl, ap, sym, subst, subst₂, arith}
use Rattle.std.specs.Prelude.{Option, Some, None}
use Rattle.aql_tree.specs.declared.syntax.Ident.{Ident}
use Rattle.aql_meaning.specs.Uses.{Uses}
use Rattle.aql_plan.specs.Needs.{under, needs, result_uses}
use Rattle.aql_plan.specs.Nodes.{over, body_in, with_body, weight}
use Rattle.aql_plan.specs.Plan.{Plan, Singleton, Over, Node, Subquery, Collect, top}
use Rattle.aql_plan.specs.Shapes.{HasNoFragment}
use Rattle.aql_rewrite.specs.declared.swap.Rename.{Rename}
use Rattle.aql_rewrite.specs.Places.{renamed_by, Rewriting, Stays, NoPlace, First, below, here, body}
use Rattle.aql_rewrite.specs.laws.Walk.{none_at, none_over, found_here}
use Rattle.aql_rewrite.specs.inner.Applications.{Applications, at_once, next, Application}
use Rattle.aql_rewrite.specs.laws.StepByStep.{joined}
use Rattle.aql_rewrite.specs.Apart.{has_body}
use Rattle.aql_rewrite.specs.laws.Taken.{Taken, Bodied}
use Rattle.aql_rewrite.specs.Changed.{Changes}
use Rattle.aql_passes.specs.inner.Finished.{Finishes}
use Rattle.aql_passes.specs.laws.Finishing.{first_nameless, input_reached, input_ended, stayed_finishes}

pub no_body : (n : Node) → has_body n ≡ false → body_in n ≡ None
no_body (Subquery v s) h = absurd (true≢false h)
no_body n h = refl

-- ---- how many nodes

pub twice_below : (p m b : Plan) → Taken p m b → weight b + (weight b + 1) < weight p + weight p
twice_below p m b t = subst (λ (o : Plan). weight b + (weight b + 1) < weight o + weight o) (sym t.was)
    (omega arith)

pub twice_inside : (p m b s : Plan) → Taken p m b → Bodied (top m) s
    → weight s + weight s < weight p + weight p
twice_inside p m b s t d =
    subst (λ (o : Plan). weight s + weight s < weight o + weight o) (sym (t.was ∙ ap (Over b) d.was))
    (omega arith)

-- ---- what is used of the start row

needs_over : (b c : Plan) (n : Node) → ((vs : Uses) → needs c vs ≡ needs b vs)
    → (vs : Uses) → needs (Over c n) vs ≡ needs (Over b n) vs
needs_over b c (Collect xs es gs i s) h vs =
    ap (λ (ws : Uses). ws ++ vs) (h (under (Collect xs es gs i s) vs))
needs_over b c n h vs = h (under n vs)

module _ (R : Rewriting)
    (law : (us : Uses) (p q : Plan) (r : Option Rename) → R us p q r → Changes R us p q r) where
  abbrev Way : Uses → Plan → Plan → Bool → Bool → Type 0
  Way us p q x y = Applications Plan (Application R us) p q x y

  first_needs : {inside : Bool} {us : Uses} {p q : Plan} {r : Option Rename} → First R inside us p q r
      → (vs : Uses) → needs q vs ≡ needs p vs
  first_needs (below {b = b} {c = c} {n = n} {r = r} h) vs =
      subst (λ (o : Option Rename). needs (Over c (renamed_by o n)) vs ≡ needs (Over b n) vs)
      (sym (first_nameless R (λ us p q r h. (law us p q r h).nameless) h))
      (needs_over b c n (first_needs h) vs)
  first_needs (here {us = us} {b = b} {q = q} {n = n} {r = r} m h) vs = (law us (Over b n) q r h).needed vs
  first_needs (body {b = b} {s = s} {t = t} {x = x} m g h) vs =
      ap (λ (ws : Uses). needs b (ws ++ vs)) (first_needs h result_uses)

  way_needs : {us : Uses} {p q : Plan} {x y : Bool} → Way us p q x y → (vs : Uses) → needs q vs ≡ needs p vs
  way_needs at_once vs = refl
  way_needs (next k s) vs = first_needs s vs ∙ way_needs k vs

  -- ---- the body of a node

  stays_whole : (us : Uses) (b s : Plan) (v : Ident) → Stays R us (Over b (Subquery v s))
  stays_whole us b s v q r h = none s (law us (Over b (Subquery v s)) q r h).bare.0
    where
      none : (s : Plan) → Some s ≡ None → ⊥
      none s e = cc

  input_none : (us : Uses) (b : Plan) (v : Ident) {s t : Plan} {x y : Bool}
      → NoPlace R false (under (Subquery v s) us) b → Way result_uses s t x y
      → NoPlace R false (under (Subquery v t) us) b
  input_none us b v h k =
      subst (λ (ws : Uses). NoPlace R false (ws ++ us) b) (sym (way_needs k result_uses)) h

  way_inside : (us : Uses) (b : Plan) (v : Ident) {s t : Plan} {x y : Bool}
      → NoPlace R false (under (Subquery v s) us) b → Way result_uses s t x y
      → Way us (Over b (Subquery v s)) (Over b (Subquery v t)) x y
  way_inside us b v h at_once = at_once
  way_inside us b v h (next {m = m} k s) =
      next (way_inside us b v h k) (body (input_none us b v h k) (stays_whole us b m v) s)

  -- ---- as the program holds them: b was the input of p and m is left, and c is what b came to

  module _ (us : Uses) (p m b c : Plan) (x y : Bool) (lone : HasNoFragment p) (t : Taken p m b)
      (done : Finishes R (under (top m) us) b c x y) where
    -- a node without a body over this, with or without a place
    pub changed_finishes : (k q : Plan) → k ≡ over m c → R us k q None → Finishes R us p q x true
    changed_finishes k q made h =
        let i = input_ended R us p m b c k x y lone t made done in
        let l = law us k q None h in record {
          reached = next (input_reached R us p m b c k x y lone t made done)
              (found_here R us k q None h c i.0 i.1);
          ended = none_over R us q c (l.input c i.0)
              (subst₂ (λ (o : Bool) (ws : Uses). NoPlace R o ws c) (sym l.inside) (sym (l.uses us)) i.1)
              (none_at R us q l.once l.bare.1);
        }

    pub bare_finishes : (k q : Plan) → k ≡ over m c → has_body (top m) ≡ false → Stays R us k → q ≡ k
        → Finishes R us p q x y
    bare_finishes k q made h stays e =
        let n = ap top (made ∙ ap (λ (o : Plan). over o c) t.left) in
        subst (λ (o : Plan). Finishes R us p o x y) (sym e)
        (stayed_finishes R us p m b c k x y lone t made done
        (none_at R us k stays (ap body_in n ∙ no_body (top m) h)))

    -- a node with a body: s was this, and d is what it came to
    pub body_finishes : (s d l j q : Plan) (z : Bool) → Bodied (top m) s → l ≡ with_body m Singleton
        → j ≡ with_body l d → q ≡ over j c → Finishes R result_uses s d y z → Finishes R us p q x z
    body_finishes s d l j q z i e f g h =
        let v = i.var in
        let start = t.left ∙ ap (Over Singleton) i.was in
        let made : q ≡ Over c (Subquery v d)
        = g ∙ ap (λ (o : Plan). over o c) (f ∙ ap (λ (o : Plan). with_body o d)
        (e ∙ ap (λ (o : Plan). with_body o Singleton) start)) in
        let none = subst (λ (n : Node). NoPlace R false (under n us) c) i.was done.ended in
        let reached = subst (λ (n : Node). Way us p (Over c n) x y) i.was
        (input_reached R us p m b c (Over c (top m)) x y lone t
        (sym (ap (λ (o : Plan). over o c) t.left)) done) in
        subst (λ (o : Plan). Finishes R us p o x z) (sym made) (record {
          reached = joined Plan (Application R us) reached (way_inside us c v none h.reached);
          ended = (input_none us c v none h.reached, (stays_whole us c d v, h.ended));
        })
