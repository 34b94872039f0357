-- How the pass goes on at a node whose input or body was taken out.
use Rattle.std.proofs.Common.{◌≡◌, ◌∙◌, ◌+◌, ◌*◌, ◌<◌, Bool, true, false, true≢false, refl, ap, sym, subst, subst₂, arith}
use Rattle.std.specs.Prelude.{Option, None}
use Rattle.aql_tree.specs.declared.syntax.Ident.{Ident}
use Rattle.aql_meaning.specs.Uses.{Uses}
use Rattle.aql_plan.specs.Needs.{result_uses}
use Rattle.aql_plan.specs.Nodes.{over, with_body, weight}
use Rattle.aql_plan.specs.Plan.{Plan, Singleton, Over, Node, Subquery, top}
use Rattle.aql_plan.specs.Shapes.{HasNoFragment}
use Rattle.aql_rewrite.specs.declared.swap.Rename.{Rename}
use Rattle.aql_rewrite.specs.Places.{Rewriting, First}
use Rattle.aql_rewrite.specs.Apart.{is_start, has_body}
use Rattle.aql_rewrite.specs.inner.Applications.{at_once}
use Rattle.aql_rewrite.specs.laws.Taken.{Taken, taken, Bodied, lone_input}
use Rattle.aql_rewrite.specs.Exchanged.{goes_below, Swaps}
use Rattle.aql_passes.specs.inner.Settled.{Settled, Settles}
use Rattle.aql_passes.specs.laws.Settling.{over_settled, stayed, sunk, body_settled}

pub taken_where : (swaps : Node → Node → Bool) (n : Node) (p m b : Plan) → goes_below swaps p n ≡ true
    → m ≡ over p Singleton → p ≡ over p b → Taken p m b
taken_where swaps n p m b h e f = taken p m b (by p h) e f
  where
    by : (p : Plan) → goes_below swaps p n ≡ true → is_start p ≡ false
    by Singleton h = absurd (true≢false (sym h))
    by (Over c lower) h = refl

-- ---- how many nodes

pub fewer_below : (p m b : Plan) → Taken p m b → 3 * weight b + 2 < 3 * weight p + 2
fewer_below p m b h = subst (λ (o : Plan). 3 * weight b + 2 < 3 * weight o + 2) (sym h.was) (omega arith)

pub as_many : (p m b c : Plan) → Taken p m b → weight c ≡ weight b
    → 3 * weight (Over c (top m)) + 1 < 3 * weight p + 2
as_many p m b c h e = subst (λ (o : Plan). 3 * weight (Over c (top m)) + 1 < 3 * weight o + 2) (sym h.was)
    (omega (arith, e))

pub fewer_under : (n : Node) (p m b : Plan) → Taken p m b
    → 3 * weight (Over b n) + 1 < 3 * weight (Over p n) + 1
fewer_under n p m b h =
    subst (λ (o : Plan). 3 * weight (Over b n) + 1 < 3 * weight (Over o n) + 1) (sym h.was) (omega arith)

pub fewer_inside : (n : Node) (b s : Plan) → Bodied n s → 3 * weight s + 2 < 3 * weight (Over b n)
fewer_inside n b s h =
    subst (λ (o : Node). 3 * weight s + 2 < 3 * weight (Over b o)) (sym h.was) (omega arith)

-- ---- without fragments

pub lone_under : (n : Node) (p m b : Plan) → Taken p m b → HasNoFragment (Over p n)
    → HasNoFragment (Over b n)
lone_under n p m b h lone = ((lone_input p m b h lone.0).0, lone.1)

pub settled_input : (swaps : Node → Node → Bool) (p m b : Plan) → Taken p m b → Settled swaps p
    → Settled swaps b
settled_input swaps p m b h k = (subst (Settled swaps) h.was k).0

-- ---- plans that come to their end

module _ (R : Rewriting) (swaps : Node → Node → Bool) where
  pub start_settled : (p : Plan) (x : Bool) → is_start p ≡ true → Settles R swaps p p x x
  start_settled Singleton x h = record { reached = λ us. at_once; settled = tt; lone = tt; nodes = refl }
  start_settled (Over b n) x h = absurd (true≢false (sym h))

  pub plan_settled : (p m b c q : Plan) (x y z : Bool) → HasNoFragment p → Taken p m b
      → Settles R swaps b c x y → Settles R swaps (Over c (top m)) q y z → Settles R swaps p q x z
  plan_settled p m b c q x y z lone h k l =
      subst (λ (o : Plan). Settles R swaps o q x z) (sym h.was)
      (over_settled R swaps b c q (top m) x y z (lone_input p m b h lone).1 k l)

  pub node_stayed : (m b q : Plan) (x : Bool) → m ≡ Over Singleton (top m) → HasNoFragment (Over b (top m))
      → Settled swaps b → goes_below swaps b (top m) ≡ false → has_body (top m) ≡ false → q ≡ over m b
      → Settles R swaps (Over b (top m)) q x x
  node_stayed m b q x e lone h g k f =
      subst (λ (o : Plan). Settles R swaps (Over b (top m)) o x x)
      (sym (f ∙ ap (λ (o : Plan). over o b) e)) (stayed R swaps b (top m) x lone h g k)

  module _ (exchanged : (us : Uses) (b : Plan) (upper lower : Node) → swaps upper lower ≡ true
      → R us (Over (Over b lower) upper) (Over (Over b upper) lower) None)
      (alone : (us : Uses) (p q : Plan) (r : Option Rename) → R us p q r → Swaps swaps p) where
    pub node_sunk : ((upper lower further : Node) → swaps upper lower ≡ true → swaps lower further ≡ false)
        → (n : Node) (p m b c q : Plan) (x y : Bool) → HasNoFragment (Over p n) → Settled swaps p
        → goes_below swaps p n ≡ true → Taken p m b → Settles R swaps (Over b n) c true y → q ≡ over m c
        → Settles R swaps (Over p n) q x y
    node_sunk apart n p m b c q x y lone h g t k f =
        subst₂ (λ (o r : Plan). Settles R swaps (Over o n) r x y) (sym t.was)
        (sym (f ∙ ap (λ (o : Plan). over o c) t.left))
        (sunk R swaps exchanged alone apart b c n (top m) x y
        (subst (λ (o : Plan). HasNoFragment (Over o n)) t.was lone) (subst (Settled swaps) t.was h)
        (subst (λ (o : Plan). goes_below swaps o n ≡ true) t.was g) k)

    pub node_bodied : ((v : Ident) (s t : Plan) (lower : Node) → First R false result_uses s t None
        → swaps (Subquery v t) lower ≡ swaps (Subquery v s) lower)
        → (n : Node) (m k l b s t q : Plan) (x y : Bool) → m ≡ Over Singleton n
        → HasNoFragment (Over b n) → Settled swaps b → goes_below swaps b n ≡ false → Bodied n s
        → k ≡ with_body m Singleton → l ≡ with_body k t → q ≡ over l b → Settles R swaps s t x y
        → Settles R swaps (Over b n) q x y
    node_bodied steady n m k l b s t q x y e lone h g d f i j a =
        let v = d.var in
        let start = e ∙ ap (Over Singleton) d.was in
        let made : q ≡ Over b (Subquery v t)
        = j ∙ ap (λ (o : Plan). over o b) (i ∙ ap (λ (o : Plan). with_body o t)
        (f ∙ ap (λ (o : Plan). with_body o Singleton) start)) in
        subst₂ (λ (o : Node) (r : Plan). Settles R swaps (Over b o) r x y) (sym d.was) (sym made)
        (body_settled R swaps exchanged alone steady b s t v x y lone.0 h
        (subst (λ (o : Node). goes_below swaps b o ≡ false) d.was g) a)
