-- From the lowest node up, each node once, is a way of applications each at the first place, for a rule that
-- renames nothing, and puts nothing in the place of a part that has a place, but what was below it.
use Rattle.std.proofs.Common.{◌≡◌, ◌∙◌, ◌<◌, Bool, true, false, true≢false, Option, None, ap, ap₂, sym, subst, arith}
use Rattle.std.specs.Prelude.{List, []}
use Rattle.aql_tree.specs.declared.syntax.Ident.{Ident}
use Rattle.aql_tree.specs.Tree.{ExprTrees}
use Rattle.aql_meaning.specs.Uses.{Uses}
use Rattle.aql_plan.specs.Above.{input_inside}
use Rattle.aql_plan.specs.Needs.{under, result_uses}
use Rattle.aql_plan.specs.Nodes.{over, with_body, weight}
use Rattle.aql_plan.specs.Plan.{Plan, Singleton, Over, Node, Subquery, Remote, Gather, top}
use Rattle.aql_rewrite.specs.declared.swap.Rename.{Rename}
use Rattle.aql_rewrite.specs.Apart.{has_body, is_start}
use Rattle.aql_rewrite.specs.Places.{Rewriting, Stays, NoPlace, NoPlaceAt, below, here, body}
use Rattle.aql_rewrite.specs.inner.Applications.{Applications, at_once, next}
use Rattle.aql_rewrite.specs.laws.StepByStep.{along, joined}
use Rattle.aql_rewrite.specs.laws.Taken.{Taken, Bodied}
use Rattle.aql_rules_cluster.specs.inner.Walks.{AppliedOnce, IsWalked, IsRewritten, applied, stayed}

-- ---- how many nodes

pub lighter_input : (p m b : Plan) → Taken p m b → weight b < weight p
lighter_input p m b t = subst (λ (o : Plan). weight b < weight o) (sym t.was) (omega arith)

pub lighter_body : (p m b s : Plan) → Taken p m b → Bodied (top m) s → weight s < weight p
lighter_body p m b s t d =
    subst (λ (o : Plan). weight s < weight o) (sym (t.was ∙ ap (Over b) d.was)) (omega arith)

module _ (R : Rewriting) where
  -- ---- no place

  -- whatever is used above
  abbrev pub NoPlaces : Bool → Plan → Type 0
  NoPlaces inside p = (us : Uses) → NoPlace R inside us p

  -- a rule that applies at no subquery
  abbrev pub StaysAtBodies : Type 0
  StaysAtBodies = (us : Uses) (b s : Plan) (v : Ident) → Stays R us (Over b (Subquery v s))

  -- what it puts in the place of a part has no place, where the part has none below it
  abbrev pub AddsNoPlace : Type 0
  AddsNoPlace = (us : Uses) (p q : Plan) (r : Option Rename) → R us p q r → (b : Plan) (n : Node)
      → p ≡ Over b n → NoPlaces (input_inside n false) b → NoPlaces false q

  -- a rule that applies nowhere
  pub nowhere : ((us : Uses) (p : Plan) → Stays R us p) → (inside : Bool) (us : Uses) (p : Plan)
      → NoPlace R inside us p
  nowhere stays inside us Singleton = tt
  nowhere stays true us (Over b n) = (nowhere stays (input_inside n true) (under n us) b, tt)
  nowhere stays false us (Over b (Subquery x s)) = (
    nowhere stays false (under (Subquery x s) us) b,
    (stays us (Over b (Subquery x s)), nowhere stays false result_uses s),
  )
  nowhere stays false us (Over b n) =
      (nowhere stays (input_inside n false) (under n us) b, stays us (Over b n))

  -- the input of a part
  pub none_below : (b c : Plan) (m n : Node) → Over b m ≡ Over c n → NoPlaces (input_inside n false) c
      → NoPlaces (input_inside m false) b
  none_below b c m n e none us =
      let input : c ≡ b = cc in
      let node : n ≡ m = sym (ap top e) in
      subst (λ (o : Node). NoPlace R (input_inside o false) us b) node
      (subst (λ (o : Plan). NoPlace R (input_inside n false) us o) input (none us))

  -- a rule that does not look at what is used above
  module _ (blind : (us vs : Uses) (p q : Plan) (r : Option Rename) → R us p q r → R vs p q r) where
    stays_seen : (us vs : Uses) (p : Plan) → Stays R us p → Stays R vs p
    stays_seen us vs p h q r k = h q r (blind vs us p q r k)

    mutual
      pub no_place_seen : (inside : Bool) (us vs : Uses) (p : Plan) → NoPlace R inside us p
          → NoPlace R inside vs p
      no_place_seen inside us vs Singleton h = tt
      no_place_seen inside us vs (Over b n) h = (
        no_place_seen (input_inside n inside) (under n us) (under n vs) b h.0,
        none_seen inside us vs b n h.1,
      )

      none_seen : (inside : Bool) (us vs : Uses) (b : Plan) (n : Node)
          → NoPlaceAt R inside (Stays R us (Over b n)) n → NoPlaceAt R inside (Stays R vs (Over b n)) n
      none_seen true us vs b n h = tt
      none_seen false us vs b (Subquery x s) h = (stays_seen us vs (Over b (Subquery x s)) h.0, h.1)
      none_seen false us vs b n h = stays_seen us vs (Over b n) h

    -- the fragment below a Gather
    pub none_in_fragment : (f : Plan) (directions : List Bool) (keys : ExprTrees)
        → NoPlaces false (Over (Over f Remote) (Gather directions keys)) → NoPlaces true f
    none_in_fragment f directions keys none us =
        no_place_seen true (under Remote (under (Gather directions keys) [])) us f (none []).0.0

  -- a node at which the rule does not apply, over an input with no place
  none_over : (us : Uses) (n : Node) (b : Plan) → NoPlaces (input_inside n false) b → Stays R us (Over b n)
      → has_body n ≡ false → NoPlace R false us (Over b n)
  none_over us n b none stays bare = (none (under n us), at n stays bare)
    where
      at : (m : Node) → Stays R us (Over b n) → has_body m ≡ false
          → NoPlaceAt R false (Stays R us (Over b n)) m
      at (Subquery v s) h f = absurd (true≢false f)
      at m h f = h

  -- ---- the walk

  abbrev Way : Bool → Uses → Plan → Plan → Bool → Bool → Type 0
  Way inside us p q x y = Applications Plan (AppliedOnce R inside us) p q x y

  -- applications in the input of a node, and in its body
  way_over : (inside : Bool) (us : Uses) (n : Node) {b c : Plan} {x y : Bool}
      → Way (input_inside n inside) (under n us) b c x y → Way inside us (Over b n) (Over c n) x y
  way_over inside us n h =
      along Plan Plan (AppliedOnce R (input_inside n inside) (under n us)) (AppliedOnce R inside us)
      (λ b. Over b n) (λ b c k. below k) h

  way_inside : (us : Uses) (b : Plan) (v : Ident) → NoPlaces false b
      → ((s : Plan) → Stays R us (Over b (Subquery v s))) → {s t : Plan} {x y : Bool}
      → Way false result_uses s t x y → Way false us (Over b (Subquery v s)) (Over b (Subquery v t)) x y
  way_inside us b v none stays h =
      along Plan Plan (AppliedOnce R false result_uses) (AppliedOnce R false us) (λ s. Over b (Subquery v s))
      (λ s t k. body (none (under (Subquery v s) us)) (stays s) k) h

  -- ---- as the program holds them: b was the input of p and m is left, and c is what b came to

  pub start_walked : (inside : Bool) (p : Plan) (x : Bool) → is_start p ≡ true → IsWalked R inside p p x x
  start_walked inside Singleton x h = record { reached = λ us. at_once; ended = λ us. tt }
  start_walked inside (Over b n) x h = absurd (true≢false (sym h))

  module _ (p m b c : Plan) (x y inside within : Bool) (t : Taken p m b)
      (e : within ≡ input_inside (top p) inside) (done : IsWalked R within b c x y) where
    made_over : (k : Plan) → k ≡ over m c → k ≡ Over c (top m)
    made_over k e = e ∙ ap (λ (o : Plan). over o c) t.left

    input_walked : (i : Bool) → inside ≡ i → IsWalked R (input_inside (top m) i) b c x y
    input_walked i f = subst (λ (j : Bool). IsWalked R j b c x y) (e ∙ ap₂ input_inside (ap top t.was) f) done

    input_reached : (i : Bool) → inside ≡ i → (us : Uses) → Way i us p (Over c (top m)) x y
    input_reached i f us = subst (λ (o : Plan). Way i us o (Over c (top m)) x y) (sym t.was)
        (way_over i us (top m) ((input_walked i f).reached (under (top m) us)))

    -- a node in a fragment is no place
    pub inside_walked : inside ≡ true → (k : Plan) → k ≡ over m c → IsWalked R inside p k x y
    inside_walked f k g =
        subst (λ (i : Bool). IsWalked R i p k x y) (sym f)
        (subst (λ (o : Plan). IsWalked R true p o x y) (sym (made_over k g)) (record {
          reached = input_reached true f;
          ended = λ us. ((input_walked true f).ended (under (top m) us), tt);
        }))

    module _ (f : inside ≡ false) where
      ended : NoPlaces (input_inside (top m) false) c
      ended = (input_walked false f).ended

      -- a node without a body; what stands where the rule was applied has no place, where the input has none
      rewritten : AddsNoPlace → (k q : Plan) (z : Bool) → k ≡ over m c → has_body (top m) ≡ false
          → IsRewritten R k q y z → IsWalked R false p q x z
      rewritten adds k _ _ g bare (applied {q = q} made) = record {
        reached = λ us. next (input_reached false f us)
            (here (ended (under (top m) us)) (subst (λ (o : Plan). R us o q None) (made_over k g) (made us)));
        ended = adds [] k q None (made []) c (top m) (made_over k g) ended;
      }
      rewritten adds k _ _ g bare (stayed stays) =
          let is = made_over k g in
          subst (λ (o : Plan). IsWalked R false p o x y) (sym is) (record {
            reached = input_reached false f;
            ended = λ us. none_over us (top m) c ended
                (subst (λ (o : Plan). Stays R us o) is (stays us)) bare;
          })

      pub rewritten_walked : AddsNoPlace → (k q : Plan) (z : Bool) → k ≡ over m c → has_body (top m) ≡ false
          → IsRewritten R k q y z → IsWalked R inside p q x z
      rewritten_walked adds k q z g bare h =
          subst (λ (i : Bool). IsWalked R i p q x z) (sym f) (rewritten adds k q z g bare h)

      -- a Subquery, which is no place: s was its body, and d is what it came to
      pub body_walked : StaysAtBodies → (s d l j q : Plan) (z : Bool) → Bodied (top m) s
          → l ≡ with_body m Singleton → j ≡ with_body l d → q ≡ over j c → IsWalked R false s d y z
          → IsWalked R inside p q x z
      body_walked stay s d l j q z i g h k inner =
          let v = i.var in
          let start = t.left ∙ ap (Over Singleton) i.was in
          let is : q ≡ Over c (Subquery v d)
          = k ∙ ap (λ (o : Plan). over o c) (h ∙ ap (λ (o : Plan). with_body o d)
          (g ∙ ap (λ (o : Plan). with_body o Singleton) start)) in
          let none = subst (λ (n : Node). NoPlaces (input_inside n false) c) i.was ended in
          let reached = subst (λ (n : Node). (us : Uses) → Way false us p (Over c n) x y) i.was
          (input_reached false f) in
          subst (λ (i : Bool). IsWalked R i p q x z) (sym f)
          (subst (λ (o : Plan). IsWalked R false p o x z) (sym is) (record {
            reached = λ us. joined Plan (AppliedOnce R false us) (reached us)
                (way_inside us c v none (λ r. stay us c r v) (inner.reached result_uses));
            ended = λ us. (none (under (Subquery v d) us), (stay us c d v, inner.ended result_uses));
          }))
