-- Each node as far down as it may go, and then its body, from the lowest node up, is a way of applications
-- each at the first place.
use Rattle.std.proofs.Common.{◌≡◌, ◌∙◌, ℕ, ◌+◌, Bool, true, false, true≢false, [], refl, ap, sym, subst, arith}
use Rattle.std.specs.Prelude.{Option, None}
use Rattle.aql_tree.specs.declared.syntax.Ident.{Ident}
use Rattle.aql_meaning.specs.Uses.{Uses}
use Rattle.aql_plan.specs.Above.{input_inside}
use Rattle.aql_plan.specs.Needs.{under, result_uses}
use Rattle.aql_plan.specs.Nodes.{weight, weight_in}
use Rattle.aql_plan.specs.Plan.{Plan, Singleton, Over, Node, Subquery}
use Rattle.aql_plan.specs.Shapes.{HasNoFragment, IsNoFragment}
use Rattle.aql_rewrite.specs.declared.swap.Rename.{Rename}
use Rattle.aql_rewrite.specs.Places.{Rewriting, Stays, NoPlace, NoPlaceAt, First, below, here, body}
use Rattle.aql_rewrite.specs.laws.Standing.{outside}
use Rattle.aql_rewrite.specs.inner.Applications.{Applications, at_once, next, Application}
use Rattle.aql_rewrite.specs.laws.StepByStep.{joined, along}
use Rattle.aql_rewrite.specs.Apart.{has_body}
use Rattle.aql_rewrite.specs.Exchanged.{goes_below, Swaps}
use Rattle.aql_passes.specs.inner.Settled.{Settled, SettledIn, Settles}

module _ (R : Rewriting) (swaps : Node → Node → Bool) where
  abbrev Way : Uses → Plan → Plan → Bool → Bool → Type 0
  Way us p q x y = Applications Plan (Application R us) p q x y

  -- ---- the input of a node

  way_below : (n : Node) (us : Uses) {b c : Plan} {x y : Bool} → IsNoFragment n → Way (under n us) b c x y
      → Way us (Over b n) (Over c n) x y
  way_below n us i h = along Plan Plan (Application R (under n us)) (Application R us) (λ p. Over p n)
      (λ p q f. below (subst (λ (o : Bool). First R o (under n us) p q None) (sym (outside n i)) f)) h

  pub over_settled : (b c q : Plan) (n : Node) (x y z : Bool) → IsNoFragment n → Settles R swaps b c x y
      → Settles R swaps (Over c n) q y z → Settles R swaps (Over b n) q x z
  over_settled b c q n x y z i h k = record {
    reached = λ us. joined Plan (Application R us) (way_below n us i (h.reached (under n us))) (k.reached us);
    settled = k.settled;
    lone = k.lone;
    nodes = k.nodes ∙ ap (λ (w : ℕ). w + (weight_in n + 1)) h.nodes;
  }

  -- ---- a node that stays, and has no body

  settled_in : (n : Node) → has_body n ≡ false → SettledIn swaps n
  settled_in (Subquery v s) e = absurd (true≢false e)
  settled_in n e = tt

  pub stayed : (b : Plan) (n : Node) (x : Bool) → HasNoFragment (Over b n) → Settled swaps b
      → goes_below swaps b n ≡ false → has_body n ≡ false → Settles R swaps (Over b n) (Over b n) x x
  stayed b n x lone h g e = record {
    reached = λ us. at_once;
    settled = (h, g, settled_in n e);
    lone = lone;
    nodes = refl;
  }

  module _ (exchanged : (us : Uses) (b : Plan) (upper lower : Node) → swaps upper lower ≡ true
      → R us (Over (Over b lower) upper) (Over (Over b upper) lower) None)
      (alone : (us : Uses) (p q : Plan) (r : Option Rename) → R us p q r → Swaps swaps p) where
    -- ---- where there is no place

    stays : (us : Uses) (b : Plan) (n : Node) → goes_below swaps b n ≡ false → Stays R us (Over b n)
    stays us b n h q r g = true≢false (sym (alone us (Over b n) q r g) ∙ h)

    mutual
      pub no_place : (us : Uses) (p : Plan) → HasNoFragment p → Settled swaps p → NoPlace R false us p
      no_place us Singleton lone h = tt
      no_place us (Over b n) lone h = (
        subst (λ (o : Bool). NoPlace R o (under n us) b) (sym (outside n lone.1))
            (no_place (under n us) b lone.0 h.0),
        no_place_at us b n lone.1 h.1 h.2,
      )

      no_place_at : (us : Uses) (b : Plan) (n : Node) → IsNoFragment n → goes_below swaps b n ≡ false
          → SettledIn swaps n → NoPlaceAt R false (Stays R us (Over b n)) n
      no_place_at us b (Subquery x s) lone h k =
          (stays us b (Subquery x s) h, no_place result_uses s lone k)
      no_place_at us b n lone h k = stays us b n h

    none_below : (us : Uses) (b : Plan) (n : Node) → HasNoFragment b → IsNoFragment n → Settled swaps b
        → NoPlace R (input_inside n false) (under n us) b
    none_below us b n lone i h = subst (λ (o : Bool). NoPlace R o (under n us) b) (sym (outside n i))
        (no_place (under n us) b lone h)

    -- ---- a node that goes down

    stays_over : (c : Plan) (n : Node) → ((further : Node) → swaps n further ≡ false)
        → goes_below swaps c n ≡ false
    stays_over Singleton n f = refl
    stays_over (Over b lower) n f = f lower

    pub sunk : ((upper lower further : Node) → swaps upper lower ≡ true → swaps lower further ≡ false)
        → (b c : Plan) (upper lower : Node) (x y : Bool) → HasNoFragment (Over (Over b lower) upper)
        → Settled swaps (Over b lower) → swaps upper lower ≡ true → Settles R swaps (Over b upper) c true y
        → Settles R swaps (Over (Over b lower) upper) (Over c lower) x y
    sunk apart b c upper lower x y lone h g k = record {
      reached = λ us. joined Plan (Application R us)
          (next at_once
          (here (none_below us (Over b lower) upper lone.0 lone.1 h) (exchanged us b upper lower g)))
          (way_below lower us lone.0.1 (k.reached (under lower us)));
      settled = (k.settled, stays_over c lower (λ further. apart upper lower further g), h.2);
      lone = (k.lone, lone.0.1);
      nodes = omega (arith, k.nodes);
    }

    -- ---- a node that stays, and its body

    module _ (steady : (v : Ident) (s t : Plan) (lower : Node) → First R false result_uses s t None
        → swaps (Subquery v t) lower ≡ swaps (Subquery v s) lower) where
      still_over : (b : Plan) (v : Ident) (s t : Plan) → First R false result_uses s t None
          → goes_below swaps b (Subquery v s) ≡ false → goes_below swaps b (Subquery v t) ≡ false
      still_over Singleton v s t f g = refl
      still_over (Over b lower) v s t f g = steady v s t lower f ∙ g

      way_inside : (us : Uses) (b : Plan) (v : Ident) {s t : Plan} {x y : Bool} → HasNoFragment b
          → Settled swaps b → goes_below swaps b (Subquery v s) ≡ false → Way result_uses s t x y
          → Way us (Over b (Subquery v s)) (Over b (Subquery v t)) x y
          × (goes_below swaps b (Subquery v t) ≡ false)
      way_inside us b v lone h g at_once = (at_once, g)
      way_inside us b v lone h g (next {m = m} {d = t} k f) =
          let before = way_inside us b v lone h g k in (
            next before.0 (body (no_place (under (Subquery v m) us) b lone h)
                (stays us b (Subquery v m) before.1) f),
            still_over b v m t f before.1,
          )

      pub body_settled : (b s t : Plan) (v : Ident) (x y : Bool) → HasNoFragment b → Settled swaps b
          → goes_below swaps b (Subquery v s) ≡ false → Settles R swaps s t x y
          → Settles R swaps (Over b (Subquery v s)) (Over b (Subquery v t)) x y
      body_settled b s t v x y lone h g k = record {
        reached = λ us. (way_inside us b v lone h g (k.reached result_uses)).0;
        settled = (h, (way_inside [] b v lone h g (k.reached result_uses)).1, k.settled);
        lone = (lone, k.lone);
        nodes = ap (λ (w : ℕ). weight b + (w + 1)) k.nodes;
      }
