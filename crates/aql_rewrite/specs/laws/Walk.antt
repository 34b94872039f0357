-- The steps of the walk to the first place.
use Rattle.std.proofs.Common.{◌≡◌, ◌∙◌, ◌+◌, ◌≤◌, List, [], ◌∷◌, ◌++◌, Bool, true, false, true≢false, ap, ap₂, sym, subst, subst₂, refl, append_assoc, arith}
use Rattle.std.specs.Prelude.{Option, Some, None, MatchOption}
use Rattle.aql_tree.specs.declared.syntax.Ident.{}
use Rattle.aql_meaning.specs.Uses.{Uses}
use Rattle.aql_plan.specs.declared.facts.Facts.{Facts}
use Rattle.aql_plan.specs.Plan.{Plan, Singleton, Over, Node, Subquery, Collect, Return, NoResults, top}
use Rattle.aql_plan.specs.Nodes.{body_in, with_body, weight, weight_in}
use Rattle.aql_plan.specs.Needs.{own_uses, under, needs, result_uses}
use Rattle.aql_plan.specs.Above.{input_inside}
use Rattle.aql_plan.specs.Variables.{vars_of, set_once}
use Rattle.aql_plan.specs.declared.uses.Use.{Use}
use Rattle.aql_plan.specs.Used.{uses_tree}
use Rattle.aql_rewrite.specs.declared.swap.Rename.{Rename}
use Rattle.aql_rewrite.specs.Nodes.{uses_alone, gives_new_rows, is_collect, over_renamed}
use Rattle.aql_rewrite.specs.Places.{Rewriting, Stays, NoPlace, NoPlaceAt, First, below, here, body}
use Rattle.aql_rewrite.specs.InputPlaces.{NoPlaceBelow, FirstBelow, NoPlaceHere, FirstHere}
use Rattle.aql_rewrite.specs.View.{above_uses}
use Rattle.aql_rewrite.specs.laws.Levels.{nearest_first}
use Rattle.aql_rewrite.specs.Placed.{IsWhole, Placed, IsPlaced}
use Rattle.aql_rewrite.specs.laws.PlacedBelow as placed

-- ---- how parts stand

pub placed_below : (k inside : Bool) (facts : Facts) (us : Uses) (b : Plan) (n : Node)
    → IsPlaced k inside facts us (Over b n) → IsPlaced k (input_inside n inside) facts (under n us) b
placed_below k inside facts us b n h =
    (h.0, set_once n ++ h.1, placed.placed_below k inside facts h.0 h.1 us n b h.2)

pub placed_body : (k inside : Bool) (facts : Facts) (us : Uses) (b s : Plan) (n : Node) → body_in n ≡ Some s
    → IsPlaced k inside facts us (Over b n) → IsPlaced k false facts result_uses s
placed_body k inside facts us b s (Subquery x t) g h =
    let e : t ≡ s = cc in (
      vars_of h.0 b,
      x ∷ h.1,
      subst (λ (o : Plan). Placed k false facts (vars_of h.0 b)
          (x ∷ h.1) result_uses o) e (placed.placed_body k inside facts h.0 h.1 us x t b h.2),
    )
placed_body k inside facts us b s n g h = cc

pub placed_whole : (k : Bool) (facts : Facts) (us : Uses) (p : Plan) → us ≡ result_uses → IsWhole k facts p
    → IsPlaced k false facts us p
placed_whole k facts us p e h = subst (λ (vs : Uses). IsPlaced k false facts vs p) (sym e)
    ([], [], placed.whole_placed k facts p h)

pub placed_input : (k inside within : Bool) (facts : Facts) (us vs : Uses) (p b : Plan) → p ≡ Over b (top p)
    → within ≡ input_inside (top p) inside → vs ≡ under (top p) us → IsPlaced k inside facts us p
    → IsPlaced k within facts vs b
placed_input k inside within facts us vs p b e f g h =
    subst₂ (λ (w : Bool) (ws : Uses). IsPlaced k w facts ws b) (sym f) (sym g)
    (placed_below k inside facts us b (top p) (subst (λ (q : Plan). IsPlaced k inside facts us q) e h))

pub placed_inside : (k inside : Bool) (facts : Facts) (us vs : Uses) (p s : Plan) → body_in (top p) ≡ Some s
    → vs ≡ result_uses → IsPlaced k inside facts us p → IsPlaced k false facts vs s
placed_inside k inside facts us vs Singleton s e f h = absurd (no_body s e)
  where
    no_body : (s : Plan) → None ≡ Some s → ⊥
    no_body s e = cc
placed_inside k inside facts us vs (Over b n) s e f h =
    subst (λ (ws : Uses). IsPlaced k false facts ws s) (sym f) (placed_body k inside facts us b s n e h)

-- ---- what is used

pub under_new : (n : Node) (us : Uses) → gives_new_rows n ≡ true → under n us ≡ uses_alone n
under_new (Collect xs es gs i s) us h = refl
under_new (Return distinct e) us h = refl
under_new n us h = absurd (true≢false (sym h))

pub under_old : (n : Node) (us : Uses) → gives_new_rows n ≡ false → under n us ≡ uses_alone n ++ us
under_old (Collect xs es gs i s) us h = absurd (true≢false h)
under_old (Return distinct e) us h = absurd (true≢false h)
under_old n us h = refl

pub needs_collect : (b : Plan) (n : Node) (us : Uses) → is_collect n ≡ true
    → needs (Over b n) us ≡ needs b (under n us) ++ us
needs_collect b (Collect xs es gs i s) us h = refl
needs_collect b n us h = absurd (true≢false (sym h))

pub needs_other : (b : Plan) (n : Node) (us : Uses) → is_collect n ≡ false
    → needs (Over b n) us ≡ needs b (under n us)
needs_other b (Collect xs es gs i s) us h = absurd (true≢false h)
needs_other b n us h = refl

pub alone_without : (n : Node) → body_in n ≡ None → uses_alone n ≡ own_uses n
alone_without (Subquery x s) h = cc
alone_without n h = refl

pub alone_with : (n : Node) (s : Plan) → body_in n ≡ Some s → uses_alone n ≡ needs s result_uses
alone_with (Subquery x t) s h = let e : t ≡ s = cc in ap (λ (o : Plan). needs o result_uses) e
alone_with n s h = cc

pub above_new : (alone : List (List Use)) (own : List Use) (n : Node) (us : Uses)
    → above_uses alone ≡ uses_tree own → uses_tree own ≡ uses_alone n → gives_new_rows n ≡ true
    → above_uses alone ≡ under n us
above_new alone own n us e f g = e ∙ f ∙ sym (under_new n us g)

pub above_old : (levels more : List (List Use)) (own : List Use) (n : Node) → more ≡ levels ++ own ∷ []
    → uses_tree own ≡ uses_alone n → gives_new_rows n ≡ false → above_uses more ≡ under n (above_uses levels)
above_old levels more own n e f g = nearest_first more levels own e
    ∙ ap (λ (us : Uses). us ++ above_uses levels) f ∙ sym (under_old n (above_uses levels) g)

pub needs_start : (p : Plan) (us : Uses) → p ≡ Singleton → needs p us ≡ us
needs_start p us e = ap (λ (q : Plan). needs q us) e

pub needs_new : (p b : Plan) (us : Uses) → p ≡ Over b (top p) → is_collect (top p) ≡ true
    → needs p us ≡ needs b (under (top p) us) ++ us
needs_new p b us e h = ap (λ (q : Plan). needs q us) e ∙ needs_collect b (top p) us h

pub needs_old : (p b : Plan) (us : Uses) → p ≡ Over b (top p) → is_collect (top p) ≡ false
    → needs p us ≡ needs b (under (top p) us)
needs_old p b us e h = ap (λ (q : Plan). needs q us) e ∙ needs_other b (top p) us h

-- ---- places

module _ (R : Rewriting) where
  pub found_below : (inside : Bool) (us : Uses) (p b c q : Plan) (r : Option Rename) → p ≡ Over b (top p)
      → First R (input_inside (top p) inside) (under (top p) us) b c r
      → q ≡ over_renamed r p c → First R inside us p q r
  found_below inside us p b c q r e h g =
      subst₂ (λ (m x : Plan). First R inside us m x r) (sym e)
      (sym (g ∙ ap (λ (m : Plan). over_renamed r m c) e)) (below h)

  pub found_here : (us : Uses) (p q : Plan) (r : Option Rename) → R us p q r → FirstHere R us p q r
  found_here us p q r h b e k =
      subst (λ (m : Plan). First R false us m q r) (sym e) (here k (subst (λ (m : Plan). R us m q r) e h))

  found_with : (us : Uses) (b s t : Plan) (n : Node) (r : Option Rename) → body_in n ≡ Some s
      → NoPlace R (input_inside n false) (under n us) b → Stays R us (Over b n)
      → First R false result_uses s t r → First R false us (Over b n) (with_body (Over b n) t) None
  found_with us b s t (Subquery x u) r g h k f =
      let e : s ≡ u = cc in body h k (subst (λ (o : Plan). First R false result_uses o t r) e f)
  found_with us b s t n r g h k f = cc

  pub found_inside : (us vs : Uses) (p s t q : Plan) (r : Option Rename) → Stays R us p
      → body_in (top p) ≡ Some s → vs ≡ result_uses → First R false vs s t r → q ≡ with_body p t
      → FirstHere R us p q None
  found_inside us vs p s t q r k g i h f b e m =
      subst₂ (λ (x y : Plan). First R false us x y None) (sym e)
      (sym (f ∙ ap (λ (x : Plan). with_body x t) e))
      (found_with us b s t (top p) r g m (subst (λ (x : Plan). Stays R us x) e k)
      (subst (λ (ws : Uses). First R false ws s t r) i h))

  pub none_at : (us : Uses) (p : Plan) → Stays R us p → body_in (top p) ≡ None → NoPlaceHere R us p
  none_at us p h g = by (top p) g
    where
      by : (n : Node) → body_in n ≡ None → NoPlaceAt R false (Stays R us p) n
      by (Subquery x s) g = cc
      by n g = h

  pub none_with : (us : Uses) (p s : Plan) → Stays R us p → body_in (top p) ≡ Some s
      → NoPlace R false result_uses s → NoPlaceHere R us p
  none_with us p s h g k = by (top p) g
    where
      by : (n : Node) → body_in n ≡ Some s → NoPlaceAt R false (Stays R us p) n
      by (Subquery x t) g =
          let e : s ≡ t = cc in (h, subst (λ (o : Plan). NoPlace R false result_uses o) e k)
      by n g = cc

  pub none_over : (us : Uses) (p b : Plan) → p ≡ Over b (top p)
      → NoPlace R (input_inside (top p) false) (under (top p) us) b → NoPlaceHere R us p
      → NoPlace R false us p
  none_over us p b e h k =
      subst (λ (m : Plan). NoPlace R false us m) (sym e)
      (h, subst (λ (m : Plan). NoPlaceAt R false (Stays R us m) (top p)) e k)

  -- what the walk says of the input, where it knows what is used by another list
  pub input_walked : {X : Type 0} (o : Option X) (new : X → Plan) (rename : X → Option Rename)
      (inside within : Bool) (us vs : Uses) (p b : Plan)
      → within ≡ input_inside (top p) inside → vs ≡ under (top p) us
      → MatchOption o (NoPlace R within vs b) (λ s. First R within vs b (new s) (rename s))
      → MatchOption o (NoPlaceBelow R inside us p b) (λ s. FirstBelow R inside us p b (new s) (rename s))
  input_walked o new rename inside within us vs p b f g h =
      subst₂ (λ (w : Bool) (ws : Uses). MatchOption o (NoPlace R w ws b)
      (λ s. First R w ws b (new s) (rename s))) f g h

  -- and of the whole plan, where its input has no place
  pub node_walked : {X : Type 0} (o : Option X) (new : X → Plan) (rename : X → Option Rename)
      (us vs : Uses) (p b : Plan) → vs ≡ us → p ≡ Over b (top p) → NoPlaceBelow R false us p b
      → MatchOption o (NoPlaceHere R vs p) (λ s. FirstHere R vs p (new s) (rename s))
      → MatchOption o (NoPlace R false us p) (λ s. First R false us p (new s) (rename s))
  node_walked {X} o new rename us vs p b f e none h =
      by o (subst (λ (ws : Uses). MatchOption o (NoPlaceHere R ws p)
      (λ s. FirstHere R ws p (new s) (rename s))) f h)
    where
      by : (o : Option X) → MatchOption o (NoPlaceHere R us p) (λ s. FirstHere R us p (new s) (rename s))
          → MatchOption o (NoPlace R false us p) (λ s. First R false us p (new s) (rename s))
      by None h = none_over us p b e none h
      by (Some s) h = h b e none

  pub none_inside : (us : Uses) (p b : Plan) → p ≡ Over b (top p)
      → NoPlace R (input_inside (top p) true) (under (top p) us) b → NoPlace R true us p
  none_inside us p b e h = subst (λ (m : Plan). NoPlace R true us m) (sym e) (h, tt)

-- ---- how many nodes

pub weight_below : (p b : Plan) → p ≡ Over b (top p) → weight b + 1 ≤ weight p
weight_below Singleton b e = absurd (no_start b e)
  where
    no_start : (b : Plan) → Singleton ≡ Over b NoResults → ⊥
    no_start b e = cc
weight_below (Over c n) b e = let k : c
    ≡ b = cc in subst (λ (o : Plan). weight o + 1 ≤ weight (Over c n)) k (omega arith)

pub weight_body : (p s : Plan) → body_in (top p) ≡ Some s → weight s + 1 ≤ weight p
weight_body Singleton s e = absurd (cc)
weight_body (Over b n) s e = by n e
  where
    by : (n : Node) → body_in n ≡ Some s → weight s + 1 ≤ weight b + (weight_in n + 1)
    by (Subquery x t) e =
        let k : t ≡ s = cc in subst (λ (o : Plan). weight o + 1 ≤ weight b + (weight t + 1)) k (omega arith)
    by n e = cc

-- ---- what is appended

pub collected : (to mid us vs : Uses) (p b : Plan) → p ≡ Over b (top p) → is_collect (top p) ≡ true
    → vs ≡ us → mid ≡ to ++ needs b (under (top p) us) → mid ++ vs ≡ to ++ needs p us
collected to mid us vs p b e h f g =
    ap₂ (λ (ws xs : Uses). ws ++ xs) g f
    ∙ append_assoc to (needs b (under (top p) us)) us
    ∙ ap (λ (ws : Uses). to ++ ws) (sym (needs_new p b us e h))
