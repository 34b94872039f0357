-- From the lowest node up, and again at each part that was rewritten, is a way of applications each at the
-- first place; each lowers a number.
use Rattle.std.proofs.Common.{◌≡◌, ◌∙◌, ℕ, ◌+◌, ◌≤◌, ◌<◌, Bool, true, false, true≢false, refl, ap, sym, subst, subst₂, arith}
use Rattle.std.specs.Prelude.{Option, None}
use Rattle.aql_meaning.specs.Uses.{Uses}
use Rattle.aql_plan.specs.Above.{input_inside}
use Rattle.aql_plan.specs.Needs.{under}
use Rattle.aql_plan.specs.Nodes.{over, weight}
use Rattle.aql_plan.specs.Plan.{Plan, Singleton, Over, Node, Subquery, top}
use Rattle.aql_plan.specs.Shapes.{HasNoFragment, IsNoFragment}
use Rattle.aql_rewrite.specs.declared.swap.Rename.{Rename}
use Rattle.aql_rewrite.specs.Places.{renamed_by, Rewriting, Stays, NoPlace, NoPlaceAt, First, below, here, body}
use Rattle.aql_rewrite.specs.InputPlaces.{NoPlaceBelow, NoPlaceHere, FirstHere}
use Rattle.aql_rewrite.specs.laws.Standing.{outside}
use Rattle.aql_rewrite.specs.laws.Walk.{none_over}
use Rattle.aql_rewrite.specs.inner.Applications.{Applications, at_once, next, Application}
use Rattle.aql_rewrite.specs.laws.StepByStep.{joined, along}
use Rattle.aql_rewrite.specs.Apart.{is_start}
use Rattle.aql_rewrite.specs.laws.Taken.{Taken}
use Rattle.aql_rewrite.specs.Sums.{total}
use Rattle.aql_passes.specs.inner.Finished.{Finishes}

-- how many nodes there are, and what they count
abbrev pub work : (Node → ℕ) → Plan → ℕ
work size p = weight p + total size p

-- the node over another input
pub over_top : (p m b c k : Plan) → Taken p m b → k ≡ over m c → k ≡ Over c (top m)
over_top p m b c k h e = e ∙ ap (λ (o : Plan). over o c) h.left

pub work_below : (size : Node → ℕ) (p m b : Plan) → Taken p m b → work size b + 1 ≤ work size p
work_below size p m b h = subst (λ (o : Plan). work size b + 1 ≤ work size o) (sym h.was) (omega arith)

module _ (R : Rewriting) where
  -- ---- what is renamed

  module _ (nameless : (us : Uses) (p q : Plan) (r : Option Rename) → R us p q r → r ≡ None) where
    pub first_nameless : {inside : Bool} {us : Uses} {p q : Plan} {r : Option Rename}
        → First R inside us p q r → r ≡ None
    first_nameless (below h) = first_nameless h
    first_nameless (here {us = us} {b = b} {q = q} {n = n} {r = r} m h) = nameless us (Over b n) q r h
    first_nameless (body m g h) = refl

    -- ---- the number falls

    module _ (size : Node → ℕ)
        (lowers : (us : Uses) (p q : Plan) (r : Option Rename) → R us p q r → work size q < work size p) where
      first_lowers : {inside : Bool} {us : Uses} {p q : Plan} {r : Option Rename} → First R inside us p q r
          → work size q < work size p
      first_lowers (below {b = b} {c = c} {n = n} {r = r} h) =
          subst (λ (o : Option Rename). work size (Over c (renamed_by o n)) < work size (Over b n))
          (sym (first_nameless h)) (omega (arith, first_lowers h))
      first_lowers (here {us = us} {b = b} {q = q} {n = n} {r = r} m h) = lowers us (Over b n) q r h
      first_lowers (body {b = b} {s = s} {t = t} {x = x} m g h) = omega (arith, first_lowers h)

      steps_lower : {us : Uses} {p q : Plan} {x y : Bool} → Applications Plan (Application R us) p q x y
          → work size q ≤ work size p
      steps_lower at_once = omega arith
      steps_lower (next k s) = omega (arith, steps_lower k, first_lowers s)

  -- ---- the input of a node

  abbrev Way : Uses → Plan → Plan → Bool → Bool → Type 0
  Way us p q x y = Applications Plan (Application R us) p q x y

  way_below : (n : Node) (us : Uses) {b c : Plan} {x y : Bool} → IsNoFragment n → Way (under n us) b c x y
      → Way us (Over b n) (Over c n) x y
  way_below n us i h = along Plan Plan (Application R (under n us)) (Application R us) (λ p. Over p n)
      (λ p q f. below (subst (λ (o : Bool). First R o (under n us) p q None) (sym (outside n i)) f)) h

  pub start_finishes : (us : Uses) (p : Plan) (x : Bool) → is_start p ≡ true → Finishes R us p p x x
  start_finishes us Singleton x h = record { reached = at_once; ended = tt }
  start_finishes us (Over b n) x h = absurd (true≢false (sym h))

  -- ---- a rule that does not look at what is used above

  module _ (blind : (us vs : Uses) (p q : Plan) (r : Option Rename) → R us p q r → R vs p q r) where
    stays_seen : (us vs : Uses) (p : Plan) → Stays R us p → Stays R vs p
    stays_seen us vs p h q r k = h q r (blind vs us p q r k)

    mutual
      pub no_place_seen : (inside : Bool) (us vs : Uses) (p : Plan)
          → NoPlace R inside us p → NoPlace R inside vs p
      no_place_seen inside us vs Singleton h = tt
      no_place_seen inside us vs (Over b n) h = (
        no_place_seen (input_inside n inside) (under n us) (under n vs) b h.0,
        none_seen inside us vs b n h.1,
      )

      none_seen : (inside : Bool) (us vs : Uses) (b : Plan) (n : Node)
          → NoPlaceAt R inside (Stays R us (Over b n)) n → NoPlaceAt R inside (Stays R vs (Over b n)) n
      none_seen true us vs b n h = tt
      none_seen false us vs b (Subquery x s) h = (stays_seen us vs (Over b (Subquery x s)) h.0, h.1)
      none_seen false us vs b n h = stays_seen us vs (Over b n) h

    pub first_seen : {inside : Bool} {us : Uses} {p q : Plan} {r : Option Rename} → First R inside us p q r
        → (vs : Uses) → First R inside vs p q r
    first_seen (below {n = n} h) vs = below (first_seen h (under n vs))
    first_seen (here {us = us} {b = b} {q = q} {n = n} {r = r} m h) vs =
        here (no_place_seen (input_inside n false) (under n us) (under n vs) b m)
        (blind us vs (Over b n) q r h)
    first_seen (body {us = us} {b = b} {s = s} {x = x} m g h) vs =
        body (no_place_seen false (under (Subquery x s) us) (under (Subquery x s) vs) b m)
        (stays_seen us vs (Over b (Subquery x s)) g) h

    pub finishes_seen : (us vs : Uses) (p q : Plan) (x y : Bool) → Finishes R us p q x y
        → Finishes R vs p q x y
    finishes_seen us vs p q x y h = record {
      reached =
          along Plan Plan (Application R us) (Application R vs) (λ o. o) (λ o d f. first_seen f vs) h.reached;
      ended = no_place_seen false us vs q h.ended;
    }

  -- ---- as the program holds them: b was the input of p and m is left, c is what b came to, k is m over c

  pub input_reached : (us : Uses) (p m b c k : Plan) (x y : Bool) → HasNoFragment p → Taken p m b
      → k ≡ over m c → Finishes R (under (top m) us) b c x y → Way us p k x y
  input_reached us p m b c k x y lone t e h =
      subst₂ (λ (o l : Plan). Way us o l x y) (sym t.was) (sym (over_top p m b c k t e))
      (way_below (top m) us (subst HasNoFragment t.was lone).1 h.reached)

  pub input_ended : (us : Uses) (p m b c k : Plan) (x y : Bool) → HasNoFragment p → Taken p m b
      → k ≡ over m c → Finishes R (under (top m) us) b c x y
      → (k ≡ Over c (top k)) × NoPlaceBelow R false us k c
  input_ended us p m b c k x y lone t e h =
      let made = over_top p m b c k t e in
      let same : top m ≡ top k = sym (ap top made) in (
        subst (λ (n : Node). k ≡ Over c n) same made,
        subst (λ (n : Node). NoPlace R (input_inside n false) (under n us) c) same
            (subst (λ (o : Bool). NoPlace R o (under (top m) us) c)
            (sym (outside (top m) (subst HasNoFragment t.was lone).1)) h.ended),
      )

  pub stayed_finishes : (us : Uses) (p m b c k : Plan) (x y : Bool) → HasNoFragment p → Taken p m b
      → k ≡ over m c → Finishes R (under (top m) us) b c x y → NoPlaceHere R us k → Finishes R us p k x y
  stayed_finishes us p m b c k x y lone t e h none =
      let i = input_ended us p m b c k x y lone t e h in record {
        reached = input_reached us p m b c k x y lone t e h;
        ended = none_over R us k c i.0 i.1 none;
      }

  module _ (nameless : (us : Uses) (p q : Plan) (r : Option Rename) → R us p q r → r ≡ None) where
    -- one application at the node or in its body
    pub then_stepped : (us : Uses) (p m b c k q : Plan) (r : Option Rename) (x y : Bool) → HasNoFragment p
        → Taken p m b → k ≡ over m c → Finishes R (under (top m) us) b c x y → FirstHere R us k q r
        → Way us p q x true
    then_stepped us p m b c k q r x y lone t e h f =
        let i = input_ended us p m b c k x y lone t e h in
        let s = f c i.0 i.1 in
        next (input_reached us p m b c k x y lone t e h)
        (subst (λ (o : Option Rename). First R false us k q o) (first_nameless nameless s) s)

    pub then_lower : (size : Node → ℕ)
        → ((us : Uses) (p q : Plan) (r : Option Rename) → R us p q r → work size q < work size p)
        → (us : Uses) (p m b c k q : Plan) (r : Option Rename) (x y : Bool) → HasNoFragment p
        → Taken p m b → k ≡ over m c → Finishes R (under (top m) us) b c x y → FirstHere R us k q r
        → work size q < work size p
    then_lower size lowers us p m b c k q r x y lone t e h f =
        let i = input_ended us p m b c k x y lone t e h in
        omega (
          arith,
          first_lowers nameless size lowers (f c i.0 i.1),
          steps_lower nameless size lowers (input_reached us p m b c k x y lone t e h),
        )

  pub then_finishes : (us : Uses) (p q d : Plan) (x z : Bool) → Way us p q x true → Finishes R us q d true z
      → Finishes R us p d x z
  then_finishes us p q d x z h k = record {
    reached = joined Plan (Application R us) h k.reached;
    ended = k.ended;
  }
