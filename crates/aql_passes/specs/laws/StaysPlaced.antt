-- A placed part stays placed through applications one after another.
use Rattle.std.proofs.Common.{◌≡◌, List, [], ◌∷◌, ◌++◌, Bool, true, false, refl, ap, sym, subst, subst₂, arith}
use Rattle.std.specs.Prelude.{◌||◌, Option, None}
use Rattle.aql_tree.specs.declared.syntax.Ident.{Ident}
use Rattle.aql_meaning.specs.Numbered.{IsNumber}
use Rattle.aql_meaning.specs.Row.{same_ident}
use Rattle.aql_meaning.specs.Uses.{Uses, used_variable, is_used}
use Rattle.aql_plan.specs.declared.facts.Facts.{Facts}
use Rattle.aql_plan.specs.Needs.{under}
use Rattle.aql_plan.specs.Plan.{Plan, Over, Node}
use Rattle.aql_plan.specs.Variables.{vars_of, vars_set, are_among}
use Rattle.aql_plan_laws.specs.laws.Among.{fewer_have}
use Rattle.aql_meaning.specs.laws.Idents.{same_self}
use Rattle.aql_rewrite.specs.declared.swap.Rename.{Rename}
use Rattle.aql_rewrite.specs.Placed.{Placed, IsPlaced}
use Rattle.aql_rewrite.specs.Places.{Rewriting}
use Rattle.aql_rewrite.specs.Swaps.{KeepsVariables, KeepsPlaced}
use Rattle.aql_rewrite.specs.laws.Among.{has, has_front, has_back, has_either, both, and_true}
use Rattle.aql_rewrite.specs.laws.Standing.{outside}
use Rattle.aql_rewrite.specs.laws.Walk.{placed_below}
use Rattle.aql_rewrite.specs.laws.Steps.{Refining, Keeping, part_kept}
use Rattle.aql_rewrite.specs.inner.Applications.{Applications, at_once, next, Application}

used_kept : (us : Uses) (away xs ys : List Ident) → KeepsVariables None us xs ys
    → are_among us (away ++ xs) ≡ true
    → are_among us (away ++ ys) ≡ true
used_kept [] away xs ys k h = refl
used_kept (u ∷ us) away xs ys k h =
    let x = used_variable u in
    let l = both (has x (away ++ xs)) (are_among us (away ++ xs)) h in
    and_true (has x (away ++ ys)) (are_among us (away ++ ys))
    (has_either x away xs l.0 (λ m. has_front x away ys m)
    (λ m. has_back x away ys (k x (ap (λ (b : Bool). b || is_used x us) (same_self x)) m)))
    (used_kept us away xs ys (λ z m n. k z (later z (same_ident z x) m) n) l.1)
  where
    later : (z : Ident) (b : Bool) → is_used z us ≡ true → (b || is_used z us) ≡ true
    later z true m = refl
    later z false m = m

pub placed_kept : (facts : Facts) (outer away : List Ident) (us : Uses) (p q : Plan) (r : Option Rename)
    → Placed false false facts outer away us p → KeepsPlaced false false facts outer us p q r
    → are_among us (away ++ vars_of outer q) ≡ true → Placed false false facts outer away us q
placed_kept facts outer away us p q r placed kept used = record {
  known = placed.known;
  suits = kept.suits;
  shaped =
      let s = placed.shaped in (s.0, s.1, kept.shape s.0 s.1 s.2);
  found = kept.found;
  used = used;
  once = λ z e. omega (arith, placed.once z e, kept.fewer z);
  numbers = fewer_have IsNumber (vars_set q) (vars_set p) kept.fewer placed.numbers;
}

module _ (R : Rewriting) (facts : Facts)
    (refines : Refining false facts R) (keeps : Keeping false facts R) where
  steps_placed : (outer away : List Ident) (us : Uses) {p q : Plan} {x y : Bool}
      → Placed false false facts outer away us p → Applications Plan (Application R us) p q x y
      → Placed false false facts outer away us q
  steps_placed outer away us h at_once = h
  steps_placed outer away us h (next {m = m} {d = d} k s) =
      let before = steps_placed outer away us h k in
      let kept = part_kept false facts R refines keeps outer away us m d None before s in
      placed_kept facts outer away us m d None before kept
      (used_kept us away (vars_of outer m) (vars_of outer d) kept.vars before.used)

-- the rule is one for plans without fragments
pub stays_placed : (R : Rewriting) (facts : Facts) (fragments : Bool) → fragments ≡ false
    → Refining fragments facts R → Keeping fragments facts R → (us : Uses) (p q : Plan) (x y : Bool)
    → IsPlaced false false facts us p → Applications Plan (Application R us) p q x y
    → IsPlaced false false facts us q
stays_placed R facts fragments e refines keeps us p q x y h k = (
  h.0,
  h.1,
  steps_placed R facts (subst (λ (f : Bool). Refining f facts R) e refines)
      (subst (λ (f : Bool). Keeping f facts R) e keeps) h.0 h.1 us h.2 k,
)

-- whatever is used above
pub placed_unseen : (facts : Facts) (us vs : Uses) (p : Plan) → vs ≡ [] → IsPlaced false false facts us p
    → IsPlaced false false facts vs p
placed_unseen facts us vs p e h = subst (λ (ws : Uses). IsPlaced false false facts ws p) (sym e) (
  h.0,
  h.1,
  record {
    known = h.2.known;
    suits = h.2.suits;
    shaped = h.2.shaped;
    found = h.2.found;
    used = refl;
    once = h.2.once;
    numbers = h.2.numbers;
  },
)

-- the same of the input of a node
pub placed_under : (facts : Facts) (us vs : Uses) (b : Plan) (n : Node) → vs ≡ under n us
    → IsPlaced false false facts us (Over b n) → IsPlaced false false facts vs b
placed_under facts us vs b n e h =
    subst (λ (ws : Uses). IsPlaced false false facts ws b) (sym e)
    (subst (λ (o : Bool). IsPlaced false o facts (under n us) b) (outside n h.2.suits.1)
    (placed_below false false facts us b n h))

-- as the rule takes it
pub placed_for : (facts : Facts) (fragments : Bool) (us vs : Uses) (p : Plan) → fragments ≡ false → vs ≡ us
    → IsPlaced false false facts us p → IsPlaced fragments false facts vs p
placed_for facts fragments us vs p e f h =
    subst₂ (λ (k : Bool) (ws : Uses). IsPlaced k false facts ws p) (sym e) (sym f) h
