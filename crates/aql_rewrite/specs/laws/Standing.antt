-- A part that refines another one does so below a node, wherever both stand, and as a body; a renaming goes
-- on through the nodes above.
use Rattle.std.proofs.Common.{◌≡◌, ℕ, suc, ◌+◌, ◌≤◌, List, [], ◌∷◌, ◌++◌, Bool, true, false, true≢false, cond, refl, arith}
use Rattle.std.specs.Prelude.{Option, Some, None}
use Rattle.std.specs.List.{AllByRecursion}
use Rattle.aql_tree.specs.declared.syntax.Ident.{Ident}
use Rattle.aql_tree.specs.declared.syntax.Ident.TheVariants.{Num}
use Rattle.aql_meaning.specs.Row.{same_ident}
use Rattle.aql_meaning.specs.Numbered.{IsNumber}
use Rattle.aql_meaning.specs.Uses.{Uses}
use Rattle.aql_meaning.specs.declared.grouping.Stage.TheVariants as stage
use Rattle.aql_plan.specs.declared.facts.Facts.{Facts}
use Rattle.aql_plan.specs.Plan.{Plan, Over, Node, Subquery, Collect, Scatter, Distribute, Gather}
use Rattle.aql_plan.specs.Needs.{sets, under, result_uses}
use Rattle.aql_plan.specs.Above.{input_inside}
use Rattle.aql_plan.specs.Refines.{Refines}
use Rattle.aql_plan.specs.Shapes.{IsNoFragment}
use Rattle.aql_plan.specs.Variables.{vars_set, set_once, count}
use Rattle.aql_plan.specs.Renaming.{IsOther, RefinesRenamed, IsGoneAfter}
use Rattle.aql_plan_laws.specs.laws.Among.{count_append, none_in, counted_has}
use Rattle.aql_plan_laws.specs.laws.Congruence.{refines_answers, refines_body, Stands, stands_below}
use Rattle.aql_meaning.specs.laws.Idents.{same_swapped}
use Rattle.aql_plan_laws.specs.laws.RenamedAbove.{renamed_below, renamed_answers}
use Rattle.aql_plan_laws.specs.laws.RenamedPlaces.{number_is_no_result}
use Rattle.aql_plan_laws.specs.laws.SetsHave.{node_sets}
use Rattle.aql_rewrite.specs.declared.swap.Rename.{Rename}
use Rattle.aql_rewrite.specs.Places.{renamed_by}
use Rattle.aql_rewrite.specs.Placed.{Placed}
use Rattle.aql_rewrite.specs.laws.Unused.{unused_from}

-- ---- variables that a node does not set

one_less : (t : Bool) (n : ℕ) → cond t (suc n) n ≤ 0 → (t ≡ false) × (n ≤ 0)
one_less true n h = absurd (omega arith)
one_less false n h = (refl, h)

module _ (x y : Ident) where
  pub other : (z : Ident) → same_ident x z ≡ false → same_ident y z ≡ false → IsOther x y z
  other z h k = (h, same_swapped y z k)

  pub all_other : (zs : List Ident) → count x zs ≤ 0 → count y zs ≤ 0 → AllByRecursion (IsOther x y) zs
  all_other [] h k = tt
  all_other (z ∷ zs) h k =
      let a = one_less (same_ident x z) (count x zs) h in
      let b = one_less (same_ident y z) (count y zs) k in
      (other z a.0 b.0, all_other zs a.1 b.1)

-- ---- a renaming above a part

-- a variable that is set below a node is set nowhere else
pub not_above : (k inside : Bool) (facts : Facts) (outer away : List Ident) (us : Uses) (n : Node) (b : Plan)
    (z : Ident) → Placed k inside facts outer away us (Over b n) → 1 ≤ count z (vars_set b)
    → (same_ident z (Num 0) ≡ false) × (count z (set_once n) ≤ 0) × (count z away ≤ 0) × (count z outer ≤ 0)
not_above k inside facts outer away us n b z h set =
    let e = count_append z (set_once n) (vars_set b) in
    let r = number_is_no_result z (counted_has IsNumber z (set_once n ++ vars_set b)
    (omega (arith, e, set)) h.numbers) in
    let a = h.once z r in
    (r, omega (arith, a, e, set), omega (arith, a, e, set), omega (arith, a, e, set))

gone_after : (facts : Facts) (inside : Bool) (outer away : List Ident) (us : Uses) (n : Node) (b : Plan)
    (x y : Ident)
    → Placed false inside facts outer away us (Over b n) → 1 ≤ count x (vars_set b) → IsGoneAfter x y n us
gone_after facts inside outer away us (Collect xs es gs i stage.Whole) b x y h set =
    let n = Collect xs es gs i stage.Whole in
    let a = not_above false inside facts outer away us n b x h set in
    unused_from x us (away ++ (sets n ++ outer)) (none_in x (away ++ (sets n ++ outer))
    (omega (arith, a.1, a.2, a.3, count_append x away (sets n ++ outer), count_append x (sets n) outer)))
    h.used
gone_after facts inside outer away us (Collect xs es gs i stage.Partial) b x y h set = absurd h.suits.1
gone_after facts inside outer away us (Collect xs es gs i stage.Final) b x y h set = absurd h.suits.1
gone_after facts inside outer away us n b x y h set = tt

pub outside : (n : Node) → IsNoFragment n → input_inside n false ≡ false
outside (Gather directions es) plain = absurd plain
outside (Scatter coll only) plain = absurd plain
outside (Distribute coll es) plain = absurd plain
outside n plain = refl

-- ---- a part anywhere

-- q stands for p, where `inside` tells whether both stand in a fragment
abbrev pub StandsBy : Bool → Bool → Facts → Uses → Plan → Plan → Option Rename → Type 0
StandsBy k inside facts us p q None = Stands inside us facts q p
StandsBy k inside facts us p q (Some r) = (k ≡ false)
    × RefinesRenamed (Num r.from) (Num r.to) us facts q p
    × (1 ≤ count (Num r.from) (vars_set p)) × (1 ≤ count (Num r.to) (vars_set p))

set_below : (z : Ident) (n : Node) (b : Plan) → 1 ≤ count z (vars_set b) → 1 ≤ count z (vars_set (Over b n))
set_below z n b h = omega (arith, h, count_append z (set_once n) (vars_set b))

pub stands_over : (k inside : Bool) (facts : Facts) (outer away : List Ident) (us : Uses) (n : Node)
    (b c : Plan)
    (r : Option Rename)
    → Placed k inside facts outer away us (Over b n)
    → StandsBy k (input_inside n inside) facts (under n us) b c r
    → StandsBy k inside facts us (Over b n) (Over c (renamed_by r n)) r
stands_over k inside facts outer away us n b c None placed h = stands_below n inside us facts c b h
stands_over true inside facts outer away us n b c (Some r) placed h = absurd (true≢false h.0)
stands_over false inside facts outer away us n b c (Some r) placed h =
    let x = Num r.from in
    let y = Num r.to in
    let f = not_above false inside facts outer away us n b x placed h.2 in
    let t = not_above false inside facts outer away us n b y placed h.3 in (
      refl,
      renamed_below x y n (outside n placed.suits.1) (node_sets (IsOther x y) n placed.suits.1
          (all_other x y (set_once n) f.1 t.1))
          (other x y (Num 0) f.0 t.0) us (gone_after facts inside outer away us n b x y placed h.2)
          facts c b h.1,
      set_below x n b h.2,
      set_below y n b h.3,
    )

-- for the result a renaming has ended
pub stands_result : (k : Bool) (facts : Facts) (p q : Plan) (r : Option Rename)
    → AllByRecursion IsNumber (vars_set p) → StandsBy k false facts result_uses p q r → Refines facts q p
stands_result k facts p q None numbers h = refines_answers facts q p h
stands_result k facts p q (Some r) numbers h =
    let x = Num r.from in
    let y = Num r.to in
    renamed_answers x y
    (other x y (Num 0) (number_is_no_result x (counted_has IsNumber x (vars_set p) h.2 numbers))
    (number_is_no_result y (counted_has IsNumber y (vars_set p) h.3 numbers))) facts q p h.1

pub stands_with : (k : Bool) (facts : Facts) (us : Uses) (x : Ident) (b s t : Plan) (r : Option Rename)
    → AllByRecursion IsNumber (vars_set s) → StandsBy k false facts result_uses s t r
    → StandsBy k false facts us (Over b (Subquery x s)) (Over b (Subquery x t)) None
stands_with k facts us x b s t r numbers h = refines_body x us facts b t s
    (stands_result k facts s t r numbers h)
