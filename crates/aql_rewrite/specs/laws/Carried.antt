-- What a rule shows at its place, and each node and each subquery carry on from a part to the plan around it,
-- holds of one application at the first place in a whole plan.
use Rattle.std.proofs.Common.{◌≡◌, ℕ, ◌<◌, ◌≤◌, List, ◌∷◌, ◌++◌, Bool, true, false, refl, arith}
use Rattle.std.specs.Prelude.{Option, Some, None}
use Rattle.aql_tree.specs.declared.syntax.Ident.{Ident}
use Rattle.aql_tree.specs.declared.syntax.Ident.TheVariants.{Num}
use Rattle.aql_tree.specs.Tree.{ExprTree, variable}
use Rattle.aql_meaning.specs.Substitution.{put}
use Rattle.aql_meaning.specs.Uses.{Uses}
use Rattle.aql_plan.specs.declared.facts.Facts.{Facts}
use Rattle.aql_plan.specs.Exprs.{map_node}
use Rattle.aql_plan.specs.Plan.{Plan, Over, Node, Subquery}
use Rattle.aql_plan.specs.Needs.{under, result_uses}
use Rattle.aql_plan.specs.Above.{input_inside}
use Rattle.aql_plan.specs.Variables.{vars_of, set_once}
use Rattle.aql_rewrite.specs.declared.swap.Rename.{Rename}
use Rattle.aql_rewrite.specs.Places.{renamed_by, Rewriting, First, below, here, body}
use Rattle.aql_rewrite.specs.Placed.{Placed}
use Rattle.aql_rewrite.specs.laws.PlacedBelow.{placed_below, placed_body}

-- a relation of an old part to a new one, by whether they stand in a fragment, the variables of the start
-- row, what is used above, and what is renamed
abbrev pub Relation : Type 1
Relation = Bool → List Ident → Uses → Plan → Plan → Option Rename → Type 0

pub record Carries (k : Bool) (facts : Facts) (P : Relation) : Type 0 where
  pub over : (inside : Bool) (outer away : List Ident) (us : Uses) (n : Node) (b c : Plan) (r : Option Rename)
      → Placed k inside facts outer away us (Over b n) → P (input_inside n inside) outer (under n us) b c r
      → P inside outer us (Over b n) (Over c (renamed_by r n)) r
  pub with : (outer away : List Ident) (us : Uses) (x : Ident) (b s t : Plan) (r : Option Rename)
      → Placed k false facts outer away us (Over b (Subquery x s))
      → P false (vars_of outer b) result_uses s t r
      → P false outer us (Over b (Subquery x s)) (Over b (Subquery x t)) None

module _ (k : Bool) (facts : Facts) (R : Rewriting) (P : Relation) (carries : Carries k facts P)
    (law : (outer away : List Ident) (us : Uses) (p q : Plan) (r : Option Rename)
    → Placed k false facts outer away us p → R us p q r → P false outer us p q r) where
  pub first_carried : {inside : Bool} {us : Uses} {p q : Plan} {r : Option Rename}
      → First R inside us p q r → (outer away : List Ident) → Placed k inside facts outer away us p
      → P inside outer us p q r
  first_carried (below {inside = inside} {us = us} {b = b} {c = c} {n = n} {r = r} h) outer away placed =
      carries.over inside outer away us n b c r placed
      (first_carried h outer (set_once n ++ away) (placed_below k inside facts outer away us n b placed))
  first_carried (here {us = us} {b = b} {q = q} {n = n} {r = r} m h) outer away placed =
      law outer away us (Over b n) q r placed h
  first_carried (body {us = us} {b = b} {s = s} {t = t} {x = x} {r = r} m g h) outer away placed =
      carries.with outer away us x b s t r placed
      (first_carried h (vars_of outer b) (x ∷ away) (placed_body k false facts outer away us x s b placed))

-- ---- a measure

-- m falls, and h does not rise
pub record Lowers (m h : Plan → ℕ) (p q : Plan) : Type 0 where
  pub falls : m q < m p
  pub stays : h q ≤ h p

-- kept over a node, whatever is renamed in it, and around a body
pub record Lifts (m h : Plan → ℕ) : Type 0 where
  pub over : (b c : Plan) (n : Node) (r : Option Rename) → Lowers m h b c
      → Lowers m h (Over b n) (Over c (renamed_by r n))
  pub with : (b s t : Plan) (x : Ident) → Lowers m h s t
      → Lowers m h (Over b (Subquery x s)) (Over b (Subquery x t))

-- over a node, whatever is renamed in it, where both are the same of a node with other expressions
pub renamed_lowers : (m h : Plan → ℕ)
    → ((b c : Plan) (n : Node) → Lowers m h b c → Lowers m h (Over b n) (Over c n))
    → ((f : ExprTree → ExprTree) (c : Plan) (n : Node) → (m (Over c (map_node f n)) ≡ m (Over c n))
    × (h (Over c (map_node f n)) ≡ h (Over c n)))
    → (b c : Plan) (n : Node) (r : Option Rename) → Lowers m h b c
    → Lowers m h (Over b n) (Over c (renamed_by r n))
renamed_lowers m h over mapped b c n None l = over b c n l
renamed_lowers m h over mapped b c n (Some r) l =
    let k = over b c n l in
    let e = mapped (put (Num r.from) (variable (Num r.to))) c n in
    record { falls = omega (arith, k.falls, e.0); stays = omega (arith, k.stays, e.1) }

pub first_lowers : (k : Bool) (facts : Facts) (R : Rewriting) (m h : Plan → ℕ) → Lifts m h
    → ((outer away : List Ident) (us : Uses) (p q : Plan) (r : Option Rename)
    → Placed k false facts outer away us p → R us p q r → Lowers m h p q)
    → {inside : Bool} {us : Uses} {p q : Plan} {r : Option Rename} → First R inside us p q r
    → (outer away : List Ident) → Placed k inside facts outer away us p → Lowers m h p q
first_lowers k facts R m h lifts law = first_carried k facts R (λ inside outer us p q r. Lowers m h p q)
    (record {
      over = λ inside outer away us n b c r placed g. lifts.over b c n r g;
      with = λ outer away us x b s t r placed g. lifts.with b s t x g;
    }) law
