-- A part of a plan that differs only low on its spine, and there in no variable.
use Rattle.std.proofs.Common.{◌≡◌, List, ◌++◌, Bool, true, false, true≢false, refl, ap, sym, subst, arith}
use Rattle.std.specs.Prelude.{None}
use Rattle.std.specs.List.{list_any}
use Rattle.aql_tree.specs.declared.syntax.Ident.{Ident}
use Rattle.aql_meaning.specs.Row.{Row, same_ident}
use Rattle.aql_meaning.specs.Uses.{Uses}
use Rattle.aql_plan.specs.declared.facts.Facts.{Facts}
use Rattle.aql_plan.specs.Above.{input_inside}
use Rattle.aql_plan.specs.Needs.{sets}
use Rattle.aql_plan.specs.Plan.{Plan, Over, Node, Collect, Return, NoResults, Scatter, Distribute, Gather}
use Rattle.aql_plan.specs.Runs.{Dataset, Outside, Runs, Gives}
use Rattle.aql_plan.specs.Shapes.{HasNoFragment, KeepsShape}
use Rattle.aql_plan.specs.Variables.{vars_of, FindsAll, vars_set, set_once, count}
use Rattle.aql_plan_laws.specs.laws.FoundMapped.{NodeFinds}
use Rattle.aql_plan_laws.specs.laws.ShapesKept.{kept_over}
use Rattle.aql_rewrite.specs.Swaps.{KeepsPlaced}

-- nodes that make their rows of those of their input
abbrev pub takes_rows : Node → Bool
takes_rows NoResults = false
takes_rows (Scatter coll only) = false
takes_rows (Distribute coll es) = false
takes_rows (Gather directions es) = false
takes_rows n = true

-- the lists that a node makes over the lists of a plan
abbrev pub Made : Plan → Node → Dataset → Row → List Row → Type 0
Made b n w start out = (rows : List Row) × Runs b w Outside start rows × Gives n w Outside start rows out

pub made : (n : Node) → takes_rows n ≡ true → (b : Plan) (w : Dataset) (start : Row) (out : List Row)
    → Runs (Over b n) w Outside start out → Made b n w start out
made NoResults l b w start out g = absurd (true≢false (sym l))
made (Scatter coll only) l b w start out g = absurd (true≢false (sym l))
made (Distribute coll es) l b w start out g = absurd (true≢false (sym l))
made (Gather directions es) l b w start out g = absurd (true≢false (sym l))
made n l b w start out g = g

pub run_of : (n : Node) → takes_rows n ≡ true → (b : Plan) (w : Dataset) (start : Row) (out : List Row)
    → Made b n w start out → Runs (Over b n) w Outside start out
run_of NoResults l b w start out g = absurd (true≢false (sym l))
run_of (Scatter coll only) l b w start out g = absurd (true≢false (sym l))
run_of (Distribute coll es) l b w start out g = absurd (true≢false (sym l))
run_of (Gather directions es) l b w start out g = absurd (true≢false (sym l))
run_of n l b w start out g = g

outside_too : (n : Node) → takes_rows n ≡ true → input_inside n false ≡ false
outside_too (Gather directions es) l = absurd (true≢false (sym l))
outside_too n l = refl

-- the new part c sets and finds the same variables as p, and has its shape
pub record SameFrame (facts : Facts) (outer : List Ident) (p c : Plan) : Type 0 where
  pub suits : HasNoFragment p → HasNoFragment c
  pub shape : KeepsShape false facts c p
  pub found : FindsAll outer p → FindsAll outer c
  pub vars : vars_of outer p ≡ vars_of outer c
  pub set : vars_set p ≡ vars_set c

vars_over : (outer : List Ident) (b c : Plan) (n : Node) → vars_of outer b ≡ vars_of outer c
    → vars_of outer (Over b n) ≡ vars_of outer (Over c n)
vars_over outer b c (Collect xs es gs i s) e = refl
vars_over outer b c (Return distinct f) e = refl
vars_over outer b c n e = ap (λ (xs : List Ident). sets n ++ xs) e

pub frame_over : (facts : Facts) (outer : List Ident) (b c : Plan) (n : Node) → takes_rows n ≡ true
    → SameFrame facts outer b c → SameFrame facts outer (Over b n) (Over c n)
frame_over facts outer b c n l h = record {
  suits = λ k. (h.suits k.0, k.1);
  shape = kept_over facts c b n false
      (subst (λ (inside : Bool). KeepsShape inside facts c b) (sym (outside_too n l)) h.shape);
  found = λ f.
      let m = subst (λ (xs : List Ident). NodeFinds xs n) h.vars (f.1, f.2, f.3) in
      (h.found f.0, m.0, m.1, m.2);
  vars = vars_over outer b c n h.vars;
  set = ap (λ (xs : List Ident). set_once n ++ xs) h.set;
}

pub frame_kept : (facts : Facts) (outer : List Ident) (us : Uses) (p c : Plan)
    → SameFrame facts outer p c → HasNoFragment p → FindsAll outer p
    → KeepsPlaced false false facts outer us p c None
frame_kept facts outer us p c h lone found = record {
  suits = h.suits lone;
  shape = h.shape;
  found = h.found found;
  vars = λ x used there. subst (λ (xs : List Ident). list_any (same_ident x) xs ≡ true) h.vars there;
  fewer = λ x. omega (arith, ap (count x) h.set);
}
