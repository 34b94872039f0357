-- A well-formed plan stays so with another part in it: below a node, with its renaming, and as a body.
use Rattle.std.proofs.Common.{◌≡◌, ◌∙◌, ℕ, suc, ◌+◌, ◌≤◌, List, [], ◌∷◌, ◌++◌, Bool, true, false, true≢false, cond, refl, sym, subst, arith}
use Rattle.std.specs.Prelude.{Option, Some, None}
use Rattle.aql_tree.specs.declared.syntax.Ident.{Ident}
use Rattle.aql_tree.specs.declared.syntax.Ident.TheVariants.{Num}
use Rattle.aql_meaning.specs.Row.{same_ident}
use Rattle.aql_meaning.specs.Numbered.{IsNumber}
use Rattle.aql_meaning.specs.Uses.{Uses}
use Rattle.aql_plan.specs.declared.facts.Facts.{Facts}
use Rattle.aql_plan.specs.Plan.{Plan, Over, Node, Subquery}
use Rattle.aql_plan.specs.Needs.{under, result_uses}
use Rattle.aql_plan.specs.Above.{input_inside}
use Rattle.aql_plan.specs.Variables.{vars_of, vars_set, set_once, count}
use Rattle.aql_plan.specs.Shapes.{Shape, Result, Shaped, one_row, calculated, with_subquery, plain_rows, ordered_rows, scatter, distribute, remote, lowest, lowest_in_order, other_reading, passing, sorting, gather, gather_in_order, partial, joining, finishing, returning, is_inside, HasNoFragment, KeepsShape}
use Rattle.aql_plan_laws.specs.laws.Among.{count_append, counted_once, once_distinct, fewer_have}
use Rattle.aql_plan_laws.specs.laws.FoundMapped.{node_still, rows_still}
use Rattle.aql_plan_laws.specs.laws.RenamedPlaces.{renamed_over}
use Rattle.aql_plan_laws.specs.laws.ShapesKept.{kept_over, kept_body}
use Rattle.aql_rewrite.specs.declared.swap.Rename.{Rename}
use Rattle.aql_rewrite.specs.Places.{renamed_by}
use Rattle.aql_rewrite.specs.Placed.{Suits, IsWhole, Placed}
use Rattle.aql_rewrite.specs.Swaps.{KeepsPlaced}
use Rattle.aql_rewrite.specs.laws.Standing.{not_above, outside, StandsBy}

suits_over : (k : Bool) (facts : Facts) (b c : Plan) (n : Node) → Suits k facts (Over b n) → Suits k facts c
    → Suits k facts (Over c n)
suits_over true facts b c n h g = h
suits_over false facts b c n h g = (g, h.1)

suits_with : (k : Bool) (facts : Facts) (b s t : Plan) (x : Ident) → Suits k facts (Over b (Subquery x s))
    → Suits k facts t → Suits k facts (Over b (Subquery x t))
suits_with true facts b s t x h g = h
suits_with false facts b s t x h g = (h.0, g)

keeps_below : (k inside : Bool) (facts : Facts) (outer away : List Ident) (us : Uses) (n : Node) (b c : Plan)
    → Placed k inside facts outer away us (Over b n)
    → KeepsPlaced k (input_inside n inside) facts outer (under n us) b c None
    → KeepsPlaced k inside facts outer us (Over b n) (Over c n) None
keeps_below k inside facts outer away us n b c placed kept = record {
  suits = suits_over k facts b c n placed.suits kept.suits;
  shape = kept_over facts c b n inside kept.shape;
  found =
      let s = placed.found in
      let f = node_still us (vars_of outer b) (vars_of outer c) n kept.vars (s.1, s.2, s.3) in
      (kept.found, f.0, f.1, f.2);
  vars = rows_still us outer b c n kept.vars;
  fewer =
      λ z. omega (
        arith,
        kept.fewer z,
        count_append z (set_once n) (vars_set b),
        count_append z (set_once n) (vars_set c),
      );
}

-- a plan without fragments stands in none
outside_shape : (facts : Facts) {p : Plan} {s : Shape} → Shaped facts p s → HasNoFragment p
    → is_inside s ≡ false
outside_shape facts one_row lone = refl
outside_shape facts (calculated f h) lone = refl
outside_shape facts (with_subquery g h) lone = refl
outside_shape facts (plain_rows i f h) lone = refl
outside_shape facts (ordered_rows i f h) lone = refl
outside_shape facts (scatter f h) lone = absurd lone.1
outside_shape facts (distribute f h) lone = absurd lone.1
outside_shape facts (remote i h) lone = absurd lone.1
outside_shape facts (lowest i f h) lone = absurd (true≢false (outside_shape facts h lone.0))
outside_shape facts (lowest_in_order i f h) lone = absurd (true≢false (outside_shape facts h lone.0))
outside_shape facts (other_reading i f h) lone = absurd (true≢false (outside_shape facts h lone.0))
outside_shape facts (passing i f h) lone = absurd (true≢false (outside_shape facts h lone.0))
outside_shape facts (sorting f h) lone = absurd (true≢false (outside_shape facts h lone.0))
outside_shape facts (gather h) lone = absurd lone.1
outside_shape facts (gather_in_order f h) lone = absurd lone.1
outside_shape facts (partial f h) lone = absurd lone.1
outside_shape facts (joining h) lone = absurd lone.1
outside_shape facts (finishing f h) lone = absurd lone.1
outside_shape facts (returning f h) lone = refl

-- a renaming is one of a rule for plans without fragments, and what goes by another name is set below
keeps_renamed : (inside : Bool) (facts : Facts) (outer away : List Ident) (us : Uses) (n : Node) (b c : Plan)
    (r : Rename)
    → Placed false inside facts outer away us (Over b n) → 1 ≤ count (Num r.from) (vars_set b)
    → KeepsPlaced false (input_inside n inside) facts outer (under n us) b c (Some r)
    → KeepsPlaced false inside facts outer us (Over b n) (Over c (renamed_by (Some r) n)) (Some r)
keeps_renamed true facts outer away us n b c r placed set kept =
    absurd (true≢false (sym placed.shaped.1 ∙ outside_shape facts placed.shaped.2 placed.suits))
keeps_renamed false facts outer away us n b c r placed set kept =
    let x = Num r.from in
    let above = not_above false false facts outer away us n b x placed set in
    let k = renamed_over x (Num r.to) facts outer us c b n placed.suits.1 above.0 above.1 above.3 placed.found
    (record {
      shape = subst (λ (i : Bool). KeepsShape i facts c b) (outside n placed.suits.1) kept.shape;
      no_fragment = kept.suits;
      found = kept.found;
      vars = kept.vars;
      fewer = kept.fewer;
    }) in record {
      suits = k.no_fragment;
      shape = k.shape;
      found = k.found;
      vars = k.vars;
      fewer = k.fewer;
    }

pub keeps_over : (k inside : Bool) (facts : Facts) (outer away : List Ident) (us : Uses) (n : Node)
    (b c : Plan)
    (r : Option Rename)
    → Placed k inside facts outer away us (Over b n)
    → StandsBy k (input_inside n inside) facts (under n us) b c r
    → KeepsPlaced k (input_inside n inside) facts outer (under n us) b c r
    → KeepsPlaced k inside facts outer us (Over b n) (Over c (renamed_by r n)) r
keeps_over k inside facts outer away us n b c None placed h kept =
    keeps_below k inside facts outer away us n b c placed kept
keeps_over true inside facts outer away us n b c (Some r) placed h kept = absurd (true≢false h.0)
keeps_over false inside facts outer away us n b c (Some r) placed h kept =
    keeps_renamed inside facts outer away us n b c r placed h.2 kept

pub keeps_body : (k inside : Bool) (facts : Facts) (outer away : List Ident) (us : Uses) (x : Ident)
    (s t b : Plan)
    (r : Option Rename)
    → Placed k inside facts outer away us (Over b (Subquery x s))
    → KeepsPlaced k false facts (vars_of outer b) result_uses s t r
    → KeepsPlaced k inside facts outer us (Over b (Subquery x s)) (Over b (Subquery x t)) None
keeps_body k inside facts outer away us x s t b r placed kept = record {
  suits = suits_with k facts b s t x placed.suits kept.suits;
  shape = kept_body facts x b t s inside kept.shape;
  found = (placed.found.0, refl, refl, kept.found);
  vars = λ z h m. m;
  fewer =
      λ z. fewer z (same_ident z x) (kept.fewer z) (count_append z (vars_set s) (vars_set b))
      (count_append z (vars_set t) (vars_set b));
}
  where
    fewer : (z : Ident) (d : Bool) → count z (vars_set t) ≤ count z (vars_set s)
        → count z (vars_set s ++ vars_set b) ≡ count z (vars_set s) + count z (vars_set b)
        → count z (vars_set t ++ vars_set b) ≡ count z (vars_set t) + count z (vars_set b)
        → cond d (suc (count z (vars_set t ++ vars_set b))) (count z (vars_set t ++ vars_set b))
        ≤ cond d (suc (count z (vars_set s ++ vars_set b))) (count z (vars_set s ++ vars_set b))
    fewer z true h e f = omega (arith, h, e, f)
    fewer z false h e f = omega (arith, h, e, f)

-- a whole plan stays whole
pub whole_kept : (k : Bool) (facts : Facts) (p q : Plan) (r : Option Rename) → IsWhole k facts p
    → KeepsPlaced k false facts [] result_uses p q r → IsWhole k facts q
whole_kept k facts p q r whole kept = (
  (
    whole.0.0,
    kept.shape Result refl whole.0.1,
    kept.found,
    once_distinct (vars_set q ++ []) (λ z. omega (
      arith,
      counted_once (vars_set p ++ []) whole.0.3 z,
      count_append z (vars_set p) [],
      count_append z (vars_set q) [],
      kept.fewer z,
    )),
    fewer_have IsNumber (vars_set q) (vars_set p) kept.fewer whole.0.4,
  ),
  kept.suits,
)
