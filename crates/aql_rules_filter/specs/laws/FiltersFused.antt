-- One Filter for two gives the same rows.
use Rattle.std.proofs.Common.{◌≡◌, ◌∙◌, ◌<◌, List, true, false, true≢false, refl, ap, sym, subst, subst₂, arith, ◌+◌}
use Rattle.std.specs.Prelude.{Option, None, is_some, filter, ◌&&◌}
use Rattle.aql_tree.specs.declared.syntax.Ident.{Ident}
use Rattle.aql_tree.specs.Tree.{ExprTree, one_expr}
use Rattle.aql_meaning.specs.AtRows.{values_of}
use Rattle.aql_meaning.specs.Clauses.{filter_true}
use Rattle.aql_meaning.specs.Uses.{Uses}
use Rattle.aql_plan.specs.declared.facts.Facts.{Facts}
use Rattle.aql_plan.specs.Plan.{Plan, Singleton, Over, Node, Filter}
use Rattle.aql_plan.specs.Needs.{result_uses}
use Rattle.aql_plan.specs.Shapes.{Shape, Rows, Shaped, plain_rows}
use Rattle.aql_plan.specs.Variables.{vars_of}
use Rattle.aql_plan_laws.specs.laws.Agreement.{rows_agree}
use Rattle.aql_rewrite.specs.declared.swap.Rename.{Rename}
use Rattle.aql_rewrite.specs.Places.{First}
use Rattle.aql_rewrite.specs.Placed.{Placed, IsWhole}
use Rattle.aql_rewrite.specs.Swaps.{Replaced, KeepsPlaced}
use Rattle.aql_rules_filter.specs.Conditions.{joined}
use Rattle.aql_rules_filter.specs.Measures.{filters, is_filter}
use Rattle.aql_rules_filter.specs.FuseFilters.{Fuses, fused}
use Rattle.aql_rules_filter.specs.Readers.{filter_in, narrowed, pushed}
use Rattle.aql_rewrite.specs.laws.Falling.{total_falls}
use Rattle.aql_rules_filter.specs.laws.Filtered.{holds, filtered, filter_twice, filter_same}
use Rattle.aql_rules_filter.specs.laws.Filters.{filter_shaped, same_filters}
use Rattle.aql_rules_filter.specs.laws.Joined.{joined_holds, joined_plain, joined_found}
use Rattle.aql_plan.specs.Nodes.{weight}
use Rattle.aql_rewrite.specs.Sums.{total}

pub fuses_refine : (facts : Facts) (us : Uses) (p q : Plan) (r : Option Rename) → Fuses us p q r
    → Replaced false facts us p q r
fuses_refine facts _ _ _ _ (fused {us = us} {lower = lower} {upper = upper}) = λ db meets start out g.
    let rows = g.0 in
    let both = joined (one_expr lower) upper in (
      out,
      (
        filter_true rows (values_of lower rows),
        (rows, g.1, refl),
        g.2 ∙ filtered both rows
            ∙ filter_same (holds both) (λ row. holds lower row && holds upper row)
            (joined_holds (one_expr lower) upper) rows
            ∙ sym (filter_twice (holds lower) (holds upper) rows)
            ∙ ap (filter (holds upper)) (sym (filtered lower rows))
            ∙ sym (filtered upper (filter_true rows (values_of lower rows))),
      ),
      rows_agree us out,
    )

pub fuses_keep : (facts : Facts) (outer away : List Ident) (us : Uses) (p q : Plan) (r : Option Rename)
    → Placed false false facts outer away us p → Fuses us p q r
    → KeepsPlaced false false facts outer us p q r
fuses_keep facts outer away _ _ _ _ placed
    (fused {us = us} {b = b} {lower = lower} {upper = upper}) = record {
      suits = (placed.suits.0.0, tt);
      shape = λ s out h.
          let k = filter_shaped facts (Over b (Filter lower)) upper s out h in
          let l = filter_shaped facts b lower (Rows false) refl k.2 in
          subst (λ (t : Shape). Shaped facts (Over b (Filter (joined (one_expr lower) upper))) t) (sym k.0)
          (plain_rows tt (joined_plain (one_expr lower) upper l.1 k.1) l.2);
      found = (
        placed.found.0.0,
        joined_found (vars_of outer b) (one_expr lower) upper placed.found.0.1 placed.found.1,
        refl,
        tt,
      );
      vars = λ x used h. h;
      fewer = λ x. omega arith;
    }

fuses_lower : (us : Uses) (p q : Plan) (r : Option Rename) → Fuses us p q r → filters q < filters p
fuses_lower _ _ _ _ fused = omega arith

pub fuses_fall : (facts : Facts) (p q : Plan) (r : Option Rename) → IsWhole false facts p
    → First Fuses false result_uses p q r → filters q < filters p
fuses_fall facts = total_falls is_filter same_filters facts Fuses fuses_lower

pub fuses_blind : (us vs : Uses) (p q : Plan) (r : Option Rename) → Fuses us p q r → Fuses vs p q r
fuses_blind _ vs _ _ _ fused = fused

pub fuses_nameless : (us : Uses) (p q : Plan) (r : Option Rename) → Fuses us p q r → r ≡ None
fuses_nameless _ _ _ _ fused = refl

pub fuses_shrink : (us : Uses) (p q : Plan) (r : Option Rename) → Fuses us p q r
    → weight q + total is_filter q < weight p + total is_filter p
fuses_shrink _ _ _ _ fused = omega arith

-- ---- what the rule finds

pub not_a_filter : (us : Uses) (m : Plan) → filter_in m ≡ None
    → (q : Plan) (r : Option Rename) → Fuses us m q r → ⊥
not_a_filter us _ h _ _ fused = cc

not_over_one : (us : Uses) (p : Plan) (c : ExprTree) → is_some (filter_in p) ≡ false
    → (q : Plan) (r : Option Rename) → Fuses us (Over p (Filter c)) q r → ⊥
not_over_one us _ _ h _ _ fused = absurd (true≢false h)

pub not_over_a_filter : (us : Uses) (m p : Plan) (c : ExprTree) → m ≡ Over p (Filter c)
    → is_some (filter_in p) ≡ false → (q : Plan) (r : Option Rename) → Fuses us m q r → ⊥
not_over_a_filter us m p c d h =
    subst (λ (n : Plan). (q : Plan) (r : Option Rename) → Fuses us n q r → ⊥) (sym d) (not_over_one us p c h)

over_one : (us : Uses) (p : Plan) (c : ExprTree) → is_some (filter_in p) ≡ true
    → Fuses us (Over p (Filter c)) (pushed (Over p (Filter c))) None
over_one us Singleton c h = absurd (true≢false (sym h))
over_one us (Over b n) c h = by n h
  where
    by : (n : Node) → is_some (filter_in (Over b n)) ≡ true
        → Fuses us (Over (Over b n) (Filter c)) (Over b (narrowed n c)) None
    by (Filter e) h = fused
    by n h = absurd (true≢false (sym h))

pub fused_at : (us : Uses) (m p q : Plan) (c : ExprTree) → m ≡ Over p (Filter c)
    → is_some (filter_in p) ≡ true → q ≡ pushed m → Fuses us m q None
fused_at us m p q c d h e = subst₂ (λ (n s : Plan). Fuses us n s None) (sym d) (sym (e ∙ ap pushed d))
    (over_one us p c h)
