-- A COLLECT without the variables that are not used.
use Rattle.std.proofs.Common.{◌≡◌, ◌∙◌, ◌<◌, List, [], ◌∷◌, ◌++◌, length, Bool, true, false, true≢false, refl, ap, ap₂, sym, subst, subst₂, arith, ◌+◌}
use Rattle.std.specs.Prelude.{◌&&◌, cond, filter, Option, None, option_to_list}
use Rattle.std.specs.List.{AllByRecursion}
use Rattle.std.proofs.lemmas.List.Folds.{list_all-append}
use Rattle.aql_value.specs.laws.Alls.{all_parts}
use Rattle.aql_tree.specs.declared.syntax.Ident.{Ident}
use Rattle.aql_tree.specs.Tree.{ExprTree, ExprTrees, AggregateTrees, aggregate_then, IntoTree}
use Rattle.aql_tree.specs.View.{AggregatePart, aggregates, maybe}
use Rattle.aql_meaning.specs.Numbered.{IsNumber}
use Rattle.aql_meaning.specs.declared.grouping.Stage.{Stage}
use Rattle.aql_meaning.specs.declared.grouping.Stage.TheVariants as stage
use Rattle.aql_meaning.specs.Uses.{Uses, all_uses, aggregate_uses, into_uses, is_used}
use Rattle.aql_meaning.specs.Visible.{aggregate_vars, into_var}
use Rattle.aql_plan.specs.declared.facts.Facts.{Facts}
use Rattle.aql_plan.specs.Exprs.{map_node}
use Rattle.aql_plan.specs.Needs.{result_uses}
use Rattle.aql_plan.specs.Plan.{Plan, Over, Node, Collect, top}
use Rattle.aql_plan.specs.Refines.{RefinesFor}
use Rattle.aql_plan.specs.Shapes.{HasNoFragment, plain_rows, lowest, other_reading, passing, KeepsShape}
use Rattle.aql_plan.specs.Variables.{vars_of, vars_set}
use Rattle.aql_plan_laws.specs.laws.Among.{count_append}
use Rattle.aql_plan_laws.specs.laws.Mapped.{vars_kept, into_kept}
use Rattle.aql_rewrite.specs.declared.swap.Rename.{Rename}
use Rattle.aql_rewrite.specs.Places.{Stays, First}
use Rattle.aql_rewrite.specs.Placed.{IsWhole, Placed, IsPlaced}
use Rattle.aql_rewrite.specs.Swaps.{Replaced, KeepsPlaced}
use Rattle.aql_rewrite.specs.laws.Among.{has_front, has_back, has_either, among_join, among_split}
use Rattle.aql_rewrite.specs.Sums.{total}
use Rattle.aql_rewrite.specs.laws.Falling.{total_falls}
use Rattle.aql_rules_order.specs.RemoveCollectVariables.{used_aggregates, used_into, own_vars, all_used, Drops, unused_go}
use Rattle.aql_rules_order.specs.Measures.{vars_to_go}
use Rattle.aql_rules_order.specs.Readers.{vars_beside, used_alone}
use Rattle.aql_rules_order.specs.laws.Members.{by_rows, as_defined}
use Rattle.aql_rules_order.specs.laws.UsedAlone.{groups_agree, aggregates_among, into_among, still_known, still_plain, own_there, own_fewer, fewer_own}
use Rattle.aql_plan.specs.Nodes.{weight}

-- ---- the lists are the same in what is used

pub drops_refine : (facts : Facts) (outer away : List Ident) (us : Uses) (p q : Plan) (r : Option Rename)
    → Placed false false facts outer away us p → Drops us p q r → Replaced false facts us p q r
drops_refine facts outer away _ _ _ _ placed
    (unused_go {us = us} {b = b} {xs = xs} {es = es} {gs = gs} {i = i} {s = s} h) = by s placed
  where
    by : (s : Stage) → Placed false false facts outer away us (Over b (Collect xs es gs i s))
        → RefinesFor us facts (Over b (Collect xs es (used_aggregates us gs) (used_into us i) s))
        (Over b (Collect xs es gs i s))
    by stage.Whole placed = λ db meets start out g.
        let k = groups_agree us xs es gs i start g.0 out
        (by_rows xs es (used_aggregates us gs) (used_into us i) start g.0 out g.2) in
        (k.0, (g.0, g.1, as_defined xs es gs i start g.0 k.0 k.1), k.2)
    by stage.Partial placed = absurd placed.suits.1
    by stage.Final placed = absurd placed.suits.1

-- ---- a well-formed plan stays so

less_shaped : (facts : Facts) (us : Uses) (b : Plan) (xs : List Ident) (es : ExprTrees) (gs : AggregateTrees)
    (i : IntoTree)
    → KeepsShape false facts (Over b (Collect xs es (used_aggregates us gs) (used_into us i) stage.Whole))
    (Over b (Collect xs es gs i stage.Whole))
less_shaped facts us b xs es gs i s o (plain_rows j f h) =
    plain_rows tt (f.0, still_known us gs f.1, still_plain us i f.2, f.3) h
less_shaped facts us b xs es gs i s o (lowest j f h) = absurd j
less_shaped facts us b xs es gs i s o (other_reading j f h) = absurd j
less_shaped facts us b xs es gs i s o (passing j f h) = absurd j

pub drops_keep : (facts : Facts) (outer away : List Ident) (us : Uses) (p q : Plan) (r : Option Rename)
    → Placed false false facts outer away us p → Drops us p q r
    → KeepsPlaced false false facts outer us p q r
drops_keep facts outer away _ _ _ _ placed
    (unused_go {us = us} {b = b} {xs = xs} {es = es} {gs = gs} {i = i} {s = s} h) = by s placed
  where
    by : (s : Stage) → Placed false false facts outer away us (Over b (Collect xs es gs i s))
        → KeepsPlaced false false facts outer us (Over b (Collect xs es gs i s))
        (Over b (Collect xs es (used_aggregates us gs) (used_into us i) s)) None
    by stage.Whole placed =
        let vs = vars_of outer b in
        let f = placed.found in
        let own = among_split (all_uses es) (aggregate_uses gs ++ into_uses i) vs f.1 in
        let rest = among_split (aggregate_uses gs) (into_uses i) vs own.1 in
        let less = own_vars (used_aggregates us gs) (used_into us i) in record {
          suits = (placed.suits.0, tt);
          shape = less_shaped facts us b xs es gs i;
          found = (
            f.0,
            among_join (all_uses es)
                (aggregate_uses (used_aggregates us gs) ++ into_uses (used_into us i)) vs own.0
                (among_join (aggregate_uses (used_aggregates us gs)) (into_uses (used_into us i)) vs
                (aggregates_among us gs vs rest.0) (into_among us i vs rest.1)),
            refl,
            tt,
          );
          vars = λ z used there.
              has_either z (xs ++ own_vars gs i) outer there
              (λ k. has_front z (xs ++ less) outer (has_either z xs (own_vars gs i) k
              (λ m. has_front z xs less m)
              (λ m. has_back z xs less (own_there us gs i z used m))))
              (λ k. has_back z (xs ++ less) outer k);
          fewer = λ z. omega (
            arith,
            own_fewer us gs i z,
            count_append z xs (own_vars gs i),
            count_append z xs less,
            count_append z (xs ++ own_vars gs i) (vars_set b),
            count_append z (xs ++ less) (vars_set b),
          );
        }
    by stage.Partial placed = absurd placed.suits.1
    by stage.Final placed = absurd placed.suits.1

-- ---- the pass ends

same_vars : (f : ExprTree → ExprTree) (n : Node) → vars_to_go (map_node f n) ≡ vars_to_go n
same_vars f (Collect xs es gs i s) =
    ap₂ (λ (ys : List Ident) (x : Option Ident). length (ys ++ option_to_list x)) (vars_kept f gs)
    (into_kept f i)
same_vars f n = refl

drops_lower : (us : Uses) (p q : Plan) (r : Option Rename) → Drops us p q r
    → total vars_to_go q < total vars_to_go p
drops_lower _ _ _ _ (unused_go {us = us} {gs = gs} {i = i} h) = omega (arith, fewer_own us gs i h)

pub drops_nameless : (us : Uses) (p q : Plan) (r : Option Rename) → Drops us p q r → r ≡ None
drops_nameless _ _ _ _ (unused_go {us = us} {gs = gs} {i = i} h) = refl

pub drops_shrink : (us : Uses) (p q : Plan) (r : Option Rename) → Drops us p q r
    → weight q + total vars_to_go q < weight p + total vars_to_go p
drops_shrink _ _ _ _ (unused_go {us = us} {gs = gs} {i = i} h) = omega (arith, fewer_own us gs i h)

pub drops_fall : (facts : Facts) (p q : Plan) (r : Option Rename) → IsWhole false facts p
    → First Drops false result_uses p q r → total vars_to_go q < total vars_to_go p
drops_fall facts = total_falls vars_to_go same_vars facts Drops drops_lower

-- ---- what the rule finds

pub both_used : (us : Uses) (gs : AggregateTrees) (i : IntoTree)
    → all_used us (own_vars gs i)
    ≡ (all_used us (aggregate_vars gs) && all_used us (option_to_list (into_var i)))
both_used us gs i = list_all-append (λ x. is_used x us) (aggregate_vars gs) (option_to_list (into_var i))

pub drops_stays : (us : Uses) (b : Plan) (n : Node) → all_used us (vars_beside n) ≡ true
    → Stays Drops us (Over b n)
drops_stays us _ _ h _ _ (unused_go k) = true≢false (sym h ∙ k)

drops_in : (us : Uses) (b : Plan) (n : Node) → all_used us (vars_beside n) ≡ false
    → Drops us (Over b n) (Over b (used_alone us n)) None
drops_in us b (Collect xs es gs i s) h = unused_go h
drops_in us b n h = absurd (true≢false h)

pub drops_at : (us : Uses) (p b : Plan) (n m : Node) → p ≡ Over b n → all_used us (vars_beside n) ≡ false
    → m ≡ used_alone us n → Drops us p (Over b m) None
drops_at us p b n m d h e =
    subst₂ (λ (q : Plan) (k : Node). Drops us q (Over b k) None) (sym d) (sym e) (drops_in us b n h)

pub no_drops : (us : Uses) (p : Plan) → vars_beside (top p) ≡ [] → Stays Drops us p
no_drops us _ h _ _ (unused_go k) =
    true≢false (sym (ap (all_used us) h) ∙ k)

-- the aggregates that are used, as the program finds them
pub used_parts : (us : Uses) (all : List AggregatePart)
    → aggregates (filter (λ (a : AggregatePart). is_used a.0 us) all) ≡ used_aggregates us (aggregates all)
used_parts us [] = refl
used_parts us (a ∷ rest) = by (is_used a.0 us) (used_parts us rest)
  where
    by : (b : Bool)
        → aggregates (filter (λ (a : AggregatePart). is_used a.0 us) rest)
        ≡ used_aggregates us (aggregates rest)
        → aggregates (cond b (a ∷ filter (λ (a : AggregatePart). is_used a.0 us) rest)
        (filter (λ (a : AggregatePart). is_used a.0 us) rest))
        ≡ cond b (aggregate_then a.0 a.1 (maybe a.2) (used_aggregates us (aggregates rest)))
        (used_aggregates us (aggregates rest))
    by true e = ap (aggregate_then a.0 a.1 (maybe a.2)) e
    by false e = e

-- the node as the program changes it
pub collect_made : (us : Uses) (xs : List Ident) (es : ExprTrees) (all kept : List AggregatePart)
    (i j : IntoTree) (s : Stage) (n : Node) → n ≡ Collect xs es (aggregates all) i s
    → kept ≡ filter (λ (a : AggregatePart). is_used a.0 us) all → j ≡ used_into us i
    → Collect xs es (aggregates kept) j s ≡ used_alone us n
collect_made us xs es all kept i j s n d e f =
    ap₂ (λ (gs : AggregateTrees) (k : IntoTree). Collect xs es gs k s) (ap aggregates e ∙ used_parts us all) f
    ∙ ap (used_alone us) (sym d)

-- variables are numbers
pub own_numbers : (facts : Facts) (us : Uses) (p b : Plan) (n : Node) → IsPlaced false false facts us p
    → p ≡ Over b n → AllByRecursion IsNumber (vars_beside n)
own_numbers facts us p b n placed d =
    by n (subst (λ (m : Plan). HasNoFragment m) d placed.2.suits)
    (subst (λ (m : Plan). AllByRecursion IsNumber (vars_set m)) d placed.2.numbers)
  where
    by : (n : Node) → HasNoFragment (Over b n) → AllByRecursion IsNumber (vars_set (Over b n))
        → AllByRecursion IsNumber (vars_beside n)
    by (Collect xs es gs i stage.Whole) lone h =
        let k = all_parts IsNumber (xs ++ own_vars gs i) (vars_set b) h in
        (all_parts IsNumber xs (own_vars gs i) k.0).1
    by (Collect xs es gs i stage.Partial) lone h = absurd lone.1
    by (Collect xs es gs i stage.Final) lone h = absurd lone.1
    by n lone h = tt

pub numbers_apart : (gs : AggregateTrees) (i : IntoTree) → AllByRecursion IsNumber (own_vars gs i)
    → AllByRecursion IsNumber (aggregate_vars gs) × AllByRecursion IsNumber (option_to_list (into_var i))
numbers_apart gs i = all_parts IsNumber (aggregate_vars gs) (option_to_list (into_var i))
