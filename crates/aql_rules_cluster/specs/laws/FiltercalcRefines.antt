-- What distribute-filtercalc-to-cluster makes of a part, the part may give, and the part stays well formed.
use Rattle.std.proofs.Common.{◌≡◌, ◌∙◌, ℕ, List, [], ◌∷◌, map, Bool, true, false, refl, ap₂, sym, subst, arith}
use Rattle.std.specs.Prelude.{filter, Option}
use Rattle.std.specs.List.{AllByRecursion, AllZip}
use Rattle.aql_tree.specs.declared.syntax.Ident.{Ident}
use Rattle.aql_tree.specs.Tree.{ExprTree, ExprTrees, no_exprs}
use Rattle.aql_meaning.specs.AtRows.{values_of, keys_of, row_before}
use Rattle.aql_meaning.specs.Clauses.{filter_true, with_values}
use Rattle.aql_meaning.specs.Merges.{Merged}
use Rattle.aql_meaning.specs.Row.{Row}
use Rattle.aql_meaning.specs.Uses.{Uses, all_uses}
use Rattle.aql_meaning.specs.laws.SomeOrder.{keyed_order}
use Rattle.aql_plan.specs.declared.facts.Facts.{Facts}
use Rattle.aql_plan.specs.Fits.{Fits}
use Rattle.aql_plan.specs.Plan.{Plan, Node, Over, Filter, Calculation, Remote}
use Rattle.aql_plan.specs.Refines.{dataset}
use Rattle.aql_plan.specs.Runs.{Dataset, Site, Inside, Runs, Feeds, targets, sent_to}
use Rattle.aql_plan.specs.Shapes.{Order, by_keys, Shape, Rows, Fragment, Sent, Shaped, is_inside, calculated, plain_rows, remote, lowest, other_reading, passing, gather, gather_in_order}
use Rattle.aql_plan.specs.Variables.{FindsAll, vars_of}
use Rattle.aql_plan_laws.specs.laws.Agreement.{rows_agree}
use Rattle.aql_plan_laws.specs.laws.MergesAlike.{merged_alike}
use Rattle.aql_rewrite.specs.declared.swap.Rename.{Rename}
use Rattle.aql_rewrite.specs.Placed.{Placed}
use Rattle.aql_rewrite.specs.Swaps.{Replaced, KeepsPlaced}
use Rattle.aql_rewrite.specs.laws.Unused.{unused_from}
use Rattle.aql_rules_filter.specs.laws.Filtered.{holds, filtered}
use Rattle.aql_index.specs.laws.Passing.{InPairs}
use Rattle.aql_rules_cluster.specs.DistributeFiltercalcToCluster.{gathered, MovesInside, filter_inside, calculation_inside}
use Rattle.aql_rules_cluster.specs.laws.FragmentOrder.{InOrderOf, one_more, extended, extended_rows, same_before, fragment_in_order}
use Rattle.aql_rules_cluster.specs.laws.FreshVariables.{SetsOnce, not_below}
use Rattle.aql_rules_cluster.specs.laws.LiftedFilters.{filter_of_merge}

-- ---- what stands below a Gather

-- without keys no row comes before another
all_even : (rows : List Row) → InPairs (row_before [] no_exprs) rows
all_even [] = tt
all_even (row ∷ rows) = (each rows, all_even rows)
  where
    each : (rs : List Row) → AllByRecursion (λ w. row_before [] no_exprs w row ≡ false) rs
    each [] = tt
    each (r ∷ rs) = (refl, each rs)

-- the Gather over a fragment gives many rows; the fragment is in the order of its keys, and another one of
-- this order may stand there
record Gathers (facts : Facts) (directions : List Bool) (keys : ExprTrees) (f : Plan)
    (one : Bool) : Type 0 where
  pub many : one ≡ false
  pub order : Order
  pub shaped : Shaped facts f (Fragment order)
  pub sorted : (rows : List Row) → InOrderOf order rows → InPairs (row_before directions keys) rows
  pub over : (c : Plan) → Shaped facts c (Fragment order)
      → Shaped facts (gathered directions keys c) (Rows false)

-- what a fragment sends is what it gives
pub sent_fragment : (facts : Facts) (f : Plan) (o : Order) → Shaped facts (Over f Remote) (Sent (Fragment o))
    → Shaped facts f (Fragment o)
sent_fragment facts f o (remote i h) = h

gathers : (facts : Facts) (directions : List Bool) (keys : ExprTrees) (f : Plan) (one : Bool)
    → Shaped facts (gathered directions keys f) (Rows one) → Gathers facts directions keys f one
gathers facts directions keys f one (plain_rows i g h) = absurd i
gathers facts directions keys f one (gather {o = o} h) = record {
  many = refl;
  order = o;
  shaped = sent_fragment facts f o h;
  sorted = λ rows k. all_even rows;
  over = λ c k. gather (remote tt k);
}
gathers facts directions keys f one (gather_in_order g h) = record {
  many = refl;
  order = by_keys directions keys;
  shaped = sent_fragment facts f (by_keys directions keys) h;
  sorted = λ rows k. k;
  over = λ c k. gather_in_order g (remote tt k);
}

-- a Filter and a Calculation outside fragments
filter_outside : (facts : Facts) (b : Plan) (e : ExprTree) (s : Shape) → is_inside s ≡ false
    → Shaped facts (Over b (Filter e)) s
    → (s ≡ Rows false) × Fits facts (Filter e) × Shaped facts b (Rows false)
filter_outside facts b e s out (plain_rows i g h) = (refl, g, h)
filter_outside facts b e s out (lowest i g h) = absurd i
filter_outside facts b e s out (other_reading i g h) = absurd i
filter_outside facts b e s out (passing i g h) = cc

calculation_outside : (facts : Facts) (b : Plan) (x : Ident) (e : ExprTree) (s : Shape) → is_inside s ≡ false
    → Shaped facts (Over b (Calculation x e)) s
    → (one : Bool) × (s ≡ Rows one) × Fits facts (Calculation x e) × Shaped facts b (Rows one)
calculation_outside facts b x e s out (calculated {one = one} g h) = (one, refl, g, h)
calculation_outside facts b x e s out (plain_rows i g h) = absurd i
calculation_outside facts b x e s out (lowest i g h) = absurd i
calculation_outside facts b x e s out (other_reading i g h) = absurd i
calculation_outside facts b x e s out (passing i g h) = cc

-- ---- each shard's lists

-- each list of a shard is made of one of the fragment's
module _ (w : Dataset) (b : Plan) (n : Node) (start : Row) (make : List Row → List Row) (taken : List Row)
    (made : (s : ℕ) (out : List Row)
    → Runs (Over (Over b n) Remote) w (Inside s (sent_to b w s taken)) start out
    → (rows : List Row) × Runs b w (Inside s (sent_to b w s taken)) start rows × (out ≡ make rows)) where
  record Below (ss : List ℕ) (lists : List (List Row)) : Type 0 where
    pub owns : List (List Row)
    pub sent : AllZip (λ s out. Runs (Over b Remote) w (Inside s (sent_to b w s taken)) start out) ss owns
    pub run : AllZip (λ s out. Runs b w (Inside s (sent_to b w s taken)) start out) ss owns
    pub are : lists ≡ map make owns

  lists_below : (ss : List ℕ) (lists : List (List Row))
      → AllZip (λ s out. Runs (Over (Over b n) Remote) w (Inside s (sent_to b w s taken)) start out) ss lists
      → Below ss lists
  lists_below [] [] h = record { owns = []; sent = tt; run = tt; are = refl }
  lists_below [] (l ∷ lists) h = absurd h
  lists_below (s ∷ ss) [] h = absurd h
  lists_below (s ∷ ss) (l ∷ lists) h =
      let more = lists_below ss lists h.1 in
      let k = made s l h.0 in record {
        owns = k.0 ∷ more.owns;
        sent = ((k.0, k.1, refl), more.sent);
        run = (k.1, more.run);
        are = ap₂ (λ x xs. x ∷ xs) k.2 more.are;
      }

-- what a Filter and a Calculation make of the rows of a fragment, over the link, and of all rows
filter_sent : (w : Dataset) (f : Plan) (e : ExprTree) (start : Row) (site : Site) (out : List Row)
    → Runs (Over (Over f (Filter e)) Remote) w site start out
    → (rows : List Row) × Runs f w site start rows × (out ≡ filter (holds e) rows)
filter_sent w f e start site out g = (g.1.0, g.1.1, g.2 ∙ g.1.2 ∙ filtered e g.1.0)

filter_gives : (e : ExprTree) (rows out : List Row) → out ≡ filter (holds e) rows
    → out ≡ filter_true rows (values_of e rows)
filter_gives e rows out is = is ∙ sym (filtered e rows)

calculation_sent : (w : Dataset) (f : Plan) (x : Ident) (e : ExprTree) (start : Row) (site : Site)
    (out : List Row) → Runs (Over (Over f (Calculation x e)) Remote) w site start out
    → (rows : List Row) × Runs f w site start rows × (out ≡ map (extended x e) rows)
calculation_sent w f x e start site out g = (g.1.0, g.1.1, g.2 ∙ g.1.2 ∙ extended_rows x e g.1.0)

all_in_order : (w : Dataset) (f : Plan) (start : Row) (outer : List Ident) (o : Order)
    → Shaped w.facts f (Fragment o) → FindsAll outer f → SetsOnce outer f → (lt : Row → Row → Bool)
    → ((rows : List Row) → InOrderOf o rows → InPairs lt rows) → (taken : List Row) → Feeds f w start taken
    → (ss : List ℕ) (lists : List (List Row))
    → AllZip (λ s out. Runs f w (Inside s (sent_to f w s taken)) start out) ss lists
    → AllByRecursion (InPairs lt) lists
all_in_order w f start outer o h found once lt so taken fed [] [] g = tt
all_in_order w f start outer o h found once lt so taken fed [] (l ∷ lists) g = absurd g
all_in_order w f start outer o h found once lt so taken fed (s ∷ ss) [] g = absurd g
all_in_order w f start outer o h found once lt so taken fed (s ∷ ss) (l ∷ lists) g = (
  so l (fragment_in_order w start outer h found once taken fed s l g.0),
  all_in_order w f start outer o h found once lt so taken fed ss lists g.1,
)

module _ (x : Ident) (e : ExprTree) where
  abbrev IsExtended : Row → Row → Type 0
  IsExtended r s = r ≡ extended x e s

  each_extended : (rows : List Row) → AllZip IsExtended (map (extended x e) rows) rows
  each_extended [] = tt
  each_extended (row ∷ rows) = (refl, each_extended rows)

  all_extended : (lists : List (List Row)) → AllZip (AllZip IsExtended) (map (map (extended x e)) lists) lists
  all_extended [] = tt
  all_extended (l ∷ lists) = (each_extended l, all_extended lists)

  extended_again : (out rows : List Row) → AllZip IsExtended out rows → out ≡ map (extended x e) rows
  extended_again [] [] h = refl
  extended_again [] (row ∷ rows) h = absurd h
  extended_again (r ∷ out) [] h = absurd h
  extended_again (r ∷ out) (row ∷ rows) h = ap₂ (λ s ss. s ∷ ss) h.0 (extended_again out rows h.1)

  calculation_gives : (rows out : List Row) → AllZip IsExtended out rows
      → out ≡ with_values x rows (values_of e rows)
  calculation_gives rows out h = extended_again out rows h ∙ sym (extended_rows x e rows)

-- ---- the rule

pub moves_refine : (facts : Facts) (outer away : List Ident) (us : Uses) (p q : Plan) (r : Option Rename)
    → Placed true false facts outer away us p → MovesInside facts us p q r → Replaced true facts us p q r
moves_refine facts outer away _ _ _ _ placed (filter_inside {us = us} {f = f} {directions = directions}
    {keys = keys} {e = e} servers) = λ db meets start out g.
    let w = dataset facts db in
    let lt = row_before directions keys in
    let shaped = (filter_outside facts _ e placed.shaped.0 placed.shaped.1 placed.shaped.2).2 in
    let fragment = gathers facts directions keys f false shaped in
    let once : SetsOnce outer f
    = record { once = λ z d. omega (arith, placed.once z d); numbers = placed.numbers } in
    let below = lists_below w f (Filter e) start (filter (holds e)) g.0
    (λ s out h. filter_sent w f e start (Inside s (sent_to f w s g.0)) out h) (targets f w) g.1 g.3 in
    let pairs = all_in_order w f start outer fragment.order fragment.shaped placed.found.0.0.0 once lt
    fragment.sorted g.0 g.2 (targets f w) below.owns below.run in
    let mid = filter_of_merge lt (keyed_order directions (keys_of keys)) (holds e) below.owns out pairs
    (subst (λ (ls : List (List Row)). Merged lt ls out) below.are g.4) in (
      out,
      (mid.0, (g.0, below.owns, g.2, below.sent, mid.1), filter_gives e mid.0 out mid.2),
      rows_agree us out,
    )
moves_refine facts outer away _ _ _ _ placed (calculation_inside {us = us} {f = f} {directions = directions}
    {keys = keys} {x = x} {e = e} servers) = λ db meets start out g.
    let w = dataset facts db in
    let lt = row_before directions keys in
    let shaped = calculation_outside facts _ x e placed.shaped.0 placed.shaped.1 placed.shaped.2 in
    let once : SetsOnce outer (Over (gathered directions keys f) (Calculation x e))
    = record { once = λ z d. omega (arith, placed.once z d); numbers = placed.numbers } in
    let unused = unused_from x (all_uses keys) (vars_of outer f)
    (not_below facts outer (gathered directions keys f) x e (Rows shaped.0) shaped.3 once) placed.found.0.1 in
    let below = lists_below w f (Calculation x e) start (map (extended x e)) g.0
    (λ s out h. calculation_sent w f x e start (Inside s (sent_to f w s g.0)) out h) (targets f w) g.1 g.3 in
    let mid = merged_alike (IsExtended x e) lt lt
    (λ r s t u a c. ap₂ lt a c ∙ sym (same_before directions keys x e unused s u)) out
    (map (map (extended x e)) below.owns) below.owns (all_extended x e below.owns)
    (subst (λ (ls : List (List Row)). Merged lt ls out) below.are g.4) in (
      out,
      (mid.0, (g.0, below.owns, g.2, below.sent, mid.1), calculation_gives x e mid.0 out mid.2),
      rows_agree us out,
    )

pub moves_keep : (facts : Facts) (outer away : List Ident) (us : Uses) (p q : Plan) (r : Option Rename)
    → Placed true false facts outer away us p → MovesInside facts us p q r
    → KeepsPlaced true false facts outer us p q r
moves_keep facts outer away _ _ _ _ placed (filter_inside {us = us} {f = f} {directions = directions}
    {keys = keys} {e = e} servers) =
    let found = placed.found in record {
      suits = placed.suits;
      shape = λ s inside h.
          let k = filter_outside facts _ e s inside h in
          let fragment = gathers facts directions keys f false k.2 in
          subst (λ (t : Shape). Shaped facts (gathered directions keys (Over f (Filter e))) t) (sym k.0)
          (fragment.over (Over f (Filter e)) (passing tt k.1 fragment.shaped));
      found = (((found.0.0.0, found.1, refl, tt), refl, refl, tt), found.0.1, refl, tt);
      vars = λ z used h. h;
      fewer = λ z. omega arith;
    }
moves_keep facts outer away _ _ _ _ placed (calculation_inside {us = us} {f = f} {directions = directions}
    {keys = keys} {x = x} {e = e} servers) =
    let found = placed.found in
    let moved = gathered directions keys (Over f (Calculation x e)) in record {
      suits = placed.suits;
      shape = λ s inside h.
          let k = calculation_outside facts _ x e s inside h in
          let fragment = gathers facts directions keys f k.0 k.3 in
          subst (λ (t : Shape). Shaped facts moved t) (sym k.1)
          (subst (λ (one : Bool). Shaped facts moved (Rows one)) (sym fragment.many)
          (fragment.over (Over f (Calculation x e)) (passing tt k.2 fragment.shaped)));
      found = (
        ((found.0.0.0, found.1, refl, tt), refl, refl, tt),
        one_more x (all_uses keys) (vars_of outer f) found.0.1,
        refl,
        tt,
      );
      vars = λ z used h. h;
      fewer = λ z. omega arith;
    }
