-- What scatter-in-cluster makes of a part, the part may give.
use Rattle.std.proofs.Common.{◌≡◌, ◌∙◌, ℕ, ◌≤◌, List, [], ◌∷◌, map, Bool, true, false, Option, Some, None, refl, ap, sym, subst}
use Rattle.std.specs.Prelude.{filter, flat_map, IsPermutation}
use Rattle.std.specs.List.{AllZip}
use Rattle.aql_value.specs.Contents.{list}
use Rattle.aql_value.specs.Database.{documents_of}
use Rattle.aql_tree.specs.declared.syntax.Ident.{Ident}
use Rattle.aql_tree.specs.Tree.{ExprTree, ExprTrees, no_exprs}
use Rattle.aql_meaning.specs.AtRows.{value_of, values_of, keys_of, passes, row_before}
use Rattle.aql_meaning.specs.Clauses.{with_values}
use Rattle.aql_meaning.specs.Documents.{Last, last_map, in_bounds, Scanned, ScannedInOrder}
use Rattle.aql_meaning.specs.Merges.{Merged}
use Rattle.aql_meaning.specs.Row.{Row, bind}
use Rattle.aql_meaning.specs.Uses.{Uses}
use Rattle.aql_value.specs.Datum.{Datum}
use Rattle.aql_plan.specs.declared.facts.Facts.{Facts}
use Rattle.aql_plan.specs.Facts.{attributes_in, shards_in, keys_in, numbers_below}
use Rattle.aql_plan.specs.Fits.{Fits, attribute_keys}
use Rattle.aql_plan.specs.Plan.{Reading, Plan, Over, Node, EnumerateCollection, Index, Scatter, Remote}
use Rattle.aql_plan.specs.Refines.{dataset}
use Rattle.aql_plan.specs.Runs.{Dataset, Inside, Outside, Runs, Gives, result_of, read, read_in_bounds, on_shard}
use Rattle.aql_plan.specs.Shapes.{Shape, Rows, is_inside, Shaped, one_row, calculated, with_subquery, plain_rows, ordered_rows, lowest, lowest_in_order, other_reading, passing}
use Rattle.aql_plan_laws.specs.laws.Agreement.{rows_agree}
use Rattle.aql_plan_laws.specs.laws.Lists.{weaker}
use Rattle.aql_rewrite.specs.declared.swap.Rename.{Rename}
use Rattle.aql_rewrite.specs.Placed.{Placed}
use Rattle.aql_rewrite.specs.Swaps.{Replaced}
use Rattle.aql_rewrite.specs.laws.Flat.{filter_flat}
use Rattle.aql_rules_cluster.specs.ScatterInCluster.{Scatters, enumeration, by_index, in_index_order}
use Rattle.aql_rules_cluster.specs.laws.Gathered.{all_chosen, those_within, scans_gathered}
use Rattle.aql_rules_cluster.specs.laws.InOrder.{filter_permuted, merged_in_order}
use Rattle.aql_rules_cluster.specs.laws.Projections.{order_kept}
use Rattle.aql_rules_cluster.specs.laws.ShardParts.{some_shard, shards_are_parts}

-- ---- how readers stand outside fragments

-- one in any order reads no shard of its own
pub enumeration_outside : (facts : Facts) (b : Plan) (x : Reading) (s : Shape) → is_inside s ≡ false
    → Shaped facts (Over b (EnumerateCollection x)) s
    → (s ≡ Rows false) × (x.shard ≡ None) × Fits facts (EnumerateCollection x) × Shaped facts b (Rows false)
enumeration_outside facts b x s e (plain_rows i f h) = (refl, i, f, h)
enumeration_outside facts b x s e (lowest i f h) = cc
enumeration_outside facts b x s e (other_reading i f h) = cc
enumeration_outside facts b x s e (passing i f h) = absurd i

pub index_outside : (facts : Facts) (b : Plan) (x : Reading) (index : ℕ) (equal : ExprTrees)
    (last : Last ExprTree) (s : Shape) → is_inside s ≡ false
    → Shaped facts (Over b (Index x index equal last None)) s
    → (s ≡ Rows false) × (x.shard ≡ None) × Fits facts (Index x index equal last None)
    × Shaped facts b (Rows false)
index_outside facts b x index equal last s e (plain_rows i f h) = (refl, i, f, h)
index_outside facts b x index equal last s e (lowest i f h) = cc
index_outside facts b x index equal last s e (other_reading i f h) = cc
index_outside facts b x index equal last s e (passing i f h) = absurd i

-- and an ordered one neither, and stands over a single row
pub ordered_outside : (facts : Facts) (b : Plan) (x : Reading) (index : ℕ) (equal : ExprTrees)
    (last : Last ExprTree) (descending : Bool) (s : Shape) → is_inside s ≡ false
    → Shaped facts (Over b (Index x index equal last (Some descending))) s
    → (s ≡ Rows false) × (x.shard ≡ None) × Fits facts (Index x index equal last (Some descending))
    × Shaped facts b (Rows true)
ordered_outside facts b x index equal last descending s e (plain_rows i f h) = absurd i
ordered_outside facts b x index equal last descending s e (ordered_rows i f h) = (refl, i, f, h)
ordered_outside facts b x index equal last descending s e (lowest i f h) = absurd i
ordered_outside facts b x index equal last descending s e (lowest_in_order i f h) = cc
ordered_outside facts b x index equal last descending s e (other_reading i f h) = absurd i
ordered_outside facts b x index equal last descending s e (passing i f h) = absurd i

-- ---- a single row

one_of_one : (P : Row → Row → Type 0) (row : Row) (out : List Row) → AllZip P (row ∷ []) out
    → (r : Row) × (out ≡ r ∷ [])
one_of_one P row [] h = absurd h
one_of_one P row (r ∷ []) h = (r, refl)
one_of_one P row (r ∷ s ∷ out) h = absurd h.1

pub single_row : (facts : Facts) {p : Plan} → Shaped facts p (Rows true) → (w : Dataset) (start : Row)
    (rows : List Row) → Runs p w Outside start rows → (row : Row) × (rows ≡ row ∷ [])
single_row facts one_row w start rows g = (start, g)
single_row facts (calculated {x = x} {e = e} f h) w start rows g =
    let k = single_row facts h w start g.0 g.1 in
    (bind x k.0 (value_of e k.0), g.2 ∙ ap (λ (rs : List Row). with_values x rs (values_of e rs)) k.1)
single_row facts (with_subquery {s = s} {x = x} f h) w start rows g =
    let k = single_row facts h w start g.0 g.1 in
    let G = λ (row given : Row). (results : List Row) × Runs s w Outside row results
    × (given ≡ bind x row (list (map result_of results))) in
    one_of_one G k.0 rows (subst (λ (rs : List Row). AllZip G rs rows) k.1 g.2)

-- ---- what a reader gives in a fragment on all shards

abbrev IsReader : Node → Type 0
IsReader (EnumerateCollection x) = Unit {0}
IsReader (Index x index equal last ordered) = Unit {0}
IsReader n = ⊥

-- the part of a fragment from its foot up to the link below its Gather
abbrev fragment : ℕ → Node → Plan → Plan
fragment coll n b = Over (Over (Over (Over b (Scatter coll None)) Remote) n) Remote

over_links : (G : List Row → List Row → Type 0) (taken first sent given out : List Row) → first ≡ taken
    → sent ≡ first → G sent given → out ≡ given → G taken out
over_links G taken first sent given out e f g h =
    subst (λ (rows : List Row). G taken rows) (sym h) (subst (λ (rows : List Row). G rows given) (f ∙ e) g)

gives_inside : (w : Dataset) (b : Plan) (start : Row) (taken : List Row) (coll : ℕ) (n : Node) → IsReader n
    → (s : ℕ) (out : List Row) → Runs (fragment coll n b) w (Inside s taken) start out
    → Gives n w (Inside s taken) start taken out
gives_inside w b start taken coll (EnumerateCollection x) i s out g =
    over_links (λ rows out. Gives (EnumerateCollection x) w (Inside s taken) start rows out) taken g.1.1.0
    g.1.0 g.0 out g.1.1.1 g.1.1.2 g.1.2 g.2
gives_inside w b start taken coll (Index x index equal last ordered) i s out g =
    over_links (λ rows out. Gives (Index x index equal last ordered) w (Inside s taken) start rows out) taken
    g.1.1.0 g.1.0 g.0 out g.1.1.1 g.1.1.2 g.1.2 g.2
gives_inside w b start taken coll n i s out g = absurd i

module _ (w : Dataset) (b : Plan) (start : Row) (taken : List Row) (x : Reading) (alone : x.shard ≡ None)
    (some : 1 ≤ shards_in w.facts x.coll) (lists : List (List Row)) (out : List Row) where
  abbrev shards : List ℕ
  shards = numbers_below (shards_in w.facts x.coll)

  abbrev GivesEach : Node → Type 0
  GivesEach n = AllZip (λ s given. Runs (fragment x.coll n b) w (Inside s taken) start given)
      (numbers_below (shards_in w.facts x.coll)) lists

  -- in any order
  module _ (choose : Row → List Datum → List Datum) where
    abbrev ReadsAt : Option ℕ → ℕ → List Row → Type 0
    ReadsAt o s given = Scanned x.var (passes x.filter) x.attrs
        (λ row. choose row (read w x.coll o (Inside s taken))) taken given

    abbrev ReadsAll : Option ℕ → Type 0
    ReadsAll o = Scanned x.var (passes x.filter) x.attrs
        (λ row. choose row (read w x.coll o Outside)) taken out

  enumeration_gathered : GivesEach (EnumerateCollection x) → (before : Row → Row → Bool)
      → Merged before lists out → Gives (EnumerateCollection x) w Outside start taken out
  enumeration_gathered g before m =
      subst (ReadsAll (λ row ds. ds)) (sym alone)
      (scans_gathered x.var (passes x.filter) x.attrs (λ row ds. ds) all_chosen (shards_in w.facts x.coll)
      (keys_in w.facts x.coll) (documents_of w.db x.coll) some taken lists out
      (weaker (λ s given. Runs (fragment x.coll (EnumerateCollection x) b) w (Inside s taken) start given)
      (ReadsAt (λ row ds. ds) None)
      (λ s given h. subst (λ (o : Option ℕ). ReadsAt (λ row ds. ds) o s given) alone
      (gives_inside w b start taken x.coll (EnumerateCollection x) tt s given h))
      (numbers_below (shards_in w.facts x.coll)) lists g) before m)

  module _ (index : ℕ) (equal : ExprTrees) (last : Last ExprTree) where
    abbrev within : Row → Datum → Bool
    within row d = in_bounds (attributes_in w.facts x.coll index) (keys_of equal row)
        (last_map (λ e. value_of e row) last) d

    index_gathered : GivesEach (Index x index equal last None) → (before : Row → Row → Bool)
        → Merged before lists out → Gives (Index x index equal last None) w Outside start taken out
    index_gathered g before m =
        let choose = λ (row : Row) (ds : List Datum). filter (within row) ds in
        subst (ReadsAll choose) (sym alone)
        (scans_gathered x.var (passes x.filter) x.attrs choose (those_within within)
        (shards_in w.facts x.coll) (keys_in w.facts x.coll) (documents_of w.db x.coll) some taken lists out
        (weaker
        (λ s given. Runs (fragment x.coll (Index x index equal last None) b) w (Inside s taken) start given)
        (ReadsAt choose None)
        (λ s given h. subst (λ (o : Option ℕ). ReadsAt choose o s given) alone
        (gives_inside w b start taken x.coll (Index x index equal last None) tt s given h))
        (numbers_below (shards_in w.facts x.coll)) lists g) before m)

    -- ---- in order

    -- the documents in the bounds are those of all shards
    bounds_are_parts : (row : Row) (o : Option ℕ) → o ≡ None
        → IsPermutation (filter (within row) (read w x.coll o Outside))
        (flat_map (λ s. filter (within row) (read w x.coll o (Inside s taken)))
        (numbers_below (shards_in w.facts x.coll)))
    bounds_are_parts row (Some s) e = absurd (cc)
    bounds_are_parts row None e =
        let ss = numbers_below (shards_in w.facts x.coll) in
        let docs = documents_of w.db x.coll in
        subst (IsPermutation (filter (within row) docs))
        (filter_flat (within row) (λ s. on_shard w x.coll s) ss)
        (filter_permuted (within row) docs (flat_map (λ s. on_shard w x.coll s) ss)
        (shards_are_parts (shards_in w.facts x.coll) (keys_in w.facts x.coll) docs some))

    order_gathered : (descending : Bool) → Fits w.facts (Index x index equal last (Some descending))
        → (row : Row) → taken ≡ row ∷ [] → GivesEach (Index x index equal last (Some descending))
        → Merged (row_before (map (λ name. descending) (attributes_in w.facts x.coll index))
        (attribute_keys x.var (attributes_in w.facts x.coll index))) lists out
        → Gives (Index x index equal last (Some descending)) w Outside start taken out
    order_gathered descending fits row one g m =
        let n = Index x index equal last (Some descending) in
        let names = attributes_in w.facts x.coll index in
        let Scans = λ (documents : Row → List Datum) (rows given : List Row).
        ScannedInOrder names descending x.var (passes x.filter) x.attrs documents rows given in
        subst (λ (rows : List Row). Scans (read_in_bounds w Outside x index equal last) rows out) (sym one)
        (merged_in_order x.var (passes x.filter) x.attrs names descending
        (order_kept w.facts x index equal last descending fits) row
        (read_in_bounds w Outside x index equal last)
        (λ s. read_in_bounds w (Inside s taken) x index equal last) (numbers_below (shards_in w.facts x.coll))
        (bounds_are_parts row x.shard alone) lists out
        (weaker (λ s given. Runs (fragment x.coll n b) w (Inside s taken) start given)
        (λ s given. Scans (read_in_bounds w (Inside s taken) x index equal last) (row ∷ []) given)
        (λ s given h.
        subst (λ (rows : List Row). Scans (read_in_bounds w (Inside s taken) x index equal last) rows given)
        one (gives_inside w b start taken x.coll n tt s given h))
        (numbers_below (shards_in w.facts x.coll)) lists g) m)

-- ---- the rule

pub scatters_refine : (facts : Facts) (outer away : List Ident) (us : Uses) (p q : Plan) (r : Option Rename)
    → Placed true false facts outer away us p → Scatters facts us p q r → Replaced true facts us p q r
scatters_refine facts outer away _ _ _ _ placed (enumeration {us = us} {b = b} {x = x} servers) =
    λ db meets start out g.
    let s = placed.shaped in
    let k = enumeration_outside facts b x s.0 s.1 s.2 in (
      out,
      (
        g.0,
        g.2,
        enumeration_gathered (dataset facts db) b start g.0 x k.1 (some_shard facts placed.known x.coll)
            g.1 out g.3 (row_before [] no_exprs) g.4,
      ),
      rows_agree us out,
    )
scatters_refine facts outer away _ _ _ _ placed
    (by_index {us = us} {b = b} {x = x} {index = index} {equal = equal} {last = last} servers) =
    λ db meets start out g.
    let s = placed.shaped in
    let k = index_outside facts b x index equal last s.0 s.1 s.2 in (
      out,
      (
        g.0,
        g.2,
        index_gathered (dataset facts db) b start g.0 x k.1 (some_shard facts placed.known x.coll)
            g.1 out index equal last g.3 (row_before [] no_exprs) g.4,
      ),
      rows_agree us out,
    )
scatters_refine facts outer away _ _ _ _ placed (in_index_order {us = us} {b = b} {x = x} {index = index}
    {equal = equal} {last = last} {descending = descending} servers) = λ db meets start out g.
    let w = dataset facts db in
    let s = placed.shaped in
    let k = ordered_outside facts b x index equal last descending s.0 s.1 s.2 in
    let one = single_row facts k.3 w start g.0 g.2 in (
      out,
      (
        g.0,
        g.2,
        order_gathered w b start g.0 x k.1 (some_shard facts placed.known x.coll) g.1 out index equal
            last descending k.2 one.0 one.1 g.3 g.4,
      ),
      rows_agree us out,
    )
