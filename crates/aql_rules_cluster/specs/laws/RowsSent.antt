-- A reader makes of all rows what it makes of those that belong to its shard, where the others find nothing.
use Rattle.std.proofs.Common.{◌≡◌, ◌∙◌, List, [], ◌∷◌, ◌++◌, map, Bool, true, false, cond, refl, ap, sym, subst}
use Rattle.std.specs.Prelude.{ℕ, ◌&&◌, ◌==◌, filter, IsPermutation, Option, Some, None}
use Rattle.std.specs.List.{AllZip}
use Rattle.aql_value.specs.Datum.{Datum}
use Rattle.aql_value.specs.Contents.{at_name}
use Rattle.aql_value.specs.Shards.{shard_of}
use Rattle.aql_tree.specs.Tree.{ExprTree, ExprTrees}
use Rattle.aql_meaning.specs.AtRows.{value_of, keys_of, passes}
use Rattle.aql_meaning.specs.Clauses.{with_each}
use Rattle.aql_meaning.specs.Documents.{Last, last_map, in_bounds, InIndexOrder, documents_kept, Scanned, ScannedInOrder}
use Rattle.aql_meaning.specs.Row.{Row, bind}
use Rattle.aql_plan.specs.Facts.{shards_in, keys_in, attributes_in}
use Rattle.aql_plan.specs.Plan.{Reading, Node, EnumerateCollection, Index}
use Rattle.aql_plan.specs.Runs.{Dataset, Inside, on_shard, read, Indexed, Gives}
use Rattle.aql_rules_cluster.specs.FragmentParts.{ReadsHere}
use Rattle.aql_rules_cluster.specs.laws.OwnShards.{none_permuted}
use Rattle.aql_rules_cluster.specs.laws.SentRows.{only_here, ForAll, KeepsByKeys, nothing_scanned, none_within, nothing_kept}

-- ---- lists of which each goes with its row

module _ {X : Type 0} (f : Row → X → Row) (here : Row → Bool) (R : Row → List X → Type 0)
    (none : (row : Row) (own : List X) → here row ≡ false → R row own → own ≡ []) where
  for_those : (rows : List Row) (lists : List (List X)) → AllZip R rows lists
      → ForAll f here R (filter here rows) (with_each f rows lists)
  for_those [] [] h = record { lists = []; given = tt; all = refl }
  for_those [] (l ∷ lists) h = absurd h
  for_those (row ∷ rows) [] h = absurd h
  for_those (row ∷ rows) (l ∷ lists) h = by (here row) refl (for_those rows lists h.1)
    where
      by : (b : Bool) → here row ≡ b → ForAll f here R (filter here rows) (with_each f rows lists)
          → ForAll f here R (cond b (row ∷ filter here rows) (filter here rows))
          (map (f row) l ++ with_each f rows lists)
      by true e k = record {
        lists = l ∷ k.lists;
        given = (h.0, k.given);
        all = ap (λ more. map (f row) l ++ more) k.all;
      }
      by false e k = record {
        lists = k.lists;
        given = k.given;
        all = ap (λ things. map (f row) things ++ with_each f rows lists) (none row l e h.0) ∙ k.all;
      }

-- ---- readers

module _ (w : Dataset) (x : Reading) (alone : x.shard ≡ None) (es : ExprTrees) (shard : ℕ)
    (rows out : List Row) where
  abbrev here : Row → Bool
  here row = shard_of (shards_in w.facts x.coll) (keys_of es row) == shard

  abbrev those_here : List Row
  those_here = filter here rows

  reads_shard : (rs : List Row) → read w x.coll x.shard (Inside shard rs) ≡ on_shard w x.coll shard
  reads_shard rs = ap (λ o. read w x.coll o (Inside shard rs)) alone

  -- what holds of the documents that it reads for all rows, and then for these
  read_for_those : (P : List Row → List Datum → Type 0)
      → (P rows (on_shard w x.coll shard) → P those_here (on_shard w x.coll shard))
      → P rows (read w x.coll x.shard (Inside shard rows))
      → P those_here (read w x.coll x.shard (Inside shard those_here))
  read_for_those P f h =
      subst (P those_here) (sym (reads_shard those_here)) (f (subst (P rows) (reads_shard rows) h))

  enumerates_those : KeepsByKeys w.facts x.coll (EnumerateCollection x) es → (start : Row)
      → Gives (EnumerateCollection x) w (Inside shard rows) start rows out
      → Gives (EnumerateCollection x) w (Inside shard those_here) start those_here out
  enumerates_those sends start h = read_for_those
      (λ rs ds. Scanned x.var (passes x.filter) x.attrs (λ row. ds) rs out)
      (λ k. subst (λ (all : List Row). IsPermutation all out) (sym (only_here (bind x.var) here
      (λ row. documents_kept x.var (passes x.filter) x.attrs row (on_shard w x.coll shard))
      (nothing_scanned w x es shard sends) rows)) k) h

  module _ (index : ℕ) (equal : ExprTrees) (last : Last ExprTree) where
    abbrev bounds : Row → Datum → Bool
    bounds row d = in_bounds (attributes_in w.facts x.coll index) (keys_of equal row)
        (last_map (λ e. value_of e row) last) d

    abbrev within : Row → List Datum
    within row = filter (bounds row) (on_shard w x.coll shard)

    module _ (sends : (row : Row) (d : Datum) → (bounds row d && passes x.filter (bind x.var row d)) ≡ true
        → keys_of es row ≡ map (at_name d) (keys_in w.facts x.coll)) where
      bounded_those : Scanned x.var (passes x.filter) x.attrs within rows out
          → Scanned x.var (passes x.filter) x.attrs within those_here out
      bounded_those h = subst (λ (all : List Row). IsPermutation all out) (sym (only_here (bind x.var) here
          (λ row. documents_kept x.var (passes x.filter) x.attrs row (within row))
          (λ row e. nothing_kept w x es shard bounds sends row (within row)
          (none_within w x es shard bounds sends row e)) rows)) h

      ordered_those : (names : List (List ℕ)) (descending : Bool)
          → ScannedInOrder names descending x.var (passes x.filter) x.attrs within rows out
          → ScannedInOrder names descending x.var (passes x.filter) x.attrs within those_here out
      ordered_those names descending h =
          let none : (row : Row) (own : List Datum) → here row ≡ false
          → (sorted : List Datum) × InIndexOrder names descending (within row) sorted
          × (own ≡ documents_kept x.var (passes x.filter) x.attrs row sorted) → own ≡ [] =
          λ row own e g. g.2 ∙ nothing_kept w x es shard bounds sends row g.0
          (none_permuted (λ d. passes x.filter (bind x.var row d)) (within row) g.0 g.1.0
          (none_within w x es shard bounds sends row e)) in
          let k = for_those (bind x.var) here (λ row list. (sorted : List Datum)
          × InIndexOrder names descending (within row) sorted
          × (list ≡ documents_kept x.var (passes x.filter) x.attrs row sorted)) none rows h.0 h.1 in
          (k.lists, k.given, h.2 ∙ k.all)

    indexes_those : (ordered : Option Bool) → KeepsByKeys w.facts x.coll (Index x index equal last ordered) es
        → Indexed w (Inside shard rows) x index equal last ordered rows out
        → Indexed w (Inside shard those_here) x index equal last ordered those_here out
    indexes_those None sends h = read_for_those
        (λ rs ds. Scanned x.var (passes x.filter) x.attrs (λ row. filter (bounds row) ds) rs out)
        (bounded_those sends) h
    indexes_those (Some descending) sends h = read_for_those
        (λ rs ds. ScannedInOrder (attributes_in w.facts x.coll index) descending x.var (passes x.filter)
        x.attrs (λ row. filter (bounds row) ds) rs out)
        (ordered_those sends (attributes_in w.facts x.coll index) descending) h

pub gives_of_sent : (n : Node) (w : Dataset) (coll : ℕ) (es : ExprTrees) (shard : ℕ) (start : Row)
    (rows out : List Row) → ReadsHere coll n → KeepsByKeys w.facts coll n es
    → Gives n w (Inside shard rows) start rows out
    → Gives n w (Inside shard
    (filter (λ row. shard_of (shards_in w.facts coll) (keys_of es row) == shard) rows)) start
    (filter (λ row. shard_of (shards_in w.facts coll) (keys_of es row) == shard) rows) out
gives_of_sent (EnumerateCollection x) w coll es shard start rows out reads =
    let n = EnumerateCollection x in
    subst (λ (c : ℕ). KeepsByKeys w.facts c n es → Gives n w (Inside shard rows) start rows out
    → Gives n w (Inside shard (filter (λ row. shard_of (shards_in w.facts c) (keys_of es row) == shard) rows))
    start (filter (λ row. shard_of (shards_in w.facts c) (keys_of es row) == shard) rows) out) reads.0
    (λ sends h. enumerates_those w x reads.1 es shard rows out sends start h)
gives_of_sent (Index x index equal last ordered) w coll es shard start rows out reads =
    let n = Index x index equal last ordered in
    subst (λ (c : ℕ). KeepsByKeys w.facts c n es → Gives n w (Inside shard rows) start rows out
    → Gives n w (Inside shard (filter (λ row. shard_of (shards_in w.facts c) (keys_of es row) == shard) rows))
    start (filter (λ row. shard_of (shards_in w.facts c) (keys_of es row) == shard) rows) out) reads.0
    (λ sends h. indexes_those w x reads.1 es shard rows out index equal last ordered sends h)
gives_of_sent n w coll es shard start rows out reads = absurd reads
