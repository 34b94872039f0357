-- A reader makes of the rows that belong to a shard what it makes of all rows, where the others find nothing.
use Rattle.std.proofs.Common.{◌≡◌, ◌∙◌, List, [], ◌∷◌, ◌++◌, map, Bool, true, false, cond, refl, ap, sym, subst}
use Rattle.std.specs.Prelude.{ℕ, ◌&&◌, ◌==◌, filter, IsPermutation, Option, Some, None}
use Rattle.std.specs.List.{AllZip}
use Rattle.aql_value.specs.Datum.{Datum}
use Rattle.aql_value.specs.Contents.{at_name}
use Rattle.aql_value.specs.Database.{documents_of}
use Rattle.aql_value.specs.Shards.{shard_of}
use Rattle.aql_tree.specs.Tree.{ExprTree, ExprTrees}
use Rattle.aql_meaning.specs.AtRows.{value_of, keys_of, passes}
use Rattle.aql_meaning.specs.Clauses.{with_each}
use Rattle.aql_meaning.specs.Documents.{Last, last_map, in_bounds, index_keys, InIndexOrder, projection, documents_kept, Scanned, ScannedInOrder}
use Rattle.aql_meaning.specs.Row.{Row, bind}
use Rattle.aql_meaning.specs.laws.SomeOrder.{some_order}
use Rattle.aql_plan.specs.declared.facts.Facts.{Facts}
use Rattle.aql_plan.specs.Facts.{shards_in, keys_in, attributes_in}
use Rattle.aql_plan.specs.Plan.{Reading, Node, EnumerateCollection, Index}
use Rattle.aql_plan.specs.Runs.{Dataset, Inside, on_shard, read, Indexed, Gives}
use Rattle.aql_rules_cluster.specs.FragmentParts.{ReadsHere}
use Rattle.aql_rules_cluster.specs.laws.OwnShards.{NonePasses, none_kept, none_permuted, none_after, nothing_found}

module _ {X : Type 0} (f : Row → X → Row) (here : Row → Bool) where
  -- each row with its own things
  pub only_here : (own : Row → List X) → ((row : Row) → here row ≡ false → own row ≡ []) → (rows : List Row)
      → with_each f (filter here rows) (map own (filter here rows)) ≡ with_each f rows (map own rows)
  only_here own none [] = refl
  only_here own none (row ∷ rows) = by (here row) refl (only_here own none rows)
    where
      by : (b : Bool) → here row ≡ b
          → with_each f (filter here rows) (map own (filter here rows)) ≡ with_each f rows (map own rows)
          → with_each f (cond b (row ∷ filter here rows) (filter here rows))
          (map own (cond b (row ∷ filter here rows) (filter here rows)))
          ≡ map (f row) (own row) ++ with_each f rows (map own rows)
      by true e k = ap (λ more. map (f row) (own row) ++ more) k
      by false e k =
          k ∙ sym (ap (λ things. map (f row) things ++ with_each f rows (map own rows)) (none row e))

  -- lists of which each goes with its row
  pub record ForAll (R : Row → List X → Type 0) (rows : List Row) (out : List Row) : Type 0 where
    pub lists : List (List X)
    pub given : AllZip R rows lists
    pub all : out ≡ with_each f rows lists

  pub for_all : (R : Row → List X → Type 0) → ((row : Row) → here row ≡ false → R row [])
      → (rows : List Row) (lists : List (List X)) → AllZip R (filter here rows) lists
      → ForAll R rows (with_each f (filter here rows) lists)
  for_all R none [] [] h = record { lists = []; given = tt; all = refl }
  for_all R none [] (l ∷ lists) h = absurd h
  for_all R none (row ∷ rows) lists h = by (here row) refl (λ ls g. for_all R none rows ls g) lists h
    where
      by : (b : Bool) → here row ≡ b
          → ((ls : List (List X)) → AllZip R (filter here rows) ls
          → ForAll R rows (with_each f (filter here rows) ls)) → (ls : List (List X))
          → AllZip R (cond b (row ∷ filter here rows) (filter here rows)) ls
          → ForAll R (row ∷ rows) (with_each f (cond b (row ∷ filter here rows) (filter here rows)) ls)
      by true e more [] g = absurd g
      by true e more (l ∷ ls) g =
          let k = more ls g.1 in record {
            lists = l ∷ k.lists;
            given = (g.0, k.given);
            all = ap (λ rest. map (f row) l ++ rest) k.all;
          }
      by false e more ls g =
          let k = more ls g in record {
            lists = [] ∷ k.lists;
            given = (none row e, k.given);
            all = k.all;
          }

-- ---- readers

-- whether a reader keeps a document of a row
abbrev pub keeps : Facts → Node → Row → Datum → Bool
keeps facts (EnumerateCollection x) row d = passes x.filter (bind x.var row d)
keeps facts (Index x index equal last ordered) row d =
    in_bounds (attributes_in facts x.coll index) (keys_of equal row) (last_map (λ e. value_of e row) last) d
    && passes x.filter (bind x.var row d)
keeps facts n row d = false

-- a document that it keeps has the values of the row in its shard keys
abbrev pub KeepsByKeys : Facts → ℕ → Node → ExprTrees → Type 0
KeepsByKeys facts coll n es = (row : Row) (d : Datum) → keeps facts n row d ≡ true
    → keys_of es row ≡ map (at_name d) (keys_in facts coll)

module _ (w : Dataset) (x : Reading) (es : ExprTrees) (shard : ℕ) where
  abbrev here : Row → Bool
  here row = shard_of (shards_in w.facts x.coll) (keys_of es row) == shard

  module _ (sends : (row : Row) (d : Datum) → passes x.filter (bind x.var row d) ≡ true
      → keys_of es row ≡ map (at_name d) (keys_in w.facts x.coll)) where
    pub nothing_scanned : (row : Row) → here row ≡ false
        → documents_kept x.var (passes x.filter) x.attrs row (on_shard w x.coll shard) ≡ []
    nothing_scanned row e = ap (map (projection x.attrs)) (none_kept
        (λ d. passes x.filter (bind x.var row d)) (on_shard w x.coll shard)
        (nothing_found (shards_in w.facts x.coll) (keys_in w.facts x.coll) shard (keys_of es row)
        (λ d. passes x.filter (bind x.var row d)) (sends row) e (documents_of w.db x.coll)))

    scans_all : (rows out : List Row)
        → Scanned x.var (passes x.filter) x.attrs (λ row. on_shard w x.coll shard) (filter here rows) out
        → Scanned x.var (passes x.filter) x.attrs (λ row. on_shard w x.coll shard) rows out
    scans_all rows out h = subst (λ (all : List Row). IsPermutation all out)
        (only_here (bind x.var) here
        (λ row. documents_kept x.var (passes x.filter) x.attrs row (on_shard w x.coll shard)) nothing_scanned
        rows) h

  module _ (bounds : Row → Datum → Bool)
      (sends : (row : Row) (d : Datum) → (bounds row d && passes x.filter (bind x.var row d)) ≡ true
      → keys_of es row ≡ map (at_name d) (keys_in w.facts x.coll)) where
    abbrev within : Row → List Datum
    within row = filter (bounds row) (on_shard w x.coll shard)

    pub none_within : (row : Row) → here row ≡ false
        → NonePasses (λ d. passes x.filter (bind x.var row d)) (within row)
    none_within row e = none_after (λ d. passes x.filter (bind x.var row d)) (bounds row)
        (on_shard w x.coll shard)
        (nothing_found (shards_in w.facts x.coll) (keys_in w.facts x.coll) shard (keys_of es row)
        (λ d. bounds row d && passes x.filter (bind x.var row d)) (sends row) e (documents_of w.db x.coll))

    pub nothing_kept : (row : Row) (ds : List Datum)
        → NonePasses (λ d. passes x.filter (bind x.var row d)) ds
        → documents_kept x.var (passes x.filter) x.attrs row ds ≡ []
    nothing_kept row ds h =
        ap (map (projection x.attrs)) (none_kept (λ d. passes x.filter (bind x.var row d)) ds h)

    bounded_all : (rows out : List Row)
        → Scanned x.var (passes x.filter) x.attrs within (filter here rows) out
        → Scanned x.var (passes x.filter) x.attrs within rows out
    bounded_all rows out h = subst (λ (all : List Row). IsPermutation all out)
        (only_here (bind x.var) here
        (λ row. documents_kept x.var (passes x.filter) x.attrs row (within row))
        (λ row e. nothing_kept row (within row) (none_within row e)) rows) h

    ordered_all : (names : List (List ℕ)) (descending : Bool) (rows out : List Row)
        → ScannedInOrder names descending x.var (passes x.filter) x.attrs within (filter here rows) out
        → ScannedInOrder names descending x.var (passes x.filter) x.attrs within rows out
    ordered_all names descending rows out h =
        let none : (row : Row) → here row ≡ false → (sorted : List Datum)
        × InIndexOrder names descending (within row) sorted
        × ([] ≡ documents_kept x.var (passes x.filter) x.attrs row sorted) =
        λ row e.
        let s = some_order (map (λ name. descending) names) (index_keys names) (within row) in (
          s.0,
          (s.1, s.2),
          sym (nothing_kept row s.0
              (none_permuted (λ d. passes x.filter (bind x.var row d)) (within row) s.0 s.1
              (none_within row e))),
        ) in
        let k = for_all (bind x.var) here (λ row list. (sorted : List Datum)
        × InIndexOrder names descending (within row) sorted
        × (list ≡ documents_kept x.var (passes x.filter) x.attrs row sorted)) none rows h.0 h.1 in
        (k.lists, k.given, h.2 ∙ k.all)

module _ (w : Dataset) (x : Reading) (alone : x.shard ≡ None) (es : ExprTrees) (shard : ℕ)
    (rows out : List Row) where
  abbrev those_here : List Row
  those_here = filter (here w x es shard) rows

  reads_shard : (rs : List Row) → read w x.coll x.shard (Inside shard rs) ≡ on_shard w x.coll shard
  reads_shard rs = ap (λ o. read w x.coll o (Inside shard rs)) alone

  -- what holds of the documents that it reads for these rows, and then for all
  read_for_all : (P : List Row → List Datum → Type 0)
      → (P those_here (on_shard w x.coll shard) → P rows (on_shard w x.coll shard))
      → P those_here (read w x.coll x.shard (Inside shard those_here))
      → P rows (read w x.coll x.shard (Inside shard rows))
  read_for_all P f h =
      subst (P rows) (sym (reads_shard rows)) (f (subst (P those_here) (reads_shard those_here) h))

  enumerates_all : KeepsByKeys w.facts x.coll (EnumerateCollection x) es → (start : Row)
      → Gives (EnumerateCollection x) w (Inside shard those_here) start those_here out
      → Gives (EnumerateCollection x) w (Inside shard rows) start rows out
  enumerates_all sends start h = read_for_all
      (λ rs ds. Scanned x.var (passes x.filter) x.attrs (λ row. ds) rs out)
      (scans_all w x es shard sends rows out) h

  module _ (index : ℕ) (equal : ExprTrees) (last : Last ExprTree) where
    abbrev bounds : Row → Datum → Bool
    bounds row d = in_bounds (attributes_in w.facts x.coll index) (keys_of equal row)
        (last_map (λ e. value_of e row) last) d

    indexes_all : (ordered : Option Bool)
        → KeepsByKeys w.facts x.coll (Index x index equal last ordered) es
        → Indexed w (Inside shard those_here) x index equal last ordered those_here out
        → Indexed w (Inside shard rows) x index equal last ordered rows out
    indexes_all None sends h = read_for_all
        (λ rs ds. Scanned x.var (passes x.filter) x.attrs (λ row. filter (bounds row) ds) rs out)
        (bounded_all w x es shard bounds sends rows out) h
    indexes_all (Some descending) sends h = read_for_all
        (λ rs ds. ScannedInOrder (attributes_in w.facts x.coll index) descending x.var (passes x.filter)
        x.attrs (λ row. filter (bounds row) ds) rs out)
        (ordered_all w x es shard bounds sends (attributes_in w.facts x.coll index) descending rows out) h

-- of the rows that belong to its shard a reader makes what it makes of all rows
pub gives_of_all : (n : Node) (w : Dataset) (coll : ℕ) (es : ExprTrees) (shard : ℕ) (start : Row)
    (rows out : List Row) → ReadsHere coll n → KeepsByKeys w.facts coll n es
    → Gives n w (Inside shard
    (filter (λ row. shard_of (shards_in w.facts coll) (keys_of es row) == shard) rows)) start
    (filter (λ row. shard_of (shards_in w.facts coll) (keys_of es row) == shard) rows) out
    → Gives n w (Inside shard rows) start rows out
gives_of_all (EnumerateCollection x) w coll es shard start rows out reads =
    let n = EnumerateCollection x in
    subst (λ (c : ℕ). KeepsByKeys w.facts c n es
    → Gives n w (Inside shard (filter (λ row. shard_of (shards_in w.facts c) (keys_of es row) == shard) rows))
    start (filter (λ row. shard_of (shards_in w.facts c) (keys_of es row) == shard) rows) out
    → Gives n w (Inside shard rows) start rows out) reads.0
    (λ sends h. enumerates_all w x reads.1 es shard rows out sends start h)
gives_of_all (Index x index equal last ordered) w coll es shard start rows out reads =
    let n = Index x index equal last ordered in
    subst (λ (c : ℕ). KeepsByKeys w.facts c n es
    → Gives n w (Inside shard (filter (λ row. shard_of (shards_in w.facts c) (keys_of es row) == shard) rows))
    start (filter (λ row. shard_of (shards_in w.facts c) (keys_of es row) == shard) rows) out
    → Gives n w (Inside shard rows) start rows out) reads.0
    (λ sends h. indexes_all w x reads.1 es shard rows out index equal last ordered sends h)
gives_of_all n w coll es shard start rows out reads = absurd reads
