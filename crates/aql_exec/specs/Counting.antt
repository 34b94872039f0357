-- What each node of a plan gives together with what it counts: documents read one after the other, documents
-- that an index found, and rows that its own filter dropped.
use Rattle.std.specs.Prelude.{ℕ, suc, ◌≡◌, ◌+◌, List, [], ◌∷◌, map, filter, length, sum, Bool, cond, not, ◌&&◌, ◌||◌, nat_lt, IsPermutation}
use Rattle.aql_value.specs.Datum.{Datum}
use Rattle.aql_tree.specs.declared.syntax.Direction.{Direction}
use Rattle.aql_tree.specs.declared.syntax.Direction.TheVariants.{Any}
use Rattle.aql_tree.specs.Tree.{TraversalShape, MaybeExpr}
use Rattle.aql_meaning.specs.Row.{Row}
use Rattle.aql_meaning.specs.AtRows.{values_of, passes, stops}
use Rattle.aql_meaning.specs.Paths.{EdgeStep, steps_from, leaves, enters, Path, end_of, path_row, TraversesPaths, with_paths}
use Rattle.aql_plan.specs.Plan.{Node, EnumerateCollection, Index, Traversal, Filter}
use Rattle.aql_plan.specs.Runs.{Dataset, Outside, Gives, read, read_in_bounds, edges_in}
use Rattle.aql_exec.specs.Rests.{Counter, scanned_full, scanned_index, filtered, sent_on, opened_on, closed_on, Counts}

-- three numbers
abbrev pub counts : ℕ → ℕ → ℕ → Counts
counts full index dropped scanned_full = full
counts full index dropped scanned_index = index
counts full index dropped filtered = dropped
counts full index dropped (sent_on l) = 0
counts full index dropped (opened_on l) = 0
counts full index dropped (closed_on l) = 0

abbrev pub nothing : Counts
nothing c = 0

-- nothing is sent on a link, and none is opened or closed
abbrev pub NoneSent : Counts → Type 0
NoneSent d = (l : ℕ) → (d (sent_on l) ≡ 0) × (d (opened_on l) ≡ 0) × (d (closed_on l) ≡ 0)

-- how many there are in all lists
abbrev pub size_of_all : {X : Type 0} → (Row → List X) → List Row → ℕ
size_of_all f rows = sum (map (λ row. length (f row)) rows)

-- ---- traversals

-- an edge that is followed is read, and so is the vertex that it leads to; either way a self-loop is found by
-- both of its ends
abbrev pub step_count : Direction → List ℕ → EdgeStep → ℕ
step_count Any id s = cond (leaves id s.edge && enters id s.edge) 3 2
step_count direction id s = 2

-- the steps from the end of a path that goes on
abbrev pub path_count : TraversalShape → List Datum → (Path → Bool) → Path → ℕ
path_count w es pruned t = cond (pruned t || not (nat_lt (length t.steps) w.max)) 0
    (sum (map (step_count w.direction (end_of t)) (steps_from w.direction es (end_of t))))

-- the vertex of the start, and all steps
abbrev pub traversal_count : Dataset → TraversalShape → List Datum → MaybeExpr → Row → List Path → ℕ
traversal_count w shape es prune row paths =
    suc (sum (map (path_count shape es (λ t. stops prune (path_row w.db shape row t))) paths))

abbrev pub traversal_counts : Dataset → TraversalShape → List Datum → MaybeExpr → List Row → List (List Path)
    → ℕ
traversal_counts w shape es prune [] paths = 0
traversal_counts w shape es prune (row ∷ rows) [] = 0
traversal_counts w shape es prune (row ∷ rows) (ts ∷ paths) =
    traversal_count w shape es prune row ts + traversal_counts w shape es prune rows paths

-- ---- nodes

-- a node makes `out` of its rows, outside fragments, and counts so much
abbrev pub GivesCounting : Node → Dataset → Row → List Row → List Row → Counts → Type 0
GivesCounting (EnumerateCollection x) w start rows out d =
    Gives (EnumerateCollection x) w Outside start rows out
    × (d scanned_full ≡ size_of_all (λ row. read w x.coll x.shard Outside) rows)
    × (d scanned_index ≡ 0) × (d filtered + length out ≡ d scanned_full)
GivesCounting (Index x index equal last ordered) w start rows out d =
    Gives (Index x index equal last ordered) w Outside start rows out
    × (d scanned_full ≡ 0)
    × (d scanned_index ≡ size_of_all (read_in_bounds w Outside x index equal last) rows)
    × (d filtered + length out ≡ d scanned_index)
GivesCounting (Traversal shape e colls prune keep) w start rows out d = (paths : List (List Path))
    × (walked : List Row)
    × TraversesPaths w.db shape (edges_in w.db colls) (stops prune) rows (values_of e rows) paths
    × IsPermutation (with_paths w.db shape rows paths) walked × (out ≡ filter (passes keep) walked)
    × (d scanned_full ≡ 0)
    × (d scanned_index ≡ traversal_counts w shape (edges_in w.db colls) prune rows paths)
    × (d filtered + length out ≡ length walked)
GivesCounting (Filter e) w start rows out d = Gives (Filter e) w Outside start rows out
    × (d scanned_full ≡ 0) × (d scanned_index ≡ 0) × (d filtered + length out ≡ length rows)
GivesCounting n w start rows out d =
    Gives n w Outside start rows out × ((c : Counter) → d c ≡ 0)
