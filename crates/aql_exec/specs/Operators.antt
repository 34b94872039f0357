-- What executors work on: the nodes of a plan where each is an operator with inputs of its own. A fragment is
-- a tree for each shard that it reaches, and stands in the operator that gathers it; a subquery's body is the
-- second input of its operator. What each tree produces is said in the words of plans.
use Rattle.std.specs.Prelude.{ℕ, zero, suc, ◌≡◌, ◌+◌, ◌<◌, ◌≤◌, ◌^◌, List, [], ◌∷◌, map, filter, length, slice_index_or, Bool, true, false, cond, ◌==◌, ◌&&◌}
use Rattle.aql_value.specs.Contents.{list}
use Rattle.aql_value.specs.Shards.{shard_of}
use Rattle.aql_tree.specs.declared.syntax.Ident.{Ident}
use Rattle.aql_tree.specs.Tree.{ExprTrees}
use Rattle.aql_meaning.specs.Row.{Row, bind}
use Rattle.aql_meaning.specs.Plain.{AllPlain}
use Rattle.aql_meaning.specs.AtRows.{keys_of, row_before}
use Rattle.aql_plan.specs.declared.facts.Facts.{Facts}
use Rattle.aql_plan.specs.Facts.{shards_in}
use Rattle.aql_plan.specs.Plan.{Node}
use Rattle.aql_plan.specs.Plan as plan
use Rattle.aql_plan.specs.Fits.{Fits}
use Rattle.aql_plan.specs.Runs.{Dataset, result_of}
use Rattle.aql_exec.specs.Rests.{Counter, scanned_index, sent_on, opened_on, closed_on, Counts, Exact, Rest}
use Rattle.aql_exec.specs.Counting.{GivesCounting, NoneSent}

mutual
  pub data Operator : Type 0 where
    -- the start row
    StartRow : Operator
    -- no row
    NoRows : Operator
    -- the rows that came to a shard, at the foot of its tree
    ShardRows : Operator
    -- a node that works on the rows of one input
    OnRows : Node → Operator
    -- a variable with the results of the body at each row
    WithBody : Ident → Operator
    -- a link
    Remote : Operator
    -- a Scatter or Distribute, with the shards that it reaches, each at a port
    Scatter : Node → List ℕ → Operator
    -- so many inputs as one list, by these keys
    Gather : ℕ → List Bool → ExprTrees → Operator
    -- a Gather over one tree for each shard, and over the Scatter or Distribute that they share
    Shards : Operator → Operator → OperatorTrees → Operator

  -- an operator over its inputs
  pub data OperatorTree : Type 0 where
    leaf : Operator → OperatorTree
    over : Operator → OperatorTree → OperatorTree
    within : Operator → OperatorTree → OperatorTree → OperatorTree

  pub data OperatorTrees : Type 0 where
    no_trees : OperatorTrees
    tree_then : OperatorTree → OperatorTrees → OperatorTrees

abbrev pub no_rest : Rest
no_rest = record { rows = []; counts = λ c. 0 }

-- the row alone
abbrev pub one_row : Row → Rest → Type 0
one_row row r = (r.rows ≡ row ∷ []) × ((c : Counter) → r.counts c ≡ 0)

-- one list of the body for each row, and what all of them count
abbrev pub EachRow : (Row → Rest → Type 0) → Ident → List Row → List Row → Counts → Type 0
EachRow body x [] outs d = (outs ≡ []) × ((c : Counter) → d c ≡ 0)
EachRow body x (row ∷ rows) outs d = (results : Rest) × (rest : List Row) × (n : Counts) × body row results
    × EachRow body x rows rest n × (outs ≡ bind x row (list (map result_of results.rows)) ∷ rest)
    × ((c : Counter) → d c ≡ results.counts c + n c)

-- ---- shards

-- of the rows that a Scatter or Distribute took, those of a shard
abbrev pub rows_for : Node → Dataset → ℕ → List Row → List Row
rows_for (plan.Distribute coll es) w shard rows =
    filter (λ row. shard_of (shards_in w.facts coll) (keys_of es row) == shard) rows
rows_for n w shard rows = rows

-- at a shard's port the rows of this shard; no row at the port at which it is filled
abbrev pub AtPort : Node → Dataset → List ℕ → ℕ → Rest → Rest → Type 0
AtPort n w shards p ins r =
    (p < length shards → r.rows ≡ rows_for n w (slice_index_or shards p 0) ins.rows)
    × (p ≡ length shards → r.rows ≡ []) × ((c : Counter) → r.counts c ≡ ins.counts c)

-- on this link: so many ask over it, so many take their last reply, and so many rows
abbrev pub on_this : ℕ → ℕ → ℕ → ℕ → Counts
on_this link opened closed rows (sent_on l) = cond (l == link) rows 0
on_this link opened closed rows (opened_on l) = cond (l == link) opened 0
on_this link opened closed rows (closed_on l) = cond (l == link) closed 0
on_this link opened closed rows c = 0

-- so many rows on this link, by one Remote, which opens it and closes it
abbrev pub carried : ℕ → ℕ → Counts
carried link rows = on_this link 1 1 rows

-- the asking end of a link gives the rows, the serving end none; each row is sent once, on one link
abbrev pub AtEnd : ℕ → Rest → Rest → Type 0
AtEnd zero ins r = (r.rows ≡ ins.rows)
    × (link : ℕ) × ((c : Counter) → r.counts c ≡ ins.counts c + carried link (length ins.rows) c)
AtEnd (suc p) ins r = (r.rows ≡ [])
    × (link : ℕ) × ((c : Counter) → r.counts c ≡ ins.counts c + carried link (length ins.rows) c)

-- the rows of so many lists in some order that keeps each list's own, where no next row of a list comes
-- before the row that is taken
abbrev pub MergedOf : (Row → Row → Bool) → ℕ → (ℕ → List Row) → List Row → Type 0
MergedOf before n lists [] = (k : ℕ) → k < n → lists k ≡ []
MergedOf before n lists (x ∷ out) = (k : ℕ) × (left : ℕ → List Row) × (k < n) × (lists k ≡ x ∷ left k)
    × ((j : ℕ) → (j ≡ k → ⊥) → left j ≡ lists j)
    × ((j : ℕ) (y : Row) (ys : List Row) → j < n → lists j ≡ y ∷ ys → before y x ≡ false)
    × MergedOf before n left out

-- what so many rests count
abbrev pub counted : ℕ → (ℕ → Rest) → Counts
counted zero ins c = 0
counted (suc n) ins c = counted n ins c + (ins n).counts c

abbrev pub count_of : OperatorTrees → ℕ
count_of no_trees = 0
count_of (tree_then t ts) = suc (count_of ts)

-- ---- what operators and trees make

abbrev mutual
  -- an operator may give this rest at a port, where these rows came to its shard, from a start row, for the
  -- lists of a body and a rest of each input
  pub Makes : Operator → Dataset → List Row → Row → ℕ → (Row → Rest → Type 0) → (ℕ → Rest) → Rest → Type 0
  Makes StartRow w came row p body ins r = one_row row r
  Makes NoRows w came row p body ins r = (r.rows ≡ []) × ((c : Counter) → r.counts c ≡ 0)
  Makes ShardRows w came row p body ins r = (r.rows ≡ came) × ((c : Counter) → r.counts c ≡ 0)
  Makes (OnRows n) w came row p body ins r = (d : Counts) × GivesCounting n w row (ins 0).rows r.rows d
      × NoneSent d × ((c : Counter) → r.counts c ≡ (ins 0).counts c + d c)
  Makes (WithBody x) w came row p body ins r = (d : Counts) × EachRow body x (ins 0).rows r.rows d
      × ((c : Counter) → r.counts c ≡ (ins 0).counts c + d c)
  Makes Remote w came row p body ins r = AtEnd p (ins 0) r
  Makes (Scatter n shards) w came row p body ins r = AtPort n w shards p (ins 0) r
  Makes (Gather n directions es) w came row p body ins r =
      MergedOf (row_before directions es) n (λ k. (ins k).rows) r.rows
      × ((c : Counter) → r.counts c ≡ counted n ins c)
  Makes (Shards gather scatter ts) w came row p body ins r =
      (lists : ℕ → Rest) × (own filling : Rest)
      × Fragments ts w row (λ k part. Makes scatter w [] row k one_row ins part) lists
      × Makes scatter w [] row (count_of ts) one_row ins filling
      × Makes gather w [] row 0 one_row lists own
      × (r.rows ≡ own.rows) × ((c : Counter) → r.counts c ≡ own.counts c + filling.counts c)

  -- each tree gives a list over a part that its shard may get
  pub Fragments : OperatorTrees → Dataset → Row → (ℕ → Rest → Type 0) → (ℕ → Rest) → Type 0
  Fragments no_trees w row parts lists = Unit {0}
  Fragments (tree_then t ts) w row parts lists =
      ((part : Rest) × parts 0 part × ProducesOver t w part.rows row (lists 0))
      × Fragments ts w row (λ k. parts (suc k)) (λ k. lists (suc k))

  -- a tree may give this rest from a start row, where these rows came to its shard
  pub ProducesOver : OperatorTree → Dataset → List Row → Row → Rest → Type 0
  ProducesOver (leaf o) w came row r = Makes o w came row 0 one_row (λ k. no_rest) r
  ProducesOver (over o below) w came row r =
      (ins : ℕ → Rest) × ProducesOver below w came row (ins 0) × Makes o w came row 0 one_row ins r
  ProducesOver (within o below body) w came row r = (ins : ℕ → Rest) × ProducesOver below w came row (ins 0)
      × Makes o w came row 0 (ProducesOver body w []) ins r

-- outside fragments no rows came
abbrev pub Produces : OperatorTree → Dataset → Row → Rest → Type 0
Produces t w row r = ProducesOver t w [] row r

abbrev pub height : OperatorTree → ℕ
height (leaf o) = 0
height (over o below) = height below + 1
height (within o below body) = (height below + height body) + 1

-- ---- inputs and ports

-- how many inputs an operator has
abbrev pub arity : Operator → ℕ
arity StartRow = 0
arity NoRows = 0
arity ShardRows = 0
arity (WithBody x) = 2
arity (Gather n directions es) = n
arity _ = 1

-- what is said of inputs holds where there are some
abbrev pub OfSome : ℕ → Type 0 → Type 0
OfSome zero said = Unit {0}
OfSome (suc n) said = said

abbrev pub OfInputs : Operator → Type 0 → Type 0
OfInputs o said = OfSome (arity o) said

abbrev pub is_first : ℕ → Bool
is_first zero = true
is_first (suc k) = false

abbrev pub is_below : ℕ → ℕ → Bool
is_below zero k = false
is_below (suc n) zero = true
is_below (suc n) (suc k) = is_below n k

-- an input begins with the operator, or later and again and again
abbrev pub begins : Operator → ℕ → Bool
begins StartRow k = false
begins NoRows k = false
begins ShardRows k = false
begins (Gather n directions es) k = is_below n k
begins _ k = is_first k

-- how many ports an operator has
abbrev pub ports : Operator → ℕ
ports Remote = 2
ports (Scatter n shards) = suc (length shards)
ports _ = 1

-- ---- what is counted exactly

-- a LIMIT leaves its input before all of it is counted; and what a traversal finds may be less than what it
-- counts, since an edge may lead to no document
abbrev mutual
  pub exact_at : Operator → Exact
  exact_at (OnRows (plan.Limit offset count)) c = false
  exact_at (OnRows (plan.Traversal shape e colls prune keep)) scanned_index = false
  exact_at (Shards gather scatter ts) c = exact_at gather c && exact_at scatter c && exact_in ts c
  exact_at o c = true

  pub exact_tree : OperatorTree → Exact
  exact_tree (leaf o) c = exact_at o c
  exact_tree (over o below) c = exact_at o c && exact_tree below c
  exact_tree (within o below body) c = exact_at o c && exact_tree below c && exact_tree body c

  pub exact_in : OperatorTrees → Exact
  exact_in no_trees c = true
  exact_in (tree_then t ts) c = exact_tree t c && exact_in ts c

-- when it is done early at a port, so are its inputs
abbrev pub drains : Operator → ℕ → Bool
drains Remote p = is_first p
drains (OnRows (plan.Limit offset count)) p = false
drains NoRows p = false
drains _ p = true

-- a Distribute reaches all shards of its collection
abbrev pub ReachesAll : Facts → Node → List ℕ → Type 0
ReachesAll facts (plan.Distribute coll es) shards = length shards ≡ shards_in facts coll
ReachesAll facts n shards = Unit {0}

abbrev mutual
  -- each operator has as many inputs as it wants
  pub IsTree : Facts → OperatorTree → Type 0
  IsTree facts (leaf o) = (arity o ≡ 0) × IsOperator facts o
  IsTree facts (over o below) = (arity o ≡ 1) × IsTree facts below × IsOperator facts o
  IsTree facts (within o below body) = (1 ≤ arity o) × (arity o ≤ 2) × IsTree facts below × IsTree facts body
      × (begins o 0 ≡ true) × (begins o 1 ≡ false) × IsOperator facts o

  -- its node fits the facts; an operator over shards has a port and an input for each
  pub IsOperator : Facts → Operator → Type 0
  IsOperator facts (OnRows n) = Fits facts n
  IsOperator facts (Scatter n shards) = Fits facts n × ReachesAll facts n shards
  IsOperator facts (Gather n directions es) = (n < 2 ^ 32) × AllPlain es
  IsOperator facts (Shards gather scatter ts) = (arity gather ≡ count_of ts) × (arity scatter ≡ 1)
      × (ports scatter ≡ suc (count_of ts)) × ((k : ℕ) → k < count_of ts → begins gather k ≡ true)
      × (drains scatter (count_of ts) ≡ true) × (count_of ts < 2 ^ 32)
      × AreTrees facts ts × IsOperator facts gather × IsOperator facts scatter
  IsOperator facts _ = Unit {0}

  pub AreTrees : Facts → OperatorTrees → Type 0
  AreTrees facts no_trees = Unit {0}
  AreTrees facts (tree_then t ts) = IsTree facts t × AreTrees facts ts
