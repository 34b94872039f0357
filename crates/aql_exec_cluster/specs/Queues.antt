-- Rows that came of several inputs, each list with the keys of its first row, and which of these comes first.
use Rattle.std.specs.Prelude.{◌≡◌, ℕ, zero, suc, ◌+◌, ◌<◌, ◌++◌, List, [], ◌∷◌, length, drop, sum_by, Bool, true, false, Option, MatchOption, slice_get}
use Rattle.aql_value.specs.View.{datums_in}
use Rattle.aql_tree.specs.Tree.{ExprTrees}
use Rattle.aql_meaning.specs.Row.{Row}
use Rattle.aql_meaning.specs.AtRows.{keys_of}
use Rattle.aql_block.specs.Tables.{rows_of}
use Rattle.aql_block.specs.declared.calls.Progress.{Progress}
use Rattle.aql_exec.specs.Rests.{Rest}
use Rattle.aql_exec.specs.Operators.{MergedOf}
use Rattle.aql_exec_cluster.specs.declared.queue.Queue.{Queue}
use Rattle.aql_exec_cluster.specs.Standing.{standing, is_done}

abbrev pub rows_left : Queue → List Row
rows_left q = drop q.at (rows_of q.block)

-- its keys are those of its first row
abbrev pub IsKeyed : ExprTrees → Queue → Type 0
IsKeyed es q = (row : Row) (rows : List Row) → rows_left q ≡ row ∷ rows
    → datums_in q.keys.items ≡ keys_of es row

-- the rows of the queue at a place
abbrev pub left_at : List Queue → ℕ → List Row
left_at [] k = []
left_at (q ∷ qs) zero = rows_left q
left_at (q ∷ qs) (suc k) = left_at qs k

-- how many rows there are
abbrev pub count_left : List Queue → ℕ
count_left queues = sum_by (λ q. length (rows_left q)) queues

-- with the rows to come of each input
abbrev pub lists_of : List Queue → (ℕ → Rest) → ℕ → List Row
lists_of queues ins k = left_at queues k ++ (ins k).rows

-- the first row of the queue at a place; no first row of the queues in front of another place comes before it
pub record IsFirst (before : Row → Row → Bool) (queues : List Queue) (upto k : ℕ) : Type 0 where
  pub within : k < length queues
  pub row : Row
  pub rows : List Row
  pub here : left_at queues k ≡ row ∷ rows
  pub least : (j : ℕ) (other : Row) (others : List Row) → j < upto → left_at queues j ≡ other ∷ others
      → before other row ≡ false

-- where there is one
abbrev pub FirstUpTo : (Row → Row → Bool) → List Queue → ℕ → Option ℕ → Type 0
FirstUpTo before queues upto o = MatchOption o ((j : ℕ) → j < upto → left_at queues j ≡ [])
    (IsFirst before queues upto)

-- each input that is not done has a row
abbrev pub AreReady : List Progress → List Queue → Type 0
AreReady inputs queues = (k : ℕ) → k < length queues → left_at queues k ≡ []
    → is_done (standing inputs k) ≡ true

-- each rest of the one with these rows in front is a rest of the other, where inputs that are done give none
abbrev pub Merges : (Row → Row → Bool) → ℕ → List Progress → List Queue → List Row → List Queue → Type 0
Merges before n inputs after out queues = (ins : ℕ → Rest) (rest : List Row)
    → ((k : ℕ) → k < n → is_done (standing inputs k) ≡ true → (ins k).rows ≡ [])
    → MergedOf before n (lists_of after ins) rest → MergedOf before n (lists_of queues ins) (out ++ rest)

-- the queue at a place has these variables
abbrev pub HasRegisters : List ℕ → List Queue → ℕ → Type 0
HasRegisters registers queues k =
    MatchOption (slice_get queues k) ⊥ (λ (q : Queue). q.block.registers ≡ registers)

-- this row was moved out of the queue at a place
pub record Popped (k : ℕ) (row : Row) (queues after : List Queue) : Type 0 where
  pub count : length after ≡ length queues
  pub here : left_at queues k ≡ row ∷ left_at after k
  pub others : (j : ℕ) → (j ≡ k → ⊥) → left_at after j ≡ left_at queues j
  pub left : count_left after + 1 ≡ count_left queues
