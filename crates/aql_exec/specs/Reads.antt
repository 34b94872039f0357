-- Executors that read little: a plan that only hands rows on, down to a scan without a filter, reads a
-- document for each row that it gives.
use Rattle.std.specs.Prelude.{ℕ, ◌≡◌, ◌+◌, ◌≤◌, length, Bool, true, false, cond, not, ◌&&◌, ◌||◌}
use Rattle.aql_tree.specs.Tree.{MaybeExpr, no_expr, one_expr}
use Rattle.aql_plan.specs.Plan as plan
use Rattle.aql_block.specs.declared.calls.Step.{Step}
use Rattle.aql_exec.specs.declared.turns.Turn.{Turn}
use Rattle.aql_exec.specs.Steps.{MatchTurn, given}
use Rattle.aql_exec.specs.Operators.{Operator, OperatorTree, leaf, over, within, StartRow, OnRows, Remote, Shards}

-- an operator that reads no document and gives a row for each row that it takes, unless it leaves it out
abbrev pub hands_on : Operator → Bool
hands_on StartRow = true
hands_on (OnRows (plan.Calculation x e)) = true
hands_on (OnRows (plan.Limit offset count)) = true
hands_on (OnRows (plan.Return false e)) = true
hands_on o = false

abbrev pub is_none : MaybeExpr → Bool
is_none no_expr = true
is_none (one_expr e) = false

-- one that reads a collection without a filter
abbrev pub scans_all : Operator → Bool
scans_all (OnRows (plan.EnumerateCollection x)) = is_none x.filter
scans_all o = false

-- one that may skip a row that it took, where its call skips rows
abbrev pub is_limit : Operator → Bool
is_limit (OnRows (plan.Limit offset count)) = true
is_limit o = false

-- the documents that were read in a turn, where so many rows were to be skipped, and so many were held before
-- and after
abbrev pub ReadsLittle : Operator → ℕ → ℕ → ℕ → ℕ → ℕ → Turn → Type 0
ReadsLittle o offset held held' read read' t = MatchTurn t
    (λ _ _. (scans_all o ≡ true → read' ≤ read) × (hands_on o ≡ true → (read' ≤ read) × (held ≤ held')))
    (λ _ _. (scans_all o ≡ true → read' ≤ read) × (hands_on o ≡ true → (read' ≤ read) × (held ≤ held')))
    (λ step. (scans_all o ≡ true → read' ≤ read + length (given step))
    × (hands_on o ≡ true → (read' ≤ read)
    × ((is_limit o ≡ true → offset ≡ 0) → held ≤ length (given step))))

-- a tree of operators none of which has a link
abbrev pub is_unlinked : Operator → Bool
is_unlinked Remote = false
is_unlinked (Shards gather scatter trees) = false
is_unlinked o = true

abbrev pub has_no_link : OperatorTree → Bool
has_no_link (leaf o) = is_unlinked o
has_no_link (over o below) = is_unlinked o && has_no_link below
has_no_link (within o below body) = is_unlinked o && has_no_link below && has_no_link body

-- a plan that reads no document
abbrev pub reads_none : OperatorTree → Bool
reads_none (leaf o) = hands_on o
reads_none (over o below) = hands_on o && reads_none below
reads_none (within o below body) = hands_on o && reads_none below && has_no_link body

-- a LIMIT stands in the plan
abbrev pub has_limit : OperatorTree → Bool
has_limit (leaf o) = is_limit o
has_limit (over o below) = is_limit o || has_limit below
has_limit (within o below body) = is_limit o || has_limit below

-- one that hands rows on, or that reads a collection over a plan that reads none
abbrev pub hands_or_scans : Operator → Bool → Bool → Bool
hands_or_scans o none little = cond (hands_on o) little (scans_all o && none)

-- a plan that reads a document for each row that it gives, at most: one FOR over a collection without a
-- filter, with LETs, one LIMIT and RETURN over it
abbrev pub reads_little : OperatorTree → Bool
reads_little (leaf o) = hands_on o
reads_little (over o below) =
    hands_or_scans o (reads_none below) (reads_little below && not (is_limit o && has_limit below))
reads_little (within o below body) =
    hands_or_scans o (reads_none below) (reads_little below && not (is_limit o && has_limit below))
    && has_no_link body

-- the documents that were read in a step of a plan, at a call that skips so many rows
abbrev pub ReadInStep : OperatorTree → ℕ → ℕ → ℕ → Step → Type 0
ReadInStep plan offset read read' step = (reads_none plan ≡ true → read' ≤ read)
    × (reads_little plan ≡ true → (has_limit plan ≡ true → offset ≡ 0) → read' ≤ read + length (given step))
