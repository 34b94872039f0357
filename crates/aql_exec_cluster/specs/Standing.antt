-- How the inputs of a Gather stand, and what it asks them for.
use Rattle.std.specs.Prelude.{ℕ, ◌≡◌, ◌<◌, ◌≤◌, List, length, sum_by, slice_index_or, Bool, true, false}
use Rattle.aql_block.specs.declared.calls.Call.{Call}
use Rattle.aql_block.specs.declared.calls.Progress.{Progress}
use Rattle.aql_block.specs.declared.calls.Progress.TheVariants.{Waiting, HasMore, Done}
use Rattle.aql_exec.specs.Steps.{IsCall, unless_waiting}

-- how an input stood after its last step; as one that has more where it was not asked
abbrev pub standing : List Progress → ℕ → Progress
standing inputs k = slice_index_or inputs k HasMore

abbrev pub IsWaiting : List Progress → ℕ → Type 0
IsWaiting inputs k = standing inputs k ≡ Waiting

-- after an answer one that waited may be asked again
abbrev pub after_answer : Progress → Progress
after_answer Waiting = HasMore
after_answer HasMore = HasMore
after_answer Done = Done

abbrev pub is_done : Progress → Bool
is_done Waiting = false
is_done HasMore = false
is_done Done = true

abbrev pub unless_done : Progress → ℕ
unless_done Waiting = 1
unless_done HasMore = 1
unless_done Done = 0

-- how many are not done, and how many do not wait
abbrev pub count_going : List Progress → ℕ
count_going inputs = sum_by unless_done inputs

abbrev pub count_awake : List Progress → ℕ
count_awake inputs = sum_by unless_waiting inputs

-- it counts for itself, so it asks for all rows
abbrev pub ForAll : Call → Type 0
ForAll c = (c.offset ≡ 0) × (c.soft ≤ 10000) × (c.hard ≡ 18446744073709551615)

-- it asks an input that has more
abbrev pub AsksInput : List Progress → ℕ → Call → Type 0
AsksInput inputs k c = ForAll c × (k < length inputs) × (standing inputs k ≡ HasMore)

-- and no input that is done
abbrev pub asks_input : List Progress → ℕ → Call → Type 0
asks_input inputs k c = IsCall c × (c.offset ≡ 0) × (c.hard ≡ 18446744073709551615)
    × (is_done (standing inputs k) ≡ false)
