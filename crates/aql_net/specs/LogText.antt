-- A log as text, a line for each entry: the message's number, and what was sent on which link, or that it was
-- taken.
use Rattle.std.specs.Prelude.{ℕ, ◌++◌, List, codes, cond, ◌==◌, flat_map}
use Rattle.std.specs.Fmt.{decimal}
use Rattle.aql_block.specs.declared.calls.Progress.{Progress}
use Rattle.aql_block.specs.declared.calls.Progress.TheVariants.{Waiting, HasMore, Done}
use Rattle.aql_net.specs.declared.logs.Sort.{Sort}
use Rattle.aql_net.specs.declared.logs.Sort.TheVariants.{Ask, Reply}
use Rattle.aql_net.specs.declared.logs.LogEntry.{LogEntry}
use Rattle.aql_net.specs.declared.logs.LogEntry.TheVariants.{Sent, Taken}

-- all rows are wanted, or so many
abbrev pub hard_text : ℕ → List ℕ
hard_text hard = cond (hard == 18446744073709551615) (codes "-") (decimal hard)

-- how things stand after a reply, which is never that it waits
abbrev pub state_text : Progress → List ℕ
state_text Done = codes "done"
state_text HasMore = codes "more"
state_text Waiting = codes "more"

abbrev pub sort_text : Sort → List ℕ
sort_text (Ask c) =
    codes "ask " ++ (decimal c.offset ++ (codes " " ++ (decimal c.soft ++ (codes " " ++ hard_text c.hard))))
sort_text (Reply skipped rows progress) =
    codes "reply " ++ (decimal skipped ++ (codes " " ++ (decimal rows ++ (codes " " ++ state_text progress))))

abbrev pub entry_text : LogEntry → List ℕ
entry_text (Sent n l what) = codes "send " ++ (decimal n ++ (codes " " ++ (decimal l ++ (codes " "
    ++ (sort_text what ++ codes "\n")))))
entry_text (Taken n) = codes "take " ++ (decimal n ++ codes "\n")

abbrev pub log_text : List LogEntry → List ℕ
log_text log = flat_map entry_text log
