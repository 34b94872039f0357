-- The faults of a run: what leads to each, and its status and line.
use Rattle.std.specs.Prelude.{ℕ, List, codes, Option, IfSome}
use Rattle.aql_script.specs.Script.{HasFault, IsOfBytes}
use Rattle.aql_script.specs.Texts.{fault_text}
use Rattle.aql_script.specs.declared.loading.Loaded.{Loaded}
use Rattle.aql_script.specs.declared.faults.LoadFault.{LoadFault}
use Rattle.aql_script.specs.declared.faults.LoadFault.TheVariants as load
use Rattle.aql_top.specs.declared.query_faults.QueryFault.{QueryFault}
use Rattle.aql_top.specs.declared.query_faults.QueryFault.TheVariants as query
use Rattle.aql_top.specs.Reading.{Refuses}
use Rattle.aql_top.specs.Texts.{query_fault_text}
use Rattle.aql_top.specs.Forms.{Gives, TakesWords, Accepts, HasQueryFault, script_bytes}
use Rattle.aql_top.specs.Reasons.{fault_status, query_status, as_line}
use Rattle.aql_top.specs.declared.faults.RunFault.{RunFault}
use Rattle.aql_top.specs.declared.faults.RunFault.TheVariants.{Words, Read, Script, Query, Write, Memory}

-- the fault that comes of loading, and of reading the query
abbrev pub of_load : LoadFault → RunFault
of_load load.Read = Read
of_load load.Memory = Memory
of_load (load.Line n kind) = Script (load.Line n kind)
of_load (load.Limit kind) = Script (load.Limit kind)

abbrev pub of_query : QueryFault → RunFault
of_query query.Memory = Memory
of_query fault = Query fault

-- what in the bytes of the script leads to a fault, where the words are taken
abbrev pub LeadsBy : RunFault → Option (List ℕ) → Type 0
LeadsBy Words input = ⊥
LeadsBy Read input = Unit {0}
LeadsBy (Script fault) input = IsOfBytes fault × IfSome input (λ bytes. HasFault bytes fault)
LeadsBy (Query fault) input = IfSome input (λ bytes. HasQueryFault bytes fault)
LeadsBy Write input = IfSome input Accepts
LeadsBy Memory input = Unit {0}

-- what in the words and in the bytes that the source had left leads to a fault
abbrev pub Leads : RunFault → List (List ℕ) → Option (List ℕ) → Type 0
Leads Words words left = TakesWords words → ⊥
Leads Memory words left = Unit {0}
Leads fault words left = Gives words (λ settings. LeadsBy fault (script_bytes settings left))

-- what of a loaded script leads to a fault
abbrev pub HasNoLines : Loaded → RunFault → Type 0
HasNoLines loaded (Query fault) = Refuses loaded.catalog loaded.query fault
HasNoLines loaded Memory = Unit {0}
HasNoLines loaded other = ⊥

abbrev pub status_of : RunFault → ℕ
status_of Words = 2
status_of Read = 6
status_of (Script fault) = fault_status fault
status_of (Query fault) = query_status fault
status_of Write = 7
status_of Memory = 8

abbrev pub line_of : RunFault → List ℕ
line_of Words = as_line (codes "words")
line_of Read = as_line (codes "read fault")
line_of (Script fault) = as_line (fault_text fault)
line_of (Query fault) = as_line (query_fault_text fault)
line_of Write = as_line (codes "write fault")
line_of Memory = as_line (codes "out of memory")

-- its line is made in memory
abbrev pub IsMade : RunFault → Type 0
IsMade (Script fault) = Unit {0}
IsMade (Query fault) = Unit {0}
IsMade other = ⊥
