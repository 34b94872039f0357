-- Why a run ends with a status, and what it leaves on the output and on the error output.
use Rattle.std.specs.Prelude.{◌≡◌, ℕ, ◌⊎◌, List, [], ◌∷◌, ◌++◌, codes, IfSome, Option}
use Rattle.std.specs.Io.KnownBytes.{Appends}
use Rattle.aql_io.specs.Bytes.{AppendsPrefix}
use Rattle.aql_io.specs.Causes.{Rose}
use Rattle.aql_script.specs.Script.{HasFault, IsOfBytes}
use Rattle.aql_script.specs.Texts.{fault_text}
use Rattle.aql_script.specs.declared.faults.LoadFault.{LoadFault}
use Rattle.aql_script.specs.declared.faults.LoadFault.TheVariants.{Read, Limit, Line, Memory}
use Rattle.aql_top.specs.declared.query_faults.QueryFault.{QueryFault}
use Rattle.aql_top.specs.declared.query_faults.QueryFault.TheVariants as query
use Rattle.aql_top.specs.Texts.{query_fault_text}
use Rattle.aql_top.specs.Forms.{HasQueryFault}

-- the exit status of a fault of the script, and of its query
abbrev pub fault_status : LoadFault → ℕ
fault_status (Line n kind) = 3
fault_status (Limit kind) = 5
fault_status Read = 6
fault_status Memory = 8

abbrev pub query_status : QueryFault → ℕ
query_status query.TooLong = 5
query_status (query.Lexical place kind) = 4
query_status query.TooDeep = 5
query_status query.TooManyClauses = 5
query_status query.NotInGrammar = 4
query_status query.TraversalTooDeep = 5
query_status (query.Scope fault) = 4
query_status query.Memory = 8

-- The bytes of the script deserve this status and this text: for their first fault as a script, else for the
-- first fault of their query.
pub data Deserves (input : Option (List ℕ)) : ℕ → List ℕ → Type 0 where
  bad_script : (fault : LoadFault) → IsOfBytes fault → IfSome input (λ bytes. HasFault bytes fault)
      → Deserves input (fault_status fault) (fault_text fault)
  bad_query : (fault : QueryFault) → IfSome input (λ bytes. HasQueryFault bytes fault)
      → Deserves input (query_status fault) (query_fault_text fault)

-- the text of each status that the bytes of the script do not decide
pub data IsTextOf : ℕ → List ℕ → Type 0 where
  bad_words : IsTextOf 2 (codes "words")
  read_fault : IsTextOf 6 (codes "read fault")
  write_fault : IsTextOf 7 (codes "write fault")
  no_memory : IsTextOf 8 (codes "out of memory")

-- a text as a line on the error output
abbrev pub as_line : List ℕ → List ℕ
as_line text = codes "aql: " ++ (text ++ 10 ∷ [])

-- what was written to the error output: the line, or the front of it where that output failed
abbrev pub Tells : List ℕ → Option (List ℕ) → Option (List ℕ) → ℕ → ℕ → Type 0
Tells line before after faults faults' =
    Appends before after line ⊎ (AppendsPrefix before after line × Rose faults faults')

-- a count of faults rose where this holds, and else it stayed
abbrev pub RoseWhere : Type 0 → ℕ → ℕ → Type 0
RoseWhere Failed before after = (Failed → Rose before after) × ((Failed → ⊥) → after ≡ before)
