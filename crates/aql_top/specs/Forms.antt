-- What the program takes, and the lines of an answer.
use Rattle.std.specs.Prelude.{◌≡◌, ℕ, List, [], ◌∷◌, ◌++◌, Option, Some, None, true, flat_map}
use Rattle.aql_value.specs.Datum.{Datum}
use Rattle.aql_value.specs.Json.{json_text}
use Rattle.aql_tree.specs.Tree.{QueryTree}
use Rattle.aql_script.specs.Script.{IsScript}
use Rattle.aql_script.specs.declared.loading.Loaded.{Loaded}
use Rattle.aql_scope.specs.Faults.{first_fault}
use Rattle.aql_options.specs.Words.{Words}
use Rattle.aql_options.specs.Generated.{generated}
use Rattle.aql_options.specs.declared.settings.Settings.{Settings}
use Rattle.aql_top.specs.Reading.{IsWritten, Refuses}
use Rattle.aql_top.specs.declared.query_faults.QueryFault.{QueryFault}

-- ---- words

-- the words of the command line give settings of which something holds
abbrev pub Gives : List (List ℕ) → (Settings → Type 0) → Type 0
Gives words Holds = (settings : Settings) × Words words settings × Holds settings

abbrev pub TakesWords : List (List ℕ) → Type 0
TakesWords words = Gives words (λ settings. Unit {0})

-- the words ask for the plan alone; or for a script that is made
abbrev pub Explains : List (List ℕ) → Type 0
Explains words = Gives words (λ settings. settings.explain ≡ true)

abbrev pub Generates : List (List ℕ) → Type 0
Generates words = Gives words (λ settings. (n : ℕ) × (settings.generate ≡ Some n))

-- ---- scripts

-- the bytes of the script, where they are known: those that the source has left, or the script that is made
abbrev pub made_or_left : Option ℕ → Option (List ℕ) → Option (List ℕ)
made_or_left None left = left
made_or_left (Some n) left = Some (generated n)

abbrev pub script_bytes : Settings → Option (List ℕ) → Option (List ℕ)
script_bytes settings left = made_or_left settings.generate left

-- the text of the script's query spells a query without fault
pub record HasQuery (loaded : Loaded) : Type 0 where
  pub query : QueryTree
  pub is_written : IsWritten loaded.query query
  pub no_fault : first_fault loaded.catalog query ≡ None

-- the bytes are a script of which something holds
abbrev pub IsScriptWith : (Loaded → Type 0) → List ℕ → Type 0
IsScriptWith Holds bytes = (loaded : Loaded) × (IsScript bytes loaded × Holds loaded)

abbrev pub Accepts : List ℕ → Type 0
Accepts bytes = IsScriptWith HasQuery bytes

abbrev pub HasQueryFault : List ℕ → QueryFault → Type 0
HasQueryFault bytes fault = IsScriptWith (λ loaded. Refuses loaded.catalog loaded.query fault) bytes

-- ---- answers

-- the lines of a list of values: of each its canonical JSON and a line feed
abbrev pub answer_text : List Datum → List ℕ
answer_text values = flat_map (λ t. json_text t ++ 10 ∷ []) values
