-- What is printed of a script with its settings, and what the engine's list gains by it: the lines of an
-- answer, or how many they are, the log of the run and its counts; or the plan alone, which is not run.
use Rattle.std.specs.Prelude.{◌≡◌, ◌⊎◌, ℕ, List, [], ◌∷◌, ◌++◌, length, codes, cond, MatchBool, Option, Some, None, IfSome}
use Rattle.std.specs.Fmt.{decimal}
use Rattle.aql_value.specs.Datum.{Datum}
use Rattle.aql_script.specs.Script.{IsScript}
use Rattle.aql_script.specs.declared.loading.Loaded.{Loaded}
use Rattle.aql_plan.specs.declared.rules.RuleName.{RuleName}
use Rattle.aql_plan.specs.Plan.{Plan}
use Rattle.aql_show.specs.PlanText.{plan_text}
use Rattle.aql_net.specs.LogText.{log_text}
use Rattle.aql_block.specs.declared.tally.Tally.{Tally}
use Rattle.aql_opt.specs.Chosen.{cost_of}
use Rattle.aql_options.specs.declared.settings.Settings.{Settings}
use Rattle.aql_engine.specs.declared.engine.Ran.{Ran}
use Rattle.aql_top.specs.Forms.{answer_text, script_bytes}
use Rattle.aql_top.specs.Entries.{known, IsPlanned, IsRunOf}

-- ---- texts

-- how many lines an answer has, and how many bytes they are
abbrev pub size_text : List Datum → List ℕ
size_text values = codes "rows " ++ (decimal (length values) ++ (codes "\nbytes "
    ++ (decimal (length (answer_text values)) ++ codes "\n")))

-- the lines of an answer, or their size where the script was made
abbrev pub rows_text : Option ℕ → List Datum → List ℕ
rows_text None values = answer_text values
rows_text (Some n) values = size_text values

abbrev pub stats_text : Tally → List ℕ
stats_text tally = codes "stats scannedFull=" ++ (decimal tally.scanned_full ++ (codes " scannedIndex="
    ++ (decimal tally.scanned_index ++ (codes " filtered=" ++ (decimal tally.filtered ++ codes "\n")))))

-- what is printed of a run
abbrev pub run_text : Settings → Ran → List ℕ
run_text settings ran = (rows_text settings.generate ran.values ++ cond settings.trace (log_text ran.log) [])
    ++ cond settings.stats (stats_text ran.tally) []

-- ---- the script with its settings

-- the text of the chosen plan, with the names of the rules that changed it and its cost
pub record IsPlanText (settings : Settings) (loaded : Loaded) (text : List ℕ) : Type 0 where
  pub names : List (List ℕ)
  pub plan : Plan
  pub applied : List RuleName
  pub planned : IsPlanned settings loaded names plan applied
  pub is : text ≡ plan_text names (known settings loaded) plan applied (cost_of (known settings loaded) plan)

-- exactly one entry is new, and this is what is printed of it
pub record IsRunText (settings : Settings) (loaded : Loaded) (before after : List Ran) (text : List ℕ)
    : Type 0 where
  pub ran : Ran
  pub added : after ≡ before ++ ran ∷ []
  pub of : IsRunOf settings loaded ran
  pub is : text ≡ run_text settings ran

abbrev pub IsOutput : Settings → Loaded → List Ran → List Ran → List ℕ → Type 0
IsOutput settings loaded before after text = MatchBool settings.explain
    ((after ≡ before) × IsPlanText settings loaded text)
    (IsRunText settings loaded before after text)

-- this was written, of the script that the source has left or that was made
pub record Prints (settings : Settings) (left : Option (List ℕ)) (before after : List Ran)
    (Written : List ℕ → Type 0) : Type 0 where
  pub loaded : Loaded
  pub script : IfSome (script_bytes settings left) (λ bytes. IsScript bytes loaded)
  pub text : List ℕ
  pub output : IsOutput settings loaded before after text
  pub written : Written text

-- no entry is new, or the one of a run whose text was not written
abbrev pub AddsAtMostOne : Settings → Option (List ℕ) → List Ran → List Ran → Type 0
AddsAtMostOne settings left before after =
    (after ≡ before) ⊎ Prints settings left before after (λ text. Unit {0})
