-- Words that give settings, and what leads to a fault then.
use Rattle.std.proofs.Common.{ℕ, List, Option}
use Rattle.aql_options.specs.Words.{Words}
use Rattle.aql_options.specs.declared.settings.Settings.{Settings}
use Rattle.aql_top.specs.Forms.{TakesWords, script_bytes}
use Rattle.aql_top.specs.Faults.{Leads, LeadsBy}
use Rattle.aql_top.specs.declared.faults.RunFault.{RunFault}
use Rattle.aql_top.specs.declared.faults.RunFault.TheVariants as run

pub refused_lead : (words : List (List ℕ)) → ((settings : Settings) → Words words settings → ⊥)
    → TakesWords words → ⊥
refused_lead words refused taken = refused taken.0 taken.1

module _ (words : List (List ℕ)) (settings : Settings) (w : Words words settings) where
  pub all_lead : (fault : RunFault) (left : Option (List ℕ)) → LeadsBy fault (script_bytes settings left)
      → Leads fault words left
  all_lead run.Words left h = absurd h
  all_lead run.Read left h = (settings, w, h)
  all_lead (run.Script fault) left h = (settings, w, h)
  all_lead (run.Query fault) left h = (settings, w, h)
  all_lead run.Write left h = (settings, w, h)
  all_lead run.Memory left h = tt
