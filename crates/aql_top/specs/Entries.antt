-- What the engine's list has of a run of the program: one entry, of the plan that the optimiser chooses by
-- the rules for the script's query and for the servers that hold its documents.
use Rattle.std.specs.Prelude.{◌≡◌, ℕ, List, [], Option}
use Rattle.aql_meaning.specs.Row.{empty_row}
use Rattle.aql_meaning.specs.Meaning.{IsAnswer}
use Rattle.aql_doc.specs.Held.{database}
use Rattle.aql_tree.specs.Tree.{QueryTree}
use Rattle.aql_script.specs.declared.loading.Loaded.{Loaded}
use Rattle.aql_scope.specs.Lifting.{scope_query}
use Rattle.aql_plan.specs.declared.facts.Facts.{Facts}
use Rattle.aql_plan.specs.declared.rules.RuleName.{RuleName}
use Rattle.aql_plan.specs.Plan.{Plan}
use Rattle.aql_plan.specs.View.{plan_tree}
use Rattle.aql_plan.specs.FirstPlan.{first_plan}
use Rattle.aql_plan.specs.Runs.{Dataset}
use Rattle.aql_shard.specs.Holding.{Holding}
use Rattle.aql_shard.specs.Known.{facts_of}
use Rattle.aql_shard.specs.Datasets.{stock, nothing_counted}
use Rattle.aql_opt.specs.Chosen.{Chosen}
use Rattle.aql_options.specs.declared.settings.Settings.{Settings}
use Rattle.aql_net.specs.declared.logs.LogEntry.{LogEntry}
use Rattle.aql_net.specs.Logs.{IsLog, picks_in}
use Rattle.aql_net.specs.Picking.{seed_of, SchedulePicks}
use Rattle.aql_engine.specs.declared.engine.Ran.{Ran}
use Rattle.aql_engine.specs.Run.{PickedBy}
use Rattle.aql_top.specs.Forms.{HasQuery}

-- what is known of the script's collections on the servers of the settings
abbrev pub known : Settings → Loaded → Facts
known settings loaded = facts_of settings.servers loaded.catalog

-- the documents of the script on these servers, before anything is read
abbrev pub holding : Settings → Loaded → Holding
holding settings loaded = record { held = loaded.catalog; servers = settings.servers; counts = nothing_counted }

abbrev pub stored : Settings → Loaded → Dataset
stored settings loaded = stock (holding settings loaded)

-- the plan that is chosen, by the rules of the settings and by what is known of the collections, for a query,
-- whose first plan has a node for each clause; and the names of the rules that changed it
abbrev pub IsChosenFor : Settings → Loaded → QueryTree → Plan → List RuleName → Type 0
IsChosenFor settings loaded q plan applied =
    Chosen (known settings loaded) settings.rules
    (first_plan (known settings loaded) (scope_query [] 1 q).tree) plan applied

-- what planning gives for the script's query: the names of the variables, by number, the chosen plan, and the
-- names of the rules that changed it
pub record IsPlanned (settings : Settings) (loaded : Loaded) (names : List (List ℕ)) (plan : Plan)
    (applied : List RuleName) : Type 0 where
  pub has_query : HasQuery loaded
  pub names_are : names ≡ (scope_query [] 1 has_query.query).said
  pub chosen : IsChosenFor settings loaded has_query.query plan applied

-- the messages of a log were delivered in the order that the schedule of this number picks
abbrev pub IsDeliveredBy : ℕ → List LogEntry → Type 0
IsDeliveredBy schedule log = (after : Option ℕ) × PickedBy SchedulePicks (seed_of schedule) (picks_in log) after

-- an entry of the script's query: its plan is the one chosen by the rules of the settings, its batch is that
-- of the settings, its values are an answer that the meaning allows for the query as it is written, and its
-- log is one of links whose messages the schedule of the settings delivered
pub record IsRunOf (settings : Settings) (loaded : Loaded) (ran : Ran) : Type 0 where
  pub has_query : HasQuery loaded
  pub applied : List RuleName
  pub chosen : IsChosenFor settings loaded has_query.query (plan_tree ran.plan) applied
  pub batch : ran.batch ≡ settings.batch
  pub answer : IsAnswer (database loaded.catalog) has_query.query empty_row ran.values
  pub logged : IsLog ran.batch ran.log
  pub delivered : IsDeliveredBy settings.schedule ran.log
