-- What planning gives: a plan that is ready to be run or printed, over servers that hold the script's documents.
use Rattle.std.specs.Prelude.{◌≡◌, ℕ, List}
use Rattle.aql_value.specs.Datum.{Datum}
use Rattle.aql_doc.specs.Held.{database}
use Rattle.aql_tree.specs.Tree.{QueryTree}
use Rattle.aql_script.specs.declared.loading.Loaded.{Loaded}
use Rattle.aql_meaning.specs.Row.{empty_row}
use Rattle.aql_meaning.specs.Meaning.{IsAnswer}
use Rattle.aql_options.specs.declared.settings.Settings.{Settings}
use Rattle.aql_plan.specs.declared.plan.Plan.{Plan}
use Rattle.aql_plan.specs.Runs.{Dataset}
use Rattle.aql_plan.specs.View.{plan_tree}
use Rattle.aql_plan.specs.Refines.{dataset, Answers as PlanAnswers}
use Rattle.aql_opt.specs.Chosen.{cost_of}
use Rattle.aql_engine.specs.Engine.{CanRun, Adds}
use Rattle.aql_engine.specs.declared.engine.Ran.{Ran}
use Rattle.aql_top.specs.Reading.{IsWritten}
use Rattle.aql_top.specs.Entries.{known, holding, stored, IsPlanned, IsDeliveredBy}
use Rattle.aql_top.specs.declared.planning.Planned.{Planned}

-- a plan that is ready to be run or printed
pub record IsReady (settings : Settings) (loaded : Loaded) (p : Planned) : Type 0 where
  pub planned : IsPlanned settings loaded p.names (plan_tree p.chosen.plan) p.chosen.applied
  pub known_facts : p.facts ≡ known settings loaded
  pub cost : p.chosen.cost ≡ cost_of (known settings loaded) (plan_tree p.chosen.plan)
  pub servers_are : p.servers ≡ holding settings loaded
  pub can_run : CanRun (stored settings loaded) p.chosen.plan
  pub answers : (values : List Datum)
      → PlanAnswers (plan_tree p.chosen.plan)
      (dataset (known settings loaded) (database loaded.catalog)) empty_row values
      → (query : QueryTree) → IsWritten loaded.query query
      → IsAnswer (database loaded.catalog) query empty_row values

-- exactly one entry is new: a run of this plan over these documents, by the batch and schedule of the settings
pub record Added (settings : Settings) (w : Dataset) (plan : Plan) (before after : List Ran) : Type 0 where
  pub adds : Adds w plan settings.batch before after
  pub delivered : IsDeliveredBy settings.schedule adds.ran.log
