-- What an engine keeps of a run, and what the run of a plan adds to its list.
use Rattle.std.specs.Prelude.{ℕ, ◌≡◌, ◌≤◌, true, List, [], ◌∷◌, ◌++◌, length, map}
use Rattle.aql_meaning.specs.Row.{empty_row}
use Rattle.aql_plan.specs.declared.plan.Plan.{Plan}
use Rattle.aql_plan.specs.View.{plan_tree}
use Rattle.aql_plan.specs.Runs.{Dataset, result_of}
use Rattle.aql_plan.specs.Refines.{Answers}
use Rattle.aql_plan.specs.WellFormed.{IsWellFormed}
use Rattle.aql_block.specs.declared.tally.Tally.{Tally}
use Rattle.aql_exec.specs.Rests.{Counter, scanned_full, scanned_index, filtered, sent_on, opened_on, closed_on, Counts, Exact, Rest}
use Rattle.aql_exec.specs.Rising.{Rose, TallyRose}
use Rattle.aql_exec.specs.Reads.{reads_little}
use Rattle.aql_exec.specs.Operators.{Produces, exact_tree}
use Rattle.aql_net.specs.declared.logs.LogEntry.{LogEntry}
use Rattle.aql_net.specs.Logs.{IsLog, rows_on, opened_in, closed_in}
use Rattle.aql_engine.specs.OperatorsOf.{operators_of}
use Rattle.aql_engine.specs.declared.engine.Ran.{Ran}

-- a plan that can be run over these documents: one that is well formed
abbrev pub CanRun : Dataset → Plan → Type 0
CanRun w plan = IsWellFormed w.facts [] (plan_tree plan)

abbrev pub no_tally : Tally
no_tally = record { scanned_full = 0; scanned_index = 0; filtered = 0 }

-- a tally, and a log by the rows that were skipped and sent on each link, and by the links that were opened and
-- that are closed, count at most so much, and all of what is exact; each number of the tally stays at the largest
-- of 64 bits, and at least so many links are closed
pub record Tallied (e : Exact) (t : Tally) (log : List LogEntry) (d : Counts) : Type 0 where
  pub added : Counts
  pub most : (c : Counter) → added c ≤ d c
  pub exact : (c : Counter) → e c ≡ true → d c ≤ added c
  pub tally : TallyRose no_tally t (added scanned_full) (added scanned_index) (added filtered)
  pub sent : (l : ℕ) → rows_on l log ≡ added (sent_on l)
  pub opened : (l : ℕ) → opened_in l log ≡ added (opened_on l)
  pub closed : (l : ℕ) → added (closed_on l) ≤ closed_in l log

-- the counts of the servers rose by the documents that a tally counts
pub record OwnCounted (own own' t : Tally) : Type 0 where
  pub read : ℕ
  pub found : ℕ
  pub read_is : Rose 0 t.scanned_full read × Rose own.scanned_full own'.scanned_full read
  pub found_is : Rose 0 t.scanned_index found × Rose own.scanned_index own'.scanned_index found

-- the values of an entry are an answer of its plan over these documents, and it counts what the executors of
-- the plan count on the way to these values: no more, and exactly that where the plan has no LIMIT, but for
-- documents that a traversal finds. The rows that each link carried are counted so too: no more than the rows of
-- its Remotes on the way to these values, and as many where there is no LIMIT. The log is one of links on which
-- no more rows are asked for at a time than a step may give. A plan that reads little reads no more documents
-- than it gives values
pub record IsRunOver (w : Dataset) (ran : Ran) : Type 0 where
  pub answer : Answers (plan_tree ran.plan) w empty_row ran.values
  pub rest : Rest
  pub produced : Produces (operators_of w.facts (plan_tree ran.plan)) w empty_row rest
  pub values : ran.values ≡ map result_of rest.rows
  pub counted : Tallied (exact_tree (operators_of w.facts (plan_tree ran.plan))) ran.tally ran.log rest.counts
  pub little : reads_little (operators_of w.facts (plan_tree ran.plan)) ≡ true
      → ran.tally.scanned_full ≤ length ran.values
  pub logged : IsLog ran.batch ran.log

-- exactly one entry is new, and it is a run of this plan over these documents, in steps of so many rows
pub record Adds (w : Dataset) (plan : Plan) (batch : ℕ) (before after : List Ran) : Type 0 where
  pub ran : Ran
  pub added : after ≡ before ++ ran ∷ []
  pub same_plan : ran.plan ≡ plan
  pub same_batch : ran.batch ≡ batch
  pub over : IsRunOver w ran
