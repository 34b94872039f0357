-- The query of a loaded script: its first plan, and what the values of the plan are.
use Rattle.std.proofs.Common.{arith, ◌≡◌, ◌⊎◌, ◌<◌, ◌≤◌, ◌^◌, inl, inr, ℕ, List, [], ◌∷◌, ◌++◌, Option, Some, length, refl, sym, ap, ap₂, ◌∙◌, subst, true, false}
use Rattle.std.specs.Prelude.{slice_get, MatchBool, Result, Ok, Err, IfOk}
use Rattle.aql_value.specs.Datum as value
use Rattle.aql_value.specs.Database.{Database}
use Rattle.aql_tree.specs.Tree.{QueryTree}
use Rattle.aql_meaning.specs.Row.{empty_row}
use Rattle.aql_meaning.specs.Meaning.{IsAnswer}
use Rattle.aql_meaning.specs.Lifted.{IsLifted}
use Rattle.aql_doc.specs.Held.{Held, database}
use Rattle.aql_doc.specs.Limits.{IsWithinLimits}
use Rattle.aql_script.specs.declared.loading.Loaded.{Loaded}
use Rattle.aql_scope.specs.laws.Walk.{scoped_is_lifted}
use Rattle.aql_plan.specs.declared.facts.Facts.{Facts}
use Rattle.aql_plan.specs.declared.plan.Plan.{Plan}
use Rattle.aql_plan.specs.declared.rules.RuleName.{RuleName}
use Rattle.aql_plan.specs.Facts.{Meets}
use Rattle.aql_plan.specs.Plan as spec
use Rattle.aql_plan.specs.View.{plan_tree}
use Rattle.aql_plan.specs.FirstPlan.{first_plan}
use Rattle.aql_plan.specs.Refines.{dataset, Refines, Answers as PlanAnswers}
use Rattle.aql_plan.specs.Runs.{Dataset}
use Rattle.aql_plan.specs.WellFormed.{IsWellFormed}
use Rattle.aql_plan_laws.specs.laws.FirstAnswers.{first_answers}
use Rattle.aql_shard.specs.Holding.{Holding}
use Rattle.aql_shard.specs.Datasets.{stock, nothing_counted}
use Rattle.aql_shard.specs.Known.{facts_of}
use Rattle.aql_build.specs.Resolved.{IsResolved}
use Rattle.aql_build.specs.Theorem.{ScopingGivesIt}
use Rattle.aql_build.specs.TextLimits.{TextLimitsEnd}
use Rattle.aql_shard.specs.Theorem.{FactsFit}
use Rattle.aql_opt.specs.Chosen.{Chosen}
use Rattle.aql_engine.specs.declared.engine.Ran.{Ran}
use Rattle.aql_engine.specs.Engine.{Adds}
use Rattle.aql_engine.specs.Run.{PickedBy}
use Rattle.aql_net.specs.Logs.{picks_in}
use Rattle.aql_net.specs.Picking.{seed_of, SchedulePicks}
use Rattle.aql_top.specs.declared.query_faults.QueryFault.{QueryFault}
use Rattle.aql_top.specs.declared.query_faults.QueryFault.TheVariants.{TooLong, Lexical, TooDeep, TooManyClauses, NotInGrammar, TraversalTooDeep, Scope, Memory}
use Rattle.aql_top.specs.Reading.{IsWritten, IsScoped, Refuses}
use Rattle.aql_show.specs.PlanText.{plan_text}
use Rattle.aql_scope.specs.Lifting.{scope_query}
use Rattle.aql_options.specs.declared.settings.Settings.{Settings}
use Rattle.aql_top.specs.Forms.{HasQuery}
use Rattle.aql_top.specs.Entries.{known, holding, stored, IsChosenFor, IsPlanned, IsRunOf}
use Rattle.aql_top.specs.inner.Ready.{IsReady, Added}
use Rattle.aql_top.specs.declared.planning.Planned.{Planned}
use Rattle.aql_top.specs.Output.{run_text, IsOutput, IsPlanText, IsRunText}
use Rattle.aql_top.specs.Faults.{of_query, HasNoLines}

pub is_lifted : (held : List Held) (text : List ℕ) (tree : QueryTree) (names : List (List ℕ))
    → IsScoped held text tree names → IsLifted tree
is_lifted held text tree names s = subst IsLifted (sym s.lifted) (scoped_is_lifted [] 1 s.spelled)

-- the scoped query of a loaded script, with its first plan by facts that are true of the collections
module _ (settings : Settings) (loaded : Loaded) (tree : QueryTree) (names : List (List ℕ))
    (s : IsScoped loaded.catalog loaded.query tree names) (facts : Facts) (plan : spec.Plan)
    (first : plan ≡ first_plan facts tree) where
  abbrev pub has_query : HasQuery loaded
  has_query = record {
    query = s.spelled;
    is_written = s.is_written;
    no_fault = s.no_fault;
  }

  abbrev KeepsAnswers : Type 0
  KeepsAnswers = (q : QueryTree) → IsWritten loaded.query q → (db : Database) (out : List value.Datum)
      → IsAnswer db tree empty_row out → IsAnswer db q empty_row out

  -- what the values of a plan are
  abbrev GivesAnswers : spec.Plan → Type 0
  GivesAnswers p = (values : List value.Datum)
      → PlanAnswers p (dataset (known settings loaded) (database loaded.catalog)) empty_row values
      → (q : QueryTree) → IsWritten loaded.query q → IsAnswer (database loaded.catalog) q empty_row values

  plan_answers : Meets facts (database loaded.catalog) → facts ≡ known settings loaded → KeepsAnswers
      → GivesAnswers plan
  plan_answers meets are keeps values a q written =
      keeps q written (database loaded.catalog) values
      (first_answers facts (database loaded.catalog) meets tree (is_lifted _ _ tree names s) empty_row values
      (subst (λ p. PlanAnswers p (dataset facts (database loaded.catalog)) empty_row values) first
      (subst (λ f. PlanAnswers plan (dataset f (database loaded.catalog)) empty_row values) (sym are) a)))

  -- the values of a plan that refines it
  pub chosen_answers : Meets facts (database loaded.catalog) → facts ≡ known settings loaded → KeepsAnswers
      → (chosen : spec.Plan) → Refines facts chosen plan → GivesAnswers chosen
  chosen_answers meets are keeps chosen refines values a q written =
      let db = database loaded.catalog in
      plan_answers meets are keeps values
      (subst (λ f. PlanAnswers plan (dataset f db) empty_row values) are
      (refines db meets empty_row values
      (subst (λ f. PlanAnswers chosen (dataset f db) empty_row values) (sym are) a))) q written

  pub is_planned : facts ≡ known settings loaded → (chosen : spec.Plan) (applied : List RuleName)
      → Chosen facts settings.rules plan chosen applied → IsPlanned settings loaded names chosen applied
  is_planned are chosen applied h = record {
    has_query = has_query;
    names_are = s.variable_names;
    chosen = subst (λ f. Chosen f settings.rules (first_plan f (scope_query [] 1 s.spelled).tree) chosen applied) are
        (subst (λ p. Chosen facts settings.rules p chosen applied) (first ∙ ap (first_plan facts) s.lifted) h);
  }

-- the scoped query may be planned
pub resolved : ScopingGivesIt → TextLimitsEnd → FactsFit
    → (settings : Settings) (loaded : Loaded) (tree : QueryTree) (names : List (List ℕ))
    → IsScoped loaded.catalog loaded.query tree names → IsWithinLimits loaded.catalog → (facts : Facts)
    → facts ≡ known settings loaded → IsResolved facts tree
resolved scoping limits fit settings loaded tree names s within facts are =
    let known = facts_of settings.servers loaded.catalog in
    let fits = fit settings.servers loaded.catalog within in
    subst (λ f. IsResolved f tree) (sym are)
    (subst (IsResolved known) (sym s.lifted)
    (scoping known loaded.catalog fits.1 fits.0 (few (length known.collections) fits.2) s.spelled s.no_fault
    (limits loaded.query s.is_written.tokens s.is_written.has_tokens.1 s.spelled s.is_written.spelled)))
  where
    few : (n : ℕ) → n ≤ 64 → n < 2 ^ 32
    few n h = omega (arith, h)

-- ---- the run

at_end : (before : List Ran) (ran : Ran) → slice_get (before ++ ran ∷ []) (length before) ≡ Some ran
at_end [] ran = refl
at_end (other ∷ before) ran = at_end before ran

last_same : (before : List Ran) (x y : Ran) → before ++ x ∷ [] ≡ before ++ y ∷ [] → x ≡ y
last_same before x y e =
    let same : Some x ≡ Some y = sym (at_end before x) ∙ ap (λ list. slice_get list (length before)) e
    ∙ at_end before y in
    cc

module _ (w : Dataset) (plan : Plan) (batch : ℕ) (before after : List Ran)
    (a : Adds w plan batch before after)
  where
    -- the entry that is looked up is the one that was added
    pub found_entry : (held more : List Ran) (at : ℕ) → held ≡ before → at ≡ length held → more ≡ after
        → (found : Option Ran) → found ≡ slice_get more at → found ≡ Some a.ran
    found_entry held more at is here gained found f =
        f ∙ ap (λ list. slice_get list at) (gained ∙ a.added)
        ∙ ap (λ n. slice_get (before ++ a.ran ∷ []) n) (here ∙ ap length is)
        ∙ at_end before a.ran

-- the entry that was added is the one whose messages a schedule delivered
pub added_entry : (settings : Settings) (w : Dataset) (plan : Plan) (before after : List Ran)
    → Adds w plan settings.batch before after → (start end : Option ℕ) → start ≡ seed_of settings.schedule
    → (ran : Ran) × (after ≡ before ++ ran ∷ []) × PickedBy SchedulePicks start (picks_in ran.log) end
    → Added settings w plan before after
added_entry settings w plan before after a start end is h = record {
  adds = a;
  delivered = (
    end,
    subst (λ (r : Ran). PickedBy SchedulePicks (seed_of settings.schedule) (picks_in r.log) end)
        (last_same before h.0 a.ran (sym h.1 ∙ a.added))
        (subst (λ s. PickedBy SchedulePicks s (picks_in h.0.log) end) is h.2),
  );
}

-- the text of the entry that is found is that of the entry that was added
pub entry_prints : (settings : Settings) (w : Dataset) (plan : Plan) (before after : List Ran)
    → (a : Added settings w plan before after) (ran : Ran) → ran ≡ a.adds.ran
    → {V E : Type 0} (bytes : V → List ℕ) (r : Result V E) → IfOk r (λ text. bytes text ≡ run_text settings ran)
    → IfOk r (λ text. (added : Added settings w plan before after)
    × (bytes text ≡ run_text settings added.adds.ran))
entry_prints settings w plan before after a ran same bytes (Err e) is = tt
entry_prints settings w plan before after a ran same bytes (Ok text) is =
    (a, is ∙ ap (run_text settings) same)

-- ---- what is printed

module _ (loaded : Loaded) (settings : Settings) (p : Planned) (ready : IsReady settings loaded p) where
  run_of : (before after : List Ran) (added : Added settings (stored settings loaded) p.chosen.plan before after)
      → IsRunOf settings loaded added.adds.ran
  run_of before after added = let a = added.adds in record {
    has_query = ready.planned.has_query;
    applied = p.chosen.applied;
    chosen = subst
        (λ (x : Plan). IsChosenFor settings loaded ready.planned.has_query.query (plan_tree x)
        p.chosen.applied)
        (sym a.same_plan) ready.planned.chosen;
    batch = a.same_batch;
    answer = ready.answers a.ran.values
        (subst (λ (x : Plan). PlanAnswers (plan_tree x) (stored settings loaded) empty_row a.ran.values) a.same_plan
        a.over.answer)
        ready.planned.has_query.query ready.planned.has_query.is_written;
    logged = a.over.logged;
    delivered = added.delivered;
  }

  -- what is printed of an entry that was added over the servers of the plan
  pub run_output : settings.explain ≡ false → (before after : List Ran) (text : List ℕ)
      → (a : Added settings (stock p.servers) p.chosen.plan before after)
      × (text ≡ run_text settings a.adds.ran)
      → IsOutput settings loaded before after text
  run_output off before after text h =
      let over_script = subst
      (λ (s : Holding). (a : Added settings (stock s) p.chosen.plan before after)
      × (text ≡ run_text settings a.adds.ran))
      ready.servers_are h in
      subst (λ on. MatchBool on ((after ≡ before) × IsPlanText settings loaded text)
      (IsRunText settings loaded before after text)) (sym off)
      (record {
        ran = over_script.0.adds.ran;
        added = over_script.0.adds.added;
        of = run_of before after over_script.0;
        is = over_script.1;
      })

  pub plan_output : settings.explain ≡ true → (entries : List Ran) (text : List ℕ)
      → text ≡ plan_text p.names p.facts (plan_tree p.chosen.plan) p.chosen.applied p.chosen.cost
      → IsOutput settings loaded entries entries text
  plan_output on entries text is =
      subst (λ b. MatchBool b ((entries ≡ entries) × IsPlanText settings loaded text)
      (IsRunText settings loaded entries entries text)) (sym on) (
        refl,
        record {
          names = p.names;
          plan = plan_tree p.chosen.plan;
          applied = p.chosen.applied;
          planned = ready.planned;
          is = is ∙ ap₂ (λ f n. plan_text p.names f (plan_tree p.chosen.plan) p.chosen.applied n)
              ready.known_facts ready.cost;
        },
      )

  pub run_at_most : settings.explain ≡ false → (before after : List Ran)
      → (after ≡ before) ⊎ Added settings (stock p.servers) p.chosen.plan before after
      → (after ≡ before) ⊎ ((text : List ℕ) × IsOutput settings loaded before after text)
  run_at_most off before after (inl same) = inl same
  run_at_most off before after (inr a) =
      inr (run_text settings a.adds.ran, run_output off before after (run_text settings a.adds.ran) (a, refl))

-- ---- a query that is refused

pub refused : (loaded : Loaded) (e : QueryFault) → (e ≡ Memory) ⊎ Refuses loaded.catalog loaded.query e
    → HasNoLines loaded (of_query e)
refused loaded Memory h = tt
refused loaded TooLong (inr h) = h
refused loaded TooLong (inl e) = absurd (cc)
refused loaded (Lexical place kind) (inr h) = h
refused loaded (Lexical place kind) (inl e) = absurd (cc)
refused loaded TooDeep (inr h) = h
refused loaded TooDeep (inl e) = absurd (cc)
refused loaded TooManyClauses (inr h) = h
refused loaded TooManyClauses (inl e) = absurd (cc)
refused loaded NotInGrammar (inr h) = h
refused loaded NotInGrammar (inl e) = absurd (cc)
refused loaded TraversalTooDeep (inr h) = h
refused loaded TraversalTooDeep (inl e) = absurd (cc)
refused loaded (Scope fault) (inr h) = h
refused loaded (Scope fault) (inl e) = absurd (cc)
