-- What loading a script says of the bytes that the source had left.
use Rattle.std.proofs.Common.{◌≡◌, ◌≢◌, ◌≤◌, ◌⊎◌, inl, inr, ℕ, List, [], ◌++◌, Bool, true, false, Option, Some, None, Err, length, nat_le, refl, sym, ap, ◌∙◌, subst, append-nil, arith, length-append}
use Rattle.std.specs.Prelude.{IfSome, Result}
use Rattle.std.proofs.lemmas.Bool.{false≢true}
use Rattle.aql_io.specs.Bytes.{HandsOut}
use Rattle.aql_script.specs.Script.{script, IsScript, HasFault, Loads, IsFaulty, Hinders}
use Rattle.aql_script.specs.laws.OfBytes.{fault_of_bytes}
use Rattle.aql_script.specs.declared.loading.Loaded.{Loaded}
use Rattle.aql_script.specs.declared.faults.LoadFault.{LoadFault}
use Rattle.aql_script.specs.declared.faults.LoadFault.TheVariants.{Read, Limit, Line, Memory}
use Rattle.aql_script.specs.declared.faults.LimitKind.TheVariants.{ScriptBytes}
use Rattle.aql_top.specs.Reading.{Refuses}
use Rattle.aql_top.specs.declared.query_faults.QueryFault.{QueryFault}
use Rattle.aql_top.specs.declared.query_faults.QueryFault.TheVariants as query
use Rattle.aql_top.specs.Forms.{HasQuery, IsScriptWith, Accepts, script_bytes}
use Rattle.aql_options.specs.declared.settings.Settings.{Settings}
use Rattle.aql_top.specs.Output.{IsOutput, Prints, AddsAtMostOne}
use Rattle.aql_engine.specs.declared.engine.Ran.{Ran}
use Rattle.aql_top.specs.Faults.{of_load, LeadsBy, HasNoLines, status_of}
use Rattle.aql_top.specs.Reasons.{query_status, RoseWhere}
use Rattle.aql_top.specs.declared.faults.RunFault.{RunFault}
use Rattle.aql_top.specs.declared.faults.RunFault.TheVariants as run

within : (bytes : List ℕ) → length bytes ≤ 67108864 → nat_le (length bytes) 67108864 ≡ true
within bytes h = grind (arith, h)

beyond : (bytes : List ℕ) → (length bytes ≤ 67108864 → ⊥) → nat_le (length bytes) 67108864 ≡ false
beyond bytes h = grind (arith, h)

all_taken : (input taken rest : List ℕ) → input ≡ taken ++ rest → rest ≡ [] → taken ≡ input
all_taken input taken rest e n = sym (e ∙ ap (λ r. taken ++ r) n ∙ append-nil taken)

pub whole_script : (before after : Option (List ℕ)) (loaded : Loaded) → Loads loaded before after
    → IfSome before (λ bytes. IsScript bytes loaded)
whole_script None after loaded h = tt
whole_script (Some input) None loaded h = absurd h.0.consumed
whole_script (Some input) (Some rest) loaded h =
    subst (λ b. IsScript b loaded) (all_taken input h.0.taken rest h.0.consumed h.1) h.0.holds

too_long : (bytes : List ℕ) → (length bytes ≤ 67108864 → ⊥) → script bytes ≡ Err (Limit ScriptBytes)
unfolding script
too_long bytes h = rw (beyond bytes h) refl

same_fault : (e : LoadFault) (input taken rest : List ℕ) (b : Bool) → nat_le (length taken) 67108864 ≡ b
    → input ≡ taken ++ rest → HasFault taken e → (length taken ≤ 67108864 → rest ≡ []) → HasFault input e
same_fault e input taken rest true t i h n =
    let short : length taken ≤ 67108864 = grind (arith, t) in
    subst (λ b. HasFault b e) (all_taken input taken rest i (n short)) h
same_fault e input taken rest false t i h n =
    let long : length taken ≤ 67108864 → ⊥ = λ l. false≢true (sym t ∙ within taken l) in
    let longer : length input ≤ 67108864 → ⊥ =
    λ l. long (omega (arith, ap length i, length-append taken rest, l)) in
    too_long input longer ∙ sym (too_long taken long) ∙ h

first_fault : (e : LoadFault) (before after : Option (List ℕ)) → IsFaulty e before after
    → IfSome before (λ bytes. HasFault bytes e)
first_fault e None after h = tt
first_fault e (Some input) None h = absurd h.consumed
first_fault e (Some input) (Some rest) h =
    same_fault e input h.taken rest _ refl h.consumed h.holds.0 h.holds.1

-- ---- a fault of loading

abbrev pub failed : LoadFault → Result Loaded LoadFault
failed fault = Err fault

module _ (before after : Option (List ℕ)) (faults faults' : ℕ) where
  pub load_leads : (fault : LoadFault) → Hinders fault before after faults faults'
      → LeadsBy (of_load fault) before
  load_leads Read h = tt
  load_leads Memory h = tt
  load_leads (Limit kind) h = (tt, first_fault (Limit kind) before after h)
  load_leads (Line n kind) h = (tt, first_fault (Line n kind) before after h)

  pub load_within : (fault : LoadFault) → Hinders fault before after faults faults'
      → status_of (of_load fault) ≡ 6 → HandsOut before after (λ taken. length taken ≤ 67108864)
  load_within Read h e = h.0
  load_within Memory h e = absurd (omega (arith, e))
  load_within (Limit kind) h e = absurd (omega (arith, e))
  load_within (Line n kind) h e = absurd (omega (arith, e))

  stayed : (n : ℕ) → (n ≡ 6 → ⊥) → faults' ≡ faults → RoseWhere (n ≡ 6) faults faults'
  stayed n other same = (λ six. absurd (other six), λ _. same)

  pub load_reads : (fault : LoadFault) → Hinders fault before after faults faults'
      → (failed fault ≢ failed Read → faults' ≡ faults)
      → RoseWhere (status_of (of_load fault) ≡ 6) faults faults'
  load_reads Read h quiet = (λ _. h.1, λ other. absurd (other refl))
  load_reads Memory h quiet = stayed 8 (λ e. omega (arith, e)) (quiet (λ e. cc))
  load_reads (Limit kind) h quiet = stayed 5 (λ e. omega (arith, e)) (quiet (λ e. cc))
  load_reads (Line n kind) h quiet = stayed 3 (λ e. omega (arith, e)) (quiet (λ e. cc))

-- loading ends neither for the words nor for a write
pub load_status : (fault : LoadFault) → (status_of (of_load fault) ≢ 2) × (status_of (of_load fault) ≢ 7)
load_status Read = (λ e. omega (arith, e), λ e. omega (arith, e))
load_status Memory = (λ e. omega (arith, e), λ e. omega (arith, e))
load_status (Limit kind) = (λ e. omega (arith, e), λ e. omega (arith, e))
load_status (Line n kind) = (λ e. omega (arith, e), λ e. omega (arith, e))

-- ---- a script that was made

pub made_leads : (bytes : List ℕ) (fault : LoadFault) → (fault ≡ Memory) ⊎ (script bytes ≡ Err fault)
    → LeadsBy (of_load fault) (Some bytes)
made_leads bytes Memory h = tt
made_leads bytes Read h = tt
made_leads bytes (Limit kind) (inl e) = absurd (cc)
made_leads bytes (Limit kind) (inr h) = (tt, h)
made_leads bytes (Line n kind) (inl e) = absurd (cc)
made_leads bytes (Line n kind) (inr h) = (tt, h)

pub made_status : (bytes : List ℕ) (fault : LoadFault) → (fault ≡ Memory) ⊎ (script bytes ≡ Err fault)
    → (status_of (of_load fault) ≢ 6) × (status_of (of_load fault) ≢ 7)
made_status bytes Memory h = (λ e. omega (arith, e), λ e. omega (arith, e))
made_status bytes (Limit kind) h = (λ e. omega (arith, e), λ e. omega (arith, e))
made_status bytes (Line n kind) h = (λ e. omega (arith, e), λ e. omega (arith, e))
made_status bytes Read (inl e) = absurd (cc)
made_status bytes Read (inr h) = absurd (fault_of_bytes bytes Read h)

-- ---- a script that was loaded

-- what holds of the script that was loaded holds of that of the bytes
script_with : (Holds : Loaded → Type 0) (input : Option (List ℕ)) (loaded : Loaded)
    → IfSome input (λ bytes. IsScript bytes loaded) → Holds loaded → IfSome input (IsScriptWith Holds)
script_with Holds None loaded h k = tt
script_with Holds (Some bytes) loaded h k = (loaded, (h, k))

module _ (loaded : Loaded) where
  pub accepted : (input : Option (List ℕ)) → IfSome input (λ bytes. IsScript bytes loaded) → HasQuery loaded
      → IfSome input Accepts
  accepted input h r = script_with HasQuery input loaded h r

  pub no_lines_lead : (fault : RunFault) (input : Option (List ℕ))
      → IfSome input (λ bytes. IsScript bytes loaded) → HasNoLines loaded fault → LeadsBy fault input
  no_lines_lead run.Words input h n = absurd n
  no_lines_lead run.Read input h n = absurd n
  no_lines_lead (run.Script fault) input h n = absurd n
  no_lines_lead (run.Query fault) input h n =
      script_with (λ l. Refuses l.catalog l.query fault) input loaded h n
  no_lines_lead run.Write input h n = absurd n
  no_lines_lead run.Memory input h n = tt

module _ (settings : Settings) (left : Option (List ℕ)) (loaded : Loaded) (before after : List Ran)
    (script : IfSome (script_bytes settings left) (λ bytes. IsScript bytes loaded)) where
  pub printed : (Written : List ℕ → Type 0) (text : List ℕ) → IsOutput settings loaded before after text
      → Written text → Prints settings left before after Written
  printed Written text output written = record {
    loaded = loaded;
    script = script;
    text = text;
    output = output;
    written = written;
  }

  pub at_most_one : (after ≡ before) ⊎ ((text : List ℕ) × IsOutput settings loaded before after text)
      → AddsAtMostOne settings left before after
  at_most_one (inl same) = inl same
  at_most_one (inr o) = inr (printed (λ text. Unit {0}) o.0 o.1 tt)

-- the status is none of those of words, reads and writes
abbrev pub IsLate : ℕ → Type 0
IsLate n = (n ≢ 2) × (n ≢ 6) × (n ≢ 7)

late_4 : IsLate 4
late_4 = (λ e. omega (arith, e), λ e. omega (arith, e), λ e. omega (arith, e))

late_5 : IsLate 5
late_5 = (λ e. omega (arith, e), λ e. omega (arith, e), λ e. omega (arith, e))

late_8 : IsLate 8
late_8 = (λ e. omega (arith, e), λ e. omega (arith, e), λ e. omega (arith, e))

query_is_late : (fault : QueryFault) → IsLate (query_status fault)
query_is_late query.TooLong = late_5
query_is_late (query.Lexical place kind) = late_4
query_is_late query.TooDeep = late_5
query_is_late query.TooManyClauses = late_5
query_is_late query.NotInGrammar = late_4
query_is_late query.TraversalTooDeep = late_5
query_is_late (query.Scope fault) = late_4
query_is_late query.Memory = late_8

pub no_lines_status : (loaded : Loaded) (fault : RunFault) → HasNoLines loaded fault
    → IsLate (status_of fault)
no_lines_status loaded run.Words n = absurd n
no_lines_status loaded run.Read n = absurd n
no_lines_status loaded (run.Script fault) n = absurd n
no_lines_status loaded (run.Query fault) n = query_is_late fault
no_lines_status loaded run.Write n = absurd n
no_lines_status loaded run.Memory n = late_8

-- only want of memory comes after the engine was called
pub not_called : (fault : RunFault) → status_of fault ≢ 8 → fault ≢ run.Memory
not_called fault other e = other (ap status_of e)
