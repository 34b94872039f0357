-- The members of a key that was not seen, and what the aggregates make of their members.
use Rattle.std.proofs.Common.{◌≡◌, ℕ, suc, List, [], ◌∷◌, length, map, drop, Bool, true, false, cond, ◌||◌, Option, Some, None, refl, sym, ap, ap₂, ◌∙◌, true≢false, arith}
use Rattle.std.specs.Prelude.{option_map, is_some, unwrap_or}
use Rattle.std.specs.Ordering.{is_eq}
use Rattle.std.proofs.lemmas.Cmp.{tied_itself}
use Rattle.std.proofs.Math.Bool.{or-false}
use Rattle.aql_value.specs.Datum.{Datum, null}
use Rattle.aql_value.specs.Contents.{list, same, is_in}
use Rattle.aql_value.specs.laws.Strict.{compare_total}
use Rattle.aql_func.specs.Aggregates.{Aggregate, aggregate_named}
use Rattle.aql_func.specs.laws.Firsts.{in_firsts}
use Rattle.aql_tree.specs.declared.syntax.Let.{Let}
use Rattle.aql_tree.specs.View.{AggregatePart, aggregates, aggregate_part}
use Rattle.aql_meaning.specs.declared.grouping.Stage.{Stage}
use Rattle.aql_meaning.specs.declared.grouping.Stage.TheVariants as stage
use Rattle.aql_meaning.specs.Groups.{GroupedRow}
use Rattle.aql_meaning.specs.Visible.{functions_by}
use Rattle.aql_meaning.specs.Stages.{stage_functions}
use Rattle.aql_aggregate.specs.declared.staged.StagedKind.{StagedKind}
use Rattle.aql_aggregate.specs.Staged.{Staged, staged, made_in, made}
use Rattle.aql_exec_rows.specs.Settings.{criteria_vars, aggregate_trees, in_stage, AreKinds}
use Rattle.aql_exec_rows.specs.GroupStates.{key_of, members_of, keys_seen, functions_of}
use Rattle.aql_exec_rows.specs.declared.grouping.Grouping.{Grouping}

pub same_self : (t : Datum) → same t t ≡ true
same_self t = ap is_eq (tied_itself compare_total t)

pub either_false : (b d : Bool) → b || d ≡ false → (b ≡ false) × (d ≡ false)
either_false true d e = absurd (true≢false e)
either_false false d e = (refl, e)

-- a key that was not seen has no members
no_members : (key : Datum) (rows : List GroupedRow) → is_in (map key_of rows) key ≡ false
    → members_of key rows ≡ []
no_members key [] h = refl
no_members key (row ∷ rows) h =
    let both = either_false (same key (key_of row)) (is_in (map key_of rows) key) h in
    ap (λ b. cond b (row ∷ members_of key rows) (members_of key rows)) both.0 ∙ no_members key rows both.1

pub new_key : (ls : List Let) (rows : List GroupedRow) (key : Datum) → (ls ≡ [] → key ≡ list [])
    → is_in (keys_seen (criteria_vars ls) rows) key ≡ false → members_of key rows ≡ []
new_key [] rows key e h = absurd (true≢false (sym (or-false (same (list []) (list [])) ∙ same_self (list []))
    ∙ sym (ap (λ k. is_in (list [] ∷ []) k) (e refl)) ∙ h))
new_key (l ∷ ls) rows key e h = no_members key rows (sym (in_firsts (map key_of rows) key) ∙ h)

-- ---- the functions of the aggregates

abbrev first_kind : List (Option Staged) → Option Staged
first_kind [] = None
first_kind (o ∷ os) = o

-- the aggregate of a name in a stage makes what the stage's function of the name makes
abbrev made_of : Option Staged → List Datum → Datum
made_of o values = unwrap_or (option_map (λ k. made k values) o) null

abbrev named_in : Stage → List ℕ → List Datum → Datum
named_in s name values = unwrap_or (option_map (λ kind. made_in s kind values) (aggregate_named name)) null

staged_is : (s : Stage) (o : Option Aggregate)
    → (λ (values : List Datum). unwrap_or (option_map (λ kind. made_in s kind values) o) null)
    ≡ made_of (in_stage s o)
staged_is s None = refl
staged_is s (Some kind) = refl

functions_by_kinds : (s : Stage) (gs : List AggregatePart) (kinds : List StagedKind)
    → map (λ k. Some (staged k)) kinds ≡ map (λ g. in_stage s (aggregate_named g.1)) gs
    → functions_by (named_in s) (aggregates gs) ≡ functions_of kinds
functions_by_kinds s [] [] e = refl
functions_by_kinds s [] (k ∷ kinds) e = absurd (true≢false (ap (λ l. is_some (first_kind l)) e))
functions_by_kinds s (g ∷ gs) [] e = absurd (let n : 0 ≡ suc (length
    (map (λ (g : AggregatePart). in_stage s (aggregate_named g.1)) gs)) = ap length e in omega (arith, n))
functions_by_kinds s (g ∷ gs) (k ∷ kinds) e = ap₂ (λ (f : List Datum → Datum) fs. f ∷ fs)
    (staged_is s (aggregate_named g.1) ∙ ap made_of (sym (ap first_kind e)))
    (functions_by_kinds s gs kinds (ap (drop 1) e))

functions_in : (s : Stage) (gs : List AggregatePart)
    → stage_functions s (aggregates gs) ≡ functions_by (named_in s) (aggregates gs)
functions_in stage.Whole gs = refl
functions_in stage.Partial gs = refl
functions_in stage.Final gs = refl

pub functions_are : (g : Grouping) (kinds : List StagedKind) → AreKinds g.stage g.aggregates kinds
    → stage_functions g.stage (aggregate_trees g.aggregates) ≡ functions_of kinds
functions_are g kinds e = functions_in g.stage (map aggregate_part g.aggregates)
    ∙ functions_by_kinds g.stage (map aggregate_part g.aggregates) kinds e
