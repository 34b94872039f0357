-- Which words of the command line give which settings: the words are those of one simple command, without
-- positional arguments, in the definition of the crate clap; and the value of each option is in its set. An
-- option that is left out has its default. The first word is the program's name.
use Rattle.std.specs.Prelude.{◌≡◌, ◌≤◌, ◌↔◌, ◌⊎◌, ℕ, List, [], ◌∷◌, map, codes, Bool, true, false, nat_eq, Option, None, Some}
use Rattle.std.specs.List.{slice_split, Contains}
use Rattle.std.specs.Str.Parse.{IsNumeral, digits_value}
use Rattle.clap.specs.Words.{App, Rule, Text, new_app, new_rule, with_rule, first_of, matches_of}
use Rattle.clap.specs.Simple.{Shape, on_top}
use Rattle.clap.specs.Faults.{fault_of}
use Rattle.clap.specs.declared.builder.action.ArgAction.TheVariants.{Set, SetTrue}
use Rattle.aql_plan.specs.declared.rules.RuleName.{RuleName}
use Rattle.aql_plan.specs.RuleNames.{rule_text}
use Rattle.aql_plan.specs.declared.rule_sets.Rules.{Rules}
use Rattle.aql_plan.specs.RuleSets.{Has}
use Rattle.aql_options.specs.declared.settings.Settings.{Settings}

-- ---- the command

-- an option that has a value, and a flag that has none
abbrev pub valued : Text → Rule
valued name = record (new_rule name) { long = Some name; action = Some Set }

abbrev pub flag : Text → Rule
flag name = record (new_rule name) { long = Some name; action = Some SetTrue }

-- the program, without the flags and the subcommand of clap's own
abbrev pub program : App
program = on_top (λ (s : Shape). record s {
  disable_help_flag = true;
  disable_help_subcommand = true;
  disable_version_flag = true;
}) (new_app (codes "aql_shell"))

-- an application with more options
abbrev pub with_rules : App → List Rule → App
with_rules app [] = app
with_rules app (r ∷ rs) = with_rules (with_rule app r) rs

abbrev pub command : App
command = with_rules program (valued (codes "servers") ∷ valued (codes "batch")
    ∷ valued (codes "schedule") ∷ valued (codes "rules") ∷ flag (codes "explain") ∷ flag (codes "trace")
    ∷ flag (codes "stats") ∷ valued (codes "generate") ∷ [])

-- ---- values

-- one or more decimal digits, which stand for this number
abbrev pub IsNumber : ℕ → ℕ → Text → ℕ → Type 0
IsNumber least most text n =
    IsNumeral 10 text × (digits_value 10 text ≡ n) × (least ≤ n) × (n ≤ most)

abbrev pub IsServers : Option Text → ℕ → Type 0
IsServers None n = n ≡ 0
IsServers (Some text) n = IsNumber 0 16 text n

abbrev pub IsBatch : Option Text → ℕ → Type 0
IsBatch None n = n ≡ 1000
IsBatch (Some text) n = IsNumber 1 10000 text n

abbrev pub IsSchedule : Option Text → ℕ → Type 0
IsSchedule None n = n ≡ 0
IsSchedule (Some text) n = IsNumber 0 18446744073709551615 text n

abbrev pub HasAll : Rules → Type 0
HasAll rules = (r : RuleName) → Has rules r

abbrev pub HasNone : Rules → Type 0
HasNone rules = (r : RuleName) → Has rules r → ⊥

-- the names of rules, with a comma between any two of them
abbrev pub AreNames : Text → List RuleName → Type 0
AreNames text names = slice_split (λ b. nat_eq b 44) text ≡ map rule_text names

-- the rules of a list of names
abbrev pub HasNamed : Text → Rules → Type 0
HasNamed text rules = (names : List RuleName) × AreNames text names
    × ((r : RuleName) → Has rules r ↔ Contains names r)

abbrev pub AreRules : Option Text → Rules → Type 0
AreRules None rules = HasAll rules
AreRules (Some text) rules = ((text ≡ codes "all") × HasAll rules)
    ⊎ (((text ≡ codes "none") × HasNone rules) ⊎ HasNamed text rules)

-- a flag is there or not
abbrev pub IsFlag : Option Text → Bool → Type 0
IsFlag value on = (on ≡ true) ↔ (value ≡ Some (codes "true"))

abbrev pub IsGenerated : Option Text → Option ℕ → Type 0
IsGenerated None n = n ≡ None
IsGenerated (Some text) None = ⊥
IsGenerated (Some text) (Some n) = IsNumber 1 100000 text n

-- ---- settings

-- the settings that the values of the options give, by the options' names
pub record AreSettings (value_of : Text → Option Text) (settings : Settings) : Type 0 where
  pub servers : IsServers (value_of (codes "servers")) settings.servers
  pub batch : IsBatch (value_of (codes "batch")) settings.batch
  pub schedule : IsSchedule (value_of (codes "schedule")) settings.schedule
  pub rules : AreRules (value_of (codes "rules")) settings.rules
  pub explain : IsFlag (value_of (codes "explain")) settings.explain
  pub trace : IsFlag (value_of (codes "trace")) settings.trace
  pub stats : IsFlag (value_of (codes "stats")) settings.stats
  pub generate : IsGenerated (value_of (codes "generate")) settings.generate

-- the words give these settings
pub record Words (words : List Text) (settings : Settings) : Type 0 where
  pub taken : fault_of command words ≡ []
  pub values : AreSettings (λ name. first_of name (matches_of command words)) settings
