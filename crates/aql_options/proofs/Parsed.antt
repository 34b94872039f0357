-- What clap finds in the words, by its own definition.
use Rattle.std.proofs.Common.{◌≡◌, ◌≢◌, ◌∙◌, List, [], ◌∷◌, map, Bool, true, Option, Ok, Err, refl, sym, ap, subst}
use Rattle.std.specs.Prelude.{Result, IfOk, IsErrOf, MatchResult}
use Rattle.clap.specs.Words.{App, Text, HasMatchesOf, first_of, first_value, found_of, matches_of, rows_of}
use Rattle.clap.specs.Kinds.{HasKind}
use Rattle.clap.specs.Faults.{fault_of, is_simple_and_free}
use Rattle.clap.proofs.WalkLemmas.{first_value-rows}
use Rattle.clap.specs.Simple.{is_simple}
use Rattle.clap.specs.declared.parser.matches.ArgMatches.{ArgMatches}
use Rattle.aql_options.specs.Words.{command, AreSettings, Words}
use Rattle.aql_options.specs.declared.settings.Settings.{Settings}
use Rattle.aql_options.specs.declared.words.WordsFault.{WordsFault}
use Rattle.aql_options.specs.declared.words.WordsFault.TheVariants.{Refused}

pub is_simple_command : is_simple command ≡ true
is_simple_command = refl

pub is_free_command : is_simple_and_free command ≡ true
is_free_command = refl

module _ (app : App) (is : app ≡ command) (texts words : List Text) (same : texts ≡ words) (m : ArgMatches)
    (matches : HasMatchesOf app texts m) where
  rows : rows_of (found_of m) ≡ matches_of command words
  rows = (subst (λ ws. HasMatchesOf command ws m) same (subst (λ a. HasMatchesOf a texts m) is matches)
      is_simple_command).0

  values : (name : Text) → first_value (found_of m) name ≡ first_of name (matches_of command words)
  values name = first_value-rows (found_of m) name ∙ ap (first_of name) rows

  gives : (settings : Settings) → fault_of command words ≡ [] → AreSettings (first_value (found_of m)) settings
      → Words words settings
  gives settings none are = record {
    taken = none;
    values = subst (λ f. AreSettings f settings) (λ i name. values name i) are;
  }

  given : (settings : Settings) → Words words settings → AreSettings (first_value (found_of m)) settings
  given settings w = subst (λ f. AreSettings f settings) (λ i name. sym (values name) i) w.values

  pub taken : (is_simple_and_free app ≡ true → fault_of app texts ≡ []) → (r : Result Settings WordsFault)
      → IfOk r (AreSettings (first_value (found_of m))) → IfOk r (Words words)
  taken none (Ok settings) are =
      gives settings (ap (fault_of command) (sym same) ∙ ap (λ a. fault_of a texts) (sym is)
      ∙ none (subst (λ a. is_simple_and_free a ≡ true) (sym is) is_free_command)) are
  taken none (Err e) are = tt

  pub refused : (r : Result Settings WordsFault) → (IsErrOf r Refused → (settings : Settings)
      → AreSettings (first_value (found_of m)) settings → ⊥) → IsErrOf r Refused → (settings : Settings)
      → Words words settings → ⊥
  refused r h e settings w = h e settings (given settings w)
