-- What the settings that words give have in common, and their bounds.
use Rattle.std.proofs.Common.{◌≡◌, ◌∙◌, ◌≤◌, ℕ, List, Bool, true, Option, None, Some, sym, ap, arith}
use Rattle.std.specs.Prelude.{⊤, MatchOption}
use Rattle.clap.specs.Words.{Text}
use Rattle.aql_options.specs.Words.{IsServers, IsBatch, IsFlag, IsGenerated, Words}
use Rattle.aql_options.specs.declared.settings.Settings.{Settings}

servers_within : (value : Option Text) (n : ℕ) → IsServers value n → n ≤ 16
servers_within None n e = omega (arith, e)
servers_within (Some text) n h = h.3

batch_within : (value : Option Text) (n : ℕ) → IsBatch value n → (1 ≤ n) × (n ≤ 10000)
batch_within None n e = (omega (arith, e), omega (arith, e))
batch_within (Some text) n h = (h.2, h.3)

generate_within : (value : Option Text) (n : Option ℕ) → IsGenerated value n
    → MatchOption n ⊤ (λ n. (1 ≤ n) × (n ≤ 100000))
generate_within None None e = tt
generate_within None (Some n) e = absurd (cc)
generate_within (Some text) None h = absurd h
generate_within (Some text) (Some n) h = (h.2, h.3)

one_generate : (value : Option Text) (n m : Option ℕ) → IsGenerated value n → IsGenerated value m → n ≡ m
one_generate None n m a b = a ∙ sym b
one_generate (Some text) None m a b = absurd a
one_generate (Some text) (Some n) None a b = absurd b
one_generate (Some text) (Some n) (Some m) a b = ap Some (sym a.1 ∙ b.1)

one_flag : (value : Option Text) (a b : Bool) → IsFlag value a → IsFlag value b → a ≡ true → b ≡ true
one_flag value a b h k on = k.1 (h.0 on)

module _ (words : List Text) where
  pub servers_bound : (s : Settings) → Words words s → s.servers ≤ 16
  servers_bound s w = servers_within _ s.servers w.values.servers

  pub batch_bounds : (s : Settings) → Words words s → (1 ≤ s.batch) × (s.batch ≤ 10000)
  batch_bounds s w = batch_within _ s.batch w.values.batch

  pub generate_bounds : (s : Settings) → Words words s
      → MatchOption s.generate ⊤ (λ n. (1 ≤ n) × (n ≤ 100000))
  generate_bounds s w = generate_within _ s.generate w.values.generate

  pub same_generate : (s t : Settings) → Words words s → Words words t → s.generate ≡ t.generate
  same_generate s t w v = one_generate _ s.generate t.generate w.values.generate v.values.generate

  pub same_explain : (s t : Settings) → Words words s → Words words t → s.explain ≡ true → t.explain ≡ true
  same_explain s t w v = one_flag _ s.explain t.explain w.values.explain v.values.explain
