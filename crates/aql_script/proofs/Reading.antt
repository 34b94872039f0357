-- What was read from a source is a script, or has a fault.
use Rattle.std.proofs.Common.{sym, ◌≡◌, ◌≤◌, ◌<◌, ℕ, List, Option, Ok, Err, subst, ◌∙◌, inl, inr, length, arith}
use Rattle.std.specs.Prelude.{Result, ⊤, IfOk, IfErr, OnErr}
use Rattle.std.specs.Io.KnownBytes.{Consumes, IsAtEnd}
use Rattle.aql_io.specs.Bytes.{HandsOut}
use Rattle.aql_script.specs.inner.Meets.{Meets}
use Rattle.aql_script.specs.Script.{lines, Loads, Hinders, IsFaulty}
use Rattle.aql_script.specs.laws.OfBytes.{fault_of_lines}
use Rattle.aql_script.specs.laws.Scripts.{script_within, script_beyond}
use Rattle.aql_script.specs.declared.loading.Loaded.{Loaded}
use Rattle.aql_script.specs.declared.faults.LoadFault.{LoadFault}
use Rattle.aql_script.specs.declared.faults.LoadFault.TheVariants.{Read, Limit, Line, Memory}
use Rattle.aql_script.specs.declared.faults.LimitKind.TheVariants.{ScriptBytes}

module _ (bytes : List ℕ) (before after : Option (List ℕ)) where
  pub loads : length bytes ≤ 67108864 → Consumes before after bytes → IsAtEnd after
      → (r : Result Loaded LoadFault)
      → Meets r (lines bytes) → IfOk r (λ l. Loads l before after)
  loads h c a (Ok l) m = (record { taken = bytes; consumed = c; holds = script_within bytes h ∙ m }, a)
  loads h c a (Err e) m = tt

  faulty : length bytes ≤ 67108864 → Consumes before after bytes → IsAtEnd after → (e : LoadFault)
      → lines bytes ≡ Err e → IsFaulty e before after
  faulty h c a e m = record { taken = bytes; consumed = c; holds = (script_within bytes h ∙ m, λ _. a) }

  hinder : (faults faults' : ℕ) → length bytes ≤ 67108864 → Consumes before after bytes → IsAtEnd after
      → (e : LoadFault) → lines bytes ≡ Err e → Hinders e before after faults faults'
  hinder faults faults' h c a Read m = absurd (fault_of_lines bytes Read m)
  hinder faults faults' h c a (Limit kind) m = faulty h c a (Limit kind) m
  hinder faults faults' h c a (Line n kind) m = faulty h c a (Line n kind) m
  hinder faults faults' h c a Memory m = absurd (fault_of_lines bytes Memory m)

  pub hinders : (faults faults' : ℕ) → length bytes ≤ 67108864 → Consumes before after bytes → IsAtEnd after
      → (r : Result Loaded LoadFault) → Meets r (lines bytes)
      → IfErr r (λ e. Hinders e before after faults faults')
  hinders faults faults' h c a (Ok l) m = tt
  hinders faults faults' h c a (Err e) (inl m) = subst (λ x. Hinders x before after faults faults') (sym m) tt
  hinders faults faults' h c a (Err e) (inr m) = hinder faults faults' h c a e m

  pub front : Consumes before after bytes → (r : Result Loaded LoadFault)
      → OnErr r (HandsOut before after (λ _. ⊤))
  front c (Ok l) = tt
  front c (Err e) = record { taken = bytes; consumed = c; holds = tt }

pub too_long : (before after : Option (List ℕ)) → HandsOut before after (λ taken. 67108864 < length taken)
    → IsFaulty (Limit ScriptBytes) before after
too_long before after h = record {
  taken = h.taken;
  consumed = h.consumed;
  holds = (script_beyond h.taken h.holds, λ few. absurd (omega (arith, few, h.holds)));
}
