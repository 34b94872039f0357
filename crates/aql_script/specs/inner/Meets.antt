-- What a call gives whose answer is determined but for want of memory.
use Rattle.std.specs.Prelude.{◌≡◌, ◌⊎◌, Result, Ok, Err, MatchResult}
use Rattle.aql_script.specs.declared.faults.LoadFault.{LoadFault}
use Rattle.aql_script.specs.declared.faults.LoadFault.TheVariants.{Memory}
use Rattle.aql_script.specs.Lines.{LineEffect, fault}

abbrev pub Meets : {T : Type 0} → Result T LoadFault → Result T LoadFault → Type 0
Meets result wanted = MatchResult result (λ t. wanted ≡ Ok t) (λ e. (e ≡ Memory) ⊎ (wanted ≡ Err e))

-- memory ran out, or this is the fault of the line
abbrev pub Refuses : LoadFault → LineEffect → Type 0
Refuses e wanted = (e ≡ Memory) ⊎ (wanted ≡ fault e)
