-- What a call gives whose answer is determined but for want of memory.
use Rattle.std.specs.Prelude.{◌≡◌, ◌⊎◌, ℕ, List, Result, Ok, Err, MatchResult}
use Rattle.std.specs.Borrow.{Bor}
use Rattle.aql_doc.specs.declared.faults.DocFault.{DocFault}
use Rattle.aql_doc.specs.declared.faults.DocFault.TheVariants.{Memory}

-- memory ran out, or this is the fault
abbrev pub Refuses : {T : Type 0} → DocFault → Result T DocFault → Type 0
Refuses e wanted = (e ≡ Memory) ⊎ (wanted ≡ Err e)

abbrev pub MeetsText : Result (Bor (List ℕ)) DocFault → Result (List ℕ) DocFault → Type 0
MeetsText result wanted = MatchResult result (λ s. wanted ≡ Ok s.now) (λ e. Refuses e wanted)
