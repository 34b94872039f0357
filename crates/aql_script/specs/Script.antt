-- The script that bytes are, or its first fault: at most 67,108,864 bytes, and then the lines in order. And
-- what a call that loads a script from a source says of the source.
use Rattle.std.specs.Prelude.{◌≡◌, ◌≤◌, ℕ, List, [], Result, Ok, Err, Option, length, nat_le, if◌then◌else◌}
use Rattle.std.specs.Io.KnownBytes.{IsAtEnd}
use Rattle.aql_io.specs.Bytes.{HandsOut}
use Rattle.aql_io.specs.Causes.{Rose}
use Rattle.aql_script.specs.Pieces.{pieces}
use Rattle.aql_script.specs.Lines.{read}
use Rattle.aql_script.specs.LineEffects.{line_effect}
use Rattle.aql_script.specs.declared.loading.Loaded.{Loaded}
use Rattle.aql_script.specs.declared.faults.LoadFault.{LoadFault}
use Rattle.aql_script.specs.declared.faults.LoadFault.TheVariants.{Read, Limit, Line, Memory}
use Rattle.aql_script.specs.declared.faults.LimitKind.TheVariants.{ScriptBytes}

abbrev pub lines : List ℕ → Result Loaded LoadFault
lines bytes = read line_effect 0 [] (pieces 10 bytes)

unfoldable pub script : List ℕ → Result Loaded LoadFault
script bytes = if nat_le (length bytes) 67108864 then lines bytes else Err (Limit ScriptBytes)

-- the bytes are this script
abbrev pub IsScript : List ℕ → Loaded → Type 0
IsScript bytes loaded = script bytes ≡ Ok loaded

-- this is the first fault of the bytes
abbrev pub HasFault : List ℕ → LoadFault → Type 0
HasFault bytes e = script bytes ≡ Err e

-- a fault that bytes can have: want of memory and failed reads come to a call alone
abbrev pub IsOfBytes : LoadFault → Type 0
IsOfBytes (Line n kind) = Unit {0}
IsOfBytes (Limit kind) = Unit {0}
IsOfBytes Read = ⊥
IsOfBytes Memory = ⊥

-- A script was read to the end of the source.
abbrev pub Loads : Loaded → Option (List ℕ) → Option (List ℕ) → Type 0
Loads loaded before after = HandsOut before after (λ bytes. IsScript bytes loaded) × IsAtEnd after

-- A read failed before more than a script's bytes were handed out.
abbrev pub ReadFails : Option (List ℕ) → Option (List ℕ) → ℕ → ℕ → Type 0
ReadFails before after faults faults' =
    HandsOut before after (λ bytes. length bytes ≤ 67108864) × Rose faults faults'

-- The bytes that were handed out have this fault first; they are more than a script's, or all that were left.
abbrev pub IsFaulty : LoadFault → Option (List ℕ) → Option (List ℕ) → Type 0
IsFaulty e before after =
    HandsOut before after (λ bytes. HasFault bytes e × (length bytes ≤ 67108864 → IsAtEnd after))

-- Why nothing was loaded. Want of memory is free.
abbrev pub Hinders : LoadFault → Option (List ℕ) → Option (List ℕ) → ℕ → ℕ → Type 0
Hinders Memory before after faults faults' = Unit {0}
Hinders Read before after faults faults' = ReadFails before after faults faults'
Hinders (Limit kind) before after faults faults' = IsFaulty (Limit kind) before after
Hinders (Line n kind) before after faults faults' = IsFaulty (Line n kind) before after
