-- A script of so many bytes is its lines, and with more it exceeds its limit.
use Rattle.std.proofs.Common.{◌≡◌, ◌≤◌, ◌<◌, ℕ, List, true, false, Err, refl, length, nat_le, arith}
use Rattle.aql_script.specs.Script.{lines, script}
use Rattle.aql_script.specs.declared.faults.LoadFault.TheVariants.{Limit}
use Rattle.aql_script.specs.declared.faults.LimitKind.TheVariants.{ScriptBytes}

pub script_within : (bytes : List ℕ) → length bytes ≤ 67108864 → script bytes ≡ lines bytes
unfolding script
script_within bytes h = let few : nat_le (length bytes) 67108864 ≡ true = grind (arith, h) in rw few refl

pub script_beyond : (bytes : List ℕ) → 67108864 < length bytes → script bytes ≡ Err (Limit ScriptBytes)
unfolding script
script_beyond bytes h = let many : nat_le (length bytes) 67108864 ≡ false = grind (arith, h) in rw many refl
