-- The lines of a script, read in order. A line ends with a line feed, and a carriage return just before it is
-- dropped; the last line may lack the line feed. Every byte after the line `%query` is the query's text.
use Rattle.std.specs.Prelude.{ℕ, List, [], ◌∷◌, Result, Ok, Err, if◌then◌else◌, ◌+◌}
use Rattle.std.specs.List.{join_with_byte}
use Rattle.std.specs.Str.{is_utf8}
use Rattle.std.specs.Str.Lines.{strip_carriage_return}
use Rattle.aql_doc.specs.Held.{Held}
use Rattle.aql_script.specs.declared.loading.Loaded.{Loaded}
use Rattle.aql_script.specs.declared.faults.LoadFault.{LoadFault}
use Rattle.aql_script.specs.declared.faults.LoadFault.TheVariants.{Line}
use Rattle.aql_script.specs.declared.faults.LineKind.TheVariants.{NoQuery, QueryNotUtf8}

-- what comes of a line: what is held after it, the end of the lines, or a fault
pub data LineEffect : Type 0 where
  next : List Held → LineEffect
  query : LineEffect
  fault : LoadFault → LineEffect

-- the script whose query stands after line n
abbrev pub with_query : ℕ → List Held → List ℕ → Result Loaded LoadFault
with_query n held text =
    if is_utf8 text then Ok (record { catalog = held; query = text }) else Err (Line n QueryNotUtf8)

-- what comes of line n, where the lines after it go on from what is held then
abbrev pub after : ℕ → LineEffect → List Held → (List Held → Result Loaded LoadFault) → List ℕ
    → Result Loaded LoadFault
after n (next more) held go text = go more
after n query held go text = with_query n held text
after n (fault e) held go text = Err e

module _ (step : ℕ → List Held → List ℕ → LineEffect) where
  -- the last line, which no line feed ends; no byte is no line
  abbrev pub last : ℕ → List Held → List ℕ → Result Loaded LoadFault
  last n held [] = Err (Line n NoQuery)
  last n held (b ∷ l) =
      after (n + 1) (step (n + 1) held (b ∷ l)) held (λ more. Err (Line (n + 1) NoQuery)) []

  -- what the lines after line n are, where this is held
  abbrev pub read : ℕ → List Held → List (List ℕ) → Result Loaded LoadFault
  read n held [] = Err (Line n NoQuery)
  read n held (l ∷ []) = last n held l
  read n held (l ∷ m ∷ ls) =
      after (n + 1) (step (n + 1) held (strip_carriage_return l)) held (λ more. read (n + 1) more (m ∷ ls))
      (join_with_byte 10 (m ∷ ls))
