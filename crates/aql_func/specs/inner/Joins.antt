-- A text put after others, with the separator between where there are others; for private clauses.
use Rattle.std.specs.Prelude.{ℕ, List, ◌++◌, Bool, true, false}

abbrev pub with_part : Bool → List ℕ → List ℕ → List ℕ → List ℕ
with_part false separator s part = s ++ part
with_part true separator s part = (s ++ separator) ++ part
