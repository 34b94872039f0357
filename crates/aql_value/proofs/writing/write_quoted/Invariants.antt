use Rattle.std.proofs.Common.{◌≡◌, ◌++◌, ◌∷◌, [], drop}
use Rattle.json.specs.Print.{quoted, escape}
use Rattle.aql_value.specs.inner.Writes.{Extends}
use Rattle.aql_value.proofs.writing.write_quoted.Given as goal

abbrev pub invariant-loop-b : goal.invariant-loop-b
invariant-loop-b l =
    (l.out.items ++ (escape (drop l.b-index l.b-items) ++ 34 ∷ []) ≡ l.fn.out.items ++ quoted l.text)
    × Extends l.fn.out.items l.out.items
