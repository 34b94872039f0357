-- Where the program stands, as the definition of faults sees it, and what it answers there.
use Rattle.std.specs.Prelude.{◌≡◌, ◌⊎◌, true, Option, Some, None, Result, Ok, Err}
use Rattle.aql_scope.specs.Numbering.{idents}
use Rattle.aql_scope.specs.declared.faults.ScopeFault.{ScopeFault}
use Rattle.aql_scope.specs.declared.faults.ScopeFault.TheVariants.{Memory}
use Rattle.aql_scope.specs.declared.names.At.{At}
use Rattle.aql_scope.specs.declared.names.Scope.{Scope}
use Rattle.aql_scope.specs.Faults.{Context}

abbrev pub context_of : At → Context
context_of a = record {
  own = idents a.scope.now.own;
  outer = idents a.scope.now.outer;
  held = a.catalog.now;
  lifts = a.lifts;
}

-- among the names of a scope
abbrev pub context_within : At → Scope → Context
context_within a s =
    record { own = idents s.own; outer = idents s.outer; held = a.catalog.now; lifts = true }

-- a function that looks for the first fault of a part answers that there is none, or gives it
abbrev pub Judges : Result Unit ScopeFault → Option ScopeFault → Type 0
Judges (Ok u) first = first ≡ None
Judges (Err fault) first = (fault ≡ Memory) ⊎ (first ≡ Some fault)
