-- Where the first of two faults is none, neither is there.
use Rattle.std.proofs.Common.{◌≡◌, Bool, true, false, refl}
use Rattle.std.specs.Prelude.{Option, Some, None}
use Rattle.aql_scope.specs.declared.faults.ScopeFault.{ScopeFault}
use Rattle.aql_scope.specs.Faults.{first, unless}

pub first_left : (f g : Option ScopeFault) → first f g ≡ None → f ≡ None
first_left None g e = refl
first_left (Some fault) g e = cc

pub first_right : (f g : Option ScopeFault) → first f g ≡ None → g ≡ None
first_right None g e = e
first_right (Some fault) g e = cc

pub unless_none : (b : Bool) (fault : ScopeFault) → unless b fault ≡ None → b ≡ true
unless_none true fault e = refl
unless_none false fault e = cc
