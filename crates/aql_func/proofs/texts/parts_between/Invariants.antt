use Rattle.std.proofs.Common.{◌≡◌, ◌++◌, length, map}
use denote.Text.{Utf8}
use denote.Shadow.{shadow}
use Rattle.aql_value.specs.Datum.{text}
use Rattle.aql_func.specs.Texts.{parts_of}
use Rattle.aql_func.proofs.texts.parts_between.Given as goal

abbrev pub invariant-loop-before : goal.invariant-loop-before
invariant-loop-before l = shadow (Utf8 l.rest)
    × (l.out ++ map (λ t. text t) (parts_of l.separator l.rest)
    ≡ map (λ t. text t) (parts_of l.separator l.s))

abbrev pub decreases-loop-before : goal.decreases-loop-before
decreases-loop-before l = length l.rest
