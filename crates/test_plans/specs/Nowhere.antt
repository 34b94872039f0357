-- The rule of the tests that applies nowhere: no plan has a place of it.
use Rattle.std.specs.Prelude.{Bool, Option}
use Rattle.aql_meaning.specs.Uses.{Uses}
use Rattle.aql_plan.specs.Plan.{Plan}
use Rattle.aql_rewrite.specs.declared.swap.Rename.{Rename}
use Rattle.aql_rewrite.specs.Places.{Rewriting, First, below, here, body}

abbrev pub Nothing : Rewriting
Nothing us p q r = ⊥

pub no_first : {inside : Bool} {us : Uses} {p q : Plan} {r : Option Rename}
    → First Nothing inside us p q r → ⊥
no_first (below h) = no_first h
no_first (here m h) = h
no_first (body m g h) = no_first h
