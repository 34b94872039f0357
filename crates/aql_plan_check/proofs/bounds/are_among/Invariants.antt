use Rattle.std.proofs.Common.{◌≡◌, drop}
use Rattle.std.specs.Prelude.{bytes_eq}
use Rattle.std.specs.List.{list_any, list_all}
use Rattle.aql_plan_check.proofs.bounds.are_among.Given as goal

abbrev pub invariant-loop-name : goal.invariant-loop-name
invariant-loop-name l = list_all (λ a. list_any (bytes_eq a) l.names) (drop l.name-index l.attributes)
    ≡ list_all (λ a. list_any (bytes_eq a) l.names) l.attributes
