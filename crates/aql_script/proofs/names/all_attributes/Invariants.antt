use Rattle.std.proofs.Common.{◌≡◌, ◌++◌, drop, map}
use Rattle.std.specs.List.{list_all}
use Rattle.aql_script.specs.Names.{is_attribute}
use Rattle.aql_script.proofs.names.all_attributes.Given as goal

-- the names so far, and the rest
abbrev pub invariant-loop-part : goal.invariant-loop-part
invariant-loop-part l = record {
  names : l.names ++ map (λ p. p.now) (drop l.part-index l.parts) ≡ map (λ p. p.now) l.parts;
  tests : list_all is_attribute (map (λ p. p.now) (drop l.part-index l.parts))
      ≡ list_all is_attribute (map (λ p. p.now) l.parts);
}
