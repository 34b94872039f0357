use Rattle.std.proofs.Common.{◌≡◌, ◌∙◌, length, map, ap, arith, Some}
use Rattle.std.proofs.lemmas.List.{length-map}
use Rattle.aql_script.specs.Names.{all_attributes}
use Rattle.aql_script.proofs.NamesOn.{few_names, many_names, same_names}
use Rattle.aql_script.proofs.names.names_of.Goals as goal

pub returns-then-parts-gt-ATTRIBUTES : goal.returns-then-parts-gt-ATTRIBUTES
returns-then-parts-gt-ATTRIBUTES c =
    let size = length-map c.args.parts.now (λ p. p.now) in
    many_names (map (λ p. p.now) c.args.parts.now) (omega (arith, size, c.if-parts-gt-ATTRIBUTES.true))

pub invariant_of-result : goal.invariant_of-result
invariant_of-result c =
    let parts = map (λ p. p.now) c.args.parts.now in
    let is : Some c.in-Some.names ≡ all_attributes parts = rw c.in-Some.is at c.in_ok-named.ensures in
    let size = length-map c.args.parts.now (λ p. p.now) in
    let same = ap length (same_names c.in-Some.names parts is) in (
      omega (arith, size, same, c.requires),
      omega (arith, size, same, c.if-parts-gt-ATTRIBUTES.false),
    )

pub returns-in-Some : goal.returns-in-Some
returns-in-Some c =
    let parts = map (λ p. p.now) c.args.parts.now in
    let size = length-map c.args.parts.now (λ p. p.now) in
    let is : Some c.in-Some.names ≡ all_attributes parts = rw c.in-Some.is at c.in_ok-named.ensures in
    is ∙ few_names parts (omega (arith, size, c.if-parts-gt-ATTRIBUTES.false))

pub returns-in-None : goal.returns-in-None
returns-in-None c =
    let parts = map (λ p. p.now) c.args.parts.now in
    let size = length-map c.args.parts.now (λ p. p.now) in
    (rw c.in-None.is at c.in_ok-named.ensures)
    ∙ few_names parts (omega (arith, size, c.if-parts-gt-ATTRIBUTES.false))
