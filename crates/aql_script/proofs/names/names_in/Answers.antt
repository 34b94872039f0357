use Rattle.std.proofs.Common.{◌≡◌, ◌∙◌, ap, length, map, arith}
use Rattle.std.proofs.lemmas.List.{length-map}
use Rattle.aql_script.specs.Pieces.{pieces}
use Rattle.aql_script.specs.laws.Cuts.{one_piece}
use Rattle.aql_script.proofs.names.names_in.Goals as goal

pub names_of-requires : goal.names_of-requires
names_of-requires c =
    let size = length-map c.as_slice.result.now (λ p. p.now) in
    let is : map (λ p. p.now) c.as_slice.result.now ≡ pieces 44 c.args.word.now =
    ap (map (λ p. p.now)) c.as_slice.ensures.value ∙ c.in_ok-parts.ensures in
    omega (arith, size, ap length is, one_piece 44 c.args.word.now)
