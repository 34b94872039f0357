use Rattle.std.proofs.Common.{◌≡◌, ◌∷◌, [], map, take}
use Rattle.std.specs.Prelude.{encode_utf8_all}
use Rattle.aql_value.specs.Datum.{text}
use Rattle.aql_func.proofs.texts.letters.Given as goal

abbrev pub invariant-loop-c : goal.invariant-loop-c
invariant-loop-c l = l.out ≡ map (λ c. text (encode_utf8_all (c ∷ []))) (take l.c-index l.c-items)
