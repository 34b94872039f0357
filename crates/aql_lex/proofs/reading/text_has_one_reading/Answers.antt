use Rattle.std.proofs.Common.{length, refl}
use Rattle.aql_lex.specs.laws.Readings.{one_reading}
use Rattle.aql_lex.proofs.reading.text_has_one_reading.Goals as goal

pub returns : goal.returns
returns c text tokens others end stop r s =
    one_reading (length text) text text tokens others end stop refl r s
