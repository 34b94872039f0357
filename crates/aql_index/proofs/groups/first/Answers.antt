use Rattle.std.proofs.Common.{sym}
use Rattle.std.proofs.lemmas.List.{take-map}
use Rattle.aql_value.specs.View.{datum_of}
use Rattle.aql_index.proofs.groups.first.Goals as goal

pub returns-then-width-values : goal.returns-then-width-values
returns-then-width-values c =
    sym (take-map datum_of c.args.width c.args.values.now)
