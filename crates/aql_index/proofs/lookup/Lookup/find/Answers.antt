use Rattle.std.proofs.Common.{◌∙◌, ap}
use Rattle.aql_value.specs.View.{datum_of}
use Rattle.aql_index.specs.Entries.{IndexView}
use Rattle.aql_index.proofs.Spread.{value_in}
use Rattle.aql_index.proofs.lookup.Lookup.find.Goals as goal

pub returns-clause-exactly : goal.returns-clause-exactly
returns-clause-exactly c =
    value_in (datum_of c.args.value.now) _ _ c.span_of.result
    (c.as_slice.ensures.value ∙ ap (λ (s : IndexView). s.entries) c.self.view_is) c.span_of.ensures.exactly
