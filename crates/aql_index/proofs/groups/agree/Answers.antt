use Rattle.std.proofs.Common.{◌∙◌, ap, ap₂, List}
use Rattle.std.specs.Ordering.{is_eq}
use Rattle.aql_value.specs.Datum.{Datum}
use Rattle.aql_value.specs.Compare.{compare}
use Rattle.aql_value.specs.Contents.{list}
use Rattle.aql_index.proofs.groups.agree.Goals as goal

pub returns : goal.returns
returns c = c.is_eq.ensures ∙ ap is_eq (c.compare.ensures
    ∙ ap₂ (λ (a b : List Datum). compare (list a) (list b)) c.first.ensures c.first-2.ensures)
