use Rattle.std.proofs.Common.{◌∙◌, ap}
use Rattle.aql_index.specs.Entries.{IndexView}
use Rattle.aql_index.specs.Bounds.{range_of}
use Rattle.aql_index.proofs.Within.{span_in}
use Rattle.aql_index.proofs.sorted_index.SortedIndex.range.Goals as goal

pub returns-clause-exactly : goal.returns-clause-exactly
returns-clause-exactly c =
    span_in c.tail_of-tail.result (range_of c.args.low.now c.args.high.now) c.tail_of-tail.ensures _ _ _ _
    c.span_of.result
    (c.as_slice.ensures.value ∙ ap (λ (s : IndexView). s.entries) c.self.view_is)
    c.as_slice-2.ensures c.span_of.ensures.exactly
