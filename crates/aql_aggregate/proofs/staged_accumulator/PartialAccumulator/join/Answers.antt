use Rattle.aql_value.specs.Contents.{elements}
use Rattle.aql_value.specs.View.{datum_of}
use Rattle.aql_func.specs.Aggregates.{min, max, sorted_unique}
use Rattle.aql_aggregate.specs.laws.Alike.{least_more, greatest_more, unique_more, least_of_state, greatest_of_state, members_of_state}
use Rattle.aql_aggregate.proofs.staged_accumulator.PartialAccumulator.join.Goals as goal

pub returns-in_ok-add_elements-in-Min-clause-keeps : goal.returns-in_ok-add_elements-in-Min-clause-keeps
returns-in_ok-add_elements-in-Min-clause-keeps c ts us h f e =
    let part = datum_of c.args.part.now in
    least_more c.in-Min.kept c.add_elements.new.accumulator ts (elements part) us
    (λ us k. c.in_ok-add_elements-in-Min.ensures min us k)
    (least_of_state part us (rw c.in-Min.is at e)) (rw c.in-Min.is at h)

pub returns-in_ok-add_elements-in-Max-clause-keeps : goal.returns-in_ok-add_elements-in-Max-clause-keeps
returns-in_ok-add_elements-in-Max-clause-keeps c ts us h f e =
    let part = datum_of c.args.part.now in
    greatest_more c.in-Max.kept c.add_elements-in-Max.new.accumulator ts (elements part) us
    (λ us k. c.in_ok-add_elements-in-Max.ensures max us k)
    (greatest_of_state part us (rw c.in-Max.is at e)) (rw c.in-Max.is at h)

pub returns-in_ok-add_elements-in-SortedUnique-clause-keeps : goal.returns-in_ok-add_elements-in-SortedUnique-clause-keeps
returns-in_ok-add_elements-in-SortedUnique-clause-keeps c ts us h f e =
    let part = datum_of c.args.part.now in
    unique_more c.in-SortedUnique.kept c.add_elements-in-SortedUnique.new.accumulator ts (elements part) us
    (λ us k. c.in_ok-add_elements-in-SortedUnique.ensures sorted_unique us k)
    (members_of_state part us (rw c.in-SortedUnique.is at e)) (rw c.in-SortedUnique.is at h)

pub returns-in_ok-add_elements-in-CountDistinct-clause-keeps : goal.returns-in_ok-add_elements-in-CountDistinct-clause-keeps
returns-in_ok-add_elements-in-CountDistinct-clause-keeps c ts us h f e =
    let part = datum_of c.args.part.now in
    unique_more c.in-CountDistinct.kept c.add_elements-in-CountDistinct.new.accumulator ts (elements part) us
    (λ us k. c.in_ok-add_elements-in-CountDistinct.ensures sorted_unique us k)
    (members_of_state part us (rw c.in-CountDistinct.is at e)) (rw c.in-CountDistinct.is at h)
