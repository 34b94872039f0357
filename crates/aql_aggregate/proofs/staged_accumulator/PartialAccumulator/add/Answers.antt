use Rattle.std.proofs.Common.{[], ◌∷◌, refl}
use Rattle.aql_value.specs.View.{datum_of}
use Rattle.aql_func.specs.Aggregates.{min, max, sorted_unique}
use Rattle.aql_aggregate.specs.laws.Alike.{least_more, greatest_more, unique_more}
use Rattle.aql_aggregate.proofs.staged_accumulator.PartialAccumulator.add.Goals as goal

pub returns-in_ok-add-in-Min-clause-keeps : goal.returns-in_ok-add-in-Min-clause-keeps
returns-in_ok-add-in-Min-clause-keeps c ts h =
    let new = datum_of c.args.value.now ∷ [] in
    least_more c.in-Min.kept c.add-in-Min.new.self ts new new
    (λ us k. c.in_ok-add-in-Min.ensures min us k) refl (rw c.in-Min.is at h)

pub returns-in_ok-add-in-Max-clause-keeps : goal.returns-in_ok-add-in-Max-clause-keeps
returns-in_ok-add-in-Max-clause-keeps c ts h =
    let new = datum_of c.args.value.now ∷ [] in
    greatest_more c.in-Max.kept c.add-in-Max.new.self ts new new
    (λ us k. c.in_ok-add-in-Max.ensures max us k) refl (rw c.in-Max.is at h)

pub returns-in_ok-add-in-SortedUnique-clause-keeps : goal.returns-in_ok-add-in-SortedUnique-clause-keeps
returns-in_ok-add-in-SortedUnique-clause-keeps c ts h =
    let new = datum_of c.args.value.now ∷ [] in
    unique_more c.in-SortedUnique.kept c.add-in-SortedUnique.new.self ts new new
    (λ us k. c.in_ok-add-in-SortedUnique.ensures sorted_unique us k) (λ x. refl)
    (rw c.in-SortedUnique.is at h)

pub returns-in_ok-add-in-CountDistinct-clause-keeps : goal.returns-in_ok-add-in-CountDistinct-clause-keeps
returns-in_ok-add-in-CountDistinct-clause-keeps c ts h =
    let new = datum_of c.args.value.now ∷ [] in
    unique_more c.in-CountDistinct.kept c.add-in-CountDistinct.new.self ts new new
    (λ us k. c.in_ok-add-in-CountDistinct.ensures sorted_unique us k) (λ x. refl)
    (rw c.in-CountDistinct.is at h)
