use Rattle.std.proofs.Common.{◌∷◌, ◌++◌, [], List, map, take, ap, sym, ◌∙◌}
use Rattle.std.specs.Prelude.{flat_map}
use Rattle.std.proofs.lemmas.List.{map-append, take_all}
use Rattle.aql_value.specs.Datum.{Datum}
use Rattle.aql_value.specs.View.{datum_of, datums_in}
use Rattle.aql_value.specs.Contents.{elements}
use Rattle.aql_func.proofs.Steps.{done}
use Rattle.aql_func.proofs.Sieves.{gathered_push}
use Rattle.aql_func.proofs.sets.gather.Goals as goal

pub loop-list-preserved : goal.loop-list-preserved
loop-list-preserved c =
    let x = c.list-item.result in
    let before = datums_in (take c.loop-list.list-index c.args.lists.now) in
    let all = λ (ls : List (List Datum)). flat_map (λ (ts : List Datum). ts) ls in
    c.in_ok-append.ensures ∙ ap (λ l. l ++ datums_in c.elements.result.now) c.loop-list.invariant
    ∙ ap (λ l. all (map elements before) ++ l) c.elements.ensures
    ∙ sym (ap (λ l. all (map elements l))
    (done c.args.lists.now c.loop-list.list-index x c.loop-list-test.true c.list-item.is)
    ∙ ap all (map-append elements before (datum_of x ∷ []))
    ∙ gathered_push (map elements before) (elements (datum_of x)))

pub returns : goal.returns
returns c =
    c.loop-list.invariant ∙ ap (λ ls. flat_map (λ (ts : List Datum). ts) (map elements (datums_in ls)))
    (take_all c.loop-list.list-index c.args.lists.now c.loop-list-test.false)
