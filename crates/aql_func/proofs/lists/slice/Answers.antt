use Rattle.std.proofs.Common.{rules, ◌≡◌, length, drop, ap, sym, ◌∙◌}
use Rattle.std.specs.Int.{w64}
use mir.Val.{to_z, of_z}
use Rattle.aql_value.specs.View.{datum_of, datums_in}
use Rattle.aql_value.specs.Convert.{to_number}
use Rattle.aql_func.specs.Lists.{index_from, slice, up_to}
use Rattle.aql_func.specs.inner.Optional.{optional_datum}
use Rattle.aql_func.specs.laws.Parts.{trees_dropped, trees_counted}
use Rattle.aql_func.proofs.lists.slice.Goals as goal

pub returns-in-None : goal.returns-in-None
returns-in-None c =
    let vs = c.args.values.now in
    let r : to_z w64 (of_z w64 c.args.start) ≡ c.args.start = search rules in
    ap datums_in (c.rest_from-rest.ensures ∙ ap (λ n. drop n vs) (c.index_from.ensures
    ∙ ap (index_from (length vs)) r))
    ∙ trees_dropped (index_from (length vs) c.args.start) vs
    ∙ ap (λ n. drop (index_from n c.args.start) (datums_in vs)) (sym (trees_counted vs))
    ∙ ap (λ o. slice c.args.start (optional_datum o) (datums_in vs)) (sym c.in-None.is)

pub returns-in-Some : goal.returns-in-Some
returns-in-Some c =
    let vs = c.args.values.now in
    let r : to_z w64 (of_z w64 c.args.start) ≡ c.args.start = search rules in
    let rest = ap datums_in (c.rest_from-rest.ensures ∙ ap (λ n. drop n vs) (c.index_from.ensures
    ∙ ap (index_from (length vs)) r))
    ∙ trees_dropped (index_from (length vs) c.args.start) vs
    ∙ ap (λ n. drop (index_from n c.args.start) (datums_in vs)) (sym (trees_counted vs)) in
    let q : to_z w64 (of_z w64 c.to_number.result) ≡ c.to_number.result = search rules in
    c.up_to.ensures ∙ ap (λ k. up_to k (datums_in c.rest_from-rest.result.now)) (q ∙ c.to_number.ensures)
    ∙ ap (up_to (to_number (datum_of c.in-Some.count.now))) rest
    ∙ ap (λ o. slice c.args.start (optional_datum o) (datums_in vs)) (sym c.in-Some.is)
