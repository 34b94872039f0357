use Rattle.std.proofs.Common.{◌≡◌, ◌<◌, ◌^◌, ℕ, List, length, arith, subst, ap, sym, ◌∙◌, rules}
use Rattle.std.proofs.lemmas.List.{length-map}
use Rattle.aql_value.specs.View.{datum_of, datums_in}
use Rattle.aql_value.specs.declared.values.Value.{Value}
use Rattle.aql_index.specs.declared.entries.Entry.{Entry}
use Rattle.aql_index.specs.Entries.{is_before, IsIndex}
use Rattle.aql_index.specs.IndexOrder.{index_entries, sort}
use Rattle.aql_index.proofs.Built.{index_made}
use Rattle.aql_index.proofs.entries.sorted_entries.Goals as goal

made : (names : List (List ℕ)) (documents : List Value) (entries : List Entry) → length documents < 2 ^ 32
    → entries ≡ index_entries names (datums_in documents) → IsIndex (length names) entries
made names documents entries few is =
    let count : length (datums_in documents) < 2 ^ 32 = omega (arith, length-map documents datum_of, few) in
    subst (λ (es : List Entry). IsIndex (length names) es) (sym is) (index_made names (datums_in documents) count)

pub returns-clause-entries : goal.returns-clause-entries
returns-clause-entries c = c.in_ok-sort_entries.ensures ∙ ap (sort is_before) c.in_ok-entries.ensures

pub returns-clause-index : goal.returns-clause-index
returns-clause-index c = made c.args.names.now c.args.documents.now _ c.requires
    (c.in_ok-sort_entries.ensures ∙ ap (sort is_before) c.in_ok-entries.ensures)

pub returns-in-Some-clause-index : goal.returns-in-Some-clause-index
returns-in-Some-clause-index c =
    made c.args.names.now c.args.documents.now _ c.requires (search rules)
