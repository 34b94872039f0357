use Rattle.std.proofs.Common.{◌≡◌, ◌++◌, ◌∷◌, [], length, option_map, Some, string_bytes, sym, ap, ◌∙◌, append-nil, arith}
use Rattle.std.proofs.lemmas.List.{nil_from_length}
use Rattle.std.specs.Vec.Iter.{into_iter_items}
use Rattle.serde_json.specs.View.{items_view, members_view}
use Rattle.aql_value.specs.View.{datum_of}
use Rattle.aql_value.specs.Fields.{fields_in}
use Rattle.aql_value.specs.FromJson.{items_from_json, members_from_json}
use Rattle.aql_value.proofs.Turns.{Entry, trees_before, fields_before, item_turned, trees_all, fields_all, member_turned, names, keys, values_more, well_from_keys, fields_pushed, names_pushed}
use Rattle.aql_value.proofs.reading.+values.Goals as goal

pub items_of-loop-item-preserved : goal.items_of-loop-item-preserved
items_of-loop-item-preserved t c =
    let left = into_iter_items c.next.new.self in
    let first = c.in-Some.ensures.steps.0 in
    let count = ap length first in (
      c.loop-item.invariant.0
          ∙ ap (λ ws. option_map (trees_before c.loop-item.out) (items_from_json (items_view ws))) first
          ∙ item_turned c.loop-item.out c.in-Some.item left (datum_of c.in_ok-value_of.field-0)
          c.in_ok-value_of.ensures
          ∙ ap (λ o. option_map (trees_before o) (items_from_json (items_view left))) (sym
          c.in_ok-push.ensures.ok),
      omega (arith, c.in-Some.ensures.steps.1, c.loop-item.invariant.1, count),
    )

pub items_of-returns : goal.items_of-returns
items_of-returns t c =
    let left = into_iter_items c.loop-item.item-iterator in
    let none = nil_from_length left (sym c.loop-item.invariant.1 ∙ c.in-None.ensures.steps.0) in
    c.loop-item.invariant.0
    ∙ ap (λ ws. option_map (trees_before c.loop-item.out) (items_from_json (items_view ws))) none
    ∙ ap Some (trees_all c.loop-item.out)

pub members_of-loop-key-preserved : goal.members_of-loop-key-preserved
members_of-loop-key-preserved t c =
    let old = fields_in c.loop-key.entries.items in
    let e : Entry = (c.in-Some.key, c.in-Some.member) in
    let left = c.next.new.self in
    let k = c.in_ok-name.name in
    let v = datum_of c.in_ok-value.value in
    let named : string_bytes e.0 ≡ k = sym c.in_ok-name.ensures in
    let pushed : fields_in c.push.new.self.items ≡ old ++ (k, v) ∷ [] =
    ap fields_in c.in_ok-push.ensures.items
    ∙ fields_pushed c.loop-key.entries.items (record { name = k; value = c.in_ok-value.value }) in
    rw pushed (
      c.loop-key.invariant.0 ∙ ap
          (λ es. option_map (fields_before old) (members_from_json (members_view es))) c.in-Some.ensures.steps
          ∙ member_turned old e left k v named c.in_ok-value.ensures,
      names_pushed old k v e left named ∙ ap (λ es. names old ++ keys es) (sym c.in-Some.ensures.steps)
          ∙ c.loop-key.invariant.1,
      values_more old (k, v) c.loop-key.invariant.2 c.recall_well_formed.ensures c.recall_utf8.ensures,
    )

pub members_of-invariant_of-result : goal.members_of-invariant_of-result
members_of-invariant_of-result t c =
    let fs = fields_in c.loop-key.entries.items in
    let all = sym (append-nil (names fs)) ∙ ap (λ es. names fs ++ keys es) (sym c.in-None.ensures.steps.0)
    ∙ c.loop-key.invariant.1 in
    rw c.in_ok-new.ensures.ok
    (well_from_keys fs c.args.members.entries all c.len.ensures.ordered c.loop-key.invariant.2)

pub members_of-returns : goal.members_of-returns
members_of-returns t c =
    let fs = fields_in c.loop-key.entries.items in
    rw c.in_ok-new.ensures.ok (c.loop-key.invariant.0 ∙ ap
    (λ es. option_map (fields_before fs) (members_from_json (members_view es))) c.in-None.ensures.steps.0
    ∙ ap Some (fields_all fs))
