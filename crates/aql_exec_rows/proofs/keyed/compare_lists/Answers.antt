use Rattle.std.proofs.Common.{◌∙◌, ap₂, sym}
use Rattle.aql_value.specs.View.{datums_in}
use Rattle.aql_meaning.specs.Clauses.{key_cmp}
use Rattle.aql_exec_rows.proofs.Keyings.{from_place, key_here, differs, equals}
use Rattle.aql_exec_rows.proofs.keyed.compare_lists.Goals as goal

pub returns-then-is_ne : goal.returns-then-is_ne
returns-then-is_ne c =
    let keys = c.args.keys.now in
    let left = datums_in c.args.left.now in
    let right = datums_in c.args.right.now in
    let key = c.index-keys-at.result in
    let here = key_here keys c.loop-at.at key c.index-keys-at.is c.loop-at-test.true in
    let step = from_place _ _ key.descending left right c.loop-at.at here in
    let order = c.compare_key-order.ensures
    ∙ ap₂ (key_cmp key.descending) c.value_at-first.ensures c.value_at-second.ensures in
    sym (c.loop-at.invariant ∙ step
    ∙ differs _ c.compare_key-order.result _ order (sym c.is_ne.ensures ∙ c.if-is_ne.true))

pub loop-at-preserved : goal.loop-at-preserved
loop-at-preserved c =
    let keys = c.args.keys.now in
    let left = datums_in c.args.left.now in
    let right = datums_in c.args.right.now in
    let key = c.index-keys-at.result in
    let here = key_here keys c.loop-at.at key c.index-keys-at.is c.loop-at-test.true in
    let step = from_place _ _ key.descending left right c.loop-at.at here in
    let order = c.compare_key-order.ensures
    ∙ ap₂ (key_cmp key.descending) c.value_at-first.ensures c.value_at-second.ensures in
    c.loop-at.invariant ∙ step
    ∙ equals _ c.compare_key-order.result _ order (sym c.is_ne.ensures ∙ c.if-is_ne.false)
