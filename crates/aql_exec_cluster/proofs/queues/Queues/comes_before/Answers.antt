use Rattle.std.proofs.Common.{◌∙◌, sym, ap, ap₂}
use Rattle.std.specs.Ordering.{is_lt}
use Rattle.aql_value.specs.View.{datums_in}
use Rattle.aql_plan.specs.View.{directions, key_trees}
use Rattle.aql_meaning.specs.Clauses.{keys_cmp}
use Rattle.aql_exec_cluster.proofs.Sorted.{left_read, keyed_read, keys_tell}
use Rattle.aql_exec_cluster.proofs.queues.Queues.comes_before.Goals as goal

pub returns : goal.returns
returns c x y xs ys ex ey =
    let queues = c.args.self.now.list.items in
    let ds = directions c.args.keys.now in
    let es = key_trees c.args.keys.now in
    let p = c.index-left.result.now in
    let q = c.index-right.result.now in
    let left = left_read queues c.args.at p c.requires.at c.index-left.ensures in
    let right = left_read queues c.args.other q c.requires.other c.index-right.ensures in
    c.is_lt.ensures
    ∙ ap is_lt (c.compare.ensures ∙ ap₂ (λ a b. keys_cmp ds (datums_in a) (datums_in b)) c.deref.ensures.value
    c.deref-2.ensures.value)
    ∙ keys_tell ds es p q x y xs ys (keyed_read es queues c.args.at p c.requires.keyed c.requires.at
    c.index-left.ensures)
    (keyed_read es queues c.args.other q c.requires.keyed c.requires.other c.index-right.ensures)
    (sym left ∙ ex) (sym right ∙ ey)
