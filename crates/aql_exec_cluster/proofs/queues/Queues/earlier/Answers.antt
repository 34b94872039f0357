use Rattle.std.proofs.Common.{◌∙◌, sym}
use Rattle.aql_plan.specs.View.{directions, key_trees}
use Rattle.aql_exec_cluster.specs.Queues.{left_at}
use Rattle.aql_exec_cluster.proofs.Sorted.{some_row, none_more, first_one, now_first, still_first}
use Rattle.aql_exec_cluster.proofs.queues.Queues.earlier.Goals as goal

pub returns-then-is_empty_at : goal.returns-then-is_empty_at
returns-then-is_empty_at c =
    let keys = c.args.keys.now in
    none_more (directions keys) (key_trees keys) c.args.self.now.list.items c.args.other c.args.first
    (c.is_empty_at.ensures.yes c.if-is_empty_at.true) c.requires.first

pub returns-in_default : goal.returns-in_default
returns-in_default c =
    let keys = c.args.keys.now in
    let queues = c.args.self.now.list.items in
    let some = some_row (left_at queues c.args.other) (c.is_empty_at.ensures.not_so c.if-is_empty_at.false) in
    first_one (directions keys) (key_trees keys) queues c.args.other some.0 some.1 c.requires.other some.2
    (rw c.in_default.is at c.requires.first)

pub comes_before-requires-clause-other : goal.comes_before-requires-clause-other
comes_before-requires-clause-other c = (rw c.in-Some.is at c.requires.first).within

pub returns-then-comes_before : goal.returns-then-comes_before
returns-then-comes_before c =
    let keys = c.args.keys.now in
    let queues = c.args.self.now.list.items in
    let some = some_row (left_at queues c.args.other) (c.is_empty_at.ensures.not_so c.if-is_empty_at.false) in
    let first = rw c.in-Some.is at c.requires.first in
    now_first (directions keys) (key_trees keys) queues c.args.other c.in-Some.best some.0 some.1
    c.requires.other first some.2
    (sym (c.comes_before.ensures some.0 first.row some.1 first.rows some.2 first.here) ∙
    c.if-comes_before.true)

pub returns : goal.returns
returns c =
    let keys = c.args.keys.now in
    let queues = c.args.self.now.list.items in
    let some = some_row (left_at queues c.args.other) (c.is_empty_at.ensures.not_so c.if-is_empty_at.false) in
    let first = rw c.in-Some.is at c.requires.first in
    still_first (directions keys) (key_trees keys) queues c.args.other c.in-Some.best some.0 some.1 first
    some.2
    (sym (c.comes_before.ensures some.0 first.row some.1 first.rows some.2 first.here) ∙
    c.if-comes_before.false)
