use Rattle.std.proofs.Common.{rules, ◌≡◌, ◌∙◌, ap, sym}
use mathlib.Core.Bool.{not}
use Rattle.aql_engine.specs.Run.{rows_in}
use Rattle.aql_exec_cluster.proofs.Scattered.{whole_rest}
use Rattle.aql_exec_cluster.proofs.scatter.Filled.rest.Goals as goal

pub returns-then-is_to_all : goal.returns-then-is_to_all
returns-then-is_to_all c =
    let filled = c.args.self.now in
    let same : c.in_ok-clone.field-0.value ≡ filled.blocks.value = search rules in
    ap rows_in same
    ∙ sym (whole_rest filled.blocks.value filled.places.items c.args.port c.index.result.now c.args.routing.now
    c.args.target c.requires.port c.index.ensures (c.is_none.ensures ∙ ap not c.if-is_none.true)
    (sym c.is_to_all.ensures ∙ c.if-is_to_all.true))
