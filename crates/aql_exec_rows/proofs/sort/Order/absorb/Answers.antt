use Rattle.std.proofs.Common.{◌≡◌, ◌∙◌, ◌++◌, map, ap, ap₂}
use Rattle.aql_block.specs.Tables.{rows_of}
use Rattle.aql_plan.specs.View.{key_trees}
use Rattle.aql_exec_rows.specs.Keys.{with_keys, keyed_in}
use Rattle.aql_exec_rows.proofs.Joining.{joined_have, on_ok}
use Rattle.aql_exec_rows.proofs.sort.Order.absorb.Goals as goal

pub returns-clause-alike : goal.returns-clause-alike
returns-clause-alike c = on_ok c.add_rows.result c.add_rows.ensures (λ rows had now.
    let me = c.args.self.now in
    let join = c.in_ok-join.ensures in
    let alike = join.alike now in
    let after : keyed_in c.add_rows.new.held.items
    ≡ keyed_in me.rows.items ++ map (with_keys (key_trees me.keys)) (rows_of c.replace-block.result) =
    rows ∙ ap₂ (λ es held. keyed_in held ++ map (with_keys es) (rows_of c.replace-block.result))
    (ap key_trees (c.as_slice.ensures ∙ join.keys)) (ap (λ rows. rows.items) join.rows) in
    joined_have (key_trees me.keys) me.uniform me.registers.items me.rows.items
    c.join.new.self.registers.items (keyed_in c.add_rows.new.held.items) c.replace-block.result
    alike.0 alike.1 had after)
