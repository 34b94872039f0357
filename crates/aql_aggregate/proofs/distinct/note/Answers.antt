use Rattle.std.proofs.Common.{true, ap, ◌∙◌}
use Rattle.aql_value.specs.View.{datums_in}
use Rattle.aql_func.specs.Lists.{add}
use Rattle.aql_func.specs.laws.Firsts.{keys_noted}
use Rattle.aql_aggregate.proofs.distinct.note.Goals as goal

pub returns : goal.returns
returns c =
    let ks = c.args.seen.now.keys in
    ap datums_in c.in_ok-insert.ensures.keys ∙ keys_noted ks c.in_ok-copy.field-0
    ∙ ap (add true (datums_in ks)) c.in_ok-copy.ensures
