use Rattle.std.proofs.Common.{true, not, ap, ◌∙◌}
use Rattle.aql_value.specs.Contents.{is_in}
use Rattle.aql_value.specs.View.{datums_in}
use Rattle.aql_func.specs.Lists.{add}
use Rattle.aql_func.specs.laws.Firsts.{any_tree, keys_noted}
use Rattle.aql_func.proofs.lists.note.Goals as goal

pub returns-clause-new : goal.returns-clause-new
returns-clause-new c =
    let ks = c.args.seen.now.keys in
    c.in_ok-insert.ensures.added ∙ ap not (any_tree c.in_ok-copy.field-0 ks
    ∙ ap (is_in (datums_in ks)) c.in_ok-copy.ensures)

pub returns-clause-keys : goal.returns-clause-keys
returns-clause-keys c =
    let ks = c.args.seen.now.keys in
    ap datums_in c.in_ok-insert.ensures.keys ∙ keys_noted ks c.in_ok-copy.field-0
    ∙ ap (add true (datums_in ks)) c.in_ok-copy.ensures
