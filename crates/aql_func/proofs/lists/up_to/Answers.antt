use Rattle.std.proofs.Common.{rules, ◌≡◌, length, take, ap, ◌∙◌}
use Rattle.std.specs.Int.{w64}
use mir.Val.{to_z, of_z}
use Rattle.aql_value.specs.View.{datums_in}
use Rattle.aql_func.specs.inner.Prefixes.{prefix_length}
use Rattle.aql_func.specs.laws.Parts.{kept_up_to}
use Rattle.aql_func.proofs.lists.up_to.Goals as goal

pub returns : goal.returns
returns c =
    let vs = c.args.values.now in
    let r : to_z w64 (of_z w64 c.args.count) ≡ c.args.count = search rules in
    ap datums_in (c.front.ensures ∙ ap (λ n. take n vs) (c.count_up_to.ensures
    ∙ ap (prefix_length (length vs)) r)) ∙ kept_up_to c.args.count vs
