use Rattle.std.proofs.Common.{◌≤◌, arith}
use Rattle.aql_plan.specs.Fits.{exprs_in}
use Rattle.aql_plan.specs.View.{key_trees}
use Rattle.aql_rules_index.proofs.KeysFound.{many_keys}
use Rattle.aql_rules_index.proofs.use_index_for_sort.are_first.Goals as goal

pub returns : goal.returns
returns c =
    let keys = c.args.keys.now in
    let some : 1 ≤ exprs_in (key_trees keys) = omega (arith, many_keys keys, c.if-keys-eq0.false) in (
      (λ t. (some, c.are_attributes.ensures.0 t)),
      (λ h. c.are_attributes.ensures.1 h.1),
    )
