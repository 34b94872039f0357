-- One variable, and two that may be missing.
use Rattle.std.proofs.Common.{[], ◌∷◌, ◌++◌}
use Rattle.std.specs.Prelude.{option_map, option_to_list}
use Rattle.aql_tree.specs.declared.syntax.Ident.TheVariants.{Num}
use Rattle.aql_plan_check.proofs.SameVariables.{adds_on}
use Rattle.aql_plan_check.proofs.rows.add_traversed.Goals as goal

pub returns : goal.returns
returns c =
    let ys = option_to_list (option_map (λ x. Num x) c.args.edge) in
    let zs = option_to_list (option_map (λ x. Num x) c.args.path) in
    adds_on c.args.rows.now.keys c.add_number.new.rows.keys c.add_maybe-2.new.rows.keys
    (Num c.args.vertex ∷ []) (ys ++ zs) c.in_ok-add_number.ensures
    (adds_on c.add_number.new.rows.keys c.add_maybe.new.rows.keys c.add_maybe-2.new.rows.keys ys zs
    c.in_ok-add_maybe.ensures c.in_ok-add_maybe-2.ensures)
