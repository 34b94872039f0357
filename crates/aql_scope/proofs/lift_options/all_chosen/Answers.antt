use Rattle.std.proofs.Common.{rules, arith, map}
use Rattle.std.proofs.lemmas.Grind.{common_steps}
use Rattle.aql_tree.specs.View.{member_part, options_part}
use Rattle.aql_scope.proofs.Words.{options_chosen}
use Rattle.aql_scope.proofs.lift_options.all_chosen.Goals as goal

pub returns : goal.returns
returns c =
    let o = c.args.options.now in
    let e = options_chosen (map member_part o.settings) (options_part o).1 in
    first_of (search rules, grind (arith, common_steps))
