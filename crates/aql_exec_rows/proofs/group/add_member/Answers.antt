use Rattle.std.proofs.Common.{refl, subst}
use Rattle.std.specs.Prelude.{map, option_to_list}
use Rattle.std.proofs.lemmas.List.{get_or_default}
use Rattle.aql_value.specs.View.{datum_of, datums_in}
use Rattle.aql_exec_rows.specs.GroupStates.{Takes}
use Rattle.aql_exec_rows.specs.declared.group.Group.{Group}
use Rattle.aql_exec_rows.proofs.group.add_member.Goals as goal

pub returns-clause-added : goal.returns-clause-added
returns-clause-added c = (
  c.add.new.self,
  refl,
  subst (λ (g : Group). Takes (datums_in c.args.arguments.now)
      (map datum_of (option_to_list c.args.taken)) g c.add.new.self)
      (get_or_default c.args.groups.now c.args.at c.index-groups-at.result c.add.new.self c.requires.place)
      c.in_ok-add.ensures,
)
