use Rattle.std.proofs.Common.{◌≡◌, map, drop}
use Rattle.aql_tree.specs.Build.{default_options}
use Rattle.aql_tree.specs.View.{members, member_part}
use Rattle.aql_meaning.specs.Options.{set_all}
use Rattle.aql_scope.proofs.lift_options.chosen_by.Given as goal

abbrev pub invariant-loop-setting : goal.invariant-loop-setting
invariant-loop-setting l =
    set_all (record { edges = l.chosen.edges; vertices = l.chosen.vertices; bfs = l.chosen.bfs })
    (members (map member_part (drop l.setting-index l.settings)))
    ≡ set_all default_options (members (map member_part l.settings))
