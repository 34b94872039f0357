use Rattle.std.proofs.Common.{◌≡◌, ◌++◌, map, drop}
use Rattle.aql_tree.specs.View.{member_part, members}
use Rattle.aql_rewrite.specs.Children.{member_children}
use Rattle.aql_rewrite.specs.ExprView.{lent}
use Rattle.aql_rewrite.proofs.looking.add_fields.Given as goal

abbrev pub invariant-loop-field : goal.invariant-loop-field
invariant-loop-field l =
    map lent l.to.items ++ member_children (members (map member_part (drop l.field-index l.fields)))
    ≡ map lent l.initial.to.items ++ member_children (members (map member_part l.fields))
