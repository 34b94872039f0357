use Rattle.std.proofs.Common.{◌≡◌, ◌++◌, map, drop}
use Rattle.aql_tree.specs.View.{link_part, links}
use Rattle.aql_rewrite.specs.Children.{link_children}
use Rattle.aql_rewrite.specs.ExprView.{lent}
use Rattle.aql_rewrite.proofs.looking.add_links.Given as goal

abbrev pub invariant-loop-link : goal.invariant-loop-link
invariant-loop-link l =
    map lent l.to.items ++ link_children (links (map link_part (drop l.link-index l.all)))
    ≡ map lent l.initial.to.items ++ link_children (links (map link_part l.all))
