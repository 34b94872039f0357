-- What the program's lists of uses above a part stand for.
use Rattle.std.specs.Prelude.{List, [], ◌∷◌, ◌++◌}
use Rattle.aql_meaning.specs.Uses.{Uses}
use Rattle.aql_plan.specs.declared.uses.Use.{Use}
use Rattle.aql_plan.specs.Used.{uses_tree}

-- a list for each node, the nearest node's last: its uses come first
abbrev pub above_uses : List (List Use) → Uses
above_uses [] = []
above_uses (own ∷ nearer) = above_uses nearer ++ uses_tree own
