-- What the search asks of nodes: what each uses of its input by itself, whether anything of its input's rows
-- is left in its own, and the node over another input with a variable renamed.
use Rattle.std.specs.Prelude.{Bool, true, false, Option}
use Rattle.aql_meaning.specs.Uses.{Uses}
use Rattle.aql_plan.specs.Plan.{Plan, Singleton, Over, Node, Subquery, Collect, Return}
use Rattle.aql_plan.specs.Needs.{own_uses, needs, result_uses}
use Rattle.aql_rewrite.specs.declared.swap.Rename.{Rename}
use Rattle.aql_rewrite.specs.Places.{renamed_by}

-- what a node uses of its input, whatever is used of its rows
abbrev pub uses_alone : Node → Uses
uses_alone (Subquery x s) = needs s result_uses
uses_alone n = own_uses n

-- the rows of a Collect and of a Return are new ones
abbrev pub gives_new_rows : Node → Bool
gives_new_rows (Collect xs es gs i s) = true
gives_new_rows (Return distinct e) = true
gives_new_rows n = false

-- the rows of a Collect have the start row's variables again
abbrev pub is_collect : Node → Bool
is_collect (Collect xs es gs i s) = true
is_collect n = false

-- the node at the top of a plan over another input
abbrev pub over_renamed : Option Rename → Plan → Plan → Plan
over_renamed r Singleton b = Singleton
over_renamed r (Over c n) b = Over b (renamed_by r n)
