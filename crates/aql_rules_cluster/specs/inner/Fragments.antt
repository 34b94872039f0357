-- Fragments as the rules that move a node into one see them: below a Gather over a link.
use Rattle.std.specs.Prelude.{◌≡◌, Bool, true, false, ◌&&◌}
use Rattle.aql_plan.specs.Plan.{Plan, Singleton, Over, Node, Remote, Gather, top}

abbrev pub is_gather : Node → Bool
is_gather (Gather directions keys) = true
is_gather n = false

abbrev pub is_link : Node → Bool
is_link Remote = true
is_link n = false

-- a Gather over a link
abbrev pub is_gathered : Plan → Bool
is_gathered Singleton = false
is_gathered (Over b n) = is_gather n && is_link (top b)

-- q is p with its top node below the next two
abbrev pub IsMovedBelow : Plan → Plan → Type 0
IsMovedBelow p q = (f : Plan) (l m n : Node) → p ≡ Over (Over (Over f l) m) n → q ≡ Over (Over (Over f n) l) m
