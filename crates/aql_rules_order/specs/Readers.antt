-- Parts of a plan's top node, and what changes in place: for the contracts of private functions alone.
use Rattle.std.specs.Prelude.{ℕ, ◌≡◌, List, [], Bool, true, false, not, ◌&&◌, Option, Some, None}
use Rattle.aql_tree.specs.declared.syntax.Ident.{Ident}
use Rattle.aql_tree.specs.Tree.{variable}
use Rattle.aql_meaning.specs.Uses.{Uses, is_used}
use Rattle.aql_plan.specs.Plan.{Plan, Singleton, Over, Node, EnumerateList, Calculation, Subquery, Sort, Limit, Collect, Return, top}
use Rattle.aql_rules_order.specs.InlineSubqueries.{is_single, has_collect, started_from}
use Rattle.aql_rules_order.specs.RemoveCollectVariables.{own_vars, used_aggregates, used_into}

-- a Sort without limit
abbrev pub is_open_sort : Node → Bool
is_open_sort (Sort directions es None) = true
is_open_sort n = false

-- a Sort at the top of a plan with a limit
abbrev pub with_limit : ℕ → Plan → Plan
with_limit limit (Over b (Sort directions es n)) = Over b (Sort directions es (Some limit))
with_limit limit p = p

-- how many rows a Limit leaves out, and how many it keeps at most
abbrev pub limit_in : Node → Option (ℕ × ℕ)
limit_in (Limit offset most) = Some (offset, most)
limit_in n = None

-- a FOR over a variable: its own variable and that one
abbrev pub list_variable : Node → Option (Ident × Ident)
list_variable (EnumerateList x (variable t)) = Some (x, t)
list_variable n = None

-- a Return without DISTINCT
abbrev pub is_plain_return : Node → Bool
is_plain_return (Return false e) = true
is_plain_return n = false

abbrev pub is_calculation : Node → Bool
is_calculation (Calculation x e) = true
is_calculation n = false

-- whether a subquery over p, whose nodes are b, may be inlined
abbrev pub may_inline : Uses → Ident → Plan → Plan → Bool
may_inline us s p b = (not (is_used s us) && is_single p) && not (has_collect b)

-- a Return as a Calculation of its value
abbrev pub as_value : Ident → Node → Node
as_value x (Return distinct e) = Calculation x e
as_value x n = n

-- the same at the top of a plan
abbrev pub with_value : Ident → Plan → Plan
with_value x Singleton = Singleton
with_value x (Over b n) = Over b (as_value x n)

-- the input of a plan's top node, and its body; Singleton where it has none
abbrev pub input_of : Plan → Plan
input_of Singleton = Singleton
input_of (Over b n) = b

abbrev pub body_of : Plan → Plan
body_of (Over b (Subquery s body)) = body
body_of p = Singleton

-- a FOR over the values of a subquery as the subquery's nodes, with x for the value that it returned
abbrev pub inline : Ident → Plan → Plan
inline x p = with_value x (started_from (input_of (input_of p)) (body_of (input_of p)))

-- the variables of a Collect beside its groups
abbrev pub vars_beside : Node → List Ident
vars_beside (Collect xs es gs i s) = own_vars gs i
vars_beside n = []

-- a Collect with those of them that are used
abbrev pub used_alone : Uses → Node → Node
used_alone us (Collect xs es gs i s) = Collect xs es (used_aggregates us gs) (used_into us i) s
used_alone us n = n

-- q is what a relation makes of p, and p itself where it makes nothing of it
abbrev pub Becomes : (Plan → Plan → Type 0) → Plan → Plan → Bool → Type 0
Becomes R p q true = R p q
Becomes R p q false = ((s : Plan) → R p s → ⊥) × (q ≡ p)

-- the same of the input of p
abbrev pub InputBecomes : (Plan → Plan → Type 0) → Plan → Plan → Bool → Type 0
InputBecomes R p q true = (b : Plan) × (c : Plan) × (p ≡ Over b (top p)) × (q ≡ Over c (top p)) × R b c
InputBecomes R p q false = ((b s : Plan) → p ≡ Over b (top p) → R b s → ⊥) × (q ≡ p)
