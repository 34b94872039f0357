-- The text of a plan (Execution and performance: the execution plan): its nodes in the order of execution,
-- then the rules that changed it, and its cost.
use Rattle.std.specs.Prelude.{ℕ, ◌+◌, ◌*◌, List, [], ◌∷◌, ◌++◌, map, flat_map, replicate, codes}
use Rattle.std.specs.Fmt.{decimal}
use Rattle.aql_plan.specs.declared.facts.Facts.{Facts}
use Rattle.aql_plan.specs.declared.rules.RuleName.{RuleName}
use Rattle.aql_plan.specs.RuleNames.{rule_text}
use Rattle.aql_plan.specs.Plan.{Plan, Singleton, Over, Node, Subquery}
use Rattle.aql_show.specs.Lists.{listed}
use Rattle.aql_show.specs.Nodes.{node_text}

-- a node's text and its level
abbrev pub Line : Type 0
Line = ℕ × List ℕ

-- the first number, and then one more for each line; two spaces per level stand before it
abbrev pub numbered : ℕ → List Line → List (List ℕ)
numbered n [] = []
numbered n (line ∷ more) =
    (replicate (2 * line.0) 32 ++ decimal n ++ codes " " ++ line.1) ∷ numbered (n + 1) more

-- each line with its line feed
abbrev pub ended : List (List ℕ) → List ℕ
ended lines = flat_map (λ line. line ++ 10 ∷ []) lines

abbrev pub rules_line : List RuleName → List ℕ
rules_line [] = codes "rules none"
rules_line (r ∷ rs) = listed (codes "rules ") (codes ", ") (map rule_text (r ∷ rs))

-- `names` has the names of the variables
module _ (names : List (List ℕ)) (facts : Facts) where
  abbrev mutual
    -- the nodes from the start on; those of a body stand after their Subquery, one level deeper
    pub lines : ℕ → Plan → List Line
    lines level Singleton = (level, codes "Singleton") ∷ []
    lines level (Over below n) =
        lines level below ++ (level, node_text names facts n) ∷ body_lines (level + 1) n

    pub body_lines : ℕ → Node → List Line
    body_lines level (Subquery x body) = lines level body
    body_lines level n = []

  abbrev pub plan_text : Plan → List RuleName → ℕ → List ℕ
  plan_text p applied cost = ended (codes "plan" ∷ numbered 1 (lines 1 p)
      ++ rules_line applied ∷ (codes "cost " ++ decimal cost) ∷ [])
