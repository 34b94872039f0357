-- Where a rule applies in a plan, and what the plan becomes. A rule says, by what is used above a part and by
-- the part, what may stand in the part's place, and which variable goes by another in the nodes above. Places
-- go by the lines of the plan's text (Execution and performance: the execution plan): the input first, then
-- the node, then the body of a subquery. A pattern of several nodes stands at the uppermost of them.
use Rattle.std.specs.Prelude.{◌≡◌, Bool, true, false, Option, Some, None}
use Rattle.aql_tree.specs.declared.syntax.Ident.{Ident}
use Rattle.aql_tree.specs.declared.syntax.Ident.TheVariants.{Num}
use Rattle.aql_meaning.specs.Uses.{Uses}
use Rattle.aql_plan.specs.Plan.{Plan, Singleton, Over, Node, Subquery}
use Rattle.aql_plan.specs.Needs.{result_uses, under}
use Rattle.aql_plan.specs.Above.{input_inside}
use Rattle.aql_plan.specs.Renaming.{renamed_node}
use Rattle.aql_rewrite.specs.declared.swap.Rename.{Rename}

-- the node with one variable for another, where one goes by another
abbrev pub renamed_by : Option Rename → Node → Node
renamed_by None n = n
renamed_by (Some r) n = renamed_node (Num r.from) (Num r.to) n

-- what a rule makes of a part
abbrev pub Rewriting : Type 1
Rewriting = Uses → Plan → Plan → Option Rename → Type 0

module _ (R : Rewriting) where
  -- it does not apply at the top node
  abbrev pub Stays : Uses → Plan → Type 0
  Stays us p = (q : Plan) (r : Option Rename) → R us p q r → ⊥

  abbrev mutual
    -- it applies nowhere in a plan, where `inside` tells whether this stands in a fragment
    pub NoPlace : Bool → Uses → Plan → Type 0
    NoPlace inside us Singleton = Unit {0}
    NoPlace inside us (Over b n) =
        NoPlace (input_inside n inside) (under n us) b × NoPlaceAt inside (Stays us (Over b n)) n

    -- neither at a node nor in its body; a node in a fragment is no place
    pub NoPlaceAt : Bool → Type 0 → Node → Type 0
    NoPlaceAt true stays n = Unit {0}
    NoPlaceAt false stays (Subquery x s) = stays × NoPlace false result_uses s
    NoPlaceAt false stays n = stays

  -- one application at the first place; a renaming goes on through the nodes above, up to the top of the
  -- plan or of the body
  pub data First : Bool → Uses → Plan → Plan → Option Rename → Type 0 where
    below : {inside : Bool} {us : Uses} {b c : Plan} {n : Node} {r : Option Rename}
        → First (input_inside n inside) (under n us) b c r
        → First inside us (Over b n) (Over c (renamed_by r n)) r
    here : {us : Uses} {b q : Plan} {n : Node} {r : Option Rename}
        → NoPlace (input_inside n false) (under n us) b → R us (Over b n) q r → First false us (Over b n) q r
    body : {us : Uses} {b s t : Plan} {x : Ident} {r : Option Rename}
        → NoPlace false (under (Subquery x s) us) b → Stays us (Over b (Subquery x s))
        → First false result_uses s t r → First false us (Over b (Subquery x s)) (Over b (Subquery x t)) None

  -- one application to a whole plan, or none where there is no place
  abbrev pub AppliesOnce : Plan → Plan → Bool → Type 0
  AppliesOnce p q true = (r : Option Rename) × First false result_uses p q r
  AppliesOnce p q false = NoPlace false result_uses p × (q ≡ p)

  -- applications one after another, each at the first place, and whether there was one
  pub data Reaches : Plan → Plan → Bool → Type 0 where
    at_once : {p : Plan} → Reaches p p false
    next : {p q s : Plan} {changed : Bool} {r : Option Rename}
        → Reaches p q changed → First false result_uses q s r → Reaches p s true

  -- applications at the first place until there is none
  pub record IsPass (p q : Plan) (changed : Bool) : Type 0 where
    pub reached : Reaches p q changed
    pub ended : NoPlace false result_uses q
