-- Plans without a LIMIT: what runs of them count is exact, but for the documents that a traversal finds.
use Rattle.aql_plan.specs.Plan.{Plan, Singleton, Over, Limit, Subquery}

abbrev pub HasNoLimit : Plan → Type 0
HasNoLimit Singleton = Unit {0}
HasNoLimit (Over b (Limit offset count)) = ⊥
HasNoLimit (Over b (Subquery x body)) = HasNoLimit b × HasNoLimit body
HasNoLimit (Over b n) = HasNoLimit b
