-- What the rules see of a plan's nodes, and the changes that they make there.
use Rattle.std.specs.Prelude.{ℕ, List, Bool, Option, Some, None, option_map}
use Rattle.aql_tree.specs.declared.syntax.Ident.{Ident}
use Rattle.aql_tree.specs.Tree.{ExprTree, ExprTrees, MaybeExpr, no_expr}
use Rattle.aql_meaning.specs.Documents.{Last}
use Rattle.aql_plan.specs.Plan.{Reading, Plan, Singleton, Over, Node, EnumerateCollection, Index, Filter}
use Rattle.aql_rules_index.specs.Choice.{Candidate}

-- how an EnumerateCollection without a filter reads that keeps all attributes
abbrev pub where_bare : MaybeExpr → Option (List (List ℕ)) → Reading → Option Reading
where_bare no_expr None x = Some x
where_bare filter attrs x = None

abbrev pub bare_reading : Node → Option Reading
bare_reading (EnumerateCollection x) = where_bare x.filter x.attrs x
bare_reading n = None

abbrev pub var_and_coll : Option Reading → Option (Ident × ℕ)
var_and_coll o = option_map (λ (x : Reading). (x.var, x.coll)) o

-- an EnumerateCollection becomes an Index; at a node, at the top of a plan, and at that of its input
abbrev pub indexed : Candidate → Option Bool → Node → Node
indexed c ordered (EnumerateCollection x) = Index x c.index c.bounds.equal c.bounds.last ordered
indexed c ordered n = n

abbrev pub plan_indexed : Candidate → Option Bool → Plan → Plan
plan_indexed c ordered Singleton = Singleton
plan_indexed c ordered (Over b n) = Over b (indexed c ordered n)

abbrev pub input_indexed : Candidate → Option Bool → Plan → Plan
input_indexed c ordered Singleton = Singleton
input_indexed c ordered (Over b n) = Over (plan_indexed c ordered b) n

-- what the rules see of an Index that keeps all attributes
pub record IndexRead : Type 0 where
  pub var : Ident
  pub coll : ℕ
  pub index : ℕ
  pub equal : ExprTrees
  pub last : Last ExprTree
  pub ordered : Option Bool

abbrev pub where_whole : Option (List (List ℕ)) → IndexRead → Option IndexRead
where_whole None r = Some r
where_whole (Some names) r = None

abbrev pub whole_index : Node → Option IndexRead
whole_index (Index x index equal last ordered) = where_whole x.attrs (record {
  var = x.var;
  coll = x.coll;
  index = index;
  equal = equal;
  last = last;
  ordered = ordered;
})
whole_index n = None

-- another condition in a Filter
abbrev pub with_cond : ExprTree → Node → Node
with_cond e (Filter c) = Filter e
with_cond e n = n

abbrev pub plan_with_cond : ExprTree → Plan → Plan
plan_with_cond e Singleton = Singleton
plan_with_cond e (Over b n) = Over b (with_cond e n)
