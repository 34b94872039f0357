-- What stands below a node that hands on no row, with documents read whole where only what is kept of them is
-- looked at; for private clauses.
use Rattle.std.specs.Prelude.{ℕ, List, Bool, true, false, ◌&&◌, Option, Some, None, option_map}
use Rattle.std.specs.List.{list_all}
use Rattle.aql_tree.specs.declared.syntax.Ident.{Ident}
use Rattle.aql_meaning.specs.Uses.{Uses}
use Rattle.aql_plan.specs.Needs.{own_uses}
use Rattle.aql_plan.specs.Plan.{Reading, Plan, Singleton, Over, Node, EnumerateCollection, Calculation, Filter, Sort, Limit, Collect, Return}
use Rattle.aql_engine.specs.OperatorsOf.{is_covered, reading_for, passed_looks}

-- a node that hands on no row of its input
abbrev pub is_last : Node → Bool
is_last (Collect xs es gs i s) = true
is_last (Return distinct e) = true
is_last n = false

-- a node that passes the rows of its input on
abbrev pub is_passing : Node → Bool
is_passing (Calculation x e) = true
is_passing (Filter e) = true
is_passing (Sort directions es n) = true
is_passing (Limit offset count) = true
is_passing n = false

-- the variable of a scan that cuts its documents, and what it keeps of them
abbrev pub node_cuts : Node → Option (Ident × List (List ℕ))
node_cuts (EnumerateCollection x) = option_map (λ names. (x.var, names)) x.attrs
node_cuts n = None

-- the same of the scan below nodes that pass its rows on
abbrev pub cuts : Plan → Option (Ident × List (List ℕ))
cuts Singleton = None
cuts (Over b (Calculation x e)) = cuts b
cuts (Over b (Filter e)) = cuts b
cuts (Over b (Sort directions es n)) = cuts b
cuts (Over b (Limit offset count)) = cuts b
cuts (Over b n) = node_cuts n

-- what these nodes use of a variable is kept
abbrev pub passes_covered : Ident → List (List ℕ) → Plan → Bool
passes_covered x names Singleton = true
passes_covered x names (Over b (Calculation y e)) =
    list_all (is_covered x (Some names)) (own_uses (Calculation y e)) && passes_covered x names b
passes_covered x names (Over b (Filter e)) =
    list_all (is_covered x (Some names)) (own_uses (Filter e)) && passes_covered x names b
passes_covered x names (Over b (Sort directions es n)) =
    list_all (is_covered x (Some names)) (own_uses (Sort directions es n)) && passes_covered x names b
passes_covered x names (Over b (Limit offset count)) =
    list_all (is_covered x (Some names)) (own_uses (Limit offset count)) && passes_covered x names b
passes_covered x names (Over b n) = true

-- a scan of whole documents, below nodes that pass its rows on
abbrev pub whole : Reading → Reading
whole x = record { var = x.var; coll = x.coll; filter = x.filter; attrs = None; shard = x.shard }

abbrev pub node_uncut : Node → Node
node_uncut (EnumerateCollection x) = EnumerateCollection (whole x)
node_uncut n = n

abbrev pub uncut : Plan → Plan
uncut Singleton = Singleton
uncut (Over b (Calculation x e)) = Over (uncut b) (Calculation x e)
uncut (Over b (Filter e)) = Over (uncut b) (Filter e)
uncut (Over b (Sort directions es n)) = Over (uncut b) (Sort directions es n)
uncut (Over b (Limit offset count)) = Over (uncut b) (Limit offset count)
uncut (Over b n) = Over b (node_uncut n)

-- a plan of which this is looked at, and no row goes further
abbrev pub below_looks : Option Uses → Plan → Plan
below_looks (Some us) (Over b (EnumerateCollection x)) = Over b (EnumerateCollection (reading_for us x))
below_looks (Some us) (Over b n) = Over (below_looks (passed_looks n us) b) n
below_looks looks p = p
