-- The tree of definitions that an expression, a clause and a query of the program stands for: each
-- form goes to the form of the same meaning, and the lists to lists in the same order. The functions
-- are folds that the toolchain generates; the steps below say what each form becomes.
use Rattle.std.specs.Prelude.{ℕ, Bool, List, [], ◌∷◌, Option, Some, None, option_map, map}
use Rattle.aql_value.specs.View.{datum_of}
use Rattle.aql_value.specs.declared.operators.BinOp.{BinOp}
use Rattle.aql_tree.specs.Tree.{TraversalShape, TraversalOptions, ExprTree, literal, variable, current, array_literal, object_literal}
use Rattle.aql_tree.specs.Tree.{access, function_call, unary_of, chain, array_comparison, ternary, range_of, subquery}
use Rattle.aql_tree.specs.Tree.{ExprTrees, no_exprs, expr_then, MaybeExpr, no_expr, one_expr, MemberTrees}
use Rattle.aql_tree.specs.Tree.{no_members, named_then, computed_then, StepTrees, no_steps, name_then}
use Rattle.aql_tree.specs.Tree.{at_then, inline_then, LinkTrees, no_links, link_then, ClauseTree, for_each}
use Rattle.aql_tree.specs.Tree.{for_documents, traversal, filter_by, let_be, sort_by, limit, collect}
use Rattle.aql_tree.specs.Tree.{AggregateTrees, no_aggregates, aggregate_then, IntoTree, no_into, into}
use Rattle.aql_tree.specs.Tree.{ClauseTrees, no_clauses, clause_then, QueryTree, query}
use Rattle.aql_tree.specs.declared.syntax.Ident.{Ident}
use Rattle.aql_tree.specs.declared.syntax.Expr.{Expr, fold-Expr}
use Rattle.aql_tree.specs.declared.syntax.Clause.{Clause, fold-Clause}
use Rattle.aql_tree.specs.declared.syntax.Step.{Step, fold-Step}
use Rattle.aql_tree.specs.declared.syntax.Field.{Field, fold-Field}
use Rattle.aql_tree.specs.declared.syntax.Link.{Link, fold-Link}
use Rattle.aql_tree.specs.declared.syntax.Key.{Key, fold-Key}
use Rattle.aql_tree.specs.declared.syntax.Let.{Let, fold-Let}
use Rattle.aql_tree.specs.declared.syntax.AggregateItem.{AggregateItem, fold-AggregateItem}
use Rattle.aql_tree.specs.declared.syntax.Into.{Into, fold-Into}
use Rattle.aql_tree.specs.declared.syntax.Collect.{Collect, fold-Collect}
use Rattle.aql_tree.specs.declared.syntax.Options.{Options, fold-Options}
use Rattle.aql_tree.specs.declared.syntax.Traversal.{Traversal, fold-Traversal}
use Rattle.aql_tree.specs.declared.syntax.Query.{Query, fold-Query}
use Rattle.aql_tree.specs.declared.syntax.Clause.TheOpen.{Clause-F, Expr-F, Field-F, Step-F}
use Rattle.aql_tree.specs.declared.syntax.Clause.TheOpen.{AggregateItem-F, Collect-F, Into-F, Key-F, Let-F}
use Rattle.aql_tree.specs.declared.syntax.Clause.TheOpen.{Link-F, Options-F, Query-F, Traversal-F}

-- ---- the parts that repeat, and lists of them

abbrev pub trees : List ExprTree → ExprTrees
trees [] = no_exprs
trees (t ∷ ts) = expr_then t (trees ts)

abbrev pub maybe : Option ExprTree → MaybeExpr
maybe None = no_expr
maybe (Some t) = one_expr t

-- a member of an object literal
pub data MemberPart : Type 0 where
  named : List ℕ → ExprTree → MemberPart
  computed : ExprTree → ExprTree → MemberPart

abbrev pub members : List MemberPart → MemberTrees
members [] = no_members
members (named n e ∷ ms) = named_then n e (members ms)
members (computed n e ∷ ms) = computed_then n e (members ms)

-- a step of an access
pub data StepPart : Type 0 where
  name : List ℕ → StepPart
  at : ExprTree → StepPart
  inline : Option ExprTree → Option ExprTree → StepPart

abbrev pub steps : List StepPart → StepTrees
steps [] = no_steps
steps (name n ∷ ss) = name_then n (steps ss)
steps (at e ∷ ss) = at_then e (steps ss)
steps (inline f p ∷ ss) = inline_then (maybe f) (maybe p) (steps ss)

-- an operator with its right side
abbrev pub LinkPart : Type 0
LinkPart = BinOp × ExprTree

abbrev pub links : List LinkPart → LinkTrees
links [] = no_links
links (l ∷ ls) = link_then l.0 l.1 (links ls)

-- a key of SORT, and whether it is descending
abbrev pub KeyPart : Type 0
KeyPart = ExprTree × Bool

abbrev pub sort : List KeyPart → ClauseTree
sort ks = sort_by (map (λ k. k.1) ks) (trees (map (λ k. k.0) ks))

-- a variable and what it takes
abbrev pub LetPart : Type 0
LetPart = Ident × ExprTree

-- a variable, a function's name and its argument
abbrev pub AggregatePart : Type 0
AggregatePart = Ident × List ℕ × Option ExprTree

abbrev pub aggregates : List AggregatePart → AggregateTrees
aggregates [] = no_aggregates
aggregates (a ∷ rest) = aggregate_then a.0 a.1 (maybe a.2) (aggregates rest)

-- a variable, an expression and the names of KEEP
abbrev pub IntoPart : Type 0
IntoPart = Ident × Option ExprTree × List (List ℕ)

abbrev pub into_tree : Option IntoPart → IntoTree
into_tree None = no_into
into_tree (Some i) = into i.0 (maybe i.1) i.2

-- the groups, the aggregates and INTO
abbrev pub CollectPart : Type 0
CollectPart = List LetPart × List AggregatePart × Option IntoPart

abbrev pub collect_clause : CollectPart → ClauseTree
collect_clause c = collect (map (λ l. l.0) c.0) (trees (map (λ l. l.1) c.0)) (aggregates c.1) (into_tree c.2)

abbrev pub clauses : List ClauseTree → ClauseTrees
clauses [] = no_clauses
clauses (c ∷ cs) = clause_then c (clauses cs)

abbrev pub OptionsPart : Type 0
OptionsPart = List MemberPart × TraversalOptions

-- what a traversal says, its start, its edge collections, PRUNE and OPTIONS
abbrev pub TraversalPart : Type 0
TraversalPart = TraversalShape × ExprTree × List (List ℕ) × Option ExprTree × List MemberPart

abbrev pub traversal_clause : TraversalPart → ClauseTree
traversal_clause t = traversal t.0 t.1 t.2 (maybe t.3) (members t.4)

-- ---- what each form becomes, from what its parts became

abbrev pub Layer : (Type 0 → Type 0 → Type 0 → Type 0 → Type 0 → Type 0 → Type 0 → Type 0 → Type 0 →
    Type 0 → Type 0 → Type 0 → Type 0 → Type 0) → Type 0
Layer F = F ClauseTree ExprTree MemberPart StepPart AggregatePart CollectPart IntoPart KeyPart LetPart
    LinkPart OptionsPart QueryTree TraversalPart

abbrev pub expr_step : Layer Expr-F → ExprTree
expr_step (Expr-F.Lit v) = literal (datum_of v)
expr_step (Expr-F.Var x) = variable x
expr_step Expr-F.Current = current
expr_step (Expr-F.List es) = array_literal (trees es)
expr_step (Expr-F.Object fs) = object_literal (members fs)
expr_step (Expr-F.Access e ss) = access e.value (steps ss)
expr_step (Expr-F.Call n es) = function_call n (trees es)
expr_step (Expr-F.Unary op e) = unary_of op e.value
expr_step (Expr-F.Chain e ls) = chain e.value (links ls)
expr_step (Expr-F.Quant a k op b) = array_comparison a.value k op b.value
expr_step (Expr-F.Cond t y n) = ternary t.value (maybe (option_map (λ b. b.value) y)) n.value
expr_step (Expr-F.Range a b) = range_of a.value b.value
expr_step (Expr-F.Sub q) = subquery q.value

abbrev pub step_step : Layer Step-F → StepPart
step_step (Step-F.Name n) = name n
step_step (Step-F.At e) = at e
step_step (Step-F.Each f p) = inline f p

abbrev pub field_step : Layer Field-F → MemberPart
field_step (Field-F.Named n e) = named n e
field_step (Field-F.Computed n e) = computed n e

abbrev pub link_step : Layer Link-F → LinkPart
link_step l = (l.op, l.right)

abbrev pub clause_step : Layer Clause-F → ClauseTree
clause_step (Clause-F.For x e) = for_each x e
clause_step (Clause-F.ForDocs x c) = for_documents x c
clause_step (Clause-F.Traversal t) = traversal_clause t
clause_step (Clause-F.Filter e) = filter_by e
clause_step (Clause-F.Let x e) = let_be x e
clause_step (Clause-F.Sort ks) = sort ks
clause_step (Clause-F.Limit o n) = limit o n
clause_step (Clause-F.Collect c) = collect_clause c

abbrev pub key_step : Layer Key-F → KeyPart
key_step k = (k.expr, k.descending)

abbrev pub let_step : Layer Let-F → LetPart
let_step l = (l.var, l.expr)

abbrev pub aggregate_step : Layer AggregateItem-F → AggregatePart
aggregate_step a = (a.var, a.name, a.arg)

abbrev pub into_step : Layer Into-F → IntoPart
into_step i = (i.var, i.what, i.keep)

abbrev pub collect_step : Layer Collect-F → CollectPart
collect_step c = (c.groups, c.aggregates, c.into)

abbrev pub options_step : Layer Options-F → OptionsPart
options_step o = (o.settings, record { edges = o.edges; vertices = o.vertices; bfs = o.bfs })

abbrev pub traversal_step : Layer Traversal-F → TraversalPart
traversal_step t = (
  record {
    vertex = t.vertex;
    edge = t.edge;
    path = t.path;
    min = t.min;
    max = t.max;
    direction = t.direction;
    options = t.options.1;
  },
  t.start,
  t.collections,
  t.prune,
  t.options.0,
)

abbrev pub query_step : Layer Query-F → QueryTree
query_step q = query q.with (clauses q.clauses) q.distinct q.result.value

-- ---- the folds

abbrev pub tree : Expr → ExprTree
tree = fold-Expr ClauseTree ExprTree MemberPart StepPart AggregatePart CollectPart IntoPart KeyPart
    LetPart LinkPart OptionsPart QueryTree TraversalPart clause_step expr_step field_step step_step
    aggregate_step collect_step into_step key_step let_step link_step options_step query_step
    traversal_step

abbrev pub clause_tree : Clause → ClauseTree
clause_tree = fold-Clause ClauseTree ExprTree MemberPart StepPart AggregatePart CollectPart IntoPart
    KeyPart LetPart LinkPart OptionsPart QueryTree TraversalPart clause_step expr_step field_step
    step_step aggregate_step collect_step into_step key_step let_step link_step options_step query_step
    traversal_step

abbrev pub step_part : Step → StepPart
step_part = fold-Step ClauseTree ExprTree MemberPart StepPart AggregatePart CollectPart IntoPart KeyPart
    LetPart LinkPart OptionsPart QueryTree TraversalPart clause_step expr_step field_step step_step
    aggregate_step collect_step into_step key_step let_step link_step options_step query_step
    traversal_step

abbrev pub member_part : Field → MemberPart
member_part = fold-Field ClauseTree ExprTree MemberPart StepPart AggregatePart CollectPart IntoPart
    KeyPart LetPart LinkPart OptionsPart QueryTree TraversalPart clause_step expr_step field_step
    step_step aggregate_step collect_step into_step key_step let_step link_step options_step query_step
    traversal_step

abbrev pub link_part : Link → LinkPart
link_part = fold-Link ClauseTree ExprTree MemberPart StepPart AggregatePart CollectPart IntoPart KeyPart
    LetPart LinkPart OptionsPart QueryTree TraversalPart clause_step expr_step field_step step_step
    aggregate_step collect_step into_step key_step let_step link_step options_step query_step
    traversal_step

abbrev pub key_part : Key → KeyPart
key_part = fold-Key ClauseTree ExprTree MemberPart StepPart AggregatePart CollectPart IntoPart KeyPart
    LetPart LinkPart OptionsPart QueryTree TraversalPart clause_step expr_step field_step step_step
    aggregate_step collect_step into_step key_step let_step link_step options_step query_step
    traversal_step

abbrev pub let_part : Let → LetPart
let_part = fold-Let ClauseTree ExprTree MemberPart StepPart AggregatePart CollectPart IntoPart KeyPart
    LetPart LinkPart OptionsPart QueryTree TraversalPart clause_step expr_step field_step step_step
    aggregate_step collect_step into_step key_step let_step link_step options_step query_step
    traversal_step

abbrev pub aggregate_part : AggregateItem → AggregatePart
aggregate_part = fold-AggregateItem ClauseTree ExprTree MemberPart StepPart AggregatePart CollectPart
    IntoPart KeyPart LetPart LinkPart OptionsPart QueryTree TraversalPart clause_step expr_step
    field_step step_step aggregate_step collect_step into_step key_step let_step link_step options_step
    query_step traversal_step

abbrev pub into_part : Into → IntoPart
into_part = fold-Into ClauseTree ExprTree MemberPart StepPart AggregatePart CollectPart IntoPart KeyPart
    LetPart LinkPart OptionsPart QueryTree TraversalPart clause_step expr_step field_step step_step
    aggregate_step collect_step into_step key_step let_step link_step options_step query_step
    traversal_step

abbrev pub collect_part : Collect → CollectPart
collect_part = fold-Collect ClauseTree ExprTree MemberPart StepPart AggregatePart CollectPart IntoPart
    KeyPart LetPart LinkPart OptionsPart QueryTree TraversalPart clause_step expr_step field_step
    step_step aggregate_step collect_step into_step key_step let_step link_step options_step query_step
    traversal_step

abbrev pub options_part : Options → OptionsPart
options_part = fold-Options ClauseTree ExprTree MemberPart StepPart AggregatePart CollectPart IntoPart
    KeyPart LetPart LinkPart OptionsPart QueryTree TraversalPart clause_step expr_step field_step
    step_step aggregate_step collect_step into_step key_step let_step link_step options_step query_step
    traversal_step

abbrev pub traversal_part : Traversal → TraversalPart
traversal_part = fold-Traversal ClauseTree ExprTree MemberPart StepPart AggregatePart CollectPart
    IntoPart KeyPart LetPart LinkPart OptionsPart QueryTree TraversalPart clause_step expr_step
    field_step step_step aggregate_step collect_step into_step key_step let_step link_step options_step
    query_step traversal_step

abbrev pub query_tree : Query → QueryTree
query_tree = fold-Query ClauseTree ExprTree MemberPart StepPart AggregatePart CollectPart IntoPart
    KeyPart LetPart LinkPart OptionsPart QueryTree TraversalPart clause_step expr_step field_step
    step_step aggregate_step collect_step into_step key_step let_step link_step options_step query_step
    traversal_step
