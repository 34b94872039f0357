-- What a list of tokens is answered with: its tree, or the first cause of a refusal. Nesting and
-- clause marks are judged over the tokens, then the grammar, then the depth of the traversals.
use Rattle.std.specs.Prelude.{◌≡◌, ◌≤◌, ◌<◌, true, false, Option, Some, None, Result, Ok, Err}
use Rattle.aql_tree.specs.Tree.{QueryTree}
use Rattle.aql_tree.specs.View.{query_tree}
use Rattle.aql_tree.specs.declared.syntax.Query.{Query}
use Rattle.aql_parse.specs.Within.{traversals_within}
use Rattle.aql_grammar.specs.Kinds.{Tokens}
use Rattle.aql_grammar.specs.Tree.{Tree}
use Rattle.aql_grammar.specs.Limits.{nesting, marks}
use Rattle.aql_grammar.specs.declared.faults.ParseFault.{ParseFault}
use Rattle.aql_grammar.specs.declared.faults.ParseFault.TheVariants as fault

-- at most 64 brackets, ternaries and signs are open at once, and there are at most 256 clause marks
abbrev pub WithinLimits : Tokens → Type 0
WithinLimits tokens = (nesting tokens ≤ 64) × (marks tokens ≤ 256)

-- a tree whose traversals go at most 32 edges deep
abbrev pub IsShallow : QueryTree → Type 0
IsShallow q = traversals_within 32 q ≡ true

-- no tree spells the tokens
abbrev pub HasNoTree : Tokens → Type 0
HasNoTree tokens = (q : QueryTree) → Tree tokens q → ⊥

-- the tokens have a tree with a deeper traversal
abbrev pub TraversesTooDeep : Tokens → Type 0
TraversesTooDeep tokens = (q : QueryTree) × (Tree tokens q × (traversals_within 32 q ≡ false))

-- this tree, unless memory ran out
abbrev pub Gives : QueryTree → Result Query ParseFault → Type 0
Gives q (Ok found) = query_tree found ≡ q
Gives q (Err fault.Memory) = Unit {0}
Gives q (Err other) = ⊥

-- each answer with its cause
abbrev pub Parses : Tokens → Result Query ParseFault → Type 0
Parses tokens (Ok q) = WithinLimits tokens × (Tree tokens (query_tree q) × IsShallow (query_tree q))
Parses tokens (Err fault.TooDeep) = 64 < nesting tokens
Parses tokens (Err fault.TooManyClauses) = (nesting tokens ≤ 64) × (256 < marks tokens)
Parses tokens (Err fault.NotInGrammar) = WithinLimits tokens × HasNoTree tokens
Parses tokens (Err fault.TraversalTooDeep) = WithinLimits tokens × TraversesTooDeep tokens
Parses tokens (Err fault.Memory) = Unit {0}

-- the reader's answer over all the tokens
abbrev pub ReadsWhole : Option QueryTree → Result Query ParseFault → Type 0
ReadsWhole found (Ok q) = found ≡ Some (query_tree q)
ReadsWhole found (Err fault.NotInGrammar) = found ≡ None
ReadsWhole found (Err fault.Memory) = Unit {0}
ReadsWhole found (Err other) = ⊥
