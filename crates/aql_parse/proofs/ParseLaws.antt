-- Each clause of `parse` from the one answer that holds.
use Rattle.std.proofs.Common.{◌≡◌, ◌<◌, ◌≤◌, None}
use Rattle.std.proofs.Common.{ap, arith}
use Rattle.std.specs.Prelude.{Result, Ok, Err, IfOk, IsErrOf}
use Rattle.aql_tree.specs.Tree.{QueryTree}
use Rattle.aql_tree.specs.View.{query_tree}
use Rattle.aql_tree.specs.declared.syntax.Query.{Query}
use Rattle.aql_parse.specs.Within.{traversals_within}
use Rattle.aql_grammar.specs.Kinds.{Tokens}
use Rattle.aql_grammar.specs.Tree.{Tree}
use Rattle.aql_grammar.specs.Limits.{nesting, marks}
use Rattle.aql_grammar.specs.Reader.{whole_query}
use Rattle.aql_grammar.specs.declared.faults.ParseFault.{ParseFault}
use Rattle.aql_grammar.specs.declared.faults.ParseFault.TheVariants.{TooDeep, TooManyClauses, NotInGrammar}
use Rattle.aql_grammar.specs.declared.faults.ParseFault.TheVariants.{TraversalTooDeep, Memory}
use Rattle.aql_grammar.specs.laws.TreeLaws.{tree_whole, one_tree}
use Rattle.aql_parse.specs.Parses.{WithinLimits, IsShallow, HasNoTree, TraversesTooDeep, Gives, Parses}
use Rattle.aql_parse.specs.Parses.{ReadsWhole}

pub no_tree : (ts : Tokens) → whole_query ts ≡ None → HasNoTree ts
no_tree ts none q a = let p = tree_whole ts q a in absurd (cc)

-- what the grammar refuses within the limits
pub refused : (ts : Tokens) (e : ParseFault) → ReadsWhole (whole_query ts) (Err e) → nesting ts ≤ 64
    → marks ts ≤ 256
    → Parses ts (Err e)
refused ts TooDeep h deep many = absurd h
refused ts TooManyClauses h deep many = absurd h
refused ts NotInGrammar h deep many = ((deep, many), no_tree ts h)
refused ts TraversalTooDeep h deep many = absurd h
refused ts Memory h deep many = tt

pub gives_tree : (ts : Tokens) (r : Result Query ParseFault) → Parses ts r
    → IfOk r (λ q. Tree ts (query_tree q))
gives_tree ts (Ok q) h = h.1.0
gives_tree ts (Err e) h = tt

pub gives_within : (ts : Tokens) (r : Result Query ParseFault) → Parses ts r
    → IfOk r (λ q. WithinLimits ts × IsShallow (query_tree q))
gives_within ts (Ok q) h = (h.0, h.1.1)
gives_within ts (Err e) h = tt

pub gives_only : (ts : Tokens) (r : Result Query ParseFault) → Parses ts r → (q : QueryTree) → Tree ts q
    → WithinLimits ts → IsShallow q → Gives q r
gives_only ts (Ok found) h q a within shallow = one_tree ts (query_tree found) q h.1.0 a
gives_only ts (Err TooDeep) h q a within shallow = let w = within.0 in absurd (omega arith)
gives_only ts (Err TooManyClauses) h q a within shallow = let w = within.1 in let m = h.1 in absurd
    (omega arith)
gives_only ts (Err NotInGrammar) h q a within shallow = absurd (h.1 q a)
gives_only ts (Err TraversalTooDeep) h q a within shallow =
    let same = one_tree ts h.1.0 q h.1.1.0 a in
    let e = ap (traversals_within 32) same in
    let deep = h.1.1.1 in
    absurd (cc)
gives_only ts (Err Memory) h q a within shallow = tt

pub gives_too_deep : (ts : Tokens) (r : Result Query ParseFault) → Parses ts r → IsErrOf r TooDeep
    → 64 < nesting ts
gives_too_deep ts (Ok q) h is = absurd (cc)
gives_too_deep ts (Err TooDeep) h is = h
gives_too_deep ts (Err TooManyClauses) h is = absurd (cc)
gives_too_deep ts (Err NotInGrammar) h is = absurd (cc)
gives_too_deep ts (Err TraversalTooDeep) h is = absurd (cc)
gives_too_deep ts (Err Memory) h is = absurd (cc)

pub gives_too_many : (ts : Tokens) (r : Result Query ParseFault) → Parses ts r → IsErrOf r TooManyClauses
    → (nesting ts ≤ 64) × (256 < marks ts)
gives_too_many ts (Ok q) h is = absurd (cc)
gives_too_many ts (Err TooDeep) h is = absurd (cc)
gives_too_many ts (Err TooManyClauses) h is = h
gives_too_many ts (Err NotInGrammar) h is = absurd (cc)
gives_too_many ts (Err TraversalTooDeep) h is = absurd (cc)
gives_too_many ts (Err Memory) h is = absurd (cc)

pub gives_none : (ts : Tokens) (r : Result Query ParseFault) → Parses ts r → IsErrOf r NotInGrammar
    → WithinLimits ts × HasNoTree ts
gives_none ts (Ok q) h is = absurd (cc)
gives_none ts (Err TooDeep) h is = absurd (cc)
gives_none ts (Err TooManyClauses) h is = absurd (cc)
gives_none ts (Err NotInGrammar) h is = h
gives_none ts (Err TraversalTooDeep) h is = absurd (cc)
gives_none ts (Err Memory) h is = absurd (cc)

pub gives_traversal : (ts : Tokens) (r : Result Query ParseFault) → Parses ts r → IsErrOf r TraversalTooDeep
    → WithinLimits ts × TraversesTooDeep ts
gives_traversal ts (Ok q) h is = absurd (cc)
gives_traversal ts (Err TooDeep) h is = absurd (cc)
gives_traversal ts (Err TooManyClauses) h is = absurd (cc)
gives_traversal ts (Err NotInGrammar) h is = absurd (cc)
gives_traversal ts (Err TraversalTooDeep) h is = h
gives_traversal ts (Err Memory) h is = absurd (cc)
