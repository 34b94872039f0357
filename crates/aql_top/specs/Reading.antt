-- What the text of a query is: the query that it spells, or the first cause of a refusal. The length is
-- judged first, then the tokens, then nesting, clauses, grammar and traversals over all tokens, and last
-- names, calls and settings in the order of the text.
use Rattle.std.specs.Prelude.{◌≡◌, ℕ, ◌≤◌, ◌<◌, List, [], length, Some, None, Err}
use Rattle.aql_lex.specs.declared.kinds.Token.{Token}
use Rattle.aql_lex.specs.Reading.{Lexes, Stops}
use Rattle.aql_tree.specs.Tree.{QueryTree}
use Rattle.aql_grammar.specs.Kinds.{kinds_of}
use Rattle.aql_grammar.specs.Tree.{Tree}
use Rattle.aql_grammar.specs.declared.faults.ParseFault.{ParseFault}
use Rattle.aql_grammar.specs.declared.faults.ParseFault.TheVariants as parse
use Rattle.aql_parse.specs.Parses.{Parses, WithinLimits, IsShallow}
use Rattle.aql_scope.specs.Lifting.{scope_query}
use Rattle.aql_doc.specs.Held.{Held}
use Rattle.aql_scope.specs.declared.faults.ScopeFault.TheVariants as scope
use Rattle.aql_scope.specs.Faults.{first_fault}
use Rattle.aql_top.specs.declared.query_faults.QueryFault.{QueryFault}
use Rattle.aql_top.specs.declared.query_faults.QueryFault.TheVariants.{TooLong, Lexical, TooDeep, TooManyClauses, NotInGrammar, TraversalTooDeep, Scope, Memory}

-- a text of at most 65,536 bytes with these tokens
abbrev pub HasTokens : List ℕ → List Token → Type 0
HasTokens text tokens = (length text ≤ 65536) × Lexes text tokens

-- the text spells this query, within all limits
pub record IsWritten (text : List ℕ) (q : QueryTree) : Type 0 where
  pub tokens : List Token
  pub has_tokens : HasTokens text tokens
  pub within : WithinLimits (kinds_of tokens)
  pub spelled : Tree (kinds_of tokens) q
  pub shallow : IsShallow q

-- the text has tokens, and the grammar or its limits refuse them so
abbrev pub Misspells : List ℕ → ParseFault → Type 0
Misspells text fault = (tokens : List Token) × (HasTokens text tokens × Parses (kinds_of tokens) (Err fault))

-- the text spells no query, for this cause
abbrev pub IsRefused : List ℕ → QueryFault → Type 0
IsRefused text TooLong = 65536 < length text
IsRefused text (Lexical place kind) = (length text ≤ 65536) × Stops text place kind
IsRefused text TooDeep = Misspells text parse.TooDeep
IsRefused text TooManyClauses = Misspells text parse.TooManyClauses
IsRefused text NotInGrammar = Misspells text parse.NotInGrammar
IsRefused text TraversalTooDeep = Misspells text parse.TraversalTooDeep
IsRefused text (Scope fault) = ⊥
IsRefused text Memory = ⊥

-- the text gives no scoped query over these collections, for this cause
abbrev pub Refuses : List Held → List ℕ → QueryFault → Type 0
Refuses held text (Scope scope.Memory) = ⊥
Refuses held text (Scope fault) = (q : QueryTree) × (IsWritten text q × (first_fault held q ≡ Some fault))
Refuses held text fault = IsRefused text fault

-- the query that the text spells has no fault, and scoping makes this tree of it, with variables of these
-- names
pub record IsScoped (held : List Held) (text : List ℕ) (tree : QueryTree) (names : List (List ℕ)) : Type 0
  where
    pub spelled : QueryTree
    pub is_written : IsWritten text spelled
    pub no_fault : first_fault held spelled ≡ None
    pub lifted : tree ≡ (scope_query [] 1 spelled).tree
    pub variable_names : names ≡ (scope_query [] 1 spelled).said
