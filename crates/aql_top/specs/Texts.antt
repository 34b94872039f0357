-- The text of each fault, as it stands on the error output after `aql: `.
use Rattle.std.specs.Prelude.{ℕ, List, ◌++◌, codes}
use Rattle.std.specs.Fmt.{decimal}
use Rattle.aql_lex.specs.Faults.{lex_text}
use Rattle.aql_script.specs.Texts.{limit_text}
use Rattle.aql_script.specs.declared.faults.LimitKind.TheVariants.{QueryBytes, Nesting, Clauses, TraversalDepth}
use Rattle.aql_scope.specs.declared.faults.ScopeFault.{ScopeFault}
use Rattle.aql_scope.specs.declared.faults.ScopeFault.TheVariants as scope
use Rattle.aql_top.specs.declared.query_faults.QueryFault.{QueryFault}
use Rattle.aql_top.specs.declared.query_faults.QueryFault.TheVariants.{TooLong, Lexical, TooDeep, TooManyClauses, NotInGrammar, TraversalTooDeep, Scope, Memory}

abbrev pub at_byte : ℕ → List ℕ → List ℕ
at_byte place text = codes "query: byte " ++ (decimal place ++ (codes ": " ++ text))

abbrev pub of_name : List ℕ → List ℕ → List ℕ
of_name what name = codes "query: " ++ (what ++ (codes " " ++ name))

abbrev pub wrong_arity : List ℕ → ℕ → List ℕ
wrong_arity name given = codes "query: wrong number of arguments " ++ (name ++ (codes " " ++ decimal given))

abbrev pub scope_text : ScopeFault → List ℕ
scope_text (scope.UnknownName name) = of_name (codes "unknown name") name
scope_text (scope.Redeclared name) = of_name (codes "declared twice") name
scope_text (scope.UnknownCollection name) = of_name (codes "unknown collection") name
scope_text (scope.UnknownFunction name) = of_name (codes "unknown function") name
scope_text (scope.WrongArity name given) = wrong_arity name given
scope_text (scope.NotEdge name) = of_name (codes "not an edge collection") name
scope_text scope.SubqueryNotAllowed = codes "query: subquery not allowed"
scope_text (scope.BadOption name) = of_name (codes "bad option") name
scope_text scope.Memory = codes "out of memory"

abbrev pub query_fault_text : QueryFault → List ℕ
query_fault_text TooLong = limit_text QueryBytes
query_fault_text (Lexical place kind) = at_byte place (lex_text kind)
query_fault_text TooDeep = limit_text Nesting
query_fault_text TooManyClauses = limit_text Clauses
query_fault_text NotInGrammar = codes "query: not in the grammar"
query_fault_text TraversalTooDeep = limit_text TraversalDepth
query_fault_text (Scope fault) = scope_text fault
query_fault_text Memory = codes "out of memory"
