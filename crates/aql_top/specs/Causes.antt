-- The faults of tokens, of the grammar and of names among those of a query.
use Rattle.aql_lex.specs.declared.faults.LexFault.{LexFault}
use Rattle.aql_lex.specs.declared.faults.LexFault.TheVariants as lex
use Rattle.aql_grammar.specs.declared.faults.ParseFault.{ParseFault}
use Rattle.aql_grammar.specs.declared.faults.ParseFault.TheVariants as parse
use Rattle.aql_scope.specs.declared.faults.ScopeFault.{ScopeFault}
use Rattle.aql_scope.specs.declared.faults.ScopeFault.TheVariants as scope
use Rattle.aql_top.specs.declared.query_faults.QueryFault.{QueryFault}
use Rattle.aql_top.specs.declared.query_faults.QueryFault.TheVariants.{Lexical, TooDeep, TooManyClauses, NotInGrammar, TraversalTooDeep, Scope, Memory}

abbrev pub of_lex : LexFault → QueryFault
of_lex (lex.At place kind) = Lexical place kind
of_lex lex.Memory = Memory

abbrev pub of_parse : ParseFault → QueryFault
of_parse parse.TooDeep = TooDeep
of_parse parse.TooManyClauses = TooManyClauses
of_parse parse.NotInGrammar = NotInGrammar
of_parse parse.TraversalTooDeep = TraversalTooDeep
of_parse parse.Memory = Memory

abbrev pub of_scope : ScopeFault → QueryFault
of_scope scope.Memory = Memory
of_scope fault = Scope fault
