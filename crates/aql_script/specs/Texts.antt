-- The text of each fault, as it stands on the error output after `aql: `.
use Rattle.std.specs.Prelude.{ℕ, List, ◌++◌, codes}
use Rattle.std.specs.Fmt.{decimal}
use Rattle.aql_script.specs.declared.faults.LoadFault.{LoadFault}
use Rattle.aql_script.specs.declared.faults.LoadFault.TheVariants.{Read, Limit, Line, Memory}
use Rattle.aql_script.specs.declared.faults.LimitKind.{LimitKind}
use Rattle.aql_script.specs.declared.faults.LimitKind.TheVariants.{ScriptBytes, LineBytes, Collections, Indexes, Shards, Documents, JsonDepth, QueryBytes, Nesting, Clauses, TraversalDepth}
use Rattle.aql_script.specs.declared.faults.LineKind.{LineKind}
use Rattle.aql_script.specs.declared.faults.LineKind.TheVariants.{BadDirective, DeclaredTwice, UnknownCollection, NoCollection, NotJson, NotWhole, NotObject, BadKey, IdMismatch, BadEdge, DuplicateKey, NoQuery, QueryNotUtf8}

abbrev pub line_text : LineKind → List ℕ
line_text BadDirective = codes "bad directive"
line_text DeclaredTwice = codes "collection declared twice"
line_text UnknownCollection = codes "unknown collection"
line_text NoCollection = codes "document outside a collection"
line_text NotJson = codes "not JSON"
line_text NotWhole = codes "number not whole"
line_text NotObject = codes "not an object"
line_text BadKey = codes "bad key"
line_text IdMismatch = codes "id mismatch"
line_text BadEdge = codes "bad edge"
line_text DuplicateKey = codes "duplicate key"
line_text NoQuery = codes "no query"
line_text QueryNotUtf8 = codes "query not UTF-8"

abbrev pub at_line : List ℕ → ℕ → List ℕ → List ℕ
at_line front n text = front ++ (decimal n ++ (codes ": " ++ text))

abbrev limit_at : ℕ → List ℕ → List ℕ
limit_at n text = at_line (codes "limit: line ") n text

abbrev pub limit_text : LimitKind → List ℕ
limit_text ScriptBytes = codes "limit: script bytes"
limit_text (LineBytes n) = limit_at n (codes "line bytes")
limit_text (Collections n) = limit_at n (codes "collections")
limit_text (Indexes n) = limit_at n (codes "indexes")
limit_text (Shards n) = limit_at n (codes "shards")
limit_text (Documents n) = limit_at n (codes "documents")
limit_text (JsonDepth n) = limit_at n (codes "JSON depth")
limit_text QueryBytes = codes "limit: query bytes"
limit_text Nesting = codes "limit: nesting"
limit_text Clauses = codes "limit: clauses"
limit_text TraversalDepth = codes "limit: traversal depth"

abbrev pub fault_text : LoadFault → List ℕ
fault_text Read = codes "read fault"
fault_text (Limit kind) = limit_text kind
fault_text (Line n kind) = at_line (codes "script: line ") n (line_text kind)
fault_text Memory = codes "out of memory"
