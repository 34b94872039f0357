-- What one line of a script does, or its first fault. A line of blanks is skipped; one whose first other byte
-- is `%` is a directive; every other line is a document of the collection declared last.
use Rattle.std.specs.Prelude.{ℕ, List, [], ◌∷◌, ◌-◌, Bool, Option, Some, None, Result, Ok, Err, is_some, codes, length, nat_eq, nat_lt, unwrap_or, if◌then◌else◌}
use Rattle.aql_value.specs.Datum.{Datum}
use Rattle.aql_value.specs.JsonLine.{json_line}
use Rattle.aql_value.specs.declared.reading.JsonFault.{JsonFault}
use Rattle.aql_value.specs.declared.reading.JsonFault.TheVariants.{NotJson as LineNotJson, TooDeep, NotWhole as LineNotWhole, Memory as JsonMemory}
use Rattle.aql_doc.specs.Held.{Held}
use Rattle.aql_doc.specs.Declarations.{collection_index, declare, add_index}
use Rattle.aql_doc.specs.Documents.{add}
use Rattle.aql_doc.specs.declared.faults.CatalogFault.{CatalogFault}
use Rattle.aql_doc.specs.declared.faults.CatalogFault.TheVariants.{Twice, TooMany, Memory as CatalogMemory}
use Rattle.aql_doc.specs.declared.faults.DocFault.{DocFault}
use Rattle.aql_doc.specs.declared.faults.DocFault.TheVariants.{NotObject as DocNotObject, BadKey as DocBadKey, IdMismatch as DocIdMismatch, BadEdge as DocBadEdge, DuplicateKey as DocDuplicateKey, TooMany as DocTooMany, Memory as DocMemory}
use Rattle.aql_script.specs.Pieces.{words, first_of}
use Rattle.aql_script.specs.Directives.{directive}
use Rattle.aql_script.specs.Lines.{LineEffect, next, query, fault}
use Rattle.aql_script.specs.declared.options.Options.{Options}
use Rattle.aql_script.specs.declared.directives.Directive.{Directive}
use Rattle.aql_script.specs.declared.directives.Directive.TheVariants.{Declare, Index, Query}
use Rattle.aql_script.specs.declared.faults.LoadFault.{LoadFault}
use Rattle.aql_script.specs.declared.faults.LoadFault.TheVariants.{Limit, Line, Memory}
use Rattle.aql_script.specs.declared.faults.LimitKind.TheVariants.{LineBytes, Collections, Indexes, Shards, Documents, JsonDepth}
use Rattle.aql_script.specs.declared.faults.LineKind.TheVariants.{BadDirective, DeclaredTwice, UnknownCollection, NoCollection, NotJson, NotWhole, NotObject, BadKey, IdMismatch, BadEdge, DuplicateKey}

-- one shard, and the shard key `_key`, where the options do not say
abbrev pub shards_of : Options → ℕ
shards_of options = unwrap_or options.shards 1

abbrev pub keys_of : Options → List (List ℕ)
keys_of options = unwrap_or options.keys (codes "_key" ∷ [])

abbrev pub declare_fault : ℕ → CatalogFault → LoadFault
declare_fault n Twice = Line n DeclaredTwice
declare_fault n TooMany = Limit (Collections n)
declare_fault n CatalogMemory = Memory

abbrev pub declare_effect : ℕ → Result (List Held) CatalogFault → LineEffect
declare_effect n (Ok held) = next held
declare_effect n (Err e) = fault (declare_fault n e)

unfoldable pub declaration : ℕ → List Held → Bool → List ℕ → Options → LineEffect
declaration n held edge name options =
    if is_some (collection_index held name) then fault (Line n DeclaredTwice)
    else (if nat_lt 32 (shards_of options) then fault (Limit (Shards n))
    else declare_effect n (declare held name edge (shards_of options) (keys_of options)))

-- an index is never declared twice
abbrev pub index_fault : ℕ → CatalogFault → LoadFault
index_fault n Twice = Limit (Indexes n)
index_fault n TooMany = Limit (Indexes n)
index_fault n CatalogMemory = Memory

abbrev pub index_effect : ℕ → Result (List Held) CatalogFault → LineEffect
index_effect n (Ok held) = next held
index_effect n (Err e) = fault (index_fault n e)

abbrev pub index_at : ℕ → List Held → List (List ℕ) → Option ℕ → LineEffect
index_at n held attributes (Some number) = index_effect n (add_index held number attributes)
index_at n held attributes None = fault (Line n UnknownCollection)

unfoldable pub index : ℕ → List Held → List ℕ → List (List ℕ) → LineEffect
index n held name attributes = index_at n held attributes (collection_index held name)

abbrev pub by_directive : ℕ → List Held → Option Directive → LineEffect
by_directive n held None = fault (Line n BadDirective)
by_directive n held (Some (Declare edge name options)) = declaration n held edge name options
by_directive n held (Some (Index name attributes)) = index n held name attributes
by_directive n held (Some Query) = query

unfoldable pub directive_effect : ℕ → List Held → List ℕ → LineEffect
directive_effect n held line = by_directive n held (directive (words line))

abbrev pub doc_fault : ℕ → DocFault → LoadFault
doc_fault n DocNotObject = Line n NotObject
doc_fault n DocBadKey = Line n BadKey
doc_fault n DocIdMismatch = Line n IdMismatch
doc_fault n DocBadEdge = Line n BadEdge
doc_fault n (DocDuplicateKey key) = Line n DuplicateKey
doc_fault n DocTooMany = Limit (Documents n)
doc_fault n DocMemory = Memory

abbrev pub json_fault : ℕ → JsonFault → LoadFault
json_fault n LineNotJson = Line n NotJson
json_fault n TooDeep = Limit (JsonDepth n)
json_fault n LineNotWhole = Line n NotWhole
json_fault n JsonMemory = Memory

abbrev pub document_effect : ℕ → Result (List Held) DocFault → LineEffect
document_effect n (Ok held) = next held
document_effect n (Err e) = fault (doc_fault n e)

abbrev pub with_value : ℕ → List Held → Result Datum JsonFault → LineEffect
with_value n held (Ok value) = document_effect n (add held (length held - 1) value)
with_value n held (Err e) = fault (json_fault n e)

unfoldable pub document : ℕ → List Held → List ℕ → LineEffect
document n held line =
    if nat_eq (length held) 0 then fault (Line n NoCollection) else with_value n held (json_line line)

abbrev pub by_first : ℕ → List Held → List ℕ → Option ℕ → LineEffect
by_first n held line None = next held
by_first n held line (Some b) = if nat_eq b 37 then directive_effect n held line else document n held line

-- what line n does to what is held
unfoldable pub line_effect : ℕ → List Held → List ℕ → LineEffect
line_effect n held line =
    if nat_lt 1048576 (length line) then fault (Limit (LineBytes n)) else by_first n held line (first_of line)
