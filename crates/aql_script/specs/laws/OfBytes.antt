-- The fault of bytes is that of a line or a limit.
use Rattle.std.proofs.Common.{◌≡◌, ℕ, ◌+◌, ◌-◌, List, [], ◌∷◌, Bool, true, false, Option, Some, None, Ok, Err, if◌then◌else◌, nat_lt, nat_le, nat_eq, length, subst}
use Rattle.std.specs.Prelude.{Result, is_some, IfErr}
use Rattle.std.specs.List.{join_with_byte}
use Rattle.std.specs.Str.{is_utf8}
use Rattle.std.specs.Str.Lines.{strip_carriage_return}
use Rattle.aql_value.specs.Datum.{Datum}
use Rattle.aql_value.specs.JsonLine.{json_line}
use Rattle.aql_value.specs.declared.reading.JsonFault.{JsonFault}
use Rattle.aql_value.specs.declared.reading.JsonFault.TheVariants.{NotJson, TooDeep, NotWhole, Memory as JsonMemory}
use Rattle.aql_doc.specs.Held.{Held}
use Rattle.aql_doc.specs.Declarations.{collection_index, declare, add_index}
use Rattle.aql_doc.specs.Documents.{add}
use Rattle.aql_doc.specs.declared.faults.CatalogFault.{CatalogFault}
use Rattle.aql_doc.specs.declared.faults.CatalogFault.TheVariants.{Twice, TooMany, Memory as CatalogMemory}
use Rattle.aql_doc.specs.declared.faults.DocFault.{DocFault}
use Rattle.aql_doc.specs.declared.faults.DocFault.TheVariants.{NotObject, BadKey, IdMismatch, BadEdge, DuplicateKey, TooMany as DocTooMany, Memory as DocMemory}
use Rattle.aql_script.specs.Pieces.{pieces, words, first_of}
use Rattle.aql_script.specs.Directives.{directive}
use Rattle.aql_script.specs.Lines.{LineEffect, next, query, fault, after, last, read, with_query}
use Rattle.aql_script.specs.LineEffects.{line_effect, by_first, directive_effect, by_directive, declaration, declare_effect, index, index_at, index_effect, document, with_value, document_effect, doc_fault, json_fault, shards_of, keys_of}
use Rattle.aql_script.specs.Script.{lines, script, HasFault, IsOfBytes}
use Rattle.aql_script.specs.laws.LowerFaults.{FaultIs, OfCatalog, OfDocument, OfJson, declared_is, indexed_is, added_is, json_is}
use Rattle.aql_script.specs.declared.loading.Loaded.{Loaded}
use Rattle.aql_script.specs.declared.options.Options.{Options}
use Rattle.aql_script.specs.declared.directives.Directive.{Directive}
use Rattle.aql_script.specs.declared.directives.Directive.TheVariants.{Declare, Index, Query}
use Rattle.aql_script.specs.declared.faults.LoadFault.{LoadFault}
use Rattle.aql_script.specs.declared.faults.LoadFault.TheVariants.{Limit, Line}
use Rattle.aql_script.specs.declared.faults.LimitKind.TheVariants.{LineBytes, Shards, ScriptBytes}
use Rattle.aql_script.specs.declared.faults.LineKind.TheVariants.{DeclaredTwice, NoCollection, NoQuery, QueryNotUtf8}

abbrev StepOf : LineEffect → Type 0
StepOf (next held) = Unit {0}
StepOf query = Unit {0}
StepOf (fault e) = IsOfBytes e

either : (b : Bool) (s t : LineEffect) → StepOf s → StepOf t → StepOf (if b then s else t)
either true s t h k = h
either false s t h k = k

of_doc : (n : ℕ) (e : DocFault) → OfDocument e → IsOfBytes (doc_fault n e)
of_doc n NotObject h = tt
of_doc n BadKey h = tt
of_doc n IdMismatch h = tt
of_doc n BadEdge h = tt
of_doc n (DuplicateKey key) h = tt
of_doc n DocTooMany h = tt
of_doc n DocMemory h = absurd h

of_json : (n : ℕ) (e : JsonFault) → OfJson e → IsOfBytes (json_fault n e)
of_json n NotJson h = tt
of_json n TooDeep h = tt
of_json n NotWhole h = tt
of_json n JsonMemory h = absurd h

of_declaring : (n : ℕ) (r : Result (List Held) CatalogFault) → FaultIs OfCatalog r
    → StepOf (declare_effect n r)
of_declaring n (Ok held) h = tt
of_declaring n (Err Twice) h = tt
of_declaring n (Err TooMany) h = tt
of_declaring n (Err CatalogMemory) h = absurd h

of_indexing : (n : ℕ) (r : Result (List Held) CatalogFault) → FaultIs OfCatalog r → StepOf (index_effect n r)
of_indexing n (Ok held) h = tt
of_indexing n (Err Twice) h = tt
of_indexing n (Err TooMany) h = tt
of_indexing n (Err CatalogMemory) h = absurd h

of_adding : (n : ℕ) (r : Result (List Held) DocFault) → FaultIs OfDocument r → StepOf (document_effect n r)
of_adding n (Ok held) h = tt
of_adding n (Err e) h = of_doc n e h

of_value : (n : ℕ) (held : List Held) (r : Result Datum JsonFault) → FaultIs OfJson r
    → StepOf (with_value n held r)
of_value n held (Ok value) h =
    of_adding n (add held (length held - 1) value) (added_is held (length held - 1) value)
of_value n held (Err e) h = of_json n e h

of_declaration : (n : ℕ) (held : List Held) (edge : Bool) (name : List ℕ) (options : Options)
    → StepOf (declaration n held edge name options)
unfolding declaration
of_declaration n held edge name options =
    let does = declare_effect n (declare held name edge (shards_of options) (keys_of options)) in
    either (is_some (collection_index held name)) (fault (Line n DeclaredTwice))
    (if nat_lt 32 (shards_of options) then fault (Limit (Shards n)) else does) tt
    (either (nat_lt 32 (shards_of options)) (fault (Limit (Shards n))) does tt
    (of_declaring n (declare held name edge (shards_of options) (keys_of options))
    (declared_is held name edge (shards_of options) (keys_of options))))

of_place : (n : ℕ) (held : List Held) (attributes : List (List ℕ)) (place : Option ℕ)
    → StepOf (index_at n held attributes place)
of_place n held attributes None = tt
of_place n held attributes (Some number) =
    of_indexing n (add_index held number attributes) (indexed_is held number attributes)

of_index : (n : ℕ) (held : List Held) (name : List ℕ) (attributes : List (List ℕ))
    → StepOf (index n held name attributes)
unfolding index
of_index n held name attributes = of_place n held attributes (collection_index held name)

of_directive : (n : ℕ) (held : List Held) (d : Option Directive) → StepOf (by_directive n held d)
of_directive n held None = tt
of_directive n held (Some (Declare edge name options)) = of_declaration n held edge name options
of_directive n held (Some (Index name attributes)) = of_index n held name attributes
of_directive n held (Some Query) = tt

of_directed : (n : ℕ) (held : List Held) (line : List ℕ) → StepOf (directive_effect n held line)
unfolding directive_effect
of_directed n held line = of_directive n held (directive (words line))

of_document : (n : ℕ) (held : List Held) (line : List ℕ) → StepOf (document n held line)
unfolding document
of_document n held line =
    either (nat_eq (length held) 0) (fault (Line n NoCollection)) (with_value n held (json_line line)) tt
    (of_value n held (json_line line) (json_is line))

of_first : (n : ℕ) (held : List Held) (line : List ℕ) (first : Option ℕ) → StepOf (by_first n held line first)
of_first n held line None = tt
of_first n held line (Some b) =
    either (nat_eq b 37) (directive_effect n held line) (document n held line) (of_directed n held line)
    (of_document n held line)

of_step : (n : ℕ) (held : List Held) (line : List ℕ) → StepOf (line_effect n held line)
unfolding line_effect
of_step n held line =
    either (nat_lt 1048576 (length line)) (fault (Limit (LineBytes n)))
    (by_first n held line (first_of line)) tt
    (of_first n held line (first_of line))

of_query : (n : ℕ) (held : List Held) (text : List ℕ) → IfErr (with_query n held text) IsOfBytes
of_query n held text =
    elim (is_utf8 text)
    as (λ b. IfErr {T = Loaded} {E = LoadFault}
    (if b then Ok (record { catalog = held; query = text }) else Err (Line n QueryNotUtf8)) IsOfBytes) [
      | true ↦ tt
      | false ↦ tt
    ]

of_after : (n : ℕ) (did : LineEffect) (held : List Held) (go : List Held → Result Loaded LoadFault)
    (text : List ℕ)
    → StepOf did → ((more : List Held) → IfErr (go more) IsOfBytes)
    → IfErr (after n did held go text) IsOfBytes
of_after n (next more) held go text h k = k more
of_after n query held go text h k = of_query n held text
of_after n (fault e) held go text h k = h

of_last : (n : ℕ) (held : List Held) (l : List ℕ) → IfErr (last line_effect n held l) IsOfBytes
of_last n held [] = tt
of_last n held (b ∷ l) =
    of_after (n + 1) (line_effect (n + 1) held (b ∷ l)) held (λ more. Err (Line (n + 1) NoQuery)) []
    (of_step (n + 1) held (b ∷ l)) (λ more. tt)

of_read : (n : ℕ) (held : List Held) (ls : List (List ℕ)) → IfErr (read line_effect n held ls) IsOfBytes
of_read n held [] = tt
of_read n held (l ∷ []) = of_last n held l
of_read n held (l ∷ m ∷ ls) =
    of_after (n + 1) (line_effect (n + 1) held (strip_carriage_return l)) held
    (λ more. read line_effect (n + 1) more (m ∷ ls))
    (join_with_byte 10 (m ∷ ls)) (of_step (n + 1) held (strip_carriage_return l))
    (λ more. of_read (n + 1) more (m ∷ ls))

pub fault_of_bytes : (bytes : List ℕ) (e : LoadFault) → HasFault bytes e → IsOfBytes e
unfolding script
fault_of_bytes bytes e h =
    subst (λ r. IfErr r IsOfBytes) h
    (elim (nat_le (length bytes) 67108864)
    as (λ b. IfErr {T = Loaded} {E = LoadFault}
    (if b then lines bytes else Err (Limit ScriptBytes)) IsOfBytes) [
      | true ↦ of_read 0 [] (pieces 10 bytes)
      | false ↦ tt
    ])

pub fault_of_lines : (bytes : List ℕ) (e : LoadFault) → lines bytes ≡ Err e → IsOfBytes e
fault_of_lines bytes e h = subst (λ r. IfErr r IsOfBytes) h (of_read 0 [] (pieces 10 bytes))
