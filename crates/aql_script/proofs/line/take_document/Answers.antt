use Rattle.std.proofs.Common.{◌≡◌, ◌<◌, ◌-◌, inr, arith, length}
use Rattle.aql_value.specs.View.{datum_of}
use Rattle.aql_script.proofs.StepsOn.{no_collection, not_json, adds, not_added}
use Rattle.aql_script.proofs.line.take_document.Goals as goal

pub returns-then-declared-eq0-clause-err : goal.returns-then-declared-eq0-clause-err
returns-then-declared-eq0-clause-err c =
    let none : length c.args.catalog.now ≡ 0 =
    omega (arith, c.if-declared-eq0.true, c.len-declared.ensures.value) in
    rw c.fault_at.ensures (inr (no_collection c.args.line c.args.catalog.now c.args.bytes.now none))

pub returns-in-Ok-add_document-clause-ok : goal.returns-in-Ok-add_document-clause-ok
returns-in-Ok-add_document-clause-ok c =
    let some : 0 < length c.args.catalog.now =
    omega (arith, c.if-declared-eq0.false, c.len-declared.ensures.value) in
    let last : c.len-declared.result - 1 ≡ length c.args.catalog.now - 1 =
    omega (arith, c.len-declared.ensures.value) in
    adds c.args.line c.args.catalog.now c.args.bytes.now
    (datum_of c.in-Ok.value) _ _ some c.in-Ok.ensures.value last
    c.in-Ok-add_document.ensures.ok.1

pub returns-in-Err-add_document-clause-err : goal.returns-in-Err-add_document-clause-err
returns-in-Err-add_document-clause-err c =
    let some : 0 < length c.args.catalog.now =
    omega (arith, c.if-declared-eq0.false, c.len-declared.ensures.value) in
    let last : c.len-declared.result - 1 ≡ length c.args.catalog.now - 1 =
    omega (arith, c.len-declared.ensures.value) in
    rw c.doc_fault.ensures
    (not_added c.args.line c.args.catalog.now c.args.bytes.now
    (datum_of c.in-Ok.value) _ _ some c.in-Ok.ensures.value
    last c.in-Err-add_document.ensures.err)

pub returns-in-Err-clause-err : goal.returns-in-Err-clause-err
returns-in-Err-clause-err c =
    let some : 0 < length c.args.catalog.now =
    omega (arith, c.if-declared-eq0.false, c.len-declared.ensures.value) in
    rw c.json_fault.ensures
    (not_json c.args.line c.args.catalog.now c.args.bytes.now _ some c.in-Err.ensures.fault)
