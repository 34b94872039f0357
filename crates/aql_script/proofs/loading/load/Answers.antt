use Rattle.std.proofs.Common.{ap, Err}
use Rattle.aql_script.proofs.Reading.{loads, hinders, front, too_long}
use Rattle.aql_script.proofs.loading.load.Goals as goal

pub returns-in-Ok-clause-script : goal.returns-in-Ok-clause-script
returns-in-Ok-clause-script g c =
    let is = rw c.deref.ensures.value at c.load_lines.ensures in
    loads c.in-Ok.bytes.items (g.S.Source.left c.args.source.now) (g.S.Source.left c.read_all.new.source)
    c.in-Ok.ensures.within c.in-Ok.ensures.whole c.in-Ok.ensures.end c.load_lines.result is

pub returns-in-Ok-clause-fault : goal.returns-in-Ok-clause-fault
returns-in-Ok-clause-fault g c =
    let is = rw c.deref.ensures.value at c.load_lines.ensures in
    hinders c.in-Ok.bytes.items (g.S.Source.left c.args.source.now) (g.S.Source.left c.read_all.new.source)
    (g.S.Source.faults c.args.source.now) (g.S.Source.faults c.read_all.new.source)
    c.in-Ok.ensures.within c.in-Ok.ensures.whole c.in-Ok.ensures.end c.load_lines.result is

pub returns-in-Ok-clause-front : goal.returns-in-Ok-clause-front
returns-in-Ok-clause-front g c =
    front c.in-Ok.bytes.items (g.S.Source.left c.args.source.now) (g.S.Source.left c.read_all.new.source)
    c.in-Ok.ensures.whole c.load_lines.result

pub returns-in-Err-Failed-clause-fault : goal.returns-in-Err-Failed-clause-fault
returns-in-Err-Failed-clause-fault g c = (
  c.in-Err-Failed.ensures.failed_within (ap Err c.in-Err-Failed.field-0-is),
  c.in-Err-Failed.ensures.failed (ap Err c.in-Err-Failed.field-0-is),
)

pub returns-in-Err-TooLong-clause-fault : goal.returns-in-Err-TooLong-clause-fault
returns-in-Err-TooLong-clause-fault g c =
    too_long (g.S.Source.left c.args.source.now) (g.S.Source.left c.read_all.new.source)
    (c.in-Err-TooLong.ensures.too_long (ap Err c.in-Err-TooLong.field-0-is))
