use Rattle.std.proofs.lemmas.Str.Pattern.{contains_text}
use Rattle.aql_func.proofs.Search.{occurs_text}
use Rattle.aql_func.proofs.texts.has.Goals as goal

pub returns : goal.returns
returns c =
    let h = contains_text _ c.args.part.now c.args.s.now c.contains.ensures.cases in
    occurs_text _ c.args.s.now c.args.part.now h.0 h.1
