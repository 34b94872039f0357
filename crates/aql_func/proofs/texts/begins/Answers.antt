use Rattle.std.proofs.lemmas.Str.Pattern.{starts_text}
use Rattle.aql_func.proofs.texts.begins.Goals as goal

pub returns : goal.returns
returns c = starts_text _ c.args.front.now c.args.s.now c.starts_with.ensures.cases
