use Rattle.aql_show.proofs.WorkedTexts.{worked_texts}
use Rattle.aql_show.proofs.worked.worked_texts.Goals as goal

pub returns : goal.returns
returns c = worked_texts
