use Rattle.aql_meaning.proofs.Refuted.{refuted_answers}
use Rattle.aql_meaning.proofs.worked.refuted_answers.Goals as goal

pub returns : goal.returns
returns c = refuted_answers
