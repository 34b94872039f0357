use Rattle.std.proofs.Common.{◌∙◌, sym}
use Rattle.std.proofs.lemmas.Result.{IfOk-weaker}
use Rattle.aql_func.proofs.Joins.{letters_are}
use Rattle.aql_func.proofs.texts.parts.Goals as goal

pub returns-then-is_empty : goal.returns-then-is_empty
returns-then-is_empty c =
    IfOk-weaker c.letters.result _ _ (λ w gives. gives
    ∙ letters_are c.args.separator.now c.args.s.now (sym c.is_empty.ensures
    ∙ c.if-is_empty.true)) c.letters.ensures
