-- The answer that the law of answers computes, as an answer.
use Rattle.std.proofs.Common.{◌≡◌, List, subst}
use Rattle.aql_value.specs.Datum.{Datum}
use Rattle.aql_value.specs.Database.{Database}
use Rattle.aql_tree.specs.Tree.{QueryTree}
use Rattle.aql_meaning.specs.Row.{empty_row}
use Rattle.aql_meaning.specs.Meaning.{IsAnswer}
use Rattle.aql_meaning.specs.laws.SomeAnswer.{some_answer}
use Rattle.aql_meaning.specs.worked.Words.{Answers}

pub computed : (db : Database) (q : QueryTree) (out : List Datum) → (some_answer db q empty_row).0 ≡ out
    → Answers db q out
computed db q out e = record { answer = subst (IsAnswer db q empty_row) e (some_answer db q empty_row).1 }
