-- What the lifted query answers, a query without a fault answers.
use Rattle.std.proofs.Common.{◌≡◌, List, [], subst}
use Rattle.std.specs.Prelude.{None}
use Rattle.aql_value.specs.Datum.{Datum}
use Rattle.aql_value.specs.Database.{Database}
use Rattle.aql_tree.specs.Tree.{QueryTree}
use Rattle.aql_meaning.specs.Row.{empty_row}
use Rattle.aql_meaning.specs.Meaning.{IsAnswer}
use Rattle.aql_scope.specs.Lifting.{scope_query}
use Rattle.aql_scope.proofs.Answers.{scoped_back}
use Rattle.aql_doc.specs.Held.{Held}
use Rattle.aql_scope.specs.Faults.{outermost, first_fault}
use Rattle.aql_scope.specs.laws.PrunesPlain.{no_fault_plain_prunes}

pub answers_stay : (held : List Held) (q t : QueryTree) → first_fault held q ≡ None
    → t ≡ (scope_query [] 1 q).tree
    → (db : Database) (out : List Datum) → IsAnswer db t empty_row out → IsAnswer db q empty_row out
answers_stay held q t none is db out a =
    scoped_back db q (no_fault_plain_prunes q (outermost held) none) out
    (subst (λ (u : QueryTree). IsAnswer db u empty_row out) is a)
