-- The laws of scoping, each the contract of a public function. A subquery means what it means where it is
-- written (AQL fundamentals, Subqueries), although the scoped query has it in a LET before its clause.
use Rattle.std.specs.Prelude.{ℕ, ◌≡◌, ◌+◌, List, [], length}
use Rattle.std.specs.List.{AllByRecursion}
use Rattle.aql_value.specs.Datum.{Datum}
use Rattle.aql_value.specs.Database.{Database}
use Rattle.aql_tree.specs.declared.syntax.Ident.{Ident}
use Rattle.aql_tree.specs.declared.syntax.Ident.TheVariants.{Num}
use Rattle.aql_tree.specs.Tree.{ExprTree, QueryTree}
use Rattle.aql_meaning.specs.Row.{empty_row}
use Rattle.aql_meaning.specs.Meaning.{IsAnswer}
use Rattle.aql_meaning.specs.Plain.{IsPlain}
use Rattle.aql_meaning.specs.Lifted.{IsLifted}
use Rattle.aql_meaning.specs.Numbered.{IsNumber, IsNumbered}
use Rattle.aql_scope.specs.Numbering.{Numbering}
use Rattle.aql_scope.specs.Lifting.{expr, scope_query}
use Rattle.aql_scope.specs.Prunes.{PrunesPlain}

-- what the scoped query answers, the written one answers
abbrev pub ScopedAnswersAreAnswers : Type 0
ScopedAnswersAreAnswers = (db : Database) (q : QueryTree) → PrunesPlain q → (out : List Datum)
    → IsAnswer db (scope_query [] 1 q).tree empty_row out → IsAnswer db q empty_row out

-- a query says as many names as it takes numbers, from 1 on
abbrev pub EachNumberHasItsName : Type 0
EachNumberHasItsName = (q : QueryTree) → 1 + length (scope_query [] 1 q).said ≡ (scope_query [] 1 q).next

-- nothing is taken out of an expression without a subquery, and it takes no number
abbrev pub PlainTakesNothing : Type 0
PlainTakesNothing = (names : Numbering) (e : ExprTree) → IsPlain e → (n : ℕ)
    → ((expr names n e).subqueries ≡ []) × ((expr names n e).said ≡ []) × ((expr names n e).next ≡ n)

-- what scoping makes of an expression has no subquery, and what it makes of a query is lifted
abbrev pub LiftedIsPlain : Type 0
LiftedIsPlain =
    ((names : Numbering) (e : ExprTree) (n : ℕ) → IsPlain (expr names n e).tree)
    × ((outer : Numbering) (n : ℕ) (q : QueryTree) → IsLifted (scope_query outer n q).tree)

-- the numbers of these names are from 1 on
abbrev pub AreNumbers : Numbering → Type 0
AreNumbers names = AllByRecursion (λ (v : Ident × ℕ). IsNumber (Num v.1)) names

-- each variable of a scoped query is a number from 1 on, where the outer names have such numbers and the next
-- number is one
abbrev pub ScopedIsNumbered : Type 0
ScopedIsNumbered = (outer : Numbering) → AreNumbers outer → (n : ℕ) → IsNumber (Num n) → (q : QueryTree)
    → IsNumbered (scope_query outer n q).tree
