-- The laws of the meaning, each the contract of a public function.
use Rattle.std.specs.Prelude.{◌≡◌, List, Bool, true, false, IsPermutation}
use Rattle.aql_value.specs.Datum.{Datum}
use Rattle.aql_value.specs.Database.{Database}
use Rattle.aql_tree.specs.declared.syntax.Ident.{Ident}
use Rattle.aql_tree.specs.Tree.{ExprTree, QueryTree, ClauseTree, sort_by, limit, collect}
use Rattle.aql_meaning.specs.Row.{Row}
use Rattle.aql_meaning.specs.Value.{value}
use Rattle.aql_meaning.specs.Visible.{collection_meant}
use Rattle.aql_meaning.specs.Plain.{IsPlain}
use Rattle.aql_meaning.specs.Uses.{uses, Agree}
use Rattle.aql_meaning.specs.Meaning.{Evaluates, Changes, IsAnswer}
use Rattle.aql_meaning.specs.Substitution.{put, put_query, StandsFor}

-- every query has an answer from every row, also from one that lacks outer variables
abbrev pub EveryQueryHasAnAnswer : Type 0
EveryQueryHasAnAnswer =
    (db : Database) (q : QueryTree) (start : Row) → (out : List Datum) × IsAnswer db q start out

-- an expression without a subquery has one value, whatever the database
abbrev pub PlainHasOneValue : Type 0
PlainHasOneValue = (db : Database) (e : ExprTree) → IsPlain e → (cur : Datum) (row : Row)
    → Evaluates db e cur row (value e cur row)
    × ((v : Datum) → Evaluates db e cur row v → v ≡ value e cur row)

-- FOR, FILTER and LET take each row alone
abbrev pub takes_rows_alone : ClauseTree → Bool
takes_rows_alone (sort_by directions es) = false
takes_rows_alone (limit offset count) = false
takes_rows_alone (collect xs es gs i) = false
takes_rows_alone c = true

-- what such a clause makes of rows, it makes, permuted, of the rows permuted
abbrev pub PermutationPasses : Type 0
PermutationPasses = (db : Database) (c : ClauseTree) → takes_rows_alone c ≡ true
    → (start : Row) (vars : List Ident) (rows others out : List Row)
    → IsPermutation rows others → Changes db c start vars rows out
    → (other : List Row) × Changes db c start vars others other × IsPermutation out other

-- at rows that agree in what an expression uses it has the same value, and the same values where it is plain
abbrev pub ValueNeedsOnlyWhatIsUsed : Type 0
ValueNeedsOnlyWhatIsUsed = (e : ExprTree) (cur : Datum) (r s : Row) → Agree (uses e) r s
    → (value e cur r ≡ value e cur s)
    × ((db : Database) (v : Datum) → IsPlain e → Evaluates db e cur r v → Evaluates db e cur s v)

-- an expression may stand for another at any place of a tree, also within a subquery: of an expression then
-- each value is one of the other tree's, and of a query each answer
abbrev pub StandsAtAnyPlace : Type 0
StandsAtAnyPlace = (db : Database) (q e : ExprTree) → StandsFor db q e → (x : Ident)
    → ((tree : ExprTree) → StandsFor db (put x q tree) (put x e tree))
    × ((tree : QueryTree) (start : Row) (out : List Datum)
    → IsAnswer db (put_query x q tree) start out → IsAnswer db (put_query x e tree) start out)

-- of two expressions without a subquery it is enough that they have the same value at every row
abbrev pub EqualPlainStandFor : Type 0
EqualPlainStandFor = (db : Database) (q e : ExprTree) → IsPlain q → IsPlain e
    → ((cur : Datum) (row : Row) → value q cur row ≡ value e cur row)
    → ((start : Row) (vars : List Ident) → collection_meant q start vars ≡ collection_meant e start vars)
    → StandsFor db q e
