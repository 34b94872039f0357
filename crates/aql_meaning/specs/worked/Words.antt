-- Short words for the worked queries: values, expressions, databases, and what it is to be an answer.
use Rattle.std.specs.Prelude.{ℕ, pos, List, [], ◌∷◌, true, false, Option, codes, IsPermutation}
use Prim.Native.String.{String}
use Rattle.aql_value.specs.Datum.{Datum, number, text}
use Rattle.aql_value.specs.Contents.{record_of}
use Rattle.aql_value.specs.Database.{Database, Collection}
use Rattle.aql_value.specs.declared.operators.BinOp.{BinOp}
use Rattle.aql_tree.specs.Tree.{ExprTree, literal, ClauseTree, QueryTree}
use Rattle.aql_tree.specs.Build as build
use Rattle.aql_tree.specs.View.{name, AggregatePart}
use Rattle.aql_meaning.specs.Row.{empty_row}
use Rattle.aql_meaning.specs.Meaning.{IsAnswer}

-- ---- values

abbrev pub num : ℕ → Datum
num n = number (pos n)

abbrev pub str : String → Datum
str s = text (codes s)

abbrev pub attr : String → Datum → List ℕ × Datum
attr key v = (codes key, v)

-- the documents of a collection, by their keys and their other attributes, of which each name is above `_key`
abbrev pub document : String → String → List (List ℕ × Datum) → Datum
document id key attributes = record_of (attr "_id" (str id) ∷ attr "_key" (str key) ∷ attributes)

-- an edge by its id, the id that it leaves and the id that it enters
abbrev pub edge : String → String → String → Datum
edge id from to = record_of (attr "_from" (str from) ∷ attr "_id" (str id) ∷ attr "_to" (str to) ∷ [])

abbrev pub collection : String → List Datum → Collection
collection called documents = record { name = codes called; edge = false; documents = documents }

abbrev pub edge_collection : String → List Datum → Collection
edge_collection called documents = record { name = codes called; edge = true; documents = documents }

-- ---- expressions and clauses

abbrev pub int : ℕ → ExprTree
int n = literal (num n)

abbrev pub txt : String → ExprTree
txt s = literal (str s)

abbrev pub var : String → ExprTree
var x = build.name (codes x)

abbrev pub dot : ExprTree → String → ExprTree
dot e attribute = build.with_steps e (name (codes attribute)) []

-- `left op right`
abbrev pub op : ExprTree → BinOp → ExprTree → ExprTree
op left o right = build.with_links left (build.link o right) []

abbrev pub fn : String → List ExprTree → ExprTree
fn f es = build.call (codes f) es

abbrev pub for : String → ExprTree → ClauseTree
for x e = build.for_in (codes x) e

abbrev pub set : String → ExprTree → ClauseTree
set x e = build.let_in (codes x) e

abbrev pub agg : String → String → Option ExprTree → AggregatePart
agg x f argument = build.aggregate_as (codes x) (codes f) argument

-- the clauses and `RETURN e`
abbrev pub returning : List ClauseTree → ExprTree → QueryTree
returning cs e = build.query [] cs false e

-- ---- answers

-- these values are an answer of the query, without outer variables
pub record Answers (db : Database) (q : QueryTree) (values : List Datum) : Type 0 where
  pub answer : IsAnswer db q empty_row values

-- these values are an answer in any order
pub record AnswersInAnyOrder (db : Database) (q : QueryTree) (values : List Datum) : Type 0 where
  pub answer : (out : List Datum) → IsPermutation values out → IsAnswer db q empty_row out

-- these values are no answer
pub record IsNoAnswer (db : Database) (q : QueryTree) (values : List Datum) : Type 0 where
  pub refuted : IsAnswer db q empty_row values → ⊥
