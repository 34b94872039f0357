-- Worked queries: expressions and functions, each with what it prints.
use Rattle.std.specs.Prelude.{negsuc, List, [], ◌∷◌, true, false, Some, codes}
use Rattle.aql_value.specs.Datum.{Datum, number, null, boolean, text}
use Rattle.aql_value.specs.Contents.{list, record_of}
use Rattle.aql_value.specs.declared.operators.BinOp.TheVariants.{And, Or, Eq, Lt, Gt, IsIn, Like, Add, Sub, Mul, Div, Rem}
use Rattle.aql_value.specs.declared.operators.UnaryOp.TheVariants.{Minus, Not}
use Rattle.aql_tree.specs.declared.syntax.QuantKind.TheVariants as quant
use Rattle.aql_tree.specs.Tree.{ExprTree, literal, current, unary_of, array_comparison, range_of}
use Rattle.aql_tree.specs.Build as build
use Rattle.aql_tree.specs.View.{named, inline}
use Rattle.aql_meaning.specs.worked.Words.{num, attr, int, txt, op, fn, returning, Answers}

abbrev pub nothing : ExprTree
nothing = literal null

abbrev pub yes_literal : ExprTree
yes_literal = literal (boolean true)

abbrev pub items : List ExprTree → ExprTree
items es = build.list es

-- `RETURN e` prints one line
abbrev pub Gives : ExprTree → Datum → Type 0
Gives e v = Answers [] (returning [] e) (v ∷ [])

pub record WorkedExpressions : Type 0 where
  -- [5/2, 6/2, 1/0, -7 % 2, "3"+4, 9223372036854775807+1]
  pub arithmetic : Gives
      (items (op (int 5) Div (int 2) ∷ op (int 6) Div (int 2) ∷ op (int 1) Div (int 0)
      ∷ op (unary_of Minus (int 7)) Rem (int 2) ∷ op (txt "3") Add (int 4)
      ∷ op (int 9223372036854775807) Add (int 1) ∷ []))
      (list (null ∷ num 3 ∷ null ∷ number (negsuc 0) ∷ num 7 ∷ null ∷ []))
  -- [{} < {a: null}, [] < [null], {b: 1} < {a: 0}]
  pub order : Gives
      (items (op (build.object []) Lt (build.object (named (codes "a") nothing ∷ []))
      ∷ op (items []) Lt (items (nothing ∷ []))
      ∷ op (build.object (named (codes "b") (int 1) ∷ [])) Lt
      (build.object (named (codes "a") (int 0) ∷ [])) ∷ []))
      (list (boolean true ∷ boolean true ∷ boolean true ∷ []))
  -- 10 - 3 - 2
  pub from_the_left : Gives (build.with_links (int 10) (build.link Sub (int 3)) (build.link Sub (int 2) ∷ []))
      (num 5)
  -- [1..3, 3..1, "abc" LIKE "a%", null || 5, 0 && 7, !""]
  pub ranges_and_logic : Gives
      (items (range_of (int 1) (int 3) ∷ range_of (int 3) (int 1) ∷ op (txt "abc") Like (txt "a%")
      ∷ op nothing Or (int 5) ∷ op (int 0) And (int 7) ∷ unary_of Not (txt "") ∷ []))
      (list (list (num 1 ∷ num 2 ∷ num 3 ∷ []) ∷ list (num 3 ∷ num 2 ∷ num 1 ∷ []) ∷ boolean true
      ∷ num 5 ∷ num 0 ∷ boolean true ∷ []))
  -- [[1,2] ALL > 0, [] ANY == 1, [1] NONE IN [2]]
  pub quantifiers : Gives
      (items (array_comparison (items (int 1 ∷ int 2 ∷ [])) quant.All Gt (int 0)
      ∷ array_comparison (items []) quant.Any Eq (int 1)
      ∷ array_comparison (items (int 1 ∷ [])) quant.None IsIn (items (int 2 ∷ [])) ∷ []))
      (list (boolean true ∷ boolean false ∷ boolean true ∷ []))
  -- [SPLIT("", ""), FLATTEN([1,[2,[3]]], 2), SLICE([1,2,3,4], -3, 2)]
  pub parts_of_lists : Gives
      (items (fn "SPLIT" (txt "" ∷ txt "" ∷ [])
      ∷ fn "FLATTEN" (items (int 1 ∷ items (int 2 ∷ items (int 3 ∷ []) ∷ []) ∷ []) ∷ int 2 ∷ [])
      ∷ fn "SLICE" (items (int 1 ∷ int 2 ∷ int 3 ∷ int 4 ∷ []) ∷ unary_of Minus (int 3) ∷ int 2 ∷ []) ∷ []))
      (list (list [] ∷ list (num 1 ∷ num 2 ∷ num 3 ∷ []) ∷ list (num 2 ∷ num 3 ∷ []) ∷ []))
  -- [SUBSTRING("añb", 1, 1), MERGE([{a: 1}, {a: 2}]), APPEND([1], [1,2], true), LENGTH(true)], where ñ has
  -- the bytes 195, 177
  pub texts_and_objects : Gives
      (items (fn "SUBSTRING" (literal (text (97 ∷ 195 ∷ 177 ∷ 98 ∷ [])) ∷ int 1 ∷ int 1 ∷ [])
      ∷ fn "MERGE" (items (build.object (named (codes "a") (int 1) ∷ [])
      ∷ build.object (named (codes "a") (int 2) ∷ []) ∷ []) ∷ [])
      ∷ fn "APPEND" (items (int 1 ∷ []) ∷ items (int 1 ∷ int 2 ∷ []) ∷ yes_literal ∷ [])
      ∷ fn "LENGTH" (yes_literal ∷ []) ∷ []))
      (list (text (195 ∷ 177 ∷ []) ∷ record_of (attr "a" (num 2) ∷ []) ∷ list
      (num 1 ∷ num 2 ∷ []) ∷ num 1 ∷ []))
  -- [1,2,3][* FILTER CURRENT > 1 RETURN CURRENT * 2]
  pub inline : Gives
      (build.with_steps (items (int 1 ∷ int 2 ∷ int 3 ∷ []))
      (inline (Some (op current Gt (int 1))) (Some (op current Mul (int 2)))) [])
      (list (num 4 ∷ num 6 ∷ []))
