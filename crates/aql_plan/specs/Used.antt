-- What the uses of the program stand for, and which accesses look at one attribute of a variable alone.
use Rattle.std.specs.Prelude.{List, map, Option, Some, None}
use Rattle.aql_tree.specs.Tree.{ExprTree, variable, StepTrees, name_then}
use Rattle.aql_meaning.specs.Uses as uses
use Rattle.aql_plan.specs.declared.uses.Use.{Use}
use Rattle.aql_plan.specs.declared.uses.Use.TheVariants as code

abbrev pub use_tree : Use → uses.Use
use_tree (code.Whole x) = uses.Whole x
use_tree (code.Attribute x name) = uses.Attribute x name

abbrev pub uses_tree : List Use → uses.Uses
uses_tree us = map use_tree us

-- the attribute that an access looks at, where it looks at one of a variable
abbrev pub attribute_used : ExprTree → StepTrees → Option uses.Use
attribute_used (variable x) (name_then name ss) = Some (uses.Attribute x name)
attribute_used e ss = None
