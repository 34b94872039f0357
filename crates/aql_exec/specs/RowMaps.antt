-- LET and RETURN make a row of each row.
use Rattle.std.specs.Prelude.{◌≡◌, List, [], ◌∷◌, map, false, refl}
use Rattle.std.proofs.Common.{ap}
use Rattle.aql_tree.specs.declared.syntax.Ident.{Ident}
use Rattle.aql_tree.specs.Tree.{ExprTree}
use Rattle.aql_meaning.specs.Row.{Row, bind}
use Rattle.aql_meaning.specs.AtRows.{value_of, values_of}
use Rattle.aql_meaning.specs.Clauses.{with_values}
use Rattle.aql_plan.specs.Plan as plan
use Rattle.aql_plan.specs.Runs.{Dataset, result_row}
use Rattle.aql_exec.specs.Counting.{GivesCounting, nothing}

values_set : (x : Ident) (e : ExprTree) (rows : List Row)
    → map (λ row. bind x row (value_of e row)) rows ≡ with_values x rows (values_of e rows)
values_set x e [] = refl
values_set x e (row ∷ rows) = ap (λ out. bind x row (value_of e row) ∷ out) (values_set x e rows)

pub let_maps : (x : Ident) (e : ExprTree) (w : Dataset) (start : Row) (rows : List Row)
    → GivesCounting (plan.Calculation x e) w start rows (map
    (λ row. bind x row (value_of e row)) rows) nothing
let_maps x e w start rows = (values_set x e rows, λ c. refl)

results : (e : ExprTree) (rows : List Row)
    → map (λ row. result_row (value_of e row)) rows ≡ map result_row (values_of e rows)
results e [] = refl
results e (row ∷ rows) = ap (λ out. result_row (value_of e row) ∷ out) (results e rows)

pub return_maps : (e : ExprTree) (w : Dataset) (start : Row) (rows : List Row)
    → GivesCounting (plan.Return false e) w start rows (map (λ row. result_row (value_of e row)) rows) nothing
return_maps e w start rows = (results e rows, λ c. refl)
