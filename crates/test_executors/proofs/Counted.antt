-- How many rows a block of values has.
use Rattle.std.proofs.Common.{◌≡◌, ℕ, List, map, length, ap, ◌∙◌}
use Rattle.std.proofs.lemmas.List.{length-map}
use Rattle.aql_value.specs.View.{datum_of, datums_in}
use Rattle.aql_value.specs.declared.values.Value.{Value}
use Rattle.aql_tree.specs.declared.syntax.Ident.TheVariants.{Num}
use Rattle.aql_meaning.specs.Row.{empty_row, bind}
use Rattle.aql_block.specs.Tables.{Table, rows_of}

pub as_many : (b : Table) (var : ℕ) (values : List Value)
    → rows_of b ≡ map (bind (Num var) empty_row) (datums_in values) → length (rows_of b) ≡ length values
as_many b var values e =
    ap length e ∙ length-map (datums_in values) (bind (Num var) empty_row) ∙ length-map values datum_of
