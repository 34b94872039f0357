use Rattle.std.proofs.Common.{length, sym, ap, ◌∙◌}
use Rattle.std.proofs.lemmas.List.{length-map}
use Rattle.aql_tree.specs.declared.syntax.Ident.TheVariants.{Num}
use Rattle.aql_tree.specs.View.{tree}
use Rattle.aql_value.specs.View.{datum_of}
use Rattle.aql_meaning.specs.Row.{empty_row}
use Rattle.aql_meaning.specs.AtRows.{value_of}
use Rattle.aql_meaning.specs.Clauses.{with_values}
use Rattle.aql_block.specs.Tables.{rows_of}
use Rattle.aql_exec.specs.RowMaps.{let_maps}
use Rattle.aql_exec.proofs.calculation.LetRowMap.map.Goals as goal

pub set-requires : goal.set-requires
set-requires g c =
    sym (length-map c.in_ok-values.values.items datum_of) ∙ ap length c.in_ok-values.ensures
    ∙ length-map (rows_of c.args.block) (value_of (tree c.args.self.now.expr))

pub returns : goal.returns
returns g c =
    let var = Num c.args.self.now.var in
    c.in_ok-set.ensures.ok ∙ ap (with_values var (rows_of c.args.block)) c.in_ok-values.ensures
    ∙ sym (let_maps var (tree c.args.self.now.expr) (g.W.Surroundings.stock c.args._world.now) empty_row
    (rows_of c.args.block)).0
