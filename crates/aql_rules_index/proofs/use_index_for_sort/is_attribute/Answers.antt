use Rattle.std.proofs.Common.{◌∙◌, sym, ap₂}
use Rattle.std.specs.Prelude.{bytes_eq}
use Rattle.aql_tree.specs.View.{tree}
use Rattle.aql_tree.specs.declared.syntax.Ident.TheVariants.{Num}
use Rattle.aql_rules_index.proofs.KeysFound.{found_is, none_is}
use Rattle.aql_rules_index.proofs.use_index_for_sort.is_attribute.Goals as goal

pub returns-in-Some : goal.returns-in-Some
returns-in-Some c = found_is (Num c.args.var) (tree c.args.expr.now) c.in-Some.found.now c.args.name.now
    _ (sym c.in-Some.ensures)
    (c.eq.ensures ∙ ap₂ bytes_eq c.as_str.ensures c.as_str-in-Some.ensures)

pub returns-in-None : goal.returns-in-None
returns-in-None c = none_is (Num c.args.var) (tree c.args.expr.now) c.args.name.now (sym c.in-None.ensures)
