use Rattle.std.proofs.Common.{◌∙◌, List, Bool, ap, ap₂, sym}
use Rattle.aql_tree.specs.declared.syntax.Ident.TheVariants.{Num}
use Rattle.aql_tree.specs.Tree.{ExprTrees}
use Rattle.aql_plan.specs.Facts.{attributes_in}
use Rattle.aql_rules_cluster.specs.inner.Gathers.{Gathering, gathering_by}
use Rattle.aql_rules_cluster.proofs.Keys.{directions_are, attributes_are}
use Rattle.aql_rules_cluster.proofs.gathers.index_gathering.Goals as goal

pub returns : goal.returns
returns c =
    let coll = c.args.coll.0 in
    let names = attributes_in c.args.facts.now coll c.args.index in
    let order = c.in_ok-order.order in
    let descending = c.in-Some.descending in
    let made : List Bool → ExprTrees → Gathering
    = λ ds es. record { coll = coll; directions = ds; keys = es } in
    ap₂ made (directions_are (Num c.args.var) descending order names c.in_ok-order.ensures)
    (attributes_are (Num c.args.var) descending order names c.in_ok-order.ensures)
    ∙ ap (gathering_by c.args.facts.now (Num c.args.var) coll c.args.index) (sym c.in-Some.is)
