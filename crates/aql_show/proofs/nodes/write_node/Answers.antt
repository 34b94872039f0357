use Rattle.std.proofs.Common.{ap, sym, ◌∙◌, ◌++◌, map, option_map}
use Rattle.std.proofs.lemmas.Result.{on_ok_weaker}
use Rattle.std.specs.Prelude.{codes, List, ℕ}
use Rattle.aql_value.specs.declared.lists.CollNo.{CollNo}
use Rattle.aql_tree.specs.declared.syntax.Ident.TheVariants.{Num}
use Rattle.aql_tree.specs.declared.syntax.Expr.{Expr}
use Rattle.aql_tree.specs.View.{tree}
use Rattle.aql_meaning.specs.View.{last_tree, options_tree}
use Rattle.aql_plan.specs.declared.plan.Node.{Node}
use Rattle.aql_plan.specs.View.{node_tree, maybe_tree, expr_trees}
use Rattle.aql_show.specs.Exprs.{expr_text}
use Rattle.aql_show.specs.Lists.{listed}
use Rattle.aql_show.specs.Names.{variable_text, collection_text}
use Rattle.aql_show.specs.Nodes.{node_text, source_text, reading_text, use_text, ordered_text, walk_text, paths_text}
use Rattle.aql_show.proofs.Appended.{over_list, read, used, with_let, with_start}
use Rattle.aql_show.proofs.nodes.write_node.Goals as goal

pub returns-in_ok-write_source-in-EnumerateCollection : goal.returns-in_ok-write_source-in-EnumerateCollection
returns-in_ok-write_source-in-EnumerateCollection c =
    let n = c.in-EnumerateCollection in
    let names = c.args.known.now.names.now in
    let facts = c.args.known.now.facts.now in
    let out = c.args.out.now.items in
    on_ok_weaker c.write_reading.result
    (λ h. read out c.write_source.new.out.items c.write_reading.new.out.items
    (codes "EnumerateCollection ") (source_text names facts (Num n.var) n.coll.0)
    (reading_text names (maybe_tree n.filter) n.attrs n.shard)
    c.in_ok-write_source-in-EnumerateCollection.ensures h
    ∙ ap (λ (d : Node). out ++ node_text names facts (node_tree d)) (sym n.is))
    c.write_reading.ensures

pub returns-in_ok-put-in-Index : goal.returns-in_ok-put-in-Index
returns-in_ok-put-in-Index c =
    let n = c.in-Index in
    let names = c.args.known.now.names.now in
    let facts = c.args.known.now.facts.now in
    let out = c.args.out.now.items in
    on_ok_weaker c.write_reading-in-Index.result
    (λ h. used out c.write_source-in-Index.new.out.items c.write_use.new.out.items
    c.put.new.out.items c.write_reading-in-Index.new.out.items
    (codes "Index ") (source_text names facts (Num n.var) n.coll.0)
    (use_text names facts (Num n.var) n.coll.0 n.index (expr_trees n.equal) (last_tree n.last))
    (ordered_text n.ordered) (reading_text names (maybe_tree n.filter) n.attrs n.shard)
    c.in_ok-write_source-in-Index.ensures
    (c.in_ok-write_use-in-Index.ensures
    ∙ ap (λ (es : List Expr). c.write_source-in-Index.new.out.items
    ++ use_text names facts (Num n.var) n.coll.0 n.index (expr_trees es) (last_tree n.last))
    c.as_slice.ensures)
    (c.in_ok-put-in-Index.ensures ∙ ap (λ (t : List ℕ). c.write_use.new.out.items ++ t)
    c.ordered_text.ensures) h
    ∙ ap (λ (d : Node). out ++ node_text names facts (node_tree d)) (sym n.is))
    c.write_reading-in-Index.ensures

pub returns-in-EnumerateList : goal.returns-in-EnumerateList
returns-in-EnumerateList c =
    let n = c.in-EnumerateList in
    let names = c.args.known.now.names.now in
    let facts = c.args.known.now.facts.now in
    let out = c.args.out.now.items in
    on_ok_weaker c.write_let.result
    (λ h. over_list out c.write_let.new.out.items
    (codes "EnumerateList ") (variable_text names (Num n.var)) (codes " IN ") (expr_text names (tree n.list)) h
    ∙ ap (λ (d : Node). out ++ node_text names facts (node_tree d)) (sym n.is))
    c.write_let.ensures

pub returns-in_ok-write_collections-in-Traversal : goal.returns-in_ok-write_collections-in-Traversal
returns-in_ok-write_collections-in-Traversal c =
    let n = c.in-Traversal in
    let names = c.args.known.now.names.now in
    let facts = c.args.known.now.facts.now in
    let out = c.args.out.now.items in
    on_ok_weaker c.write_paths.result
    (λ h. with_start out c.put-in-Traversal.new.out.items c.write_walk.new.out.items
    c.write_after.new.out.items
    c.write_collections.new.out.items c.write_paths.new.out.items
    (codes "Traversal ") (walk_text names (Num n.vertex) (option_map (λ x. Num x) n.edge)
    (option_map (λ x. Num x) n.path) n.min n.max n.direction)
    (codes " ") (expr_text names (tree n.start))
    (listed (codes " ") (codes ",") (map (collection_text facts) (map (λ (c : CollNo). c.0) n.collections)))
    (paths_text names (maybe_tree n.prune) (options_tree n.options) (maybe_tree n.filter))
    c.in_ok-put-in-Traversal.ensures c.in_ok-write_walk-in-Traversal.ensures
    c.in_ok-write_after-in-Traversal.ensures
    (c.in_ok-write_collections-in-Traversal.ensures
    ∙ ap (λ (cs : List CollNo). c.write_after.new.out.items ++ listed (codes " ") (codes ",")
    (map (collection_text facts) (map (λ (c : CollNo). c.0) cs))) c.as_slice-in-Traversal.ensures) h
    ∙ ap (λ (d : Node). out ++ node_text names facts (node_tree d)) (sym n.is))
    c.write_paths.ensures

pub returns-in-Calculation : goal.returns-in-Calculation
returns-in-Calculation c =
    let n = c.in-Calculation in
    let names = c.args.known.now.names.now in
    let facts = c.args.known.now.facts.now in
    let out = c.args.out.now.items in
    on_ok_weaker c.write_let-in-Calculation.result
    (λ h. with_let out c.write_let-in-Calculation.new.out.items
    (codes "Calculation ") (variable_text names (Num n.var)) (codes " = ") (expr_text names (tree n.expr)) h
    ∙ ap (λ (d : Node). out ++ node_text names facts (node_tree d)) (sym n.is))
    c.write_let-in-Calculation.ensures
