use Rattle.std.proofs.lemmas.Result.{on_ok_weaker}
use Rattle.std.specs.Prelude.{codes}
use Rattle.aql_show.specs.Words.{edges_text, vertices_text, order_text}
use Rattle.aql_show.proofs.Appended.{pairs}
use Rattle.aql_show.proofs.parts.write_options.Goals as goal

pub returns : goal.returns
returns c =
    let o = c.args.options in
    on_ok_weaker c.put_pair-3.result
    (λ h. pairs c.args.out.now.items c.put_pair.new.out.items c.put_pair-2.new.out.items
    c.put_pair-3.new.out.items (codes " uniqueEdges=") (codes " uniqueVertices=") (codes " order=")
    c.edges_text.result.now c.vertices_text.result.now c.order_text.result.now
    (edges_text o.edges) (vertices_text o.vertices) (order_text o.bfs)
    c.edges_text.ensures c.vertices_text.ensures c.order_text.ensures
    c.in_ok-put_pair.ensures c.in_ok-put_pair-2.ensures h)
    c.put_pair-3.ensures
