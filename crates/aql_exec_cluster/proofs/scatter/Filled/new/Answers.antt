use Rattle.std.proofs.Common.{◌≡◌, ◌∙◌, ◌*◌, ◌++◌, ◌∷◌, [], length, replicate, ap, arith}
use Rattle.std.specs.Prelude.{None}
use Rattle.std.proofs.lemmas.List.{replicate_more}
use Rattle.aql_engine.specs.Run.{rows_in}
use Rattle.aql_exec_cluster.proofs.Scattered.{all_start, start_count}
use Rattle.aql_exec_cluster.proofs.scatter.Filled.new.Goals as goal

pub loop-port-preserved : goal.loop-port-preserved
loop-port-preserved c =
    c.in_ok-push.ensures.items ∙ ap (λ z. z ++ None ∷ []) c.loop-port.invariant ∙ replicate_more
    c.loop-port._port None

pub returns-clause-start : goal.returns-clause-start
returns-clause-start c p =
    all_start c.in_ok-blocks.blocks.value c.loop-port.places.items c.loop-port._port p c.loop-port.invariant
    ∙ ap rows_in c.in_ok-blocks.ensures.ok

pub returns-clause-rows : goal.returns-clause-rows
returns-clause-rows c =
    let end = c.loop-port-test.false in
    let most = c.loop-port.auto._port-end in
    let all : c.loop-port._port ≡ c.args.ports = omega (arith, end, most) in
    start_count c.in_ok-blocks.blocks.value c.loop-port.places.items c.args.ports
    (c.loop-port.invariant ∙ ap (λ n. replicate n None) all)
    ∙ ap (λ z. c.args.ports * length (rows_in z)) c.in_ok-blocks.ensures.ok
