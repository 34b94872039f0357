use Rattle.std.proofs.Common.{◌∙◌, ◌++◌, append_assoc, append-nil, sym, ap, arith}
use Rattle.std.proofs.lemmas.List.{nil_from_length}
use Rattle.aql_block.specs.Tables.{rows_of}
use Rattle.aql_engine.specs.Run.{rows_in}
use Rattle.aql_exec_cluster.specs.Shared.{rows_at}
use Rattle.aql_exec_cluster.specs.Routings.{rows_to}
use Rattle.aql_exec_cluster.proofs.Scattered.{rows_push}
use Rattle.aql_exec_cluster.proofs.scatter.copy_rest.Goals as goal

pub loop-rest-preserved : goal.loop-rest-preserved
loop-rest-preserved c =
    let rest = c.loop-rest.rest in
    let after = rows_to c.args.routing.now c.args.target (rows_at c.args.blocks.now c.copy_sent.new.place) in
    ap (λ z. rows_in z ++ after) c.in_ok-push.ensures.ok
    ∙ ap (λ z. z ++ after) (rows_push rest c.in_ok-block.block)
    ∙ append_assoc (rows_in rest) (rows_of c.in_ok-block.block) after
    ∙ ap (λ z. rows_in rest ++ z) (sym c.in_ok-block.ensures.rows) ∙ c.loop-rest.invariant

pub loop-rest-smaller : goal.loop-rest-smaller
loop-rest-smaller c =
    let less = c.in_ok-block.ensures.left in
    let some = c.if-len-eq0.false in
    let len = c.len.ensures in
    omega (arith, less, some, len)

pub returns-then-len-eq0 : goal.returns-then-len-eq0
returns-then-len-eq0 c =
    let rest = rows_in c.loop-rest.rest in
    let zero = c.if-len-eq0.true in
    let len = c.len.ensures in
    let given = nil_from_length (rows_of c.in_ok-block.block) (omega (arith, zero, len)) in
    let none = c.in_ok-block.ensures.none given in
    sym (append-nil rest)
    ∙ ap (λ z. rest ++ z) (sym (c.in_ok-block.ensures.rows ∙ ap (λ z. z ++ rows_to c.args.routing.now c.args.target
    (rows_at c.args.blocks.now c.copy_sent.new.place)) given ∙ none))
    ∙ c.loop-rest.invariant
