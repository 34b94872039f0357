use Rattle.std.proofs.Common.{◌≡◌, ◌≤◌, length, refl, sym, ap, ◌∙◌, subst, arith}
use Rattle.std.specs.Prelude.{slice_get, Some}
use Rattle.std.proofs.lemmas.Option.{slice_get_read}
use Rattle.aql_block.specs.Tables.{rows_of}
use Rattle.aql_exec_cluster.proofs.Sharing.{next_block, past_blocks}
use Rattle.aql_exec_cluster.proofs.blocks.Blocks.seek.Goals as goal

pub loop-block-preserved : goal.loop-block-preserved
loop-block-preserved c =
    let place = c.loop-block.place in
    let block = c.in-Some.block.now in
    let found = c.in-Some.ensures.lookup in
    let same = c.deref.ensures.value ∙ c.self.view_is in
    let here = subst (λ bs. slice_get bs place.block ≡ Some block) same
    (slice_get_read c.deref.result.now _ place.block block refl found.3.0 found.1) in
    let past : length (rows_of block) ≤ place.row =
    (let len = c.len.ensures in let h = c.if-place-len.false in omega (arith, len, h)) in
    next_block c.args.self.now place.block place.row block here past ∙ c.loop-block.invariant

pub returns-clause-found : goal.returns-clause-found
returns-clause-found c =
    let place = c.loop-block.place in
    let same = ap length (c.deref.ensures.value ∙ c.self.view_is) in
    let none = c.in_default.ensures.lookup.3 in
    sym c.loop-block.invariant
    ∙ past_blocks c.args.self.now place.block place.row (omega (arith, same, none))
