use Rattle.std.proofs.Common.{◌++◌, [], refl, sym, ◌∙◌, subst, arith}
use Rattle.std.proofs.lemmas.List.{nil_from_length}
use Rattle.aql_block.specs.Tables.{rows_of}
use Rattle.aql_exec.specs.laws.Telling.{only_input}
use Rattle.aql_exec.proofs.Advancing.{put_adding}
use Rattle.aql_exec.proofs.stream.StreamExecutor.take.Goals as goal

pub returns-in-Waiting-clause-leads : goal.returns-in-Waiting-clause-leads
returns-in-Waiting-clause-leads g c v w p body d s0 s ins' ins t b r l0 l1 a e' e os ends h =
    let first = only_input c.args._input c.requires.input in
    let ask = rw first at c.requires.asked.1 in
    let skipped = c.requires.asked.2.skipped in
    let offset = ask.0 in
    let stock = g.W.Surroundings.stock w in
    let block = rows_of c.args.step.block in
    let before = g.T.Transform.left c.args.self.now.transform stock in
    put_adding before (g.T.Transform.left c.put.new.self stock) block s0 s d (ins' 0) (ins 0) t b r l0
    (omega (arith, l1, skipped, offset)) a (rw first at e') (rw first at e)
    (λ rows own z x. c.in_ok-put.ensures.left stock rows own x) h

pub returns-in-HasMore-clause-leads : goal.returns-in-HasMore-clause-leads
returns-in-HasMore-clause-leads g c v w p body d s0 s ins' ins t b r l0 l1 a e' e os ends h =
    let first = only_input c.args._input c.requires.input in
    let ask = rw first at c.requires.asked.1 in
    let skipped = c.requires.asked.2.skipped in
    let offset = ask.0 in
    let stock = g.W.Surroundings.stock w in
    let block = rows_of c.args.step.block in
    let before = g.T.Transform.left c.args.self.now.transform stock in
    put_adding before (g.T.Transform.left c.put.new.self stock) block s0 s d (ins' 0) (ins 0) t b r l0
    (omega (arith, l1, skipped, offset)) a (rw first at e') (rw first at e)
    (λ rows own z x. c.in_ok-put.ensures.left stock rows own x) h

pub returns-in-Done-clause-leads : goal.returns-in-Done-clause-leads
returns-in-Done-clause-leads g c v w p body d s0 s ins' ins t b r l0 l1 a e' e os ends h =
    let first = only_input c.args._input c.requires.input in
    let ask = rw first at c.requires.asked.1 in
    let skipped = c.requires.asked.2.skipped in
    let offset = ask.0 in
    let stock = g.W.Surroundings.stock w in
    let block = rows_of c.args.step.block in
    let before = g.T.Transform.left c.args.self.now.transform stock in
    let after = g.T.Transform.left c.close.new.self stock in
    let none = nil_from_length (ins' 0).rows (ends 0 refl).0 in
    put_adding before after block s0 s d (ins' 0) (ins 0) t b r l0 (omega (arith, l1, skipped, offset)) a
    (rw first at e') (rw first at e)
    (λ rows own z x. (let n = z ∙ none in subst (λ y. before (block ++ y) own) (sym n)
    (c.in_ok-put.ensures.left stock [] own (c.close.ensures.left stock own
    (subst (λ y. after y own) n x))))) h
