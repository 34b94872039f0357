use Rattle.std.proofs.Common.{◌≡◌, ◌∙◌, ◌<◌, ◌++◌, ◌∷◌, [], refl, ap, arith}
use Rattle.std.proofs.lemmas.List.{map-append, length-map}
use Rattle.aql_value.specs.Contents.{list}
use Rattle.aql_value.specs.View.{datum_of, datums_in}
use Rattle.aql_tree.specs.declared.syntax.Ident.TheVariants.{Num}
use Rattle.aql_block.specs.Tables.{rows_of}
use Rattle.aql_exec.specs.Operators.{Produces}
use Rattle.aql_exec_rows.specs.laws.SomeArrays.{one_not, not_one}
use Rattle.aql_exec_rows.proofs.Arrays.{taken_below, taken_body, taken_last}
use Rattle.aql_exec_rows.proofs.subquery.SubqueryExecutor.take.Goals as goal

pub returns-in-Waiting-clause-leads : goal.returns-in-Waiting-clause-leads
returns-in-Waiting-clause-leads g c v w p body d s0 s ins' ins t b r l0 l1 a e' e os ends h =
    let me = c.args.self.now in
    let z = c.if-input-eq0.true in
    let asked = rw z at c.requires.asked in
    let skipped = asked.2.skipped in
    let offset = asked.1.0.0 in
    taken_below (Produces body (g.W.Surroundings.stock w)) (Num me.var) me.begun (rows_of me.held)
    (rows_of c.args.step.block) s0 s d (ins' 0) (ins 0) t b (ins' 1) (ins 1) r l0
    (omega (arith, l1, skipped, offset)) a (rw z at e') (rw z at e) (os 1 (λ q. one_not (q ∙ z)))
    me.inside (datums_in me.values.items) me.results asked.1.1 asked.1.2 (ap datums_in asked.1.3) h

pub returns-in-HasMore-clause-leads : goal.returns-in-HasMore-clause-leads
returns-in-HasMore-clause-leads g c v w p body d s0 s ins' ins t b r l0 l1 a e' e os ends h =
    let me = c.args.self.now in
    let z = c.if-input-eq0.true in
    let asked = rw z at c.requires.asked in
    let skipped = asked.2.skipped in
    let offset = asked.1.0.0 in
    taken_below (Produces body (g.W.Surroundings.stock w)) (Num me.var) me.begun (rows_of me.held)
    (rows_of c.args.step.block) s0 s d (ins' 0) (ins 0) t b (ins' 1) (ins 1) r l0
    (omega (arith, l1, skipped, offset)) a (rw z at e') (rw z at e) (os 1 (λ q. one_not (q ∙ z)))
    me.inside (datums_in me.values.items) me.results asked.1.1 asked.1.2 (ap datums_in asked.1.3) h

pub returns-in-Done-clause-leads : goal.returns-in-Done-clause-leads
returns-in-Done-clause-leads g c v w p body d s0 s ins' ins t b r l0 l1 a e' e os ends h =
    let me = c.args.self.now in
    let z = c.if-input-eq0.true in
    let asked = rw z at c.requires.asked in
    let skipped = asked.2.skipped in
    let offset = asked.1.0.0 in
    taken_below (Produces body (g.W.Surroundings.stock w)) (Num me.var) me.begun (rows_of me.held)
    (rows_of c.args.step.block) s0 s d (ins' 0) (ins 0) t b (ins' 1) (ins 1) r l0
    (omega (arith, l1, skipped, offset)) a (rw z at e') (rw z at e) (os 1 (λ q. one_not (q ∙ z)))
    me.inside (datums_in me.values.items) me.results asked.1.1 asked.1.2 (ap datums_in asked.1.3) h

pub returns-in-Waiting-progress-clause-leads : goal.returns-in-Waiting-progress-clause-leads
returns-in-Waiting-progress-clause-leads g c v w p body d s0 s ins' ins t b r l0 l1 a e' e os ends h =
    let me = c.args.self.now in
    let within : c.args.input < 2 = c.requires.input in
    let second = c.if-input-eq0.false in
    let z : c.args.input ≡ 1 = omega (arith, within, second) in
    let asked = rw z at c.requires.asked in
    let skipped = asked.2.skipped in
    let offset = asked.1.0.0 in
    taken_body (Produces body (g.W.Surroundings.stock w)) (Num me.var) me.begun (rows_of me.held)
    (rows_of c.args.step.block) s0 s d (ins' 1) (ins 1) t b (ins' 0) (ins 0) r l0
    (omega (arith, l1, skipped, offset)) a (rw z at e') (rw z at e) (os 0 (λ q. not_one (q ∙ z)))
    me.inside (datums_in me.values.items) me.results c.add_results.new.results asked.1.1
    (c.requires.valid.1.running asked.1.1).0 c.in_ok-add_results.ensures h

pub returns-in-HasMore-progress-clause-leads : goal.returns-in-HasMore-progress-clause-leads
returns-in-HasMore-progress-clause-leads g c v w p body d s0 s ins' ins t b r l0 l1 a e' e os ends h =
    let me = c.args.self.now in
    let within : c.args.input < 2 = c.requires.input in
    let second = c.if-input-eq0.false in
    let z : c.args.input ≡ 1 = omega (arith, within, second) in
    let asked = rw z at c.requires.asked in
    let skipped = asked.2.skipped in
    let offset = asked.1.0.0 in
    taken_body (Produces body (g.W.Surroundings.stock w)) (Num me.var) me.begun (rows_of me.held)
    (rows_of c.args.step.block) s0 s d (ins' 1) (ins 1) t b (ins' 0) (ins 0) r l0
    (omega (arith, l1, skipped, offset)) a (rw z at e') (rw z at e) (os 0 (λ q. not_one (q ∙ z)))
    me.inside (datums_in me.values.items) me.results c.add_results.new.results asked.1.1
    (c.requires.valid.1.running asked.1.1).0 c.in_ok-add_results.ensures h

pub returns-in_ok-push-in-Done-progress-clause-leads :
    goal.returns-in_ok-push-in-Done-progress-clause-leads
returns-in_ok-push-in-Done-progress-clause-leads g c v w p body d s0 s ins' ins t b r l0 l1 a e' e os ends h =
    let me = c.args.self.now in
    let within : c.args.input < 2 = c.requires.input in
    let second = c.if-input-eq0.false in
    let z : c.args.input ≡ 1 = omega (arith, within, second) in
    let asked = rw z at c.requires.asked in
    let skipped = asked.2.skipped in
    let offset = asked.1.0.0 in
    let running = c.requires.valid.1.running asked.1.1 in
    let few = running.2 in
    let count = length-map me.values.items datum_of in
    let more : datums_in c.push.new.self.items
    ≡ datums_in me.values.items ++ list c.add_results.new.results ∷ [] =
    ap datums_in c.in_ok-push-in-Done-progress.ensures.items ∙ map-append datum_of me.values.items (_ ∷ [])
    ∙ ap (λ results. datums_in me.values.items ++ list results ∷ []) c.replace-results.ensures.value in
    taken_last (Produces body (g.W.Surroundings.stock w)) (Num me.var) me.begun (rows_of me.held)
    (rows_of c.args.step.block) s0 s d (ins' 1) (ins 1) t b (ins' 0) (ins 0) r l0
    (omega (arith, l1, skipped, offset)) a (rw z at e') (rw z at e) (os 0 (λ q. not_one (q ∙ z)))
    me.inside (datums_in me.values.items) (datums_in c.push.new.self.items) me.results
    c.add_results.new.results c.replace-results.new.dest asked.1.1 running.0 c.in_ok-add_results.ensures more
    (omega (arith, few, count)) (ends 1 refl).0 h
