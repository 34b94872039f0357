use Rattle.std.proofs.Common.{◌∷◌, [], ◌++◌, length, true, false, cond, not, sym, ap, ◌∙◌, arith, length-append}
use Rattle.std.proofs.lemmas.List.{map-append}
use Rattle.aql_value.specs.View.{datum_of, datums_in}
use Rattle.aql_value.specs.Contents.{is_in}
use Rattle.aql_func.specs.Lists.{add, add_all}
use Rattle.aql_func.specs.laws.Firsts.{any_tree, keys_noted}
use Rattle.aql_exec.specs.FirstResults.{unseen}
use Rattle.aql_exec.specs.laws.Firsts.{take_one, is_new, is_old}
use Rattle.aql_exec.proofs.distinct.take_new.Goals as goal

pub loop-value-preserved-in_ok-push : goal.loop-value-preserved-in_ok-push
loop-value-preserved-in_ok-push c =
    let t = datum_of c.in-Some.value in
    let ks = c.loop-value.seen.keys in
    let seen = datums_in ks in
    let out = datums_in c.loop-value.out.items in
    let more = datums_in c.next.new.self.rest.items in
    let step = ap datums_in c.in-Some.ensures.steps.0 in
    let new = is_new _ _ c.if-branch.true (c.in_ok-insert.ensures.added
    ∙ ap not (any_tree c.in_ok-copy.field-0 ks ∙ ap (is_in seen) c.in_ok-copy.ensures)) in
    let keys = ap datums_in c.in_ok-insert.ensures.keys ∙ keys_noted ks c.in_ok-copy.field-0
    ∙ ap (add true seen) c.in_ok-copy.ensures in
    let pushed = ap datums_in c.in_ok-push.ensures.items
    ∙ map-append datum_of c.loop-value.out.items (c.in-Some.value ∷ []) in
    let n = ap length c.in_ok-push.ensures.items in
    let m = length-append c.loop-value.out.items (c.in-Some.value ∷ []) in
    let k = ap length c.in-Some.ensures.steps.0 in
    let fewer = c.loop-value.invariant.fewer in
    record {
      results = ap (λ l. l ++ unseen (datums_in c.insert.new.self.keys) more) pushed
          ∙ ap (λ l. (out ++ t ∷ []) ++ unseen l more)
          (keys ∙ ap (λ b. cond b seen (seen ++ t ∷ [])) new)
          ∙ take_one false seen t more out new ∙ ap (λ l. out ++ unseen seen l) (sym step)
          ∙ c.loop-value.invariant.results;
      seen = ap (λ l. add_all true l more) keys ∙ ap (add_all true seen) (sym step)
          ∙ c.loop-value.invariant.seen;
      fewer = omega (arith, n, m, k, fewer);
    }

pub loop-value-preserved : goal.loop-value-preserved
loop-value-preserved c =
    let t = datum_of c.in-Some.value in
    let ks = c.loop-value.seen.keys in
    let seen = datums_in ks in
    let out = datums_in c.loop-value.out.items in
    let more = datums_in c.next.new.self.rest.items in
    let step = ap datums_in c.in-Some.ensures.steps.0 in
    let old = is_old _ _ c.if-branch.false (c.in_ok-insert.ensures.added
    ∙ ap not (any_tree c.in_ok-copy.field-0 ks ∙ ap (is_in seen) c.in_ok-copy.ensures)) in
    let keys = ap datums_in c.in_ok-insert.ensures.keys ∙ keys_noted ks c.in_ok-copy.field-0
    ∙ ap (add true seen) c.in_ok-copy.ensures in
    let k = ap length c.in-Some.ensures.steps.0 in
    let fewer = c.loop-value.invariant.fewer in
    record {
      results = ap (λ l. out ++ unseen l more) (keys ∙ ap (λ b. cond b seen (seen ++ t ∷ [])) old)
          ∙ take_one true seen t more out old ∙ ap (λ l. out ++ unseen seen l) (sym step)
          ∙ c.loop-value.invariant.results;
      seen = ap (λ l. add_all true l more) keys ∙ ap (add_all true seen) (sym step)
          ∙ c.loop-value.invariant.seen;
      fewer = omega (arith, k, fewer);
    }
