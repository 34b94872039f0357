use Rattle.std.proofs.Common.{◌+◌, ◌∷◌, ◌++◌, [], drop, true, cond, ap, sym, ◌∙◌}
use Rattle.aql_value.specs.View.{datum_of, datums_in}
use Rattle.aql_value.specs.Contents.{is_in}
use Rattle.aql_func.specs.Lists.{add_all}
use Rattle.aql_func.proofs.Steps.{left}
use Rattle.aql_func.specs.laws.Firsts.{in_firsts, seen_more}
use Rattle.aql_func.proofs.lists.add_all_once.Goals as goal

pub loop-value-init : goal.loop-value-init
loop-value-init c = record {
  added = ap (λ l. add_all true l (datums_in c.args.more.now)) c.in_ok-out.ensures;
  seen = λ t. ap (λ ks. is_in ks t) c.in_ok-seen.ensures ∙ in_firsts (datums_in c.args.values.now) t
      ∙ ap (λ l. is_in l t) (sym c.in_ok-out.ensures);
}

pub loop-value-preserved : goal.loop-value-preserved
loop-value-preserved c =
    let x = datum_of c.value-item.result in
    let ks = datums_in c.loop-value.seen.keys in
    let out = c.loop-value.out in
    let rest =
    left c.args.more.now c.loop-value.value-index c.value-item.result c.loop-value-test.true
    c.value-item.is in
    let m = sym (ap (add_all true out) rest) ∙ c.loop-value.invariant.added in
    let o = c.in_ok-add_once.ensures.out
    ∙ ap (λ b. cond b out (out ++ x ∷ [])) (c.loop-value.invariant.seen x) in
    record {
      added = ap (λ l. add_all true l (datums_in (drop (c.loop-value.value-index + 1) c.args.more.now))) o
          ∙ m;
      seen = λ t. ap (λ l. is_in l t) c.in_ok-add_once.ensures.seen
          ∙ seen_more ks out x c.loop-value.invariant.seen t ∙ ap (λ l. is_in l t) (sym o);
    }
