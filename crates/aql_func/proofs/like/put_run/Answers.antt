use Rattle.std.proofs.Common.{◌≡◌, ◌<◌, ◌-◌, ◌||◌, suc, length, take, drop, get_or, ap, subst, sym, ◌∙◌, refl, add-one, arith}
use Rattle.aql_func.specs.inner.Pieces.{ors}
use Rattle.aql_func.proofs.Rows.{ors_last, ors_more, front_kept, row_kept}
use Rattle.aql_func.proofs.like.put_run.Goals as goal

pub loop-at-init : goal.loop-at-init
loop-at-init c =
    let n = c.len-at.ensures in
    let r = c.requires in
    record {
      inside = omega arith;
      len = refl;
      front = refl;
      back =
          ors_last c.args.row.now.items (c.len-at.result - 1) (omega arith);
    }

pub loop-at-preserved : goal.loop-at-preserved
loop-at-preserved c =
    let row = c.loop-at.row.items in
    let old = c.args.row.now.items in
    let k = c.loop-at.at - 1 in
    let x = c.index_mut.result.now in
    let y = c.index-later.result.now in
    let e : c.loop-at.at ≡ suc k = omega (arith, c.loop-at-test.true) in
    let inside : suc k < length row = omega (arith, e, c.loop-at.invariant.inside) in
    let front = subst (λ n. take n row ≡ take n old) e c.loop-at.invariant.front in
    let back = subst (λ n. drop n row ≡ ors (drop n old)) e c.loop-at.invariant.back in
    let q = c.index-later.ensures ∙ ap (λ n. get_or row n y) (add-one k) in
    let n = row_kept row k (x || y) in
    record {
      inside = subst (λ m. k < m) (sym n) (omega (arith, inside));
      len = n ∙ c.loop-at.invariant.len;
      front = front_kept row old k (x || y) front;
      back = ors_more row old k x y inside c.index_mut.ensures.value q front back;
    }
