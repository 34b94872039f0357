use Rattle.std.proofs.Common.{◌≡◌, ◌++◌, suc, length, take, drop, ap, sym, ◌∙◌, arith}
use Rattle.std.proofs.lemmas.List.{drop_all}
use Rattle.aql_func.specs.inner.Pieces.{piece_of, shift}
use Rattle.aql_func.proofs.Rows.{last_set}
use Rattle.aql_func.proofs.like.put_one.Goals as goal

pub returns : goal.returns
returns c =
    let n = length c.args.text.now in
    let row = c.loop-at.row.items in
    let p = piece_of c.args.piece in
    let e : c.loop-at.at ≡ n = omega (arith, c.loop-at-test.false, c.loop-at.auto.at-end) in
    let l : length row ≡ suc n = omega (arith, c.loop-at.invariant.len, c.requires) in
    let d = drop_all n c.args.text.now (omega arith) in
    last_set row n l ∙ sym (ap (λ cs. take n row ++ shift p cs (drop n row)) d)
    ∙ ap (λ k. take k row ++ shift p (drop k c.args.text.now) (drop k row)) (sym e)
    ∙ c.loop-at.invariant.shifted
