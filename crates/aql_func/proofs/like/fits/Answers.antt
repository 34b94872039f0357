use Rattle.std.proofs.Common.{◌≡◌, length, map, drop, get_or, ap, ◌∙◌, arith}
use Rattle.aql_func.specs.inner.Pieces.{piece_of, row_of}
use Rattle.aql_func.proofs.Rows.{row_counted, row_head}
use Rattle.aql_func.proofs.like.fits.Goals as goal

pub put_before-requires : goal.put_before-requires
put_before-requires c =
    let n = ap length c.loop-at.invariant.1
    ∙ row_counted (map piece_of (drop c.loop-at.at c.args.pieces.now)) c.args.text.now in
    omega (arith, n)

pub index-requires : goal.index-requires
index-requires c =
    let n = ap length c.loop-at.invariant.1
    ∙ row_counted (map piece_of (drop c.loop-at.at c.args.pieces.now)) c.args.text.now in
    omega (arith, n, c.loop-at.row.ok.0)

pub returns : goal.returns
returns c =
    let e : c.loop-at.at ≡ 0 = omega (arith, c.loop-at-test.false) in
    let d = c.index.result.now in
    c.index.ensures ∙ ap (λ row. get_or row 0 d) (c.loop-at.invariant.1
    ∙ ap (λ n. row_of (map piece_of (drop n c.args.pieces.now)) c.args.text.now) e)
    ∙ row_head d (map piece_of c.args.pieces.now) c.args.text.now
