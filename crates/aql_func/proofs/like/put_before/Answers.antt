use Rattle.std.proofs.Common.{◌∷◌, length, ap, sym, ◌∙◌}
use Rattle.aql_func.specs.Like.{one, this}
use Rattle.aql_func.specs.inner.Pieces.{piece_of, row_of, ors, shift}
use Rattle.aql_func.proofs.Rows.{run_row, one_row, this_row, ors_counted, shifted_counted}
use Rattle.aql_func.proofs.like.put_before.Goals as goal

pub returns-in-Run-clause-len : goal.returns-in-Run-clause-len
returns-in-Run-clause-len c = ap length c.put_run.ensures ∙ ors_counted c.args.row.now.items

pub returns-in-Run-clause-row : goal.returns-in-Run-clause-row
returns-in-Run-clause-row c = λ ps h. c.put_run.ensures ∙ ap ors h ∙ run_row ps c.args.text.now
    ∙ ap (λ p. row_of (piece_of p ∷ ps) c.args.text.now) (sym c.in-Run.is)

pub returns-in-One-clause-len : goal.returns-in-One-clause-len
returns-in-One-clause-len c = ap length c.put_one.ensures
    ∙ shifted_counted (piece_of c.args.piece) c.args.text.now c.args.row.now.items c.requires

pub returns-in-One-clause-row : goal.returns-in-One-clause-row
returns-in-One-clause-row c = λ ps h.
    c.put_one.ensures ∙ ap (λ p. shift (piece_of p) c.args.text.now c.args.row.now.items) c.in-One.is
    ∙ ap (shift one c.args.text.now) h
    ∙ one_row ps c.args.text.now ∙ ap (λ p. row_of (piece_of p ∷ ps) c.args.text.now) (sym c.in-One.is)

pub returns-in-This-clause-len : goal.returns-in-This-clause-len
returns-in-This-clause-len c = ap length c.put_one-in-This.ensures
    ∙ shifted_counted (piece_of c.args.piece) c.args.text.now c.args.row.now.items c.requires

pub returns-in-This-clause-row : goal.returns-in-This-clause-row
returns-in-This-clause-row c = λ ps h.
    c.put_one-in-This.ensures ∙ ap (λ p. shift
    (piece_of p) c.args.text.now c.args.row.now.items) c.in-This.is
    ∙ ap (shift (this c.in-This.field-0) c.args.text.now) h
    ∙ this_row c.in-This.field-0 ps c.args.text.now
    ∙ ap (λ p. row_of (piece_of p ∷ ps) c.args.text.now) (sym c.in-This.is)
