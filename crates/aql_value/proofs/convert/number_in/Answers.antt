use Rattle.std.proofs.Common.{sym, ◌∙◌, subst, arith}
use Rattle.std.proofs.lemmas.Int.{to_z-of_z}
use Rattle.std.specs.Prelude.{FitsSigned}
use Rattle.std.specs.Int.{w64}
use Rattle.aql_value.proofs.Numbers.{number_read, zero_read}
use Rattle.aql_value.proofs.convert.number_in.Goals as goal

pub returns-in-Ok : goal.returns-in-Ok
returns-in-Ok c =
    let plain = sym (c.starts_with.ensures.byte (omega arith) (omega arith) (λ w o h. h))
    ∙ c.if-starts_with.false in
    let read = c.in-Ok.ensures.value.0 in
    to_z-of_z w64 _ (subst (FitsSigned w64) (sym read.1) read.0.1) ∙ read.1
    ∙ number_read c.args.text.now plain read.0

pub returns-in-Err : goal.returns-in-Err
returns-in-Err c =
    let plain = sym (c.starts_with.ensures.byte (omega arith) (omega arith) (λ w o h. h))
    ∙ c.if-starts_with.false in
    zero_read c.args.text.now plain c.in-Err.ensures.value.0
