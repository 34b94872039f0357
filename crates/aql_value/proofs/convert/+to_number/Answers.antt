use Rattle.std.proofs.Common.{◌≡◌, ◌≢◌, length, ◌∙◌, sym, ap, arith}
use Rattle.aql_value.specs.Datum.{array_of}
use Rattle.aql_value.specs.View.{datum_of}
use Rattle.aql_value.specs.Convert.{to_number, sole_number}
use Rattle.aql_value.proofs.Numbers.{no_sole_number}
use Rattle.aql_value.proofs.convert.+to_number.Goals as goal

pub returns-else-len-eq1 : goal.returns-else-len-eq1
returns-else-len-eq1 t c =
    let counted : c.len.result ≡ length c.list.inside.items.items = grind arith in
    let several : length c.list.inside.items.items ≢ 1 = λ e. c.if-len-eq1.false (counted ∙ e) in
    no_sole_number c.list.inside.items.items several
    ∙ ap (λ ts. sole_number (array_of ts)) c.list.view_is
    ∙ ap (λ v. to_number (datum_of v)) (sym c.in-List.is)
