use Rattle.std.proofs.Common.{◌∙◌, ap, sym}
use Rattle.std.proofs.lemmas.List.{take-map}
use Rattle.aql_exec_rows.specs.Keys.{keyed_of, keyed_in, first_of}
use Rattle.aql_exec_rows.proofs.keyed.keep_first.Goals as goal

pub returns-in-Some : goal.returns-in-Some
returns-in-Some c =
    let sorted = keyed_in c.sort_rows.new.held.items in (
      sorted,
      c.in_ok-sort_rows.ensures.permutation,
      c.in_ok-sort_rows.ensures.sorted,
      ap keyed_in c.truncate.ensures.items
          ∙ sym (take-map keyed_of c.in-Some.count c.sort_rows.new.held.items)
          ∙ ap (λ limit. first_of limit sorted) (sym c.in-Some.is),
    )
