use Rattle.std.proofs.Common.{ap, ◌∙◌}
use Rattle.std.specs.Cmp.Lexicographic.{slice_cmp}
use Rattle.std.specs.Ordering.{nat_cmp}
use Rattle.std.specs.Str.{str_to_ascii_lowercase}
use Rattle.aql_func.specs.Names.{Signature}
use Rattle.aql_func.proofs.names.compare_name.Goals as goal

pub returns : goal.returns
returns c = c.compare.ensures ∙ ap (λ (s : Signature). slice_cmp nat_cmp (str_to_ascii_lowercase s.name)
    (str_to_ascii_lowercase c.args.name.now)) c.table.ensures
