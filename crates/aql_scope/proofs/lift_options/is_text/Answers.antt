use Rattle.std.proofs.Common.{rules}
use Rattle.std.proofs.lemmas.Map.Text.{is_eq-slice_cmp}
use Rattle.aql_scope.proofs.lift_options.is_text.Goals as goal

pub returns-in-Text : goal.returns-in-Text
returns-in-Text c = search (rules, is_eq-slice_cmp)
