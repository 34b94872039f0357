use Rattle.std.proofs.Common.{cond, map, drop, ap, ◌∙◌}
use Rattle.std.proofs.lemmas.Result.{IfOk-weaker}
use Rattle.std.specs.List.{list_all}
use Rattle.aql_value.specs.Datum.{null}
use Rattle.aql_value.specs.View.{datums_in}
use Rattle.aql_value.specs.Contents.{elements, list}
use Rattle.aql_func.specs.Arguments.{is_array}
use Rattle.aql_func.specs.Functions.{call, head}
use Rattle.aql_func.specs.Lists.{distinct}
use Rattle.aql_func.specs.declared.names.FuncName.TheVariants.{Minus}
use Rattle.aql_func.proofs.Sieves.{sieve_none}
use Rattle.aql_func.proofs.sets.minus.Goals as goal

pub returns : goal.returns
returns c =
    let lists = map elements (datums_in c.as_slice.result.now) in
    IfOk-weaker c.sieve_all.result _ _ (λ v gives. gives
    ∙ ap (λ ts. cond (list_all is_array (datums_in c.as_slice.result.now)) (list (distinct ts)) null)
    (sieve_none (drop 1 lists) (head lists))
    ∙ ap (call Minus) c.as_slice.ensures) c.sieve_all.ensures
