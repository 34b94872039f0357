use Rattle.std.proofs.Common.{◌∙◌, ap, sym, true≢false}
use Rattle.aql_tree.specs.declared.syntax.Ident.{Ident}
use Rattle.aql_plan_check.specs.inner.Rows.{variables}
use Rattle.aql_plan_check.proofs.SameVariables.{any_of, any_variables, no_name}
use Rattle.aql_plan_check.proofs.found.is_there.Goals as goal

pub returns-in-Num : goal.returns-in-Num
returns-in-Num c =
    let keys = c.args.rows.now.keys in
    let e = c.contains.ensures ∙ sym (any_variables c.in-Num.n keys)
    ∙ ap (λ (i : Ident). any_of i (variables keys)) (sym c.in-Num.is) in
    ((λ t. sym e ∙ t), (λ t. e ∙ t))

pub returns-in-Name : goal.returns-in-Name
returns-in-Name c =
    let keys = c.args.rows.now.keys in (
      (λ t. absurd (true≢false (sym t))),
      (λ t. absurd (true≢false (sym t ∙ ap (λ (i : Ident). any_of i (variables keys)) c.in-Name.is
          ∙ no_name c.in-Name.field-0 keys))),
    )
