use Rattle.std.proofs.Common.{◌≡◌, IfOk, ap, subst, ◌∙◌}
use Rattle.aql_value.specs.View.{datums_in}
use Rattle.aql_func.specs.inner.Choices.{choose}
use Rattle.aql_func.proofs.Members.{chosen_firsts}
use Rattle.aql_func.proofs.objects.choose_members.Goals as goal

pub returns : goal.returns
returns c =
    let fs = c.args.members.now in
    subst (λ gs. IfOk c.members_among.result (λ w. w ≡ gs))
    (ap (λ ks. choose c.args.present ks fs) c.in_ok-sought.ensures
    ∙ chosen_firsts c.args.present (datums_in c.args.names.now) fs)
    c.members_among.ensures
