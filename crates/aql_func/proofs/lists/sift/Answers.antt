use Rattle.std.proofs.Common.{◌≡◌, IfOk, ap, subst, ◌∙◌}
use Rattle.aql_value.specs.View.{datums_in}
use Rattle.aql_func.specs.inner.Sieves.{sift}
use Rattle.aql_func.proofs.Sieves.{sift_firsts}
use Rattle.aql_func.proofs.lists.sift.Goals as goal

pub returns : goal.returns
returns c =
    let vs = datums_in c.args.values.now in
    subst (λ ts. IfOk c.sift_by.result (λ w. datums_in w.items ≡ ts))
    (ap (λ ks. sift c.args.present ks vs) c.in_ok-set.ensures
    ∙ sift_firsts c.args.present (datums_in c.args.other.now) vs)
    c.sift_by.ensures
