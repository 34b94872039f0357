use Rattle.std.proofs.Common.{◌≡◌, length, rules, arith}
use Rattle.aql_rules_calc.proofs.Chains.{some_elements}
use Rattle.aql_rules_calc.proofs.replace_or_with_in.array_in.Goals as goal

pub returns-else-len-eq0 : goal.returns-else-len-eq0
returns-else-len-eq0 c =
    let some : length c.in-List.items ≡ 0 → ⊥ = λ e. omega (arith, e, c.if-len-eq0.false, c.len.ensures) in
    search (rules, some_elements _ _ c.in-List.is some)
