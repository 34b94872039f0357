use Rattle.std.proofs.Common.{◌≡◌, length, sym, arith}
use Rattle.aql_meaning.specs.View.{last_tree}
use Rattle.aql_rules_index.proofs.BoundsFound.{some_equal}
use Rattle.aql_rules_index.proofs.choice.has_bound.Goals as goal

pub returns-then-len-ne0 : goal.returns-then-len-ne0
returns-then-len-ne0 c =
    let some : length c.args.bounds.now.equal ≡ 0 → ⊥
    = λ h. omega (arith, h, c.len.ensures, c.if-len-ne0.true) in
    sym (some_equal c.args.bounds.now.equal (last_tree c.args.bounds.now.last) some)
