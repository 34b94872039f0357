use Rattle.std.proofs.Common.{◌≡◌, map}
use Rattle.aql_plan.specs.Facts.{numbers_below}
use Rattle.aql_index.proofs.Dealt.{dealt_to}
use Rattle.aql_index.proofs.dealing.deal.Given as goal

abbrev pub invariant-loop-entry : goal.invariant-loop-entry
invariant-loop-entry l =
    l.all.items ≡ map (dealt_to l.shards l.width l.entries l.entry-index) (numbers_below l.count)
