use Rattle.std.proofs.Common.{rules}
use Rattle.std.specs.Ordering.{is_lt}
use Rattle.std.proofs.lemmas.Fn.{always_returns_same}
use Rattle.std.proofs.lemmas.List.Sorted.{IsPermutation-map}
use Rattle.aql_meaning.specs.Clauses.{keys_cmp, comes_before}
use Rattle.aql_meaning.specs.laws.SomeOrder.{keyed_order}
use Rattle.aql_plan.specs.View.{directions}
use Rattle.aql_exec_rows.specs.Keys.{keyed_of}
use Rattle.aql_exec_rows.specs.declared.keyed.Keyed.{Keyed}
use Rattle.aql_exec_rows.proofs.Keyings.{sorted_seen}
use Rattle.aql_exec_rows.proofs.keyed.sort_rows.Goals as goal

pub returns-clause-permutation : goal.returns-clause-permutation
returns-clause-permutation c = IsPermutation-map keyed_of _ _ c.sort_by.ensures.permutation

pub returns-clause-sorted : goal.returns-clause-sorted
returns-clause-sorted c =
    let ds = directions c.args.keys.now in
    let sorted = c.in_ok-sort_by.ensures.sorted
    (λ (a b : Keyed). is_lt (keys_cmp ds (keyed_of a).0 (keyed_of b).0))
    (keyed_order ds (λ (k : Keyed). (keyed_of k).0))
    (always_returns_same _ _ _ (λ a r f k. search rules)) in
    sorted_seen keyed_of (comes_before ds) c.sort_by.new.self.items sorted
