use Rattle.std.proofs.Common.{rules}
use Rattle.std.proofs.lemmas.Fn.{always_returns_same}
use Rattle.aql_index.specs.Entries.{is_before}
use Rattle.aql_index.specs.laws.Order.{entries_order}
use Rattle.aql_index.specs.laws.Stable.{is_sort}
use Rattle.aql_index.proofs.entries.sort_entries.Goals as goal

pub returns : goal.returns
returns c =
    let sorted = c.in_ok-sort_by.ensures.sorted is_before entries_order
    (always_returns_same _ _ _ (λ a r f k. search rules)) in
    let stable = c.in_ok-sort_by.ensures.stable is_before entries_order
    (always_returns_same _ _ _ (λ a r f k. search rules)) in
    is_sort is_before entries_order _ _ sorted stable
