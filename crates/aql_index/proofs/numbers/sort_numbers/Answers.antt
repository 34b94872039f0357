use Rattle.std.proofs.Common.{◌∙◌, map, ap, Bool, rules}
use Rattle.std.specs.Cmp.{IsStrictWeakOrder}
use Rattle.std.proofs.lemmas.Fn.{always_returns_same}
use Rattle.std.proofs.lemmas.List.Sorted.{ranks_by}
use Rattle.aql_value.specs.Contents.{list}
use Rattle.aql_value.specs.laws.Strict.{compare_total}
use Rattle.aql_index.specs.Entries.{is_before}
use Rattle.aql_index.specs.inner.Numbers.{entry_of}
use Rattle.aql_index.specs.laws.Stable.{is_sort, sort-map}
use Rattle.aql_index.specs.declared.numbers.Numbers.{Numbers}
use Rattle.aql_index.proofs.numbers.sort_numbers.Goals as goal

abbrev numbers_before : Numbers → Numbers → Bool
numbers_before a b = is_before (entry_of a) (entry_of b)

numbers_order : IsStrictWeakOrder numbers_before
numbers_order = ranks_by compare_total (λ (n : Numbers). list (entry_of n).keys)

pub returns : goal.returns
returns c =
    let sorted = c.in_ok-sort_by.ensures.sorted numbers_before numbers_order
    (always_returns_same _ _ _ (λ a r f k. search rules)) in
    let stable = c.in_ok-sort_by.ensures.stable numbers_before numbers_order
    (always_returns_same _ _ _ (λ a r f k. search rules)) in
    ap (map entry_of) (is_sort numbers_before numbers_order _ _ sorted stable)
    ∙ sort-map entry_of is_before c.args.all.now.items
