-- The order of entries is a strict weak order.
use Rattle.std.specs.Cmp.{IsStrictWeakOrder}
use Rattle.std.proofs.lemmas.List.Sorted.{ranks_by}
use Rattle.aql_value.specs.laws.Strict.{compare_total}
use Rattle.aql_value.specs.Contents.{list}
use Rattle.aql_index.specs.declared.entries.Entry.{Entry}
use Rattle.aql_index.specs.Entries.{is_before}

pub entries_order : IsStrictWeakOrder is_before
entries_order = ranks_by compare_total (λ (e : Entry). list e.keys)
