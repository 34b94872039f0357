-- What a list ends as, where a `&mut` to its items is returned.
use Rattle.std.specs.Prelude.{List, length}
use Rattle.std.specs.List.{refill}
use Rattle.std.specs.Borrow.{Lends, Fml, RattleType, MutBor, Array}
use Rattle.aql_value.specs.contracts.lists.Seq.{the_row}

module _ (T : RattleType) (s : MutBor (List T.Denot)) where
  -- once the borrow r ends, the items are those that r shows last
  abbrev pub lends_items : MutBor (List T.Denot) → Fml
  lends_items r = Lends (the_row T) (Array T 0) s r (refill (length s.now) s.now)
