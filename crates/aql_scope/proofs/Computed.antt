-- The worked queries, computed.
use Rattle.std.proofs.Common.{refl}
use Rattle.std.specs.Str.{chars}
use Rattle.std.specs.Char.{encode_utf8}
use Rattle.aql_scope.specs.Worked.{WorkedQueries}

pub worked_queries : WorkedQueries
unfolding chars encode_utf8
worked_queries = record {
  each_in_its_let = record { tree = refl; said = refl };
  one_in_another = record { tree = refl; said = refl };
  variable_before_collection = record { tree = refl; said = refl };
  latest_hides = record { tree = refl; said = refl };
  grouped_with_all = record { tree = refl; said = refl };
  outer_not_taken = record { tree = refl; said = refl };
  hidden_by_collect = record { tree = refl; said = refl };
  names_of_path = record { tree = refl; said = refl };
}
