-- The worked texts, computed.
use Rattle.std.proofs.Common.{refl}
use Rattle.std.specs.Fmt.{digits}
use Rattle.json.specs.Print.{escape_byte}
use Rattle.aql_lex.specs.Vocabulary.{name_of}
use Rattle.aql_show.specs.Names.{keywords}
use Rattle.aql_show.specs.Worked.{WorkedTexts}

pub worked_texts : WorkedTexts
unfolding digits escape_byte name_of keywords
worked_texts = record {
  literals = refl;
  names_of_variables = refl;
  lists = refl;
  accesses = refl;
  calls = refl;
  signs = refl;
  chains = refl;
  operators = refl;
  others = refl;
  enumerations = refl;
  lookups = refl;
  indexes = refl;
  traversals = refl;
  rows = refl;
  sorts = refl;
  groups = refl;
  cluster = refl;
  by_an_index = refl;
  over_shards = refl;
  with_a_filter = refl;
  with_bodies = refl;
}
