-- The worked expressions, computed.
use Rattle.std.proofs.Common.{refl}
use Rattle.std.specs.Str.{chars}
use Rattle.std.specs.Char.{encode_utf8}
use Rattle.aql_meaning.specs.worked.Expressions.{WorkedExpressions}
use Rattle.aql_meaning.proofs.Computed.{computed}

pub worked_expressions : WorkedExpressions
unfolding chars encode_utf8
worked_expressions = record {
  arithmetic = computed _ _ _ refl;
  order = computed _ _ _ refl;
  from_the_left = computed _ _ _ refl;
  ranges_and_logic = computed _ _ _ refl;
  quantifiers = computed _ _ _ refl;
  parts_of_lists = computed _ _ _ refl;
  texts_and_objects = computed _ _ _ refl;
  inline = computed _ _ _ refl;
}
