-- Items, bounds and candidates as the program holds them.
use Rattle.std.specs.Prelude.{Bool}
use Rattle.aql_value.specs.declared.operators.BinOp.{BinOp}
use Rattle.aql_tree.specs.declared.syntax.Ident.TheVariants.{Num}
use Rattle.aql_tree.specs.View.{tree}
use Rattle.aql_meaning.specs.View.{last_tree}
use Rattle.aql_plan.specs.View.{expr_trees}
use Rattle.aql_rules_index.specs.declared.items.Item.{Item}
use Rattle.aql_rules_index.specs.declared.choice.Side.{Side}
use Rattle.aql_rules_index.specs.declared.choice.Side.TheVariants as side
use Rattle.aql_rules_index.specs.declared.choice.Bounds.{Bounds}
use Rattle.aql_rules_index.specs.declared.choice.Candidate.{Candidate}
use Rattle.aql_rules_index.specs.declared.readers.IndexRead.{IndexRead}
use Rattle.aql_rules_index.specs.Choice as spec
use Rattle.aql_rules_index.specs.inner.Readers as reading
use Rattle.aql_rules_index.specs.Choice.{is_eq_op, is_in_op, is_low_op, is_high_op}

abbrev pub item_tree : Item → spec.Item
item_tree i = record { name = i.name.now; op = i.op; other = tree i.other.now }

abbrev pub bounds_tree : Bounds → spec.Bounds
bounds_tree b = record { equal = expr_trees b.equal; last = last_tree b.last }

abbrev pub candidate_tree : Candidate → spec.Candidate
candidate_tree c = record { index = c.index; bounds = bounds_tree c.bounds }

abbrev pub read_tree : IndexRead → reading.IndexRead
read_tree r = record {
  var = Num r.var;
  coll = r.coll.0;
  index = r.index;
  equal = expr_trees r.equal.now;
  last = last_tree r.last.now;
  ordered = r.ordered;
}

-- the operators of the items that give a side of the bounds
abbrev pub gives_side : Side → BinOp → Bool
gives_side side.Equal = is_eq_op
gives_side side.Element = is_in_op
gives_side side.Low = is_low_op
gives_side side.High = is_high_op
