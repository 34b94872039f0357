use Rattle.std.proofs.Common.{true≢false, sym}
use Rattle.aql_tree.specs.declared.syntax.Ident.TheVariants.{Num}
use Rattle.aql_plan.specs.View.{key_trees}
use Rattle.aql_rules_index.proofs.KeysFound.{none_behind}
use Rattle.aql_rules_index.proofs.use_index_for_sort.are_behind.Goals as goal

pub returns-then-equal-names : goal.returns-then-equal-names
returns-then-equal-names c = (
  (λ t. absurd (true≢false (sym t))),
  (λ h. absurd (none_behind (Num c.args.var) (key_trees c.args.keys.now) c.args.equal c.args.names.now
      c.if-equal-names.true h)),
)
