use Rattle.std.proofs.Common.{◌≡◌, ◌∙◌}
use Rattle.aql_block.proofs.Cut.{column_first, column_rest}
use Rattle.aql_block.proofs.columns.Column.split.Goals as goal

pub returns-clause-first : goal.returns-clause-first
returns-clause-first c =
    column_first c.self.inside.room c.args.at c.self.inside.values.items c.split_off.new.self.items
    c.args.self.now c.in_ok-rest.ensures.items c.self.view_is

pub returns-clause-rest : goal.returns-clause-rest
returns-clause-rest c =
    c.from_values.ensures
    ∙ column_rest c.self.inside.room c.args.at c.self.inside.values.items c.in_ok-rest.rest.items
    c.args.self.now c.in_ok-rest.ensures.tail c.self.view_is
