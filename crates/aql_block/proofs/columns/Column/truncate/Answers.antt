use Rattle.aql_block.proofs.Cut.{column_first}
use Rattle.aql_block.proofs.columns.Column.truncate.Goals as goal

pub returns : goal.returns
returns c =
    column_first c.self.inside.room c.args.len c.self.inside.values.items c.truncate.new.self.items
    c.args.self.now c.truncate.ensures.items c.self.view_is
