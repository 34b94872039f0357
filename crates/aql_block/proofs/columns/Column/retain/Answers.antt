use Rattle.aql_block.proofs.Cut.{column_marked}
use Rattle.aql_block.proofs.columns.Column.retain.Goals as goal

pub returns : goal.returns
returns c =
    column_marked c.self.inside.room c.args.marks.now c.self.inside.values.items c.keep.new.values.items
    c.args.self.now c.keep.ensures.items c.self.view_is
