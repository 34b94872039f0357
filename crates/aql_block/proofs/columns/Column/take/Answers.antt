use Rattle.aql_block.proofs.Cut.{column_without}
use Rattle.aql_block.proofs.columns.Column.take.Goals as goal

pub returns-clause-rest : goal.returns-clause-rest
returns-clause-rest c =
    column_without c.self.inside.room c.args.at c.self.inside.values.items c.replace.new.dest c.args.self.now
    c.replace.ensures.after c.self.view_is
