use Rattle.aql_rewrite.proofs.RenamingSteps.{name_next}
use Rattle.aql_rewrite.proofs.renaming.renamed_number.Goals as goal

pub loop-rename-preserved : goal.loop-rename-preserved
loop-rename-preserved c = name_next c.args.renames.now c.loop-rename.rename-index _ c.args.number
    c.loop-rename.name c.renamed_once-name.result c.loop-rename-test.true c.loop-rename.invariant
    c.renamed_once-name.ensures
