use Rattle.std.proofs.Common.{◌≡◌, take}
use Rattle.aql_tree.specs.declared.syntax.Ident.TheVariants.{Num}
use Rattle.aql_tree.specs.Tree.{variable}
use Rattle.aql_rewrite.specs.Renames.{put_each}
use Rattle.aql_rewrite.proofs.renaming.renamed_number.Given as goal

abbrev pub invariant-loop-rename : goal.invariant-loop-rename
invariant-loop-rename l =
    put_each (take l.rename-index l.renames) (variable (Num l.fn.number)) ≡ variable (Num l.name)
