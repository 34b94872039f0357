use Rattle.std.proofs.Common.{◌≡◌, take}
use Rattle.aql_tree.proofs.copying.copy_texts.Given as goal

abbrev pub invariant-loop-text : goal.invariant-loop-text
invariant-loop-text l = l.all ≡ take l.text-index l.texts
