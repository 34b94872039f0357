use Rattle.std.proofs.Common.{◌≡◌, map, take}
use Rattle.aql_options.proofs.words.texts_of.Given as goal

-- the words so far
abbrev pub invariant-loop-word : goal.invariant-loop-word
invariant-loop-word l = map (λ t. t.now) l.texts.items ≡ take l.word-index l.word-items
