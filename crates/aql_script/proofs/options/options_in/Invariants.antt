use Rattle.std.proofs.Common.{◌≡◌, Some, drop, map}
use Rattle.aql_script.specs.Directives.{options_in, no_options}
use Rattle.aql_script.proofs.options.options_in.Given as goal

-- the rest, read after the options so far, gives the options of the whole
abbrev pub invariant-loop-word : goal.invariant-loop-word
invariant-loop-word l =
    options_in (Some l.options) (map (λ w. w.now) (drop l.word-index l.words))
    ≡ options_in (Some no_options) (map (λ w. w.now) l.words)
