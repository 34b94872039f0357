use Rattle.std.proofs.Common.{◌≢◌, ◌<◌, ◌++◌, ℕ, List, get_or}
use denote.Ref.{Bor}
use Rattle.aql_lex.specs.declared.vocabulary.Symbol.{Symbol}
use Rattle.aql_lex.proofs.scans.symbol_in.Given as goal

abbrev pub invariant-loop-spelling : goal.invariant-loop-spelling
invariant-loop-spelling l = (i : ℕ) (d : Bor (List ℕ) × Symbol) (rest : List ℕ) → i < l.spelling-index
    → l.text ≢ (get_or l.lines i d).0.now ++ rest
