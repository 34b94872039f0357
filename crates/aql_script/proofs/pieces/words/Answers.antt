use Rattle.std.proofs.Common.{nat_eq, not, length, rules, tests}
use Rattle.std.proofs.lemmas.Iterator.Consumers.{map_from_collect, YieldsList-at, YieldsList-from_filter}
use Rattle.std.proofs.lemmas.Iterator.Splits.{YieldsList-from_slice_split}
use Rattle.std.proofs.lemmas.Result.{IfOk-at_ok}
use Rattle.aql_script.specs.Pieces.{is_blank}
use Rattle.aql_script.proofs.pieces.words.Goals as goal

pub returns : goal.returns
returns c = IfOk-at_ok _ c.in_ok-found.was (map_from_collect _ c.collect.ensures.ran
    (YieldsList-from_filter _ (λ word. not (nat_eq (length word) 0))
    (YieldsList-at c.filter.ensures.source
    (YieldsList-from_slice_split _ is_blank c.args.line.now c.split-pieces.ensures.rest
    c.split-pieces.ensures.done c.split-pieces.ensures.closure (λ x r q k. search (rules, tests))))
    c.filter.ensures.closure (λ x r q k. search (rules, tests))))
