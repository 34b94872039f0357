use Rattle.std.proofs.Common.{ℕ, ◌∙◌, ap}
use Rattle.aql_meaning.specs.View.{last_tree}
use Rattle.aql_index.specs.Guess.{guess}
use Rattle.aql_index.specs.laws.Counted.{counted}
use Rattle.aql_index.proofs.guesses.guess.Goals as goal

pub returns : goal.returns
returns c =
    c.guess_by.ensures
    ∙ ap (λ (n : ℕ). guess c.args.facts.now c.args.coll.0 c.args.index n (last_tree c.args.last.now))
    (counted c.args.equal.now)
