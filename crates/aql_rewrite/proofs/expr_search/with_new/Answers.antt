-- Copies of the front, the new one, copies of the rest.
use Rattle.std.proofs.Common.{rules, ◌≡◌, ◌+◌, [], ◌∷◌, ◌++◌, map, take, drop}
use Rattle.std.proofs.lemmas.Grind.{common_steps}
use Rattle.aql_tree.specs.View.{tree}
use Rattle.aql_rewrite.specs.ExprView.{lent}
use Rattle.aql_rewrite.proofs.Steps.{put_between}
use Rattle.aql_rewrite.proofs.expr_search.with_new.Goals as goal

pub returns : goal.returns
returns c =
    let all = c.args.all.now in
    let front : map tree c.add_copies.new.to.items ≡ map lent (take c.args.at all)
    = search (rules, common_steps) in
    let pushed : c.push_back.new.self.items ≡ c.add_copies.new.to.items ++ c.args.new ∷ []
    = search (rules, common_steps) in
    let rest : map tree c.add_copies-2.new.to.items
    ≡ map tree c.push_back.new.self.items ++ map lent (drop (c.args.at + 1) all) = search (rules, common_steps) in
    put_between c.add_copies.new.to.items c.push_back.new.self.items c.args.new _ _ _ front pushed rest
