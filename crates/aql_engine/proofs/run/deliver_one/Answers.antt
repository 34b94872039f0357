use Rattle.std.proofs.Common.{subst}
use Rattle.aql_exec.specs.Counting.{nothing}
use Rattle.aql_exec.specs.laws.Counted.{prefixed_none, rises_taken}
use Rattle.aql_engine.proofs.run.deliver_one.Goals as goal

pub returns-else-owns-clause-undisturbed : goal.returns-else-owns-clause-undisturbed
returns-else-owns-clause-undisturbed g c =
    let f = g.F.Feed in
    let taken = c.in-Some.ensures.2 in (
      nothing,
      rises_taken g.W.Surroundings c.args.tally.now c.args.world.now c.deliver.new.self
          c.in-Some.d.link c.in-Some.d.message taken,
      λ r h. (
        r,
        prefixed_none r,
        g.met.F.Feed.kept_rests c.args.feed.now c.args.world.now
            c.deliver.new.self taken.stock_kept
            (λ l o. taken.others l (λ e. c.owns.ensures.1 c.if-owns.false (subst (f.ours c.args.feed.now) e o)))
            r h,
      ),
    )
