use Rattle.std.proofs.Common.{◌≡◌, ◌++◌, map, length, refl, sym, ap, ◌∙◌, subst, arith}
use Rattle.std.proofs.lemmas.List.{length-map}
use Rattle.aql_block.specs.declared.tally.Tally.{Tally}
use Rattle.aql_meaning.specs.Row.{Row, empty_row}
use Rattle.aql_plan.specs.Runs.{result_of}
use Rattle.aql_plan.specs.Shapes.{Result}
use Rattle.aql_plan.specs.View.{plan_tree}
use Rattle.aql_block.specs.Rows.{row_of}
use Rattle.aql_exec.specs.Operators.{OperatorTree, IsTree, Produces, exact_tree}
use Rattle.aql_net.specs.Logs.{IsLog, in_flight, picks_in, rows_on, opened_in, closed_in}
use Rattle.aql_net.specs.Traffic.{Traffic, line_on}
use Rattle.aql_net.specs.laws.Worlds.{closed-is}
use Rattle.aql_engine.specs.Engine.{Tallied, OwnCounted}
use Rattle.aql_engine.specs.Run.{rows_in, PickedBy}
use Rattle.aql_engine.specs.OperatorsOf.{operators_of}
use Rattle.aql_engine.specs.laws.Sound.{produces_runs}
use Rattle.aql_engine.specs.laws.Trees.{shaped_tree}
use Rattle.aql_shard.specs.Holding.{Holding}
use Rattle.aql_shard.specs.Datasets.{stock}
use Rattle.aql_local.proofs.Nets.{links_of}
use Rattle.aql_local.proofs.CanRun.{counted_from_none, own_from_none}
use Rattle.aql_local.proofs.plans.run_operators.Goals as goal

pub run_feed-requires-clause-plan : goal.run_feed-requires-clause-plan
run_feed-requires-clause-plan g c =
    let facts = (stock c.args.world.now.servers).facts in
    subst (λ (t : OperatorTree). IsTree facts t) (sym c.requires.feed)
    (shaped_tree facts (plan_tree c.args.plan) Result c.requires.plan.1 refl c.requires.few)

pub returns-clause-run : goal.returns-clause-run
returns-clause-run g c =
    let w = stock c.args.world.now.servers in
    let run = c.in_ok-blocks.ensures.rows in
    let produced : Produces (operators_of w.facts (plan_tree c.args.plan)) w empty_row run.0 =
    subst (λ (row : Row). Produces (operators_of w.facts (plan_tree c.args.plan)) w row run.0) c.new-start.ensures
    (subst (λ (t : OperatorTree). Produces t w (row_of c.new-start.result) run.0) c.requires.feed run.1) in
    let values = c.in_ok-values.ensures ∙ ap (map result_of) run.2 in (
      refl,
      refl,
      record {
        answer = (run.0.rows, produces_runs w (plan_tree c.args.plan) empty_row run.0 produced, values);
        rest = run.0;
        produced = produced;
        values = values;
        counted = subst (λ (t : OperatorTree). Tallied (exact_tree t) c.run_feed.new.tally c.take_log-log.result
            run.0.counts) c.requires.feed
            (counted_from_none _ _ c.new-tally.result c.run_feed.new.tally c.args.world.now
            c.run_feed.new.world run.0.counts c.take_log-log.result
            (λ l. ap (line_on l) c.requires.fresh)
            (λ l. ap (rows_on l) c.take_log-log.ensures.log)
            (λ l. ap (opened_in l) c.take_log-log.ensures.log)
            (λ l. ap (closed_in l) c.take_log-log.ensures.log
            ∙ sym (closed-is _ _ _ (links_of c.run_feed.new.world)
            (ap in_flight (sym c.take_log-log.ensures.log) ∙ c.take_log-log.ensures.told) l))
            c.new-tally.ensures run.3);
        logged = subst (λ b. IsLog b c.take_log-log.result)
            (c.run_feed.ensures.batch ∙ ap (λ (t : Traffic). t.batch) c.requires.fresh) c.take_log-log.ensures.lawful;
        little = λ e. (let a = c.in_ok-blocks.ensures.reads (rw c.requires.feed e) in
            let b = ap (λ (z : Tally). z.scanned_full) c.new-tally.ensures in
            let l = ap length c.in_ok-values.ensures in
            let m = length-map (rows_in c.in_ok-blocks.blocks.items) result_of in
            omega (arith, a, b, l, m));
      },
    )

pub returns-clause-counted : goal.returns-clause-counted
returns-clause-counted g c =
    subst (λ (s : Holding). OwnCounted c.args.world.now.servers.counts s.counts c.run_feed.new.tally)
    (sym c.take_log-log.ensures.servers) (own_from_none _ _ c.new-tally.result c.run_feed.new.tally c.args.world.now c.run_feed.new.world
    c.in_ok-blocks.ensures.rows.0.counts c.new-tally.ensures c.in_ok-blocks.ensures.rows.3)

pub returns-clause-picked : goal.returns-clause-picked
returns-clause-picked g c =
    let picked = c.in_ok-blocks.ensures.picked in
    let all : picks_in c.take_log-log.result ≡ picked.0 =
    ap picks_in c.take_log-log.ensures.log ∙ picked.1
    ∙ ap (λ (t : Traffic). picks_in t.log ++ picked.0) c.requires.fresh in
    subst (λ ks. PickedBy g.P.Picker.picks c.args.picker.now ks c.run_feed.new.picker) (sym all) picked.2
