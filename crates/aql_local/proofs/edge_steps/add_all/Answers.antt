use Rattle.std.proofs.Common.{◌≡◌, ◌∙◌, ◌+◌, length, sym, ap}
use Rattle.aql_value.specs.Database.{documents_of}
use Rattle.aql_exec_graph.specs.Found.{steps_in, found_more, edges_found}
use Rattle.aql_shard.specs.Datasets.{stock}
use Rattle.aql_shard.specs.Holding.{Holding}
use Rattle.aql_local.specs.declared.edge_steps.Way.TheVariants.{Along, Against, AgainstOthers}
use Rattle.aql_local.specs.inner.EdgeSteps.{edges_by}
use Rattle.aql_local.proofs.Ways.{found_along, found_against, found_both_ways, both_added, both_found}
use Rattle.aql_local.proofs.edge_steps.add_all.Goals as goal
use Rattle.aql_local.proofs.edge_steps.add_all.Goals.{In_ok-add_steps-in-Outbound, In_ok-add_steps-in-Inbound, In_ok-add_steps-in-Any-2}

-- ---- one way

out : (c : In_ok-add_steps-in-Outbound) → (let es = documents_of (stock c.args.servers.now).db c.args.coll.0 in
    length (edges_by Along c.args.sought.now.id.now es) ≡ edges_found c.args.direction es c.args.sought.now.id.now)
out c =
    let es = documents_of (stock c.args.servers.now).db c.args.coll.0 in
    found_along c.args.sought.now.id.now es
    ∙ ap (λ d. edges_found d es c.args.sought.now.id.now) (sym c.in-Outbound.is)

pub returns-in_ok-add_steps-in-Outbound-clause-tally : goal.returns-in_ok-add_steps-in-Outbound-clause-tally
returns-in_ok-add_steps-in-Outbound-clause-tally c = c.in_ok-add_steps-in-Outbound.ensures.tally
    ∙ ap (λ n. found_more n c.args.tally.now) (out c)

pub returns-in_ok-add_steps-in-Outbound-clause-counts : goal.returns-in_ok-add_steps-in-Outbound-clause-counts
returns-in_ok-add_steps-in-Outbound-clause-counts c = c.in_ok-add_steps-in-Outbound.ensures.counts
    ∙ ap (λ n. found_more n c.args.servers.now.counts) (out c)

into : (c : In_ok-add_steps-in-Inbound) → (let es = documents_of (stock c.args.servers.now).db c.args.coll.0 in
    length (edges_by Against c.args.sought.now.id.now es) ≡ edges_found c.args.direction es c.args.sought.now.id.now)
into c =
    let es = documents_of (stock c.args.servers.now).db c.args.coll.0 in
    found_against c.args.sought.now.id.now es
    ∙ ap (λ d. edges_found d es c.args.sought.now.id.now) (sym c.in-Inbound.is)

pub returns-in_ok-add_steps-in-Inbound-clause-tally : goal.returns-in_ok-add_steps-in-Inbound-clause-tally
returns-in_ok-add_steps-in-Inbound-clause-tally c = c.in_ok-add_steps-in-Inbound.ensures.tally
    ∙ ap (λ n. found_more n c.args.tally.now) (into c)

pub returns-in_ok-add_steps-in-Inbound-clause-counts : goal.returns-in_ok-add_steps-in-Inbound-clause-counts
returns-in_ok-add_steps-in-Inbound-clause-counts c = c.in_ok-add_steps-in-Inbound.ensures.counts
    ∙ ap (λ n. found_more n c.args.servers.now.counts) (into c)

-- ---- both ways

same_edges : (c : In_ok-add_steps-in-Any-2)
    → documents_of (stock c.add_steps-in-Any.new.servers).db c.args.coll.0
    ≡ documents_of (stock c.args.servers.now).db c.args.coll.0
same_edges c =
    ap (λ (h : Holding). documents_of (stock h).db c.args.coll.0) c.in_ok-add_steps-in-Any.ensures.servers

both : (c : In_ok-add_steps-in-Any-2) → (let id = c.args.sought.now.id.now in
    let es = documents_of (stock c.args.servers.now).db c.args.coll.0 in
    let later = documents_of (stock c.add_steps-in-Any.new.servers).db c.args.coll.0 in
    length (edges_by Along id es) + length (edges_by AgainstOthers id later) ≡ edges_found c.args.direction es id)
both c =
    let id = c.args.sought.now.id.now in
    let es = documents_of (stock c.args.servers.now).db c.args.coll.0 in
    ap (λ ds. length (edges_by Along id es) + length (edges_by AgainstOthers id ds)) (same_edges c)
    ∙ found_both_ways id es ∙ ap (λ d. edges_found d es id) (sym c.in-Any.is)

pub returns-in_ok-add_steps-in-Any-2-clause-steps : goal.returns-in_ok-add_steps-in-Any-2-clause-steps
returns-in_ok-add_steps-in-Any-2-clause-steps c =
    both_added c.args.sought.now.id.now c.args.direction
    (documents_of (stock c.args.servers.now).db c.args.coll.0)
    (documents_of (stock c.add_steps-in-Any.new.servers).db c.args.coll.0)
    (steps_in c.args.steps.now.items) _ _
    c.in-Any.is (same_edges c) c.in_ok-add_steps-in-Any.ensures.steps c.in_ok-add_steps-in-Any-2.ensures.steps

pub returns-in_ok-add_steps-in-Any-2-clause-tally : goal.returns-in_ok-add_steps-in-Any-2-clause-tally
returns-in_ok-add_steps-in-Any-2-clause-tally c =
    both_found c.args.tally.now c.add_steps-in-Any.new.tally _ _ _ _
    c.in_ok-add_steps-in-Any.ensures.tally c.in_ok-add_steps-in-Any-2.ensures.tally (both c)

pub returns-in_ok-add_steps-in-Any-2-clause-counts : goal.returns-in_ok-add_steps-in-Any-2-clause-counts
returns-in_ok-add_steps-in-Any-2-clause-counts c =
    both_found c.args.servers.now.counts c.add_steps-in-Any.new.servers.counts _ _ _ _
    c.in_ok-add_steps-in-Any.ensures.counts c.in_ok-add_steps-in-Any-2.ensures.counts (both c)
