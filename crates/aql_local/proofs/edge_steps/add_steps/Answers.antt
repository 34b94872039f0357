use Rattle.std.proofs.Common.{Vec, Global, [], ◌∷◌, ◌≡◌, ◌∙◌, ◌+◌, ◌-◌, ◌<◌, ◌≤◌, ◌++◌, length, map, take, drop, Some, refl, sym, ap, subst, arith, append-nil}
use Rattle.std.specs.Prelude.{flat_map, option_to_list, slice_get}
use Rattle.std.proofs.lemmas.List.{map-append}
use Rattle.aql_value.specs.Database.{documents_of}
use Rattle.aql_value.specs.Datum.{text}
use Rattle.aql_plan.specs.Fits.{IsEdgeCollection}
use Rattle.aql_exec_graph.specs.declared.neighbours.EdgeStep.{EdgeStep}
use Rattle.aql_exec_graph.specs.Found.{steps_in, step_of, found_more}
use Rattle.aql_shard.specs.Datasets.{stock}
use Rattle.aql_shard.specs.Holding.{Holding}
use Rattle.aql_local.specs.inner.EdgeSteps.{near_end, edges_by, step_over}
use Rattle.aql_local.specs.inner.Lookups.{order_by}
use Rattle.aql_local.proofs.Ways.{none_more, one_more_found, still_same, found_by_way, number_found, one_edge_more}
use Rattle.aql_local.proofs.edge_steps.add_steps.Goals as goal
use Rattle.aql_local.proofs.edge_steps.add_steps.Goals.{After-loop-place, in-Some+in_ok-push, in_default}

pub loop-place-init : goal.loop-place-init
loop-place-init c =
    let s = c.args.servers.now in
    let order = order_by (near_end c.args.way) (stock s) c.args.coll.0 in
    let from = c.find_span-span.result.from in
    let none : from - from ≡ 0 = omega arith in
    let small : c.args.tally.now.scanned_index ≤ 18446744073709551615 = omega arith in
    record {
      same = refl;
      steps = sym (append-nil (steps_in c.args.steps.now.items))
          ∙ ap (λ n. steps_in c.args.steps.now.items
          ++ flat_map (step_over c.args.way c.args.sought.now.id.now) (take n (drop from order))) (sym none);
      tally = none_more c.args.tally.now (from - from) none small;
      counts = none_more s.counts (from - from) none c.recall_counts.ensures.index;
    }

pub step_at-requires-clause-edges : goal.step_at-requires-clause-edges
step_at-requires-clause-edges c =
    subst (λ (s : Holding). IsEdgeCollection (stock s).facts c.args.coll.0) (sym c.loop-place.invariant.same)
    c.requires.edges

pub step_at-requires-clause-place : goal.step_at-requires-clause-place
step_at-requires-clause-place c =
    let s = c.args.servers.now in
    let within = c.find_span-span.ensures.within in
    let inside : c.loop-place.place < length (order_by c.near_end.result (stock s) c.args.coll.0) =
    omega (arith, c.loop-place-test.true, within) in
    let way = c.args.way in
    subst (λ (h : Holding). c.loop-place.place < length (order_by (near_end way) (stock h) c.args.coll.0))
    (sym c.loop-place.invariant.same)
    (subst (λ a. c.loop-place.place < length (order_by a (stock s) c.args.coll.0)) c.near_end.ensures inside)

pub returns-in_err-step-clause-servers : goal.returns-in_err-step-clause-servers
returns-in_err-step-clause-servers c =
    still_same c.args.servers.now c.loop-place.servers c.step_at.new.servers _ c.loop-place.invariant.same
    c.step_at.ensures.servers

pub returns-in_err-push-clause-servers : goal.returns-in_err-push-clause-servers
returns-in_err-push-clause-servers c =
    still_same c.args.servers.now c.loop-place.servers c.step_at.new.servers _ c.loop-place.invariant.same
    c.step_at.ensures.servers

pub loop-place-preserved : goal.loop-place-preserved
loop-place-preserved c =
    let s = c.args.servers.now in
    let from = c.find_span-span.result.from in
    let place = c.loop-place.place in
    let low : from ≤ place = omega arith in
    let next : place - from + 1 ≡ place + 1 - from = omega arith in
    let found = c.in_ok-step.ensures.step in
    let at = subst (λ (h : Holding). slice_get (order_by (near_end c.args.way) (stock h) c.args.coll.0) place
    ≡ Some found.0) c.loop-place.invariant.same found.1 in
    let pushed : steps_in c.match-step.steps.items
    ≡ steps_in c.loop-place.steps.items ++ map step_of (option_to_list c.in_ok-step.step) =
    elim c.match-step.branch [
      | in-Some+in_ok-push w ↦ ap (λ (v : Vec EdgeStep Global). steps_in v.items) w.steps-is
          ∙ ap steps_in w.in_ok-push.ensures.items
          ∙ map-append step_of c.loop-place.steps.items (w.in-Some.step ∷ [])
          ∙ ap (λ o. steps_in c.loop-place.steps.items ++ map step_of (option_to_list o)) (sym w.in-Some.is)
      | in_default w ↦ ap (λ (v : Vec EdgeStep Global). steps_in v.items) w.steps-is
          ∙ sym (append-nil (steps_in c.loop-place.steps.items))
          ∙ ap (λ o. steps_in c.loop-place.steps.items ++ map step_of (option_to_list o))
          (sym w.in_default.is)
    ] in
    record {
      same = still_same s c.loop-place.servers c.step_at.new.servers _ c.loop-place.invariant.same
          c.step_at.ensures.servers;
      steps = one_edge_more c.args.way c.args.sought.now.id.now
          (order_by (near_end c.args.way) (stock s) c.args.coll.0) from place found.0
          (steps_in c.args.steps.now.items) (steps_in c.loop-place.steps.items) _ low
          c.loop-place.invariant.steps at (pushed ∙ ap (λ l. steps_in c.loop-place.steps.items ++ l) found.2);
      tally = one_more_found c.args.tally.now c.loop-place.tally c.step_at.new.tally (place - from)
          (place + 1 - from) next c.loop-place.invariant.tally c.step_at.ensures.tally;
      counts = one_more_found s.counts c.loop-place.servers.counts c.step_at.new.servers.counts (place - from)
          (place + 1 - from) next c.loop-place.invariant.counts
          (ap (λ (h : Holding). h.counts) c.step_at.ensures.servers);
    }

-- ---- at the end

pub returns-clause-servers : goal.returns-clause-servers
returns-clause-servers c = c.loop-place.invariant.same

pub returns-clause-steps : goal.returns-clause-steps
returns-clause-steps c =
    let s = c.args.servers.now in
    let span = c.find_span-span.result in
    let within = c.find_span-span.ensures.within in
    let order = order_by (near_end c.args.way) (stock s) c.args.coll.0 in
    let f = step_over c.args.way c.args.sought.now.id.now in
    let end : c.loop-place.place ≡ span.to = omega (arith, within) in
    let before = steps_in c.args.steps.now.items in
    c.loop-place.invariant.steps
    ∙ ap (λ n. before ++ flat_map f (take (n - span.from) (drop span.from order))) end
    ∙ ap (λ l. before ++ flat_map f l)
    (found_by_way c.args.way c.near_end.result c.args.sought.now.id.now (stock s) c.args.coll.0 span
    c.near_end.ensures (c.find_span-span.ensures.exactly (text c.args.sought.now.id.now) c.requires.sought))

all_found : (c : After-loop-place) → (let es = documents_of (stock c.args.servers.now).db c.args.coll.0 in
    c.loop-place.place - c.find_span-span.result.from ≡ length (edges_by c.args.way c.args.sought.now.id.now es))
all_found c =
    let span = c.find_span-span.result in
    let within = c.find_span-span.ensures.within in
    let end : c.loop-place.place ≡ span.to = omega (arith, within) in
    ap (λ n. n - span.from) end
    ∙ number_found c.args.way c.near_end.result c.args.sought.now.id.now (stock c.args.servers.now)
    c.args.coll.0 span c.near_end.ensures within
    (c.find_span-span.ensures.exactly (text c.args.sought.now.id.now) c.requires.sought)

pub returns-clause-tally : goal.returns-clause-tally
returns-clause-tally c = c.loop-place.invariant.tally ∙ ap (λ n. found_more n c.args.tally.now) (all_found c)

pub returns-clause-counts : goal.returns-clause-counts
returns-clause-counts c =
    c.loop-place.invariant.counts ∙ ap (λ n. found_more n c.args.servers.now.counts) (all_found c)
