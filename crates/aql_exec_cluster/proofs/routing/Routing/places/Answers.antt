use Rattle.std.proofs.Common.{[], ◌∷◌, ◌<◌, length, sym, subst, ap, ◌∙◌, arith, length-append}
use Rattle.std.specs.List.{All}
use Rattle.std.proofs.lemmas.Option.{slice_get_within}
use Rattle.aql_block.specs.Rows.{row_of}
use Rattle.aql_block.specs.Tables.{rows_of}
use Rattle.aql_exec_cluster.specs.Routings.{rows_at_places}
use Rattle.aql_exec_cluster.proofs.Routed.{sends_more, passes_over, all_more}
use Rattle.aql_exec_cluster.proofs.routing.Routing.places.Goals.{then-branch+in_ok-push, else-branch}
use Rattle.aql_exec_cluster.proofs.routing.Routing.places.Goals as goal

pub loop-at-preserved : goal.loop-at-preserved
loop-at-preserved c =
    let rows = rows_of c.args.block.now in
    let row = row_of c.in-Some.row in
    let at = c.loop-at.at in
    let from = c.args.from in
    let places = c.loop-at.places.items in
    let before = c.loop-at.invariant in
    let here = sym c.in-Some.ensures in
    let low = c.loop-at.auto.at in
    let few = before.few in
    elim c.if-branch.branch [
      | then-branch+in_ok-push w ↦ (
          let is = ap (λ z. z.items) w.places-is ∙ w.in_ok-push.ensures.items in
          record {
            within = subst (All (λ i. i < length rows)) (sym is)
                (all_more (length rows) places at before.within (slice_get_within rows at row here));
            few = (let n = ap length is in let m = length-append places (at ∷ []) in omega (arith, n, m, few, low));
            rows = ap (rows_at_places rows) is
                ∙ sends_more c.args.self.now c.args.target rows places from at row low here
                (sym c.in_ok-sends.ensures ∙ w.if-branch.true) before.rows;
          })
      | else-branch w ↦ (
          let is = ap (λ z. z.items) w.places-is in
          record {
            within = subst (All (λ i. i < length rows)) (sym is) before.within;
            few = (let n = ap length is in omega (arith, n, few, low));
            rows = ap (rows_at_places rows) is
                ∙ passes_over c.args.self.now c.args.target rows places from at row low here
                (sym c.in_ok-sends.ensures ∙ w.if-branch.false) before.rows;
          })
    ]
