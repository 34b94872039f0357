use Rattle.std.proofs.Common.{◌≡◌, ◌∙◌, ◌++◌, ◌∷◌, [], ap, sym, subst}
use Rattle.std.specs.Prelude.{ℕ, map, pos}
use Rattle.aql_value.specs.Datum.{Datum}
use Rattle.aql_value.specs.Truth.{truth}
use Rattle.aql_value.specs.View.{datum_of}
use Rattle.aql_func.specs.Arguments.{argument}
use Rattle.aql_func.specs.Aggregates.{part_at}
use Rattle.aql_aggregate.specs.Joined.{Adds, CountsJoin}
use Rattle.aql_aggregate.specs.laws.AnyStates.{one_marked, part_more}
use Rattle.aql_aggregate.proofs.joining.JoinedSums.add.Goals as goal

pub returns : goal.returns
returns c ts h =
    let me = c.args.self.now in
    let t = datum_of c.args.state.now in
    let parts = c.elements_of-parts.ensures in
    let first : datum_of c.item_at.result.now ≡ part_at (pos 0) t = c.item_at.ensures
    ∙ ap (λ vs. argument vs 0) parts in
    let second : datum_of c.item_at-2.result.now ≡ part_at (pos 1) t = c.item_at-2.ensures
    ∙ ap (λ vs. argument vs 1) parts in
    let third : datum_of c.item_at-3.result.now ≡ part_at (pos 2) t = c.item_at-3.ensures
    ∙ ap (λ vs. argument vs 2) parts in
    let fourth : datum_of c.item_at-4.result.now ≡ part_at (pos 3) t = c.item_at-4.ensures
    ∙ ap (λ vs. argument vs 3) parts in
    let place = λ (n : ℕ) (v : Datum). map (part_at (pos n)) ts ++ v ∷ [] in
    record {
      counts = subst (CountsJoin c.add.new.self) (ap (place 0) first ∙ sym (part_more 0 ts t))
          (c.in_ok-add.ensures (map (part_at (pos 0)) ts) h.counts);
      bad = one_marked (λ s. truth (part_at (pos 1) s)) me.bad c.truthy.result ts t h.bad
          (c.truthy.ensures ∙ ap truth second);
      high = subst (Adds c.add-2.new.self) (ap (place 2) third ∙ sym (part_more 2 ts t))
          (c.in_ok-add-2.ensures (map (part_at (pos 2)) ts) h.high);
      low = subst (Adds c.add-3.new.self) (ap (place 3) fourth ∙ sym (part_more 3 ts t))
          (c.in_ok-add-3.ensures (map (part_at (pos 3)) ts) h.low);
    }
