-- Candidates after the later passes.
use Rattle.std.proofs.Common.{◌≡◌, sym, subst}
use Rattle.aql_plan.specs.declared.facts.Facts.{Facts}
use Rattle.aql_plan.specs.Plan.{Plan}
use Rattle.aql_plan.specs.Shapes.{HasNoFragment}
use Rattle.aql_rewrite.specs.laws.Steps.{refines_through_answers, sets_through}
use Rattle.aql_rules_order.specs.StandsFor.{StandsFor}
use Rattle.aql_opt.specs.inner.Later.{Finished}

pub finished_through : (facts : Facts) (p q s : Plan) → StandsFor facts p q → Finished facts q s
    → Finished facts p s
finished_through facts p q s h k = record {
  refines = refines_through_answers facts p q s k.refines h.refines;
  well_formed = k.well_formed;
  sets = sets_through p q s h.sets k.sets;
  on_shards = k.on_shards;
  alone = k.alone;
}

-- without servers the plan after the passes of a cluster is the one before them
pub still_lone : (facts : Facts) (p q : Plan) → HasNoFragment p → (facts.servers ≡ 0 → q ≡ p)
    → facts.servers ≡ 0 → HasNoFragment q
still_lone facts p q h e servers = subst HasNoFragment (sym (e servers)) h
