-- A well-formed plan stays so under scatter-in-cluster, and sets no more.
use Rattle.std.proofs.Common.{◌≡◌, ℕ, List, [], ◌∷◌, map, Bool, true, false, Option, None, Some, refl, sym, subst, arith}
use Rattle.std.specs.Prelude.{◌||◌, ◌&&◌}
use Rattle.aql_tree.specs.declared.syntax.Ident.{Ident}
use Rattle.aql_tree.specs.Tree.{no_exprs}
use Rattle.aql_meaning.specs.Plain.{AllPlain}
use Rattle.aql_meaning.specs.Uses.{Uses, all_uses}
use Rattle.aql_meaning.specs.laws.Idents.{same_self}
use Rattle.aql_plan.specs.declared.facts.Facts.{Facts}
use Rattle.aql_plan.specs.Facts.{attributes_in}
use Rattle.aql_plan.specs.Fits.{IsShard, attribute_keys}
use Rattle.aql_plan.specs.Plan.{Plan, EnumerateCollection, Index}
use Rattle.aql_plan.specs.Shapes.{Shape, Shaped, scatter, remote, lowest, lowest_in_order, gather, gather_in_order}
use Rattle.aql_plan.specs.Variables.{vars_of, are_among}
use Rattle.aql_rewrite.specs.declared.swap.Rename.{Rename}
use Rattle.aql_rewrite.specs.Placed.{Placed}
use Rattle.aql_rewrite.specs.Swaps.{KeepsPlaced}
use Rattle.aql_rewrite.specs.laws.Among.{has}
use Rattle.aql_rules_cluster.specs.ScatterInCluster.{on_all_shards, Scatters, enumeration, by_index, in_index_order}
use Rattle.aql_rules_cluster.specs.laws.Scattered.{enumeration_outside, index_outside, ordered_outside}

keys_plain : (x : Ident) (names : List (List ℕ)) → AllPlain (attribute_keys x names)
keys_plain x [] = tt
keys_plain x (name ∷ names) = ((tt, tt), keys_plain x names)

-- the keys use the document's variable alone
pub keys_found : (x : Ident) (names : List (List ℕ)) (xs : List Ident)
    → are_among (all_uses (attribute_keys x names)) (x ∷ xs) ≡ true
keys_found x [] xs = refl
keys_found x (name ∷ names) xs =
    subst (λ (b : Bool). (b || has x xs) && are_among (all_uses (attribute_keys x names)) (x ∷ xs) ≡ true)
    (sym (same_self x)) (keys_found x names xs)

-- the collection that a node reads outside fragments is there
whole_shard : (facts : Facts) (coll : ℕ) (o : Option ℕ) → o ≡ None → IsShard facts coll o
    → IsShard facts coll None
whole_shard facts coll o e h = subst (IsShard facts coll) e h

pub scatters_keep : (facts : Facts) (outer away : List Ident) (us : Uses) (p q : Plan) (r : Option Rename)
    → Placed true false facts outer away us p → Scatters facts us p q r
    → KeepsPlaced true false facts outer us p q r
scatters_keep facts outer away _ _ _ _ placed (enumeration {us = us} {b = b} {x = x} servers) =
    let f = placed.found in record {
      suits = placed.suits;
      shape = λ s e h.
          let k = enumeration_outside facts b x s e h in
          subst (λ (t : Shape). Shaped facts (on_all_shards x.coll [] no_exprs (EnumerateCollection x) b) t)
          (sym k.0)
          (gather (remote tt (lowest (refl, k.1) k.2
          (remote tt (scatter (whole_shard facts x.coll x.shard k.1 k.2.0) k.3)))));
      found = (((((f.0, refl, refl, tt), refl, refl, tt), f.1, f.2, tt), refl, refl, tt), refl, refl, tt);
      vars = λ z used h. h;
      fewer = λ z. omega arith;
    }
scatters_keep facts outer away _ _ _ _ placed
    (by_index {us = us} {b = b} {x = x} {index = index} {equal = equal} {last = last} servers) =
    let f = placed.found in record {
      suits = placed.suits;
      shape = λ s e h.
          let k = index_outside facts b x index equal last s e h in
          subst (λ (t : Shape).
          Shaped facts (on_all_shards x.coll [] no_exprs (Index x index equal last None) b) t)
          (sym k.0)
          (gather (remote tt (lowest (refl, k.1) k.2
          (remote tt (scatter (whole_shard facts x.coll x.shard k.1 k.2.0) k.3)))));
      found = (((((f.0, refl, refl, tt), refl, refl, tt), f.1, f.2, tt), refl, refl, tt), refl, refl, tt);
      vars = λ z used h. h;
      fewer = λ z. omega arith;
    }
scatters_keep facts outer away _ _ _ _ placed (in_index_order {us = us} {b = b} {x = x} {index = index}
    {equal = equal} {last = last} {descending = descending} servers) =
    let f = placed.found in
    let names = attributes_in facts x.coll index in record {
      suits = placed.suits;
      shape = λ s e h.
          let k = ordered_outside facts b x index equal last descending s e h in
          subst (λ (t : Shape). Shaped facts (on_all_shards x.coll (map (λ name. descending) names)
          (attribute_keys x.var names) (Index x index equal last (Some descending)) b) t)
          (sym k.0)
          (gather_in_order (keys_plain x.var names) (remote tt (lowest_in_order k.1 k.2
          (remote tt (scatter (whole_shard facts x.coll x.shard k.1 k.2.0) k.3)))));
      found = (
        ((((f.0, refl, refl, tt), refl, refl, tt), f.1, f.2, tt), refl, refl, tt),
        keys_found x.var names (vars_of outer b),
        refl,
        tt,
      );
      vars = λ z used h. h;
      fewer = λ z. omega arith;
    }
