-- A Gather over the link of a fragment, as the program finds it.
use Rattle.std.proofs.Common.{◌≡◌, ◌∙◌, List, Bool, true, true≢false, refl, ap, sym}
use Rattle.std.proofs.lemmas.Bool.{and_parts}
use Rattle.aql_tree.specs.Tree.{ExprTrees}
use Rattle.aql_plan.specs.Plan.{Plan, Singleton, Over, Node, Remote, Gather, top}
use Rattle.aql_rules_cluster.specs.inner.Fragments.{is_link, is_gather, is_gathered}

link_from : (b : Plan) → is_link (top b) ≡ true → (fragment : Plan) × (b ≡ Over fragment Remote)
link_from Singleton e = absurd (true≢false (sym e))
link_from (Over b Remote) e = (b, refl)
link_from (Over b n) e = absurd (true≢false (sym e))

gather_from : (n : Node) → is_gather n ≡ true
    → (directions : List Bool) × (keys : ExprTrees) × (n ≡ Gather directions keys)
gather_from (Gather directions keys) e = (directions, keys, refl)
gather_from n e = absurd (true≢false (sym e))

pub record IsGathered (b : Plan) : Type 0 where
  pub fragment : Plan
  pub directions : List Bool
  pub keys : ExprTrees
  pub is : b ≡ Over (Over fragment Remote) (Gather directions keys)

pub gathered_from : (b : Plan) → is_gathered b ≡ true → IsGathered b
gathered_from Singleton e = absurd (true≢false (sym e))
gathered_from (Over b n) e =
    let both = and_parts (is_gather n) (is_link (top b)) e in
    let g = gather_from n both.0 in
    let l = link_from b both.1 in record {
      fragment = l.0;
      directions = g.0;
      keys = g.1;
      is = ap (λ (o : Plan). Over o n) l.1 ∙ ap (Over (Over l.0 Remote)) g.2;
    }
