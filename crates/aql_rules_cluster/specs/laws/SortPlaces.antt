-- Where distribute-sort-to-cluster applies: what its program looks at, and that each application leaves one
-- Sort fewer outside fragments.
use Rattle.std.proofs.Common.{◌≡◌, ◌∙◌, ℕ, ◌≤◌, ◌<◌, List, Bool, true, false, Option, Some, None, refl, ap, sym, subst, arith}
use Rattle.aql_tree.specs.Tree.{ExprTrees}
use Rattle.aql_meaning.specs.Uses.{Uses}
use Rattle.aql_plan.specs.declared.facts.Facts.{Facts}
use Rattle.aql_plan.specs.Above.{input_inside}
use Rattle.aql_plan.specs.Needs.{under, result_uses}
use Rattle.aql_plan.specs.Plan.{Plan, Singleton, Over, Node, Sort, Limit, Remote, Gather}
use Rattle.aql_rewrite.specs.declared.swap.Rename.{Rename}
use Rattle.aql_rewrite.specs.Placed.{IsWhole}
use Rattle.aql_rewrite.specs.Places.{Stays, First}
use Rattle.aql_rules_cluster.specs.DistributeSortToCluster.{sorted_on_shards, SortsInside, sorted, sorted_first}
use Rattle.aql_rules_cluster.specs.SortsOutside.{sorts_outside, sort_outside}
use Rattle.aql_rules_cluster.specs.inner.Fragments.{is_gathered}
use Rattle.aql_rules_cluster.specs.inner.Sortings.{Sorting, sorting_by, sorting, limited, IsSortedInside}
use Rattle.aql_rules_cluster.specs.laws.Falling.{falls}
use Rattle.aql_rules_cluster.specs.laws.Gathers.{gathered_from}
use Rattle.aql_rules_cluster.specs.laws.Passes.{KeepsRunning}
use Rattle.aql_rules_cluster.specs.laws.Walking.{NoPlaces, none_below, none_in_fragment}

-- ---- what the program sees

-- no Sort over a Gather
pub stays : (facts : Facts) (us : Uses) (p : Plan) → sorting p ≡ None → Stays (SortsInside facts) us p
stays facts us _ h _ _ (sorted servers) = absurd (cc)
stays facts us _ h _ _ (sorted_first servers) = absurd (cc)

abbrev sort_of : Sorting → Node
sort_of s = Sort s.directions s.keys s.limit

sort_from : (n : Node) (gathered : Bool) (s : Sorting) → sorting_by n gathered ≡ Some s
    → (n ≡ sort_of s) × (gathered ≡ true)
sort_from (Sort directions keys limit) true s e =
    let k : record { directions = directions; keys = keys; limit = limit } ≡ s = cc in (ap sort_of k, refl)
sort_from (Sort directions keys limit) false s e = absurd (cc)
sort_from n gathered s e = absurd (cc)

module _ (facts : Facts) (servers : 1 ≤ facts.servers) (us : Uses) where
  abbrev sort_over : Plan → List Bool → ExprTrees → Node → Plan
  sort_over fragment old old_keys n = Over (Over (Over fragment Remote) (Gather old old_keys)) n

  made : (fragment : Plan) (old : List Bool) (old_keys : ExprTrees) (s : Sorting) (q : Plan)
      → (limit : Option ℕ) → q ≡ limited limit (sorted_on_shards fragment s.directions s.keys limit)
      → SortsInside facts us (sort_over fragment old old_keys (Sort s.directions s.keys limit)) q None
  made fragment old old_keys s q None e = subst (λ (o : Plan).
      SortsInside facts us (sort_over fragment old old_keys (Sort s.directions s.keys None)) o None)
      (sym e) (sorted servers)
  made fragment old old_keys s q (Some limit) e = subst (λ (o : Plan).
      SortsInside facts us (sort_over fragment old old_keys (Sort s.directions s.keys (Some limit))) o None)
      (sym e) (sorted_first servers)

  -- a Sort over a Gather, and what the program makes of it
  pub made_at : (p q : Plan) (s : Sorting) → sorting p ≡ Some s → IsSortedInside s p q
      → SortsInside facts us p q None
  made_at Singleton q s e h = absurd (cc)
  made_at (Over b n) q s e h =
      let k = sort_from n (is_gathered b) s e in
      let g = gathered_from b k.1 in
      let is : Over b n ≡ sort_over g.fragment g.directions g.keys (sort_of s)
      = ap (λ (o : Plan). Over o n) g.is ∙ ap (sort_over g.fragment g.directions g.keys) k.0 in
      subst (λ (o : Plan). SortsInside facts us o q None) (sym is)
      (made g.fragment g.directions g.keys s q s.limit (h g.fragment (Gather g.directions g.keys) is))

-- ---- no place

blind : (facts : Facts) (us vs : Uses) (p q : Plan) (r : Option Rename) → SortsInside facts us p q r
    → SortsInside facts vs p q r
blind facts us vs _ _ _ (sorted servers) = sorted servers
blind facts us vs _ _ _ (sorted_first servers) = sorted_first servers

-- without servers there is none
pub stays_alone : (facts : Facts) → facts.servers ≡ 0 → (us : Uses) (p : Plan)
    → Stays (SortsInside facts) us p
stays_alone facts e us _ _ _ (sorted servers) = omega (arith, servers, e)
stays_alone facts e us _ _ _ (sorted_first servers) = omega (arith, servers, e)

-- where a Sort over a Gather has no place below it, the fragment has none
none_inside : (facts : Facts) (fragment : Plan) (old directions : List Bool) (old_keys keys : ExprTrees)
    (limit : Option ℕ) (c : Plan) (n : Node)
    → Over (Over (Over fragment Remote) (Gather old old_keys)) (Sort directions keys limit) ≡ Over c n
    → NoPlaces (SortsInside facts) (input_inside n false) c → NoPlaces (SortsInside facts) true fragment
none_inside facts fragment old directions old_keys keys limit c n e none =
    let R = SortsInside facts in none_in_fragment R (blind facts) fragment old old_keys
    (none_below R (Over (Over fragment Remote) (Gather old old_keys)) c (Sort directions keys limit) n e none)

-- what the rule makes of a part has no place where the part has none below it
pub none_sorted : (facts : Facts) {vs : Uses} {p q : Plan} {r : Option Rename} → SortsInside facts vs p q r
    → (c : Plan) (n : Node) → p ≡ Over c n → NoPlaces (SortsInside facts) (input_inside n false) c
    → NoPlaces (SortsInside facts) false q
none_sorted facts (sorted {fragment = f} {old = old} {directions = directions} {old_keys = old_keys}
    {keys = keys} servers) c n e none us =
    let inside = none_inside facts f old directions old_keys keys None c n e none in
    (((inside _, tt), tt), stays facts us (sorted_on_shards f directions keys None) refl)
none_sorted facts (sorted_first {fragment = f} {old = old} {directions = directions} {old_keys = old_keys}
    {keys = keys} {limit = limit} servers) c n e none us =
    let q = sorted_on_shards f directions keys (Some limit) in
    let inside = none_inside facts f old directions old_keys keys (Some limit) c n e none in (
      (((inside _, tt), tt), stays facts (under (Limit 0 limit) us) q refl),
      stays facts us (Over q (Limit 0 limit)) refl,
    )

-- ---- fewer places

fewer_at : (facts : Facts) (us : Uses) (p q : Plan) (r : Option Rename) → SortsInside facts us p q r
    → (r ≡ None) × (sorts_outside false q < sorts_outside false p)
fewer_at facts _ _ _ _ (sorted servers) = (refl, omega arith)
fewer_at facts _ _ _ _ (sorted_first servers) = (refl, omega arith)

pub sorts_fall : (facts : Facts) (p q : Plan) (r : Option Rename) → IsWhole true facts p
    → First (SortsInside facts) false result_uses p q r → sorts_outside false q < sorts_outside false p
sorts_fall facts p q r whole h = falls sorts_outside sort_outside (λ inside b n. refl) (λ x s. refl) facts
    (SortsInside facts) (fewer_at facts) p q r whole h

-- ---- what stays

pub runs_on : (facts : Facts) (us : Uses) (p q : Plan) (r : Option Rename) → SortsInside facts us p q r
    → KeepsRunning false p q r
runs_on facts _ _ _ _ (sorted servers) = record {
  nameless = refl;
  readers = λ h. (((h.0.0.0, tt), tt), tt);
}
runs_on facts _ _ _ _ (sorted_first servers) = record {
  nameless = refl;
  readers = λ h. ((((h.0.0.0, tt), tt), tt), tt);
}
