-- Where scatter-in-cluster applies: each application leaves fewer places, and where there is none, the plan
-- reads on shards alone.
use Rattle.std.proofs.Common.{◌≡◌, ◌∙◌, ℕ, zero, suc, ◌≤◌, ◌<◌, Bool, true, false, true≢false, Option, Some, None, refl, ap, sym, subst, arith}
use Rattle.std.proofs.lemmas.Option.{same_Some}
use Rattle.aql_tree.specs.declared.syntax.Ident.{Ident}
use Rattle.aql_meaning.specs.Uses.{Uses}
use Rattle.aql_plan.specs.declared.facts.Facts.{Facts}
use Rattle.aql_plan.specs.Above.{input_inside}
use Rattle.aql_plan.specs.Needs.{under, result_uses}
use Rattle.aql_plan.specs.Plan.{Plan, Singleton, Over, Node, EnumerateCollection, Index, Subquery, top}
use Rattle.aql_plan.specs.Shapes.{Shape, Result, Shaped, with_subquery, plain_rows, lowest, other_reading, passing, is_inside}
use Rattle.aql_plan_laws.specs.laws.ShapesKept.{under_top, body_shaped}
use Rattle.aql_rewrite.specs.declared.swap.Rename.{Rename}
use Rattle.aql_rewrite.specs.Placed.{IsWhole}
use Rattle.aql_rewrite.specs.Places.{Stays, NoPlace, NoPlaceAt, First}
use Rattle.aql_rules_cluster.specs.Measures.{readers_outside, reads_outside}
use Rattle.aql_rules_cluster.specs.OnShards.{ReadsInFragments, ReadsOnShards}
use Rattle.aql_rules_cluster.specs.ScatterInCluster.{on_all_shards, Scatters, enumeration, by_index, in_index_order}
use Rattle.aql_rules_cluster.specs.Theorems.{NoPlaceMeansOnShards}
use Rattle.aql_rules_cluster.specs.inner.Gathers.{Gathering, gathering_by, gathering, IsOnAllShards}
use Rattle.aql_rules_cluster.specs.laws.Falling.{falls}
use Rattle.aql_rules_cluster.specs.laws.Passes.{KeepsRunning}
use Rattle.aql_rules_cluster.specs.laws.Walking.{nowhere, NoPlaces, none_below}

-- ---- what the rule sees

pub stays : (facts : Facts) (us : Uses) (p : Plan) → gathering facts (top p) ≡ None
    → Stays (Scatters facts) us p
stays facts us _ h _ _ (enumeration servers) = absurd (cc)
stays facts us _ h _ _ (by_index servers) = absurd (cc)
stays facts us _ h _ _ (in_index_order servers) = absurd (cc)

module _ (facts : Facts) (us : Uses) (b : Plan) (n : Node) where
  abbrev On : Gathering → Type 0
  On g = Scatters facts us (Over b n) (on_all_shards g.coll g.directions g.keys n b) None

  put : (k g : Gathering) (q : Plan) → On k → Some k ≡ Some g → IsOnAllShards g (Over b n) q
      → Scatters facts us (Over b n) q None
  put k g q h e is = subst (λ (o : Plan). Scatters facts us (Over b n) o None) (sym (is b refl))
      (subst On (same_Some k g e) h)

made : (facts : Facts) → 1 ≤ facts.servers → (us : Uses) (b : Plan) (n : Node) (g : Gathering)
    → gathering facts n ≡ Some g → (q : Plan) → IsOnAllShards g (Over b n) q
    → Scatters facts us (Over b n) q None
made facts servers us b (EnumerateCollection x) g e q is =
    put facts us b (EnumerateCollection x) _ g q (enumeration servers) e is
made facts servers us b (Index x index equal last None) g e q is =
    put facts us b (Index x index equal last None) (gathering_by facts x.var x.coll index None) g q
    (by_index servers) e is
made facts servers us b (Index x index equal last (Some descending)) g e q is =
    put facts us b (Index x index equal last (Some descending))
    (gathering_by facts x.var x.coll index (Some descending)) g q (in_index_order servers) e is
made facts servers us b n g e q is = absurd (cc)

pub made_at : (facts : Facts) → 1 ≤ facts.servers → (us : Uses) (p q : Plan) (g : Gathering)
    → gathering facts (top p) ≡ Some g → IsOnAllShards g p q → Scatters facts us p q None
made_at facts servers us Singleton q g e h = absurd (cc)
made_at facts servers us (Over b n) q g e h = made facts servers us b n g e q h

-- ---- fewer places

fewer_at : (facts : Facts) (us : Uses) (p q : Plan) (r : Option Rename) → Scatters facts us p q r
    → (r ≡ None) × (readers_outside false q < readers_outside false p)
fewer_at facts _ _ _ _ (enumeration servers) = (refl, omega arith)
fewer_at facts _ _ _ _ (by_index servers) = (refl, omega arith)
fewer_at facts _ _ _ _ (in_index_order servers) = (refl, omega arith)

pub scatters_fall : (facts : Facts) (p q : Plan) (r : Option Rename) → IsWhole true facts p
    → First (Scatters facts) false result_uses p q r → readers_outside false q < readers_outside false p
scatters_fall facts p q r whole h = falls readers_outside reads_outside (λ inside b n. refl) (λ x s. refl)
    facts (Scatters facts) (fewer_at facts) p q r whole h

-- ---- no place

-- a subquery stands in no fragment
body_outside : (facts : Facts) (b s : Plan) (x : Ident) (t : Shape) → Shaped facts (Over b (Subquery x s)) t
    → is_inside t ≡ false
body_outside facts b s x t (with_subquery g h) = refl
body_outside facts b s x t (plain_rows i f h) = absurd i
body_outside facts b s x t (lowest i f h) = absurd i
body_outside facts b s x t (other_reading i f h) = absurd i
body_outside facts b s x t (passing i f h) = absurd i

module _ (facts : Facts) (servers : 1 ≤ facts.servers) where
  -- a node that reads a collection and is no place stands in a fragment
  reader : (inside : Bool) (stays : Type 0) → (stays → ⊥) → (n : Node)
      → ((P : Type 0) → NoPlaceAt (Scatters facts) false P n → P) → NoPlaceAt (Scatters facts) inside stays n
      → inside ≡ true
  reader true stays f n g h = refl
  reader false stays f n g h = absurd (f (g stays h))

  pub none_left : (inside : Bool) (us : Uses) (p : Plan) (s : Shape) → Shaped facts p s
      → is_inside s ≡ inside → NoPlace (Scatters facts) inside us p → ReadsInFragments inside p
  none_left inside us Singleton s shaped e h = tt
  none_left inside us (Over b (EnumerateCollection x)) s shaped e h =
      let n = EnumerateCollection x in
      let a = under_top facts b n s shaped in (
        none_left (input_inside n inside) (under n us) b a.0 a.2 (a.1 ∙ ap (input_inside n) e) h.0,
        reader inside (Stays (Scatters facts) us (Over b n)) (λ k. k _ _ (enumeration servers)) n (λ P k. k)
            h.1,
      )
  none_left inside us (Over b (Index x index equal last None)) s shaped e h =
      let n = Index x index equal last None in
      let a = under_top facts b n s shaped in (
        none_left (input_inside n inside) (under n us) b a.0 a.2 (a.1 ∙ ap (input_inside n) e) h.0,
        reader inside (Stays (Scatters facts) us (Over b n)) (λ k. k _ _ (by_index servers)) n (λ P k. k) h.1,
      )
  none_left inside us (Over b (Index x index equal last (Some descending))) s shaped e h =
      let n = Index x index equal last (Some descending) in
      let a = under_top facts b n s shaped in (
        none_left (input_inside n inside) (under n us) b a.0 a.2 (a.1 ∙ ap (input_inside n) e) h.0,
        reader inside (Stays (Scatters facts) us (Over b n)) (λ k. k _ _ (in_index_order servers)) n
            (λ P k. k) h.1,
      )
  none_left true us (Over b (Subquery x t)) s shaped e h =
      absurd (true≢false (sym e ∙ body_outside facts b t x s shaped))
  none_left false us (Over b (Subquery x t)) s shaped e h =
      let n = Subquery x t in
      let a = under_top facts b n s shaped in (
        none_left false (under n us) b a.0 a.2 (a.1 ∙ e) h.0,
        none_left false result_uses t Result (body_shaped facts s b x t shaped) refl h.1.1,
      )
  none_left inside us (Over b n) s shaped e h =
      let a = under_top facts b n s shaped in (
        none_left (input_inside n inside) (under n us) b a.0 a.2 (a.1 ∙ ap (input_inside n) e) h.0,
        tt,
      )

-- where each reader stands in a fragment, there is no place
none_there : (facts : Facts) (inside : Bool) (us : Uses) (p : Plan) → ReadsInFragments inside p
    → NoPlace (Scatters facts) inside us p
none_there facts inside us Singleton h = tt
none_there facts true us (Over b n) h = (none_there facts (input_inside n true) (under n us) b h.0, tt)
none_there facts false us (Over b (EnumerateCollection x)) h = absurd (true≢false (sym h.1))
none_there facts false us (Over b (Index x index equal last ordered)) h = absurd (true≢false (sym h.1))
none_there facts false us (Over b (Subquery x s)) h = (
  none_there facts false (under (Subquery x s) us) b h.0,
  (stays facts us (Over b (Subquery x s)) refl, none_there facts false result_uses s h.1),
)
none_there facts false us (Over b n) h =
    (none_there facts (input_inside n false) (under n us) b h.0, stays facts us (Over b n) refl)

-- without servers there is none anywhere
pub stays_alone : (facts : Facts) → facts.servers ≡ 0 → (us : Uses) (p : Plan) → Stays (Scatters facts) us p
stays_alone facts e us _ _ _ (enumeration servers) = omega (arith, servers, e)
stays_alone facts e us _ _ _ (by_index servers) = omega (arith, servers, e)
stays_alone facts e us _ _ _ (in_index_order servers) = omega (arith, servers, e)

-- in a well-formed plan the rule has no place exactly where the plan reads on shards alone
pub no_place_means_on_shards : NoPlaceMeansOnShards
no_place_means_on_shards facts p well = (
  λ h servers. none_left facts servers false result_uses p Result well.1 refl h,
  λ h. by facts.servers refl h,
)
  where
    by : (n : ℕ) → facts.servers ≡ n → ReadsOnShards facts p → NoPlace (Scatters facts) false result_uses p
    by zero e h = nowhere (Scatters facts) (stays_alone facts e) false result_uses p
    by (suc n) e h = none_there facts false result_uses p (h (omega (arith, e)))

-- a reader in a fragment has no place, where the part has none below it
pub none_scattered : (facts : Facts) {vs : Uses} {p q : Plan} {r : Option Rename} → Scatters facts vs p q r
    → (c : Plan) (n : Node) → p ≡ Over c n → NoPlaces (Scatters facts) (input_inside n false) c
    → NoPlaces (Scatters facts) false q
none_scattered facts (enumeration {b = b} {x = x} servers) c n e none us =
    let there = none_below (Scatters facts) b c (EnumerateCollection x) n e none in
    (((((there _, tt), tt), tt), tt), stays facts us _ refl)
none_scattered facts (by_index {b = b} servers) c n e none us =
    let there = none_below (Scatters facts) b c _ n e none in
    (((((there _, tt), tt), tt), tt), stays facts us _ refl)
none_scattered facts (in_index_order {b = b} servers) c n e none us =
    let there = none_below (Scatters facts) b c _ n e none in
    (((((there _, tt), tt), tt), tt), stays facts us _ refl)

-- ---- what stays

pub runs_on : (facts : Facts) (us : Uses) (p q : Plan) (r : Option Rename) → Scatters facts us p q r
    → KeepsRunning false p q r
runs_on facts _ _ _ _ (enumeration servers) = record {
  nameless = refl;
  readers = λ h. absurd (true≢false (sym h.1));
}
runs_on facts _ _ _ _ (by_index servers) = record {
  nameless = refl;
  readers = λ h. absurd (true≢false (sym h.1));
}
runs_on facts _ _ _ _ (in_index_order servers) = record {
  nameless = refl;
  readers = λ h. absurd (true≢false (sym h.1));
}
