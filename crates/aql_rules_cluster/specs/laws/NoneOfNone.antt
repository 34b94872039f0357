-- Of no rows a node makes none, where it is no COLLECT without criteria; so the nodes of a fragment give
-- nothing on a shard where its lowest node finds nothing.
use Rattle.std.proofs.Common.{◌≡◌, ℕ, zero, suc, [], ◌∷◌, map, Bool, true, false, true≢false, refl, sym}
use Rattle.std.specs.Prelude.{Option, Some, None}
use Rattle.std.proofs.lemmas.Bool.{and_parts}
use Rattle.std.proofs.lemmas.List.Sorted.{IsPermutation-refl}
use Rattle.aql_meaning.specs.Clauses.{first_rows, limit_rows, return_values}
use Rattle.aql_meaning.specs.Row.{Row}
use Rattle.aql_plan.specs.declared.facts.Facts.{Facts}
use Rattle.aql_plan.specs.Plan.{Plan, Over, Node, EnumerateCollection, Index, EnumerateList, Traversal, Calculation, Filter, Sort, Limit, Collect, Return, NoResults, Subquery, Scatter, Distribute, Remote, Gather}
use Rattle.aql_plan.specs.Refines.{dataset}
use Rattle.aql_plan.specs.Runs.{Dataset, Site, Inside, Gives, sent_to, result_row}
use Rattle.aql_rules_cluster.specs.FragmentParts.{is_above_foot, SameAbove, none_above, one_above}
use Rattle.aql_rules_cluster.specs.RestrictToSingleShard.{gives_none, none_of_none}
use Rattle.aql_rules_cluster.specs.laws.AlikeInside.{gives_there, same_reads}
use Rattle.aql_rules_cluster.specs.laws.OneShard.{OnOneShard}
use Rattle.aql_rules_cluster.specs.laws.SortedRows.{gives_sort}

-- ---- one node

none_first : (limit : Option ℕ) → [] ≡ first_rows limit []
none_first None = refl
none_first (Some zero) = refl
none_first (Some (suc n)) = refl

none_limited : (offset count : ℕ) → [] ≡ limit_rows offset count []
none_limited zero zero = refl
none_limited zero (suc count) = refl
none_limited (suc offset) zero = refl
none_limited (suc offset) (suc count) = refl

none_returned : (distinct : Bool) → [] ≡ map result_row (return_values distinct [])
none_returned true = refl
none_returned false = refl

pub gives_nothing : (n : Node) → is_above_foot n ≡ true → gives_none n ≡ true → (w : Dataset) (site : Site)
    (start : Row) → Gives n w site start [] []
gives_nothing (EnumerateCollection x) i k w site start = IsPermutation-refl []
gives_nothing (Index x index equal last None) i k w site start = IsPermutation-refl []
gives_nothing (Index x index equal last (Some descending)) i k w site start = ([], tt, refl)
gives_nothing (EnumerateList x e) i k w site start = refl
gives_nothing (Traversal shape e colls prune f) i k w site start = ([], ([], tt, IsPermutation-refl []), refl)
gives_nothing (Calculation x e) i k w site start = refl
gives_nothing (Subquery x s) i k w site start = absurd (true≢false (sym i))
gives_nothing (Filter e) i k w site start = refl
gives_nothing (Sort directions es limit) i k w site start =
    ([], gives_sort directions es [] [] (IsPermutation-refl []) tt, none_first limit)
gives_nothing (Limit offset count) i k w site start = none_limited offset count
gives_nothing (Collect [] es gs taken s) i k w site start = absurd (true≢false (sym k))
gives_nothing (Collect (x ∷ xs) es gs taken s) i k w site start = tt
gives_nothing (Return distinct e) i k w site start = none_returned distinct
gives_nothing NoResults i k w site start = refl
gives_nothing (Scatter coll only) i k w site start = absurd (true≢false (sym i))
gives_nothing (Distribute coll es) i k w site start = absurd (true≢false (sym i))
gives_nothing Remote i k w site start = refl
gives_nothing (Gather directions es) i k w site start = absurd (true≢false (sym i))

-- ---- the nodes of a fragment

module _ (facts : Facts) (shard shards : ℕ) where
  one_over : (n : Node) → is_above_foot n ≡ true → gives_none n ≡ true → (q p : Plan)
      → OnOneShard facts shard shards q p → OnOneShard facts shard shards (Over q n) (Over p n)
  one_over (Scatter coll only) i k q p h = absurd (true≢false (sym i))
  one_over (Distribute coll es) i k q p h = absurd (true≢false (sym i))
  one_over (Gather directions es) i k q p h = absurd (true≢false (sym i))
  one_over (Subquery x s) i k q p h = absurd (true≢false (sym i))
  one_over NoResults i k q p h = record {
    feeds = h.feeds;
    one = h.one;
    all = h.all;
    runs = λ db meets start taken out g. g;
    nothing = λ db meets start taken s apart. refl;
  }
  one_over n i k q p h = record {
    feeds = h.feeds;
    one = h.one;
    all = h.all;
    runs = λ db meets start taken out g. (
      g.0,
      h.runs db meets start taken g.0 g.1,
      gives_there n (dataset facts db) (Inside shard (sent_to q (dataset facts db) shard taken))
          (Inside shard (sent_to p (dataset facts db) shard taken)) start g.0 out
          (same_reads n (dataset facts db) shard (sent_to q (dataset facts db) shard taken)
          (sent_to p (dataset facts db) shard taken)) g.2,
    );
    nothing = λ db meets start taken s apart. (
      [],
      h.nothing db meets start taken s apart,
      gives_nothing n i k (dataset facts db) (Inside s (sent_to p (dataset facts db) s taken)) start,
    );
  }

  none_lower : (p : Plan) (n : Node) → is_above_foot n ≡ true → none_of_none (Over p n) ≡ true
      → (gives_none n ≡ true) × (none_of_none p ≡ true)
  none_lower p (Scatter coll only) i h = absurd (true≢false (sym i))
  none_lower p (Distribute coll es) i h = absurd (true≢false (sym i))
  none_lower p n i h = and_parts (gives_none n) (none_of_none p) h

  pub one_above_foot : {old new p q : Plan} → SameAbove old new p q → none_of_none p ≡ true
      → (none_of_none old ≡ true → OnOneShard facts shard shards new old)
      → OnOneShard facts shard shards q p
  one_above_foot none_above h k = k h
  one_above_foot (one_above {p = p} {q = q} {n = n} i s) h k =
      let l = none_lower p n i h in
      one_over n i l.0 q p (one_above_foot s l.1 k)
