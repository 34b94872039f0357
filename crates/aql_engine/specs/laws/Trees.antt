-- The operators of a plan are a tree, each with as many inputs as it wants.
use Rattle.std.proofs.Common.{◌≡◌, ℕ, zero, suc, ◌<◌, ◌^◌, List, [], ◌∷◌, ◌++◌, length, Bool, true, false, refl, sym, ap, subst, arith}
use Rattle.std.specs.Prelude.{Option, Some, None, is_some, unwrap_or}
use Rattle.std.specs.List.{AllByRecursion}
use Rattle.std.proofs.lemmas.List.{length-append}
use Rattle.aql_tree.specs.declared.syntax.Ident.{Ident}
use Rattle.aql_tree.specs.Tree.{ExprTrees, no_exprs, no_into}
use Rattle.aql_meaning.specs.Plain.{AllPlain}
use Rattle.aql_meaning.specs.Uses.{Uses}
use Rattle.aql_meaning.specs.declared.grouping.Stage.TheVariants as stage
use Rattle.aql_plan.specs.declared.facts.Facts.{Facts}
use Rattle.aql_plan.specs.Facts.{shards_in, numbers_below}
use Rattle.aql_plan.specs.Plan.{Plan, Singleton, Over, Node, EnumerateCollection, Index, EnumerateList, Traversal, Calculation, Subquery, Filter, Sort, Limit, Collect, Return, NoResults, Scatter, Distribute, Remote, Gather}
use Rattle.aql_plan.specs.Fits.{IsShard, Fits}
use Rattle.aql_plan.specs.Needs.{under}
use Rattle.aql_plan.specs.Shapes.{by_keys, Shape, Rows, Foot, Fragment, States, AllStates, Sent, Result, IsOuter, ReadsFragment, ReadsShard, KeepsRowOrder, IsSent, Shaped, one_row, calculated, with_subquery, plain_rows, ordered_rows, scatter, distribute, remote, lowest, lowest_in_order, other_reading, passing, sorting, gather, gather_in_order, partial, joining, finishing, returning, is_inside, HasNoFragment}
use Rattle.aql_exec.specs.Operators.{OnRows, WithBody, OperatorTree, within, count_of, is_below, ReachesAll, IsTree, AreTrees}
use Rattle.aql_engine.specs.OperatorsOf.{reading_at, looked_at, foot, shards_of, each_tree, on_top, operators_at, operators_below, operators_of}
use Rattle.aql_engine.specs.EachFits.{EachFits, FewShards}

module _ (facts : Facts) where
  -- a node over one input, and a subquery over its input and body
  on_rows : (n : Node) (t : OperatorTree) → IsTree facts t → Fits facts n → IsTree facts (on_top (OnRows n) t)
  on_rows n t h f = (omega arith, omega arith, h, (refl, tt), refl, refl, f)

  -- a node that hands on no row
  over_looked : (us : Uses) (t : OperatorTree) → IsTree facts t → IsTree facts (looked_at (Some us) t)
  over_looked us (within (OnRows (EnumerateCollection x)) below body) h = h
  over_looked us (within (OnRows (Calculation x e)) below body) h =
      (h.0, h.1, over_looked (under (Calculation x e) us) below h.2, h.3, h.4, h.5, h.6)
  over_looked us (within (OnRows (Filter e)) below body) h =
      (h.0, h.1, over_looked (under (Filter e) us) below h.2, h.3, h.4, h.5, h.6)
  over_looked us (within (OnRows (Sort directions es n)) below body) h =
      (h.0, h.1, over_looked (under (Sort directions es n) us) below h.2, h.3, h.4, h.5, h.6)
  over_looked us (within (OnRows (Limit offset count)) below body) h =
      (h.0, h.1, over_looked (under (Limit offset count) us) below h.2, h.3, h.4, h.5, h.6)
  over_looked us t h = h

  on_looked : (us : Uses) (n : Node) (t : OperatorTree) → IsTree facts t → Fits facts n
      → IsTree facts (on_top (OnRows n) (looked_at (Some us) t))
  on_looked us n t h f = on_rows n (looked_at (Some us) t) (over_looked us t h) f

  with_body : (x : Ident) (t body : OperatorTree) → IsTree facts t → IsTree facts body
      → IsTree facts (within (WithBody x) t body)
  with_body x t body h k = (omega arith, omega arith, h, k, refl, refl, tt)

  -- ---- plans without fragments

  pub plain_tree : (p : Plan) → HasNoFragment p → EachFits facts p → IsTree facts (operators_of facts p)
  plain_tree Singleton h f = (refl, tt)
  plain_tree (Over b NoResults) h f = (refl, tt)
  plain_tree (Over b (Subquery x body)) h f = with_body x (operators_of facts b) (operators_of facts body)
      (plain_tree b h.0 f.0) (plain_tree body h.1 f.2)
  plain_tree (Over b (Collect xs es gs i stage.Whole)) h f =
      on_looked _ (Collect xs es gs i stage.Whole) (operators_of facts b) (plain_tree b h.0 f.0) f.1
  plain_tree (Over b (Collect xs es gs i stage.Partial)) h f = absurd h.1
  plain_tree (Over b (Collect xs es gs i stage.Final)) h f = absurd h.1
  plain_tree (Over b (Scatter coll only)) h f = absurd h.1
  plain_tree (Over b (Distribute coll es)) h f = absurd h.1
  plain_tree (Over b Remote) h f = absurd h.1
  plain_tree (Over b (Gather directions es)) h f = absurd h.1
  plain_tree (Over b (Return distinct e)) h f =
      on_looked _ (Return distinct e) (operators_of facts b) (plain_tree b h.0 f.0) f.1
  plain_tree (Over b n) h f = on_rows n (operators_of facts b) (plain_tree b h.0 f.0) f.1

  -- ---- the trees of a fragment

  count-each_tree : (tree : ℕ → OperatorTree) (shards : List ℕ)
      → length shards ≡ count_of (each_tree tree shards)
  count-each_tree tree [] = refl
  count-each_tree tree (shard ∷ shards) = ap suc (count-each_tree tree shards)

  all_trees : (tree : ℕ → OperatorTree) (P : ℕ → Type 0)
      → ((shard : ℕ) → P shard → IsTree facts (tree shard))
      → (shards : List ℕ) → AllByRecursion P shards → AreTrees facts (each_tree tree shards)
  all_trees tree P f [] h = tt
  all_trees tree P f (shard ∷ shards) h = (f shard h.0, all_trees tree P f shards h.1)

  each_begins : (n k : ℕ) → k < n → is_below n k ≡ true
  each_begins zero k l = absurd (omega (arith, l))
  each_begins (suc n) zero l = refl
  each_begins (suc n) (suc k) l = each_begins n k (omega (arith, l))

  -- what stands at the foot of a fragment over a collection
  abbrev Fed : ℕ → Plan → Type 0
  Fed coll p = IsTree facts (operators_below facts p) × Fits facts (foot p)
      × AllByRecursion (λ shard. shard < shards_in facts coll) (shards_of facts p)
      × (length (shards_of facts p) < 2 ^ 32)

  -- and on each shard there is a tree
  abbrev OnShards : ℕ → Plan → Type 0
  OnShards coll p =
      ((shard : ℕ) → shard < shards_in facts coll → IsTree facts (operators_at facts (Some shard) p))
      × Fed coll p

  length-numbers_below : (n : ℕ) → length (numbers_below n) ≡ n
  length-numbers_below zero = refl
  length-numbers_below (suc n) =
      let a = length-append (numbers_below n) (n ∷ []) in
      let b = length-numbers_below n in
      omega (arith, a, b)

  -- a Distribute reaches all shards
  reaches_all : (p : Plan) → ReachesAll facts (foot p) (shards_of facts p)
  reaches_all Singleton = tt
  reaches_all (Over b (Scatter coll only)) = tt
  reaches_all (Over b (Distribute coll es)) = length-numbers_below (shards_in facts coll)
  reaches_all (Over b n) = reaches_all b

  gathered : (b : Plan) (coll : ℕ) → OnShards coll b → (directions : List Bool) (es : ExprTrees) → AllPlain es
      → IsTree facts (operators_of facts (Over b (Gather directions es)))
  gathered b coll h directions es plain =
      let tree = λ (shard : ℕ). operators_at facts (Some shard) b in
      let shards = shards_of facts b in
      let e = count-each_tree tree shards in (
        omega arith,
        omega arith,
        h.1.0,
        (refl, tt),
        refl,
        refl,
        (
          e,
          refl,
          ap suc e,
          λ k l. each_begins (length shards) k (subst (λ (n : ℕ). k < n) (sym e) l),
          refl,
          subst (λ (n : ℕ). n < 2 ^ 32) e h.1.3,
          all_trees tree (λ shard. shard < shards_in facts coll) h.0 shards h.1.2,
          (h.1.3, plain),
          (h.1.1, reaches_all b),
        ),
      )

  -- ---- the foot

  below_next : (n : ℕ) (xs : List ℕ) → AllByRecursion (λ k. k < n) xs → AllByRecursion (λ k. k < suc n) xs
  below_next n [] h = tt
  below_next n (x ∷ xs) h = (let l = h.0 in omega (arith, l), below_next n xs h.1)

  all_with : (P : ℕ → Type 0) (xs : List ℕ) (x : ℕ) → AllByRecursion P xs → P x
      → AllByRecursion P (xs ++ x ∷ [])
  all_with P [] x h k = (k, tt)
  all_with P (y ∷ ys) x h k = (h.0, all_with P ys x h.1 k)

  all_below : (n : ℕ) → AllByRecursion (λ k. k < n) (numbers_below n)
  all_below zero = tt
  all_below (suc n) =
      all_with (λ k. k < suc n) (numbers_below n) n (below_next n (numbers_below n) (all_below n))
      (omega arith)

  few_below : (n : ℕ) → n < 2 ^ 32 → length (numbers_below n) < 2 ^ 32
  few_below n l = subst (λ (m : ℕ). m < 2 ^ 32) (sym (length-numbers_below n)) l

  scattered : FewShards facts → (b : Plan) (coll : ℕ) (only : Option ℕ) → Fits facts (Scatter coll only)
      → IsTree facts (operators_of facts b) → OnShards coll (Over b (Scatter coll only))
  scattered few b coll None f h = (
    λ shard l. (refl, tt),
    (h, f, all_below (shards_in facts coll), few_below (shards_in facts coll) (few coll)),
  )
  scattered few b coll (Some shard) f h = (λ other l. (refl, tt), (h, f, (f.1, tt), omega arith))

  distributed : FewShards facts → (b : Plan) (coll : ℕ) (es : ExprTrees) → Fits facts (Distribute coll es)
      → IsTree facts (operators_of facts b) → OnShards coll (Over b (Distribute coll es))
  distributed few b coll es f h = (
    λ shard l. (refl, tt),
    (h, f, all_below (shards_in facts coll), few_below (shards_in facts coll) (few coll)),
  )

  -- ---- nodes over the foot

  -- a shard of its own that a node reads is there, and so is that of the fragment
  shard_there : (coll shard : ℕ) (own : Option ℕ) → IsShard facts coll own → shard < shards_in facts coll
      → IsShard facts coll (Some (unwrap_or own shard))
  shard_there coll shard None h l = (h, l)
  shard_there coll shard (Some other) h l = h

  own_there : (coll shard : ℕ) (own : Option ℕ) → is_some own ≡ true → IsShard facts coll own
      → IsShard facts coll (Some (unwrap_or own shard))
  own_there coll shard None e h = cc
  own_there coll shard (Some other) e h = h

  reads_fragment : (b : Plan) (n : Node) (coll : ℕ) → ReadsFragment coll n → Fits facts n
      → OnShards coll b → OnShards coll (Over b n)
  reads_fragment b (EnumerateCollection x) coll i f h = (
    λ shard l. on_rows (EnumerateCollection (reading_at (Some shard) x)) (operators_at facts (Some shard) b)
        (h.0 shard l) (
          shard_there x.coll shard x.shard f.0
              (subst (λ (c : ℕ). shard < shards_in facts c) (sym i.0) l),
          f.1,
        ),
    h.1,
  )
  reads_fragment b (Index x index equal last None) coll i f h = (
    λ shard l. on_rows (Index (reading_at (Some shard) x) index equal last None)
        (operators_at facts (Some shard) b) (h.0 shard l) (
          shard_there x.coll shard x.shard f.0 (subst (λ (c : ℕ). shard < shards_in facts c) (sym i.0) l),
          f.1,
          f.2,
          f.3,
          f.4,
        ),
    h.1,
  )
  reads_fragment b n coll i f h = absurd i

  reads_shard : (b : Plan) (n : Node) (coll : ℕ) → ReadsShard n → Fits facts n
      → OnShards coll b → OnShards coll (Over b n)
  reads_shard b (EnumerateCollection x) coll i f h = (
    λ shard l. on_rows (EnumerateCollection (reading_at (Some shard) x)) (operators_at facts (Some shard) b)
        (h.0 shard l)
        (own_there x.coll shard x.shard i f.0, f.1),
    h.1,
  )
  reads_shard b (Index x index equal last None) coll i f h = (
    λ shard l. on_rows (Index (reading_at (Some shard) x) index equal last None)
        (operators_at facts (Some shard) b) (h.0 shard l)
        (own_there x.coll shard x.shard i f.0, f.1, f.2, f.3, f.4),
    h.1,
  )
  reads_shard b n coll i f h = absurd i

  keeps_order : (b : Plan) (n : Node) (coll : ℕ) → KeepsRowOrder n → Fits facts n
      → OnShards coll b → OnShards coll (Over b n)
  keeps_order b (Filter e) coll i f h =
      (λ shard l. on_rows (Filter e) (operators_at facts (Some shard) b) (h.0 shard l) f, h.1)
  keeps_order b (Calculation x e) coll i f h =
      (λ shard l. on_rows (Calculation x e) (operators_at facts (Some shard) b) (h.0 shard l) f, h.1)
  keeps_order b n coll i f h = absurd i

  -- ---- nodes outside fragments

  outer : (b : Plan) (n : Node) → IsOuter n → Fits facts n → IsTree facts (operators_of facts b)
      → IsTree facts (operators_of facts (Over b n))
  outer b (EnumerateCollection x) i f h = on_rows (EnumerateCollection x) (operators_of facts b) h f
  outer b (Index x index equal last None) i f h =
      on_rows (Index x index equal last None) (operators_of facts b) h f
  outer b (Index x index equal last (Some descending)) i f h = absurd i
  outer b (EnumerateList x e) i f h = on_rows (EnumerateList x e) (operators_of facts b) h f
  outer b (Traversal w e colls prune keep) i f h =
      on_rows (Traversal w e colls prune keep) (operators_of facts b) h f
  outer b (Filter e) i f h = on_rows (Filter e) (operators_of facts b) h f
  outer b (Sort directions es n) i f h = on_rows (Sort directions es n) (operators_of facts b) h f
  outer b (Limit offset count) i f h = on_rows (Limit offset count) (operators_of facts b) h f
  outer b (Collect xs es gs j stage.Whole) i f h =
      on_looked _ (Collect xs es gs j stage.Whole) (operators_of facts b) h f
  outer b NoResults i f h = (refl, tt)
  outer b n i f h = absurd i

  -- ---- plans with a shape

  -- what is shown of a part, by its shape
  abbrev Stands : Plan → Shape → Type 0
  Stands p (Foot coll one) = OnShards coll p
  Stands p (Fragment o) = (coll : ℕ) × OnShards coll p
  Stands p (States xs es gs) = (coll : ℕ) × OnShards coll p
  Stands p (Sent s) = Stands p s
  Stands p (Rows one) = IsTree facts (operators_of facts p)
  Stands p (AllStates xs es gs) = IsTree facts (operators_of facts p)
  Stands p Result = IsTree facts (operators_of facts p)

  linked : (b : Plan) (coll : ℕ) → OnShards coll b → OnShards coll (Over b Remote)
  linked b coll h = (λ shard l. (omega arith, omega arith, h.0 shard l, (refl, tt), refl, refl, tt), h.1)

  sent : (b : Plan) (s : Shape) → IsSent s → Stands b s → Stands (Over b Remote) s
  sent b (Foot coll one) i h = linked b coll h
  sent b (Fragment o) i h = (h.0, linked b h.0 h.1)
  sent b (States xs es gs) i h = (h.0, linked b h.0 h.1)
  sent b s i h = absurd i

  stands : FewShards facts → (p : Plan) (s : Shape) → Shaped facts p s → Stands p s
  stands few p s one_row = (refl, tt)
  stands few p s (calculated {b = b} {x = x} {e = e} f h) =
      on_rows (Calculation x e) (operators_of facts b) (stands few b _ h) f
  stands few p s (with_subquery {b = b} {s = t} {x = x} g h) =
      with_body x (operators_of facts b) (operators_of facts t) (stands few b _ h) (stands few t _ g)
  stands few p s (plain_rows {b = b} {n = n} i f h) = outer b n i f (stands few b _ h)
  stands few p s (ordered_rows {b = b} {x = x} {index = index} {equal = equal} {last = last}
      {descending = descending} e f h) =
      on_rows (Index x index equal last (Some descending)) (operators_of facts b)
      (stands few b (Rows true) h) f
  stands few p s (scatter {b = b} {coll = coll} {only = only} f h) =
      scattered few b coll only f (stands few b _ h)
  stands few p s (distribute {b = b} {coll = coll} {es = es} f h) =
      distributed few b coll es f (stands few b _ h)
  stands few p s (remote {b = b} {s = t} i h) = sent b t i (stands few b t h)
  stands few p s (lowest {b = b} {n = n} {coll = coll} i f h) =
      (coll, reads_fragment b n coll i f (stands few b _ h))
  stands few p s (lowest_in_order {b = b} {x = x} {index = index} {equal = equal} {last = last}
      {descending = descending} e f h) =
      let k = stands few b _ h in (
        x.coll,
        (
          λ shard l. on_rows (Index (reading_at (Some shard) x) index equal last (Some descending))
              (operators_at facts (Some shard) b) (k.0 shard l)
              (shard_there x.coll shard x.shard f.0 l, f.1, f.2, f.3, f.4),
          k.1,
        ),
      )
  stands few p s (other_reading {b = b} {n = n} i f h) =
      let k = stands few b _ h in (k.0, reads_shard b n k.0 i f k.1)
  stands few p s (passing {b = b} {n = n} i f h) =
      let k = stands few b _ h in (k.0, keeps_order b n k.0 i f k.1)
  stands few p s (sorting {b = b} {directions = directions} {es = es} {n = n} {o = o} f h) =
      let k = stands few b (Fragment o) h in
      let node = Sort directions es n in
      (k.0, (λ shard l. on_rows node (operators_at facts (Some shard) b) (k.1.0 shard l) f, k.1.1))
  stands few p s (gather {b = b} {o = o} h) =
      let k = stands few b (Sent (Fragment o)) h in gathered b k.0 k.1 [] no_exprs tt
  stands few p s (gather_in_order {b = b} {directions = directions} {es = es} f h) =
      let k = stands few b (Sent (Fragment (by_keys directions es))) h in
      gathered b k.0 k.1 directions es f
  stands few p s (partial {b = b} {xs = xs} {es = es} {gs = gs} {o = o} f h) =
      let k = stands few b (Fragment o) h in
      let node = Collect xs es gs no_into stage.Partial in
      (k.0, (λ shard l. on_looked _ node (operators_at facts (Some shard) b) (k.1.0 shard l) f, k.1.1))
  stands few p s (joining {b = b} {xs = xs} {es = es} {gs = gs} h) =
      let k = stands few b (Sent (States xs es gs)) h in gathered b k.0 k.1 [] no_exprs tt
  stands few p s (finishing {b = b} {xs = xs} {es = es} {gs = gs} f h) =
      on_looked _ (Collect xs es gs no_into stage.Final) (operators_of facts b)
      (stands few b (AllStates xs es gs) h) f
  stands few p s (returning {b = b} {distinct = distinct} {e = e} f h) =
      on_looked _ (Return distinct e) (operators_of facts b) (stands few b (Rows false) h) f

  outside : (p : Plan) (s : Shape) → is_inside s ≡ false → Stands p s → IsTree facts (operators_of facts p)
  outside p (Rows one) e h = h
  outside p (AllStates xs es gs) e h = h
  outside p Result e h = h
  outside p s e h = cc

  pub shaped_tree : (p : Plan) (s : Shape) → Shaped facts p s → is_inside s ≡ false → FewShards facts
      → IsTree facts (operators_of facts p)
  shaped_tree p s h e few = outside p s e (stands few p s h)
