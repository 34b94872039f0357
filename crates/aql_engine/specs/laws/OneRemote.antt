-- Where a plan has no LIMIT, each link of a run stands for one Remote, and is closed at the end.
use Rattle.std.proofs.Common.{◌≡◌, ◌∙◌, ℕ, zero, suc, ◌+◌, ◌<◌, ◌≤◌, ◌⊎◌, inl, inr, List, [], ◌∷◌, map, length, Bool, true, false, cond, refl, sym, ap, arith}
use Rattle.std.specs.Prelude.{Option, Some, None, filter, fold, not, ◌==◌, ◌&&◌}
use Rattle.std.proofs.lemmas.Bool.{eq-eqb}
use Rattle.aql_block.specs.declared.calls.Progress.TheVariants.{Waiting, HasMore, Done}
use Rattle.aql_meaning.specs.Row.{Row, empty_row}
use Rattle.aql_tree.specs.declared.syntax.Ident.{Ident}
use Rattle.aql_tree.specs.Tree.{TraversalShape, ExprTree, MaybeExpr}
use Rattle.aql_plan.specs.declared.facts.Facts.{Facts}
use Rattle.aql_plan.specs.Plan.{Node, Plan, Singleton, Over, Limit, Traversal, Subquery, NoResults, Scatter, Distribute, Remote, Gather}
use Rattle.aql_plan.specs.Runs.{Dataset}
use Rattle.aql_plan.specs.View.{plan_tree}
use Rattle.aql_exec.specs.Rests.{Counter, opened_on, closed_on, Counts, Rest}
use Rattle.aql_exec.specs.Lines.{Talk, fresh, asked, answered, opened_by, closed_by}
use Rattle.aql_exec.specs.Operators.{leaf, EachRow, OperatorTree, counted, Fragments, ProducesOver, OnRows, exact_at, exact_tree, exact_in}
use Rattle.aql_net.specs.declared.logs.Sort.{Sort}
use Rattle.aql_net.specs.declared.logs.Sort.TheVariants.{Ask, Reply}
use Rattle.aql_net.specs.Logs.{Dispatch, sent_in, is_taken, in_flight, said_on, talk_of, talk_on, opened_in, closed_in}
use Rattle.aql_engine.specs.Engine.{IsRunOver}
use Rattle.aql_engine.specs.NoLimit.{HasNoLimit}
use Rattle.aql_engine.specs.OperatorsOf.{shards_of, each_tree, came_at, operators_at, operators_below, operators_of}
use Rattle.aql_engine.specs.laws.Looked.{looked_runs, looked_exact}
use Rattle.aql_engine.specs.declared.engine.Ran.{Ran}

-- ---- as many Remotes ask over a link as take its last reply

abbrev AsMany : Counts → Type 0
AsMany d = (l : ℕ) → d (opened_on l) ≡ d (closed_on l)

none_many : (d : Counts) → ((c : Counter) → d c ≡ 0) → AsMany d
none_many d h l = h (opened_on l) ∙ sym (h (closed_on l))

sum_many : (d m n : Counts) → ((c : Counter) → d c ≡ m c + n c) → AsMany m → AsMany n → AsMany d
sum_many d m n h a b l =
    let o = h (opened_on l) in let c = h (closed_on l) in let i = a l in let j = b l in
    omega (arith, o, c, i, j)

each_many : (body : Row → Rest → Type 0) → ((row : Row) (r : Rest) → body row r → AsMany r.counts)
    → (x : Ident) (rows outs : List Row) (d : Counts) → EachRow body x rows outs d → AsMany d
each_many body f x [] outs d h = none_many d h.1
each_many body f x (row ∷ rows) outs d h =
    sum_many d h.0.counts h.2 h.6 (f row h.0 h.3) (each_many body f x rows h.1 h.2 h.4)

all_many : (n : ℕ) (lists : ℕ → Rest) → ((k : ℕ) → k < n → AsMany (lists k).counts) → AsMany (counted n lists)
all_many zero lists all = λ l. refl
all_many (suc n) lists all =
    sum_many (counted (suc n) lists) (counted n lists) (lists n).counts (λ c. refl)
    (all_many n lists (λ k b. all k (omega (arith, b)))) (all n (omega arith))

came_many : (w : Dataset) (at : Option ℕ) (came : List Row) (row : Row) (r : Rest)
    → ProducesOver (leaf (came_at at)) w came row r → AsMany r.counts
came_many w None came row r h = none_many r.counts h.1
came_many w (Some shard) came row r h = none_many r.counts h.1

fragments_many : (w : Dataset) (row : Row) (tree : ℕ → OperatorTree)
    → ((shard : ℕ) (came : List Row) (r : Rest) → ProducesOver (tree shard) w came row r → AsMany r.counts)
    → (shards : List ℕ) (parts : ℕ → Rest → Type 0) (lists : ℕ → Rest)
    → Fragments (each_tree tree shards) w row parts lists
    → (k : ℕ) → k < length shards → AsMany (lists k).counts
fragments_many w row tree f [] parts lists h k b = absurd (omega (arith, b))
fragments_many w row tree f (shard ∷ shards) parts lists h zero b = f shard h.0.0.rows (lists 0) h.0.2
fragments_many w row tree f (shard ∷ shards) parts lists h (suc k) b =
    fragments_many w row tree f shards (λ j. parts (suc j)) (λ j. lists (suc j)) h.1 k (omega (arith, b))

mutual
  at_many : (w : Dataset) (p : Plan) (at : Option ℕ) (came : List Row) (row : Row) (r : Rest)
      → ProducesOver (operators_at w.facts at p) w came row r → AsMany r.counts
  at_many w Singleton at came row r h = none_many r.counts h.1
  at_many w (Over b NoResults) at came row r h = none_many r.counts h.1
  at_many w (Over b (Subquery x body)) at came row r h =
      sum_many r.counts (h.0 0).counts h.2.0 h.2.2 (at_many w b at came row (h.0 0) h.1)
      (each_many (ProducesOver (operators_at w.facts None body) w []) (λ q s k. at_many w body None [] q s k) x
      (h.0 0).rows r.rows h.2.0 h.2.1)
  at_many w (Over b (Scatter coll only)) at came row r h = came_many w at came row r h
  at_many w (Over b (Distribute coll es)) at came row r h = came_many w at came row r h
  at_many w (Over b Remote) at came row r h =
      sum_many r.counts (h.0 0).counts _ h.2.2 (at_many w b at came row (h.0 0) h.1) (λ l. refl)
  at_many w (Over b (Gather directions es)) at came row r h =
      let shards = shards_of w.facts b in
      let lists = h.2.0 in
      let own = h.2.1 in
      let filling = h.2.2 in
      let below = below_many w b came row (h.0 0) h.1 in
      let each = fragments_many w row (λ shard. operators_at w.facts (Some shard) b)
      (λ shard part q k. at_many w b (Some shard) part row q k) shards _ lists h.2.3 in
      sum_many r.counts own.counts filling.counts h.2.7
      (λ l. h.2.5.1 (opened_on l) ∙ all_many (length shards) lists each l ∙ sym (h.2.5.1 (closed_on l)))
      (λ l. h.2.4.2 (opened_on l) ∙ below l ∙ sym (h.2.4.2 (closed_on l)))
  at_many w (Over b n) at came row r h =
      let k = looked_runs w came row at n (operators_at w.facts at b) r h in
      sum_many r.counts (k.0 0).counts k.2.0 k.2.3 (at_many w b at came row (k.0 0) k.1)
      (λ l. (k.2.2 l).1 ∙ sym (k.2.2 l).2)

  below_many : (w : Dataset) (p : Plan) (came : List Row) (row : Row) (r : Rest)
      → ProducesOver (operators_below w.facts p) w came row r → AsMany r.counts
  below_many w Singleton came row r h = none_many r.counts h.1
  below_many w (Over b (Scatter coll only)) came row r h = at_many w b None came row r h
  below_many w (Over b (Distribute coll es)) came row r h = at_many w b None came row r h
  below_many w (Over b n) came row r h = below_many w b came row r h

-- ---- without a LIMIT they are counted exactly

data IsTraversal : Node → Type 0 where
  is_traversal : (shape : TraversalShape) (e : ExprTree) (colls : List ℕ) (prune keep : MaybeExpr)
      → IsTraversal (Traversal shape e colls prune keep)

-- a counter of links
data IsOfLink : Counter → Type 0 where
  is_opened : (l : ℕ) → IsOfLink (opened_on l)
  is_closed : (l : ℕ) → IsOfLink (closed_on l)

both_exact : (a b c : Bool) → a ≡ true → b ≡ true → c ≡ true → (a && b) && c ≡ true
both_exact a b c e f g = rw (e, f, g) refl

trees_exact : (tree : ℕ → OperatorTree) (c : Counter) → ((shard : ℕ) → exact_tree (tree shard) c ≡ true)
    → (shards : List ℕ) → exact_in (each_tree tree shards) c ≡ true
trees_exact tree c f [] = refl
trees_exact tree c f (shard ∷ shards) = rw (f shard, trees_exact tree c f shards) refl

of_traversal : (n : Node) (c : Counter) → IsOfLink c → IsTraversal n → exact_at (OnRows n) c ≡ true
of_traversal n c (is_opened l) (is_traversal shape e colls prune keep) = refl
of_traversal n c (is_closed l) (is_traversal shape e colls prune keep) = refl

module _ (facts : Facts) (c : Counter) (i : IsOfLink c) where
  mutual
    at_exact : (p : Plan) (at : Option ℕ) → HasNoLimit p → exact_tree (operators_at facts at p) c ≡ true
    at_exact Singleton at h = refl
    at_exact (Over b NoResults) at h = refl
    at_exact (Over b (Subquery x body)) at h =
        both_exact _ _ _ refl (at_exact b at h.0) (at_exact body None h.1)
    at_exact (Over b (Scatter coll only)) None h = refl
    at_exact (Over b (Scatter coll only)) (Some shard) h = refl
    at_exact (Over b (Distribute coll es)) None h = refl
    at_exact (Over b (Distribute coll es)) (Some shard) h = refl
    at_exact (Over b Remote) at h = both_exact _ _ _ refl (at_exact b at h) refl
    at_exact (Over b (Gather directions es)) at h = both_exact _ _ _
        (both_exact true true _ refl refl
        (trees_exact (λ shard. operators_at facts (Some shard) b) c (λ shard. at_exact b (Some shard) h)
        (shards_of facts b)))
        (below_exact b h) refl
    at_exact (Over b (Traversal shape e colls prune keep)) at h = both_exact _ _ _
        (of_traversal _ c i (is_traversal shape e colls prune keep)) (at_exact b at h) refl
    at_exact (Over b (Limit offset count)) at h = absurd h
    at_exact (Over b n) at h =
        both_exact _ _ _ refl (looked_exact n (operators_at facts at b) c ∙ at_exact b at h) refl

    below_exact : (p : Plan) → HasNoLimit p → exact_tree (operators_below facts p) c ≡ true
    below_exact Singleton h = refl
    below_exact (Over b (Scatter coll only)) h = at_exact b None h
    below_exact (Over b (Distribute coll es)) h = at_exact b None h
    below_exact (Over b (Subquery x body)) h = below_exact b h.0
    below_exact (Over b (Limit offset count)) h = absurd h
    below_exact (Over b n) h = below_exact b h

-- ---- what the log says then

opened_after : (t : Talk) (said : List Sort) → opened_by t ≡ 1 → opened_by (fold (λ _ what. talk_of what) t said) ≡ 1
opened_after t [] h = h
opened_after t (Ask c ∷ said) h = opened_after (asked c) said refl
opened_after t (Reply skipped rows progress ∷ said) h = opened_after (answered progress) said refl

-- a link is opened where something was said on it
opened_first : (said : List Sort) → (said ≡ [] → ⊥) → opened_by (fold (λ _ what. talk_of what) fresh said) ≡ 1
opened_first [] h = absurd (h refl)
opened_first (Ask c ∷ said) h = opened_after (asked c) said refl
opened_first (Reply skipped rows progress ∷ said) h = opened_after (answered progress) said refl

is_closed_by : {M : Type 0} (t : Talk) (flying : List M) → 1 ≤ closed_by t flying
    → (t ≡ answered Done) × (flying ≡ [])
is_closed_by fresh flying h = absurd (omega (arith, h))
is_closed_by (asked c) flying h = absurd (omega (arith, h))
is_closed_by (answered Waiting) flying h = absurd (omega (arith, h))
is_closed_by (answered HasMore) flying h = absurd (omega (arith, h))
is_closed_by (answered Done) [] h = (refl, refl)
is_closed_by (answered Done) (m ∷ flying) h = absurd (omega (arith, h))

none_mapped : {A B : Type 0} (f : A → B) (xs : List A) → map f xs ≡ [] → xs ≡ []
none_mapped f [] h = refl
none_mapped f (x ∷ xs) h = absurd (cc)

none_of : {A : Type 0} (p q : A → Bool) (x : A) (xs : List A)
    → (filter p xs ≡ [] → filter p (filter q xs) ≡ []) → (b a : Bool) → p x ≡ a
    → cond a (x ∷ filter p xs) (filter p xs) ≡ [] → filter p (cond b (x ∷ filter q xs) (filter q xs)) ≡ []
none_of p q x xs rest b true e h = absurd (cc)
none_of p q x xs rest true false e h = rw e (rest h)
none_of p q x xs rest false false e h = rest h

-- where none is on a link, none that is in flight is
none_fewer : {A : Type 0} (p q : A → Bool) (xs : List A) → filter p xs ≡ [] → filter p (filter q xs) ≡ []
none_fewer p q [] h = refl
none_fewer p q (x ∷ xs) h = none_of p q x xs (none_fewer p q xs) (q x) (p x) refl h

-- a list without a message on any link is empty
none_at_all : (ms : List Dispatch) → ((l : ℕ) → filter (λ (m : Dispatch). m.link == l) ms ≡ []) → ms ≡ []
none_at_all [] h = refl
none_at_all (m ∷ ms) h =
    let on : cond (m.link == m.link) (m ∷ filter (λ (n : Dispatch). n.link == m.link) ms)
    (filter (λ (n : Dispatch). n.link == m.link) ms) ≡ [] = h m.link in
    let mine : m ∷ filter (λ (n : Dispatch). n.link == m.link) ms ≡ [] = rw (eq-eqb m.link m.link refl) at on in
    absurd (cc)

empty_or : {A : Type 0} (xs : List A) → (xs ≡ []) ⊎ (xs ≡ [] → ⊥)
empty_or [] = inl refl
empty_or (x ∷ xs) = inr (λ e. cc)

module _ (w : Dataset) (ran : Ran) (run : IsRunOver w ran) (unlimited : HasNoLimit (plan_tree ran.plan)) where
  plan_exact : (c : Counter) → IsOfLink c → exact_tree (operators_of w.facts (plan_tree ran.plan)) c ≡ true
  plan_exact c i = at_exact w.facts c i (plan_tree ran.plan) None unlimited

  -- a Remote for each link of the log
  pub as_opened : (l : ℕ) → run.rest.counts (opened_on l) ≡ opened_in l ran.log
  as_opened l =
      let e = run.counted.opened l in
      let m = run.counted.most (opened_on l) in
      let n = run.counted.exact (opened_on l) (plan_exact (opened_on l) (is_opened l)) in
      omega (arith, e, m, n)

  as_closed : (l : ℕ) → run.rest.counts (opened_on l) ≤ closed_in l ran.log
  as_closed l =
      let many = at_many w (plan_tree ran.plan) None [] empty_row run.rest run.produced l in
      let n = run.counted.exact (closed_on l) (plan_exact (closed_on l) (is_closed l)) in
      let c = run.counted.closed l in
      omega (arith, many, n, c)

  pub used_once : (l : ℕ) → (said_on l ran.log ≡ [] → ⊥) → run.rest.counts (opened_on l) ≡ 1
  used_once l h = as_opened l ∙ opened_first (said_on l ran.log) h

  pub unused : (l : ℕ) → said_on l ran.log ≡ [] → run.rest.counts (opened_on l) ≡ 0
  unused l h = as_opened l ∙ ap (λ said. opened_by (fold (λ _ what. talk_of what) fresh said)) h

  closed_at_end : (l : ℕ) → (said_on l ran.log ≡ [] → ⊥) → (talk_on l ran.log ≡ answered Done)
      × (filter (λ (m : Dispatch). m.link == l) (in_flight ran.log) ≡ [])
  closed_at_end l h =
      let one = used_once l h in let c = as_closed l in
      is_closed_by (talk_on l ran.log) (filter (λ (m : Dispatch). m.link == l) (in_flight ran.log))
      (omega (arith, one, c))

  pub ends_done : (l : ℕ) → (said_on l ran.log ≡ [] → ⊥) → talk_on l ran.log ≡ answered Done
  ends_done l h = (closed_at_end l h).0

  pub none_flies : in_flight ran.log ≡ []
  none_flies = none_at_all (in_flight ran.log) (λ l. elim (empty_or (said_on l ran.log)) [
    | inl e ↦ none_fewer (λ (m : Dispatch). m.link == l) (λ m. not (is_taken ran.log m.number)) (sent_in ran.log)
        (none_mapped (λ (m : Dispatch). m.what) _ e)
    | inr h ↦ (closed_at_end l h).1
  ])
