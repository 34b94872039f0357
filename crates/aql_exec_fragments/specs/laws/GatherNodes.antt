-- What holds of every Gather over fragments: there is always a rest, more may be counted where the input counts
-- more, and what happens elsewhere in the world keeps its rests, what is true of it, and its budget.
use Rattle.std.proofs.Common.{ℕ, ◌≡◌, ◌+◌, ◌<◌, ◌≤◌, inl, inr, List, [], ◌∷◌, length, Bool, true, false, Some, cond, refl, sym, ◌∙◌, subst, arith}
use Rattle.std.specs.Prelude.{slice_get}
use Rattle.std.proofs.Math.Nat.{le_refl}
use Rattle.std.proofs.lemmas.Bool.{false≢true}
use Rattle.aql_meaning.specs.Row.{Row}
use Rattle.aql_block.specs.Rows.{row_of}
use Rattle.aql_plan.specs.Runs.{Dataset}
use Rattle.aql_exec.specs.declared.feed.Executor.{Ghosts}
use Rattle.aql_exec.specs.declared.feed.Feed
use Rattle.aql_exec.specs.declared.surroundings.Surroundings
use Rattle.aql_exec.specs.Rests.{Counts, Exact, Rest, Prefixed, Ends}
use Rattle.aql_exec.specs.Operators.{OperatorTree, no_trees, tree_then, Shards, StartRow, Remote, no_rest, one_row, ProducesOver}
use Rattle.aql_exec.specs.laws.SomeRest.{some_made}
use Rattle.aql_engine.specs.laws.TreesKept.{KeptGives, KeptValid, KeptBudget}
use Rattle.aql_exec_fragments.specs.declared.gather_node.GatherNode.{GatherNode}
use Rattle.aql_exec_fragments.specs.Feeds.{no_body, exact_over, InputIs}
use Rattle.aql_exec_fragments.specs.GatherNodes.{FragmentGives, NodeGives, own_of, NodeIs, budget_of}
use Rattle.aql_exec_fragments.specs.laws.Places.{same_at, at_or_none, total_less}
use Rattle.aql_exec_fragments.specs.laws.Kept.{NoLinks, KeepsRests, KeepsValid, KeepsBudget, LinksAreMade, HasRest, feed_kept, rest_at}

-- each tree gives something over any rows: as the one fragment of a Gather, over a link that gives these rows
pub some_over : (t : OperatorTree) (w : Dataset) (came : List Row) (row : Row)
    → (r : Rest) × ProducesOver t w came row r
some_over t w came row =
    let all = some_made (Shards StartRow Remote (tree_then t no_trees)) w [] row 0 one_row
    (λ q. (record { rows = q ∷ []; counts = λ c. 0 }, (refl, λ c. refl)))
    (λ k. record { rows = came; counts = λ c. 0 }) in
    let a = all.1.3.0 in
    (all.1.0 0, subst (λ z. ProducesOver t w z row (all.1.0 0)) a.1.0 a.2)

sum_le : (a b c d : ℕ) → a ≤ b → c ≤ d → a + c ≤ b + d
sum_le a b c d l m = omega (arith, l, m)

cond_le : (b : Bool) (m m' n n' : ℕ) → (b ≡ true → m' ≤ m) → n' ≤ n → cond b m' n' ≤ cond b m n
cond_le true m m' n n' l i = l refl
cond_le false m m' n n' l i = i

more_sum : (r o f d f' : ℕ) → r ≡ o + f → f + d ≤ f' → r + d ≤ o + f'
more_sum r o f d f' e l = omega (arith, e, l)

exact_sum : (r o f d f' : ℕ) → r ≡ o + f → f' ≤ f + d → o + f' ≤ r + d
exact_sum r o f d f' e l = omega (arith, e, l)

module _ {Y W : Type 0} (g : Ghosts Y W) where
  -- the executor has a rest
  abbrev pub SomeGiven : Type 0
  SomeGiven = (s : Y) (w : W) (k : ℕ) (body : OperatorTree) (ins : ℕ → Rest) → g.valid s w
      → (r : Rest) × g.gives s w k body ins r

  -- it may count more where an input does
  abbrev pub CountsMore : Type 0
  CountsMore = (e : Exact) (s : Y) (w : W) (k : ℕ) (body : OperatorTree) (j : ℕ) (d : Counts)
      (ins ins' : ℕ → Rest) (r : Rest) → g.started s j ≡ true → Prefixed e [] d (ins j) (ins' j)
      → ((i : ℕ) → (i ≡ j → ⊥) → ins' i ≡ ins i) → g.gives s w k body ins r
      → (b : Rest) × Prefixed e [] d r b × g.gives s w k body ins' b

module _ {X S F W : Type 0} (gx : Ghosts X W) (gs : Ghosts S W) (h : Feed.Ghosts F W)
    (p : Surroundings.Ghosts W) where
  -- ---- what happens elsewhere

  fragment_kept : KeptGives gs p → NoLinks gs p → KeepsRests h p → (b : Bool) (s : S) (start : Row) (w w' : W)
      (ins : ℕ → Rest) (k : ℕ) (f : F) (r : Rest) → p.stock w' ≡ p.stock w
      → (b ≡ true → (l : ℕ) → h.ours f l → p.flight w' l ≡ p.flight w l)
      → FragmentGives gx gs h p b s start w' ins k f r → FragmentGives gx gs h p b s start w ins k f r
  fragment_kept ks ns kf true s start w w' ins k f r e o d = kf f w w' e (o refl) r d
  fragment_kept ks ns kf false s start w w' ins k f r e o d = (
    d.0,
    ks s w w' e (λ l a. absurd (ns s l a)) k no_body ins d.0 d.1,
    subst (λ z. ProducesOver (h.plan f) z d.0.rows start r) e d.2,
  )

  pub node_kept_gives : KeptGives gx p → NoLinks gx p → KeptGives gs p → NoLinks gs p → KeepsRests h p
      → (c : GatherNode X S F) (w w' : W) → p.stock w' ≡ p.stock w
      → ((l : ℕ) → own_of gx gs h p c l → p.flight w' l ≡ p.flight w l) → (ins : ℕ → Rest) (r : Rest)
      → NodeGives gx gs h p c w' ins r → NodeGives gx gs h p c w ins r
  node_kept_gives kx nx ks ns kf c w w' e o ins r d = record {
    lists = d.lists;
    own = d.own;
    filling = d.filling;
    ends = d.ends;
    each = λ k f m. fragment_kept ks ns kf c.filled c.scatter (row_of c.start) w w' ins k f (d.lists k) e
        (λ b l a. o l (b, (k, f, m, a))) (d.each k f m);
    fills = ks c.scatter w w' e (λ l a. absurd (ns c.scatter l a)) (length c.fragments.items) no_body ins
        d.filling
        d.fills;
    gathers = kx c.gather w w' e (λ l a. absurd (nx c.gather l a)) 0 no_body d.lists d.own d.gathers;
    rows = d.rows;
    counts = d.counts;
  }

  pub node_kept_valid : KeptValid gx p → NoLinks gx p → KeptValid gs p → NoLinks gs p → KeepsRests h p
      → KeepsValid h p → (c : GatherNode X S F) (w w' : W) → p.stock w' ≡ p.stock w → p.batch w' ≡ p.batch w
      → p.links w ≤ p.links w' → ((l : ℕ) → own_of gx gs h p c l → p.flight w' l ≡ p.flight w l)
      → NodeIs gx gs h p c w → NodeIs gx gs h p c w'
  node_kept_valid vx nx vs ns kf vf c w w' e b n o v =
      let gather = vx c.gather w w' e b n (λ l a. absurd (nx c.gather l a)) in
      record {
        gather_valid = gather v.gather_valid;
        scatter_valid = vs c.scatter w w' e b n (λ l a. absurd (ns c.scatter l a)) v.scatter_valid;
        unfilled = v.unfilled;
        filled = λ q. (let a = v.filled q in (
          a.0,
          record {
            executor_valid = gather a.1.executor_valid;
            begun = a.1.begun;
            inputs = λ k f m. feed_kept gx h p kf vf f w w' (record { stock = e; batch = b; grows = n })
                (λ l z. o l (q, (k, f, m, z))) (a.1.inputs k f m);
            none_unreported = a.1.none_unreported;
            none_waits = a.1.none_waits;
            apart = a.1.apart;
          },
        ));
      }

  pub node_kept_budget : KeptBudget gx p → NoLinks gx p → KeptBudget gs p → NoLinks gs p → KeepsBudget h p
      → (c : GatherNode X S F) (w w' : W) → p.stock w' ≡ p.stock w
      → ((l : ℕ) → own_of gx gs h p c l → p.flight w' l ≡ p.flight w l)
      → budget_of gx gs h p c w' ≤ budget_of gx gs h p c w
  node_kept_budget bx nx bs ns bf c w w' e o =
      let a = bx c.gather w w' e (λ l q. absurd (nx c.gather l q)) 0 in
      let b = bs c.scatter w w' e (λ l q. absurd (ns c.scatter l q)) 0 in
      sum_le _ _ _ _ a (cond_le c.filled _ _ _ _
      (λ t. total_less (λ z. h.budget z w) (λ z. h.budget z w') (λ k. gx.row_cost c.gather k 0)
      c.fragments.items
      (λ j f m. bf f w w' e (λ l q. o l (t, (j, f, m, q))))) (sum_le _ _ _ _ b (le_refl _)))

  pub node_own_links : LinksAreMade h p → (c : GatherNode X S F) (w : W) → NodeIs gx gs h p c w → (l : ℕ)
      → own_of gx gs h p c l → l < p.links w
  node_own_links made c w v l o =
      let a = (v.filled o.0).1 in
      made o.1.1 w ((a.inputs o.1.0 o.1.1 o.1.2).input_valid refl) l o.1.3

  -- ---- where its input counts more

  fragment_more : (b : Bool) (s : S) (start : Row) (w : W) (ins ins' : ℕ → Rest) (k : ℕ) (f : F) (r : Rest)
      → ((a : Rest) → gs.gives s w k no_body ins a → (c : Rest) × (c.rows ≡ a.rows) × gs.gives s w k no_body
      ins' c)
      → FragmentGives gx gs h p b s start w ins k f r → FragmentGives gx gs h p b s start w ins' k f r
  fragment_more true s start w ins ins' k f r more d = d
  fragment_more false s start w ins ins' k f r more d =
      let t = more d.0 d.1 in
      (t.0, t.2, subst (λ z. ProducesOver (h.plan f) (p.stock w) z start r) (sym t.1) d.2)

  pub node_more : CountsMore gs → (e : Exact) (c : GatherNode X S F) (w : W) (k : ℕ) (d : Counts)
      (ins ins' : ℕ → Rest) (r : Rest) → gs.started c.scatter k ≡ true → Prefixed e [] d (ins k) (ins' k)
      → ((j : ℕ) → (j ≡ k → ⊥) → ins' j ≡ ins j) → NodeGives gx gs h p c w ins r
      → (b : Rest) × Prefixed e [] d r b × NodeGives gx gs h p c w ins' b
  node_more more e c w k d ins ins' r begun a o g =
      let at = λ (q : ℕ) (z : Rest) (i : gs.gives c.scatter w q no_body ins z).
      more e c.scatter w q no_body k d ins ins' z begun a o i in
      let t = at (length c.fragments.items) g.filling g.fills in (
        record { rows = g.own.rows; counts = λ i. g.own.counts i + t.0.counts i },
        record {
          rows = sym g.rows;
          counts = λ i. more_sum _ _ _ _ _ (g.counts i) (t.1.counts i);
          exact = λ i y. exact_sum _ _ _ _ _ (g.counts i) (t.1.exact i y);
        },
        record {
          lists = g.lists;
          own = g.own;
          filling = t.0;
          ends = g.ends;
          each = λ q f m. fragment_more c.filled c.scatter (row_of c.start) w ins ins' q f (g.lists q)
              (λ z i. (let u = at q z i in (u.0, u.1.rows, u.2))) (g.each q f m);
          fills = t.2;
          gathers = g.gathers;
          rows = refl;
          counts = λ i. refl;
        },
      )

  -- ---- there is a rest

  -- a rest at each place before it is filled
  new_at : SomeGiven gs → (s : S) (start : Row) (w : W) (ins : ℕ → Rest) (feeds : List F) → gs.valid s w
      → (k : ℕ) → (r : Rest) ×
      ((f : F) → slice_get feeds k ≡ Some f → FragmentGives gx gs h p false s start w ins k f r)
  new_at ss s start w ins feeds v k = elim (at_or_none feeds k) [
    | inl q ↦ (let a = ss s w k no_body ins v in
        let b = some_over (h.plan q.0) (p.stock w) a.0.rows start in (
          b.0,
          λ f m. (
            a.0,
            a.1,
            subst (λ z. ProducesOver (h.plan z) (p.stock w) a.0.rows start b.0) (same_at feeds k q.0 f q.1 m)
                b.1,
          ),
        ))
    | inr q ↦ (no_rest, λ f m. absurd (q f m))
  ]

  each_at : SomeGiven gs → HasRest h p → (b : Bool) (x : X) (s : S) (start : Row) (w : W) (ins : ℕ → Rest)
      (feeds : List F) → gs.valid s w → (b ≡ false → (k : ℕ) → gx.ended x k ≡ false)
      → (b ≡ true → (k : ℕ) (f : F) → slice_get feeds k ≡ Some f → InputIs gx h p x f w k)
      → (lists : ℕ → Rest) × Ends (exact_over gx h p x feeds) (gx.ended x) lists
      × ((k : ℕ) (f : F) → slice_get feeds k ≡ Some f → FragmentGives gx gs h p b s start w ins k f (lists k))
  each_at ss sf true x s start w ins feeds v e i =
      let a = rest_at gx h p sf x feeds w (i refl) in
      ((λ k. (a k).0), (λ k q. (a k).1 q), (λ k. (a k).2))
  each_at ss sf false x s start w ins feeds v e i =
      let a = new_at ss s start w ins feeds v in
      ((λ k. (a k).0), (λ k q. absurd (false≢true (sym (e refl k) ∙ q))), (λ k. (a k).1))

  pub node_some : SomeGiven gx → SomeGiven gs → HasRest h p → (c : GatherNode X S F) (w : W) (ins : ℕ → Rest)
      → NodeIs gx gs h p c w → (r : Rest) × NodeGives gx gs h p c w ins r
  node_some sx ss sf c w ins v =
      let a = each_at ss sf c.filled c.gather c.scatter (row_of c.start) w ins c.fragments.items
      v.scatter_valid
      (λ b. (v.unfilled b).none_ended) (λ b. (v.filled b).1.inputs) in
      let o = sx c.gather w 0 no_body a.0 v.gather_valid in
      let f = ss c.scatter w (length c.fragments.items) no_body ins v.scatter_valid in (
        record { rows = o.0.rows; counts = λ i. o.0.counts i + f.0.counts i },
        record {
          lists = a.0;
          own = o.0;
          filling = f.0;
          ends = a.1;
          each = a.2;
          fills = f.1;
          gathers = o.1;
          rows = refl;
          counts = λ i. refl;
        },
      )
