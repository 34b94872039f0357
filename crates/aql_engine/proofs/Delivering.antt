-- A node after a message came to its executor, to its input, or to its body.
use Rattle.std.proofs.Common.{ℕ, zero, suc, ◌≡◌, arith, ◌<◌, ◌≤◌, ◌⊎◌, inl, inr, [], Bool, true, refl, sym, ◌∙◌, subst, OnOk, Result, Ok, Err}
use Rattle.std.proofs.Math.Nat.{mul-le-mul_left}
use Rattle.aql_block.specs.declared.calls.Call.{Call}
use Rattle.aql_exec.specs.declared.turns.Message.{Message}
use Rattle.aql_exec.specs.declared.feed.Executor.{Ghosts}
use Rattle.aql_exec.specs.declared.surroundings.Surroundings
use Rattle.aql_exec.specs.Links.{Taken}
use Rattle.aql_exec.specs.Rests.{Counts, Exact, Within, Rest, Prefixed, IsOver, Over, Ends}
use Rattle.aql_exec.specs.Operators.{Operator, OperatorTree, within, exact_at, exact_tree}
use Rattle.aql_engine.specs.declared.tree.Tree.{Tree}
use Rattle.aql_engine.specs.laws.Exactness.{exact_node, exact_below, exact_body, over_weaker, same_exact}
use Rattle.aql_engine.specs.Tree.{Waits, tree_plan, node_exact, TreeRests, TreeOwn, TreeMay, TreeValid, tree_full, tree_budget, NodeRests, NodeOwn, NodeValid, NodeBudget, BodyOwn}
use Rattle.aql_engine.specs.laws.TreesKept.{KeptGives, KeptValid, KeptBudget, OwnLinks, tree_kept_rests, tree_kept_budget, tree_own_links, cond_more, three}
use Rattle.aql_exec.specs.laws.Counted.{prefixed_weaker}
use Rattle.aql_engine.proofs.Leading.{first, second, prefixed_then, plus}
use Rattle.aql_engine.proofs.Inputs.{input_weaker, input_kept, not_new}
use Rattle.aql_engine.proofs.Budgets.{body_budget}

first_others : (b : Rest) (ins : ℕ → Rest) (j : ℕ) → (j ≡ 0 → ⊥) → first b ins j ≡ ins j
first_others b ins zero h = absurd (h refl)
first_others b ins (suc j) h = refl

second_others : (b : Rest) (ins : ℕ → Rest) (j : ℕ) → (j ≡ 1 → ⊥) → second b ins j ≡ ins j
second_others b ins zero h = refl
second_others b ins (suc zero) h = absurd (h refl)
second_others b ins (suc (suc j)) h = refl

same_first : (v : Exact) (ended : ℕ → Bool) (b : Rest) (ins : ℕ → Rest) → (ended 0 ≡ true → IsOver v b)
    → Ends v ended ins → Ends v ended (first b ins)
same_first v ended b ins e h zero q = e q
same_first v ended b ins e h (suc k) q = h (suc k) q

same_second : (v : Exact) (ended : ℕ → Bool) (b : Rest) (ins : ℕ → Rest) → (ended 1 ≡ true → IsOver v b)
    → Ends v ended ins → Ends v ended (second b ins)
same_second v ended b ins e h zero q = h zero q
same_second v ended b ins e h (suc zero) q = e q
same_second v ended b ins e h (suc (suc k)) q = h (suc (suc k)) q

-- a rest that leads to one that is over is over
over_back : (v : Exact) (d : Counts) (r b : Rest) → Prefixed v [] d r b → IsOver v b → IsOver v r
over_back v d r b h o = (
  sym h.rows ∙ o.0,
  λ c y. (let m = h.counts c in let n = o.1 c y in omega (arith, m, n)),
)

-- what is exact of more is exact of less
pub steps_weaker : (e f : Exact) (A B : Rest → Type 0) (d : Counts) → Within e f
    → ((r : Rest) → B r → (b : Rest) × Prefixed f [] d r b × A b)
    → (r : Rest) → B r → (b : Rest) × Prefixed e [] d r b × A b
steps_weaker e f A B d k h r c =
    (let i = h r c in (i.0, prefixed_weaker [] d r i.0 k i.1, i.2))

-- two steps of a rest, one after the other
pub two_steps : {v : Exact} (A B C : Rest → Type 0) (d e : Counts)
    → ((r : Rest) → B r → (b : Rest) × Prefixed v [] d r b × A b)
    → ((r : Rest) → C r → (b : Rest) × Prefixed v [] e r b × B b) → (r : Rest) → C r
    → (b : Rest) × Prefixed v [] (plus d e) r b × A b
two_steps A B C d e f h r c =
    (let i = h r c in let j = f i.0 i.2 in (j.0, prefixed_then _ _ _ _ _ _ i.1 j.1, j.2))

pub ok_map : {E : Type 0} {P Q : Type 0} (r : Result (Unit {0}) E) → (P → Q) → OnOk r P → OnOk r Q
ok_map (Ok a) f h = f h
ok_map (Err e) f h = tt

module _ {X W : Type 0} (g : Ghosts X W) (p : Surroundings.Ghosts W) where
  -- the messages on these links stay
  abbrev pub SameFlight : (ℕ → Type 0) → W → W → Type 0
  SameFlight own w w2 = (l : ℕ) → own l → p.flight w2 l ≡ p.flight w l

  -- its links are older ones or new
  abbrev pub Grown : (ℕ → Type 0) → (ℕ → Type 0) → ℕ → Type 0
  Grown own own' n = (l : ℕ) → own' l → own l ⊎ (n ≤ l)

  -- the rests of a tree after a delivery lead to those before
  abbrev pub Undisturbed : Counts → Tree X → W → Tree X → W → Type 0
  Undisturbed d t w t' w2 = (r : Rest) → TreeRests g p t' w2 r
      → (b : Rest) × Prefixed (exact_tree (tree_plan g p t)) [] d r b × TreeRests g p t w b

  -- the inputs of an executor as it sees them, before a message came and after
  abbrev pub SameInputs : X → X → Type 0
  SameInputs x x' = (k : ℕ) → (g.started x' k ≡ g.started x k) × (g.ended x' k ≡ g.ended x k)
      × (g.unreported x' k ≡ g.unreported x k) × (g.waited x' k → g.waited x k) × (g.waited x k → g.waited x' k)

  abbrev pub MoreCounts : Type 0
  MoreCounts = (v : Exact) (s : X) (w : W) (k : ℕ) (plan : OperatorTree) (j : ℕ) (d : Counts)
      (ins ins' : ℕ → Rest) (r : Rest)
      → g.started s j ≡ true → Prefixed v [] d (ins j) (ins' j) → ((i : ℕ) → (i ≡ j → ⊥) → ins' i ≡ ins i)
      → g.gives s w k plan ins r → (b : Rest) × Prefixed v [] d r b × g.gives s w k plan ins' b

  -- ---- what is true of the node

  -- its executor received a message
  pub after_mine : KeptGives g p → KeptValid g p → (x x' : X) (below body : Tree X) (w w2 : W)
      → NodeValid g p (Waits g p) x below body w → p.stock w2 ≡ p.stock w → p.batch w2 ≡ p.batch w
      → p.links w ≤ p.links w2
      → SameFlight (TreeOwn g p below) w w2 → SameFlight (BodyOwn g p x body) w w2
      → g.valid x' w2 → SameInputs x x' → ((k : ℕ) (c : Call) → g.asks x' k c → g.asks x k c)
      → Grown (g.ours x) (g.ours x') (p.links w) → (g.busy x' → g.busy x)
      → ((l : ℕ) → TreeOwn g p below l → l < p.links w) → ((l : ℕ) → BodyOwn g p x body l → l < p.links w)
      → NodeValid g p g.waited x' below body w2
  after_mine kg kv x x' below body w w2 v st ba li fb fd xv ins asks ours busy lb ld = record {
    executor_valid = xv;
    below_is = input_weaker (input_kept g p kg kv below w w2 st ba li (λ s. fb) v.below_is) (ins 0).0
        (λ e. sym (ins 0).1 ∙ e) (λ q. inl ((ins 0).3 q)) (λ c a. asks 0 c a);
    body_is = input_weaker (input_kept g p kg kv body w w2 st ba li (λ s l o. fd l (s, o)) v.body_is)
        (ins 1).0 (λ e. sym (ins 1).1 ∙ e) (λ q. inl ((ins 1).3 q)) (λ c a. asks 1 c a);
    begun_is = (ins 0).0 ∙ v.begun_is;
    none_unreported = λ k. (ins k).2 ∙ v.none_unreported k;
    none_waits = λ k q. v.none_waits k ((ins k).3 q);
    idle = λ q. v.idle (busy q);
    from_below = λ l a o. elim (ours l a) [ inl q ↦ v.from_below l q o | inr q ↦ not_new (lb l o) q ];
    from_body = λ l a o. (let b : BodyOwn g p x body l = (sym (ins 1).0 ∙ o.0, o.1) in
        elim (ours l a) [ inl q ↦ v.from_body l q b | inr q ↦ not_new (ld l b) q ]);
    between = λ l a o. v.between l a (sym (ins 1).0 ∙ o.0, o.1);
  }

  -- its input did
  pub after_below : KeptGives g p → KeptValid g p
      → (x : X) (below below' body : Tree X) (w w2 : W) (d : Counts)
      → NodeValid g p (Waits g p) x below body w → p.stock w2 ≡ p.stock w → p.batch w2 ≡ p.batch w
      → p.links w ≤ p.links w2
      → SameFlight (g.ours x) w w2 → SameFlight (BodyOwn g p x body) w w2
      → TreeValid g p below' w2 → ((c : Call) → TreeMay g p below c → TreeMay g p below' c)
      → Undisturbed d below w below' w2 → tree_plan g p below' ≡ tree_plan g p below
      → Grown (TreeOwn g p below) (TreeOwn g p below') (p.links w)
      → ((l : ℕ) → g.ours x l → l < p.links w) → ((l : ℕ) → BodyOwn g p x body l → l < p.links w)
      → NodeValid g p g.waited x below' body w2
  after_below kg kv x below below' body w w2 d v st ba li fx fd bv may rests plan ours lx ld = record {
    executor_valid = kv x w w2 st ba li fx v.executor_valid;
    below_is = record {
      input_valid = λ s. bv;
      may_ask = λ s c a. may c (v.below_is.may_ask s c a);
      none_left = λ s e r h. (let q = rests r h in
          let over = over_back (exact_tree (tree_plan g p below)) d r q.0 q.1 (v.below_is.none_left s e q.0 q.2) in
          rw plan over);
      in_flight = λ a. absurd (v.none_waits 0 a);
    };
    body_is = input_weaker (input_kept g p kg kv body w w2 st ba li (λ s l o. fd l (s, o)) v.body_is) refl
        (λ e. e) (λ q. inl q) (λ c a. a);
    begun_is = v.begun_is;
    none_unreported = v.none_unreported;
    none_waits = v.none_waits;
    idle = v.idle;
    from_below = λ l a o. elim (ours l o) [ inl q ↦ v.from_below l a q | inr q ↦ not_new (lx l a) q ];
    from_body = v.from_body;
    between = λ l a o. elim (ours l a) [ inl q ↦ v.between l q o | inr q ↦ not_new (ld l o) q ];
  }

  -- its body did
  pub after_body : KeptGives g p → KeptValid g p → (x : X) (below body body' : Tree X) (w w2 : W) (d : Counts)
      → g.started x 1 ≡ true
      → NodeValid g p (Waits g p) x below body w → p.stock w2 ≡ p.stock w → p.batch w2 ≡ p.batch w
      → p.links w ≤ p.links w2
      → SameFlight (g.ours x) w w2 → SameFlight (TreeOwn g p below) w w2
      → TreeValid g p body' w2 → ((c : Call) → TreeMay g p body c → TreeMay g p body' c)
      → Undisturbed d body w body' w2 → tree_plan g p body' ≡ tree_plan g p body
      → Grown (TreeOwn g p body) (TreeOwn g p body') (p.links w)
      → ((l : ℕ) → g.ours x l → l < p.links w) → ((l : ℕ) → TreeOwn g p below l → l < p.links w)
      → NodeValid g p g.waited x below body' w2
  after_body kg kv x below body body' w w2 d begun v st ba li fx fb bv may rests plan ours lx lb = record {
    executor_valid = kv x w w2 st ba li fx v.executor_valid;
    below_is = input_weaker (input_kept g p kg kv below w w2 st ba li (λ s. fb) v.below_is) refl
        (λ e. e) (λ q. inl q) (λ c a. a);
    body_is = record {
      input_valid = λ s. bv;
      may_ask = λ s c a. may c (v.body_is.may_ask s c a);
      none_left = λ s e r h. (let q = rests r h in
          let over = over_back (exact_tree (tree_plan g p body)) d r q.0 q.1 (v.body_is.none_left s e q.0 q.2) in
          rw plan over);
      in_flight = λ a. absurd (v.none_waits 1 a);
    };
    begun_is = v.begun_is;
    none_unreported = v.none_unreported;
    none_waits = v.none_waits;
    idle = v.idle;
    from_below = v.from_below;
    from_body = λ l a o. elim (ours l o.1) [
      | inl q ↦ v.from_body l a (begun, q)
      | inr q ↦ not_new (lx l a) q
    ];
    between = λ l a o. elim (ours l o.1) [
      | inl q ↦ v.between l a (begun, q)
      | inr q ↦ not_new (lb l a) q
    ];
  }

  -- ---- its rests

  pub mine_rests : KeptGives g p → (x x' : X) (below body : Tree X) (w w2 : W) (d : Counts)
      → p.stock w2 ≡ p.stock w → SameFlight (TreeOwn g p below) w w2 → SameFlight (BodyOwn g p x body) w w2
      → SameInputs x x' → g.node x' ≡ g.node x
      → ((e : Exact) → Within e (exact_at (g.node x)) → (ins : ℕ → Rest) (r : Rest)
      → g.gives x' w2 0 (tree_plan g p body) ins r
      → (b : Rest) × Prefixed e [] d r b × g.gives x w 0 (tree_plan g p body) ins b)
      → (r : Rest) → NodeRests g p x' below body w2 r
      → (b : Rest) × Prefixed (node_exact g p x below body) [] d r b × NodeRests g p x below body w b
  mine_rests kg x x' below body w w2 d st fb fd ins node gives r h =
      let a = tree_plan g p below in
      let b = tree_plan g p body in
      let q = gives (node_exact g p x below body) (exact_node (g.node x) a b) h.0 r h.4 in (
        q.0,
        q.1,
        (
          h.0,
          (λ k q. over_weaker (node_exact g p x below body) (node_exact g p x' below body) (h.0 k)
              (same_exact (λ (o : Operator). exact_tree (within o a b)) (g.node x) (g.node x') (sym node))
              (h.1 k ((ins k).1 ∙ q))),
          tree_kept_rests g p kg below w w2 st fb (h.0 0) h.2,
          (λ s. tree_kept_rests g p kg body w w2 st (λ l o. fd l (s, o)) (h.0 1) (h.3 ((ins 1).0 ∙ s))),
          q.2,
        ),
      )

  pub below_rests : KeptGives g p → MoreCounts → (x : X) (below below' body : Tree X) (w w2 : W) (d : Counts)
      → g.started x 0 ≡ true → p.stock w2 ≡ p.stock w
      → SameFlight (g.ours x) w w2 → SameFlight (BodyOwn g p x body) w w2 → Undisturbed d below w below' w2
      → tree_plan g p below' ≡ tree_plan g p below
      → (g.ended x 0 ≡ true → Over (exact_tree (tree_plan g p below)) (TreeRests g p below w))
      → (r : Rest) → NodeRests g p x below' body w2 r
      → (b : Rest) × Prefixed (node_exact g p x below body) [] d r b × NodeRests g p x below body w b
  below_rests kg more x below below' body w w2 d begun st fx fd rests plan over r h =
      let v = node_exact g p x below body in
      let within_below = exact_below (g.node x) (tree_plan g p below) (tree_plan g p body) in
      let q = rests (h.0 0) h.2 in
      let led : Prefixed v [] d (h.0 0) q.0 = record {
        rows = q.1.rows;
        counts = q.1.counts;
        exact = λ c i. q.1.exact c (within_below c i);
      } in
      let m = more v x w 0 (tree_plan g p body) 0 d h.0 (first q.0 h.0) r begun led (first_others q.0 h.0)
      (kg x w w2 st fx 0 (tree_plan g p body) h.0 r h.4) in (
        m.0,
        m.1,
        (
          first q.0 h.0,
          same_first v (g.ended x) q.0 h.0
              (λ e. over_weaker v (exact_tree (tree_plan g p below)) q.0 within_below (over e q.0 q.2))
              (λ k e. over_weaker v (node_exact g p x below' body) (h.0 k)
              (same_exact (λ (t : OperatorTree). exact_tree (within (g.node x) t (tree_plan g p body)))
              (tree_plan g p below) (tree_plan g p below') (sym plan)) (h.1 k e)),
          q.2,
          (λ s. tree_kept_rests g p kg body w w2 st (λ l o. fd l (s, o)) (h.0 1) (h.3 s)),
          m.2,
        ),
      )

  pub body_rests : KeptGives g p → MoreCounts → (x : X) (below body body' : Tree X) (w w2 : W) (d : Counts)
      → g.started x 1 ≡ true → tree_plan g p body' ≡ tree_plan g p body → p.stock w2 ≡ p.stock w
      → SameFlight (g.ours x) w w2 → SameFlight (TreeOwn g p below) w w2 → Undisturbed d body w body' w2
      → (g.ended x 1 ≡ true → Over (exact_tree (tree_plan g p body)) (TreeRests g p body w))
      → (r : Rest) → NodeRests g p x below body' w2 r
      → (b : Rest) × Prefixed (node_exact g p x below body) [] d r b × NodeRests g p x below body w b
  body_rests kg more x below body body' w w2 d begun plan st fx fb rests over r h =
      let v = node_exact g p x below body in
      let within_body = exact_body (g.node x) (tree_plan g p below) (tree_plan g p body) in
      let q = rests (h.0 1) (h.3 begun) in
      let led : Prefixed v [] d (h.0 1) q.0 = record {
        rows = q.1.rows;
        counts = q.1.counts;
        exact = λ c i. q.1.exact c (within_body c i);
      } in
      let m = more v x w 0 (tree_plan g p body) 1 d h.0 (second q.0 h.0) r begun led (second_others q.0 h.0)
      (kg x w w2 st fx 0 (tree_plan g p body) h.0 r (subst (λ b. g.gives x w2 0 b h.0 r) plan h.4)) in (
        m.0,
        m.1,
        (
          second q.0 h.0,
          same_second v (g.ended x) q.0 h.0
              (λ e. over_weaker v (exact_tree (tree_plan g p body)) q.0 within_body (over e q.0 q.2))
              (λ k e. over_weaker v (node_exact g p x below body') (h.0 k)
              (same_exact (λ (t : OperatorTree). exact_tree (within (g.node x) (tree_plan g p below) t))
              (tree_plan g p body) (tree_plan g p body') (sym plan)) (h.1 k e)),
          tree_kept_rests g p kg below w w2 st fb (h.0 0) h.2,
          (λ s. q.2),
          m.2,
        ),
      )

  -- ---- its budget

  pub mine_budget : KeptBudget g p → (x x' : X) (below body : Tree X) (w w2 : W) → p.stock w2 ≡ p.stock w
      → SameFlight (TreeOwn g p below) w w2 → SameFlight (BodyOwn g p x body) w w2 → SameInputs x x'
      → ((k f : ℕ) → g.row_cost x' k f ≡ g.row_cost x k f) → ((f : ℕ) → g.budget x' w2 f ≤ g.budget x w f)
      → NodeBudget g p x' body x' below body w2 ≤ NodeBudget g p x body x below body w
  mine_budget kr x x' below body w w2 st fb fd ins row_cost budget =
      let f = tree_full g p body in
      let a = budget f in
      let b = mul-le-mul_left (g.row_cost x 0 f) (tree_kept_budget g p kr below w w2 st fb) in
      let c = body_budget (g.started x 1) (g.started x' 1) (tree_budget g p body w2) (tree_budget g p body w)
      (g.row_cost x 1 f) (ins 1).0 (λ s. tree_kept_budget g p kr body w w2 st (λ l o. fd l (s, o))) in
      rw (row_cost 0 f, row_cost 1 f) (three _ _ _ _ _ _ a b c)

  pub below_budget : KeptBudget g p → (x : X) (below below' body : Tree X) (w w2 : W) → p.stock w2 ≡ p.stock w
      → SameFlight (g.ours x) w w2 → SameFlight (BodyOwn g p x body) w w2
      → tree_budget g p below' w2 ≤ tree_budget g p below w
      → NodeBudget g p x body x below' body w2 ≤ NodeBudget g p x body x below body w
  below_budget kr x below below' body w w2 st fx fd budget =
      let f = tree_full g p body in
      let a = kr x w w2 st fx f in
      let b = mul-le-mul_left (g.row_cost x 0 f) budget in
      let c = cond_more (g.started x 1) (tree_budget g p body w2) (tree_budget g p body w) (g.row_cost x 1 f)
      (λ s. tree_kept_budget g p kr body w w2 st (λ l o. fd l (s, o))) in
      three _ _ _ _ _ _ a b c

  pub node_budget_body : KeptBudget g p → (x : X) (below body body' : Tree X) (w w2 : W) → p.stock w2 ≡ p.stock w
      → tree_full g p body' ≡ tree_full g p body
      → SameFlight (g.ours x) w w2 → SameFlight (TreeOwn g p below) w w2
      → tree_budget g p body' w2 ≤ tree_budget g p body w
      → NodeBudget g p x body' x below body' w2 ≤ NodeBudget g p x body x below body w
  node_budget_body kr x below body body' w w2 st full fx fb budget =
      let f = tree_full g p body in
      let a = kr x w w2 st fx f in
      let b = mul-le-mul_left (g.row_cost x 0 f) (tree_kept_budget g p kr below w w2 st fb) in
      let c = cond_more (g.started x 1) (tree_budget g p body' w2) (tree_budget g p body w) (g.row_cost x 1 f)
      (λ s. budget) in
      rw full (three _ _ _ _ _ _ a b c)

  -- ---- its links

  pub mine_own : (x x' : X) (below body : Tree X) (n : ℕ) → SameInputs x x' → Grown (g.ours x) (g.ours x') n
      → Grown (NodeOwn g p x below body) (NodeOwn g p x' below body) n
  mine_own x x' below body n ins ours l o = elim o [
    | inl a ↦ elim (ours l a) [ inl q ↦ inl (inl q) | inr q ↦ inr q ]
    | inr o ↦ elim o [ inl a ↦ inl (inr (inl a)) | inr a ↦ inl (inr (inr (sym (ins 1).0 ∙ a.0, a.1))) ]
  ]

  pub below_own : (x : X) (below below' body : Tree X) (n : ℕ)
      → Grown (TreeOwn g p below) (TreeOwn g p below') n
      → Grown (NodeOwn g p x below body) (NodeOwn g p x below' body) n
  below_own x below below' body n ours l o = elim o [
    | inl a ↦ inl (inl a)
    | inr o ↦ elim o [
      | inl a ↦ elim (ours l a) [ inl b ↦ inl (inr (inl b)) | inr b ↦ inr b ]
      | inr a ↦ inl (inr (inr a))
    ]
  ]

  pub node_own_body : (x : X) (below body body' : Tree X) (n : ℕ)
      → Grown (TreeOwn g p body) (TreeOwn g p body') n
      → Grown (NodeOwn g p x below body) (NodeOwn g p x below body') n
  node_own_body x below body body' n ours l o = elim o [
    | inl a ↦ inl (inl a)
    | inr o ↦ elim o [
      | inl a ↦ inl (inr (inl a))
      | inr a ↦ elim (ours l a.1) [ inl b ↦ inl (inr (inr (a.0, b))) | inr b ↦ inr b ]
    ]
  ]

  -- ---- all of it, where a message was taken off a link l0 in the world w, which led to w1, and its delivery
  -- led to w2

  abbrev pub TakenIn : W → W → ℕ → Message → Type 0
  TakenIn w w1 l0 m = Taken p w w1 l0 m

  -- the messages on links that are not the owner's stay
  abbrev pub OthersKept : (ℕ → Type 0) → W → W → Type 0
  OthersKept owner w1 w2 = (l : ℕ) → l < p.links w1 → (owner l → ⊥) → p.flight w2 l ≡ p.flight w1 l

  elsewhere : (owner who : ℕ → Type 0) (w w1 w2 : W) (l0 : ℕ) (m : Message) → TakenIn w w1 l0 m → owner l0
      → OthersKept owner w1 w2 → ((l : ℕ) → who l → l < p.links w) → ((l : ℕ) → who l → owner l → ⊥)
      → SameFlight who w w2
  elsewhere owner who w w1 w2 l0 m taken own others links apart l o =
      others l (subst (λ n. l < n) (sym taken.links_kept) (links l o)) (apart l o)
      ∙ taken.others l (λ e. apart l o (subst owner (sym e) own))

  grown_back : (own own' : ℕ → Type 0) (n n' : ℕ) → n' ≡ n → Grown own own' n' → Grown own own' n
  grown_back own own' n n' e h l o = elim (h l o) [ inl q ↦ inl q | inr q ↦ inr (subst (λ k. k ≤ l) e q) ]

  -- the node as it was is x over below and body
  pub record Reached (d : Counts) (x : X) (below body : Tree X) (w : W) (x' : X)
      (below' body' : Tree X) (w2 : W)
      : Type 0 where
    pub valid : NodeValid g p g.waited x' below' body' w2
    pub rests : (r : Rest) → NodeRests g p x' below' body' w2 r
        → (b : Rest) × Prefixed (node_exact g p x below body) [] d r b × NodeRests g p x below body w b
    pub budget : NodeBudget g p x' body' x' below' body' w2 ≤ NodeBudget g p x body x below body w

  pub mine_reached : KeptGives g p → KeptValid g p → KeptBudget g p → OwnLinks g p
      → (x x' : X) (below body : Tree X)
      (w w1 w2 : W) (l0 : ℕ) (m : Message) (d : Counts)
      → NodeValid g p (Waits g p) x below body w → TakenIn w w1 l0 m → g.ours x l0
      → p.stock w2 ≡ p.stock w1 → p.batch w2 ≡ p.batch w1 → p.links w1 ≤ p.links w2
      → OthersKept (g.ours x) w1 w2
      → g.valid x' w2 → SameInputs x x' → ((k : ℕ) (c : Call) → g.asks x' k c → g.asks x k c)
      → Grown (g.ours x) (g.ours x') (p.links w1) → (g.busy x' → g.busy x)
      → g.node x' ≡ g.node x
      → ((e : Exact) → Within e (exact_at (g.node x)) → (k : ℕ) (plan : OperatorTree) (ins : ℕ → Rest)
      (r : Rest) → g.gives x' w2 k plan ins r → (b : Rest) × Prefixed e [] d r b × g.gives x w k plan ins b)
      → ((k f : ℕ) → g.row_cost x' k f ≡ g.row_cost x k f) → ((f : ℕ) → g.budget x' w2 f ≤ g.budget x w f)
      → Reached d x below body w x' below body w2
  mine_reached kg kv kr ol x x' below body w w1 w2 l0 m d v taken own stock batch grows others valid ins
      asks ours busy node
      gives row_cost budget =
      let lb = tree_own_links g p ol below w (v.below_is.input_valid v.begun_is) in
      let ld : (l : ℕ) → BodyOwn g p x body l → l < p.links w =
      λ l o. tree_own_links g p ol body w (v.body_is.input_valid o.0) l o.1 in
      let st : p.stock w2 ≡ p.stock w = stock ∙ taken.stock_kept in
      let ba : p.batch w2 ≡ p.batch w = batch ∙ taken.batch_kept in
      let li : p.links w ≤ p.links w2 = subst (λ n. n ≤ p.links w2) taken.links_kept grows in
      let fb = elsewhere (g.ours x) (TreeOwn g p below) w w1 w2 l0 m taken own others lb
      (λ l o a. v.from_below l a o) in
      let fd = elsewhere (g.ours x) (BodyOwn g p x body) w w1 w2 l0 m taken own others ld
      (λ l o a. v.from_body l a o) in
      record {
        valid = after_mine kg kv x x' below body w w2 v st ba li fb fd valid ins asks
            (grown_back _ _ _ _ taken.links_kept ours) busy lb ld;
        rests = mine_rests kg x x' below body w w2 d st fb fd ins node
            (λ e i. gives e i 0 (tree_plan g p body));
        budget = mine_budget kr x x' below body w w2 st fb fd ins row_cost budget;
      }

  pub below_reached : KeptGives g p → KeptValid g p → KeptBudget g p → OwnLinks g p → MoreCounts → (x : X)
      (below below' body : Tree X) (w w1 w2 : W) (l0 : ℕ) (m : Message) (d : Counts)
      → NodeValid g p (Waits g p) x below body w → TakenIn w w1 l0 m → TreeOwn g p below l0
      → p.stock w2 ≡ p.stock w1 → p.batch w2 ≡ p.batch w1 → p.links w1 ≤ p.links w2
      → OthersKept (TreeOwn g p below) w1 w2
      → TreeValid g p below' w2 → ((c : Call) → TreeMay g p below c → TreeMay g p below' c)
      → Undisturbed d below w below' w2 → Grown (TreeOwn g p below) (TreeOwn g p below') (p.links w1)
      → tree_budget g p below' w2 ≤ tree_budget g p below w → tree_plan g p below' ≡ tree_plan g p below
      → Reached d x below body w x below' body w2
  below_reached kg kv kr ol more x below below' body w w1 w2 l0 m d v taken own stock batch grows others
      valid may rests
      ours budget plan =
      let lx = ol x w v.executor_valid in
      let ld : (l : ℕ) → BodyOwn g p x body l → l < p.links w =
      λ l o. tree_own_links g p ol body w (v.body_is.input_valid o.0) l o.1 in
      let st : p.stock w2 ≡ p.stock w = stock ∙ taken.stock_kept in
      let ba : p.batch w2 ≡ p.batch w = batch ∙ taken.batch_kept in
      let li : p.links w ≤ p.links w2 = subst (λ n. n ≤ p.links w2) taken.links_kept grows in
      let fx = elsewhere (TreeOwn g p below) (g.ours x) w w1 w2 l0 m taken own others lx v.from_below in
      let fd = elsewhere (TreeOwn g p below) (BodyOwn g p x body) w w1 w2 l0 m taken own others ld
      (λ l o a. v.between l a o) in
      record {
        valid = after_below kg kv x below below' body w w2 d v st ba li fx fd valid may rests plan
            (grown_back _ _ _ _ taken.links_kept ours) lx ld;
        rests = below_rests kg more x below below' body w w2 d v.begun_is st fx fd rests plan
            (v.below_is.none_left v.begun_is);
        budget = below_budget kr x below below' body w w2 st fx fd budget;
      }

  pub body_reached : KeptGives g p → KeptValid g p → KeptBudget g p → OwnLinks g p → MoreCounts → (x : X)
      (below body body' : Tree X) (w w1 w2 : W) (l0 : ℕ) (m : Message) (d : Counts)
      → NodeValid g p (Waits g p) x below body w → TakenIn w w1 l0 m → BodyOwn g p x body l0
      → p.stock w2 ≡ p.stock w1 → p.batch w2 ≡ p.batch w1 → p.links w1 ≤ p.links w2
      → OthersKept (TreeOwn g p body) w1 w2
      → TreeValid g p body' w2 → ((c : Call) → TreeMay g p body c → TreeMay g p body' c)
      → Undisturbed d body w body' w2 → Grown (TreeOwn g p body) (TreeOwn g p body') (p.links w1)
      → tree_budget g p body' w2 ≤ tree_budget g p body w
      → tree_plan g p body' ≡ tree_plan g p body → tree_full g p body' ≡ tree_full g p body
      → Reached d x below body w x below body' w2
  body_reached kg kv kr ol more x below body body' w w1 w2 l0 m d v taken own stock batch grows others
      valid may rests
      ours budget plan full =
      let lx = ol x w v.executor_valid in
      let lb = tree_own_links g p ol below w (v.below_is.input_valid v.begun_is) in
      let st : p.stock w2 ≡ p.stock w = stock ∙ taken.stock_kept in
      let ba : p.batch w2 ≡ p.batch w = batch ∙ taken.batch_kept in
      let li : p.links w ≤ p.links w2 = subst (λ n. n ≤ p.links w2) taken.links_kept grows in
      let fx = elsewhere (TreeOwn g p body) (g.ours x) w w1 w2 l0 m taken own.1 others lx
      (λ l o a. v.from_body l o (own.0, a)) in
      let fb = elsewhere (TreeOwn g p body) (TreeOwn g p below) w w1 w2 l0 m taken own.1 others lb
      (λ l o a. v.between l o (own.0, a)) in
      record {
        valid = after_body kg kv x below body body' w w2 d own.0 v st ba li fx fb valid may rests plan
            (grown_back _ _ _ _ taken.links_kept ours) lx lb;
        rests = body_rests kg more x below body body' w w2 d own.0 plan st fx fb rests
            (v.body_is.none_left own.0);
        budget = node_budget_body kr x below body body' w w2 st full fx fb budget;
      }
