-- What is known of the inputs of a node of a tree, after its executor was turned and after an input was
-- pulled.
use Rattle.std.proofs.Common.{ℕ, zero, suc, ◌≡◌, ◌<◌, ◌≤◌, ◌⊎◌, inl, inr, length, Bool, true, refl, sym, ◌∙◌, arith}
use Rattle.aql_block.specs.declared.calls.Call.{Call}
use Rattle.aql_block.specs.declared.calls.Step.{Step}
use Rattle.aql_block.specs.declared.tally.Tally.{Tally}
use Rattle.aql_block.specs.declared.calls.Progress.TheVariants.{Waiting, Done}
use Rattle.aql_exec.specs.declared.feed.Executor.{Ghosts}
use Rattle.aql_exec.specs.declared.surroundings.Surroundings
use Rattle.aql_exec.specs.Rests.{Exact, Rest, Over}
use Rattle.aql_exec.specs.Steps.{IsCall, Follows, given}
use Rattle.aql_exec.specs.Operators.{Operator, arity, OfSome, OfInputs, exact_tree}
use Rattle.aql_engine.specs.declared.tree.Tree.{Tree}
use Rattle.aql_engine.specs.Tree.{Input, Flies, WaitsAt, tree_plan, TreeRests, TreeOwn, TreeMay, TreeValid, NodeValid}
use Rattle.aql_engine.specs.laws.TreesKept.{KeptGives, KeptValid, OwnLinks, tree_kept_rests, tree_kept_valid, tree_own_links, flies_kept}
use Rattle.aql_engine.proofs.Loops.{Turning, Linked}

pub at_most : {k m n : ℕ} → k ≤ m → m ≤ n → k ≤ n
at_most h i = omega (arith, h, i)

pub is_below : {k m n : ℕ} → k < m → m ≤ n → k < n
is_below h i = omega (arith, h, i)

-- a link that was there is not new
pub not_new : {l n : ℕ} → l < n → n ≤ l → ⊥
not_new h i = absurd (omega (arith, h, i))

-- what is said of inputs, where there is one
some_said : (n : ℕ) {said : Type 0} → 1 ≤ n → OfSome n said → said
some_said zero some h = absurd (omega (arith, some))
some_said (suc n) some h = h

pub of_inputs : {o o' : Operator} {said : Type 0} → o ≡ o' → 1 ≤ arity o' → OfInputs o said → said
of_inputs {o = o} e some h = some_said (arity o) (rw e some) h

-- what is known of an input that was just pulled
pub pulled_input : {valid : Type 0} {may asks' : Call → Type 0} {v : Exact} {rests : Rest → Type 0}
    {own flies : ℕ → Type 0}
    {started' ended' : Bool} {waits' : Type 0} (step : Step) (ask : Call)
    → valid → started' ≡ true
    → ((c : Call) → asks' c → IsCall c × Follows ask step.skipped (length (given step)) step.progress c)
    → ((c : Call) → IsCall c → Follows ask step.skipped (length (given step)) step.progress c → may c)
    → (ended' ≡ true → (step.progress ≡ Done) × (length (given step) ≡ ask.hard → ⊥))
    → (step.progress ≡ Done → (length (given step) ≡ ask.hard) ⊎ Over v rests)
    → (waits' → step.progress ≡ Waiting)
    → (step.progress ≡ Waiting → (l : ℕ) × own l × flies l)
    → Input valid started' ended' waits' asks' may v rests own flies
pulled_input step ask h b asks may ended over waits flies = record {
  input_valid = λ s. h;
  may_ask = λ s c a. (let f = asks c a in may c f.0 f.1);
  none_left = λ s e. (let f = ended e in elim (over f.0) [ inl h ↦ absurd (f.1 h) | inr h ↦ h ]);
  in_flight = λ w. (let f = flies (waits w) in (b, f.0, f.1, f.2));
}

pub input_weaker : {valid : Type 0} {may asks asks' : Call → Type 0} {v : Exact} {rests : Rest → Type 0}
    {own flies : ℕ → Type 0} {started ended started' ended' : Bool} {waits waits' : Type 0}
    → Input valid started ended waits asks may v rests own flies → started' ≡ started
    → (ended' ≡ true → ended ≡ true) → (waits' → waits) → ((c : Call) → asks' c → asks c)
    → Input valid started' ended' waits' asks' may v rests own flies
input_weaker i s e w a = record {
  input_valid = λ b. i.input_valid (sym s ∙ b);
  may_ask = λ b c h. i.may_ask (sym s ∙ b) c (a c h);
  none_left = λ b h. i.none_left (sym s ∙ b) (e h);
  in_flight = λ h. (let f = i.in_flight (w h) in (s ∙ f.0, f.1, f.2, f.3));
}

module _ {X W : Type 0} (g : Ghosts X W) (p : Surroundings.Ghosts W) where
  -- what happens elsewhere keeps what is known of an input
  pub input_kept : KeptGives g p → KeptValid g p
      → (t : Tree X) (w w' : W) {started ended : Bool} {waits : Type 0}
      {asks : Call → Type 0} {e : Exact} → p.stock w' ≡ p.stock w → p.batch w' ≡ p.batch w
      → p.links w ≤ p.links w' → (started ≡ true → (l : ℕ) → TreeOwn g p t l → p.flight w' l ≡ p.flight w l)
      → Input (TreeValid g p t w) started ended waits asks (TreeMay g p t) e (TreeRests g p t w) (TreeOwn g p t)
      (Flies g p w)
      → Input (TreeValid g p t w') started ended waits asks (TreeMay g p t) e (TreeRests g p t w')
      (TreeOwn g p t)
      (Flies g p w')
  input_kept k v t w w' e b n f i = record {
    input_valid = λ s. tree_kept_valid g p k v t w w' e b n (f s) (i.input_valid s);
    may_ask = i.may_ask;
    none_left = λ s d r o. i.none_left s d r (tree_kept_rests g p k t w w' e (f s) r o);
    in_flight = λ a. (let o = i.in_flight a in
        (o.0, o.1, o.2, flies_kept g p w w' o.1 (f o.0 o.1 o.2) o.3));
  }

  -- what is true of a node where more may wait is true where less may
  pub fewer_wait : (waits waits' : X → ℕ → Type 0) (x : X) (below body : Tree X) (w : W)
      → ((k : ℕ) → waits' x k → waits x k) → NodeValid g p waits x below body w
      → NodeValid g p waits' x below body w
  fewer_wait waits waits' x below body w f v = record {
    executor_valid = v.executor_valid;
    below_is = input_weaker v.below_is refl (λ e. e) (f 0) (λ c a. a);
    body_is = input_weaker v.body_is refl (λ e. e) (f 1) (λ c a. a);
    begun_is = v.begun_is;
    none_unreported = v.none_unreported;
    none_waits = v.none_waits;
    idle = v.idle;
    from_below = v.from_below;
    from_body = v.from_body;
    between = v.between;
  }

  -- the inputs of a node after a turn of its executor, from x in the world w to x1 in w1
  pub record Turned (port : ℕ) (x x1 : X) (below body : Tree X) (w w1 : W) : Type 0 where
    pub below_links : (l : ℕ) → TreeOwn g p below l → l < p.links w
    pub below_kept : (l : ℕ) → TreeOwn g p below l → p.flight w1 l ≡ p.flight w l
    pub body_links : g.started x 1 ≡ true → (l : ℕ) → TreeOwn g p body l → l < p.links w
    pub body_kept : g.started x 1 ≡ true → (l : ℕ) → TreeOwn g p body l → p.flight w1 l ≡ p.flight w l
    pub below_is : Input (TreeValid g p below w1) (g.started x 0) (g.ended x 0) (WaitsAt g p port x 0)
        (g.asks x 0) (TreeMay g p below) (exact_tree (tree_plan g p below)) (TreeRests g p below w1)
        (TreeOwn g p below) (Flies g p w1)
    pub body_is : Input (TreeValid g p body w1) (g.started x 1) (g.ended x 1) (WaitsAt g p port x 1)
        (g.asks x 1) (TreeMay g p body) (exact_tree (tree_plan g p body)) (TreeRests g p body w1)
        (TreeOwn g p body) (Flies g p w1)
    pub apart_below : (l : ℕ) → g.ours x1 l → TreeOwn g p below l → ⊥
    pub apart_body : g.started x 1 ≡ true → (l : ℕ) → g.ours x1 l → TreeOwn g p body l → ⊥

  pub turned_inputs : KeptGives g p → KeptValid g p → OwnLinks g p
      → {port : ℕ} {call : Call} {x0 : X} {below0 body0 : Tree X} {w0 : W} {t0 t : Tally} {x : X}
      {below body : Tree X} {w : W}
      → Turning g p port call x0 below0 body0 w0 t0 x below body w t → Linked g p x0 below0 body0 w0 x below body w
      → (x1 : X) (w1 : W) → p.stock w1 ≡ p.stock w → p.batch w1 ≡ p.batch w → p.links w ≤ p.links w1
      → ((l : ℕ) → l < p.links w → (g.ours x l → ⊥) → p.flight w1 l ≡ p.flight w l)
      → ((l : ℕ) → g.ours x1 l → g.ours x l ⊎ (p.links w ≤ l))
      → Turned port x x1 below body w w1
  turned_inputs kg kv own {x} {below} {body} {w} inv links x1 w1 stock batch grows others ours =
      let b_links : (l : ℕ) → TreeOwn g p below l → l < p.links w =
      tree_own_links g p own below w (inv.below_is.input_valid inv.begun_is) in
      let d_links : g.started x 1 ≡ true → (l : ℕ) → TreeOwn g p body l → l < p.links w =
      λ s. tree_own_links g p own body w (inv.body_is.input_valid s) in
      let b_kept : (l : ℕ) → TreeOwn g p below l → p.flight w1 l ≡ p.flight w l =
      λ l o. others l (b_links l o) (λ a. links.from_below l a o) in
      let d_kept : g.started x 1 ≡ true → (l : ℕ) → TreeOwn g p body l → p.flight w1 l ≡ p.flight w l =
      λ s l o. others l (d_links s l o) (λ a. links.from_body l a (s, o)) in
      record {
        below_links = b_links;
        below_kept = b_kept;
        body_links = d_links;
        body_kept = d_kept;
        below_is = input_kept kg kv below w w1 stock batch grows (λ s. b_kept) inv.below_is;
        body_is = input_kept kg kv body w w1 stock batch grows d_kept inv.body_is;
        apart_below = λ l a o. elim (ours l a) [
          | inl q ↦ links.from_below l q o
          | inr q ↦ not_new (b_links l o) q
        ];
        apart_body = λ s l a o. elim (ours l a) [
          | inl q ↦ links.from_body l q (s, o)
          | inr q ↦ not_new (d_links s l o) q
        ];
      }
