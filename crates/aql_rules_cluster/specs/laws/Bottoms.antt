-- What the program finds at the bottom of a fragment, and the same fragment over another foot.
use Rattle.std.proofs.Common.{◌≡◌, ◌∙◌, ℕ, List, Bool, true, false, true≢false, Option, Some, None, refl, ap, ap₂, sym, subst}
use Rattle.std.specs.Prelude.{cond, ◌==◌, ◌&&◌, not, is_some}
use Rattle.std.proofs.lemmas.Bool.{and_parts, eqb-true, eq-eqb}
use Rattle.aql_tree.specs.Tree.{ExprTrees}
use Rattle.aql_plan.specs.Plan.{Reading, Plan, Singleton, Over, Node, EnumerateCollection, Index, Scatter, Distribute, Remote, Gather, top}
use Rattle.aql_rules_cluster.specs.DistributeFiltercalcToCluster.{gathered}
use Rattle.aql_rules_cluster.specs.FragmentParts.{over_link, is_foot, is_above_foot, ReadsHere, SameAbove, none_above, one_above}
use Rattle.aql_rules_cluster.specs.inner.Bottoms.{Bottom, sent_foot, bottom_over, bottom, sent_bottom, gathered_bottom, with_foot, reads_there, reads_here}

-- ---- a foot below its link

pub sent_is : (b foot : Plan) → sent_foot b ≡ Some foot → (b ≡ Over foot Remote) × (is_foot (top foot) ≡ true)
sent_is (Over c Remote) foot h = by (is_foot (top c)) refl h
  where
    by : (i : Bool) → is_foot (top c) ≡ i → cond i (Some c) None ≡ Some foot
        → (Over c Remote ≡ Over foot Remote) × (is_foot (top foot) ≡ true)
    by true e k = let same : c ≡ foot = cc in
        (ap (λ (o : Plan). Over o Remote) same, subst (λ (o : Plan). is_foot (top o) ≡ true) same e)
    by false e k = absurd (cc)
sent_is b foot h = absurd (cc)

pub is_sent : (foot : Plan) → is_foot (top foot) ≡ true → sent_foot (Over foot Remote) ≡ Some foot
is_sent foot h = ap (λ (i : Bool). cond i (Some foot) None) h

pub not_sent : (b foot : Plan) → sent_foot b ≡ None → b ≡ Over foot Remote → is_foot (top foot) ≡ false
not_sent b foot none e = by (is_foot (top foot)) refl (ap sent_foot (sym e) ∙ none)
  where
    by : (i : Bool) → is_foot (top foot) ≡ i → cond i (Some foot) None ≡ None → is_foot (top foot) ≡ false
    by true e k = absurd (cc)
    by false e k = e

-- ---- the bottom of a fragment

no_foot : (n : Node) → is_above_foot n ≡ true → is_foot n ≡ false
no_foot (Scatter coll only) h = absurd (true≢false (sym h))
no_foot (Distribute coll es) h = absurd (true≢false (sym h))
no_foot n h = refl

-- the same nodes over another foot, node by node
node_stays : (m : Node) (b : Plan) (n : Node) → is_foot n ≡ false
    → with_foot m (Over b n) ≡ Over (with_foot m b) n
node_stays m b n e = ap (λ (i : Bool). cond i (Over b m) (Over (with_foot m b) n)) e

foot_goes : (m : Node) (b : Plan) (n : Node) → is_foot n ≡ true → with_foot m (Over b n) ≡ Over b m
foot_goes m b n e = ap (λ (i : Bool). cond i (Over b m) (Over (with_foot m b) n)) e

-- what is found: the node is above the foot, and the same nodes may stand over another foot
pub record IsBottom (p : Plan) (x : Bottom) : Type 0 where
  pub input : Plan
  pub node : Node
  pub is : x.foot ≡ Over input node
  pub foot : is_foot node ≡ true
  pub above : is_above_foot x.lowest ≡ true
  pub set : (m : Node) → SameAbove (over_link (Over input node) x.lowest) (over_link (Over input m) x.lowest)
      p (with_foot m p)

foot_is : (c : Plan) → is_foot (top c) ≡ true → (b : Plan) × (n : Node) × (c ≡ Over b n) × (is_foot n ≡ true)
foot_is Singleton h = absurd (true≢false (sym h))
foot_is (Over b n) h = (b, n, refl, h)

lowest_is : (m : Node) (b c d : Plan) (n k : Node) → is_above_foot n ≡ true → c ≡ Over d k
    → is_foot k ≡ true → b ≡ Over c Remote
    → SameAbove (over_link (Over d k) n) (over_link (Over d m) n) (Over b n) (with_foot m (Over b n))
lowest_is m b c d n k i is foot sent =
    let was : b ≡ Over (Over d k) Remote = sent ∙ ap (λ (o : Plan). Over o Remote) is in
    let becomes : with_foot m (Over (Over (Over d k) Remote) n) ≡ over_link (Over d m) n
    = node_stays m (Over (Over d k) Remote) n (no_foot n i)
    ∙ ap (λ (o : Plan). Over (Over o Remote) n) (foot_goes m d k foot) in
    let old = over_link (Over d k) n in
    let new = over_link (Over d m) n in
    subst (λ (o : Plan). SameAbove old new (Over o n) (with_foot m (Over o n))) (sym was)
    (subst (SameAbove old new old) (sym becomes) none_above)

pub bottom_is : (p : Plan) (x : Bottom) → bottom p ≡ Some x → IsBottom p x
bottom_is Singleton x h = absurd (cc)
bottom_is (Over b n) x h = by (is_above_foot n) refl (λ k. bottom_is b x k) h
  where
    found : is_above_foot n ≡ true → (c : Plan) → sent_foot b ≡ Some c
        → IsBottom (Over b n) (record { lowest = n; foot = c })
    found i c e =
        let sent = sent_is b c e in
        let f = foot_is c sent.1 in record {
          input = f.0;
          node = f.1;
          is = f.2;
          foot = f.3;
          above = i;
          set = λ m. lowest_is m b c f.0 n f.1 i f.2 f.3 sent.0;
        }

    further : is_above_foot n ≡ true → IsBottom b x → IsBottom (Over b n) x
    further i low = record {
      input = low.input;
      node = low.node;
      is = low.is;
      foot = low.foot;
      above = low.above;
      set = λ m.
          let old = over_link (Over low.input low.node) x.lowest in
          let new = over_link (Over low.input m) x.lowest in
          subst (SameAbove old new (Over b n)) (sym (node_stays m b n (no_foot n i)))
          (one_above i (low.set m));
    }

    at : is_above_foot n ≡ true → (o : Option Plan) → sent_foot b ≡ o → (bottom b ≡ Some x → IsBottom b x)
        → bottom_over n o (bottom b) ≡ Some x → IsBottom (Over b n) x
    at i (Some c) e low k =
        let is : record { lowest = n; foot = c } ≡ x = cc in subst (IsBottom (Over b n)) is (found i c e)
    at i None e low k = further i (low k)

    by : (i : Bool) → is_above_foot n ≡ i → (bottom b ≡ Some x → IsBottom b x)
        → cond i (bottom_over n (sent_foot b) (bottom b)) None ≡ Some x → IsBottom (Over b n) x
    by true e low k = at e (sent_foot b) refl low k
    by false e low k = absurd (cc)

-- and its Gather over the link
pub record IsGatheredBottom (p : Plan) (x : Bottom) : Type 0 where
  pub fragment : Plan
  pub directions : List Bool
  pub keys : ExprTrees
  pub is : p ≡ gathered directions keys fragment
  pub bottom : bottom fragment ≡ Some x

sent_bottom_is : (b : Plan) (x : Bottom) → sent_bottom b ≡ Some x
    → (f : Plan) × (b ≡ Over f Remote) × (bottom f ≡ Some x)
sent_bottom_is Singleton x h = absurd (cc)
sent_bottom_is (Over f Remote) x h = (f, refl, h)
sent_bottom_is (Over f n) x h = absurd (cc)

pub gathered_bottom_is : (p : Plan) (x : Bottom) → gathered_bottom p ≡ Some x → IsGatheredBottom p x
gathered_bottom_is Singleton x h = absurd (cc)
gathered_bottom_is (Over b (Gather directions keys)) x h =
    let sent = sent_bottom_is b x h in record {
      fragment = sent.0;
      directions = directions;
      keys = keys;
      is = ap (λ (o : Plan). Over o (Gather directions keys)) sent.1;
      bottom = sent.2;
    }
gathered_bottom_is (Over b n) x h = absurd (cc)

-- whatever stands so is found
pub top_above : (old new p q : Plan) → is_above_foot (top old) ≡ true → SameAbove old new p q
    → is_above_foot (top p) ≡ true
top_above old new _ _ h none_above = h
top_above old new _ _ h (one_above i s) = i

pub none_sent : (b : Plan) (n : Node) → is_above_foot (top b) ≡ true → sent_foot (Over b n) ≡ None
none_sent b Remote h = ap (λ (i : Bool). cond i (Some b) None) (no_foot (top b) h)
none_sent b n h = refl

pub unsent : (old new p q foot : Plan) (n : Node) → old ≡ over_link foot n → is_above_foot n ≡ true
    → SameAbove old new p q → sent_foot p ≡ None
unsent old new _ _ foot n e i none_above =
    subst (λ (o : Plan). sent_foot o ≡ None) (sym e) (none_sent (Over foot Remote) n refl)
unsent old new _ _ foot n e i (one_above {p = b} {q = c} {n = k} j t) = none_sent b k
    (top_above old new b c (subst (λ (o : Plan). is_above_foot (top o) ≡ true) (sym e) i) t)

pub bottom_found : (foot new : Plan) (n : Node) (p q : Plan) → is_above_foot n ≡ true
    → is_foot (top foot) ≡ true → SameAbove (over_link foot n) new p q
    → bottom p ≡ Some (record { lowest = n; foot = foot })
bottom_found foot new n _ _ i is none_above =
    ap (λ (a : Bool).
    cond a (bottom_over n (sent_foot (Over foot Remote)) (bottom (Over foot Remote))) None) i
    ∙ ap (λ (o : Option Plan). bottom_over n o (bottom (Over foot Remote))) (is_sent foot is)
bottom_found foot new n _ _ i is (one_above {p = p} {q = q} {n = m} a s) =
    ap (λ (a : Bool). cond a (bottom_over m (sent_foot p) (bottom p)) None) a
    ∙ ap (λ (o : Option Plan). bottom_over m o (bottom p)) (unsent (over_link foot n) new p q foot n refl i s)
    ∙ bottom_found foot new n p q i is s

-- ---- a node that reads here

reads_by : (coll : ℕ) (x : Reading) → reads_there coll x ≡ true → (x.coll ≡ coll) × (x.shard ≡ None)
reads_by coll x h =
    let both = and_parts (x.coll == coll) (not (is_some x.shard)) h in
    (eqb-true x.coll coll both.0, none x.shard both.1)
  where
    none : (o : Option ℕ) → not (is_some o) ≡ true → o ≡ None
    none None e = refl
    none (Some s) e = absurd (true≢false (sym e))

pub reads_is : (coll : ℕ) (n : Node) → reads_here coll n ≡ true → ReadsHere coll n
reads_is coll (EnumerateCollection x) h = reads_by coll x h
reads_is coll (Index x index equal last ordered) h = reads_by coll x h
reads_is coll n h = absurd (true≢false (sym h))

reading_seen : (coll : ℕ) (x : Reading) → x.coll ≡ coll → x.shard ≡ None → reads_there coll x ≡ true
reading_seen coll x e alone =
    ap₂ (λ a b. a && b) (eq-eqb x.coll coll e) (ap (λ (o : Option ℕ). not (is_some o)) alone)

pub reader_seen : (coll : ℕ) (n : Node) → ReadsHere coll n → reads_here coll n ≡ true
reader_seen coll (EnumerateCollection x) h = reading_seen coll x h.0 h.1
reader_seen coll (Index x index equal last ordered) h = reading_seen coll x h.0 h.1
reader_seen coll n h = absurd h

pub reader_above : (coll : ℕ) (n : Node) → ReadsHere coll n → is_above_foot n ≡ true
reader_above coll (EnumerateCollection x) h = refl
reader_above coll (Index x index equal last ordered) h = refl
reader_above coll n h = absurd h
