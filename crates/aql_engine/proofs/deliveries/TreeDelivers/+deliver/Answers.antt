use Rattle.std.proofs.Common.{◌<◌, inl, inr, arith}
use Rattle.aql_exec.specs.Rests.{Rest, Within}
use Rattle.aql_exec.specs.Operators.{height, leaf, StartRow, no_rest, exact_at, exact_tree}
use Rattle.aql_exec.specs.laws.Counted.{rises_then, rises_weaker}
use Rattle.aql_engine.specs.laws.Exactness.{exact_node, exact_below, exact_body}
use Rattle.aql_engine.specs.Tree.{Waits, tree_plan, node_exact, TreeOwn, TreeRests, NodeRests, NodeOwn, NodeValid, BodyOwn, tree_full}
use Rattle.aql_engine.proofs.Leading.{plus}
use Rattle.aql_engine.proofs.Inputs.{at_most}
use Rattle.aql_engine.proofs.Delivering.{mine_reached, below_reached, body_reached, mine_own, below_own, node_own_body, two_steps, steps_weaker, ok_map}
use Rattle.aql_engine.proofs.deliveries.TreeDelivers.+deliver.Goals as goal

-- ---- its executor received the message

pub work_on-requires-clause-valid : goal.work_on-requires-clause-valid
work_on-requires-clause-valid g t c =
    let x = g.X.Executor in
    let p = g.W.Surroundings in
    let m = g.met.X.Executor in
    let x0 = c.in-Sub.x in
    let below = c.deref_mut-below.result.now in
    let body = c.deref_mut-body.result.now in
    let dl = c.in_ok-deliver-in-Sub.ensures in
    let w2 = c.deliver-then-owns.new.world in
    let x1 = c.deliver-then-owns.new.self in
    let own : x.ours x0 c.args.link = c.owns.ensures.0 c.if-owns.true in
    let w = c.requires.taken.0 in
    let h = c.requires.taken.1 in
    let k = c.requires.taken.2 in
    let v : NodeValid x p (Waits x p) x0 below body w =
    rw (c.deref_mut-below.ensures.value, c.deref_mut-body.ensures.value) (rw c.in-Sub.is at h) in
    let f = dl.undisturbed own w v.executor_valid k in
    let a = mine_reached x p m.kept_gives m.kept_valid m.kept_budget m.own_links x0 x1 below body w
    c.args.world.now w2 c.args.link c.args.message f.0 v k own dl.world.stock dl.world.batch dl.world.grows
    dl.world.others (dl.valid own)
    dl.inputs dl.asks
    dl.ours dl.busy dl.node.node_is f.2 dl.node.row_cost_is (dl.budget own w v.executor_valid k) in
    a.valid

pub returns-then-owns-clause-undisturbed : goal.returns-then-owns-clause-undisturbed
returns-then-owns-clause-undisturbed g t c =
    let x = g.X.Executor in
    let p = g.W.Surroundings in
    let m = g.met.X.Executor in
    let x0 = c.in-Sub.x in
    let below = c.deref_mut-below.result.now in
    let body = c.deref_mut-body.result.now in
    let dl = c.in_ok-deliver-in-Sub.ensures in
    let w2 = c.deliver-then-owns.new.world in
    let x1 = c.deliver-then-owns.new.self in
    let own : x.ours x0 c.args.link = c.owns.ensures.0 c.if-owns.true in
    let q = c.in_ok-work_on-in-Sub.ensures.undisturbed in
    λ w h k. (
    let back : (b : Rest) → NodeRests x p x0 below body w b → TreeRests x p c.args.self.now w b =
    λ b z. rw (c.in-Sub.is, ← c.deref_mut-below.ensures.value, ← c.deref_mut-body.ensures.value) z in
    let self = exact_tree (tree_plan x p c.args.self.now) in
    let exact = node_exact x p x0 below body in
    let in_self : Within self exact =
    λ j i. rw (c.deref_mut-below.ensures.value, c.deref_mut-body.ensures.value) (rw c.in-Sub.is at i) in
    let after = node_exact x p x1 below body in
    let in_after : Within self after = λ j i. rw dl.node.node_is (in_self j i) in
    let v : NodeValid x p (Waits x p) x0 below body w =
    rw (c.deref_mut-below.ensures.value, c.deref_mut-body.ensures.value) (rw c.in-Sub.is at h) in
    let f = dl.undisturbed own w v.executor_valid k in
    let a = mine_reached x p m.kept_gives m.kept_valid m.kept_budget m.own_links x0 x1 below body w
    c.args.world.now w2 c.args.link c.args.message f.0 v k own dl.world.stock dl.world.batch dl.world.grows
    dl.world.others (dl.valid own)
    dl.inputs dl.asks
    dl.ours dl.busy dl.node.node_is f.2 dl.node.row_cost_is (dl.budget own w v.executor_valid k) in (
      plus f.0 q.0,
      rises_then p _ _ _ _ _ _ _ _
          (rises_weaker p _ _ _ _ f.0
          (λ j i. exact_node (x.node x0) (tree_plan x p below) (tree_plan x p body) j (in_self j i)) f.1)
          (rises_weaker p _ _ _ _ q.0 in_after q.1),
      λ r z. (let s = two_steps {v = self} (NodeRests x p x0 below body w)
          (NodeRests x p x1 below body w2) _ f.0 q.0 (steps_weaker self exact _ _ f.0 in_self a.rests)
          (steps_weaker self after _ _ q.0 in_after q.2) r z in (s.0, s.1, back s.0 s.2)),
    ))

pub returns-then-owns-clause-budget : goal.returns-then-owns-clause-budget
returns-then-owns-clause-budget g t c =
    let x = g.X.Executor in
    let p = g.W.Surroundings in
    let m = g.met.X.Executor in
    let x0 = c.in-Sub.x in
    let below = c.deref_mut-below.result.now in
    let body = c.deref_mut-body.result.now in
    let dl = c.in_ok-deliver-in-Sub.ensures in
    let w2 = c.deliver-then-owns.new.world in
    let x1 = c.deliver-then-owns.new.self in
    let own : x.ours x0 c.args.link = c.owns.ensures.0 c.if-owns.true in
    let work = c.in_ok-work_on-in-Sub.ensures in
    let full = tree_full x p body in
    λ w h k. (
    let v : NodeValid x p (Waits x p) x0 below body w =
    rw (c.deref_mut-below.ensures.value, c.deref_mut-body.ensures.value) (rw c.in-Sub.is at h) in
    let f = dl.undisturbed own w v.executor_valid k in
    let a = mine_reached x p m.kept_gives m.kept_valid m.kept_budget m.own_links x0 x1 below body w
    c.args.world.now w2 c.args.link c.args.message f.0 v k own dl.world.stock dl.world.batch dl.world.grows
    dl.world.others (dl.valid own)
    dl.inputs dl.asks
    dl.ours dl.busy dl.node.node_is f.2 dl.node.row_cost_is (dl.budget own w v.executor_valid k) in
    rw (
      c.in-Sub.is,
      work.body_full,
      work.node.row_cost_is 0 full,
      work.node.row_cost_is 1 full,
      ← c.deref_mut-below.ensures.value,
      ← c.deref_mut-body.ensures.value,
    ) (at_most work.budget a.budget))

pub returns-then-owns-clause-ours : goal.returns-then-owns-clause-ours
returns-then-owns-clause-ours g t c =
    let x = g.X.Executor in
    let p = g.W.Surroundings in
    let x0 = c.in-Sub.x in
    let below = c.deref_mut-below.result.now in
    let body = c.deref_mut-body.result.now in
    let dl = c.in_ok-deliver-in-Sub.ensures in
    let x1 = c.deliver-then-owns.new.self in
    λ l o. elim (c.in_ok-work_on-in-Sub.ensures.ours l o) [
      | inl a ↦ elim (mine_own x p x0 x1 below body (p.links c.args.world.now) dl.inputs dl.ours l a) [
        | inl a ↦ inl
            (rw (c.in-Sub.is, ← c.deref_mut-below.ensures.value, ← c.deref_mut-body.ensures.value) a)
        | inr b ↦ inr b
      ]
      | inr b ↦ inr (at_most dl.world.grows b)
    ]

-- ---- its input did

pub work_on-requires-then-owns-2-clause-valid : goal.work_on-requires-then-owns-2-clause-valid
work_on-requires-then-owns-2-clause-valid g t c =
    let x = g.X.Executor in
    let p = g.W.Surroundings in
    let m = g.met.X.Executor in
    let x0 = c.in-Sub.x in
    let below = c.deref_mut-below.result.now in
    let body = c.deref_mut-body.result.now in
    let dl = c.in_ok-deliver-in-Sub-2.ensures in
    let w2 = c.deliver-then-owns-2.new.world in
    let below1 = c.deliver-then-owns-2.new.self in
    let own : TreeOwn x p below c.args.link = c.owns-in-Sub.ensures.0 c.if-owns-2.true in
    let w = c.requires.taken.0 in
    let h = c.requires.taken.1 in
    let k = c.requires.taken.2 in
    let v : NodeValid x p (Waits x p) x0 below body w =
    rw (c.deref_mut-below.ensures.value, c.deref_mut-body.ensures.value) (rw c.in-Sub.is at h) in
    let f = dl.undisturbed w (v.below_is.input_valid v.begun_is) k in
    let a = below_reached x p m.kept_gives m.kept_valid m.kept_budget m.own_links m.more_counts x0 below
    below1 body w
    c.args.world.now w2 c.args.link c.args.message f.0 v k own dl.world.stock dl.world.batch dl.world.grows
    dl.world.others dl.valid dl.may
    f.2 dl.ours
    (dl.budget w (v.below_is.input_valid v.begun_is) k) dl.plan in
    a.valid

pub returns-then-owns-2-clause-undisturbed : goal.returns-then-owns-2-clause-undisturbed
returns-then-owns-2-clause-undisturbed g t c =
    let x = g.X.Executor in
    let p = g.W.Surroundings in
    let m = g.met.X.Executor in
    let x0 = c.in-Sub.x in
    let below = c.deref_mut-below.result.now in
    let body = c.deref_mut-body.result.now in
    let dl = c.in_ok-deliver-in-Sub-2.ensures in
    let w2 = c.deliver-then-owns-2.new.world in
    let below1 = c.deliver-then-owns-2.new.self in
    let own : TreeOwn x p below c.args.link = c.owns-in-Sub.ensures.0 c.if-owns-2.true in
    let q = c.in_ok-work_on-in-Sub-2.ensures.undisturbed in
    λ w h k. (
    let back : (b : Rest) → NodeRests x p x0 below body w b → TreeRests x p c.args.self.now w b =
    λ b z. rw (c.in-Sub.is, ← c.deref_mut-below.ensures.value, ← c.deref_mut-body.ensures.value) z in
    let self = exact_tree (tree_plan x p c.args.self.now) in
    let exact = node_exact x p x0 below body in
    let in_self : Within self exact =
    λ j i. rw (c.deref_mut-below.ensures.value, c.deref_mut-body.ensures.value) (rw c.in-Sub.is at i) in
    let after = node_exact x p x0 below1 body in
    let in_after : Within self after = λ j i. rw dl.plan (in_self j i) in
    let v : NodeValid x p (Waits x p) x0 below body w =
    rw (c.deref_mut-below.ensures.value, c.deref_mut-body.ensures.value) (rw c.in-Sub.is at h) in
    let f = dl.undisturbed w (v.below_is.input_valid v.begun_is) k in
    let a = below_reached x p m.kept_gives m.kept_valid m.kept_budget m.own_links m.more_counts x0 below
    below1 body w
    c.args.world.now w2 c.args.link c.args.message f.0 v k own dl.world.stock dl.world.batch dl.world.grows
    dl.world.others dl.valid dl.may
    f.2 dl.ours
    (dl.budget w (v.below_is.input_valid v.begun_is) k) dl.plan in (
      plus f.0 q.0,
      rises_then p _ _ _ _ _ _ _ _
          (rises_weaker p _ _ _ _ f.0
          (λ j i. exact_below (x.node x0) (tree_plan x p below) (tree_plan x p body) j (in_self j i)) f.1)
          (rises_weaker p _ _ _ _ q.0 in_after q.1),
      λ r z. (let s = two_steps {v = self} (NodeRests x p x0 below body w)
          (NodeRests x p x0 below1 body w2) _ f.0 q.0 (steps_weaker self exact _ _ f.0 in_self a.rests)
          (steps_weaker self after _ _ q.0 in_after q.2) r z in (s.0, s.1, back s.0 s.2)),
    ))

pub returns-then-owns-2-clause-budget : goal.returns-then-owns-2-clause-budget
returns-then-owns-2-clause-budget g t c =
    let x = g.X.Executor in
    let p = g.W.Surroundings in
    let m = g.met.X.Executor in
    let x0 = c.in-Sub.x in
    let below = c.deref_mut-below.result.now in
    let body = c.deref_mut-body.result.now in
    let dl = c.in_ok-deliver-in-Sub-2.ensures in
    let w2 = c.deliver-then-owns-2.new.world in
    let below1 = c.deliver-then-owns-2.new.self in
    let own : TreeOwn x p below c.args.link = c.owns-in-Sub.ensures.0 c.if-owns-2.true in
    let work = c.in_ok-work_on-in-Sub-2.ensures in
    let full = tree_full x p body in
    λ w h k. (
    let v : NodeValid x p (Waits x p) x0 below body w =
    rw (c.deref_mut-below.ensures.value, c.deref_mut-body.ensures.value) (rw c.in-Sub.is at h) in
    let f = dl.undisturbed w (v.below_is.input_valid v.begun_is) k in
    let a = below_reached x p m.kept_gives m.kept_valid m.kept_budget m.own_links m.more_counts x0 below
    below1 body w
    c.args.world.now w2 c.args.link c.args.message f.0 v k own dl.world.stock dl.world.batch dl.world.grows
    dl.world.others dl.valid dl.may
    f.2 dl.ours
    (dl.budget w (v.below_is.input_valid v.begun_is) k) dl.plan in
    rw (
      c.in-Sub.is,
      work.body_full,
      work.node.row_cost_is 0 full,
      work.node.row_cost_is 1 full,
      ← c.deref_mut-below.ensures.value,
      ← c.deref_mut-body.ensures.value,
    ) (at_most work.budget a.budget))

pub returns-then-owns-2-clause-ours : goal.returns-then-owns-2-clause-ours
returns-then-owns-2-clause-ours g t c =
    let x = g.X.Executor in
    let p = g.W.Surroundings in
    let x0 = c.in-Sub.x in
    let below = c.deref_mut-below.result.now in
    let body = c.deref_mut-body.result.now in
    let dl = c.in_ok-deliver-in-Sub-2.ensures in
    let below1 = c.deliver-then-owns-2.new.self in
    λ l o. elim (c.in_ok-work_on-in-Sub-2.ensures.ours l o) [
      | inl a ↦ elim (below_own x p x0 below below1 body (p.links c.args.world.now) dl.ours l a) [
        | inl a ↦ inl
            (rw (c.in-Sub.is, ← c.deref_mut-below.ensures.value, ← c.deref_mut-body.ensures.value) a)
        | inr b ↦ inr b
      ]
      | inr b ↦ inr (at_most dl.world.grows b)
    ]

-- ---- its body did

pub work_on-requires-in-Sub-clause-valid : goal.work_on-requires-in-Sub-clause-valid
work_on-requires-in-Sub-clause-valid g t c =
    let x = g.X.Executor in
    let p = g.W.Surroundings in
    let m = g.met.X.Executor in
    let x0 = c.in-Sub.x in
    let below = c.deref_mut-below.result.now in
    let body = c.deref_mut-body.result.now in
    let dl = c.in_ok-deliver-in-Sub-3.ensures in
    let w2 = c.deliver-in-Sub.new.world in
    let body1 = c.deliver-in-Sub.new.self in
    let own_node : NodeOwn x p x0 below body c.args.link =
    rw (c.deref_mut-below.ensures.value, c.deref_mut-body.ensures.value)
    (rw c.in-Sub.is at c.requires.ours) in
    let own : BodyOwn x p x0 body c.args.link = elim own_node [
      | inl q ↦ absurd (c.owns.ensures.1 c.if-owns.false q)
      | inr q ↦ elim q [ inl q ↦ absurd (c.owns-in-Sub.ensures.1 c.if-owns-2.false q) | inr q ↦ q ]
    ] in
    let w = c.requires.taken.0 in
    let h = c.requires.taken.1 in
    let k = c.requires.taken.2 in
    let v : NodeValid x p (Waits x p) x0 below body w =
    rw (c.deref_mut-below.ensures.value, c.deref_mut-body.ensures.value) (rw c.in-Sub.is at h) in
    let f = dl.undisturbed w (v.body_is.input_valid own.0) k in
    let a = body_reached x p m.kept_gives m.kept_valid m.kept_budget m.own_links m.more_counts x0 below
    body body1 w
    c.args.world.now w2 c.args.link c.args.message f.0 v k own dl.world.stock dl.world.batch dl.world.grows
    dl.world.others dl.valid dl.may
    f.2 dl.ours
    (dl.budget w (v.body_is.input_valid own.0) k) dl.plan dl.full in
    a.valid

pub returns-in_ok-work_on-in-Sub-3-clause-undisturbed : goal.returns-in_ok-work_on-in-Sub-3-clause-undisturbed
returns-in_ok-work_on-in-Sub-3-clause-undisturbed g t c =
    let x = g.X.Executor in
    let p = g.W.Surroundings in
    let m = g.met.X.Executor in
    let x0 = c.in-Sub.x in
    let below = c.deref_mut-below.result.now in
    let body = c.deref_mut-body.result.now in
    let dl = c.in_ok-deliver-in-Sub-3.ensures in
    let w2 = c.deliver-in-Sub.new.world in
    let body1 = c.deliver-in-Sub.new.self in
    let own_node : NodeOwn x p x0 below body c.args.link =
    rw (c.deref_mut-below.ensures.value, c.deref_mut-body.ensures.value)
    (rw c.in-Sub.is at c.requires.ours) in
    let own : BodyOwn x p x0 body c.args.link = elim own_node [
      | inl q ↦ absurd (c.owns.ensures.1 c.if-owns.false q)
      | inr q ↦ elim q [ inl q ↦ absurd (c.owns-in-Sub.ensures.1 c.if-owns-2.false q) | inr q ↦ q ]
    ] in
    let q = c.in_ok-work_on-in-Sub-3.ensures.undisturbed in
    λ w h k. (
    let back : (b : Rest) → NodeRests x p x0 below body w b → TreeRests x p c.args.self.now w b =
    λ b z. rw (c.in-Sub.is, ← c.deref_mut-below.ensures.value, ← c.deref_mut-body.ensures.value) z in
    let self = exact_tree (tree_plan x p c.args.self.now) in
    let exact = node_exact x p x0 below body in
    let in_self : Within self exact =
    λ j i. rw (c.deref_mut-below.ensures.value, c.deref_mut-body.ensures.value) (rw c.in-Sub.is at i) in
    let after = node_exact x p x0 below body1 in
    let in_after : Within self after = λ j i. rw dl.plan (in_self j i) in
    let v : NodeValid x p (Waits x p) x0 below body w =
    rw (c.deref_mut-below.ensures.value, c.deref_mut-body.ensures.value) (rw c.in-Sub.is at h) in
    let f = dl.undisturbed w (v.body_is.input_valid own.0) k in
    let a = body_reached x p m.kept_gives m.kept_valid m.kept_budget m.own_links m.more_counts x0 below
    body body1 w
    c.args.world.now w2 c.args.link c.args.message f.0 v k own dl.world.stock dl.world.batch dl.world.grows
    dl.world.others dl.valid dl.may
    f.2 dl.ours
    (dl.budget w (v.body_is.input_valid own.0) k) dl.plan dl.full in (
      plus f.0 q.0,
      rises_then p _ _ _ _ _ _ _ _
          (rises_weaker p _ _ _ _ f.0
          (λ j i. exact_body (x.node x0) (tree_plan x p below) (tree_plan x p body) j (in_self j i)) f.1)
          (rises_weaker p _ _ _ _ q.0 in_after q.1),
      λ r z. (let s = two_steps {v = self} (NodeRests x p x0 below body w)
          (NodeRests x p x0 below body1 w2) _ f.0 q.0 (steps_weaker self exact _ _ f.0 in_self a.rests)
          (steps_weaker self after _ _ q.0 in_after q.2) r z in (s.0, s.1, back s.0 s.2)),
    ))

pub returns-in_ok-work_on-in-Sub-3-clause-budget : goal.returns-in_ok-work_on-in-Sub-3-clause-budget
returns-in_ok-work_on-in-Sub-3-clause-budget g t c =
    let x = g.X.Executor in
    let p = g.W.Surroundings in
    let m = g.met.X.Executor in
    let x0 = c.in-Sub.x in
    let below = c.deref_mut-below.result.now in
    let body = c.deref_mut-body.result.now in
    let dl = c.in_ok-deliver-in-Sub-3.ensures in
    let w2 = c.deliver-in-Sub.new.world in
    let body1 = c.deliver-in-Sub.new.self in
    let own_node : NodeOwn x p x0 below body c.args.link =
    rw (c.deref_mut-below.ensures.value, c.deref_mut-body.ensures.value)
    (rw c.in-Sub.is at c.requires.ours) in
    let own : BodyOwn x p x0 body c.args.link = elim own_node [
      | inl q ↦ absurd (c.owns.ensures.1 c.if-owns.false q)
      | inr q ↦ elim q [ inl q ↦ absurd (c.owns-in-Sub.ensures.1 c.if-owns-2.false q) | inr q ↦ q ]
    ] in
    let work = c.in_ok-work_on-in-Sub-3.ensures in
    let full = tree_full x p body1 in
    λ w h k. (
    let v : NodeValid x p (Waits x p) x0 below body w =
    rw (c.deref_mut-below.ensures.value, c.deref_mut-body.ensures.value) (rw c.in-Sub.is at h) in
    let f = dl.undisturbed w (v.body_is.input_valid own.0) k in
    let a = body_reached x p m.kept_gives m.kept_valid m.kept_budget m.own_links m.more_counts x0 below
    body body1 w
    c.args.world.now w2 c.args.link c.args.message f.0 v k own dl.world.stock dl.world.batch dl.world.grows
    dl.world.others dl.valid dl.may
    f.2 dl.ours
    (dl.budget w (v.body_is.input_valid own.0) k) dl.plan dl.full in
    rw (
      c.in-Sub.is,
      work.body_full,
      work.node.row_cost_is 0 full,
      work.node.row_cost_is 1 full,
      ← c.deref_mut-below.ensures.value,
      ← c.deref_mut-body.ensures.value,
    ) (at_most work.budget a.budget))

pub returns-in_ok-work_on-in-Sub-3-clause-ours : goal.returns-in_ok-work_on-in-Sub-3-clause-ours
returns-in_ok-work_on-in-Sub-3-clause-ours g t c =
    let x = g.X.Executor in
    let p = g.W.Surroundings in
    let x0 = c.in-Sub.x in
    let below = c.deref_mut-below.result.now in
    let body = c.deref_mut-body.result.now in
    let dl = c.in_ok-deliver-in-Sub-3.ensures in
    let body1 = c.deliver-in-Sub.new.self in
    λ l o. elim (c.in_ok-work_on-in-Sub-3.ensures.ours l o) [
      | inl a ↦ elim (node_own_body x p x0 below body body1 (p.links c.args.world.now) dl.ours l a) [
        | inl a ↦ inl
            (rw (c.in-Sub.is, ← c.deref_mut-below.ensures.value, ← c.deref_mut-body.ensures.value) a)
        | inr b ↦ inr b
      ]
      | inr b ↦ inr (at_most dl.world.grows b)
    ]

-- ---- what its input and its body require

pub deliver-requires-then-owns-2 : goal.deliver-requires-then-owns-2
deliver-requires-then-owns-2 g t c κs within =
    let x = g.X.Executor in
    let p = g.W.Surroundings in
    let x0 = c.in-Sub.x in
    let below = c.deref_mut-below.result.now in
    let body = c.deref_mut-body.result.now in
    let w = c.requires.taken.0 in
    let h = c.requires.taken.1 in
    let k = c.requires.taken.2 in
    let v : NodeValid x p (Waits x p) x0 below body w =
    rw (c.deref_mut-below.ensures.value, c.deref_mut-body.ensures.value) (rw c.in-Sub.is at h) in
    let own : TreeOwn x p below c.args.link = c.owns-in-Sub.ensures.0 c.if-owns-2.true in
    let plan = rw c.in-Sub.is at c.requires.plan in
    let fell = rw c.in-Sub.is at c.decreases in
    let lower : height (tree_plan x p below) < t = rw c.deref_mut-below.ensures.value (omega (arith, fell)) in (
      lower,
      (
        within.0,
        (
          within.1,
          (
            (w, v.below_is.input_valid v.begun_is, k),
            (
              own,
              rw c.deref_mut-below.ensures.value plan.2,
            ),
          ),
        ),
      ),
    )

pub deliver-requires-in-Sub : goal.deliver-requires-in-Sub
deliver-requires-in-Sub g t c κs within =
    let x = g.X.Executor in
    let p = g.W.Surroundings in
    let x0 = c.in-Sub.x in
    let below = c.deref_mut-below.result.now in
    let body = c.deref_mut-body.result.now in
    let w = c.requires.taken.0 in
    let h = c.requires.taken.1 in
    let k = c.requires.taken.2 in
    let v : NodeValid x p (Waits x p) x0 below body w =
    rw (c.deref_mut-below.ensures.value, c.deref_mut-body.ensures.value) (rw c.in-Sub.is at h) in
    let own_node : NodeOwn x p x0 below body c.args.link =
    rw (c.deref_mut-below.ensures.value, c.deref_mut-body.ensures.value)
    (rw c.in-Sub.is at c.requires.ours) in
    let own : BodyOwn x p x0 body c.args.link = elim own_node [
      | inl q ↦ absurd (c.owns.ensures.1 c.if-owns.false q)
      | inr q ↦ elim q [ inl q ↦ absurd (c.owns-in-Sub.ensures.1 c.if-owns-2.false q) | inr q ↦ q ]
    ] in
    let plan = rw c.in-Sub.is at c.requires.plan in
    let fell = rw c.in-Sub.is at c.decreases in
    let lower : height (tree_plan x p body) < t = rw c.deref_mut-body.ensures.value (omega (arith, fell)) in (
      lower,
      (
        within.0,
        (
          within.1,
          (
            (w, v.body_is.input_valid own.0, k),
            (
              own.1,
              rw c.deref_mut-body.ensures.value plan.3,
            ),
          ),
        ),
      ),
    )

-- ---- a leaf

pub returns-in-Leaf-clause-undisturbed : goal.returns-in-Leaf-clause-undisturbed
returns-in-Leaf-clause-undisturbed g t c =
    ok_map c.deliver.result (λ at. λ w h k. (
    let v = rw c.in-Leaf.is at h in
    let f = at (rw c.in-Leaf.is at c.requires.ours) w v.0 k in (
      f.0,
      rw c.in-Leaf.is f.1,
      λ r z. (let q = f.2 (exact_at (g.X.Executor.node c.in-Leaf.x)) (λ j i. i) 0 (leaf StartRow) (λ j. no_rest) r z in
          (q.0, rw c.in-Leaf.is q.1, rw c.in-Leaf.is q.2)),
    ))) c.deliver.ensures.undisturbed
