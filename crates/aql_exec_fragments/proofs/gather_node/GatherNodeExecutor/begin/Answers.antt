use Rattle.std.proofs.Common.{ℕ, ◌≡◌, inr, inl, suc, [], length, Some, refl, ap, ◌∙◌, subst}
use Rattle.std.specs.Prelude.{slice_get}
use Rattle.std.proofs.lemmas.Option.{slice_get_within}
use Rattle.aql_block.specs.Rows.{row_of}
use Rattle.aql_exec.specs.Rests.{Rest}
use Rattle.aql_exec.specs.Operators.{Makes, ProducesOver, one_row, ports}
use Rattle.aql_exec_fragments.specs.Feeds.{no_body}
use Rattle.aql_exec_fragments.proofs.Pulling.{count_trees}
use Rattle.aql_exec_fragments.proofs.Gathered.{fragments_of, last_port, shard_port}
use Rattle.aql_exec_fragments.proofs.gather_node.GatherNodeExecutor.begin.Goals as goal

pub returns-clause-makes : goal.returns-clause-makes
returns-clause-makes g c w p body ins r port d =
    let h = g.F.Feed in
    let feeds = c.args.self.now.fragments.items in
    let count = count_trees h feeds in
    let x = c.in_ok-begin.ensures in
    let s = c.in_ok-begin-2.ensures in
    let scatter = g.S.Executor.node c.begin-2.new.self in
    let stock = g.W.Surroundings.stock w in
    let start = row_of c.args.start.now in
    let many : ports scatter ≡ suc (length feeds) =
    ap ports s.node.node_is ∙ c.requires.node.1.2 ∙ ap suc count in
    let parts : (k : ℕ) (f : g.row.F.Denot) → slice_get feeds k ≡ Some f
    → (q : Rest) × Makes scatter stock [] start k one_row ins q
    × ProducesOver (h.plan f) stock q.rows start (d.lists k) =
    λ k f e. (let a = d.each k f e in (
      a.0,
      s.makes w k no_body ins a.0 (inr (shard_port k _ _ (slice_get_within feeds k f e) many)) a.1,
      subst (λ z. ProducesOver (h.plan f) stock a.0.rows (row_of z) (d.lists k)) c.in_ok-self.ensures a.2,
    )) in (
      d.lists,
      d.own,
      d.filling,
      fragments_of h feeds stock start (λ k q. Makes scatter stock [] start k one_row ins q) d.lists parts,
      rw count (s.makes w (length feeds) no_body ins d.filling (inr (last_port _ _ many)) d.fills),
      x.makes w 0 no_body d.lists d.own (inl refl) d.gathers,
      d.rows,
      d.counts,
    )
