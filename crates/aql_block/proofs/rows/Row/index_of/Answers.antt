use Rattle.std.proofs.Common.{◌≡◌, ◌∙◌, ◌<◌, length, ap, sym, subst, arith}
use Rattle.std.proofs.lemmas.Bool.{eq-eqb, ne_eqb}
use Rattle.aql_block.specs.Rows.{Entries, variables_of, IsFirst}
use Rattle.aql_block.specs.Entries.{entries_in}
use Rattle.aql_block.proofs.Sought.{entry_passed, finds_entry, found_entry}
use Rattle.aql_block.proofs.rows.Row.index_of.Goals as goal

pub returns-then-entry-var : goal.returns-then-entry-var
returns-then-entry-var c =
    let es = c.deref-entry-items.result.now in
    let l : c.loop-at.at < length es = omega arith in
    let same : entries_in es ≡ c.args.self.now =
    ap entries_in c.deref-entry-items.ensures.value ∙ c.self.view_is in
    subst (λ (ds : Entries). IsFirst (variables_of ds) c.args.var c.loop-at.at) same
    (found_entry es c.loop-at.at c.args.var c.entry-item.result l c.entry-item.is
    (eq-eqb _ _ c.if-entry-var.true) c.loop-at.invariant.1)

pub loop-at-preserved : goal.loop-at-preserved
loop-at-preserved c =
    let es = c.deref-entry-items.result.now in
    let l : c.loop-at.at < length es = omega arith in (
      sym (entry_passed es c.loop-at.at c.args.var c.entry-item.result l c.entry-item.is
          (ne_eqb _ _ c.if-entry-var.false))
          ∙ c.loop-at.invariant.0,
      finds_entry es c.loop-at.at c.args.var c.entry-item.result l c.entry-item.is
          (ne_eqb _ _ c.if-entry-var.false) c.loop-at.invariant.1,
    )
