use Rattle.std.proofs.Common.{◌≡◌, ◌++◌, sym, ap, ◌∙◌, arith}
use Rattle.std.proofs.lemmas.List.{append-nil}
use Rattle.aql_block.specs.Tables.{rows_of}
use Rattle.aql_exec.specs.laws.Counted.{rises_weaker}
use Rattle.aql_exec.proofs.stream.advance.Goals as goal

pub returns-then-call-gt0-clause-left : goal.returns-then-call-gt0-clause-left
returns-then-call-gt0-clause-left g c =
    let left = c.in_ok-skipped.ensures.left in (
      left.0,
      rises_weaker g.W.Surroundings c.args.tally.now c.skip.new.tally c.args.world.now c.skip.new.world left.0
          (λ k h. (let z = c.if-call-gt0.true in let o = h.0 in absurd (omega (arith, z, o)))) left.1,
      λ rows r h.
          (let x = left.2 rows r h in
          let none : x.0 ++ rows_of c.empty.result ≡ x.0 =
          ap (λ b. x.0 ++ rows_of b) c.empty.ensures ∙ append-nil x.0 in (
            x.0,
            x.1,
            x.2,
            record {
              rows = x.3.rows ∙ ap (λ z. z ++ r.rows) (sym none);
              counts = x.3.counts;
              exact = x.3.exact;
            },
            x.4,
          )),
    )
