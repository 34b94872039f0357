use Rattle.std.proofs.Common.{◌≡◌, ◌∙◌, ◌++◌, [], length, take, drop, refl, ap, sym, arith, append-nil}
use Rattle.std.proofs.lemmas.List.{length-map}
use Rattle.aql_value.specs.View.{datum_of, datums_in}
use Rattle.aql_tree.specs.declared.syntax.Ident.TheVariants.{Num}
use Rattle.aql_meaning.specs.Clauses.{with_values}
use Rattle.aql_block.specs.Tables.{rows_of}
use Rattle.aql_exec_rows.proofs.Arrays.{cut_lengths, cut_some, cut_values, length_values}
use Rattle.aql_exec_rows.proofs.subquery.give.Goals.{then-skips, else-skips}
use Rattle.aql_exec_rows.proofs.subquery.give.Goals as goal

pub returns-then-skips-2-clause-rows : goal.returns-then-skips-2-clause-rows
returns-then-skips-2-clause-rows c =
    let most = c.if-skips.most in
    let held = rows_of c.args.held.now in
    let block = rows_of c.in_ok-block.block in
    let values = c.args.values.now.items in
    let front = c.replace-front.result.items in
    let rest = c.replace-front.new.dest.items in
    let f = ap (λ v. v.items) c.replace-front.ensures.value ∙ c.in_ok-rest.ensures.items
    ∙ ap (λ n. take n values) c.len.ensures in
    let r = ap (λ v. v.items) c.replace-front.ensures.after ∙ c.in_ok-rest.ensures.tail
    ∙ ap (λ n. drop n values) c.len.ensures in
    let b = c.in_ok-block.ensures.front in
    let h = c.in_ok-block.ensures.rest in
    let lengths = cut_lengths most held block (rows_of c.take_front.new.held) values front rest b h f r
    c.requires.ready in
    let given = with_values (Num c.args.var) block (datums_in front) in (
      given,
      length_values (Num c.args.var) block (datums_in front) (length-map front datum_of ∙ lengths.1)
          ∙ sym (c.from.ensures ∙ c.len-then-skips-2.ensures),
      cut_values most held block (rows_of c.take_front.new.held) values front rest b h f r c.requires.ready
          (Num c.args.var) datum_of
          ∙ ap (λ z. z ++ with_values (Num c.args.var) (rows_of c.take_front.new.held) (datums_in rest))
          (sym (ap (λ z. given ++ z) (ap rows_of c.empty.ensures) ∙ append-nil given)),
    )

pub returns-clause-bounds : goal.returns-clause-bounds
returns-clause-bounds c =
    let most = c.if-skips.most in
    let held = rows_of c.args.held.now in
    let block = rows_of c.in_ok-block.block in
    let values = c.args.values.now.items in
    let front = c.replace-front.result.items in
    let rest = c.replace-front.new.dest.items in
    let f = ap (λ v. v.items) c.replace-front.ensures.value ∙ c.in_ok-rest.ensures.items
    ∙ ap (λ n. take n values) c.len.ensures in
    let r = ap (λ v. v.items) c.replace-front.ensures.after ∙ c.in_ok-rest.ensures.tail
    ∙ ap (λ n. drop n values) c.len.ensures in
    let b = c.in_ok-block.ensures.front in
    let h = c.in_ok-block.ensures.rest in
    let lengths = cut_lengths most held block (rows_of c.take_front.new.held) values front rest b h f r
    c.requires.ready in
    let soft : most ≡ c.args.call.soft =
    elim c.if-skips.branch [ then-skips w ↦ absurd (omega arith) | else-skips w ↦ w.most-is ] in
    let call = c.requires.call in
    let one = call.some in
    let few = cut_some most held block (rows_of c.take_front.new.held) values front rest b h f r
    c.requires.ready (omega (arith, soft, one)) c.requires.some in
    let n = ap length c.in_ok-set.ensures.ok
    ∙ length_values (Num c.args.var) block (datums_in front) (length-map front datum_of ∙ lengths.1) in
    let rows = few.1 in
    record {
      skipped = omega arith;
      rows = omega (arith, n, rows, soft);
      first = λ _. omega arith;
    }

pub returns-clause-more : goal.returns-clause-more
returns-clause-more c =
    let most = c.if-skips.most in
    let held = rows_of c.args.held.now in
    let block = rows_of c.in_ok-block.block in
    let values = c.args.values.now.items in
    let front = c.replace-front.result.items in
    let rest = c.replace-front.new.dest.items in
    let f = ap (λ v. v.items) c.replace-front.ensures.value ∙ c.in_ok-rest.ensures.items
    ∙ ap (λ n. take n values) c.len.ensures in
    let r = ap (λ v. v.items) c.replace-front.ensures.after ∙ c.in_ok-rest.ensures.tail
    ∙ ap (λ n. drop n values) c.len.ensures in
    let b = c.in_ok-block.ensures.front in
    let h = c.in_ok-block.ensures.rest in
    let lengths = cut_lengths most held block (rows_of c.take_front.new.held) values front rest b h f r
    c.requires.ready in
    let soft : most ≡ c.args.call.soft =
    elim c.if-skips.branch [ then-skips w ↦ absurd (omega arith) | else-skips w ↦ w.most-is ] in
    let call = c.requires.call in
    let one = call.some in
    let few = cut_some most held block (rows_of c.take_front.new.held) values front rest b h f r
    c.requires.ready (omega (arith, soft, one)) c.requires.some in
    let n = ap length c.in_ok-set.ensures.ok
    ∙ length_values (Num c.args.var) block (datums_in front) (length-map front datum_of ∙ lengths.1) in
    let some = few.0 in
    omega (arith, n, some)

pub returns-clause-reported : goal.returns-clause-reported
returns-clause-reported c =
    let most = c.if-skips.most in
    let held = rows_of c.args.held.now in
    let block = rows_of c.in_ok-block.block in
    let values = c.args.values.now.items in
    let front = c.replace-front.result.items in
    let rest = c.replace-front.new.dest.items in
    let f = ap (λ v. v.items) c.replace-front.ensures.value ∙ c.in_ok-rest.ensures.items
    ∙ ap (λ n. take n values) c.len.ensures in
    let r = ap (λ v. v.items) c.replace-front.ensures.after ∙ c.in_ok-rest.ensures.tail
    ∙ ap (λ n. drop n values) c.len.ensures in
    let b = c.in_ok-block.ensures.front in
    let h = c.in_ok-block.ensures.rest in
    let lengths = cut_lengths most held block (rows_of c.take_front.new.held) values front rest b h f r
    c.requires.ready in
    let n = ap length c.in_ok-set.ensures.ok
    ∙ length_values (Num c.args.var) block (datums_in front) (length-map front datum_of ∙ lengths.1) in
    let all = lengths.2 in
    omega (arith, n, all)

pub returns-clause-rows : goal.returns-clause-rows
returns-clause-rows c =
    let most = c.if-skips.most in
    let held = rows_of c.args.held.now in
    let block = rows_of c.in_ok-block.block in
    let values = c.args.values.now.items in
    let front = c.replace-front.result.items in
    let rest = c.replace-front.new.dest.items in
    let f = ap (λ v. v.items) c.replace-front.ensures.value ∙ c.in_ok-rest.ensures.items
    ∙ ap (λ n. take n values) c.len.ensures in
    let r = ap (λ v. v.items) c.replace-front.ensures.after ∙ c.in_ok-rest.ensures.tail
    ∙ ap (λ n. drop n values) c.len.ensures in
    let b = c.in_ok-block.ensures.front in
    let h = c.in_ok-block.ensures.rest in (
      [],
      refl,
      cut_values most held block (rows_of c.take_front.new.held) values front rest b h f r c.requires.ready
          (Num c.args.var) datum_of
          ∙ ap (λ z. z ++ with_values (Num c.args.var) (rows_of c.take_front.new.held) (datums_in rest))
          (sym c.in_ok-set.ensures.ok),
    )
