use Rattle.std.proofs.Common.{◌≡◌, ◌∷◌, ◌++◌, ap, sym, ◌∙◌, append_assoc, arith}
use Rattle.std.specs.Prelude.{pos, negsuc, ◌+ℤ◌, ◌-ℤ◌, ◌<ℤ◌}
use Rattle.std.specs.Int.{w64}
use mir.Val.{to_z, of_z}
use Rattle.std.proofs.lemmas.Int.{ints}
use Rattle.aql_value.specs.Datum.{number}
use Rattle.aql_func.specs.Operators.{numbers, range_length}
use Rattle.aql_func.proofs.Counted.{next_down, last_number}
use Rattle.aql_func.proofs.ranges.downwards.Goals as goal

pub loop-next-preserved : goal.loop-next-preserved
loop-next-preserved c =
    let next = to_z w64 c.loop-next.next-bits in
    let high = to_z w64 (of_z w64 c.args.high) in
    let t = c.loop-next-test.true in
    let l : high <ℤ next = grind (arith, ints) in
    let more = to_z w64 (of_z w64 (next -ℤ pos 1)) in
    let r : more ≡ next +ℤ negsuc 0 = omega (arith, ints) in
    record {
      within = omega (arith, ints);
      numbers = ap (λ o. o ++ numbers (negsuc 0) more (range_length more high)) c.in_ok-push.ensures.ok
          ∙ append_assoc c.loop-next.out _ _
          ∙ ap (λ l. c.loop-next.out ++ l) (ap (λ z. number next
          ∷ numbers (negsuc 0) z (range_length z high)) r ∙ sym (next_down next high l))
          ∙ c.loop-next.invariant.numbers;
    }

pub loop-next-smaller : goal.loop-next-smaller
loop-next-smaller c = omega (arith, ints)

pub returns : goal.returns
returns c =
    let next = to_z w64 c.loop-next.next-bits in
    let high = to_z w64 (of_z w64 c.args.high) in
    let e : next ≡ high = omega (arith, ints) in
    let l : to_z w64 (of_z w64 c.args.low) ≡ c.args.low = omega (arith, ints) in
    let h : high ≡ c.args.high = omega (arith, ints) in
    c.in_ok-push-2.ensures.ok ∙ ap (λ l. c.loop-next.out ++ l) (sym (last_number (negsuc 0) next high e))
    ∙ c.loop-next.invariant.numbers
    ∙ ap (λ z. numbers (negsuc 0) z (range_length z high)) l
    ∙ ap (λ z. numbers (negsuc 0) c.args.low (range_length c.args.low z)) h
