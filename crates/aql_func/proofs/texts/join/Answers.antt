use Rattle.std.proofs.Common.{◌≡◌, ◌∷◌, ◌++◌, [], Bool, true, false, cond, map, take, ap, sym, ◌∙◌}
use Rattle.std.specs.Prelude.{string_bytes}
use Rattle.aql_value.specs.View.{datum_of, datums_in}
use Rattle.aql_value.specs.Convert.{to_text}
use Rattle.aql_func.specs.Aggregates.{is_null, without_null}
use Rattle.aql_func.specs.Texts.{join_by}
use Rattle.aql_func.specs.inner.Joins.{with_part}
use Rattle.aql_func.proofs.Steps.{done}
use Rattle.aql_func.proofs.Joins.{has_some, join_push, has_some_push, texts_push, not_true, not_false}
use Rattle.aql_func.proofs.texts.join.Goals as goal
use Rattle.aql_func.proofs.texts.join.Goals.{then-not-is_null+in_ok-part+in_ok-push_part, else-not-is_null}

pub loop-value-preserved : goal.loop-value-preserved
loop-value-preserved c =
    let sep = c.args.separator.now in
    let v = c.value-item.result in
    let x = datum_of v in
    let ts = datums_in (take c.loop-value.value-index c.args.values.now) in
    let texts = map to_text (without_null ts) in
    let inv = c.loop-value.invariant in
    let e = ap (λ l. map to_text (without_null l))
    (done c.args.values.now c.loop-value.value-index v c.loop-value-test.true c.value-item.is)
    ∙ texts_push ts x in
    let at = λ (b : Bool). λ (p : is_null x ≡ b). e ∙ ap (λ b. cond b texts (texts ++ to_text x ∷ [])) p in
    elim c.if-not-is_null.branch [
      | then-not-is_null+in_ok-part+in_ok-push_part w ↦
          let n : c.is_null.result ≡ false = search (not_true, w.if-not-is_null.true) in
          let f = at false (sym c.is_null.ensures ∙ n) in
          record {
            joined = ap string_bytes w.out-is ∙ w.in_ok-push_part.ensures
                ∙ ap (λ b. with_part b sep (string_bytes c.loop-value.out) w.as_str.result.now) inv.started
                ∙ ap (λ s. with_part (has_some texts) sep s w.as_str.result.now) inv.joined
                ∙ ap (with_part (has_some texts) sep (join_by sep texts)) (w.as_str.ensures
                ∙ w.in_ok-part.ensures)
                ∙ join_push sep texts (to_text x) ∙ ap (join_by sep) (sym f);
            started = w.started-is ∙ sym (ap has_some f ∙ has_some_push texts (to_text x));
          }
      | else-not-is_null w ↦
          let n : c.is_null.result ≡ true = search (not_false, w.if-not-is_null.false) in
          let f = at true (sym c.is_null.ensures ∙ n) in
          record {
            joined = ap string_bytes w.out-is ∙ inv.joined ∙ ap (join_by sep) (sym f);
            started = w.started-is ∙ inv.started ∙ ap has_some (sym f);
          }
    ]
