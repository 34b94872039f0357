use Rattle.std.proofs.Common.{◌≡◌, ◌+◌, ℕ, List, take, cond, Bool, true, false, subst, sym, ◌∙◌}
use Rattle.aql_value.specs.Datum.{Datum, object_of}
use Rattle.aql_value.specs.View.{datum_of, datums_in}
use Rattle.aql_value.specs.Fields.{fields_in}
use Rattle.aql_value.specs.WellFormed.{FieldsWellFormed}
use Rattle.aql_value.specs.Attributes.{with_attribute}
use Rattle.aql_func.specs.inner.Choices.{is_chosen, choose}
use Rattle.aql_func.proofs.Members.{chosen_more}
use Rattle.aql_func.specs.laws.Firsts.{sift_yes, sift_no}
use Rattle.aql_func.proofs.objects.members_among.Goals as goal
use Rattle.aql_func.proofs.objects.members_among.Goals.{then-branch-present+in_ok-set_copy, else-branch-present}

pub loop-member-preserved : goal.loop-member-preserved
loop-member-preserved c =
    let ms = c.as_slice-member-items.result.now in
    let i = c.loop-member.member-index in
    let m = c.member-item.result in
    let names = datums_in c.args.sought.now.keys in
    let out = c.loop-member.out in
    let p = λ (f : List ℕ × Datum). is_chosen c.args.present names f.0 in
    let well = subst (λ fs. FieldsWellFormed (object_of fs))
    (sym c.as_slice-member-items.ensures) c.requires in
    let g = chosen_more p ms i m out well c.loop-member-test.true c.member-item.is c.loop-member.invariant in
    let k = c.in_ok-is_among.ensures in
    let q = λ (b : Bool). λ (e : is_chosen c.args.present names m.name ≡ b).
    subst (λ y. cond y (with_attribute m.name (datum_of m.value) out) out
    ≡ choose c.args.present names (fields_in (take (i + 1) ms))) e g in
    elim c.if-branch-present.branch [
      | then-branch-present+in_ok-set_copy w ↦ w.out-is ∙ w.in_ok-set_copy.ensures
          ∙ q true (sift_yes _ _ w.if-branch-present.true _ k)
      | else-branch-present w ↦ w.out-is ∙ q false (sift_no _ _ w.if-branch-present.false _ k)
    ]
