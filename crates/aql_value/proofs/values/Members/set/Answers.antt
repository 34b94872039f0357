use Rattle.std.proofs.Common.{◌≡◌, ◌∙◌, sym, ap, subst}
use Rattle.aql_value.specs.Datum.{object_of}
use Rattle.aql_value.specs.View.{datum_of}
use Rattle.aql_value.specs.Fields.{fields_in, members_in}
use Rattle.aql_value.specs.WellFormed.{FieldsWellFormed}
use Rattle.aql_value.specs.laws.Kept.{well_with, on_either}
use Rattle.aql_value.proofs.values.Members.set.Goals.{in-Some+in_default-get_mut, in_default}
use Rattle.aql_value.proofs.values.Members.set.Goals as goal

pub invariant_of-self : goal.invariant_of-self
invariant_of-self c =
    let before = subst (λ es. FieldsWellFormed (object_of (fields_in (members_in es)))) c.in-Some.is
    c.self.invariant in
    let kept : FieldsWellFormed (object_of (fields_in c.in-Some-get_mut.entries.now.items)) =
    rw c.in-Some-get_mut.ensures.value before in
    on_either _ _ _ c.set_in.result c.set_in.ensures.ok c.set_in.ensures.err
    (λ e. subst (λ fs. FieldsWellFormed (object_of fs)) (sym e)
    (well_with c.args.name (datum_of c.args.value) (fields_in c.in-Some-get_mut.entries.now.items) kept
    c.recall_well_formed.ensures c.recall_utf8.ensures))
    (λ e. subst (λ es. FieldsWellFormed (object_of (fields_in es))) (sym e) kept)

pub invariant_of-self-2 : goal.invariant_of-self-2
invariant_of-self-2 c =
    let same : c.match-self.self-inside.entries ≡ c.self.inside.entries =
    elim c.match-self.branch [
      | in-Some+in_default-get_mut w ↦ ap (λ inside. inside.entries) w.self-inside-is ∙ sym w.in-Some.is
      | in_default w ↦ ap (λ inside. inside.entries) w.self-inside-is
    ] in
    let kept : FieldsWellFormed (object_of (fields_in c.in_ok-entries.entries.items)) =
    subst (λ fs. FieldsWellFormed (object_of fs))
    (sym (c.in_ok-entries.ensures ∙ ap fields_in c.entries_in.ensures)) (rw same c.self.invariant) in
    rw c.in_ok-new.ensures.ok
    (subst (λ fs. FieldsWellFormed (object_of fs)) (sym c.in_ok-set_in.ensures.ok)
    (well_with c.args.name (datum_of c.args.value) (fields_in c.in_ok-entries.entries.items) kept
    c.recall_well_formed.ensures c.recall_utf8.ensures))
