use Rattle.std.proofs.Common.{◌≡◌, ◌≤◌, ◌+◌, ◌++◌, ◌∷◌, [], ℕ, List, length, take, filter, cond, Bool, true, false, ap, subst, sym, arith, ◌∙◌}
use Rattle.std.specs.Prelude.{bytes_eq}
use Rattle.std.specs.List.{list_any}
use Rattle.std.proofs.lemmas.List.{take_all, map-append, append-nil}
use Rattle.aql_value.specs.Datum.{Datum, object_of}
use Rattle.aql_value.specs.View.{datum_of}
use Rattle.aql_value.specs.Fields.{fields_in, members_in}
use Rattle.aql_value.specs.WellFormed.{FieldsWellFormed}
use Rattle.aql_value.proofs.Chosen.{entry, chosen_well, one_more}
use Rattle.aql_value.proofs.values.Members.only.Goals as goal
use Rattle.aql_value.proofs.values.Members.only.Goals.{then-is_among+in_ok-copy_member+in_ok-push, else-is_among}

pub loop-entry-preserved : goal.loop-entry-preserved
loop-entry-preserved c =
    let p = λ (f : List ℕ × Datum). list_any (bytes_eq f.0) c.args.names.now in
    let old = c.loop-entry.found.items in
    let ms = c.entries_in-entries.result.now in
    let i = c.loop-entry.entry-index in
    let m = c.entry-item.result in
    let more = ap (λ z. z ++ cond (p (entry m)) (entry m ∷ []) []) c.loop-entry.invariant
    ∙ sym (one_more p ms i m c.loop-entry-test.true c.entry-item.is) in
    let by = λ (b : Bool). λ (e : list_any (bytes_eq m.name) c.args.names.now ≡ b).
    subst (λ y. fields_in old ++ cond y (entry m ∷ []) [] ≡ filter p (fields_in (take (i + 1) ms))) e more in
    elim c.if-is_among.branch [
      | then-is_among+in_ok-copy_member+in_ok-push w ↦
          let n = w.in_ok-copy_member.field-0 in
          ap (λ v. fields_in v.items) w.found-is ∙ ap fields_in w.in_ok-push.ensures.items
          ∙ map-append entry old (n ∷ [])
          ∙ ap (λ k. fields_in old ++ (k, datum_of n.value) ∷ []) w.in_ok-copy_member.ensures.0
          ∙ ap (λ t. fields_in old ++ (m.name, t) ∷ []) w.in_ok-copy_member.ensures.1
          ∙ by true (sym c.is_among.ensures ∙ w.if-is_among.true)
      | else-is_among w ↦ ap (λ v. fields_in v.items) w.found-is ∙ sym (append-nil (fields_in old))
          ∙ by false (sym c.is_among.ensures ∙ w.if-is_among.false)
    ]

pub returns : goal.returns
returns c =
    let p = λ (f : List ℕ × Datum). list_any (bytes_eq f.0) c.args.names.now in
    let ms = c.entries_in-entries.result.now in
    let end : length ms ≤ c.loop-entry.entry-index = omega (arith, c.loop-entry-test.false) in
    ap (λ v. fields_in v.items) c.in_ok-new.ensures.ok ∙ c.loop-entry.invariant
    ∙ ap (λ z. filter p (fields_in z)) (take_all c.loop-entry.entry-index ms end ∙ c.entries_in-entries.ensures)
    ∙ ap (filter p) c.self.view_is

pub invariant_of-result : goal.invariant_of-result
invariant_of-result c =
    let p = λ (f : List ℕ × Datum). list_any (bytes_eq f.0) c.args.names.now in
    let ms = c.entries_in-entries.result.now in
    let end : length ms ≤ c.loop-entry.entry-index = omega (arith, c.loop-entry-test.false) in
    let is = ap (λ v. fields_in v.items) c.in_ok-new.ensures.ok ∙ c.loop-entry.invariant
    ∙ ap (λ z. filter p (fields_in z)) (take_all c.loop-entry.entry-index ms end ∙ c.entries_in-entries.ensures) in
    subst (λ fs. FieldsWellFormed (object_of fs)) (sym is)
    (chosen_well p (fields_in (members_in c.self.inside.entries)) c.self.invariant)
