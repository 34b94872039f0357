use Rattle.std.proofs.Common.{◌≡◌, ◌++◌, ◌∷◌, [], ◌∙◌, ap, List, length, subst}
use Rattle.std.specs.List.{All}
use Rattle.aql_value.specs.Datum.{Datum}
use Rattle.aql_value.specs.View.{datum_of, datums_in}
use Rattle.aql_meaning.specs.Documents.{no_last}
use Rattle.aql_index.specs.declared.entries.Entry.{Entry}
use Rattle.aql_index.specs.Entries.{IndexView, entries_within}
use Rattle.aql_index.specs.Spans.{spanned, AreApart}
use Rattle.aql_index.proofs.Spread.{spans_in}
use Rattle.aql_index.proofs.sorted_index.spans_of.Goals as goal

pub returns-clause-apart : goal.returns-clause-apart
returns-clause-apart c =
    subst (λ (es : List Entry). AreApart 0 c.in_ok-spans.spans (length es))
    (c.as_slice.ensures.value ∙ ap (λ (s : IndexView). s.entries) c.index.view_is)
    c.in_ok-spans.ensures.apart

pub returns-clause-exactly : goal.returns-clause-exactly
returns-clause-exactly c =
    spans_in _ _ _ _ (datums_in c.elements_of-elements.result.now) (datum_of c.args.list.now)
    c.in_ok-spans.spans (c.as_slice.ensures.value ∙ ap (λ (s : IndexView). s.entries) c.index.view_is)
    c.as_slice-2.ensures c.elements_of-elements.ensures c.in_ok-spans.ensures.exactly

pub returns-clause-each : goal.returns-clause-each
returns-clause-each c =
    subst (λ (es : List Entry). All (λ span. (v : Datum) × (spanned es span
    ≡ entries_within (c.args.equal.now ++ v ∷ []) no_last es)) c.in_ok-spans.spans)
    (c.as_slice.ensures.value ∙ ap (λ (s : IndexView). s.entries) c.index.view_is)
    (subst (λ (vs : List Datum). All (λ span. (v : Datum) × (spanned c.as_slice.result.now span
    ≡ entries_within (vs ++ v ∷ []) no_last c.as_slice.result.now)) c.in_ok-spans.spans)
    c.as_slice-2.ensures c.in_ok-spans.ensures.each)
