use Rattle.std.proofs.Common.{Ok, Err, sym, ap, ◌∙◌, subst}
use Rattle.aql_value.specs.inner.NameSearch.{IsSearchResult}
use Rattle.aql_value.specs.Fields.{fields_in, members_in}
use Rattle.aql_value.specs.Attributes.{attribute}
use Rattle.aql_value.specs.laws.Kept.{attribute_at, attribute_absent, place_within}
use Rattle.aql_value.proofs.values.Members.value.Goals as goal

pub returns-in-Ok : goal.returns-in-Ok
returns-in-Ok c =
    let p = subst
    (λ es. IsSearchResult (Ok c.in-Ok.at) c.args.name.now
    (fields_in es)) c.entries_in-entries.ensures c.in-Ok.ensures in
    let h = attribute_at c.args.name.now (members_in c.self.inside.entries) c.in-Ok.at c.index-entries-at.result
    (place_within (members_in c.self.inside.entries) c.in-Ok.at p.0) p.1 p.2 in
    rw c.entries_in-entries.ensures (sym h ∙ ap (attribute c.args.name.now) c.self.view_is)

pub returns-in-Err : goal.returns-in-Err
returns-in-Err c =
    let p = subst
    (λ es. IsSearchResult (Err c.in-Err.field-0) c.args.name.now
    (fields_in es)) c.entries_in-entries.ensures c.in-Err.ensures in
    let h = attribute_absent c.args.name.now
    (fields_in (members_in c.self.inside.entries)) c.in-Err.field-0 c.self.invariant p.1 p.2 in
    sym h ∙ ap (attribute c.args.name.now) c.self.view_is
