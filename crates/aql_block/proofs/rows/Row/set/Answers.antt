use Rattle.std.proofs.Common.{◌≡◌, ◌∙◌, ◌<◌, ◌++◌, ◌∷◌, [], List, length, ap, sym, subst, arith}
use Rattle.std.proofs.lemmas.List.{map-append}
use Rattle.aql_value.specs.View.{datum_of}
use Rattle.aql_tree.specs.declared.syntax.Ident.TheVariants.{Num}
use Rattle.aql_meaning.specs.Row.{bind}
use Rattle.aql_block.specs.declared.rows.Entry.{Entry}
use Rattle.aql_block.specs.Rows.{Entries, row_of, variables_of, IsFirst}
use Rattle.aql_block.specs.Entries.{entries_in}
use Rattle.aql_block.proofs.Found.{pushed_entry}
use Rattle.aql_block.proofs.Sought.{entry_set, entry_within}
use Rattle.aql_block.proofs.rows.Row.set.Goals as goal

pub index_mut-requires : goal.index_mut-requires
index_mut-requires c =
    let v = c.self.inside.entries in
    let first : IsFirst (variables_of (entries_in v.items)) c.args.var c.in-Some.at =
    subst (λ (ds : Entries). IsFirst (variables_of ds) c.args.var c.in-Some.at) (sym c.self.view_is)
    c.in-Some.ensures in
    let l = entry_within v.items c.args.var c.in-Some.at first in
    omega (arith, l, v.ok.0)

pub returns-in-Some-clause-ok : goal.returns-in-Some-clause-ok
returns-in-Some-clause-ok c =
    let v = c.self.inside.entries in
    let first : IsFirst (variables_of (entries_in v.items)) c.args.var c.in-Some.at =
    subst (λ (ds : Entries). IsFirst (variables_of ds) c.args.var c.in-Some.at) (sym c.self.view_is)
    c.in-Some.ensures in
    entry_set v.items c.args.var c.in-Some.at c.index_mut.result.now c.args.value first
    c.index_mut.ensures.value
    ∙ ap (λ (es : Entries). bind (Num c.args.var) (row_of es) (datum_of c.args.value)) c.self.view_is

pub returns-in_ok-push-in-None-clause-ok : goal.returns-in_ok-push-in-None-clause-ok
returns-in_ok-push-in-None-clause-ok c =
    let v = c.self.inside.entries in
    ap (λ (ds : List Entry). row_of (entries_in ds)) c.in_ok-push-in-None.ensures.items
    ∙ ap row_of (map-append (λ (e : Entry). (e.var, datum_of e.value)) v.items
    (record { var = c.args.var; value = c.args.value } ∷ []))
    ∙ pushed_entry (entries_in v.items) c.args.var (datum_of c.args.value)
    (ap (λ (es : Entries). row_of es (Num c.args.var)) c.self.view_is ∙ c.in-None.ensures)
    ∙ ap (λ (es : Entries). bind (Num c.args.var) (row_of es) (datum_of c.args.value)) c.self.view_is
