use Rattle.std.proofs.Common.{◌≡◌, ◌∙◌, ◌<◌, length, set, ap, sym, subst, arith}
use Rattle.std.specs.Prelude.{unwrap_or}
use Rattle.aql_value.specs.Datum.{null}
use Rattle.aql_value.specs.View.{datum_of}
use Rattle.aql_value.specs.declared.values.Value.{Value}
use Rattle.aql_value.specs.declared.values.Value.TheVariants.{Null}
use Rattle.aql_tree.specs.declared.syntax.Ident.TheVariants.{Num}
use Rattle.aql_meaning.specs.Row.{bind, value_at}
use Rattle.aql_block.specs.Rows.{Entries, row_of, variables_of, IsFirst}
use Rattle.aql_block.specs.Entries.{entries_in}
use Rattle.aql_block.proofs.Sought.{entry_set, entry_value, entry_within}
use Rattle.aql_block.proofs.rows.Row.take.Goals as goal

pub index_mut-requires : goal.index_mut-requires
index_mut-requires c =
    let v = c.self.inside.entries in
    let first : IsFirst (variables_of (entries_in v.items)) c.args.var c.in-Some.at =
    subst (λ (ds : Entries). IsFirst (variables_of ds) c.args.var c.in-Some.at) (sym c.self.view_is)
    c.in-Some.ensures in
    let l = entry_within v.items c.args.var c.in-Some.at first in
    omega (arith, l, v.ok.0)

pub returns-clause-value : goal.returns-clause-value
returns-clause-value c =
    let v = c.self.inside.entries in
    let first : IsFirst (variables_of (entries_in v.items)) c.args.var c.in-Some.at =
    subst (λ (ds : Entries). IsFirst (variables_of ds) c.args.var c.in-Some.at) (sym c.self.view_is)
    c.in-Some.ensures in
    ap datum_of c.replace.ensures.value
    ∙ sym (ap (λ o. unwrap_or o null)
    (entry_value v.items c.args.var c.in-Some.at c.index_mut.result.now first c.index_mut.ensures.value))
    ∙ ap (λ (es : Entries). value_at (row_of es) (Num c.args.var)) c.self.view_is

pub returns-clause-rest : goal.returns-clause-rest
returns-clause-rest c =
    let v = c.self.inside.entries in
    let first : IsFirst (variables_of (entries_in v.items)) c.args.var c.in-Some.at =
    subst (λ (ds : Entries). IsFirst (variables_of ds) c.args.var c.in-Some.at) (sym c.self.view_is)
    c.in-Some.ensures in
    ap (λ (d : Value). row_of (entries_in (set v.items c.in-Some.at
    (record { var = c.index_mut.result.now.var; value = d })))) c.replace.ensures.after
    ∙ entry_set v.items c.args.var c.in-Some.at c.index_mut.result.now Null first c.index_mut.ensures.value
    ∙ ap (λ (es : Entries). bind (Num c.args.var) (row_of es) null) c.self.view_is
