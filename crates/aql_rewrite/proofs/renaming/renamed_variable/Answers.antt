-- A name is no number.
use Rattle.std.proofs.Common.{◌≡◌, sym, subst}
use Rattle.aql_tree.specs.declared.syntax.Ident.{Ident}
use Rattle.aql_tree.specs.Tree.{variable}
use Rattle.aql_rewrite.specs.Renames.{put_each}
use Rattle.aql_rewrite.specs.laws.RenamedExprs.{name_stays}
use Rattle.aql_rewrite.proofs.renaming.renamed_variable.Goals as goal

pub returns-in-Name : goal.returns-in-Name
returns-in-Name c =
    let rs = c.args.renames.now in
    subst (λ (o : Ident). variable o ≡ put_each rs (variable o)) (sym c.in-Name.is)
    (sym (name_stays rs c.in-Name.field-0))
