use Rattle.std.proofs.Common.{◌≡◌, ◌<◌, ℕ, List, [], ap, sym, ◌∙◌, ◌++◌, length, get_or, arith, subst}
use Rattle.std.proofs.lemmas.Result.{on_ok_weaker}
use Rattle.std.specs.Prelude.{codes}
use Rattle.aql_tree.specs.declared.syntax.Ident.TheVariants.{Num}
use Rattle.aql_meaning.specs.View.{last_tree}
use Rattle.aql_plan.specs.View.{expr_trees}
use Rattle.aql_show.specs.Lists.{listed}
use Rattle.aql_show.specs.Names.{variable_text}
use Rattle.aql_show.specs.Nodes.{bound_texts}
use Rattle.aql_show.proofs.LastBound.{last_bound}
use Rattle.aql_show.proofs.bounds.write_bounds.Goals as goal

pub returns-in-Some-get : goal.returns-in-Some-get
returns-in-Some-get c =
    let names = c.args.known.now.names.now in
    let document = variable_text names (Num c.args.var) in
    let attributes = c.attributes_of-attributes.result.now in
    let equal = c.args.equal.now in
    let last = last_tree c.args.last.now in
    let out = c.loop-i.out.items in
    let here : c.loop-i.i ≡ length equal = omega arith in
    let name = c.in-Some-get.name.now in
    let found = c.in-Some-get.ensures.lookup in
    on_ok_weaker c.write_last.result
    (λ h. h ∙ ap (λ ts. out ++ listed c.loop-i.lead.now (codes " && ") ts)
    (sym (last_bound names document attributes equal last c.loop-i.i name (omega arith)
    (subst (λ k. k < length attributes) (sym here) found.3.0)
    (subst (λ k. name ≡ get_or attributes k name) (sym here) found.1)))
    ∙ c.loop-i.invariant
    ∙ ap (λ (as' : List (List ℕ)). c.args.out.now.items ++ listed [] (codes " && ")
    (bound_texts names document as' (expr_trees equal) last)) c.attributes_of-attributes.ensures)
    c.write_last.ensures
