use Rattle.std.proofs.Common.{◌≡◌, ◌∙◌, ◌++◌, ◌∷◌, [], true, ap, subst}
use Rattle.std.proofs.lemmas.Bool.{and_parts}
use Rattle.std.proofs.lemmas.List.{map-append}
use Rattle.std.specs.List.{list_all}
use Rattle.aql_tree.specs.declared.syntax.Ident.TheVariants.{Num}
use Rattle.aql_meaning.specs.Visible.{aggregate_vars}
use Rattle.aql_exec_rows.specs.Settings.{is_number}
use Rattle.aql_exec_rows.specs.Framed.{numbered}
use Rattle.aql_exec_rows.proofs.Parts.{aggregates_here, one_more_of}
use Rattle.aql_exec_rows.proofs.frame.aggregate_numbers.Goals as goal

pub loop-item-preserved : goal.loop-item-preserved
loop-item-preserved c =
    let numbers = c.loop-item.numbers.items in
    let here = ap aggregate_vars (aggregates_here c.args.all.now c.loop-item.item-index c.item-item.result
    c.item-item.is c.loop-item-test.true) in
    let pushed = ap numbered c.in_ok-push.ensures.items ∙ map-append (λ n. Num n) numbers (c.number_of.result ∷ [])
    ∙ ap (λ v. numbered numbers ++ v ∷ []) c.number_of.ensures in
    record {
      numbers_left = (and_parts _ _
          (subst (λ vs. list_all is_number vs ≡ true) here c.loop-item.invariant.numbers_left)).1;
      numbers_so_far = one_more_of (numbered numbers) _ _ _ _ _ here pushed c.loop-item.invariant.numbers_so_far;
    }
