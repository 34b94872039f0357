use Rattle.std.proofs.Common.{rules, ◌++◌, ap, sym, ◌∙◌, map, append_assoc}
use Rattle.aql_value.specs.Datum.{text}
use Rattle.aql_func.specs.Texts.{parts_of}
use Rattle.aql_func.proofs.Search.{cut_once, no_cut}
use Rattle.aql_func.proofs.texts.parts_between.Goals as goal

pub loop-before-preserved : goal.loop-before-preserved
loop-before-preserved c =
    let e = cut_once c.args.separator.now c.loop-before.rest.now c.in-Some.before.now c.in-Some.after.now
    c.requires c.in-Some.ensures.cases in (
      search rules,
      ap (λ l. l ++ map (λ t. text t)
          (parts_of c.args.separator.now c.in-Some.after.now)) c.in_ok-push_text.ensures
          ∙ append_assoc c.loop-before.out _ _ ∙ ap (λ l. c.loop-before.out ++ map (λ t. text t) l) (sym e)
          ∙ c.loop-before.invariant.1,
    )

pub returns : goal.returns
returns c =
    c.in_ok-push_text-2.ensures
    ∙ ap (λ l. c.loop-before.out ++ map (λ t. text t) l) (sym
    (no_cut c.args.separator.now c.loop-before.rest.now c.requires c.in_default.ensures.cases))
    ∙ c.loop-before.invariant.1
