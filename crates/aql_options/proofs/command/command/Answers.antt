use Rattle.std.proofs.Common.{◌≡◌, ◌∙◌, ap₂, subst, IfOk}
use Rattle.clap.specs.Words.{app_of, with_rule}
use Rattle.aql_options.proofs.command.command.Goals as goal

pub returns : goal.returns
returns c =
    let first = c.in_ok-command.ensures ∙ ap₂ with_rule c.program-command.ensures c.valued.ensures.rule in
    let second = c.in_ok-command-2.ensures ∙ ap₂ with_rule first c.valued-2.ensures.rule in
    let third = c.in_ok-command-3.ensures ∙ ap₂ with_rule second c.valued-3.ensures.rule in
    let fourth = c.in_ok-command-4.ensures ∙ ap₂ with_rule third c.valued-4.ensures.rule in
    let fifth = c.in_ok-command-5.ensures ∙ ap₂ with_rule fourth c.flag.ensures.rule in
    let sixth = c.in_ok-command-6.ensures ∙ ap₂ with_rule fifth c.flag-2.ensures.rule in
    let seventh = c.in_ok-command-7.ensures ∙ ap₂ with_rule sixth c.flag-3.ensures.rule in
    subst (λ app. IfOk c.with-8.result (λ made. app_of made ≡ app))
    (ap₂ with_rule seventh c.valued-5.ensures.rule) c.with-8.ensures
