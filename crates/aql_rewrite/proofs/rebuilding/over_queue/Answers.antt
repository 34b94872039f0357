-- What was built is the form over the parts in the queue.
use Rattle.std.proofs.Common.{rules, ◌≡◌, ◌∙◌, map, sym}
use Rattle.std.proofs.lemmas.Grind.{common_steps}
use Rattle.aql_tree.specs.View.{tree, member_part}
use Rattle.aql_rewrite.specs.ExprView.{each_over, members_over}
use Rattle.aql_rewrite.proofs.Forms.{list_built, object_built, call_built}
use Rattle.aql_rewrite.proofs.Forms.{over_a_list, over_an_object, over_an_access, over_a_call}
use Rattle.aql_rewrite.proofs.Forms.{over_a_chain}
use Rattle.aql_rewrite.proofs.rebuilding.over_queue.Goals as goal

pub returns-in_ok-over_exprs-in-List : goal.returns-in_ok-over_exprs-in-List
returns-in_ok-over_exprs-in-List c =
    let ps = map tree c.args.queue.now.items in
    let k : map tree c.in_ok-over_exprs-in-List.field-0 ≡ each_over (map tree c.in-List.items) ps
    = search (rules, common_steps) in
    list_built c.in_ok-over_exprs-in-List.field-0 _ k ∙ sym (over_a_list ps _ _ c.in-List.is)

pub returns-in_ok-over_fields-in-Object : goal.returns-in_ok-over_fields-in-Object
returns-in_ok-over_fields-in-Object c =
    let ps = map tree c.args.queue.now.items in
    let k : map member_part c.in_ok-over_fields-in-Object.field-0
    ≡ members_over (map member_part c.in-Object.fields) ps = search (rules, common_steps) in
    object_built c.in_ok-over_fields-in-Object.field-0 _ k ∙ sym (over_an_object ps _ _ c.in-Object.is)

pub returns-in_ok-steps-in-Access : goal.returns-in_ok-steps-in-Access
returns-in_ok-steps-in-Access c =
    rw (over_an_access (map tree c.args.queue.now.items) _ _ _ c.in-Access.is) (search (rules, common_steps))

pub returns-in_ok-over_exprs-in-Call : goal.returns-in_ok-over_exprs-in-Call
returns-in_ok-over_exprs-in-Call c =
    let ps = map tree c.args.queue.now.items in
    let k : map tree c.in_ok-over_exprs-in-Call.field-0 ≡ each_over (map tree c.in-Call.args) ps
    = search (rules, common_steps) in
    call_built c.in_ok-copy-in-Call.field-0 c.in-Call.name c.in_ok-over_exprs-in-Call.field-0 _
    c.in_ok-copy-in-Call.ensures k ∙ sym (over_a_call ps _ _ _ c.in-Call.is)

pub returns-in_ok-rest-in-Chain : goal.returns-in_ok-rest-in-Chain
returns-in_ok-rest-in-Chain c =
    rw (over_a_chain (map tree c.args.queue.now.items) _ _ _ c.in-Chain.is) (search (rules, common_steps))
