-- What was added is the parts of each form.
use Rattle.std.proofs.Common.{rules}
use Rattle.std.proofs.lemmas.Grind.{common_steps}
use Rattle.aql_rewrite.proofs.Forms.{list_has, access_has, call_has, unary_has, chain_has}
use Rattle.aql_rewrite.proofs.Forms.{quant_has, cond_has, range_has}
use Rattle.aql_rewrite.proofs.looking.add_children.Goals as goal

pub returns-in-List : goal.returns-in-List
returns-in-List c = rw (list_has _ _ c.in-List.is) (search rules)

pub returns-in-Call : goal.returns-in-Call
returns-in-Call c = rw (call_has _ _ _ c.in-Call.is) (search rules)

pub returns-in_ok-push-in-Unary : goal.returns-in_ok-push-in-Unary
returns-in_ok-push-in-Unary c = rw (unary_has _ _ _ c.in-Unary.is) (search (rules, common_steps))

pub returns-in_ok-push-in-Access : goal.returns-in_ok-push-in-Access
returns-in_ok-push-in-Access c = rw (access_has _ _ _ c.in-Access.is) (search (rules, common_steps))

pub returns-in_ok-push-in-Chain : goal.returns-in_ok-push-in-Chain
returns-in_ok-push-in-Chain c = rw (chain_has _ _ _ c.in-Chain.is) (search (rules, common_steps))

pub returns-in_ok-push-in-Quant-2 : goal.returns-in_ok-push-in-Quant-2
returns-in_ok-push-in-Quant-2 c = rw (quant_has _ _ _ _ _ c.in-Quant.is) (search (rules, common_steps))

pub returns-in_ok-push-in-Cond-2 : goal.returns-in_ok-push-in-Cond-2
returns-in_ok-push-in-Cond-2 c = rw (cond_has _ _ _ _ c.in-Cond.is) (search (rules, common_steps))

pub returns-in_ok-push-in-Range-2 : goal.returns-in_ok-push-in-Range-2
returns-in_ok-push-in-Range-2 c = rw (range_has _ _ _ c.in-Range.is) (search (rules, common_steps))
