-- Lists are the same where they are pair by pair.
use Rattle.std.proofs.Common.{rules, ◌≡◌, true, map}
use Rattle.std.proofs.lemmas.Grind.{common_steps}
use Rattle.std.specs.Prelude.{bytes_eq}
use Rattle.std.specs.Cmp.Lexicographic.{pointwise}
use Rattle.aql_tree.specs.View.{tree, member_part, step_part, link_part}
use Rattle.aql_rewrite.specs.inner.Same.{same_expr, same_member, same_step, same_link}
use Rattle.aql_rewrite.proofs.Compared.{lists_compared, objects_compared, accesses_compared, calls_compared}
use Rattle.aql_rewrite.proofs.Compared.{chains_compared}
use Rattle.aql_rewrite.proofs.equality.+equality.Goals as goal

pub same-returns-in-List-List : goal.same-returns-in-List-List
same-returns-in-List-List t c =
    let k : c.same_exprs.result ≡ pointwise same_expr (map tree c.in-List-List.xs) (map tree c.in-List-List.ys)
    = search (rules, common_steps) in
    lists_compared _ _ c.in-List-List.xs c.in-List-List.ys _ c.in-List-List.is-0 c.in-List-List.is-1 k

pub same-returns-in-Object-Object : goal.same-returns-in-Object-Object
same-returns-in-Object-Object t c =
    let k : c.same_fields.result
    ≡ pointwise same_member (map member_part c.in-Object-Object.xs) (map member_part c.in-Object-Object.ys)
    = search (rules, common_steps) in
    objects_compared _ _ c.in-Object-Object.xs c.in-Object-Object.ys _ c.in-Object-Object.is-0
    c.in-Object-Object.is-1 k

pub same-returns-then-same : goal.same-returns-then-same
same-returns-then-same t c =
    let base : same_expr (tree c.in-Access-Access.x.value) (tree c.in-Access-Access.y.value) ≡ true
    = search (rules, common_steps) in
    let k : c.same_steps.result
    ≡ pointwise same_step (map step_part c.in-Access-Access.xs) (map step_part c.in-Access-Access.ys)
    = search (rules, common_steps) in
    accesses_compared _ _ c.in-Access-Access.x c.in-Access-Access.y c.in-Access-Access.xs c.in-Access-Access.ys _
    c.in-Access-Access.is-0 c.in-Access-Access.is-1 base k

pub same-returns-then-eq : goal.same-returns-then-eq
same-returns-then-eq t c =
    let names : bytes_eq c.in-Call-Call.n c.in-Call-Call.m ≡ true = search (rules, common_steps) in
    let k : c.same_exprs-then-eq.result
    ≡ pointwise same_expr (map tree c.in-Call-Call.xs) (map tree c.in-Call-Call.ys)
    = search (rules, common_steps) in
    calls_compared _ _ c.in-Call-Call.n c.in-Call-Call.m c.in-Call-Call.xs c.in-Call-Call.ys _
    c.in-Call-Call.is-0 c.in-Call-Call.is-1 names k

pub same-returns-then-same-2 : goal.same-returns-then-same-2
same-returns-then-same-2 t c =
    let base : same_expr (tree c.in-Chain-Chain.x.value) (tree c.in-Chain-Chain.y.value) ≡ true
    = search (rules, common_steps) in
    let k : c.same_links.result
    ≡ pointwise same_link (map link_part c.in-Chain-Chain.xs) (map link_part c.in-Chain-Chain.ys)
    = search (rules, common_steps) in
    chains_compared _ _ c.in-Chain-Chain.x c.in-Chain-Chain.y c.in-Chain-Chain.xs c.in-Chain-Chain.ys _
    c.in-Chain-Chain.is-0 c.in-Chain-Chain.is-1 base k
