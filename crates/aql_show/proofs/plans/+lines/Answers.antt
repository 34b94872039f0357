use Rattle.std.proofs.Common.{◌≡◌, ap, sym, ◌∙◌, ◌++◌, ◌+◌, length, ◌∷◌, [], append_assoc}
use Rattle.std.proofs.lemmas.Result.{on_ok_weaker}
use Rattle.std.specs.Prelude.{List, codes}
use Rattle.aql_tree.specs.declared.syntax.Ident.TheVariants.{Num}
use Rattle.aql_plan.specs.declared.plan.Plan.{Plan}
use Rattle.aql_plan.specs.declared.plan.Node.{Node}
use Rattle.aql_plan.specs.View.{node_tree, plan_tree}
use Rattle.aql_show.specs.Names.{variable_text}
use Rattle.aql_show.specs.Nodes.{node_text}
use Rattle.aql_show.specs.PlanText.{Line, ended, numbered, lines}
use Rattle.aql_show.proofs.Lines.{line_written, body_written, next_number, no_body}
use Rattle.aql_show.proofs.plans.+lines.Goals as goal

pub returns-in_ok-write_node-in-Over-clause-text : goal.returns-in_ok-write_node-in-Over-clause-text
returns-in_ok-write_node-in-Over-clause-text t c =
    let n = c.in-Over in
    let names = c.args.known.now.names.now in
    let facts = c.args.known.now.facts.now in
    let out = c.args.out.now.items in
    let first = c.args.next.now in
    let level = c.args.level in
    let below = lines names facts level (plan_tree n.below.value) in
    let text = node_text names facts (node_tree n.node.value) in
    on_ok_weaker c.put-in-Over.result
    (λ h. line_written first c.write_lines.new.next level below text out c.write_lines.new.out.items
    c.begin_line-in-Over.new.out.items c.write_node.new.out.items c.put-in-Over.new.out.items
    (c.in_ok-write_lines-in-Over.ensures.next
    ∙ ap (λ (p : Plan). first + length (lines names facts level (plan_tree p))) c.deref.ensures)
    (c.in_ok-write_lines-in-Over.ensures.text
    ∙ ap (λ (p : Plan). out ++ ended (numbered first (lines names facts level (plan_tree p))))
    c.deref.ensures)
    c.in_ok-begin_line-in-Over.ensures.text
    (c.in_ok-write_node-in-Over.ensures
    ∙ ap (λ (d : Node). c.begin_line-in-Over.new.out.items ++ node_text names facts (node_tree d))
    c.deref-in-Over.ensures) h
    ∙ ap (λ (more : List Line). out ++ ended (numbered first (below ++ (level, text) ∷ more)))
    (sym (no_body names facts (level + 1) n.node.value))
    ∙ ap (λ (p : Plan). out ++ ended (numbered first (lines names facts level (plan_tree p)))) (sym n.is))
    c.put-in-Over.ensures

pub returns-in_ok-put-in-Subquery-clause-text : goal.returns-in_ok-put-in-Subquery-clause-text
returns-in_ok-put-in-Subquery-clause-text t c =
    let n = c.in-Subquery in
    let names = c.args.known.now.names.now in
    let facts = c.args.known.now.facts.now in
    let out = c.args.out.now.items in
    let first = c.args.next.now in
    let level = c.args.level in
    let below = lines names facts level (plan_tree n.below.value) in
    let body = lines names facts (level + 1) (plan_tree n.body.value) in
    let line : Line = (level, codes "Subquery " ++ variable_text names (Num n.var)) in
    let numbers : c.write_lines-in-Subquery.new.next ≡ first + length below
    = c.in_ok-write_lines-in-Subquery.ensures.next
    ∙ ap (λ (p : Plan). first + length (lines names facts level (plan_tree p))) c.deref-in-Subquery.ensures in
    let above : c.put-in-Subquery.new.out.items ≡ out ++ ended (numbered first (below ++ line ∷ []))
    = line_written first c.write_lines-in-Subquery.new.next level below line.1 out
    c.write_lines-in-Subquery.new.out.items c.begin_line-in-Subquery.new.out.items
    c.write_subquery.new.out.items
    c.put-in-Subquery.new.out.items numbers
    (c.in_ok-write_lines-in-Subquery.ensures.text
    ∙ ap (λ (p : Plan). out ++ ended (numbered first (lines names facts level (plan_tree p))))
    c.deref-in-Subquery.ensures)
    c.in_ok-begin_line-in-Subquery.ensures.text
    (c.in_ok-write_subquery-in-Subquery.ensures
    ∙ append_assoc c.begin_line-in-Subquery.new.out.items (codes "Subquery ") (variable_text names (Num
    n.var)))
    c.in_ok-put-in-Subquery.ensures in
    on_ok_weaker c.write_lines-in-Subquery-2.result
    (λ h. body_written first c.begin_line-in-Subquery.new.next line below body out
    c.put-in-Subquery.new.out.items
    c.write_lines-in-Subquery-2.new.out.items
    (c.in_ok-begin_line-in-Subquery.ensures.next ∙ next_number first c.write_lines-in-Subquery.new.next line
    below numbers)
    above
    (h ∙ ap (λ (p : Plan). c.put-in-Subquery.new.out.items ++ ended (numbered
    c.begin_line-in-Subquery.new.next
    (lines names facts (level + 1) (plan_tree p)))) c.deref-in-Subquery-2.ensures)
    ∙ ap (λ (p : Plan). out ++ ended (numbered first (lines names facts level (plan_tree p)))) (sym n.is))
    c.write_lines-in-Subquery-2.ensures.text
