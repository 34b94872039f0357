-- What stands in an element of a list of the syntax: its trees, and what goes with them; the trees of some forms.
use Rattle.std.proofs.Common.{rules, map, option_map, ◌≡◌, ◌∙◌, ap}
use Rattle.aql_tree.specs.Tree.{access, ternary, range_of}
use Rattle.aql_tree.specs.declared.syntax.Expr.{Expr, the_lemmas as expr_lemmas}
use Rattle.aql_tree.specs.declared.syntax.Expr as code
use Rattle.aql_tree.specs.declared.syntax.Link.{Link, the_lemmas as link_lemmas}
use Rattle.aql_tree.specs.declared.syntax.Key.{Key, the_lemmas as key_lemmas}
use Rattle.aql_tree.specs.declared.syntax.Let.{Let, the_lemmas as let_lemmas}
use Rattle.aql_tree.specs.declared.syntax.AggregateItem.{AggregateItem, the_lemmas as aggregate_lemmas}
use Rattle.aql_tree.specs.View.{tree, maybe, steps, step_part, link_part, key_part, let_part, aggregate_part}

pub link_is : (x : Link) → link_part x ≡ (x.op, tree x.right)
link_is x = search (rules, link_lemmas)

pub key_is : (x : Key) → key_part x ≡ (tree x.expr, x.descending)
key_is x = search (rules, key_lemmas)

pub let_is : (x : Let) → let_part x ≡ (x.var, tree x.expr)
let_is x = search (rules, let_lemmas)

pub aggregate_is : (x : AggregateItem) → aggregate_part x ≡ (x.var, x.name, option_map tree x.arg)
aggregate_is x = search (rules, aggregate_lemmas)

pub access_form : (e : Expr) (a ss : _) → e ≡ code.Access a ss
    → tree e ≡ access (tree a.value) (steps (map step_part ss))
access_form e a ss h =
    ap tree h ∙ (let k : tree (code.Access a ss) ≡ access (tree a.value) (steps (map step_part ss))
    = search (rules, expr_lemmas) in k)

pub ternary_form : (e : Expr) (t m o : _) → e ≡ code.Cond t m o
    → tree e ≡ ternary (tree t.value) (maybe (option_map (λ b. tree b.value) m)) (tree o.value)
ternary_form e t m o h =
    ap tree h ∙ (let k : tree (code.Cond t m o)
    ≡ ternary (tree t.value) (maybe (option_map (λ b. tree b.value) m)) (tree o.value)
    = search (rules, expr_lemmas) in k)

pub range_form : (e : Expr) (a b : _) → e ≡ code.Range a b → tree e ≡ range_of (tree a.value) (tree b.value)
range_form e a b h =
    ap tree h ∙ (let k : tree (code.Range a b) ≡ range_of (tree a.value) (tree b.value)
    = search (rules, expr_lemmas) in k)
