-- Nodes over other expressions, as the program holds their lists.
use Rattle.std.proofs.Common.{◌≡◌, ◌∙◌, ℕ, Bool, List, [], ◌∷◌, map, refl, ap, ap₂, sym}
use Rattle.std.specs.Prelude.{Option, Some, None}
use Rattle.aql_tree.specs.declared.syntax.Ident.{Ident}
use Rattle.aql_tree.specs.Tree.{ExprTree, ExprTrees, expr_then, MaybeExpr, AggregateTrees, aggregate_then, IntoTree, into}
use Rattle.aql_tree.specs.View.{KeyPart, LetPart, AggregatePart, IntoPart, trees, maybe, aggregates, into_tree}
use Rattle.aql_meaning.specs.Documents.{Last}
use Rattle.aql_meaning.specs.declared.grouping.Stage.{Stage}
use Rattle.aql_plan.specs.Plan.{Reading, Node, Index, Sort, Collect, Distribute, Gather}
use Rattle.aql_rewrite.specs.OverChildren.{first_or, after_first, over_list, over_maybe, after_maybe}
use Rattle.aql_rewrite.specs.ExprView.{each_over, option_over, after_option}
use Rattle.aql_rewrite.specs.NodeExprs.{after_list, over_last, after_last, over_aggregates, after_aggregates, over_into, over_exprs}
use Rattle.aql_rewrite.specs.inner.NodeViews.{after_each, keys_over, lets_over, aggregates_over, after_each_aggregate, into_over}

-- ---- lists

list_form : (es qs : List ExprTree) → trees (each_over es qs) ≡ over_list (trees es) qs
list_form [] qs = refl
list_form (e ∷ es) qs = ap (expr_then (first_or e qs)) (list_form es (after_first qs))

list_left : (es qs : List ExprTree) → after_each es qs ≡ after_list (trees es) qs
list_left [] qs = refl
list_left (e ∷ es) qs = list_left es (after_first qs)

maybe_form : (o : Option ExprTree) (qs : List ExprTree) → maybe (option_over o qs) ≡ over_maybe (maybe o) qs
maybe_form None qs = refl
maybe_form (Some e) qs = refl

maybe_left : (o : Option ExprTree) (qs : List ExprTree) → after_option o qs ≡ after_maybe (maybe o) qs
maybe_left None qs = refl
maybe_left (Some e) qs = refl

key_directions : (ks : List KeyPart) (qs : List ExprTree) → map (λ k. k.1) (keys_over ks qs) ≡ map (λ k. k.1) ks
key_directions [] qs = refl
key_directions (k ∷ ks) qs = ap (λ (ds : List Bool). k.1 ∷ ds) (key_directions ks (after_first qs))

key_exprs : (ks : List KeyPart) (qs : List ExprTree)
    → trees (map (λ k. k.0) (keys_over ks qs)) ≡ over_list (trees (map (λ k. k.0) ks)) qs
key_exprs [] qs = refl
key_exprs (k ∷ ks) qs = ap (expr_then (first_or k.0 qs)) (key_exprs ks (after_first qs))

let_vars : (ls : List LetPart) (qs : List ExprTree) → map (λ l. l.0) (lets_over ls qs) ≡ map (λ l. l.0) ls
let_vars [] qs = refl
let_vars (l ∷ ls) qs = ap (λ (xs : List Ident). l.0 ∷ xs) (let_vars ls (after_first qs))

let_exprs : (ls : List LetPart) (qs : List ExprTree)
    → trees (map (λ l. l.1) (lets_over ls qs)) ≡ over_list (trees (map (λ l. l.1) ls)) qs
let_exprs [] qs = refl
let_exprs (l ∷ ls) qs = ap (expr_then (first_or l.1 qs)) (let_exprs ls (after_first qs))

aggregate_form : (gs : List AggregatePart) (qs : List ExprTree)
    → aggregates (aggregates_over gs qs) ≡ over_aggregates (aggregates gs) qs
aggregate_form [] qs = refl
aggregate_form (g ∷ gs) qs = ap₂ (λ (m : MaybeExpr) (rest : AggregateTrees). aggregate_then g.0 g.1 m rest)
    (maybe_form g.2 qs)
    (aggregate_form gs (after_option g.2 qs) ∙ ap (over_aggregates (aggregates gs)) (maybe_left g.2 qs))

aggregate_left : (gs : List AggregatePart) (qs : List ExprTree)
    → after_each_aggregate gs qs ≡ after_aggregates (aggregates gs) qs
aggregate_left [] qs = refl
aggregate_left (g ∷ gs) qs =
    aggregate_left gs (after_option g.2 qs) ∙ ap (after_aggregates (aggregates gs)) (maybe_left g.2 qs)

into_form : (o : Option IntoPart) (qs : List ExprTree) → into_tree (into_over o qs) ≡ over_into (into_tree o) qs
into_form None qs = refl
into_form (Some i) qs = ap (λ (m : MaybeExpr). into i.0 m i.2) (maybe_form i.1 qs)

-- ---- nodes: N is the old one

pub sort_form : (N : Node) (ks new : List KeyPart) (limit : Option ℕ) (qs : List ExprTree)
    → N ≡ Sort (map (λ k. k.1) ks) (trees (map (λ k. k.0) ks)) limit → new ≡ keys_over ks qs
    → Sort (map (λ k. k.1) new) (trees (map (λ k. k.0) new)) limit ≡ over_exprs N qs
sort_form N ks new limit qs e g =
    ap (λ (n : List KeyPart). Sort (map (λ k. k.1) n) (trees (map (λ k. k.0) n)) limit) g
    ∙ ap₂ (λ (ds : List Bool) (es : ExprTrees). Sort ds es limit) (key_directions ks qs) (key_exprs ks qs)
    ∙ sym (ap (λ (q : Node). over_exprs q qs) e)

pub gather_form : (N : Node) (ks new : List KeyPart) (qs : List ExprTree)
    → N ≡ Gather (map (λ k. k.1) ks) (trees (map (λ k. k.0) ks)) → new ≡ keys_over ks qs
    → Gather (map (λ k. k.1) new) (trees (map (λ k. k.0) new)) ≡ over_exprs N qs
gather_form N ks new qs e g =
    ap (λ (n : List KeyPart). Gather (map (λ k. k.1) n) (trees (map (λ k. k.0) n))) g
    ∙ ap₂ (λ (ds : List Bool) (es : ExprTrees). Gather ds es) (key_directions ks qs) (key_exprs ks qs)
    ∙ sym (ap (λ (q : Node). over_exprs q qs) e)

pub distribute_form : (N : Node) (coll : ℕ) (es new qs : List ExprTree)
    → N ≡ Distribute coll (trees es) → new ≡ each_over es qs
    → Distribute coll (trees new) ≡ over_exprs N qs
distribute_form N coll es new qs e g =
    ap (λ (ds : ExprTrees). Distribute coll ds) (ap trees g ∙ list_form es qs)
    ∙ sym (ap (λ (q : Node). over_exprs q qs) e)

abbrev reading : Ident → ℕ → MaybeExpr → Option (List (List ℕ)) → Option ℕ → Reading
reading x coll filter attrs shard =
    record { var = x; coll = coll; filter = filter; attrs = attrs; shard = shard }

pub index_form : (N : Node) (x : Ident) (coll : ℕ) (o new : Option ExprTree)
    (attrs kept : Option (List (List ℕ))) (shard : Option ℕ) (index : ℕ) (es equal : List ExprTree)
    (l last : Last ExprTree) (ordered : Option Bool) (qs : List ExprTree)
    → N ≡ Index (reading x coll (maybe o) attrs shard) index (trees es) l ordered
    → equal ≡ each_over es qs → last ≡ over_last l (after_each es qs)
    → new ≡ option_over o (after_last l (after_each es qs)) → kept ≡ attrs
    → Index (reading x coll (maybe new) kept shard) index (trees equal) last ordered ≡ over_exprs N qs
index_form N x coll o new attrs kept shard index es equal l last ordered qs e g h i j =
    let rest = after_last l (after_each es qs) in
    ap (λ (ds : ExprTrees). Index (reading x coll (maybe new) kept shard) index ds last ordered)
    (ap trees g ∙ list_form es qs)
    ∙ ap₂ (λ (m : MaybeExpr) (a : Option (List (List ℕ))).
    Index (reading x coll m a shard) index (over_list (trees es) qs) last ordered)
    (ap maybe i ∙ maybe_form o rest
    ∙ ap (λ (rs : List ExprTree). over_maybe (maybe o) (after_last l rs)) (list_left es qs)) j
    ∙ ap (λ (m : Last ExprTree).
    Index (reading x coll (over_maybe (maybe o) (after_last l (after_list (trees es) qs))) attrs shard)
    index (over_list (trees es) qs) m ordered) (h ∙ ap (over_last l) (list_left es qs))
    ∙ sym (ap (λ (q : Node). over_exprs q qs) e)

pub collect_form : (N : Node) (ls groups : List LetPart) (gs new : List AggregatePart)
    (o i : Option IntoPart) (s : Stage) (qs : List ExprTree)
    → N ≡ Collect (map (λ l. l.0) ls) (trees (map (λ l. l.1) ls)) (aggregates gs) (into_tree o) s
    → groups ≡ lets_over ls qs → new ≡ aggregates_over gs (after_each (map (λ l. l.1) ls) qs)
    → i ≡ into_over o (after_each_aggregate gs (after_each (map (λ l. l.1) ls) qs))
    → Collect (map (λ l. l.0) groups) (trees (map (λ l. l.1) groups)) (aggregates new) (into_tree i) s
    ≡ over_exprs N qs
collect_form N ls groups gs new o i s qs e g h k =
    let es = map (λ (l : LetPart). l.1) ls in
    ap (λ (m : List LetPart).
    Collect (map (λ l. l.0) m) (trees (map (λ l. l.1) m)) (aggregates new) (into_tree i) s) g
    ∙ ap₂ (λ (xs : List Ident) (ds : ExprTrees). Collect xs ds (aggregates new) (into_tree i) s)
    (let_vars ls qs) (let_exprs ls qs)
    ∙ ap₂ (λ (made : AggregateTrees) (j : IntoTree).
    Collect (map (λ l. l.0) ls) (over_list (trees (map (λ l. l.1) ls)) qs) made j s)
    (ap aggregates h ∙ aggregate_form gs (after_each es qs) ∙ ap (over_aggregates (aggregates gs)) (list_left es qs))
    (ap into_tree k ∙ into_form o (after_each_aggregate gs (after_each es qs))
    ∙ ap (over_into (into_tree o)) (aggregate_left gs (after_each es qs)
    ∙ ap (after_aggregates (aggregates gs)) (list_left es qs)))
    ∙ sym (ap (λ (q : Node). over_exprs q qs) e)
