-- What optimize-traversals shows of itself.
use Rattle.std.proofs.Common.{◌≡◌, ◌∙◌, ◌<◌, ◌+◌, ◌≤◌, ℕ, suc, List, [], ◌∷◌, ◌++◌, Bool, true, false, true≢false, cond, refl, ap, ap₂, sym, subst, subst₂, append_assoc, arith}
use Rattle.std.specs.Prelude.{◌||◌, ◌&&◌, not, Option, Some, None, filter, option_to_list}
use Rattle.std.specs.List.{AllZip}
use Rattle.std.proofs.lemmas.Bool.{and_parts, not-true}
use Rattle.std.proofs.lemmas.Option.{same_Some}
use Rattle.std.proofs.lemmas.List.Folds.{list_any-append}
use Rattle.aql_tree.specs.declared.syntax.Ident.{Ident}
use Rattle.aql_tree.specs.Tree.{ExprTree, MaybeExpr, no_expr, one_expr, TraversalShape}
use Rattle.aql_meaning.specs.AtRows.{passes, values_of}
use Rattle.aql_meaning.specs.Row.{Row, same_ident}
use Rattle.aql_meaning.specs.Uses.{Uses, Agree, used_variable, uses, maybe_uses, is_used}
use Rattle.aql_plan.specs.declared.facts.Facts.{Facts}
use Rattle.aql_plan.specs.Fits.{Fits}
use Rattle.aql_plan.specs.Exprs.{map_node}
use Rattle.aql_plan.specs.Needs.{sets, result_uses}
use Rattle.aql_plan.specs.Plan.{Plan, Singleton, Over, Node, Traversal, Filter, top}
use Rattle.aql_plan.specs.Runs.{edges_in}
use Rattle.aql_plan.specs.Shapes.{Shape, Rows, Shaped, is_inside, plain_rows, lowest, other_reading, passing}
use Rattle.aql_plan.specs.Variables.{vars_of, vars_set, are_among, count}
use Rattle.aql_plan_laws.specs.laws.Agreement.{rows_agree}
use Rattle.aql_plan_laws.specs.laws.Among.{count_append}
use Rattle.aql_meaning.specs.laws.Idents.{same_is, same_swapped}
use Rattle.aql_rewrite.specs.declared.swap.Rename.{Rename}
use Rattle.aql_rewrite.specs.Places.{First}
use Rattle.aql_rewrite.specs.Placed.{Placed, IsWhole}
use Rattle.aql_rewrite.specs.Swaps.{Replaced, KeepsVariables, KeepsPlaced}
use Rattle.aql_rewrite.specs.laws.Among.{has, both, and_true, among_join, among_split}
use Rattle.aql_rewrite.specs.Sums.{total}
use Rattle.aql_rules_filter.specs.OptimizeTraversals.{with_vars, tests_use, is_gone, Optimizes, edge_goes, path_goes, filter_goes_in}
use Rattle.aql_rules_filter.specs.Readers.{narrowed, pushed, may_go_in, traversal_in}
use Rattle.aql_rules_filter.specs.Readers.{plan_without_edge, plan_without_path}
use Rattle.aql_rules_filter.specs.Measures.{parts_to_go}
use Rattle.aql_rewrite.specs.laws.Falling.{total_falls}
use Rattle.aql_rules_filter.specs.laws.FewerVariables.{traverses_alike, without_edge_agrees, without_path_agrees}
use Rattle.aql_rules_filter.specs.laws.Filtered.{holds, filtered, all_pass}
use Rattle.aql_rules_filter.specs.laws.Filters.{filter_shaped}
use Rattle.aql_plan.specs.Nodes.{weight}

-- ---- the same rows

neither_used : (x : Ident) (us vs : Uses) → is_used x us ≡ false → is_used x vs ≡ false
    → is_used x (us ++ vs) ≡ false
neither_used x us vs h k = list_any-append (λ u. same_ident x (used_variable u)) us vs
    ∙ ap (λ b. b || is_used x vs) h ∙ k

pub optimizes_refine : (facts : Facts) (us : Uses) (p q : Plan) (r : Option Rename) → Optimizes us p q r
    → Replaced false facts us p q r
optimizes_refine facts _ _ _ _
    (edge_goes {us = us} w {x = x} {path = path} {e = e} {colls = colls} {prune = prune} {keep = keep} h k) =
    λ db meets start out g.
    let l = traverses_alike us prune keep (with_vars w (Some x) path) None path db (edges_in db colls)
    (without_edge_agrees us prune keep w x path db (neither_used x us (tests_use prune keep) h k))
    g.0 g.2.0 (values_of e g.0) g.2.1 in (
      filter (passes keep) l.0,
      (g.0, g.1, (l.0, l.1, refl)),
      subst (λ (rows : List Row). AllZip (Agree us) rows (filter (passes keep) l.0)) (sym g.2.2) l.2,
    )
optimizes_refine facts _ _ _ _
    (path_goes {us = us} w {x = x} {edge = edge} {e = e} {colls = colls} {prune = prune} {keep = keep}
    i h k) =
    λ db meets start out g.
    let l = traverses_alike us prune keep (with_vars w edge (Some x)) edge None db (edges_in db colls)
    (without_path_agrees us prune keep w x edge db (neither_used x us (tests_use prune keep) h k))
    g.0 g.2.0 (values_of e g.0) g.2.1 in (
      filter (passes keep) l.0,
      (g.0, g.1, (l.0, l.1, refl)),
      subst (λ (rows : List Row). AllZip (Agree us) rows (filter (passes keep) l.0)) (sym g.2.2) l.2,
    )
optimizes_refine facts _ _ _ _ (filter_goes_in {us = us} {c = c} u) = λ db meets start out g. (
  out,
  (
    filter (passes no_expr) g.2.0,
    (g.0, g.1, (g.2.0, g.2.1, refl)),
    g.2.2 ∙ ap (filter (holds c)) (sym (all_pass (passes no_expr) (λ row. refl) g.2.0))
        ∙ sym (filtered c (filter (passes no_expr) g.2.0)),
  ),
  rows_agree us out,
)

-- ---- a well-formed plan stays so

other_one : (x z : Ident) (us : Uses) → is_used x us ≡ false → is_used z us ≡ true → same_ident z x ≡ false
other_one x z us h k = by (same_ident z x) refl
  where
    by : (b : Bool) → same_ident z x ≡ b → b ≡ false
    by false e = refl
    by true e = absurd (true≢false (sym k ∙ ap (λ (y : Ident). is_used y us) (same_is z x e) ∙ h))

-- a variable that is another one than x is still among these without x
has_left : (z x : Ident) (xs ys : List Ident) → same_ident z x ≡ false → has z (xs ++ x ∷ ys) ≡ true
    → has z (xs ++ ys) ≡ true
has_left z x [] ys e h = subst (λ (b : Bool). (b || has z ys) ≡ true) e h
has_left z x (y ∷ xs) ys e h = by (same_ident z y) h (has_left z x xs ys e)
  where
    by : (b : Bool) → (b || has z (xs ++ x ∷ ys)) ≡ true
        → (has z (xs ++ x ∷ ys) ≡ true → has z (xs ++ ys) ≡ true) → (b || has z (xs ++ ys)) ≡ true
    by true h f = refl
    by false h f = f h

among_left : (us : Uses) (x : Ident) (xs ys : List Ident) → is_used x us ≡ false
    → are_among us (xs ++ x ∷ ys) ≡ true → are_among us (xs ++ ys) ≡ true
among_left [] x xs ys h k = refl
among_left (u ∷ us) x xs ys h k =
    let m = both (has (used_variable u) (xs ++ x ∷ ys)) (are_among us (xs ++ x ∷ ys)) k in
    let l = parted (same_ident x (used_variable u)) (is_used x us) h in
    and_true (has (used_variable u) (xs ++ ys)) (are_among us (xs ++ ys))
    (has_left (used_variable u) x xs ys (same_swapped x (used_variable u) l.0) m.0)
    (among_left us x xs ys l.1 m.1)
  where
    parted : (a b : Bool) → (a || b) ≡ false → (a ≡ false) × (b ≡ false)
    parted true b h = absurd (true≢false h)
    parted false b h = (refl, h)

kept_left : (us : Uses) (x : Ident) (xs ys : List Ident) → is_used x us ≡ false
    → KeepsVariables None us (xs ++ x ∷ ys) (xs ++ ys)
kept_left us x xs ys h z used k = has_left z x xs ys (other_one x z us h used) k

fewer_left : (z x : Ident) (xs ys : List Ident) → count z (xs ++ ys) ≤ count z (xs ++ x ∷ ys)
fewer_left z x xs ys = by (same_ident z x) (count_append z xs ys) (count_append z xs (x ∷ ys))
  where
    by : (b : Bool) → count z (xs ++ ys) ≡ count z xs + count z ys
        → count z (xs ++ x ∷ ys) ≡ count z xs + cond b (suc (count z ys)) (count z ys)
        → count z (xs ++ ys) ≤ count z (xs ++ x ∷ ys)
    by true e f = omega (arith, e, f)
    by false e f = omega (arith, e, f)

traversal_shaped : (facts : Facts) (b : Plan) (v w : TraversalShape) (e : ExprTree) (colls : List ℕ)
    (prune keep more : MaybeExpr) (s : Shape) → is_inside s ≡ false
    → (Fits facts (Traversal v e colls prune keep) → Fits facts (Traversal w e colls prune more))
    → Shaped facts (Over b (Traversal v e colls prune keep)) s
    → Shaped facts (Over b (Traversal w e colls prune more)) s
traversal_shaped facts b v w e colls prune keep more s out f (plain_rows i g h) = plain_rows tt (f g) h
traversal_shaped facts b v w e colls prune keep more s out f (lowest i g h) = absurd i
traversal_shaped facts b v w e colls prune keep more s out f (other_reading i g h) = absurd i
traversal_shaped facts b v w e colls prune keep more s out f (passing i g h) = absurd i

pub optimizes_keep : (facts : Facts) (outer away : List Ident) (us : Uses) (p q : Plan) (r : Option Rename)
    → Placed false false facts outer away us p → Optimizes us p q r
    → KeepsPlaced false false facts outer us p q r
optimizes_keep facts outer away _ _ _ _ placed
    (edge_goes {us = us} {b = b} w {x = x} {path = path} {e = e} {colls = colls} {prune = prune}
    {keep = keep} h k) =
    let more = option_to_list path ++ vars_of outer b in record {
      suits = placed.suits;
      shape = λ s out g. traversal_shaped facts b (with_vars w (Some x) path) (with_vars w None path) e colls
          prune keep keep s out (λ f. f) g;
      found = (
        placed.found.0,
        placed.found.1,
        among_left (tests_use prune keep) x (w.vertex ∷ []) more k placed.found.2,
        tt,
      );
      vars = kept_left us x (w.vertex ∷ []) more h;
      fewer = λ z. fewer_left z x (w.vertex ∷ []) (option_to_list path ++ vars_set b);
    }
optimizes_keep facts outer away _ _ _ _ placed
    (path_goes {us = us} {b = b} w {x = x} {edge = edge} {e = e} {colls = colls} {prune = prune}
    {keep = keep} i h k) =
    let first = w.vertex ∷ option_to_list edge in record {
      suits = placed.suits;
      shape = λ s out g. traversal_shaped facts b (with_vars w edge (Some x)) (with_vars w edge None) e colls
          prune keep keep s out (λ f. f) g;
      found = (
        placed.found.0,
        placed.found.1,
        subst (λ (ys : List Ident). are_among (tests_use prune keep) ys ≡ true)
            (sym (without (vars_of outer b)))
            (among_left (tests_use prune keep) x first (vars_of outer b) k
            (subst (λ (ys : List Ident). are_among (tests_use prune keep) ys ≡ true)
            (together (vars_of outer b)) placed.found.2)),
        tt,
      );
      vars = λ z used m. subst (λ (ys : List Ident). has z ys ≡ true) (sym (without (vars_of outer b)))
          (kept_left us x first (vars_of outer b) h z used
          (subst (λ (ys : List Ident). has z ys ≡ true) (together (vars_of outer b)) m));
      fewer = λ z. subst₂ (λ (xs ys : List Ident). count z xs ≤ count z ys) (sym (without (vars_set b)))
          (sym (together (vars_set b))) (fewer_left z x first (vars_set b));
    }
  where
    together : (zs : List Ident) → (w.vertex ∷ (option_to_list edge ++ x ∷ [])) ++ zs
        ≡ (w.vertex ∷ option_to_list edge) ++ x ∷ zs
    together zs = ap (λ ys. w.vertex ∷ ys) (append_assoc (option_to_list edge) (x ∷ []) zs)

    without : (zs : List Ident) → (w.vertex ∷ (option_to_list edge ++ [])) ++ zs
        ≡ (w.vertex ∷ option_to_list edge) ++ zs
    without zs = ap (λ ys. w.vertex ∷ ys) (append_assoc (option_to_list edge) [] zs)
optimizes_keep facts outer away _ _ _ _ placed
    (filter_goes_in {us = us} {b = b} {w = w} {e = e} {colls = colls} {prune = prune} {c = c} u) = record {
      suits = (placed.suits.0.0, tt);
      shape = λ s out g.
          let k = filter_shaped facts (Over b (Traversal w e colls prune no_expr)) c s out g in
          subst (λ (t : Shape). Shaped facts (Over b (Traversal w e colls prune (one_expr c))) t) (sym k.0)
          (traversal_shaped facts b w w e colls prune no_expr (one_expr c) (Rows false) refl
          (λ f. (f.0, f.1, k.1, f.3, f.4, f.5)) k.2);
      found = (
        placed.found.0.0,
        placed.found.0.1,
        among_join (maybe_uses prune) (uses c) (sets (Traversal w e colls prune no_expr) ++ vars_of outer b)
            (among_split (maybe_uses prune) [] (sets (Traversal w e colls prune no_expr) ++ vars_of outer b)
            placed.found.0.2).0 placed.found.1,
        tt,
      );
      vars = λ z used h. h;
      fewer = λ z. omega arith;
    }

-- ---- the pass ends

same_parts : (f : ExprTree → ExprTree) (n : Node) → parts_to_go (map_node f n) ≡ parts_to_go n
same_parts f (Filter e) = refl
same_parts f n = refl

optimizes_lower : (us : Uses) (p q : Plan) (r : Option Rename) → Optimizes us p q r
    → total parts_to_go q < total parts_to_go p
optimizes_lower _ _ _ _ (edge_goes w h k) = omega arith
optimizes_lower _ _ _ _ (path_goes w i h k) = omega arith
optimizes_lower _ _ _ _ (filter_goes_in u) = omega arith

pub optimizes_nameless : (us : Uses) (p q : Plan) (r : Option Rename) → Optimizes us p q r → r ≡ None
optimizes_nameless _ _ _ _ (edge_goes w h k) = refl
optimizes_nameless _ _ _ _ (path_goes w i h k) = refl
optimizes_nameless _ _ _ _ (filter_goes_in u) = refl

pub optimizes_shrink : (us : Uses) (p q : Plan) (r : Option Rename) → Optimizes us p q r
    → weight q + total parts_to_go q < weight p + total parts_to_go p
optimizes_shrink _ _ _ _ (edge_goes w h k) = omega arith
optimizes_shrink _ _ _ _ (path_goes w i h k) = omega arith
optimizes_shrink _ _ _ _ (filter_goes_in u) = omega arith

pub optimizes_fall : (facts : Facts) (p q : Plan) (r : Option Rename) → IsWhole false facts p
    → First Optimizes false result_uses p q r → total parts_to_go q < total parts_to_go p
optimizes_fall facts = total_falls parts_to_go same_parts facts Optimizes optimizes_lower

-- ---- what the rule finds

abbrev Nowhere : Uses → Plan → Type 0
Nowhere us m = (q : Plan) (r : Option Rename) → Optimizes us m q r → ⊥

edge_found : (us : Uses) (b : Plan) (w : TraversalShape) (o : Option Ident) (e : ExprTree) (colls : List ℕ)
    (prune keep : MaybeExpr) → is_gone o us (tests_use prune keep) ≡ true
    → Optimizes us (Over b (Traversal (with_vars w o w.path) e colls prune keep))
    (Over b (Traversal (with_vars w None w.path) e colls prune keep)) None
edge_found us b w None e colls prune keep h = absurd (true≢false (sym h))
edge_found us b w (Some x) e colls prune keep h =
    let k = and_parts (not (is_used x us)) (not (is_used x (tests_use prune keep))) h in
    edge_goes w (not-true (is_used x us) k.0) (not-true (is_used x (tests_use prune keep)) k.1)

path_found : (us : Uses) (b : Plan) (w : TraversalShape) (o : Option Ident) (e : ExprTree) (colls : List ℕ)
    (prune keep : MaybeExpr) → is_gone w.edge us (tests_use prune keep) ≡ false
    → is_gone o us (tests_use prune keep) ≡ true
    → Optimizes us (Over b (Traversal (with_vars w w.edge o) e colls prune keep))
    (Over b (Traversal (with_vars w w.edge None) e colls prune keep)) None
path_found us b w None e colls prune keep i h = absurd (true≢false (sym h))
path_found us b w (Some x) e colls prune keep i h =
    let k = and_parts (not (is_used x us)) (not (is_used x (tests_use prune keep))) h in
    path_goes w i (not-true (is_used x us) k.0) (not-true (is_used x (tests_use prune keep)) k.1)

none_goes : (us : Uses) (b : Plan) (w : TraversalShape) (e : ExprTree) (colls : List ℕ)
    (prune keep : MaybeExpr) → is_gone w.edge us (tests_use prune keep) ≡ false
    → is_gone w.path us (tests_use prune keep) ≡ false
    → (q : Plan) (r : Option Rename) → Optimizes us (Over b (Traversal w e colls prune keep)) q r → ⊥
none_goes us _ _ _ _ _ _ h k _ _ (edge_goes w g l) =
    absurd (true≢false (sym (ap₂ (λ a b. not a && not b) g l) ∙ h))
none_goes us _ _ _ _ _ _ h k _ _ (path_goes w i g l) =
    absurd (true≢false (sym (ap₂ (λ a b. not a && not b) g l) ∙ k))

-- what is seen of a Traversal, part by part
abbrev Parts : Type 0
Parts = Option Ident × Option Ident × MaybeExpr × MaybeExpr

seen : (t u : Parts) → Some t ≡ Some u → (t.0 ≡ u.0) × (t.1 ≡ u.1) × (t.2 ≡ u.2) × (t.3 ≡ u.3)
seen t u h =
    let e = same_Some t u h in (
      ap (λ (v : Parts). v.0) e,
      ap (λ (v : Parts). v.1) e,
      ap (λ (v : Parts). v.2) e,
      ap (λ (v : Parts). v.3) e,
    )

same_gone : (us : Uses) (a x : Option Ident) (c d p k : MaybeExpr) → a ≡ x → c ≡ p → d ≡ k
    → is_gone a us (tests_use c d) ≡ is_gone x us (tests_use p k)
same_gone us a x c d p k h i j = ap (λ o. is_gone o us (tests_use c d)) h
    ∙ ap₂ (λ m n. is_gone x us (tests_use m n)) i j

-- by what was answered for equal lists
pub gone_by : (o : Option Ident) (us vs ws : Uses) (answer wanted : Bool) → vs ≡ ws → answer ≡ is_gone o us vs
    → answer ≡ wanted → is_gone o us ws ≡ wanted
gone_by o us vs ws answer wanted h k l = sym (ap (is_gone o us) h) ∙ sym k ∙ l

-- by what is seen of a Traversal
module _ (us : Uses) (edge path : Option Ident) (prune keep : MaybeExpr) where
  pub edge_at : (p q : Plan) → traversal_in (top p) ≡ Some (edge, path, prune, keep)
      → is_gone edge us (tests_use prune keep) ≡ true → q ≡ plan_without_edge p → Optimizes us p q None
  edge_at Singleton q f h g = cc
  edge_at (Over b n) q f h g = by n f g
    where
      by : (n : Node) → traversal_in n ≡ Some (edge, path, prune, keep) → q ≡ plan_without_edge (Over b n)
          → Optimizes us (Over b n) q None
      by (Traversal w e colls c d) f g =
          let k = seen (w.edge, w.path, c, d) (edge, path, prune, keep) f in
          subst (λ (s : Plan). Optimizes us (Over b (Traversal w e colls c d)) s None) (sym g)
          (edge_found us b w w.edge e colls c d
          (same_gone us w.edge edge c d prune keep k.0 k.2 k.3 ∙ h))
      by n f g = cc

  pub path_at : (p q : Plan) → traversal_in (top p) ≡ Some (edge, path, prune, keep)
      → is_gone edge us (tests_use prune keep) ≡ false → is_gone path us (tests_use prune keep) ≡ true
      → q ≡ plan_without_path p → Optimizes us p q None
  path_at Singleton q f i h g = cc
  path_at (Over b n) q f i h g = by n f g
    where
      by : (n : Node) → traversal_in n ≡ Some (edge, path, prune, keep) → q ≡ plan_without_path (Over b n)
          → Optimizes us (Over b n) q None
      by (Traversal w e colls c d) f g =
          let k = seen (w.edge, w.path, c, d) (edge, path, prune, keep) f in
          subst (λ (s : Plan). Optimizes us (Over b (Traversal w e colls c d)) s None) (sym g)
          (path_found us b w w.path e colls c d
          (same_gone us w.edge edge c d prune keep k.0 k.2 k.3 ∙ i)
          (same_gone us w.path path c d prune keep k.1 k.2 k.3 ∙ h))
      by n f g = cc

  pub traversal_stays : (p : Plan) → traversal_in (top p) ≡ Some (edge, path, prune, keep)
      → is_gone edge us (tests_use prune keep) ≡ false → is_gone path us (tests_use prune keep) ≡ false
      → Nowhere us p
  traversal_stays Singleton f h k = cc
  traversal_stays (Over b n) f h k = by n f
    where
      by : (n : Node) → traversal_in n ≡ Some (edge, path, prune, keep) → Nowhere us (Over b n)
      by (Traversal w e colls c d) f =
          let l = seen (w.edge, w.path, c, d) (edge, path, prune, keep) f in
          none_goes us b w e colls c d
          (same_gone us w.edge edge c d prune keep l.0 l.2 l.3 ∙ h)
          (same_gone us w.path path c d prune keep l.1 l.2 l.3 ∙ k)
      by n f = cc

-- ---- a Filter over a Traversal

filter_found : (us : Uses) (p : Plan) (c : ExprTree) → may_go_in (top p) c ≡ true
    → Optimizes us (Over p (Filter c)) (pushed (Over p (Filter c))) None
filter_found us Singleton c h = absurd (true≢false (sym h))
filter_found us (Over b n) c h = by n h
  where
    by : (n : Node) → may_go_in n c ≡ true
        → Optimizes us (Over (Over b n) (Filter c)) (Over b (narrowed n c)) None
    by (Traversal w e colls prune no_expr) h = filter_goes_in h
    by (Traversal w e colls prune (one_expr d)) h = absurd (true≢false (sym h))
    by n h = absurd (true≢false (sym h))

pub filter_at : (us : Uses) (m p q : Plan) (c : ExprTree) → m ≡ Over p (Filter c)
    → may_go_in (top p) c ≡ true → q ≡ pushed m → Optimizes us m q None
filter_at us m p q c d h e = subst₂ (λ (n s : Plan). Optimizes us n s None) (sym d) (sym (e ∙ ap pushed d))
    (filter_found us p c h)

over_others : (us : Uses) (p : Plan) (c : ExprTree) → may_go_in (top p) c ≡ false
    → Nowhere us (Over p (Filter c))
over_others us _ c h _ _ (filter_goes_in u) = absurd (true≢false (sym u ∙ h))

pub filter_stays : (us : Uses) (m p : Plan) (c : ExprTree) → m ≡ Over p (Filter c)
    → may_go_in (top p) c ≡ false → Nowhere us m
filter_stays us m p c d h = subst (λ (n : Plan). Nowhere us n) (sym d) (over_others us p c h)
