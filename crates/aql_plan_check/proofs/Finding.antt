-- Whether what a plan uses is there depends only on which variables there are; steps of the walk.
use Rattle.std.proofs.Common.{◌≡◌, ◌∙◌, ap, sym, refl, subst, ℕ, List, [], ◌∷◌, ◌++◌, length, take, Bool, true, false, true≢false, cond, append_assoc}
use Rattle.std.specs.Prelude.{◌&&◌, ◌↔◌, IsTrue}
use Rattle.aql_tree.specs.declared.syntax.Ident.{Ident}
use Rattle.aql_tree.specs.Tree.{ExprTree}
use Rattle.aql_meaning.specs.Uses.{Uses, used_variable, uses}
use Rattle.aql_plan.specs.Plan.{Plan, Singleton, Over, Node, EnumerateCollection, Index, EnumerateList, Traversal, Calculation, Subquery, Collect, Return, top}
use Rattle.aql_plan.specs.Needs.{sets}
use Rattle.aql_plan.specs.Variables.{input_uses, filter_uses, vars_of, are_among, FindsAll, FindsInside}
use Rattle.aql_plan_check.specs.inner.Rows.{variables, Same, Adds, Grows, Finds, GivesRows, RowsNumbered, ResultNumbered}
use Rattle.aql_rewrite.specs.Nodes.{is_collect}
use Rattle.aql_plan_check.proofs.SameVariables.{any_of, same_itself, same_along, same_back, same_after}

pub among_same : (us : Uses) (xs ys : List Ident) → Same xs ys → are_among us xs ≡ are_among us ys
among_same [] xs ys h = refl
among_same (u ∷ us) xs ys h = ap (λ b. b && are_among us xs) (h.same (used_variable u))
    ∙ ap (λ b. any_of (used_variable u) ys && b) (among_same us xs ys h)

module _ (xs ys : List Ident) (h : Same xs ys) where
  pub vars_of_same : (p : Plan) → Same (vars_of xs p) (vars_of ys p)
  vars_of_same Singleton = h
  vars_of_same (Over b (Collect zs es gs i s)) = same_after (sets (Collect zs es gs i s)) xs ys h
  vars_of_same (Over b (Return distinct e)) = same_itself (vars_of xs (Over b (Return distinct e)))
  vars_of_same (Over b (EnumerateCollection x)) = same_after (sets (EnumerateCollection x)) _ _ (vars_of_same b)
  vars_of_same (Over b (Index x index equal last ordered)) =
      same_after (sets (Index x index equal last ordered)) _ _ (vars_of_same b)
  vars_of_same (Over b (EnumerateList x e)) = same_after (sets (EnumerateList x e)) _ _ (vars_of_same b)
  vars_of_same (Over b (Traversal w e colls prune keep)) =
      same_after (sets (Traversal w e colls prune keep)) _ _ (vars_of_same b)
  vars_of_same (Over b (Calculation x e)) = same_after (sets (Calculation x e)) _ _ (vars_of_same b)
  vars_of_same (Over b (Subquery x s)) = same_after (sets (Subquery x s)) _ _ (vars_of_same b)
  vars_of_same (Over b n) = vars_of_same b

  both_among : (zs : List Ident) (us : Uses) (p : Plan) → are_among us (zs ++ vars_of xs p) ≡ true
      → are_among us (zs ++ vars_of ys p) ≡ true
  both_among zs us p e =
      sym (among_same us (zs ++ vars_of xs p) (zs ++ vars_of ys p)
      (same_after zs (vars_of xs p) (vars_of ys p) (vars_of_same p))) ∙ e

mutual
  pub finds_same : (xs ys : List Ident) → Same xs ys → (p : Plan) → FindsAll xs p → FindsAll ys p
  finds_same xs ys h Singleton f = tt
  finds_same xs ys h (Over b n) f = (
    finds_same xs ys h b f.0,
    both_among xs ys h [] (input_uses n) b f.1,
    both_among xs ys h (sets n) (filter_uses n) b f.2,
    inside_same (vars_of xs b) (vars_of ys b) (vars_of_same xs ys h b) n f.3,
  )

  pub inside_same : (xs ys : List Ident) → Same xs ys → (n : Node) → FindsInside xs n → FindsInside ys n
  inside_same xs ys h (Subquery x b) f = finds_same xs ys h b f
  inside_same xs ys h n f = tt

-- ---- a step

two_ways : {P : Type 0} → (P → ⊥) → IsTrue false ↔ P
two_ways f = ((λ e. absurd (true≢false (sym e))), (λ p. absurd (f p)))

lost : (before : List ℕ) (p : Plan) (after : List ℕ) → (FindsAll (variables before) p → ⊥)
    → Finds before p after false
lost before p after f = record {
  exact = two_ways f;
  grown = λ e. absurd (true≢false (sym e));
  rows = λ e. absurd (true≢false (sym e));
}

pub found_start : (before : List ℕ) → Finds before Singleton before true
found_start before = record {
  exact = ((λ e. tt), (λ p. refl));
  grown = λ e. ([], sym (nothing_after before));
  rows = λ e. same_itself (variables before);
}
  where
    nothing_after : (xs : List ℕ) → xs ++ [] ≡ xs
    nothing_after [] = refl
    nothing_after (x ∷ xs) = ap (λ l. x ∷ l) (nothing_after xs)

module _ (before : List ℕ) (b : Plan) (n : Node) (middle : List ℕ) where
  pub lost_below : (after : List ℕ) → Finds before b middle false → Finds before (Over b n) after false
  lost_below after h = lost before (Over b n) after (λ f. true≢false (sym (h.exact.1 f.0)))

  module _ (h : Finds before b middle true) where
    there : Same (variables middle) (vars_of (variables before) b)
    there = h.rows refl

    pub lost_input : (after : List ℕ) → are_among (input_uses n) (variables middle) ≡ false
        → Finds before (Over b n) after false
    lost_input after e = lost before (Over b n) after (λ f. true≢false (sym f.1
        ∙ sym (among_same (input_uses n) (variables middle) (vars_of (variables before) b) there) ∙ e))

    pub lost_body : (after : List ℕ) → (FindsInside (variables middle) n → ⊥)
        → Finds before (Over b n) after false
    lost_body after k = lost before (Over b n) after (λ f. k (inside_same (vars_of (variables before) b)
        (variables middle) (same_back (variables middle) (vars_of (variables before) b) there) n f.3))

    pub result_found : (distinct : Bool) (e : ExprTree) (r : Bool) → n ≡ Return distinct e
        → r ≡ are_among (uses e) (variables middle)
        → IsTrue r ↔ FindsAll (variables before) (Over b (Return distinct e))
    result_found distinct e r is k =
        let same = among_same (uses e) (variables middle) (vars_of (variables before) b) there in (
          (λ t. (h.exact.0 refl, sym same ∙ sym k ∙ t, refl, tt)),
          (λ f. k ∙ same ∙ f.1),
        )

    module _ (input : are_among (input_uses n) (variables middle) ≡ true)
        (body : FindsInside (variables middle) n) where
      inside : FindsInside (vars_of (variables before) b) n
      inside = inside_same (variables middle) (vars_of (variables before) b) there n body

      input_there : are_among (input_uses n) (vars_of (variables before) b) ≡ true
      input_there = sym (among_same (input_uses n) (variables middle) (vars_of (variables before) b) there) ∙ input

      onto : (kept after : List ℕ) (xs : List Ident) → kept ≡ middle → Adds kept xs after
          → Same (variables after) (xs ++ vars_of (variables before) b)
      onto kept after xs e a = same_along _ _ _ a.same
          (same_after xs _ _ (subst (λ (l : List ℕ). Same (variables l) (vars_of (variables before) b)) (sym e) there))

      -- what the rows of the node have
      shown : (kept after : List ℕ) (m : Node) → GivesRows m
          → kept ≡ cond (is_collect m) before middle → Adds kept (sets m) after
          → Same (variables after) (vars_of (variables before) (Over b m))
      shown kept after (Collect xs es gs i s) g e a = same_along _ _ _ a.same
          (same_after (sets (Collect xs es gs i s)) _ _ (subst (λ (l : List ℕ). Same (variables l) (variables before)) (sym e)
          (same_itself (variables before))))
      shown kept after (Return distinct r) g e a = absurd g
      shown kept after (EnumerateCollection x) g e a = onto kept after (sets (EnumerateCollection x)) e a
      shown kept after (Index x index equal last ordered) g e a =
          onto kept after (sets (Index x index equal last ordered)) e a
      shown kept after (EnumerateList x r) g e a = onto kept after (sets (EnumerateList x r)) e a
      shown kept after (Traversal w r colls prune keep) g e a =
          onto kept after (sets (Traversal w r colls prune keep)) e a
      shown kept after (Calculation x r) g e a = onto kept after (sets (Calculation x r)) e a
      shown kept after (Subquery x s) g e a = onto kept after (sets (Subquery x s)) e a
      shown kept after m g e a = onto kept after [] e a

      -- its filter looks at these
      filtered : (after : List ℕ) (m : Node) → GivesRows m
          → Same (variables after) (vars_of (variables before) (Over b m))
          → are_among (filter_uses m) (variables after)
          ≡ are_among (filter_uses m) (sets m ++ vars_of (variables before) b)
      filtered after (Collect xs es gs i s) g h = refl
      filtered after (Return distinct r) g h = absurd g
      filtered after (EnumerateCollection x) g h = among_same (filter_uses (EnumerateCollection x)) _ _ h
      filtered after (Index x index equal last ordered) g h =
          among_same (filter_uses (Index x index equal last ordered)) _ _ h
      filtered after (Traversal w r colls prune keep) g h =
          among_same (filter_uses (Traversal w r colls prune keep)) _ _ h
      filtered after m g h = refl

      grows : (kept after : List ℕ) (c : Bool) → kept ≡ cond c before middle → Adds kept (sets n) after
          → Grows before after
      grows kept after true e a = (a.added, a.whole ∙ ap (λ (l : List ℕ). l ++ a.added) e)
      grows kept after false e a =
          let g = h.grown refl in
          (g.0 ++ a.added, a.whole ∙ ap (λ (l : List ℕ). l ++ a.added) (e ∙ g.1) ∙ append_assoc before g.0 a.added)

      pub found_over : (kept after : List ℕ) (r : Bool) → GivesRows n
          → kept ≡ cond (is_collect n) before middle → Adds kept (sets n) after
          → r ≡ are_among (filter_uses n) (variables after) → Finds before (Over b n) after r
      found_over kept after r g e a k =
          let rows = shown kept after n g e a in
          let same = filtered after n g rows in
          record {
            exact = ((λ t. (h.exact.0 refl, input_there, sym same ∙ sym k ∙ t, inside)), (λ f. k ∙ same ∙ f.2));
            grown = λ t. grows kept after (is_collect n) e a;
            rows = λ t. rows;
          }

-- the same of a plan that is this one
pub at_plan : (before after : List ℕ) (p q : Plan) (r : Bool) → p ≡ q → Finds before q after r
    → Finds before p after r
at_plan before after p q r e h = subst (λ (w : Plan). Finds before w after r) (sym e) h

pub gives_rows : (p b : Plan) (n : Node) → p ≡ Over b n → RowsNumbered p → GivesRows n
gives_rows p b n e h = let k = subst (λ (w : Plan). RowsNumbered w) e h in k.1

-- a plan with a result is a Return over rows
pub as_result : (p b : Plan) → p ≡ Over b (top p) → ResultNumbered p
    → (distinct : Bool) × (e : ExprTree) × (top p ≡ Return distinct e) × RowsNumbered b
as_result p b i h = by (top p) (subst (λ (q : Plan). ResultNumbered q) i h)
  where
    by : (n : Node) → ResultNumbered (Over b n)
        → (distinct : Bool) × (e : ExprTree) × (n ≡ Return distinct e) × RowsNumbered b
    by (Return distinct e) k = (distinct, e, refl, k)
    by n k = absurd k

-- a Collect starts again from the first variables
front : (xs ys : List ℕ) → take (length xs) (xs ++ ys) ≡ xs
front [] ys = refl
front (x ∷ xs) ys = ap (λ l. x ∷ l) (front xs ys)

pub kept_is : (before : List ℕ) (b : Plan) (middle body kept : List ℕ) (n : Node) (start : ℕ)
    → Finds before b middle true → start ≡ length before → body ≡ middle
    → kept ≡ cond (is_collect n) (take start body) body → kept ≡ cond (is_collect n) before middle
kept_is before b middle body kept n start h e f g =
    let whole = h.grown refl in
    g ∙ ap (λ (l : List ℕ). cond (is_collect n) (take start l) l) f
    ∙ ap (λ (l : List ℕ). cond (is_collect n) l middle)
    (ap (λ (i : ℕ). take i middle) e ∙ ap (take (length before)) whole.1 ∙ front before whole.0)
