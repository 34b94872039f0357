-- The expressions that the program finds for the shard keys, item by item and key by key.
use Rattle.std.proofs.Common.{◌≡◌, ◌∙◌, ◌<◌, ◌≤◌, ◌+◌, ℕ, List, [], ◌∷◌, ◌++◌, length, map, drop, get_or, refl, sym, ap, subst}
use Rattle.std.specs.Prelude.{◌↔◌}
use Rattle.std.proofs.lemmas.List.{map-append, at_drop_more, at_drop_all}
use Rattle.aql_tree.specs.declared.syntax.Expr.{Expr}
use Rattle.aql_tree.specs.Tree.{ExprTree, ExprTrees, no_exprs, expr_then}
use Rattle.aql_tree.specs.View.{tree, trees}
use Rattle.aql_rules_index.specs.Choice.{Item}
use Rattle.aql_rules_index.specs.declared.items.Item as code
use Rattle.aql_rules_index.specs.inner.Views.{item_tree}
use Rattle.aql_rules_cluster.specs.KeyItems.{GivesKey, FirstFor, here, later, FirstForEach}

module _ (W : ExprTree → Type 0) where
  -- ---- one key, item by item

  -- the first for a key is the same in both lists
  abbrev pub SameFirst : List ℕ → List Item → List Item → Type 0
  SameFirst key is js = (e : ExprTree) → FirstFor W key is e ↔ FirstFor W key js e

  none_among : (key : List ℕ) (e : ExprTree) → FirstFor W key [] e → ⊥
  none_among key e h = elim h [ ]

  later_of : (key : List ℕ) (i : Item) (is : List Item) (e : ExprTree) → (GivesKey W key i → ⊥)
      → FirstFor W key (i ∷ is) e → FirstFor W key is e
  later_of key i is _ n (here g) = absurd (n g)
  later_of key i is e n (later m h) = h

  module _ (key : List ℕ) (items : List code.Item) (n : ℕ)
      (same : SameFirst key (map item_tree (drop n items)) (map item_tree items)) where
    -- all were looked at
    pub none_found : length items ≤ n → (e : ExprTree) → FirstFor W key (map item_tree items) e → ⊥
    none_found end e h = none_among key e
        (subst (λ (is : List Item). FirstFor W key is e) (at_drop_all (map item_tree) items n end)
        ((same e).1 h))

    module _ (item : code.Item) (within : n < length items) (is : item ≡ get_or items n item) where
      abbrev rest : List Item
      rest = map item_tree (drop (n + 1) items)

      next : map item_tree (drop n items) ≡ item_tree item ∷ rest
      next = at_drop_more (map item_tree) items n item within
          ∙ ap (λ (i : code.Item). item_tree i ∷ rest) (sym is)

      pub found_here : GivesKey W key (item_tree item)
          → FirstFor W key (map item_tree items) (item_tree item).other
      found_here g = (same (item_tree item).other).0
          (subst (λ (is : List Item). FirstFor W key is (item_tree item).other) (sym next) (here g))

      pub found_later : (GivesKey W key (item_tree item) → ⊥) → SameFirst key rest (map item_tree items)
      found_later none e = (
        (λ h. (same e).0 (subst (λ (is : List Item). FirstFor W key is e) (sym next) (later none h))),
        (λ h. later_of key (item_tree item) rest e none
            (subst (λ (is : List Item). FirstFor W key is e) next ((same e).1 h))),
      )

  -- ---- all keys, one after another

  abbrev front : List ExprTree → ExprTrees → ExprTrees
  front [] rest = rest
  front (e ∷ es) rest = expr_then e (front es rest)

  front_more : (es : List ExprTree) (e : ExprTree) (more : ExprTrees)
      → front (es ++ e ∷ []) more ≡ front es (expr_then e more)
  front_more [] e more = refl
  front_more (f ∷ es) e more = ap (expr_then f) (front_more es e more)

  front_end : (es : List ExprTree) → front es no_exprs ≡ trees es
  front_end [] = refl
  front_end (e ∷ es) = ap (expr_then e) (front_end es)

  module _ (is : List Item) where
    -- these are the first for the keys before `left`
    pub record SoFar (keys : List (List ℕ)) (found : List ExprTree) (left : List (List ℕ)) : Type 0 where
      pub given : (rest : ExprTrees) → FirstForEach W is left rest → FirstForEach W is keys (front found rest)
      pub asked : (es : ExprTrees) → FirstForEach W is keys es
          → (rest : ExprTrees) × FirstForEach W is left rest

    pub none_so_far : (keys : List (List ℕ)) → SoFar keys [] keys
    none_so_far keys = record { given = λ rest h. h; asked = λ es h. (es, h) }

    first_of : (key : List ℕ) (keys : List (List ℕ)) (es : ExprTrees) → FirstForEach W is (key ∷ keys) es
        → (e : ExprTree) × (rest : ExprTrees) × FirstFor W key is e × FirstForEach W is keys rest
    first_of key keys no_exprs h = absurd h
    first_of key keys (expr_then e es) h = (e, es, h.0, h.1)

    module _ (keys : List (List ℕ)) (exprs : List Expr) (n : ℕ)
        (so_far : SoFar keys (map tree exprs) (drop n keys)) where
      -- each key has one
      pub all_found : length keys ≤ n → FirstForEach W is keys (trees (map tree exprs))
      all_found end = subst (FirstForEach W is keys) (front_end (map tree exprs))
          (so_far.given no_exprs (subst (λ (ks : List (List ℕ)). FirstForEach W is ks no_exprs)
          (sym (at_drop_all (λ (ks : List (List ℕ)). ks) keys n end)) tt))

      module _ (key : List ℕ) (within : n < length keys) (at : key ≡ get_or keys n key) where
        abbrev left : List (List ℕ)
        left = drop (n + 1) keys

        next_key : drop n keys ≡ key ∷ left
        next_key = at_drop_more (λ (ks : List (List ℕ)). ks) keys n key within
            ∙ ap (λ (k : List ℕ). k ∷ left) (sym at)

        pub key_without : ((e : ExprTree) → FirstFor W key is e → ⊥) → (es : ExprTrees)
            → FirstForEach W is keys es → ⊥
        key_without none es h =
            let k = so_far.asked es h in
            let f = first_of key left k.0
            (subst (λ (ks : List (List ℕ)). FirstForEach W is ks k.0) next_key k.1) in
            none f.0 f.2

        pub key_found : (e : ExprTree) (x : Expr) (new : List Expr) → FirstFor W key is e → tree x ≡ e
            → new ≡ exprs ++ x ∷ [] → SoFar keys (map tree new) left
        key_found e x new f t grown =
            let more : map tree new ≡ map tree exprs ++ e ∷ []
            = ap (map tree) grown ∙ map-append tree exprs (x ∷ [])
            ∙ ap (λ (v : ExprTree). map tree exprs ++ v ∷ []) t in record {
              given = λ rest h. subst (FirstForEach W is keys)
                  (sym (ap (λ (es : List ExprTree). front es rest) more ∙ front_more (map tree exprs) e rest))
                  (so_far.given (expr_then e rest)
                  (subst (λ (ks : List (List ℕ)). FirstForEach W is ks (expr_then e rest)) (sym next_key)
                  (f, h)));
              asked = λ es h.
                  let k = so_far.asked es h in
                  let g = first_of key left k.0
                  (subst (λ (ks : List (List ℕ)). FirstForEach W is ks k.0) next_key k.1) in
                  (g.1, g.3);
            }
