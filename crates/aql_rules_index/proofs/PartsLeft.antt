-- The parts of a condition that are left, and the condition that they make.
use Rattle.std.proofs.Common.{◌≡◌, ◌∙◌, ◌<◌, ◌≤◌, ◌+◌, ℕ, List, [], ◌∷◌, ◌++◌, length, map, drop, get_or, refl, sym, ap, subst, append_assoc, arith}
use Rattle.std.specs.Borrow.{Bor}
use Rattle.std.proofs.lemmas.List.{append-nil, map-append, length-map, drop_more, drop_all}
use Rattle.aql_value.specs.declared.operators.BinOp.TheVariants.{And}
use Rattle.aql_tree.specs.declared.syntax.Expr.{Expr}
use Rattle.aql_tree.specs.Tree.{ExprTree, chain, link_then}
use Rattle.aql_tree.specs.View.{links, LinkPart}
use Rattle.aql_rewrite.specs.ExprView.{lent}
use Rattle.aql_rules_filter.specs.Conditions.{and_links, with_more}
use Rattle.aql_rules_filter.specs.Readers.{and_link}
use Rattle.aql_rules_index.specs.inner.Covering.{Sifts, sifts_none, stays, goes}

-- ---- as one condition

linked : (ps : List (Bor Expr)) → links (map (λ p. and_link (lent p)) ps) ≡ and_links (map lent ps)
linked [] = refl
linked (p ∷ ps) = ap (link_then And (lent p)) (linked ps)

pub all_linked : (e : ExprTree) (ps : List (Bor Expr)) (ls : List LinkPart) → (length ps ≡ 0 → ⊥)
    → ls ≡ map (λ p. and_link (lent p)) ps → chain e (links ls) ≡ with_more e (map lent ps)
all_linked e [] ls some h = absurd (some refl)
all_linked e (p ∷ ps) ls some h =
    ap (λ (ks : List LinkPart). chain e (links ks)) h ∙ ap (chain e) (linked (p ∷ ps))

-- ---- one part after another

module _ (G : ExprTree → Type 0) (parts : List (Bor Expr)) where
  -- what is left of the first parts, as it stands before what is left of the others
  abbrev Left : ℕ → List (Bor Expr) → Type 0
  Left i left = (rest : List ExprTree) → Sifts G (map lent (drop i parts)) rest
      → Sifts G (map lent parts) (map lent left ++ rest)

  pub all_left : (i : ℕ) (left : List (Bor Expr)) → length parts ≤ i → Left i left
      → Sifts G (map lent parts) (map lent left)
  all_left i left h f =
      subst (Sifts G (map lent parts)) (append-nil (map lent left))
      (f [] (subst (λ (ps : List (Bor Expr)). Sifts G (map lent ps) []) (sym (drop_all i parts h)) sifts_none))

  module _ (i : ℕ) (left : List (Bor Expr)) (part : Bor Expr) (within : i < length parts)
      (here : part ≡ get_or parts i part) (f : Left i left) where
    next : drop i parts ≡ part ∷ drop (i + 1) parts
    next = drop_more parts i part within ∙ ap (λ (p : Bor Expr). p ∷ drop (i + 1) parts) (sym here)

    pub one_goes : G (lent part) → Left (i + 1) left
    one_goes g rest s =
        f rest (subst (λ (ps : List (Bor Expr)). Sifts G (map lent ps) rest) (sym next) (goes g s))

    pub one_stays : (G (lent part) → ⊥) → (new : List (Bor Expr)) → new ≡ left ++ part ∷ [] → Left (i + 1) new
    one_stays g new h rest s =
        let more = f (lent part ∷ rest)
        (subst (λ (ps : List (Bor Expr)). Sifts G (map lent ps) (lent part ∷ rest)) (sym next) (stays g s)) in
        subst (Sifts G (map lent parts))
        (sym (ap (λ (ps : List (Bor Expr)). map lent ps ++ rest) h
        ∙ ap (λ es. es ++ rest) (map-append lent left (part ∷ []))
        ∙ append_assoc (map lent left) (lent part ∷ []) rest)) more

-- ---- as many parts

pub same_long : (left parts : List (Bor Expr)) (es : List ExprTree) → map lent parts ≡ es
    → length left ≡ length parts → length (map lent left) ≡ length es
same_long left parts es e h =
    length-map left lent ∙ h ∙ sym (length-map parts lent) ∙ ap (λ (ds : List ExprTree). length ds) e

-- other than as many
pub other_long : (left parts : List (Bor Expr)) (es : List ExprTree) → map lent parts ≡ es
    → (length left ≡ length parts → ⊥) → length (map lent left) ≡ length es → ⊥
other_long left parts es e h k = h (sym (length-map left lent) ∙ k
    ∙ ap (λ (ds : List ExprTree). length ds) (sym e) ∙ length-map parts lent)

pub nothing_left : (left : List (Bor Expr)) → length left ≡ 0 → map lent left ≡ []
nothing_left [] h = refl
nothing_left (p ∷ ps) h = absurd (omega (arith, h))
