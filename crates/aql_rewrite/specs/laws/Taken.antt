-- A node whose input or body was taken out.
use Rattle.std.proofs.Common.{◌≡◌, ◌∙◌, true, false, true≢false, ap, sym, subst}
use Rattle.aql_tree.specs.declared.syntax.Ident.{Ident}
use Rattle.aql_plan.specs.Nodes.{over, with_body}
use Rattle.aql_plan.specs.Plan.{Plan, Singleton, Over, Node, Subquery, top}
use Rattle.aql_plan.specs.Shapes.{HasNoFragment, IsNoFragment}
use Rattle.aql_rewrite.specs.Apart.{is_start, has_body}

-- b was the input of p, and m is what is left of p without it
pub record Taken (p m b : Plan) : Type 0 where
  pub left : m ≡ Over Singleton (top m)
  pub was : p ≡ Over b (top m)

pub taken : (p m b : Plan) → is_start p ≡ false → m ≡ over p Singleton → p ≡ over p b → Taken p m b
taken Singleton m b h e f = absurd (true≢false h)
taken (Over c n) m b h e f =
    let k : c ≡ b = cc in record {
      left = e ∙ ap (Over Singleton) (ap top (sym e));
      was = ap (λ (q : Plan). Over q n) k ∙ ap (Over b) (ap top (sym e));
    }

-- s was the body of n
pub record Bodied (n : Node) (s : Plan) : Type 0 where
  pub var : Ident
  pub was : n ≡ Subquery var s

pub bodied : (n : Node) (m s : Plan) → has_body n ≡ true → m ≡ Over Singleton n → m ≡ with_body m s
    → Bodied n s
bodied (Subquery v r) m s h e f =
    let k : r ≡ s = by v r s (sym e ∙ f ∙ ap (λ (o : Plan). with_body o s) e) in
    record { var = v; was = ap (Subquery v) k }
  where
    by : (v : Ident) (r s : Plan) → Over Singleton (Subquery v r) ≡ Over Singleton (Subquery v s) → r ≡ s
    by v r s e = cc
bodied n m s h e f = absurd (true≢false (sym h))

-- ---- without fragments

pub lone_input : (p m b : Plan) → Taken p m b → HasNoFragment p → HasNoFragment b × IsNoFragment (top m)
lone_input p m b h lone = subst HasNoFragment h.was lone

pub lone_inside : (n : Node) (s : Plan) → Bodied n s → IsNoFragment n → HasNoFragment s
lone_inside n s h lone = subst IsNoFragment h.was lone
