-- Whole lists of tokens: what is read is a tree, a tree is read, and there is at most one.
use Rattle.std.proofs.Common.{◌≡◌, Bool, true, false, cond, [], length, Option}
use Rattle.std.proofs.Common.{Some, None, refl, ap, arith, eqb-true}
use Rattle.std.specs.Prelude.{◌==◌}
use Rattle.std.proofs.lemmas.List.{nil_from_length}
use Rattle.aql_tree.specs.Tree.{QueryTree}
use Rattle.aql_grammar.specs.Kinds.{Tokens}
use Rattle.aql_grammar.specs.Tree.{Tree}
use Rattle.aql_grammar.specs.Reader.{at_end, whole_query}
use Rattle.aql_grammar.specs.laws.ExprSound.{top_sound}
use Rattle.aql_grammar.specs.laws.ExprComplete.{top_complete}

-- a tree is what is read
pub tree_whole : (ts : Tokens) (q : QueryTree) → Tree ts q → whole_query ts ≡ Some q
unfolding whole_query
tree_whole ts q a = ap at_end (top_complete a.0 (length ts) q ts (omega arith) a.1)

-- a list of tokens has at most one tree
pub one_tree : (ts : Tokens) (x y : QueryTree) → Tree ts x → Tree ts y → x ≡ y
one_tree ts x y a b = let p = tree_whole ts x a in let q = tree_whole ts y b in cc

at_end_by : (p : QueryTree × Tokens) (x : QueryTree) (b : Bool) → (length p.1 == 0) ≡ b
    → cond b (Some p.0) None ≡ Some x → Some p ≡ Some (x, [])
at_end_by p x true t h = let none = nil_from_length p.1 (eqb-true (length p.1) 0 t) in let e : p.0 ≡ x = cc
    in λ i. Some (e i, none i)
at_end_by p x false t h = absurd (cc)

at_end_some : (o : Option (QueryTree × Tokens)) (x : QueryTree) → at_end o ≡ Some x → o ≡ Some (x, [])
at_end_some None x h = absurd (cc)
at_end_some (Some p) x h = at_end_by p x (length p.1 == 0) refl h

-- and what is read is a tree
pub whole_tree : (ts : Tokens) (x : QueryTree) → whole_query ts ≡ Some x → Tree ts x
unfolding whole_query
whole_tree ts x h = (length ts, top_sound (length ts) ts (x, []) (at_end_some _ x h))
