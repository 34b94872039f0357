-- The operators of a plan by its top node, its input and its body; and what holds of a body.
use Rattle.std.proofs.Common.{◌≡◌, ◌≤◌, ◌+◌, Some, None, true, false, refl, ap, subst, arith}
use Rattle.aql_plan.specs.declared.facts.Facts.{Facts}
use Rattle.aql_plan.specs.Nodes.{weight, weight_in, body_in}
use Rattle.aql_plan.specs.Plan.{Plan, Singleton, Over, Node, Subquery, NoResults, Scatter, Distribute, Remote, Gather, top}
use Rattle.aql_exec.specs.Operators.{NoRows, leaf, within}
use Rattle.aql_engine.specs.EachFits.{EachFits, BodyFits}
use Rattle.aql_engine.specs.OperatorsOf.{last_looks, looked_at, operators_of}
use Rattle.aql_local.specs.Fragments.{IsFragment, StandsApart, FootStandsApart, StandsOutside, is_gather}
use Rattle.aql_local.specs.Building.{operator_of, body_operators, gives_none, SetsNumbers, NodeSetsNumbers}

-- ---- operators

pub node_operators : (facts : Facts) (b : Plan) (n : Node) → StandsOutside n → gives_none (Over b n) ≡ false
    → within (operator_of n) (looked_at (last_looks n) (operators_of facts b)) (body_operators facts n)
    ≡ operators_of facts (Over b n)
node_operators facts b NoResults h e = absurd (cc)
node_operators facts b (Scatter coll only) h e = absurd h
node_operators facts b (Distribute coll es) h e = absurd h
node_operators facts b Remote h e = absurd h
node_operators facts b (Gather directions es) h e = absurd h
node_operators facts b n h e = refl

pub body_is : (facts : Facts) (n : Node) (s : Plan) → body_in n ≡ Some s
    → operators_of facts s ≡ body_operators facts n
body_is facts (Subquery x t) s e = let k : s ≡ t = cc in ap (operators_of facts) k
body_is facts n s e = absurd (cc)

pub no_body : (facts : Facts) (n : Node) → body_in n ≡ None → leaf NoRows ≡ body_operators facts n
no_body facts (Subquery x t) e = absurd (cc)
no_body facts n e = refl

-- ---- inputs

pub apart_below : (b : Plan) (n : Node) → is_gather n ≡ false → StandsApart (Over b n)
    → StandsApart b × StandsOutside n
apart_below b (Gather directions es) e h = absurd (cc)
apart_below b n e h = h

pub apart_fragment : (b : Plan) (n : Node) → is_gather n ≡ true → StandsApart (Over b n)
    → IsFragment b × FootStandsApart b
apart_fragment b (Gather directions es) e h = h
apart_fragment b n e h = absurd (cc)

-- ---- bodies

pub body_apart : (n : Node) (s : Plan) → body_in n ≡ Some s → StandsOutside n → StandsApart s
body_apart (Subquery x t) s e h = let k : t ≡ s = cc in subst StandsApart k h
body_apart n s e h = absurd (cc)

pub body_fits : (facts : Facts) (n : Node) (s : Plan) → body_in n ≡ Some s → BodyFits facts n → EachFits facts s
body_fits facts (Subquery x t) s e h = let k : t ≡ s = cc in subst (EachFits facts) k h
body_fits facts n s e h = absurd (cc)

pub body_numbers : (n : Node) (s : Plan) → body_in n ≡ Some s → NodeSetsNumbers n → SetsNumbers s
body_numbers (Subquery x t) s e h = let k : t ≡ s = cc in subst SetsNumbers k h
body_numbers n s e h = absurd (cc)

-- ---- how many nodes

pub body_lighter : (p s : Plan) → body_in (top p) ≡ Some s → weight s + 1 ≤ weight p
body_lighter Singleton s e = absurd (cc)
body_lighter (Over b n) s e = by n e
  where
    by : (n : Node) → body_in n ≡ Some s → weight s + 1 ≤ weight b + (weight_in n + 1)
    by (Subquery x t) e =
        let k : t ≡ s = cc in subst (λ (o : Plan). weight o + 1 ≤ weight b + (weight t + 1)) k (omega arith)
    by n e = cc
