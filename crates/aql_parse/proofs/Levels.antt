-- The precedences, from the tightest on.
use Rattle.std.proofs.Common.{◌≡◌, Bool, refl}
use Rattle.std.specs.Prelude.{◌≢◌}
use Rattle.aql_tree.specs.Tree.{ExprTree}
use Rattle.aql_grammar.specs.declared.precedence.Precedence.{Precedence}
use Rattle.aql_grammar.specs.declared.precedence.Precedence.TheVariants as level
use Rattle.aql_grammar.specs.Kinds.{Tokens}
use Rattle.aql_grammar.specs.Input.{Parser}
use Rattle.aql_grammar.specs.Reader.{level_at, operand, chain, product, sum, relation, membership, equality}
use Rattle.aql_grammar.specs.Reader.{conjunction, disjunction}

-- a level whose operators form chains
pub chain_level : (E : Bool → Parser ExprTree) (inside : Bool) (p : Precedence) (ts : Tokens)
    → p ≢ level.Range
    → p ≢ level.ArrayComparison → level_at E inside p ts ≡ chain p (operand E inside p) ts
unfolding product sum relation membership equality conjunction disjunction
chain_level E inside level.Product ts range comparison = refl
chain_level E inside level.Sum ts range comparison = refl
chain_level E inside level.Range ts range comparison = absurd (range refl)
chain_level E inside level.Relation ts range comparison = refl
chain_level E inside level.Membership ts range comparison = refl
chain_level E inside level.Equality ts range comparison = refl
chain_level E inside level.ArrayComparison ts range comparison = absurd (comparison refl)
chain_level E inside level.Conjunction ts range comparison = refl
chain_level E inside level.Disjunction ts range comparison = refl
