-- A function value that reads expressions to a depth.
use Rattle.std.specs.Prelude.{ℕ, Bool, Result}
use Rattle.std.specs.declared.alloc.Global.{Global}
use denote.Ref.{MutBor}
use Rattle.aql_tree.specs.declared.syntax.Expr.{Expr}
use Rattle.aql_tree.specs.View.{tree}
use Rattle.aql_grammar.specs.Kinds.{Tokens}
use Rattle.aql_grammar.specs.declared.faults.ParseFault.{ParseFault}
use Rattle.aql_grammar.specs.Input.{ReadsAs}
use Rattle.aql_grammar.specs.Reader.{expr}

pub record ReadsDeeper (depth : ℕ) (pre : Global → MutBor Tokens → ℕ → Bool → Type 0)
    (post : Global → MutBor Tokens → ℕ → Bool → Result Expr ParseFault → MutBor Tokens → Type 0) : Type 0
  where
    pub callable : (alloc : Global) (old : MutBor Tokens) (inside : Bool) → pre alloc old depth inside
    pub reads : (alloc : Global) (old new : MutBor Tokens) (inside : Bool) (r : Result Expr ParseFault)
        → post alloc old depth inside r new
        → ReadsAs tree (expr depth inside old.now) r new.now
