-- The variables of rows, by number: for the contracts of private functions.
use Rattle.std.specs.Prelude.{ℕ, ◌≡◌, ◌↔◌, List, ◌++◌, map, Bool, IsTrue}
use Rattle.std.specs.List.{list_any, AllByRecursion}
use Rattle.aql_tree.specs.declared.syntax.Ident.{Ident}
use Rattle.aql_tree.specs.declared.syntax.Ident.TheVariants.{Name, Num}
use Rattle.aql_meaning.specs.Row.{same_ident}
use Rattle.aql_plan.specs.Plan.{Plan, Singleton, Over, Node, Subquery, Return}
use Rattle.aql_plan.specs.Needs.{sets}
use Rattle.aql_plan.specs.Variables.{FindsAll, vars_of}

abbrev pub variables : List ℕ → List Ident
variables ns = map (λ n. Num n) ns

-- the same variables, in any order and number
pub record Same (xs ys : List Ident) : Type 0 where
  pub same : (x : Ident) → list_any (same_ident x) xs ≡ list_any (same_ident x) ys

-- more numbers stand at the end, and with them these variables are there
pub record Adds (before : List ℕ) (xs : List Ident) (after : List ℕ) : Type 0 where
  pub added : List ℕ
  pub whole : after ≡ before ++ added
  pub same : Same (variables after) (xs ++ variables before)

abbrev pub IsNum : Ident → Type 0
IsNum (Num n) = Unit {0}
IsNum (Name name) = ⊥

abbrev pub AreNumbers : List Ident → Type 0
AreNumbers xs = AllByRecursion IsNum xs

abbrev pub GivesRows : Node → Type 0
GivesRows (Return distinct e) = ⊥
GivesRows n = Unit {0}

abbrev mutual
  -- a plan that gives rows, and sets numbers alone
  pub RowsNumbered : Plan → Type 0
  RowsNumbered Singleton = Unit {0}
  RowsNumbered (Over b n) = RowsNumbered b × GivesRows n × AreNumbers (sets n) × BodyNumbered n

  pub BodyNumbered : Node → Type 0
  BodyNumbered (Subquery x b) = ResultNumbered b
  BodyNumbered n = Unit {0}

  -- a Return over such a plan
  pub ResultNumbered : Plan → Type 0
  ResultNumbered (Over b (Return distinct e)) = RowsNumbered b
  ResultNumbered p = ⊥

-- more numbers stand at the end
abbrev pub Grows : List ℕ → List ℕ → Type 0
Grows before after = (added : List ℕ) × (after ≡ before ++ added)

-- whether all that is used is found, and the variables of the rows if it is
pub record Finds (before : List ℕ) (p : Plan) (after : List ℕ) (found : Bool) : Type 0 where
  pub exact : IsTrue found ↔ FindsAll (variables before) p
  pub grown : IsTrue found → Grows before after
  pub rows : IsTrue found → Same (variables after) (vars_of (variables before) p)
