-- The names that a query sees, each with its number (AQL fundamentals, Accessing data; high-level operations,
-- variables). Variables are numbered from 1 in the order of the text, and a later one hides an earlier one.
use Rattle.std.specs.Prelude.{ℕ, suc, List, [], ◌∷◌, map, cond, Option, Some, None, option_to_list}
use Rattle.aql_value.specs.Datum.{null}
use Rattle.aql_tree.specs.declared.syntax.Ident.{Ident}
use Rattle.aql_tree.specs.declared.syntax.Ident.TheVariants.{Name, Num}
use Rattle.aql_tree.specs.Tree.{TraversalShape, ExprTree, literal, variable, MemberTrees, no_members, named_then, ClauseTree, for_each, for_documents}
use Rattle.aql_meaning.specs.Row.{same_ident}

-- names with their numbers, the latest first
abbrev pub Numbering : Type 0
Numbering = List (Ident × ℕ)

abbrev pub number_of : Numbering → Ident → Option ℕ
number_of [] x = None
number_of (v ∷ names) x = cond (same_ident v.0 x) (Some v.1) (number_of names x)

abbrev pub idents : Numbering → List Ident
idents names = map (λ (v : Ident × ℕ). v.0) names

-- how a variable is written
abbrev pub text_of : Ident → List ℕ
text_of (Name n) = n
text_of (Num k) = []

-- a name that is not visible, which no query without a fault has, counts as null
abbrev pub numbered_variable : Option ℕ → ExprTree
numbered_variable (Some k) = variable (Num k)
numbered_variable None = literal null

-- a single name after IN: a variable, or else a collection
abbrev pub from_name : ℕ → Option ℕ → Ident → ClauseTree
from_name n (Some k) c = for_each (Num n) (variable (Num k))
from_name n None (Name c) = for_documents (Num n) c
from_name n None (Num c) = for_each (Num n) (literal null)

abbrev pub number_in : Ident → ℕ
number_in (Num k) = k
number_in (Name x) = 0

-- the names xs with the numbers ys, one after another, before the others
abbrev pub enter : List Ident → List Ident → Numbering → Numbering
enter [] ys names = names
enter (x ∷ xs) [] names = names
enter (x ∷ xs) (y ∷ ys) names = enter xs ys ((x, number_in y) ∷ names)

-- numbers from n on for all of these
abbrev pub numbers_from : ℕ → List Ident → List Ident
numbers_from n [] = []
numbers_from n (x ∷ xs) = Num n ∷ numbers_from (suc n) xs

-- the number after them
abbrev pub number_after : List Ident → ℕ → ℕ
number_after [] n = n
number_after (x ∷ xs) n = number_after xs (suc n)

-- a variable that may stand there
abbrev pub maybe_number : ℕ → Option Ident → Option Ident
maybe_number n None = None
maybe_number n (Some x) = Some (Num n)

-- vertex, edge and path of a traversal take the next numbers
abbrev pub number_traversal : ℕ → TraversalShape → TraversalShape
number_traversal n w = record w {
  vertex = Num n;
  edge = maybe_number (suc n) w.edge;
  path = maybe_number (number_after (option_to_list w.edge) (suc n)) w.path;
}

abbrev pub after_traversal : ℕ → TraversalShape → ℕ
after_traversal n w = number_after (option_to_list w.path) (number_after (option_to_list w.edge) (suc n))

abbrev pub traversal_names : ℕ → TraversalShape → Numbering → Numbering
traversal_names n w names =
    let v = number_traversal n w in
    enter (option_to_list w.path) (option_to_list v.path)
    (enter (option_to_list w.edge) (option_to_list v.edge) ((w.vertex, n) ∷ names))

-- what INTO takes where it has no expression: an object of variables by their names
abbrev pub variable_members : Numbering → List (List ℕ) → MemberTrees
variable_members names [] = no_members
variable_members names (x ∷ xs) =
    named_then x (numbered_variable (number_of names (Name x))) (variable_members names xs)
