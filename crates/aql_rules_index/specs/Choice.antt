-- Which bounds of an index the items of a condition give (Indexing; the optimiser rule use-indexes). An item
-- fits where it compares an attribute of the document with an expression that does not use the document.
use Rattle.std.specs.Prelude.{ℕ, suc, ◌≡◌, ◌<◌, ◌≤◌, List, [], ◌∷◌, ◌++◌, Bool, true, false, cond, not, ◌&&◌, Option, Some, None, option_map, unwrap_or, slice_get, bytes_eq}
use Rattle.std.specs.List.{AllByRecursion, filter_map}
use Rattle.aql_value.specs.declared.operators.BinOp.{BinOp}
use Rattle.aql_value.specs.declared.operators.BinOp.TheVariants.{Eq, Lt, Le, Gt, Ge, IsIn}
use Rattle.aql_tree.specs.declared.syntax.Ident.{Ident}
use Rattle.aql_tree.specs.Tree.{ExprTree, variable, access, chain, ExprTrees, no_exprs, expr_then, StepTrees, no_steps, name_then, LinkTrees, no_links, link_then}
use Rattle.aql_meaning.specs.Row.{same_ident}
use Rattle.aql_meaning.specs.Uses.{uses, is_used}
use Rattle.aql_meaning.specs.Documents.{End, Last, no_last, one_of, between}
use Rattle.aql_plan.specs.declared.facts.Facts.{Facts}
use Rattle.aql_plan.specs.declared.facts.IndexFact.{IndexFact}
use Rattle.aql_plan.specs.declared.facts.IndexKind.{IndexKind}
use Rattle.aql_plan.specs.declared.facts.IndexKind.TheVariants as kind
use Rattle.aql_plan.specs.Facts.{indexes_in}
use Rattle.aql_plan.specs.Fits.{exprs_in}
use Rattle.aql_index.specs.Guess.{guess}

-- an item as `x.name op other`
pub record Item : Type 0 where
  pub name : List ℕ
  pub op : BinOp
  pub other : ExprTree

-- ---- items

-- the one attribute that steps take
abbrev pub lone_name : StepTrees → Option (List ℕ)
lone_name (name_then name no_steps) = Some name
lone_name ss = None

abbrev pub of_variable : Ident → ExprTree → Option (List ℕ) → Option (List ℕ)
of_variable x (variable y) name = cond (same_ident x y) name None
of_variable x e name = None

-- the name in `x.name`
abbrev pub attribute_of : Ident → ExprTree → Option (List ℕ)
attribute_of x (access e ss) = of_variable x e (lone_name ss)
attribute_of x e = None

-- the operators that bounds have
abbrev pub is_bound : BinOp → Bool
is_bound Eq = true
is_bound Lt = true
is_bound Le = true
is_bound Gt = true
is_bound Ge = true
is_bound IsIn = true
is_bound op = false

-- `e op x.name` says `x.name (mirrored op) e`; IN has no mirror
abbrev pub mirrored : BinOp → Option BinOp
mirrored Eq = Some Eq
mirrored Lt = Some Gt
mirrored Le = Some Ge
mirrored Gt = Some Lt
mirrored Ge = Some Le
mirrored op = None

abbrev pub make_item : ExprTree → List ℕ → BinOp → Item
make_item e name op = record { name = name; op = op; other = e }

-- where the other side does not use the document
abbrev pub where_apart : Ident → ExprTree → Option Item → Option Item
where_apart x e item = cond (not (is_used x (uses e))) item None

-- `a op b` read from the left, and, where that does not fit, from the right
abbrev pub from_right : Ident → ExprTree → Option BinOp → Option (List ℕ) → Option Item
from_right x a None name = None
from_right x a (Some op) None = None
from_right x a (Some op) (Some name) = where_apart x a (Some (make_item a name op))

abbrev pub from_left : Ident → BinOp → ExprTree → ExprTree → Option (List ℕ) → Option Item
from_left x op a b None = from_right x a (mirrored op) (attribute_of x b)
from_left x op a b (Some name) =
    cond (is_bound op) (where_apart x b (Some (make_item b name op))) None

abbrev pub lone_link : Ident → ExprTree → LinkTrees → Option Item
lone_link x a (link_then op b no_links) = from_left x op a b (attribute_of x a)
lone_link x a ls = None

abbrev pub item_of : Ident → ExprTree → Option Item
item_of x (chain a ls) = lone_link x a ls
item_of x e = None

abbrev pub items_of : Ident → List ExprTree → List Item
items_of x es = filter_map (item_of x) es

-- ---- bounds

abbrev pub is_eq_op : BinOp → Bool
is_eq_op Eq = true
is_eq_op op = false

abbrev pub is_in_op : BinOp → Bool
is_in_op IsIn = true
is_in_op op = false

abbrev pub is_low_op : BinOp → Bool
is_low_op Gt = true
is_low_op Ge = true
is_low_op op = false

abbrev pub is_high_op : BinOp → Bool
is_high_op Lt = true
is_high_op Le = true
is_high_op op = false

abbrev pub is_inclusive : BinOp → Bool
is_inclusive Ge = true
is_inclusive Le = true
is_inclusive op = false

-- the first item on an attribute whose operator passes a test
abbrev pub first_on : (BinOp → Bool) → List ℕ → List Item → Option Item
first_on test name [] = None
first_on test name (i ∷ is) = cond (bytes_eq i.name name && test i.op) (Some i) (first_on test name is)

abbrev pub end_of_item : Item → End ExprTree
end_of_item i = record { limit = i.other; inclusive = is_inclusive i.op }

abbrev pub range_between : Option (End ExprTree) → Option (End ExprTree) → Last ExprTree
range_between None None = no_last
range_between low high = between low high

abbrev pub one_or : Option Item → Last ExprTree → Last ExprTree
one_or None range = range
one_or (Some i) range = one_of i.other

-- the bound of the first attribute without an equality
abbrev pub last_on : List ℕ → List Item → Last ExprTree
last_on name is = one_or (first_on is_in_op name is)
    (range_between (option_map end_of_item (first_on is_low_op name is))
    (option_map end_of_item (first_on is_high_op name is)))

-- bounds: the values of the first attributes, and the bound of the next one
pub record Bounds : Type 0 where
  pub equal : ExprTrees
  pub last : Last ExprTree

abbrev pub bounds_then : Option Item → Last ExprTree → Bounds → Bounds
bounds_then None last rest = record { equal = no_exprs; last = last }
bounds_then (Some i) last rest = record { equal = expr_then i.other rest.equal; last = rest.last }

abbrev pub no_bounds : Bounds
no_bounds = record { equal = no_exprs; last = no_last }

-- those of a sorted index over these attributes
abbrev pub sorted_bounds : List (List ℕ) → List Item → Bounds
sorted_bounds [] is = no_bounds
sorted_bounds (name ∷ names) is =
    bounds_then (first_on is_eq_op name is) (last_on name is) (sorted_bounds names is)

-- those of a lookup, which is by one attribute: an equality, else the elements of an array
abbrev pub lookup_bounds : List (List ℕ) → List Item → Bounds
lookup_bounds [] is = no_bounds
lookup_bounds (name ∷ names) is =
    bounds_then (first_on is_eq_op name is) (one_or (first_on is_in_op name is) no_last) no_bounds

-- those of an index of this kind over these attributes
abbrev pub bounds_for : IndexKind → List (List ℕ) → List Item → Bounds
bounds_for kind.Sorted names is = sorted_bounds names is
bounds_for k names is = lookup_bounds names is

-- ---- the choice

-- the kind of an index of a collection; of one that there is not: sorted
abbrev pub kind_in : Facts → ℕ → ℕ → IndexKind
kind_in facts coll index =
    unwrap_or (option_map (λ (i : IndexFact). i.kind) (slice_get (indexes_in facts coll) index)) kind.Sorted

abbrev pub has_bound : ExprTrees → Last ExprTree → Bool
has_bound no_exprs no_last = false
has_bound equal last = true

-- an index, by its number, with the bounds that the items give to it
pub record Candidate : Type 0 where
  pub index : ℕ
  pub bounds : Bounds

abbrev pub with_candidate : ℕ → Bounds → List Candidate → List Candidate
with_candidate n bounds cs =
    cond (has_bound bounds.equal bounds.last) (record { index = n; bounds = bounds } ∷ cs) cs

-- those of indexes, of which the first has this number, that have a bound
abbrev pub candidates_from : ℕ → List IndexFact → List Item → List Candidate
candidates_from n [] is = []
candidates_from n (f ∷ fs) is =
    with_candidate n (bounds_for f.kind f.attributes is) (candidates_from (suc n) fs is)

abbrev pub candidates : Facts → ℕ → List Item → List Candidate
candidates facts coll is = candidates_from 0 (indexes_in facts coll) is

abbrev pub guess_of : Facts → ℕ → Candidate → ℕ
guess_of facts coll c = guess facts coll c.index (exprs_in c.bounds.equal) c.bounds.last

-- of the candidates this one is chosen: those before it have a greater guess, those after it no smaller one
pub record IsChosen (facts : Facts) (coll : ℕ) (is : List Item) (chosen : Candidate) : Type 0 where
  pub before : List Candidate
  pub after : List Candidate
  pub among : candidates facts coll is ≡ before ++ chosen ∷ after
  pub greater : AllByRecursion (λ (c : Candidate). guess_of facts coll chosen < guess_of facts coll c) before
  pub no_smaller :
      AllByRecursion (λ (c : Candidate). guess_of facts coll chosen ≤ guess_of facts coll c) after
