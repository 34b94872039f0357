-- How many documents an index finds for a row, as far as this is known when a query is planned (Execution and
-- performance, the query optimizer: cost-based). Products end at the greatest number of 64 bits, and halves are
-- rounded up.
use Rattle.std.specs.Prelude.{ℕ, zero, ◌+◌, ◌*◌, min, [], Some, None, unwrap_or, option_map, slice_get}
use Rattle.std.specs.Int.{div_ceil}
use Rattle.aql_tree.specs.Tree.{ExprTree, array_literal}
use Rattle.aql_meaning.specs.Documents.{Last, no_last, one_of, between}
use Rattle.aql_plan.specs.declared.facts.Facts.{Facts}
use Rattle.aql_plan.specs.declared.facts.CollFact.{CollFact}
use Rattle.aql_plan.specs.declared.facts.IndexFact.{IndexFact}
use Rattle.aql_plan.specs.Facts.{indexes_in}
use Rattle.aql_plan.specs.Fits.{exprs_in}

abbrev pub greatest : ℕ
greatest = 18446744073709551615

abbrev pub times : ℕ → ℕ → ℕ
times a b = min (a * b) greatest

abbrev pub half : ℕ → ℕ
half n = div_ceil n 2

abbrev pub documents_in : Facts → ℕ → ℕ
documents_in facts coll =
    unwrap_or (option_map (λ (c : CollFact). c.documents) (slice_get facts.collections coll)) 0

-- the largest group of documents that are equal in so many first attributes of an index
abbrev pub largest_group : Facts → ℕ → ℕ → ℕ → ℕ
largest_group facts coll index attributes =
    unwrap_or (slice_get (unwrap_or (option_map (λ (i : IndexFact). i.widths)
    (slice_get (indexes_in facts coll) index)) []) attributes) 0

-- an array of which only a literal's elements are counted
abbrev pub literal_elements : ℕ → ExprTree → ℕ
literal_elements other (array_literal es) = exprs_in es
literal_elements other e = other

-- by the number of equal attributes, and the bound of the next one
abbrev pub guess : Facts → ℕ → ℕ → ℕ → Last ExprTree → ℕ
guess facts coll index zero no_last = documents_in facts coll
guess facts coll index equal no_last = largest_group facts coll index equal
guess facts coll index equal (one_of e) = min (documents_in facts coll)
    (times (largest_group facts coll index (equal + 1)) (literal_elements 10 e))
guess facts coll index equal (between None None) = largest_group facts coll index equal
guess facts coll index equal (between (Some low) (Some high)) =
    div_ceil (largest_group facts coll index equal) 4
guess facts coll index equal (between low high) = half (largest_group facts coll index equal)
