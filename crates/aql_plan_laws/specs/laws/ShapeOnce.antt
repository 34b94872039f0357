-- A part of a plan has one shape, up to whether its rows are a single one.
use Rattle.std.proofs.Common.{◌≡◌, Bool, true, false, refl}
use Rattle.std.specs.Prelude.{ℕ, Option, Some, None}
use Rattle.aql_meaning.specs.declared.grouping.Stage.TheVariants as stage
use Rattle.aql_plan.specs.declared.facts.Facts.{Facts}
use Rattle.aql_plan.specs.Plan.{Plan, Singleton, Over, Node, EnumerateCollection, Index, EnumerateList, Traversal, Calculation, Subquery, Filter, Sort, Limit, Collect, Return, NoResults, Scatter, Distribute, Remote, Gather}
use Rattle.aql_plan.specs.Shapes.{Order, unordered, by_keys, index_order, Shape, Rows, Foot, Fragment, States, AllStates, Sent, Result, IsOuter, ReadsFragment, ReadsShard, KeepsRowOrder, Shaped, one_row, calculated, with_subquery, plain_rows, ordered_rows, scatter, distribute, remote, lowest, lowest_in_order, other_reading, passing, sorting, gather, gather_in_order, partial, joining, finishing, returning}

abbrev pub is_one : Shape → Bool
is_one (Rows one) = one
is_one s = false

-- over an input: a node that reads in no order, one that orders, a Filter, a Gather
abbrev pub reading_over : Shape → Shape
reading_over (Rows one) = Rows false
reading_over s = Fragment unordered

abbrev pub ordering_over : Order → Shape → Shape
ordering_over o (Rows one) = Rows false
ordering_over o s = Fragment o

abbrev pub filter_over : Shape → Shape
filter_over (Rows one) = Rows false
filter_over s = s

abbrev pub gather_over : Shape → Shape
gather_over (Sent (States xs es gs)) = AllStates xs es gs
gather_over s = Rows false

-- the shape that a plan has if it has any
abbrev pub shape_of : Facts → Plan → Shape
shape_of facts Singleton = Rows true
shape_of facts (Over b (EnumerateCollection x)) = reading_over (shape_of facts b)
shape_of facts (Over b (Index x index equal last None)) = reading_over (shape_of facts b)
shape_of facts (Over b (Index x index equal last (Some descending))) =
    ordering_over (index_order facts x index descending) (shape_of facts b)
shape_of facts (Over b (Calculation x e)) = shape_of facts b
shape_of facts (Over b (Subquery x s)) = shape_of facts b
shape_of facts (Over b (Filter e)) = filter_over (shape_of facts b)
shape_of facts (Over b (Sort directions es n)) = ordering_over (by_keys directions es) (shape_of facts b)
shape_of facts (Over b (Collect xs es gs i stage.Partial)) = States xs es gs
shape_of facts (Over b (Return distinct e)) = Result
shape_of facts (Over b (Scatter coll only)) = Foot coll (is_one (shape_of facts b))
shape_of facts (Over b (Distribute coll es)) = Foot coll (is_one (shape_of facts b))
shape_of facts (Over b Remote) = Sent (shape_of facts b)
shape_of facts (Over b (Gather directions es)) = gather_over (shape_of facts b)
shape_of facts (Over b n) = Rows false

-- the same, where the second may say more of how many rows there are
abbrev pub AtMost : Shape → Shape → Type 0
AtMost (Rows one) (Rows other) = one ≡ true → other ≡ true
AtMost (Foot c one) (Foot d other) = (c ≡ d) × (one ≡ true → other ≡ true)
AtMost (Fragment o) (Fragment q) = o ≡ q
AtMost (States xs es gs) (States ys fs hs) = (xs ≡ ys) × (es ≡ fs) × (gs ≡ hs)
AtMost (AllStates xs es gs) (AllStates ys fs hs) = (xs ≡ ys) × (es ≡ fs) × (gs ≡ hs)
AtMost (Sent s) (Sent t) = AtMost s t
AtMost Result Result = Unit {0}
AtMost s t = ⊥

still : false ≡ true → false ≡ true
still e = e

reading_rows : (t : Shape) → AtMost (Rows false) t → AtMost (Rows false) (reading_over t)
reading_rows (Rows one) h = still
reading_rows t h = absurd h

ordering_rows : (o : Order) (one : Bool) (t : Shape) → AtMost (Rows one) t
    → AtMost (Rows false) (ordering_over o t)
ordering_rows o one (Rows other) h = still
ordering_rows o one t h = absurd h

filter_rows : (t : Shape) → AtMost (Rows false) t → AtMost (Rows false) (filter_over t)
filter_rows (Rows one) h = still
filter_rows t h = absurd h

plain_most : (facts : Facts) (b : Plan) (n : Node) → IsOuter n → AtMost (Rows false) (shape_of facts b)
    → AtMost (Rows false) (shape_of facts (Over b n))
plain_most facts b (EnumerateCollection x) i h = reading_rows (shape_of facts b) h
plain_most facts b (Index x index equal last None) i h = reading_rows (shape_of facts b) h
plain_most facts b (Index x index equal last (Some descending)) i h = absurd i
plain_most facts b (EnumerateList x e) i h = still
plain_most facts b (Traversal w e colls prune keep) i h = still
plain_most facts b (Filter e) i h = filter_rows (shape_of facts b) h
plain_most facts b (Sort directions es n) i h =
    ordering_rows (by_keys directions es) false (shape_of facts b) h
plain_most facts b (Limit offset count) i h = still
plain_most facts b (Collect xs es gs j stage.Whole) i h = still
plain_most facts b NoResults i h = still
plain_most facts b n i h = absurd i

foot_most : (one : Bool) (t : Shape) → AtMost (Rows one) t → one ≡ true → is_one t ≡ true
foot_most one (Rows other) h = h
foot_most one t h = absurd h

-- in a fragment
sent_read : (s t : Shape) → AtMost (Sent s) t → AtMost (Fragment unordered) (reading_over t)
sent_read s (Sent t) h = refl
sent_read s t h = absurd h

fragment_read : (o : Order) (t : Shape) → AtMost (Fragment o) t → AtMost (Fragment unordered) (reading_over t)
fragment_read o (Fragment q) h = refl
fragment_read o t h = absurd h

lowest_most : (facts : Facts) (s : Shape) (b : Plan) (n : Node) (coll : ℕ) → ReadsFragment coll n
    → AtMost (Sent s) (shape_of facts b) → AtMost (Fragment unordered) (shape_of facts (Over b n))
lowest_most facts s b (EnumerateCollection x) coll i h = sent_read s (shape_of facts b) h
lowest_most facts s b (Index x index equal last None) coll i h = sent_read s (shape_of facts b) h
lowest_most facts s b n coll i h = absurd i

other_most : (facts : Facts) (o : Order) (b : Plan) (n : Node) → ReadsShard n
    → AtMost (Fragment o) (shape_of facts b) → AtMost (Fragment unordered) (shape_of facts (Over b n))
other_most facts o b (EnumerateCollection x) i h = fragment_read o (shape_of facts b) h
other_most facts o b (Index x index equal last None) i h = fragment_read o (shape_of facts b) h
other_most facts o b n i h = absurd i

sent_ordered : (q : Order) (s t : Shape) → AtMost (Sent s) t → AtMost (Fragment q) (ordering_over q t)
sent_ordered q s (Sent t) h = refl
sent_ordered q s t h = absurd h

fragment_ordered : (q o : Order) (t : Shape) → AtMost (Fragment o) t → AtMost (Fragment q) (ordering_over q t)
fragment_ordered q o (Fragment p) h = refl
fragment_ordered q o t h = absurd h

fragment_filtered : (o : Order) (t : Shape) → AtMost (Fragment o) t → AtMost (Fragment o) (filter_over t)
fragment_filtered o (Fragment q) h = h
fragment_filtered o t h = absurd h

passing_most : (facts : Facts) (o : Order) (b : Plan) (n : Node) → KeepsRowOrder n
    → AtMost (Fragment o) (shape_of facts b) → AtMost (Fragment o) (shape_of facts (Over b n))
passing_most facts o b (Filter e) i h = fragment_filtered o (shape_of facts b) h
passing_most facts o b (Calculation x e) i h = h
passing_most facts o b n i h = absurd i

gathered_rows : (o : Order) (t : Shape) → AtMost (Sent (Fragment o)) t → AtMost (Rows false) (gather_over t)
gathered_rows o (Sent (Fragment q)) h = still
gathered_rows o (Sent t) h = absurd h
gathered_rows o t h = absurd h

pub shape_once : (facts : Facts) {p : Plan} {s : Shape} → Shaped facts p s → AtMost s (shape_of facts p)
shape_once facts one_row = λ e. refl
shape_once facts (calculated f h) = shape_once facts h
shape_once facts (with_subquery g h) = shape_once facts h
shape_once facts (plain_rows {b = b} {n = n} i f h) = plain_most facts b n i (shape_once facts h)
shape_once facts (ordered_rows {b = b} {x = x} {index = index} {descending = descending} e f h) =
    ordering_rows (index_order facts x index descending) true (shape_of facts b) (shape_once facts h)
shape_once facts (scatter {one = one} {b = b} f h) =
    (refl, foot_most one (shape_of facts b) (shape_once facts h))
shape_once facts (distribute {one = one} {b = b} f h) =
    (refl, foot_most one (shape_of facts b) (shape_once facts h))
shape_once facts (remote i h) = shape_once facts h
shape_once facts (lowest {one = one} {b = b} {n = n} {coll = coll} i f h) =
    lowest_most facts (Foot coll one) b n coll i (shape_once facts h)
shape_once facts (lowest_in_order {b = b} {x = x} {index = index} {descending = descending} e f h) =
    sent_ordered (index_order facts x index descending) (Foot x.coll true) (shape_of facts b)
    (shape_once facts h)
shape_once facts (other_reading {b = b} {n = n} {o = o} i f h) = other_most facts o b n i (shape_once facts h)
shape_once facts (passing {b = b} {n = n} {o = o} i f h) = passing_most facts o b n i (shape_once facts h)
shape_once facts (sorting {b = b} {directions = directions} {es = es} {o = o} f h) =
    fragment_ordered (by_keys directions es) o (shape_of facts b) (shape_once facts h)
shape_once facts (gather {b = b} {o = o} h) = gathered_rows o (shape_of facts b) (shape_once facts h)
shape_once facts (gather_in_order {b = b} {directions = directions} {es = es} f h) =
    gathered_rows (by_keys directions es) (shape_of facts b) (shape_once facts h)
shape_once facts (partial f h) = (refl, refl, refl)
shape_once facts (joining {b = b} {xs = xs} {es = es} {gs = gs} h) =
    states_joined (shape_of facts b) (shape_once facts h)
  where
    states_joined : (t : Shape) → AtMost (Sent (States xs es gs)) t
        → AtMost (AllStates xs es gs) (gather_over t)
    states_joined (Sent (States ys fs hs)) k = k
    states_joined (Sent t) k = absurd k
    states_joined t k = absurd k
shape_once facts (finishing f h) = still
shape_once facts (returning f h) = tt
