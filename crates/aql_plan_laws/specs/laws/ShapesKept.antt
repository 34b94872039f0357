-- A plan keeps its shape with another part in it.
use Rattle.std.proofs.Common.{◌≡◌, ◌∙◌, ap, List, [], ◌∷◌, Bool, true, false, refl, sym, subst}
use Rattle.aql_tree.specs.declared.syntax.Ident.{Ident}
use Rattle.aql_meaning.specs.declared.grouping.Stage.TheVariants as stage
use Rattle.aql_plan.specs.declared.facts.Facts.{Facts}
use Rattle.aql_plan.specs.Plan.{Plan, Singleton, Over, Node, EnumerateCollection, Index, EnumerateList, Traversal, Calculation, Subquery, Filter, Sort, Limit, Collect, Return, NoResults, Scatter, Distribute, Remote, Gather}
use Rattle.aql_plan.specs.Above.{raised, input_inside, stands_inside}
use Rattle.std.specs.Prelude.{ℕ, Option, Some, None}
use Rattle.aql_plan.specs.Shapes.{Shape, Rows, Foot, Fragment, States, AllStates, Sent, Result, IsOuter, ReadsFragment, ReadsShard, KeepsRowOrder, IsSent, Shaped, one_row, calculated, with_subquery, plain_rows, ordered_rows, scatter, distribute, remote, lowest, lowest_in_order, other_reading, passing, sorting, gather, gather_in_order, partial, joining, finishing, returning, is_inside, KeepsShape}

-- a single row is rows
pub one_is_rows : (facts : Facts) {p : Plan} → Shaped facts p (Rows true) → Shaped facts p (Rows false)
one_is_rows facts one_row = one_row
one_is_rows facts (calculated f h) = calculated f (one_is_rows facts h)
one_is_rows facts (with_subquery k h) = with_subquery k (one_is_rows facts h)

pub any_rows : (facts : Facts) (p : Plan) (one : Bool) → Shaped facts p (Rows one)
    → Shaped facts p (Rows false)
any_rows facts p true h = one_is_rows facts h
any_rows facts p false h = h

outer_input : (n : Node) → IsOuter n → false ≡ input_inside n false
outer_input (Gather directions es) h = absurd h
outer_input n h = refl

lowest_input : (coll : ℕ) (n : Node) → ReadsFragment coll n → true ≡ input_inside n true
lowest_input coll (Scatter c only) h = absurd h
lowest_input coll (Distribute c es) h = absurd h
lowest_input coll n h = refl

other_input : (n : Node) → ReadsShard n → true ≡ input_inside n true
other_input (Scatter c only) h = absurd h
other_input (Distribute c es) h = absurd h
other_input n h = refl

order_input : (n : Node) → KeepsRowOrder n → true ≡ input_inside n true
order_input (Scatter c only) h = absurd h
order_input (Distribute c es) h = absurd h
order_input n h = refl

sent_input : (s : Shape) → IsSent s → is_inside s ≡ true
sent_input (Foot coll one) h = refl
sent_input (Fragment o) h = refl
sent_input (States xs es gs) h = refl
sent_input s h = absurd h

-- what stands below a node, and that another part of this shape may stand there
pub under_top : (facts : Facts) (p : Plan) (n : Node) (s : Shape) → Shaped facts (Over p n) s
    → (t : Shape) × (is_inside t ≡ input_inside n (is_inside s)) × Shaped facts p t
    × ((q : Plan) → Shaped facts q t → Shaped facts (Over q n) s)
under_top facts p n s (calculated f h) = (_, refl, h, λ q k. calculated f k)
under_top facts p n s (with_subquery g h) = (_, refl, h, λ q k. with_subquery g k)
under_top facts p n s (plain_rows {n = m} i f h) = (_, outer_input m i, h, λ q k. plain_rows i f k)
under_top facts p n s (ordered_rows e f h) = (_, refl, h, λ q k. ordered_rows e f k)
under_top facts p n s (scatter f h) = (_, refl, h, λ q k. scatter f k)
under_top facts p n s (distribute f h) = (_, refl, h, λ q k. distribute f k)
under_top facts p n s (remote {s = t} i h) = (t, sent_input t i, h, λ q k. remote i k)
under_top facts p n s (lowest {n = m} {coll = coll} i f h) =
    (_, lowest_input coll m i, h, λ q k. lowest i f k)
under_top facts p n s (lowest_in_order e f h) = (_, refl, h, λ q k. lowest_in_order e f k)
under_top facts p n s (other_reading {n = m} i f h) = (_, other_input m i, h, λ q k. other_reading i f k)
under_top facts p n s (passing {n = m} i f h) = (_, order_input m i, h, λ q k. passing i f k)
under_top facts p n s (sorting f h) = (_, refl, h, λ q k. sorting f k)
under_top facts p n s (gather h) = (_, refl, h, λ q k. gather k)
under_top facts p n s (gather_in_order f h) = (_, refl, h, λ q k. gather_in_order f k)
under_top facts p n s (partial f h) = (_, refl, h, λ q k. partial f k)
under_top facts p n s (joining h) = (_, refl, h, λ q k. joining k)
under_top facts p n s (finishing f h) = (_, refl, h, λ q k. finishing f k)
under_top facts p n s (returning f h) = (_, refl, h, λ q k. returning f k)

-- the body of a subquery gives values, and another one may stand there
pub body_shaped : (facts : Facts) (s : Shape) (b : Plan) (x : Ident) (t : Plan)
    → Shaped facts (Over b (Subquery x t)) s → Shaped facts t Result
body_shaped facts s b x t (with_subquery g h) = g
body_shaped facts s b x t (plain_rows i f h) = absurd i
body_shaped facts s b x t (lowest i f h) = absurd i
body_shaped facts s b x t (other_reading i f h) = absurd i
body_shaped facts s b x t (passing i f h) = absurd i

-- below any nodes
pub kept_over : (facts : Facts) (q p : Plan) (n : Node) (inside : Bool)
    → KeepsShape (input_inside n inside) facts q p → KeepsShape inside facts (Over q n) (Over p n)
kept_over facts q p n inside k s e h =
    let a = under_top facts p n s h in
    a.3 q (k a.0 (a.1 ∙ ap (input_inside n) e) a.2)

-- as the body of a subquery
pub kept_body : (facts : Facts) (x : Ident) (b t s : Plan) (inside : Bool) → KeepsShape false facts t s
    → KeepsShape inside facts (Over b (Subquery x t)) (Over b (Subquery x s))
kept_body facts x b t s inside k o e (with_subquery g h) = with_subquery (k Result refl g) h
kept_body facts x b t s inside k o e (plain_rows i f h) = absurd i
kept_body facts x b t s inside k o e (lowest i f h) = absurd i
kept_body facts x b t s inside k o e (other_reading i f h) = absurd i
kept_body facts x b t s inside k o e (passing i f h) = absurd i

-- a part replaced anywhere keeps the whole shaped
pub shaped_kept : (facts : Facts) (ns : List Node) (q p : Plan)
    → KeepsShape (stands_inside ns) facts q p → KeepsShape false facts (raised q ns) (raised p ns)
shaped_kept facts [] q p k = k
shaped_kept facts (n ∷ ns) q p k =
    shaped_kept facts ns (Over q n) (Over p n) (kept_over facts q p n (stands_inside ns) k)

-- so do nodes put below a node that stays, where the shape there is the same
pub shaped_with : (facts : Facts) (ns : List Node) (q p : Plan) → stands_inside ns ≡ false
    → KeepsShape false facts q p → Shaped facts (raised p ns) Result → Shaped facts (raised q ns) Result
shaped_with facts ns q p e k =
    shaped_kept facts ns q p (subst (λ (i : Bool). KeepsShape i facts q p) (sym e) k) Result refl
