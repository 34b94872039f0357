-- A plan that has a shape, and sets numbers from 1 on, sets numbers in all its nodes.
use Rattle.std.proofs.Common.{◌≡◌, ap, refl, subst, ℕ, suc, List, [], ◌∷◌, ◌++◌}
use Rattle.std.specs.Prelude.{Some, None}
use Rattle.std.specs.List.{AllByRecursion}
use Rattle.aql_value.specs.laws.Alls.{all_parts}
use Rattle.aql_tree.specs.declared.syntax.Ident.{Ident}
use Rattle.aql_tree.specs.declared.syntax.Ident.TheVariants.{Name, Num}
use Rattle.aql_tree.specs.Tree.{no_into}
use Rattle.aql_meaning.specs.Numbered.{IsNumber}
use Rattle.aql_meaning.specs.Visible.{aggregate_vars}
use Rattle.aql_meaning.specs.declared.grouping.Stage.TheVariants as stage
use Rattle.aql_plan.specs.declared.facts.Facts.{Facts}
use Rattle.aql_plan.specs.Plan.{Plan, Over, Node, EnumerateCollection, Index, EnumerateList, Traversal, Calculation, Subquery, Filter, Sort, Limit, Collect, NoResults, Remote}
use Rattle.aql_plan.specs.Needs.{sets}
use Rattle.aql_plan.specs.Variables.{vars_set, set_once, numbers}
use Rattle.aql_plan.specs.Shapes.{Shape, Foot, Fragment, States, AllStates, Sent, Result, IsOuter, ReadsFragment, ReadsShard, KeepsRowOrder, IsSent, Shaped, one_row, calculated, with_subquery, plain_rows, ordered_rows, scatter, distribute, remote, lowest, lowest_in_order, other_reading, passing, sorting, gather, gather_in_order, partial, joining, finishing, returning}
use Rattle.aql_plan_check.specs.inner.Rows.{variables, IsNum, AreNumbers, GivesRows, RowsNumbered, BodyNumbered, ResultNumbered}

is_num : (x : Ident) → IsNumber x → IsNum x
is_num (Num (suc n)) h = tt
is_num x h = absurd h

are_numbers : (xs : List Ident) → AllByRecursion IsNumber xs → AreNumbers xs
are_numbers [] h = tt
are_numbers (x ∷ xs) h = (is_num x h.0, are_numbers xs h.1)

-- a list of numbers is that of their variables
pub numbers_back : (xs : List Ident) → AllByRecursion IsNumber xs → variables (numbers xs) ≡ xs
numbers_back [] h = refl
numbers_back (Num n ∷ xs) h = ap (λ l. Num n ∷ l) (numbers_back xs h.1)
numbers_back (Name name ∷ xs) h = absurd h.0

-- what a shape says of the variables
abbrev Numbered : Plan → Shape → Type 0
Numbered p Result = ResultNumbered p
Numbered p (States xs es gs) = RowsNumbered p × AreNumbers (xs ++ (aggregate_vars gs ++ []))
Numbered p (AllStates xs es gs) = RowsNumbered p × AreNumbers (xs ++ (aggregate_vars gs ++ []))
Numbered p (Sent (Foot coll one)) = RowsNumbered p
Numbered p (Sent (Fragment o)) = RowsNumbered p
Numbered p (Sent (States xs es gs)) = RowsNumbered p × AreNumbers (xs ++ (aggregate_vars gs ++ []))
Numbered p (Sent s) = Unit {0}
Numbered p s = RowsNumbered p

-- a node that sets each variable once, and has no body
record Simple (n : Node) : Type 0 where
  gives : GivesRows n
  once : set_once n ≡ sets n
  alone : BodyNumbered n

outer : (n : Node) → IsOuter n → Simple n
outer (EnumerateCollection x) i = record { gives = tt; once = refl; alone = tt }
outer (Index x index equal last None) i = record { gives = tt; once = refl; alone = tt }
outer (Index x index equal last (Some descending)) i = absurd i
outer (EnumerateList x e) i = record { gives = tt; once = refl; alone = tt }
outer (Traversal w e colls prune keep) i = record { gives = tt; once = refl; alone = tt }
outer (Filter e) i = record { gives = tt; once = refl; alone = tt }
outer (Sort directions es n) i = record { gives = tt; once = refl; alone = tt }
outer (Limit offset count) i = record { gives = tt; once = refl; alone = tt }
outer (Collect xs es gs j stage.Whole) i = record { gives = tt; once = refl; alone = tt }
outer NoResults i = record { gives = tt; once = refl; alone = tt }
outer n i = absurd i

reads : (coll : ℕ) (n : Node) → ReadsFragment coll n → Simple n
reads coll (EnumerateCollection x) i = record { gives = tt; once = refl; alone = tt }
reads coll (Index x index equal last None) i = record { gives = tt; once = refl; alone = tt }
reads coll n i = absurd i

reads_other : (n : Node) → ReadsShard n → Simple n
reads_other (EnumerateCollection x) i = record { gives = tt; once = refl; alone = tt }
reads_other (Index x index equal last None) i = record { gives = tt; once = refl; alone = tt }
reads_other n i = absurd i

keeps : (n : Node) → KeepsRowOrder n → Simple n
keeps (Filter e) i = record { gives = tt; once = refl; alone = tt }
keeps (Calculation x e) i = record { gives = tt; once = refl; alone = tt }
keeps n i = absurd i

step : (b : Plan) (n : Node) → Simple n → AllByRecursion IsNumber (vars_set (Over b n)) → RowsNumbered b
    → RowsNumbered (Over b n)
step b n s h r = (
  r,
  s.gives,
  are_numbers (sets n) (subst (λ (l : List Ident). AllByRecursion IsNumber l) s.once
      (all_parts IsNumber (set_once n) (vars_set b) h).0),
  s.alone,
)

below : (b : Plan) (n : Node) → AllByRecursion IsNumber (vars_set (Over b n))
    → AllByRecursion IsNumber (vars_set b)
below b n h = (all_parts IsNumber (set_once n) (vars_set b) h).1

sent : (b : Plan) (s : Shape) → IsSent s → Numbered b s → Numbered (Over b Remote) (Sent s)
sent b (Foot coll one) i r = (r, tt, tt, tt)
sent b (Fragment o) i r = (r, tt, tt, tt)
sent b (States xs es gs) i r = ((r.0, tt, tt, tt), r.1)
sent b s i r = absurd i

numbered : (facts : Facts) {p : Plan} {s : Shape} → Shaped facts p s → AllByRecursion IsNumber (vars_set p)
    → Numbered p s
numbered facts one_row h = tt
numbered facts (calculated {b = b} {x = x} {e = e} f k) h =
    step b (Calculation x e) (record { gives = tt; once = refl; alone = tt }) h (numbered facts k (below b (Calculation x e) h))
numbered facts (with_subquery {b = b} {s = s} {x = x} g k) h = (
  numbered facts k (below b (Subquery x s) h),
  tt,
  (is_num x h.0, tt),
  numbered facts g (all_parts IsNumber (vars_set s) (vars_set b) h.1).0,
)
numbered facts (plain_rows {b = b} {n = n} i f k) h =
    step b n (outer n i) h (numbered facts k (below b n h))
numbered facts (ordered_rows {b = b} {x = x} {index = index} {equal = equal} {last = last} {descending = d} e f k) h =
    step b (Index x index equal last (Some d)) (record { gives = tt; once = refl; alone = tt }) h
    (numbered facts k (below b (Index x index equal last (Some d)) h))
numbered facts (scatter f k) h = (numbered facts k h, tt, tt, tt)
numbered facts (distribute f k) h = (numbered facts k h, tt, tt, tt)
numbered facts (remote {b = b} {s = s} i k) h = sent b s i (numbered facts k h)
numbered facts (lowest {b = b} {n = n} {coll = coll} i f k) h =
    step b n (reads coll n i) h (numbered facts k (below b n h))
numbered facts (lowest_in_order {b = b} {x = x} {index = index} {equal = equal} {last = last} {descending = d} e f k) h =
    step b (Index x index equal last (Some d)) (record { gives = tt; once = refl; alone = tt }) h
    (numbered facts k (below b (Index x index equal last (Some d)) h))
numbered facts (other_reading {b = b} {n = n} i f k) h =
    step b n (reads_other n i) h (numbered facts k (below b n h))
numbered facts (passing {b = b} {n = n} i f k) h =
    step b n (keeps n i) h (numbered facts k (below b n h))
numbered facts (sorting f k) h = (numbered facts k h, tt, tt, tt)
numbered facts (gather k) h = (numbered facts k h, tt, tt, tt)
numbered facts (gather_in_order f k) h = (numbered facts k h, tt, tt, tt)
numbered facts (partial {b = b} {xs = xs} {es = es} {gs = gs} f k) h =
    let n = Collect xs es gs no_into stage.Partial in
    let r = step b (Collect xs es gs no_into stage.Partial) (record { gives = tt; once = refl; alone = tt }) h
    (numbered facts k (below b (Collect xs es gs no_into stage.Partial) h)) in
    (r, r.2)
numbered facts (joining {b = b} k) h = let r = numbered facts k h in ((r.0, tt, tt, tt), r.1)
numbered facts (finishing {b = b} f k) h = let r = numbered facts k h in (r.0, tt, r.1, tt)
numbered facts (returning f k) h = numbered facts k h

pub result_numbered : (facts : Facts) (p : Plan) → Shaped facts p Result
    → AllByRecursion IsNumber (vars_set p) → ResultNumbered p
result_numbered facts p h k = numbered facts h k
