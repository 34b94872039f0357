-- A plan that can be run has a tree: each of its nodes fits and stands where it should, and what its COLLECTs
-- set are numbers. And what the tally of a run counts.
use Rattle.std.specs.List.{AllByRecursion}
use Rattle.std.proofs.Common.{subst, ap, ℕ, ◌≡◌, List, Some, arith}
use Rattle.aql_value.specs.laws.Alls.{all_parts}
use Rattle.aql_block.specs.declared.tally.Tally.{Tally}
use Rattle.aql_plan.specs.declared.facts.Facts.{Facts}
use Rattle.aql_tree.specs.Tree.{no_into}
use Rattle.aql_plan.specs.Needs.{sets}
use Rattle.aql_plan.specs.Plan.{Plan, Over, Node, Index, Calculation, Subquery, Collect}
use Rattle.aql_meaning.specs.Numbered.{IsNumber}
use Rattle.aql_meaning.specs.declared.grouping.Stage.TheVariants as stage
use Rattle.aql_plan.specs.Variables.{vars_set, set_once}
use Rattle.aql_plan.specs.Shapes.{Shape, States, AllStates, Sent, Result, IsOuter, ReadsFragment, ReadsShard, KeepsRowOrder, Shaped, one_row, calculated, with_subquery, plain_rows, ordered_rows, scatter, distribute, remote, lowest, lowest_in_order, other_reading, passing, sorting, gather, gather_in_order, partial, joining, finishing, returning}
use Rattle.aql_exec.specs.Rests.{Counter, scanned_full, scanned_index, filtered, Counts, Exact}
use Rattle.aql_exec.specs.Rising.{Rose, TallyRose, IsExact, Rises}
use Rattle.aql_exec.specs.declared.surroundings.Surroundings
use Rattle.aql_net.specs.declared.logs.LogEntry.{LogEntry}
use Rattle.aql_exec.specs.Lines.{Line, no_line, opened_by, closed_by}
use Rattle.aql_net.specs.Logs.{rows_on, opened_in, closed_in}
use Rattle.aql_engine.specs.Engine.{no_tally, Tallied, OwnCounted}
use Rattle.aql_engine.specs.EachFits.{EachFits, BodyFits}
use Rattle.aql_local.specs.Building.{SetsNumbers, NodeSetsNumbers}

-- ---- each node fits

outer_body : (facts : Facts) (n : Node) → IsOuter n → BodyFits facts n
outer_body facts (Subquery x body) i = absurd i
outer_body facts n i = tt

reading_body : (facts : Facts) (coll : ℕ) (n : Node) → ReadsFragment coll n → BodyFits facts n
reading_body facts coll (Subquery x body) i = absurd i
reading_body facts coll n i = tt

shard_body : (facts : Facts) (n : Node) → ReadsShard n → BodyFits facts n
shard_body facts (Subquery x body) i = absurd i
shard_body facts n i = tt

passing_body : (facts : Facts) (n : Node) → KeepsRowOrder n → BodyFits facts n
passing_body facts (Subquery x body) i = absurd i
passing_body facts n i = tt

pub shaped_fits : (facts : Facts) (p : Plan) (s : Shape) → Shaped facts p s → EachFits facts p
shaped_fits facts p s one_row = tt
shaped_fits facts p s (calculated {b = b} f h) = (shaped_fits facts b _ h, f, tt)
shaped_fits facts p s (with_subquery {b = b} {s = t} g h) =
    (shaped_fits facts b _ h, tt, shaped_fits facts t _ g)
shaped_fits facts p s (plain_rows {b = b} {n = n} i f h) = (shaped_fits facts b _ h, f, outer_body facts n i)
shaped_fits facts p s (ordered_rows {b = b} e f h) = (shaped_fits facts b _ h, f, tt)
shaped_fits facts p s (scatter {b = b} f h) = (shaped_fits facts b _ h, f, tt)
shaped_fits facts p s (distribute {b = b} f h) = (shaped_fits facts b _ h, f, tt)
shaped_fits facts p s (remote {b = b} i h) = (shaped_fits facts b _ h, tt, tt)
shaped_fits facts p s (lowest {b = b} {n = n} {coll = coll} i f h) =
    (shaped_fits facts b _ h, f, reading_body facts coll n i)
shaped_fits facts p s (lowest_in_order {b = b} e f h) = (shaped_fits facts b _ h, f, tt)
shaped_fits facts p s (other_reading {b = b} {n = n} i f h) =
    (shaped_fits facts b _ h, f, shard_body facts n i)
shaped_fits facts p s (passing {b = b} {n = n} i f h) = (shaped_fits facts b _ h, f, passing_body facts n i)
shaped_fits facts p s (sorting {b = b} f h) = (shaped_fits facts b _ h, f, tt)
shaped_fits facts p s (gather {b = b} h) = (shaped_fits facts b _ h, tt, tt)
shaped_fits facts p s (gather_in_order {b = b} f h) = (shaped_fits facts b _ h, f, tt)
shaped_fits facts p s (partial {b = b} f h) = (shaped_fits facts b _ h, f, tt)
shaped_fits facts p s (joining {b = b} h) = (shaped_fits facts b _ h, tt, tt)
shaped_fits facts p s (finishing {b = b} f h) = (shaped_fits facts b _ h, f, tt)
shaped_fits facts p s (returning {b = b} f h) = (shaped_fits facts b _ h, f, tt)

-- ---- what a COLLECT sets are numbers

outer_numbers : (n : Node) → IsOuter n → AllByRecursion IsNumber (set_once n) → NodeSetsNumbers n
outer_numbers (Subquery x body) i a = absurd i
outer_numbers (Collect xs es gs j stage.Whole) i a = a
outer_numbers (Collect xs es gs j stage.Partial) i a = absurd i
outer_numbers (Collect xs es gs j stage.Final) i a = absurd i
outer_numbers n i a = tt

reading_numbers : (coll : ℕ) (n : Node) → ReadsFragment coll n → NodeSetsNumbers n
reading_numbers coll (Subquery x body) i = absurd i
reading_numbers coll (Collect xs es gs j s) i = absurd i
reading_numbers coll n i = tt

shard_numbers : (n : Node) → ReadsShard n → NodeSetsNumbers n
shard_numbers (Subquery x body) i = absurd i
shard_numbers (Collect xs es gs j s) i = absurd i
shard_numbers n i = tt

passing_numbers : (n : Node) → KeepsRowOrder n → NodeSetsNumbers n
passing_numbers (Subquery x body) i = absurd i
passing_numbers (Collect xs es gs j s) i = absurd i
passing_numbers n i = tt

-- what a final Collect finds was set by the partial one
abbrev FoundNumbers : Shape → Type 0
FoundNumbers (States xs es gs) = AllByRecursion IsNumber (sets (Collect xs es gs no_into stage.Partial))
FoundNumbers (AllStates xs es gs) = AllByRecursion IsNumber (sets (Collect xs es gs no_into stage.Partial))
FoundNumbers (Sent s) = FoundNumbers s
FoundNumbers s = Unit {0}

-- of the variables set in a plan, those of its top node, and the others
parts : (b : Plan) (n : Node) → AllByRecursion IsNumber (vars_set (Over b n))
    → AllByRecursion IsNumber (set_once n) × AllByRecursion IsNumber (vars_set b)
parts b n a = all_parts IsNumber (set_once n) (vars_set b) a

module _ (facts : Facts) where
  numbers : (p : Plan) (s : Shape) → Shaped facts p s → AllByRecursion IsNumber (vars_set p)
      → SetsNumbers p × FoundNumbers s
  numbers p s one_row a = (tt, tt)
  numbers p s (calculated {b = b} {x = x} {e = e} f h) a =
      (((numbers b _ h (parts b (Calculation x e) a).1).0, tt), tt)
  numbers p s (with_subquery {b = b} {s = t} {x = x} g h) a =
      let both = parts b (Subquery x t) a in
      (((numbers b _ h both.1).0, (numbers t _ g both.0.1).0), tt)
  numbers p s (plain_rows {b = b} {n = n} i f h) a =
      let both = parts b n a in
      (((numbers b _ h both.1).0, outer_numbers n i both.0), tt)
  numbers p s (ordered_rows {b = b} {x = x} {index = index} {equal = equal} {last = last}
      {descending = descending} e f h) a =
      (((numbers b _ h (parts b (Index x index equal last (Some descending)) a).1).0, tt), tt)
  numbers p s (scatter {b = b} f h) a = (((numbers b _ h a).0, tt), tt)
  numbers p s (distribute {b = b} f h) a = (((numbers b _ h a).0, tt), tt)
  numbers p s (remote {b = b} {s = t} i h) a = let below = numbers b t h a in ((below.0, tt), below.1)
  numbers p s (lowest {b = b} {n = n} {coll = coll} i f h) a =
      (((numbers b _ h (parts b n a).1).0, reading_numbers coll n i), tt)
  numbers p s (lowest_in_order {b = b} {x = x} {index = index} {equal = equal} {last = last}
      {descending = descending} e f h) a =
      (((numbers b _ h (parts b (Index x index equal last (Some descending)) a).1).0, tt), tt)
  numbers p s (other_reading {b = b} {n = n} i f h) a =
      (((numbers b _ h (parts b n a).1).0, shard_numbers n i), tt)
  numbers p s (passing {b = b} {n = n} i f h) a =
      (((numbers b _ h (parts b n a).1).0, passing_numbers n i), tt)
  numbers p s (sorting {b = b} f h) a = (((numbers b _ h a).0, tt), tt)
  numbers p s (gather {b = b} h) a = (((numbers b _ h a).0, tt), tt)
  numbers p s (gather_in_order {b = b} f h) a = (((numbers b _ h a).0, tt), tt)
  numbers p s (partial {b = b} {xs = xs} {es = es} {gs = gs} f h) a =
      let both = parts b (Collect xs es gs no_into stage.Partial) a in
      (((numbers b _ h both.1).0, both.0), both.0)
  numbers p s (joining {b = b} {xs = xs} {es = es} {gs = gs} h) a =
      let below = numbers b (Sent (States xs es gs)) h a in ((below.0, tt), below.1)
  numbers p s (finishing {b = b} {xs = xs} {es = es} {gs = gs} f h) a =
      let below = numbers b (AllStates xs es gs) h a in ((below.0, below.1), tt)
  numbers p s (returning {b = b} f h) a = (((numbers b _ h a).0, tt), tt)

  pub sets_numbers : (p : Plan) → Shaped facts p Result → AllByRecursion IsNumber (vars_set p)
      → SetsNumbers p
  sets_numbers p h a = (numbers p Result h a).0

-- ---- counts

-- what a tally that began at nothing counts
pub counted_from_none : {W : Type 0} (p : Surroundings.Ghosts W) (e : Exact) (t t' : Tally) (w w' : W) (d : Counts)
    (log : List LogEntry) → ((l : ℕ) → p.flight w l ≡ no_line)
    → ((l : ℕ) → rows_on l log ≡ (p.flight w' l).sent)
    → ((l : ℕ) → opened_in l log ≡ opened_by (p.flight w' l).talk)
    → ((l : ℕ) → closed_in l log ≡ closed_by (p.flight w' l).talk (p.flight w' l).flying)
    → t ≡ no_tally → Rises p (IsExact e) t w t' w' d → Tallied e t' log d
counted_from_none p e t t' w w' d log none sent opened closed k h = record {
  added = h.added;
  most = h.most;
  exact = h.exact;
  tally = subst (λ (z : Tally). TallyRose z t' (h.added scanned_full) (h.added scanned_index) (h.added filtered))
      k (h.full, h.index, h.dropped);
  sent = λ l. (let a = ap (λ (z : Line). z.sent) (none l) in let b = sent l in let s = h.sent l in
      omega (arith, a, b, s));
  opened = λ l. (let a = ap (λ (z : Line). opened_by z.talk) (none l) in let b = opened l in let s = h.opened l in
      omega (arith, a, b, s));
  closed = λ l. (let b = closed l in let s = h.closed l in omega (arith, b, s));
}

-- and the servers count the same
pub own_from_none : {W : Type 0} (p : Surroundings.Ghosts W) (x : Counter → Type 0) (t t' : Tally) (w w' : W)
    (d : Counts) → t ≡ no_tally → Rises p x t w t' w' d → OwnCounted (p.counted w) (p.counted w') t'
own_from_none p x t t' w w' d k h = record {
  read = h.added scanned_full;
  found = h.added scanned_index;
  read_is = (
    subst (λ (z : Tally). Rose z.scanned_full t'.scanned_full (h.added scanned_full)) k h.full,
    h.own_full,
  );
  found_is = (
    subst (λ (z : Tally). Rose z.scanned_index t'.scanned_index (h.added scanned_index)) k h.index,
    h.own_index,
  );
}
