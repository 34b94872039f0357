-- What one accumulator of a stage keeps of two lists: whatever comes later, the stage makes the same of both.
use Rattle.std.proofs.Common.{◌≡◌, ◌<◌, ◌≤◌, ◌^◌, inl, inr, List, [], ◌∷◌, ◌++◌, length, filter, map, Bool, true, false, cond, ◌||◌, refl, sym, ap, ◌∙◌, arith}
use Rattle.std.specs.Prelude.{ℤ, pos, ◌+ℤ◌, ◌*ℤ◌, nat_lt, flat_map}
use Rattle.std.specs.Int.{int_div_euclid, int_rem_euclid}
use Rattle.std.specs.List.{list_any}
use Rattle.std.proofs.lemmas.List.{map-append}
use Rattle.std.proofs.lemmas.Grind.{flat_map-append}
use Rattle.aql_value.specs.Datum.{Datum, null, boolean, number}
use Rattle.aql_value.specs.Contents.{list, elements, same, is_in}
use Rattle.aql_value.specs.Truth.{truth}
use Rattle.aql_value.specs.Convert.{to_number, number_or_null}
use Rattle.aql_func.specs.Lists.{distinct, sort_values}
use Rattle.aql_func.specs.Aggregates.{Aggregate, count, sum, min, max, sorted_unique, count_distinct, aggregate, state, join, count_of, sum_state, exact_sum, is_null, is_bad, is_number, best, lesser, greater, at_most_one, part_at, state_sum, join_counts, join_sums, is_spoilt}
use Rattle.aql_meaning.specs.declared.grouping.Stage.{Stage}
use Rattle.aql_meaning.specs.declared.grouping.Stage.TheVariants as stage
use Rattle.aql_aggregate.specs.declared.accumulator.Accumulator.{Accumulator}
use Rattle.aql_aggregate.specs.declared.accumulator.Accumulator.TheVariants as members
use Rattle.aql_aggregate.specs.States.{Sums, Keeps}
use Rattle.aql_aggregate.specs.laws.Counts.{total, total_append}
use Rattle.aql_aggregate.specs.laws.Totals.{any_append}
use Rattle.aql_aggregate.specs.laws.Members.{distinct_alike, in_distinct}
use Rattle.aql_aggregate.specs.declared.staged_accumulator.PartialAccumulator.{PartialAccumulator}
use Rattle.aql_aggregate.specs.declared.staged_accumulator.PartialAccumulator.TheVariants as part
use Rattle.aql_aggregate.specs.declared.summing.RunningSum.{RunningSum}
use Rattle.aql_aggregate.specs.declared.joining.JoinedCounts.{JoinedCounts}
use Rattle.aql_aggregate.specs.declared.joining.JoinedSums.{JoinedSums}
use Rattle.aql_aggregate.specs.declared.joining.StateAccumulator.{StateAccumulator}
use Rattle.aql_aggregate.specs.declared.joining.StateAccumulator.TheVariants as joined
use Rattle.aql_aggregate.specs.declared.staged.StagedAccumulator.{StagedAccumulator}
use Rattle.aql_aggregate.specs.declared.staged.StagedAccumulator.TheVariants as code
use Rattle.aql_aggregate.specs.PartialStates as parts
use Rattle.aql_aggregate.specs.Joined.{CountsJoin, SumsJoin, Joins}
use Rattle.aql_aggregate.specs.Staged.{Staged, made_in, made, KeepsAt, KeepsIn}
use Rattle.aql_aggregate.specs.laws.Alike.{same_option, same_distinct}
use Rattle.aql_aggregate.specs.laws.Sums.{numbers_append}
use Rattle.aql_aggregate.specs.laws.AnyStates.{by_parts}
use Rattle.aql_exec_rows.specs.laws.Later.{Alike, alike, lost, same_count, same_least, same_greatest, same_later}

-- ---- what one accumulator keeps of two lists is the same

least_of : (a : Accumulator) (ts us : List Datum) → Keeps a min ts → Keeps a min us
    → best lesser ts ≡ best lesser us
least_of (members.Count n) ts us h k = absurd h
least_of (members.Sum s) ts us h k = absurd h
least_of (members.Min v) ts us h k = sym h ∙ k
least_of (members.Max v) ts us h k = absurd h
least_of (members.SortedUnique set) ts us h k = absurd h
least_of (members.CountDistinct set) ts us h k = absurd h

greatest_of : (a : Accumulator) (ts us : List Datum) → Keeps a max ts → Keeps a max us
    → best greater ts ≡ best greater us
greatest_of (members.Count n) ts us h k = absurd h
greatest_of (members.Sum s) ts us h k = absurd h
greatest_of (members.Min v) ts us h k = absurd h
greatest_of (members.Max v) ts us h k = sym h ∙ k
greatest_of (members.SortedUnique set) ts us h k = absurd h
greatest_of (members.CountDistinct set) ts us h k = absurd h

distinct_of : (a : Accumulator) (ts us : List Datum) → Keeps a sorted_unique ts → Keeps a sorted_unique us
    → distinct ts ≡ distinct us
distinct_of (members.Count n) ts us h k = absurd h
distinct_of (members.Sum s) ts us h k = absurd h
distinct_of (members.Min v) ts us h k = absurd h
distinct_of (members.Max v) ts us h k = absurd h
distinct_of (members.SortedUnique set) ts us h k = ap sort_values (sym h ∙ k)
distinct_of (members.CountDistinct set) ts us h k = absurd h

-- ---- states of members

least_later : (a : Accumulator) (ts ts' us : List Datum) → parts.KeepsAlike a min ts
    → parts.KeepsAlike a min ts' → state min (ts ++ us) ≡ state min (ts' ++ us)
least_later a ts ts' us h h' = ap at_most_one (same_least us ts ts'
    (sym (same_option _ _ h.2) ∙ least_of a h.0 h'.0 h.1 h'.1 ∙ same_option _ _ h'.2))

greatest_later : (a : Accumulator) (ts ts' us : List Datum) → parts.KeepsAlike a max ts
    → parts.KeepsAlike a max ts' → state max (ts ++ us) ≡ state max (ts' ++ us)
greatest_later a ts ts' us h h' = ap at_most_one (same_greatest us ts ts'
    (sym (same_option _ _ h.2) ∙ greatest_of a h.0 h'.0 h.1 h'.1 ∙ same_option _ _ h'.2))

distinct_later : (a : Accumulator) (ts ts' us : List Datum) → parts.KeepsAlike a sorted_unique ts
    → parts.KeepsAlike a sorted_unique ts' → list (distinct (ts ++ us)) ≡ list (distinct (ts' ++ us))
distinct_later a ts ts' us h h' =
    let e : distinct ts ≡ distinct ts' = sym (same_distinct h.0 ts h.2) ∙ distinct_of a h.0 h'.0 h.1 h'.1
    ∙ same_distinct h'.0 ts' h'.2 in
    ap list (distinct_alike (ts ++ us) (ts' ++ us) (λ x. any_append (same x) ts us
    ∙ ap (λ b. b || is_in us x) (sym (in_distinct ts x) ∙ ap (λ l. is_in l x) e ∙ in_distinct ts' x)
    ∙ sym (any_append (same x) ts' us)))

abbrev numbers : List Datum → ℤ
numbers ts = exact_sum (filter is_number ts)

-- the state of SUM of so many members, a mark and a sum
abbrev formed : Datum → Bool → ℤ → Datum
formed size bad n = let z = cond (is_null size) (pos 0) n in
    list (size ∷ boolean bad ∷ number (int_div_euclid z (pos (2 ^ 63)))
    ∷ number (int_rem_euclid z (pos (2 ^ 63))) ∷ [])

sum_later : (s : RunningSum) (ts ts' us : List Datum) → Sums s ts → Sums s ts'
    → sum_state (ts ++ us) ≡ sum_state (ts' ++ us)
sum_later s ts ts' us h h' = by (alike s.count ts ts' h.counted h'.counted)
  where
    marks : list_any is_bad (ts ++ us) ≡ list_any is_bad (ts' ++ us)
    marks = any_append is_bad ts us ∙ ap (λ b. b || list_any is_bad us) (sym h.marked ∙ h'.marked)
        ∙ sym (any_append is_bad ts' us)

    large : 2 ^ 63 ≤ length ts → 2 ^ 63 ≤ length ts' → sum_state (ts ++ us) ≡ sum_state (ts' ++ us)
    large l l' = ap (λ size. formed size (list_any is_bad (ts ++ us)) (numbers (ts ++ us))) (lost ts us l)
        ∙ ap (λ b. formed null b (pos 0)) marks
        ∙ sym (ap (λ size. formed size (list_any is_bad (ts' ++ us)) (numbers (ts' ++ us))) (lost ts' us l'))

    short : length ts ≡ length ts' → (b : Bool) → nat_lt (length ts) (2 ^ 63) ≡ b
        → sum_state (ts ++ us) ≡ sum_state (ts' ++ us)
    short e false q = let l : 2 ^ 63 ≤ length ts = grind (arith, q) in large l (omega (arith, l, e))
    short e true q =
        let l : length ts < 2 ^ 63 = grind (arith, q) in
        let z : numbers ts ≡ numbers ts' = sym (h.added l) ∙ h'.added (omega (arith, l, e)) in
        let n : numbers (ts ++ us) ≡ numbers (ts' ++ us) = numbers_append ts us
        ∙ ap (λ z. z +ℤ numbers us) z ∙ sym (numbers_append ts' us) in
        ap (λ size. formed size (list_any is_bad (ts ++ us)) (numbers (ts ++ us)))
        (same_count s.count ts ts' us h.counted h'.counted)
        ∙ ap (λ b. formed (count_of (ts' ++ us)) b (numbers (ts ++ us))) marks
        ∙ ap (formed (count_of (ts' ++ us)) (list_any is_bad (ts' ++ us))) n

    by : Alike ts ts' → sum_state (ts ++ us) ≡ sum_state (ts' ++ us)
    by (inl e) = short e (nat_lt (length ts) (2 ^ 63)) refl
    by (inr l) = large l.0 l.1

part_later : (a : PartialAccumulator) (ts ts' us : List Datum) → parts.Keeps a ts → parts.Keeps a ts'
    → state (parts.kind_of a) (ts ++ us) ≡ state (parts.kind_of a) (ts' ++ us)
part_later (part.Count n) ts ts' us h h' = same_count n ts ts' us h h'
part_later (part.Sum s) ts ts' us h h' = sum_later s ts ts' us h h'
part_later (part.Min a) ts ts' us h h' = least_later a ts ts' us h h'
part_later (part.Max a) ts ts' us h h' = greatest_later a ts ts' us h h'
part_later (part.SortedUnique a) ts ts' us h h' = distinct_later a ts ts' us h h'
part_later (part.CountDistinct a) ts ts' us h h' = distinct_later a ts ts' us h h'

-- ---- joined states

marked_later : (p : Datum → Bool) (b : Bool) (ts ts' us : List Datum) → b ≡ list_any p ts → b ≡ list_any p ts'
    → list_any p (ts ++ us) ≡ list_any p (ts' ++ us)
marked_later p b ts ts' us h h' = any_append p ts us ∙ ap (λ b. b || list_any p us) (sym h ∙ h')
    ∙ sym (any_append p ts' us)

summed_later : (z : ℤ) (ts ts' us : List Datum) → z ≡ exact_sum ts → z ≡ exact_sum ts'
    → exact_sum (ts ++ us) ≡ exact_sum (ts' ++ us)
summed_later z ts ts' us h h' = total_append to_number ts us ∙ ap (λ z. z +ℤ exact_sum us) (sym h ∙ h')
    ∙ sym (total_append to_number ts' us)

counts_later : (s : JoinedCounts) (ts ts' us : List Datum) → CountsJoin s ts → CountsJoin s ts'
    → join_counts (ts ++ us) ≡ join_counts (ts' ++ us)
counts_later s ts ts' us h h' =
    ap (λ b. cond b null (number_or_null (exact_sum (ts ++ us))))
    (marked_later is_null s.lost ts ts' us h.lost h'.lost)
    ∙ ap (λ z. cond (list_any is_null (ts' ++ us)) null (number_or_null z))
    (summed_later s.sum.total ts ts' us h.sum h'.sum)

sums_later : (s : JoinedSums) (ts ts' us : List Datum) → SumsJoin s ts → SumsJoin s ts'
    → join_sums (ts ++ us) ≡ join_sums (ts' ++ us)
sums_later s ts ts' us h h' =
    ap (λ b. cond b null (number_or_null (total state_sum (ts ++ us)))) spoilt
    ∙ ap (λ z. cond (is_spoilt (ts' ++ us)) null (number_or_null z)) totals
  where
    places : (place : ℤ) (ts : List Datum) → map (part_at place) (ts ++ us)
        ≡ map (part_at place) ts ++ map (part_at place) us
    places place ts = map-append (part_at place) ts us

    counts : join_counts (map (part_at (pos 0)) (ts ++ us)) ≡ join_counts (map (part_at (pos 0)) (ts' ++ us))
    counts = ap join_counts (places (pos 0) ts)
        ∙ counts_later s.counts (map (part_at (pos 0)) ts) (map (part_at (pos 0)) ts')
        (map (part_at (pos 0)) us) h.counts h'.counts
        ∙ sym (ap join_counts (places (pos 0) ts'))

    spoilt : is_spoilt (ts ++ us) ≡ is_spoilt (ts' ++ us)
    spoilt = ap (λ t. is_null t || list_any (λ s. truth (part_at (pos 1) s)) (ts ++ us)) counts
        ∙ ap (λ b. is_null (join_counts (map (part_at (pos 0)) (ts' ++ us))) || b)
        (marked_later (λ s. truth (part_at (pos 1) s)) s.bad ts ts' us h.bad h'.bad)

    first : total state_sum ts ≡ total state_sum ts'
    first = by_parts ts
        ∙ ap (λ z. z *ℤ pos (2 ^ 63) +ℤ exact_sum (map (part_at (pos 3)) ts)) (sym h.high ∙ h'.high)
        ∙ ap (λ z. exact_sum (map (part_at (pos 2)) ts') *ℤ pos (2 ^ 63) +ℤ z) (sym h.low ∙ h'.low)
        ∙ sym (by_parts ts')

    totals : total state_sum (ts ++ us) ≡ total state_sum (ts' ++ us)
    totals = total_append state_sum ts us ∙ ap (λ z. z +ℤ total state_sum us) first
        ∙ sym (total_append state_sum ts' us)

-- the members in the states
members_later : (a : Accumulator) (kind : Aggregate) (ts ts' us : List Datum)
    → Keeps a kind (flat_map elements ts) → Keeps a kind (flat_map elements ts')
    → aggregate kind (flat_map elements (ts ++ us)) ≡ aggregate kind (flat_map elements (ts' ++ us))
members_later a kind ts ts' us h h' = ap (aggregate kind) (flat_map-append elements ts us)
    ∙ same_later a kind (flat_map elements ts) (flat_map elements ts') (flat_map elements us) h h'
    ∙ sym (ap (aggregate kind) (flat_map-append elements ts' us))

joined_later : (a : StateAccumulator) (kind : Aggregate) (ts ts' us : List Datum) → Joins a kind ts
    → Joins a kind ts' → join kind (ts ++ us) ≡ join kind (ts' ++ us)
joined_later (joined.Count s) count ts ts' us h h' = counts_later s ts ts' us h h'
joined_later (joined.Sum s) sum ts ts' us h h' = sums_later s ts ts' us h h'
joined_later (joined.Min a) min ts ts' us h h' = members_later a min ts ts' us h h'
joined_later (joined.Max a) max ts ts' us h h' = members_later a max ts ts' us h h'
joined_later (joined.SortedUnique a) sorted_unique ts ts' us h h' =
    members_later a sorted_unique ts ts' us h h'
joined_later (joined.CountDistinct a) count_distinct ts ts' us h h' =
    members_later a count_distinct ts ts' us h h'
joined_later (joined.Count s) sum ts ts' us h h' = absurd h
joined_later (joined.Count s) min ts ts' us h h' = absurd h
joined_later (joined.Count s) max ts ts' us h h' = absurd h
joined_later (joined.Count s) sorted_unique ts ts' us h h' = absurd h
joined_later (joined.Count s) count_distinct ts ts' us h h' = absurd h
joined_later (joined.Sum s) count ts ts' us h h' = absurd h
joined_later (joined.Sum s) min ts ts' us h h' = absurd h
joined_later (joined.Sum s) max ts ts' us h h' = absurd h
joined_later (joined.Sum s) sorted_unique ts ts' us h h' = absurd h
joined_later (joined.Sum s) count_distinct ts ts' us h h' = absurd h
joined_later (joined.Min a) count ts ts' us h h' = absurd h
joined_later (joined.Min a) sum ts ts' us h h' = absurd h
joined_later (joined.Min a) max ts ts' us h h' = absurd h
joined_later (joined.Min a) sorted_unique ts ts' us h h' = absurd h
joined_later (joined.Min a) count_distinct ts ts' us h h' = absurd h
joined_later (joined.Max a) count ts ts' us h h' = absurd h
joined_later (joined.Max a) sum ts ts' us h h' = absurd h
joined_later (joined.Max a) min ts ts' us h h' = absurd h
joined_later (joined.Max a) sorted_unique ts ts' us h h' = absurd h
joined_later (joined.Max a) count_distinct ts ts' us h h' = absurd h
joined_later (joined.SortedUnique a) count ts ts' us h h' = absurd h
joined_later (joined.SortedUnique a) sum ts ts' us h h' = absurd h
joined_later (joined.SortedUnique a) min ts ts' us h h' = absurd h
joined_later (joined.SortedUnique a) max ts ts' us h h' = absurd h
joined_later (joined.SortedUnique a) count_distinct ts ts' us h h' = absurd h
joined_later (joined.CountDistinct a) count ts ts' us h h' = absurd h
joined_later (joined.CountDistinct a) sum ts ts' us h h' = absurd h
joined_later (joined.CountDistinct a) min ts ts' us h h' = absurd h
joined_later (joined.CountDistinct a) max ts ts' us h h' = absurd h
joined_later (joined.CountDistinct a) sorted_unique ts ts' us h h' = absurd h

-- ---- each stage

pub same_in_stage : (a : StagedAccumulator) (kind : Staged) (ts ts' us : List Datum) → KeepsIn a kind ts
    → KeepsIn a kind ts' → made kind (ts ++ us) ≡ made kind (ts' ++ us)
same_in_stage a (s, kind) ts ts' us h h' = by a s ts ts' h h'
  where
    by : (a : StagedAccumulator) (s : Stage) (ts ts' : List Datum) → KeepsAt a s kind ts
        → KeepsAt a s kind ts' → made_in s kind (ts ++ us) ≡ made_in s kind (ts' ++ us)
    by (code.Whole a) stage.Whole ts ts' h h' = same_later a kind ts ts' us h h'
    by (code.Partial a) stage.Partial ts ts' h h' = ap (λ k. state k (ts ++ us)) (sym h.0)
        ∙ part_later a ts ts' us h.1 h'.1 ∙ ap (λ k. state k (ts' ++ us)) h.0
    by (code.Final a) stage.Final ts ts' h h' = joined_later a kind ts ts' us h h'
    by (code.Whole a) stage.Partial ts ts' h h' = absurd h
    by (code.Whole a) stage.Final ts ts' h h' = absurd h
    by (code.Partial a) stage.Whole ts ts' h h' = absurd h
    by (code.Partial a) stage.Final ts ts' h h' = absurd h
    by (code.Final a) stage.Whole ts ts' h h' = absurd h
    by (code.Final a) stage.Partial ts ts' h h' = absurd h
