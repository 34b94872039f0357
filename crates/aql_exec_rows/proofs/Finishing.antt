-- What comes of the groups when all rows came: in ascending order of the criteria, they are what a COLLECT
-- makes of the rows.
use Rattle.std.proofs.Common.{◌≡◌, ℕ, suc, List, [], ◌∷◌, ◌++◌, length, map, drop, reverse, Bool, true, false, cond, Option, Some, None, refl, sym, ap, ap₂, ◌∙◌, subst, true≢false, append_assoc, arith}
use Rattle.std.specs.Prelude.{option_map, is_some, IsPermutation}
use Rattle.std.specs.List.{All, AllZip}
use Rattle.std.specs.List.Sorted.{IsSortedBy}
use Rattle.std.specs.Ordering.{is_lt, on}
use Rattle.std.proofs.lemmas.List.{map-append, reverse-append}
use Rattle.std.proofs.lemmas.List.Elements.{All-cons, All-head, All-tail, All-nil}
use Rattle.std.proofs.lemmas.List.Sorted.{IsPermutation-map, IsPermutation-refl, All-permutation}
use Rattle.aql_value.specs.declared.values.Value.{Value}
use Rattle.aql_value.specs.Datum.{Datum, null}
use Rattle.aql_value.specs.Contents.{list, elements, is_below}
use Rattle.aql_value.specs.Compare.{compare}
use Rattle.aql_value.specs.View.{datum_of, datums_in}
use Rattle.aql_func.specs.Lists.{among, sort_values}
use Rattle.aql_func.specs.laws.Ascending.{sorted_is}
use Rattle.aql_tree.specs.declared.syntax.Ident.{Ident}
use Rattle.aql_tree.specs.declared.syntax.Ident.TheVariants.{Num}
use Rattle.aql_tree.specs.declared.syntax.Let.{Let}
use Rattle.aql_tree.specs.declared.syntax.Into.{Into}
use Rattle.aql_meaning.specs.Row.{Row, bind, bind_all}
use Rattle.aql_meaning.specs.Groups as meaning
use Rattle.aql_meaning.specs.Groups.{GroupedRow, groups, rows_of_group, aggregate_values, WithInto}
use Rattle.aql_meaning.specs.Visible.{aggregate_vars, into_var}
use Rattle.aql_meaning.specs.Stages.{stage_functions}
use Rattle.aql_block.specs.Rows.{row_of}
use Rattle.aql_aggregate.specs.declared.staged.StagedKind.{StagedKind}
use Rattle.aql_exec_rows.specs.Settings.{criteria_vars, aggregate_trees, into_of, AreKinds}
use Rattle.aql_exec_rows.specs.GroupStates.{IsGroup, result_of_members, into_values_of, members_of, keys_seen, AreGroups, Holds, Result, finished_of, finished_in, functions_of, result_of}
use Rattle.aql_exec_rows.specs.Framed.{numbered, with_into_values, framed, IsFrame}
use Rattle.aql_exec_rows.specs.Collecting.{CollectsBy}
use Rattle.aql_exec_rows.specs.laws.Members.{functions_are}
use Rattle.aql_exec_rows.specs.declared.grouping.Grouping.{Grouping}
use Rattle.aql_exec_rows.specs.declared.group.Group.{Group}
use Rattle.aql_exec_rows.specs.declared.group.Finished.{Finished}
use Rattle.aql_exec_rows.specs.declared.groups.Groups.{Groups}
use Rattle.aql_exec_rows.specs.declared.frame.Frame.{Frame}
use Rattle.aql_exec_rows.proofs.Keyings.{sorted_seen}

-- ---- the keys in order

abbrev Listed : List Datum → Type 0
Listed [] = Unit {0}
Listed (key ∷ keys) = (list (elements key) ≡ key) × Listed keys

listed_among : (key : Datum) → list (elements key) ≡ key → (keys : List Datum) → Listed keys
    → Listed (among key keys)
listed_among key l [] ls = (l, tt)
listed_among key l (k ∷ keys) ls = by (is_below k key) (listed_among key l keys ls.1)
  where
    by : (b : Bool) → Listed (among key keys) → Listed (cond b (k ∷ among key keys) (key ∷ k ∷ keys))
    by true more = (ls.0, more)
    by false more = (l, (ls.0, ls.1))

listed_in_order : (keys : List Datum) → Listed keys → Listed (sort_values keys)
listed_in_order [] ls = tt
listed_in_order (key ∷ keys) ls = listed_among key ls.0 (sort_values keys) (listed_in_order keys ls.1)

all_listed : (kinds : List StagedKind) (into : Option Into) (rows : List GroupedRow) (keys : List Datum)
    (gs : List Group) → AreGroups kinds into rows keys gs → Listed keys
all_listed kinds into rows [] [] a = tt
all_listed kinds into rows [] (g ∷ gs) a = absurd a
all_listed kinds into rows (key ∷ keys) [] a = absurd a
all_listed kinds into rows (key ∷ keys) (g ∷ gs) a = (a.0, all_listed kinds into rows keys gs a.3)

groups_are : (ls : List Let) (rows : List GroupedRow) (keys : List Datum)
    → keys ≡ keys_seen (criteria_vars ls) rows
    → groups (criteria_vars ls) rows ≡ map elements (sort_values keys)
groups_are [] rows keys e = sym (ap (λ ks. map elements (sort_values ks)) e)
groups_are (l ∷ ls) rows keys e = sym (ap (λ ks. map elements (sort_values ks)) e)

-- ---- the row of a group

abbrev some_in : Option Ident → Ident
some_in (Some x) = x
some_in None = Num 0

pub with_into : (into : Option Into) (n : Option ℕ) (members : List GroupedRow) (row : Row)
    → option_map (λ n. Num n) n ≡ into_var (into_of into)
    → WithInto (into_var (into_of into)) members row (with_into_values n (into_values_of into members) row)
with_into None None members row e = refl
with_into None (Some n) members row e = absurd (true≢false (ap is_some e))
with_into (Some i) None members row e = absurd (true≢false (sym (ap is_some e)))
with_into (Some i) (Some n) members row e = (
  map (λ (from : GroupedRow). from.into_value) members,
  IsPermutation-refl _,
  ap (λ x. bind x row (list (map (λ (from : GroupedRow). from.into_value) members))) (ap some_in e),
)

module _ (g : Grouping) (kinds : List StagedKind) (rows : List GroupedRow) (frame : Frame)
    (is : IsFrame g frame) (known : AreKinds g.stage g.aggregates kinds) where
  abbrev RowOf : List Datum → Row → Type 0
  RowOf criteria row = WithInto (into_var (into_of g.into)) (rows_of_group criteria rows)
      (meaning.group_row (criteria_vars g.criteria) (aggregate_vars (aggregate_trees g.aggregates))
      (stage_functions g.stage (aggregate_trees g.aggregates)) (row_of frame.start) rows criteria) row

  row_of_key : (key : Datum) → list (elements key) ≡ key
      → RowOf (elements key) (framed frame (result_of g.into kinds rows key))
  row_of_key key l =
      let members = rows_of_group (elements key) rows in
      let same : members ≡ members_of key rows = ap (λ k. members_of k rows) l in
      let row = meaning.group_row (criteria_vars g.criteria) (aggregate_vars (aggregate_trees g.aggregates))
      (stage_functions g.stage (aggregate_trees g.aggregates)) (row_of frame.start) rows (elements key) in
      let values : aggregate_values (functions_of kinds) 0 (members_of key rows)
      ≡ aggregate_values (stage_functions g.stage (aggregate_trees g.aggregates)) 0 members =
      ap₂ (λ fs ms. aggregate_values fs 0 ms) (sym (functions_are g kinds known)) (sym same) in
      let inner : bind_all (numbered frame.criteria.items) (elements key) (row_of frame.start)
      ≡ bind_all (criteria_vars g.criteria) (elements key) (row_of frame.start) =
      ap (λ xs. bind_all xs (elements key) (row_of frame.start)) is.criteria in
      let outer : bind_all (numbered frame.aggregates.items)
      (aggregate_values (functions_of kinds) 0 (members_of key rows))
      (bind_all (numbered frame.criteria.items) (elements key) (row_of frame.start)) ≡ row =
      ap (λ xs. bind_all xs (aggregate_values (functions_of kinds) 0 (members_of key rows))
      (bind_all (numbered frame.criteria.items) (elements key) (row_of frame.start))) is.aggregates
      ∙ ap₂ (λ vs start. bind_all (aggregate_vars (aggregate_trees g.aggregates)) vs start) values inner in
      let out : framed frame (result_of g.into kinds rows key)
      ≡ with_into_values frame.into (into_values_of g.into members) row =
      ap₂ (λ ms row. with_into_values frame.into (into_values_of g.into ms) row) (sym same) outer in
      subst (λ out. RowOf (elements key) out) (sym out)
      (with_into g.into frame.into members row is.into_is)

  rows_of_keys : (keys : List Datum) → Listed keys
      → AllZip RowOf (map elements keys) (map (framed frame) (map (result_of g.into kinds rows) keys))
  rows_of_keys [] ls = tt
  rows_of_keys (key ∷ keys) ls = (row_of_key key ls.0, rows_of_keys keys ls.1)

  pub all_collected : (s : Groups) → Holds g kinds rows s
      → CollectsBy g (row_of frame.start) rows
      (map (framed frame) (map (result_of g.into kinds rows) (sort_values (datums_in s.keys.keys))))
  all_collected s h =
      let keys = datums_in s.keys.keys in
      subst (λ gs. AllZip RowOf gs (map (framed frame) (map (result_of g.into kinds rows) (sort_values keys))))
      (sym (groups_are g.criteria rows keys h.keys))
      (rows_of_keys (sort_values keys)
      (listed_in_order keys (all_listed kinds g.into rows keys s.kept.items h.groups)))

-- ---- sorting

module _ (of : Datum → Result) (own : (key : Datum) → (of key).criteria ≡ key) where
  abbrev Comes : Finished → Type 0
  Comes f = finished_of f ≡ of (datum_of f.criteria)

  abbrev first_result : List Result → Result
  first_result [] = of null
  first_result (r ∷ rs) = r

  all_come : (fs : List Finished) (keys : List Datum) → finished_in fs ≡ map of keys → All Comes fs
  all_come [] keys e = All-nil Comes
  all_come (f ∷ fs) [] e = absurd (let n : suc (length (finished_in fs)) ≡ 0 = ap length e in omega (arith, n))
  all_come (f ∷ fs) (key ∷ keys) e =
      let one : finished_of f ≡ of key = ap first_result e in
      let k : datum_of f.criteria ≡ key = ap (λ (r : Result). r.criteria) one ∙ own key in
      All-cons Comes f fs (one ∙ ap of (sym k)) (all_come fs keys (ap (drop 1) e))

  each_comes : (fs : List Finished) → All Comes fs
      → finished_in fs ≡ map of (datums_in (map (λ (f : Finished). f.criteria) fs))
  each_comes [] a = refl
  each_comes (f ∷ fs) a = ap₂ (λ (r : Result) rs. r ∷ rs) (All-head Comes f fs a)
      (each_comes fs (All-tail Comes f fs a))

  keys_come : (fs : List Finished) (keys : List Datum) → finished_in fs ≡ map of keys
      → datums_in (map (λ (f : Finished). f.criteria) fs) ≡ keys
  keys_come [] [] e = refl
  keys_come [] (key ∷ keys) e = absurd (let n : 0 ≡ suc (length (map of keys)) = ap length e in omega (arith, n))
  keys_come (f ∷ fs) [] e = absurd (let n : suc (length (finished_in fs)) ≡ 0 = ap length e in omega (arith, n))
  keys_come (f ∷ fs) (key ∷ keys) e = ap₂ (λ (k : Datum) ks. k ∷ ks)
      (ap (λ rs. (first_result rs).criteria) e ∙ own key) (keys_come fs keys (ap (drop 1) e))

  pub in_order : (fs fs' : List Finished) (keys : List Datum) → IsPermutation fs fs'
      → IsSortedBy (λ (a b : Finished). is_lt (compare (datum_of a.criteria) (datum_of b.criteria))) fs'
      → finished_in fs ≡ map of keys → finished_in fs' ≡ map of (sort_values keys)
  in_order fs fs' keys p s e =
      let criteria : List Finished → List Value = map (λ (f : Finished). f.criteria) in
      let order = sorted_is (criteria fs) (criteria fs')
      (IsPermutation-map (λ (f : Finished). f.criteria) fs fs' p)
      (sorted_seen (λ (f : Finished). f.criteria) (λ a b. is_lt (on datum_of compare a b)) fs' s) in
      each_comes fs' (All-permutation Comes fs fs' p (all_come fs keys e))
      ∙ ap (map of) (order ∙ ap sort_values (keys_come fs keys e))

-- ---- one group after another

-- the first of the groups that are left is finished
pub one_finished : (kinds : List StagedKind) (into : Option Into) (rows : List GroupedRow) (key : Datum)
    (keys keys' : List Datum) (g : Group) (gs kept : List Group) (all all' : List Finished) (f : Finished)
    (total : List Result) → keys' ≡ key ∷ keys → kept ≡ gs ++ g ∷ [] → all' ≡ all ++ f ∷ []
    → ((kinds : List StagedKind) (members : List GroupedRow) (taken : List Datum)
    → IsGroup kinds members taken g → finished_of f ≡ result_of_members kinds key members taken)
    → AreGroups kinds into rows keys' (reverse kept)
    × (finished_in all ++ map (result_of into kinds rows) keys' ≡ total)
    → AreGroups kinds into rows keys (reverse gs)
    × (finished_in all' ++ map (result_of into kinds rows) keys ≡ total)
one_finished kinds into rows key keys keys' g gs kept all all' f total k e p is both =
    let turned : reverse kept ≡ g ∷ reverse gs = ap reverse e ∙ reverse-append gs (g ∷ []) in
    let groups : AreGroups kinds into rows (key ∷ keys) (g ∷ reverse gs) =
    subst (AreGroups kinds into rows (key ∷ keys)) turned
    (subst (λ ks. AreGroups kinds into rows ks (reverse kept)) k both.0) in
    let one : finished_of f ≡ result_of into kinds rows key =
    is kinds (members_of key rows) (into_values_of into (members_of key rows)) groups.2 in
    let left = map (result_of into kinds rows) keys in (
      groups.3,
      ap (λ fs. finished_in fs ++ left) p ∙ ap (λ rs. rs ++ left) (map-append finished_of all (f ∷ []))
          ∙ append_assoc (finished_in all) (finished_of f ∷ []) left
          ∙ ap (λ r. finished_in all ++ r ∷ left) one
          ∙ sym (ap (λ ks. finished_in all ++ map (result_of into kinds rows) ks) k) ∙ both.1,
    )
