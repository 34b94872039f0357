-- COLLECT may always give something: whichever rows the groups keep, it makes the same of them and of the
-- rows that come.
use Rattle.std.proofs.Common.{◌≡◌, ◌∙◌, ◌⊎◌, inl, inr, ℕ, suc, ◌+◌, List, [], ◌∷◌, ◌++◌, map, Bool, true, false, ◌||◌, Option, Some, None, refl, sym, ap, ap₂, subst, true≢false, arith}
use Rattle.std.specs.Prelude.{slice_get, MatchOption, IsPermutation}
use Rattle.std.specs.List.{AllZip}
use mathlib.Core.Bool.{false≢true}
use Rattle.std.proofs.lemmas.List.{map-append}
use Rattle.std.proofs.lemmas.List.Elements.{filter-append}
use Rattle.aql_value.specs.Datum.{Datum}
use Rattle.aql_value.specs.Contents.{list, elements, same, is_in}
use Rattle.aql_value.specs.View.{datums_in}
use Rattle.aql_func.specs.Arguments.{argument}
use Rattle.aql_func.specs.Lists.{firsts, sort_values}
use Rattle.aql_func.specs.laws.Firsts.{same_is}
use Rattle.aql_tree.specs.declared.syntax.Let.{Let}
use Rattle.aql_tree.specs.declared.syntax.Into.{Into}
use Rattle.aql_tree.specs.View.{into_part}
use Rattle.aql_meaning.specs.Row.{Row, bind, bind_all}
use Rattle.aql_meaning.specs.Groups.{GroupedRow, groups, rows_of_group, group_row, aggregate_values, WithInto, Collects}
use Rattle.aql_meaning.specs.Visible.{aggregate_vars, into_var}
use Rattle.aql_meaning.specs.Stages.{stage_functions}
use Rattle.aql_meaning.specs.laws.SomeAnswer.{some_collect as some_collects}
use Rattle.aql_block.specs.Rows.{row_of}
use Rattle.aql_exec.specs.Rests.{Rest}
use Rattle.aql_exec.specs.Counting.{nothing}
use Rattle.aql_aggregate.specs.declared.staged.StagedKind.{StagedKind}
use Rattle.aql_aggregate.specs.declared.staged.StagedAccumulator.{StagedAccumulator}
use Rattle.aql_aggregate.specs.Staged.{Staged, staged, made, KeepsIn}
use Rattle.aql_exec_rows.specs.Settings.{criteria_vars, aggregate_trees, into_of, AreKinds}
use Rattle.aql_exec_rows.specs.GroupStates.{arguments_of, into_values_of, IsGroup, key_of, members_of, keys_seen, AreGroups, Holds, functions_of}
use Rattle.aql_exec_rows.specs.Collecting.{CollectsBy, HasKinds, Keeps, more_rows, rows_from, LeavesGroups, left_collect, CollectIs}
use Rattle.aql_exec_rows.specs.declared.grouping.Grouping.{Grouping}
use Rattle.aql_exec_rows.specs.declared.group.Group.{Group}
use Rattle.aql_exec_rows.specs.declared.groups.Groups.{Groups}
use Rattle.aql_exec_rows.specs.declared.collect.GroupRows.{GroupRows}
use Rattle.aql_exec_rows.specs.laws.Later.{same_keys}
use Rattle.aql_exec_rows.specs.laws.LaterInStages.{same_in_stage}
use Rattle.aql_exec_rows.specs.laws.Members.{new_key, functions_are}

-- ---- one group

kept_alike : (o : Option StagedAccumulator) (kind : Staged) (ts ts' us : List Datum)
    → MatchOption o ⊥ (λ a. KeepsIn a kind ts) → MatchOption o ⊥ (λ a. KeepsIn a kind ts')
    → made kind (ts ++ us) ≡ made kind (ts' ++ us)
kept_alike None kind ts ts' us h h' = absurd h
kept_alike (Some a) kind ts ts' us h h' = same_in_stage a kind ts ts' us h h'

values_by : (kinds : List StagedKind) (ms ms' : List GroupedRow) (n : ℕ)
    → ((j at : ℕ) (kind : StagedKind) → at ≡ n + j → slice_get kinds j ≡ Some kind
    → made (staged kind) (arguments_of at ms) ≡ made (staged kind) (arguments_of at ms'))
    → aggregate_values (functions_of kinds) n ms ≡ aggregate_values (functions_of kinds) n ms'
values_by [] ms ms' n f = refl
values_by (kind ∷ kinds) ms ms' n f = ap₂ (λ (v : Datum) vs. v ∷ vs) (f 0 n kind (omega arith) refl)
    (values_by kinds ms ms' (n + 1) (λ j at kind e s. f (suc j) at kind (omega (arith, e)) s))

module _ (kinds : List StagedKind) (into : Option Into) where
  -- whatever members come later, the aggregates are the same; and so is what INTO took
  abbrev Alike : List GroupedRow → List GroupedRow → Type 0
  Alike ms ms' = ((us : List GroupedRow)
      → aggregate_values (functions_of kinds) 0 (ms ++ us)
      ≡ aggregate_values (functions_of kinds) 0 (ms' ++ us))
      × (into_values_of into ms ≡ into_values_of into ms')

  alike_kept : (ms ms' : List GroupedRow) (g : Group) → IsGroup kinds ms (into_values_of into ms) g
      → IsGroup kinds ms' (into_values_of into ms') g → Alike ms ms'
  alike_kept ms ms' g h h' = (
    λ us. values_by kinds (ms ++ us) (ms' ++ us) 0 (λ j at kind e s.
        let s' : slice_get kinds at ≡ Some kind = ap (slice_get kinds) (omega (arith, e)) ∙ s in
        let split = map-append (λ (row : GroupedRow). argument row.arguments at) in
        ap (made (staged kind)) (split ms us)
        ∙ kept_alike (slice_get g.accumulators.items at) (staged kind) (arguments_of at ms)
        (arguments_of at ms') (arguments_of at us) (h.kept at kind s') (h'.kept at kind s')
        ∙ sym (ap (made (staged kind)) (split ms' us))),
    sym h.taken_is ∙ h'.taken_is,
  )

  alike_at : (key : Datum) (keys : List Datum) (gs : List Group) (p p' : List GroupedRow)
      → is_in keys key ≡ true → AreGroups kinds into p keys gs → AreGroups kinds into p' keys gs
      → Alike (members_of key p) (members_of key p')
  alike_at key [] gs p p' h a a' = absurd (false≢true h)
  alike_at key (k ∷ keys) [] p p' h a a' = absurd a
  alike_at key (k ∷ keys) (g ∷ gs) p p' h a a' =
      by (same key k) refl h (λ h. alike_at key keys gs p p' h a.3 a'.3)
    where
      by : (b : Bool) → same key k ≡ b → b || is_in keys key ≡ true
          → (is_in keys key ≡ true → Alike (members_of key p) (members_of key p'))
          → Alike (members_of key p) (members_of key p')
      by true e h rest = subst (λ key. Alike (members_of key p) (members_of key p')) (sym (same_is key k e))
          (alike_kept (members_of k p) (members_of k p') g a.2 a'.2)
      by false e h rest = rest h

  alike_members : (ls : List Let) (key : Datum) (keys : List Datum) (gs : List Group) (p p' : List GroupedRow)
      → (ls ≡ [] → key ≡ list []) → keys ≡ keys_seen (criteria_vars ls) p
      → keys ≡ keys_seen (criteria_vars ls) p' → AreGroups kinds into p keys gs
      → AreGroups kinds into p' keys gs → Alike (members_of key p) (members_of key p')
  alike_members ls key keys gs p p' e k k' a a' = by (is_in keys key) refl
    where
      by : (b : Bool) → is_in keys key ≡ b → Alike (members_of key p) (members_of key p')
      by true h = alike_at key keys gs p p' h a a'
      by false h =
          let n = new_key ls p key e (sym (ap (λ ks. is_in ks key) k) ∙ h) in
          let n' = new_key ls p' key e (sym (ap (λ ks. is_in ks key) k') ∙ h) in
          let same : members_of key p ≡ members_of key p' = n ∙ sym n' in
          subst (Alike (members_of key p)) same ((λ us. refl), refl)

  into_alike : (ms ms' us : List GroupedRow) (row row' out : Row)
      → into_values_of into ms ≡ into_values_of into ms'
      → row ≡ row' → WithInto (into_var (into_of into)) (ms ++ us) row out
      → WithInto (into_var (into_of into)) (ms' ++ us) row' out
  into_alike = by into
    where
      by : (into : Option Into) (ms ms' us : List GroupedRow) (row row' out : Row)
          → into_values_of into ms ≡ into_values_of into ms' → row ≡ row'
          → WithInto (into_var (into_of into)) (ms ++ us) row out
          → WithInto (into_var (into_of into)) (ms' ++ us) row' out
      by None ms ms' us row row' out t e h = h ∙ e
      by (Some i) ms ms' us row row' out t e h =
          let split = map-append (λ (from : GroupedRow). from.into_value) in
          let taken = split ms us
          ∙ ap (λ ts. ts ++ map (λ (from : GroupedRow). from.into_value) us) t ∙ sym (split ms' us) in (
            h.0,
            subst (λ ts. IsPermutation ts h.0) taken h.1,
            h.2 ∙ ap (λ row. bind ((into_part i).0) row (list h.0)) e,
          )

-- ---- all groups

groups_alike : (ls : List Let) (p p' q : List GroupedRow)
    → keys_seen (criteria_vars ls) p ≡ keys_seen (criteria_vars ls) p'
    → groups (criteria_vars ls) (p ++ q) ≡ groups (criteria_vars ls) (p' ++ q)
groups_alike [] p p' q e = refl
groups_alike (l ∷ ls) p p' q e = ap (λ ks. map elements (sort_values ks))
    (ap firsts (map-append key_of p q) ∙ same_keys (map key_of q) (map key_of p) (map key_of p') e
    ∙ sym (ap firsts (map-append key_of p' q)))

zip_alike : {A B : Type 0} (P Q : A → B → Type 0) → ((x : A) (y : B) → P x y → Q x y) → (xs : List A)
    (ys : List B) → AllZip P xs ys → AllZip Q xs ys
zip_alike P Q f [] [] a = tt
zip_alike P Q f [] (y ∷ ys) a = absurd a
zip_alike P Q f (x ∷ xs) [] a = absurd a
zip_alike P Q f (x ∷ xs) (y ∷ ys) a = (f x y a.0, zip_alike P Q f xs ys a.1)

module _ (g : Grouping) (kinds : List StagedKind) (known : AreKinds g.stage g.aggregates kinds) (s : Groups)
    (start : Row) (p p' q : List GroupedRow) (h : Holds g kinds p s) (h' : Holds g kinds p' s) where
  abbrev RowOf : List GroupedRow → List Datum → Row → Type 0
  RowOf rows criteria row = WithInto (into_var (into_of g.into)) (rows_of_group criteria rows)
      (group_row (criteria_vars g.criteria) (aggregate_vars (aggregate_trees g.aggregates))
      (functions_of kinds) start rows criteria) row

  -- by the members of a group
  abbrev RowOfMembers : List GroupedRow → List Datum → Row → Type 0
  RowOfMembers ms criteria row = WithInto (into_var (into_of g.into)) ms
      (bind_all (aggregate_vars (aggregate_trees g.aggregates)) (aggregate_values (functions_of kinds) 0 ms)
      (bind_all (criteria_vars g.criteria) criteria start)) row

  row_alike : (criteria : List Datum) → (g.criteria ≡ [] → list criteria ≡ list []) → (row : Row)
      → RowOf (p ++ q) criteria row → RowOf (p' ++ q) criteria row
  row_alike criteria e row r =
      let key = list criteria in
      let split = filter-append (λ (row : GroupedRow). same key (key_of row)) in
      let alike = alike_members kinds g.into g.criteria key (datums_in s.keys.keys) s.kept.items p p' e h.keys
      h'.keys h.groups h'.groups in
      subst (λ ms. RowOfMembers ms criteria row) (sym (split p' q))
      (into_alike kinds g.into (members_of key p) (members_of key p') (members_of key q) _ _ row alike.1
      (ap (λ vs. bind_all (aggregate_vars (aggregate_trees g.aggregates)) vs
      (bind_all (criteria_vars g.criteria) criteria start)) (alike.0 (members_of key q)))
      (subst (λ ms. RowOfMembers ms criteria row) (split p q) r))

  rows_alike : (ls : List Let) → ls ≡ g.criteria → (out : List Row)
      → AllZip (RowOf (p ++ q)) (groups (criteria_vars ls) (p ++ q)) out
      → AllZip (RowOf (p' ++ q)) (groups (criteria_vars ls) (p ++ q)) out
  rows_alike [] e [] a = absurd a
  rows_alike [] e (row ∷ []) a = (row_alike [] (λ _. refl) row a.0, tt)
  rows_alike [] e (row ∷ other ∷ out) a = absurd a.1
  rows_alike (l ∷ ls) e out a = zip_alike (RowOf (p ++ q)) (RowOf (p' ++ q))
      (λ criteria row. row_alike criteria (λ n. absurd (some_let l ls (e ∙ n))) row) _ out a
    where
      is_some_let : List Let → Bool
      is_some_let [] = false
      is_some_let (l ∷ ls) = true

      some_let : (l : Let) (ls : List Let) → l ∷ ls ≡ [] → ⊥
      some_let l ls n = true≢false (ap is_some_let n)

  same_collected : (out : List Row) → CollectsBy g start (p ++ q) out → CollectsBy g start (p' ++ q) out
  same_collected out a =
      let fs = functions_are g kinds known in
      let by = λ (rows : List GroupedRow) (fs : List (List Datum → Datum)).
      Collects (criteria_vars g.criteria) (aggregate_vars (aggregate_trees g.aggregates)) fs
      (into_var (into_of g.into)) start rows out in
      subst (by (p' ++ q)) (sym fs)
      (subst (λ cs. AllZip (RowOf (p' ++ q)) cs out)
      (groups_alike g.criteria p p' q (sym h.keys ∙ h'.keys))
      (rows_alike g.criteria refl out (subst (by (p ++ q)) fs a)))

-- ---- the transform

module _ (s : GroupRows) (rows : List Row) where
  abbrev Collected : List GroupedRow → List Row → Type 0
  Collected before out = CollectsBy s.grouping (row_of s.frame.start) (before ++ more_rows s rows) out

  -- whichever rows the groups keep
  same_rows : (before before' : List GroupedRow) (out : List Row) → Keeps s before → Keeps s before'
      → Collected before out → Collected before' out
  same_rows before before' out h h' a = by h.1 h'.1
    where
      known : HasKinds s → Collected before' out
      known k = same_collected s.grouping s.kinds.items k s.groups (row_of s.frame.start) before before'
          (more_rows s rows) h.0 h'.0 out a

      by : HasKinds s ⊎ (before ≡ []) → HasKinds s ⊎ (before' ≡ []) → Collected before' out
      by (inl k) _ = known k
      by (inr e) (inl k) = known k
      by (inr e) (inr e') = subst (λ rows. Collected rows out) (e ∙ sym e') a

  some_rows : CollectIs s → (made : Bool) → s.made ≡ made → (out : List Row) × LeavesGroups made s rows out
  some_rows is true e = (rows_from s.frame s.finished.items, refl)
  some_rows is false e =
      let g = s.grouping in
      let kept = is.kept e in
      let o = some_collects (criteria_vars g.criteria) (aggregate_vars (aggregate_trees g.aggregates))
      (stage_functions g.stage (aggregate_trees g.aggregates)) (into_var (into_of g.into)) (row_of s.frame.start)
      (kept.0 ++ more_rows s rows) in (o.0, λ before h. same_rows kept.0 before o.0 kept.1 h o.1)

  pub some_left : CollectIs s → (r : Rest) × left_collect s rows r
  some_left is =
      let o = some_rows is s.made refl in (record { rows = o.0; counts = nothing }, (o.1, λ c. refl))
