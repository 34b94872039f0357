-- A row more: its key among those that were seen, and its group.
use Rattle.std.proofs.Common.{◌≡◌, ℕ, zero, suc, ◌+◌, ◌<◌, List, [], ◌∷◌, ◌++◌, length, map, get_or, set, Bool, true, false, cond, ◌||◌, Option, Some, None, refl, sym, ap, ◌∙◌, subst, true≢false, arith}
use Rattle.std.specs.Prelude.{slice_get, option_to_list, option_map, is_some, unwrap_or, ◌≤◌}
use Rattle.std.proofs.Common.{length-append}
use Rattle.std.proofs.lemmas.List.{append-nil, map-append}
use Rattle.std.proofs.lemmas.List.Elements.{filter-append}
use Rattle.std.proofs.lemmas.List.Folds.{list_any-append}
use Rattle.aql_value.specs.Datum.{Datum, null}
use Rattle.aql_value.specs.Contents.{list, elements, same, is_in}
use Rattle.aql_value.specs.declared.values.Value.{Value}
use Rattle.aql_value.specs.View.{datum_of}
use Rattle.aql_func.specs.Arguments.{argument}
use Rattle.aql_func.specs.Lists.{firsts}
use Rattle.aql_func.specs.laws.Firsts.{firsts_push, noted, same_flip}
use Rattle.aql_tree.specs.declared.syntax.Let.{Let}
use Rattle.aql_tree.specs.declared.syntax.Into.{Into}
use Rattle.aql_meaning.specs.Groups.{GroupedRow}
use Rattle.aql_aggregate.specs.declared.staged.StagedKind.{StagedKind}
use Rattle.aql_aggregate.specs.Staged.{staged}
use Rattle.aql_exec_rows.specs.Settings.{criteria_vars}
use Rattle.aql_exec_rows.specs.GroupStates.{AccumulatesAt, arguments_of, into_values_of, IsGroup, key_of, members_of, keys_seen, AreGroups, Grows, Takes}
use Rattle.aql_exec_rows.specs.laws.Members.{same_self, either_false}
use Rattle.aql_exec_rows.specs.declared.group.Group.{Group}

abbrev value_in : Option Datum → Datum
value_in o = unwrap_or o null

-- ---- keys

-- the keys with that of a row more
pub keys_more : (ls : List Let) (rows : List GroupedRow) (row : GroupedRow) → (ls ≡ [] → key_of row ≡ list [])
    → keys_seen (criteria_vars ls) (rows ++ row ∷ []) ≡ noted (keys_seen (criteria_vars ls) rows) (key_of row)
keys_more [] rows row e = sym (ap (λ key. noted (list [] ∷ []) key) (e refl))
keys_more (l ∷ ls) rows row e =
    ap firsts (map-append key_of rows (row ∷ [])) ∙ firsts_push (map key_of rows) (key_of row)

-- ---- members

members_push : (key : Datum) (rows : List GroupedRow) (row : GroupedRow)
    → members_of key (rows ++ row ∷ []) ≡ members_of key rows ++ cond (same key (key_of row)) (row ∷ []) []
members_push key rows row = filter-append (λ row. same key (key_of row)) rows (row ∷ [])

pub one_member_more : (key : Datum) (rows : List GroupedRow) (row : GroupedRow) → same key (key_of row) ≡ true
    → members_of key (rows ++ row ∷ []) ≡ members_of key rows ++ row ∷ []
one_member_more key rows row e =
    members_push key rows row ∙ ap (λ b. members_of key rows ++ cond b (row ∷ []) []) e

same_members : (key : Datum) (rows : List GroupedRow) (row : GroupedRow) → same key (key_of row) ≡ false
    → members_of key (rows ++ row ∷ []) ≡ members_of key rows
same_members key rows row e =
    members_push key rows row ∙ ap (λ b. members_of key rows ++ cond b (row ∷ []) []) e
    ∙ append-nil (members_of key rows)

-- ---- groups

module _ (kinds : List StagedKind) (into : Option Into) where
  -- the groups of other keys stay
  others_keep : (rows : List GroupedRow) (row : GroupedRow) (keys : List Datum) (gs : List Group)
      → is_in keys (key_of row) ≡ false → AreGroups kinds into rows keys gs
      → AreGroups kinds into (rows ++ row ∷ []) keys gs
  others_keep rows row [] [] h a = tt
  others_keep rows row [] (g ∷ gs) h a = absurd a
  others_keep rows row (key ∷ keys) [] h a = absurd a
  others_keep rows row (key ∷ keys) (g ∷ gs) h a =
      let other = either_false (same (key_of row) key) (is_in keys (key_of row)) h in
      let e = same_members key rows row (same_flip key (key_of row) ∙ other.0) in (
        a.0,
        a.1,
        subst (λ ms. IsGroup kinds ms (into_values_of into ms) g) (sym e) a.2,
        others_keep rows row keys gs other.1 a.3,
      )

  differs_at : (key k : Datum) (keys : List Datum) (i : ℕ) → slice_get keys i ≡ Some k → is_in keys key ≡ false
      → same key k ≡ false
  differs_at key k [] i e h = absurd (true≢false (sym (ap is_some e)))
  differs_at key k (x ∷ keys) zero e h =
      let both = either_false (same key x) (is_in keys key) h in
      ap (same key) (sym (ap value_in e)) ∙ both.0
  differs_at key k (x ∷ keys) (suc i) e h =
      differs_at key k keys i e (either_false (same key x) (is_in keys key) h).1

  -- the group of the row's key takes it
  pub one_row_more : (rows : List GroupedRow) (row : GroupedRow) (keys : List Datum) (gs : List Group) (i : ℕ)
      (g' : Group) → slice_get keys i ≡ Some (key_of row) → AreGroups kinds into rows keys gs
      → ((ms : List GroupedRow) → IsGroup kinds ms (into_values_of into ms) (get_or gs i g')
      → IsGroup kinds (ms ++ row ∷ []) (into_values_of into (ms ++ row ∷ [])) g')
      → AreGroups kinds into (rows ++ row ∷ []) keys (set gs i g')
  one_row_more rows row [] [] i g' e a f = tt
  one_row_more rows row [] (g ∷ gs) i g' e a f = absurd a
  one_row_more rows row (key ∷ keys) [] i g' e a f = absurd a
  one_row_more rows row (key ∷ keys) (g ∷ gs) zero g' e a f =
      let k : key ≡ key_of row = ap value_in e in
      let m = one_member_more key rows row (ap (same key) (sym k) ∙ same_self key) in (
        a.0,
        a.1,
        subst (λ ms. IsGroup kinds ms (into_values_of into ms) g') (sym m) (f (members_of key rows) a.2),
        others_keep rows row keys gs (ap (is_in keys) (sym k) ∙ a.1) a.3,
      )
  one_row_more rows row (key ∷ keys) (g ∷ gs) (suc i) g' e a f =
      let m = same_members key rows row (differs_at key (key_of row) keys i e a.1) in (
        a.0,
        a.1,
        subst (λ ms. IsGroup kinds ms (into_values_of into ms) g) (sym m) a.2,
        one_row_more rows row keys gs i g' e a.3 f,
      )

  -- a new key has a group without members
  one_key_more : (rows : List GroupedRow) (k : Datum) (fresh : Group) → list (elements k) ≡ k
      → members_of k rows ≡ [] → IsGroup kinds [] [] fresh → (keys : List Datum) (gs : List Group)
      → is_in keys k ≡ false → AreGroups kinds into rows keys gs
      → AreGroups kinds into rows (keys ++ k ∷ []) (gs ++ fresh ∷ [])
  one_key_more rows k fresh l none is [] [] h a = (
    l,
    refl,
    subst (λ ms. IsGroup kinds ms (into_values_of into ms) fresh) (sym none)
        (none_taken into is),
    tt,
  )
    where
      none_taken : (into : Option Into) → IsGroup kinds [] [] fresh → IsGroup kinds [] (into_values_of into []) fresh
      none_taken None is = is
      none_taken (Some i) is = is
  one_key_more rows k fresh l none is [] (g ∷ gs) h a = absurd a
  one_key_more rows k fresh l none is (key ∷ keys) [] h a = absurd a
  one_key_more rows k fresh l none is (key ∷ keys) (g ∷ gs) h a =
      let both = either_false (same k key) (is_in keys k) h in
      let other : is_in (keys ++ k ∷ []) key ≡ false =
      list_any-append (same key) keys (k ∷ []) ∙ ap (λ b. b || (same key k || false)) a.1
      ∙ ap (λ b. b || false) (same_flip key k ∙ both.0) in
      (a.0, other, a.2, one_key_more rows k fresh l none is keys gs both.1 a.3)

  pub placed : (rows : List GroupedRow) (k : Datum) (keys : List Datum) (gs gs' : List Group)
      → list (elements k) ≡ k → (is_in keys k ≡ false → members_of k rows ≡ [])
      → Grows kinds (is_in keys k) gs gs' → AreGroups kinds into rows keys gs
      → AreGroups kinds into rows (noted keys k) gs'
  placed rows k keys gs gs' l none h a = by (is_in keys k) refl h
    where
      by : (b : Bool) → is_in keys k ≡ b → Grows kinds b gs gs'
          → AreGroups kinds into rows (cond b keys (keys ++ k ∷ [])) gs'
      by true e h = subst (AreGroups kinds into rows keys) (sym h) a
      by false e h = subst (AreGroups kinds into rows (keys ++ k ∷ [])) (sym h.2)
          (one_key_more rows k h.0 l (none e) h.1 keys gs e a)

  pub as_many : (rows : List GroupedRow) (keys : List Datum) (gs : List Group) → AreGroups kinds into rows keys gs
      → length gs ≡ length keys
  as_many rows [] [] a = refl
  as_many rows [] (g ∷ gs) a = absurd a
  as_many rows (key ∷ keys) [] a = absurd a
  as_many rows (key ∷ keys) (g ∷ gs) a = ap suc (as_many rows keys gs a.3)

  pub counts_at : (rows : List GroupedRow) (keys : List Datum) (gs : List Group) (i : ℕ) (d : Group)
      → AreGroups kinds into rows keys gs → i < length gs
      → length (get_or gs i d).accumulators.items ≡ length kinds
  counts_at rows keys [] i d a l = absurd (omega (arith, l))
  counts_at rows [] (g ∷ gs) i d a l = absurd a
  counts_at rows (key ∷ keys) (g ∷ gs) zero d a l = a.2.count
  counts_at rows (key ∷ keys) (g ∷ gs) (suc i) d a l = counts_at rows keys gs i d a.3 (omega (arith, l))

-- ---- one member more

listed : (v : Option Value) → map datum_of (option_to_list v) ≡ option_to_list (option_map datum_of v)
listed (Some v) = refl
listed None = refl

pub taken_more : (into : Option Into) (ms : List GroupedRow) (row : GroupedRow) (v : Option Value)
    → option_map datum_of v ≡ option_map (λ _. row.into_value) into
    → into_values_of into ms ++ map datum_of (option_to_list v) ≡ into_values_of into (ms ++ row ∷ [])
taken_more None ms row v e = listed v ∙ ap option_to_list e
taken_more (Some i) ms row v e =
    ap (λ ts. map (λ (row : GroupedRow). row.into_value) ms ++ ts) (listed v ∙ ap option_to_list e)
    ∙ sym (map-append (λ (row : GroupedRow). row.into_value) ms (row ∷ []))

pub member_more : (kinds : List StagedKind) (into : Option Into) (ms : List GroupedRow) (row : GroupedRow)
    (v : Option Value) (g g' : Group) → option_map datum_of v ≡ option_map (λ _. row.into_value) into
    → Takes row.arguments (map datum_of (option_to_list v)) g g' → IsGroup kinds ms (into_values_of into ms) g
    → IsGroup kinds (ms ++ row ∷ []) (into_values_of into (ms ++ row ∷ [])) g'
member_more kinds into ms row v g g' e t h = record {
  count = t.count ∙ h.count;
  kept = λ n kind s. subst (AccumulatesAt g'.accumulators.items n (staged kind))
      (sym (map-append (λ (row : GroupedRow). argument row.arguments n) ms (row ∷ [])))
      (t.kept n (staged kind) (arguments_of n ms) (h.kept n kind s));
  taken_is = t.taken_is ∙ ap (λ ts. ts ++ map datum_of (option_to_list v)) h.taken_is ∙ taken_more into ms row v e;
}

pub grows_by : (kinds : List StagedKind) (b : Bool) (gs gs' : List Group) → Grows kinds b gs gs'
    → length gs' ≤ length gs + 1
grows_by kinds true gs gs' h = (let e = ap length h in omega (arith, e))
grows_by kinds false gs gs' h =
    (let e = ap length h.2 in let n = length-append gs (h.0 ∷ []) in omega (arith, e, n))
