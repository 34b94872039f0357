-- A row more in the groups: its key gets a place, and the group there takes the row.
use Rattle.std.proofs.Common.{◌≡◌, ℕ, List, [], ◌∷◌, ◌++◌, map, get_or, set, true, false, Option, Some, sym, ap, ◌∙◌, subst}
use Rattle.std.specs.Prelude.{slice_get, option_map, option_to_list}
use Rattle.aql_value.specs.declared.values.Value.{Value}
use Rattle.aql_value.specs.Datum.{Datum}
use Rattle.aql_value.specs.Contents.{list, elements, is_in}
use Rattle.aql_value.specs.View.{datum_of, datums_in}
use Rattle.aql_value.specs.laws.Lists.{datum_list-array_of}
use Rattle.aql_func.specs.Lists.{add}
use Rattle.aql_tree.specs.declared.syntax.Let.{Let}
use Rattle.aql_meaning.specs.declared.grouping.Stage.{Stage}
use Rattle.aql_meaning.specs.declared.grouping.Stage.TheVariants as stage
use Rattle.aql_meaning.specs.Row.{Row, value_at}
use Rattle.aql_meaning.specs.AtRows.{keys_of}
use Rattle.aql_meaning.specs.Groups.{GroupedRow}
use Rattle.aql_aggregate.specs.declared.staged.StagedKind.{StagedKind}
use Rattle.aql_exec_rows.specs.Settings.{criteria_vars, criteria_trees, seen_by}
use Rattle.aql_exec_rows.specs.GroupStates.{seen, key_of, members_of, AreGroups, Holds, Grows, Takes}
use Rattle.aql_exec_rows.specs.laws.Members.{new_key}
use Rattle.aql_exec_rows.specs.declared.grouping.Grouping.{Grouping}
use Rattle.aql_exec_rows.specs.declared.group.Group.{Group}
use Rattle.aql_exec_rows.specs.declared.groups.Groups.{Groups}
use Rattle.aql_exec_rows.proofs.Seen.{keys_more, placed, one_row_more, member_more}

module _ (g : Grouping) (kinds : List StagedKind) (at : Row) (k : Datum)
    (is : k ≡ key_of (seen g at)) (rows : List GroupedRow) (old mid : Groups)
    (h : Holds g kinds rows old) (keys : datums_in mid.keys.keys ≡ add true (datums_in old.keys.keys) k)
    (grows : Grows kinds (is_in (datums_in old.keys.keys) k) old.kept.items mid.kept.items) where
  listed : list (elements k) ≡ k
  listed = subst (λ k. list (elements k) ≡ k) (sym is)
      (ap (λ ts. list ts) (datum_list-array_of (seen g at).criteria))

  -- without criteria
  bare : (s : Stage) (ls : List Let) → ls ≡ [] → key_of (seen_by s ls g.aggregates g.into at) ≡ list []
  bare stage.Whole ls n = ap (λ (ls : List Let). list (keys_of (criteria_trees ls) at)) n
  bare stage.Partial ls n = ap (λ (ls : List Let). list (keys_of (criteria_trees ls) at)) n
  bare stage.Final ls n = ap (λ (ls : List Let). list (map (value_at at) (criteria_vars ls))) n

  unseen : is_in (datums_in old.keys.keys) k ≡ false
      → members_of k rows ≡ []
  unseen e = new_key g.criteria rows k
      (λ n. is ∙ bare g.stage g.criteria n)
      (ap (λ ks. is_in ks k) (sym h.keys) ∙ e)

  pub placed_groups : AreGroups kinds g.into rows (datums_in mid.keys.keys) mid.kept.items
  placed_groups = subst (λ ks. AreGroups kinds g.into rows ks mid.kept.items) (sym keys)
      (placed kinds g.into rows k (datums_in old.keys.keys) old.kept.items mid.kept.items listed unseen grows
      h.groups)

  pub row_added : (new : Groups) (i : ℕ) (v : Option Value) (g' : Group) (arguments : List Datum)
      → slice_get (datums_in mid.keys.keys) i ≡ Some k → new.keys ≡ mid.keys
      → new.kept.items ≡ set mid.kept.items i g'
      → arguments ≡ (seen g at).arguments
      → option_map datum_of v ≡ option_map (λ _. (seen g at).into_value) g.into
      → Takes arguments (map datum_of (option_to_list v)) (get_or mid.kept.items i g') g'
      → Holds g kinds (rows ++ seen g at ∷ []) new
  row_added new i v g' arguments place same kept args taken takes =
      let row = seen g at in
      let keys_same : datums_in new.keys.keys ≡ datums_in mid.keys.keys = ap (λ s. datums_in s.keys) same in
      let takes' = subst (λ ts. Takes ts (map datum_of (option_to_list v)) (get_or mid.kept.items i g') g') args
      takes in
      let groups = one_row_more kinds g.into rows row (datums_in mid.keys.keys) mid.kept.items i g'
      (place ∙ ap Some is) placed_groups
      (λ ms m. member_more kinds g.into ms row v (get_or mid.kept.items i g') g' taken takes' m) in
      record {
        keys = keys_same ∙ keys ∙ ap (λ ks. add true ks k) h.keys
            ∙ ap (add true _) is ∙ sym (keys_more g.criteria rows row (bare g.stage g.criteria));
        groups = subst (λ ks. AreGroups kinds g.into (rows ++ row ∷ []) ks new.kept.items) (sym keys_same)
            (subst (AreGroups kinds g.into (rows ++ row ∷ []) (datums_in mid.keys.keys)) (sym kept) groups);
      }
