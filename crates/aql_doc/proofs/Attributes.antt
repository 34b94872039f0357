-- An attribute that was set is there, and the others stay.
use Rattle.std.proofs.Common.{◌≡◌, ℕ, List, [], ◌∷◌, Some, None, Option, Less, Equal, Greater, refl, sym, ap, ◌∙◌, is_some, option_map, true}
use Rattle.std.specs.Ordering.{nat_cmp, match_ordering}
use Rattle.std.specs.Cmp.Lexicographic.{slice_cmp}
use Rattle.std.proofs.lemmas.Cmp.{nat_list_cmp_total, tied_itself}
use Rattle.std.proofs.lemmas.Option.{same_Some}
use Rattle.std.specs.Borrow.{Bor}
use Rattle.std.specs.Prelude.{IfSome}
use Rattle.aql_value.specs.Datum.{Datum, text, object_of}
use Rattle.aql_value.specs.View.{datum_of}
use Rattle.aql_value.specs.WellFormed.{FieldsWellFormed}
use Rattle.aql_value.specs.declared.values.Value.{Value}
use Rattle.aql_value.specs.laws.Kept.{attribute_absent}
use Rattle.aql_value.specs.Attributes.{attribute, with_attribute}
use Rattle.aql_value.specs.laws.Ranks.{same_bytes}

itself : (k : List ℕ) → slice_cmp nat_cmp k k ≡ Equal
itself k = tied_itself nat_list_cmp_total k

pub attribute_same : (k : List ℕ) (t : Datum) (fs : List (List ℕ × Datum))
    → attribute k (with_attribute k t fs) ≡ Some t
attribute_same k t [] = rw (itself k) refl
attribute_same k t (f ∷ fs) =
    elim (slice_cmp nat_cmp k f.0)
    as (λ o. slice_cmp nat_cmp k f.0 ≡ o
    → attribute k (match_ordering o ((k, t) ∷ f ∷ fs) ((k, t) ∷ fs) (f ∷ with_attribute k t fs)) ≡ Some t) [
      | Less ↦ λ e. rw (itself k) refl
      | Equal ↦ λ e. rw (itself k) refl
      | Greater ↦ λ e. rw e (attribute_same k t fs)
    ] refl

pub attribute_other : (k l : List ℕ) (t : Datum) (fs : List (List ℕ × Datum))
    → slice_cmp nat_cmp k l ≡ Greater
    → attribute k (with_attribute l t fs) ≡ attribute k fs
attribute_other k l t [] g = rw g refl
attribute_other k l t (f ∷ fs) g =
    elim (slice_cmp nat_cmp l f.0)
    as (λ o. slice_cmp nat_cmp l f.0 ≡ o
    → attribute k (match_ordering o ((l, t) ∷ f ∷ fs) ((l, t) ∷ fs) (f ∷ with_attribute l t fs))
    ≡ attribute k (f ∷ fs)) [
      | Less ↦ λ e. rw g refl
      | Equal ↦ λ e.
          let h : slice_cmp nat_cmp k f.0 ≡ Greater =
          ap (slice_cmp nat_cmp k) (sym (same_bytes l f.0 e)) ∙ g in
          rw (g, h) refl
      | Greater ↦ λ e. ap (λ r. match_ordering (slice_cmp nat_cmp k f.0) r (Some f.1) r)
          (attribute_other k l t fs g)
    ] refl

-- an attribute that is there may be set again
there : (k : List ℕ) (t : Datum) (fs : List (List ℕ × Datum)) → FieldsWellFormed (object_of fs)
    → attribute k fs ≡ Some t → fs ≡ with_attribute k t fs
there k t [] w e = absurd (cc)
there k t (f ∷ fs) w e =
    elim (slice_cmp nat_cmp k f.0)
    as (λ o. slice_cmp nat_cmp k f.0 ≡ o
    → match_ordering o (attribute k fs) (Some f.1) (attribute k fs) ≡ Some t
    → f ∷ fs ≡ match_ordering o ((k, t) ∷ f ∷ fs) ((k, t) ∷ fs) (f ∷ with_attribute k t fs)) [
      | Less ↦ λ b h.
          let none : attribute k (f ∷ fs) ≡ None = attribute_absent k (f ∷ fs) 0 w tt b in
          absurd (cc (none, e))
      | Equal ↦ λ b h.
          let name = same_bytes k f.0 b in
          let value = same_Some f.1 t h in λ i. (sym name i, value i) ∷ fs
      | Greater ↦ λ b h. ap (λ rest. f ∷ rest) (there k t fs w.2 h)
    ] refl e

pub stays : (k s : List ℕ) (fs : List (List ℕ × Datum)) (o : Option Datum) (r : Option (Bor Value))
    → FieldsWellFormed (object_of fs) → attribute k fs ≡ o → option_map (λ v. datum_of v.now) r ≡ o
    → is_some r ≡ true → IfSome o (λ t. t ≡ text s) → fs ≡ with_attribute k (text s) fs
stays k s fs o None w e f b h = absurd (cc)
stays k s fs None (Some v) w e f b h = absurd (cc)
stays k s fs (Some t) (Some v) w e f b h = there k (text s) fs w (e ∙ ap Some h)
