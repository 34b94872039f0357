-- The attribute of a name, once one was set.
use Rattle.std.proofs.Common.{◌≡◌, ◌∙◌, ℕ, List, [], ◌∷◌, Bool, true, false, cond, refl, ap, sym}
use Rattle.std.specs.Prelude.{Some, bytes_eq}
use Rattle.std.specs.declared.cmp.Ordering.{Ordering}
use Rattle.std.specs.declared.cmp.Ordering.TheVariants.{Less, Equal, Greater}
use Rattle.std.specs.Ordering.{nat_cmp, is_eq, match_ordering}
use Rattle.std.specs.Cmp.Lexicographic.{slice_cmp}
use Rattle.std.proofs.lemmas.Cmp.{nat_list_cmp_total, tied_itself}
use Rattle.std.proofs.lemmas.Map.Text.{is_eq-slice_cmp}
use Rattle.std.proofs.lemmas.Slice.Eq.{bytes_eq-Decides}
use Rattle.aql_value.specs.Datum.{Datum}
use Rattle.aql_value.specs.Attributes.{with_attribute, attribute}
use Rattle.aql_plan_laws.specs.laws.Attributes.{named_first}

once : {X : Type 0} (b : Bool) (x y z : X) → cond b x z ≡ cond b x (cond b y z)
once true x y z = refl
once false x y z = refl

in_turn : {X : Type 0} (a b : Bool) (x y z : X) → (a ≡ true → b ≡ true → ⊥)
    → cond a x (cond b y z) ≡ cond b y (cond a x z)
in_turn true true x y z h = absurd (h refl refl)
in_turn true false x y z h = refl
in_turn false b x y z h = refl

apart : (k n m : List ℕ) → slice_cmp nat_cmp n m ≡ Greater → bytes_eq k m ≡ true → bytes_eq k n ≡ true → ⊥
apart k n m g h l =
    let a : k ≡ m = (bytes_eq-Decides k m).0 h in
    let b : k ≡ n = (bytes_eq-Decides k n).0 l in
    let e : slice_cmp nat_cmp n m ≡ Equal
    = ap (slice_cmp nat_cmp n) (sym a ∙ b) ∙ tied_itself nat_list_cmp_total n in cc

pub set_name : (k n : List ℕ) (v : Datum) (fs : List (List ℕ × Datum))
    → attribute k (with_attribute n v fs) ≡ cond (bytes_eq k n) (Some v) (attribute k fs)
set_name k n v [] = named_first k (n, v) []
set_name k n v (f ∷ fs) = by (slice_cmp nat_cmp n f.0) refl (set_name k n v fs)
  where
    by : (o : Ordering) → slice_cmp nat_cmp n f.0 ≡ o
        → attribute k (with_attribute n v fs) ≡ cond (bytes_eq k n) (Some v) (attribute k fs)
        → attribute k (match_ordering o ((n, v) ∷ f ∷ fs) ((n, v) ∷ fs) (f ∷ with_attribute n v fs))
        ≡ cond (bytes_eq k n) (Some v) (attribute k (f ∷ fs))
    by Less e h = named_first k (n, v) (f ∷ fs)
    by Equal e h =
        let same : n ≡ f.0
        = (bytes_eq-Decides n f.0).0 (sym (is_eq-slice_cmp n f.0) ∙ ap is_eq e) in
        named_first k (n, v) fs ∙ once (bytes_eq k n) (Some v) (Some f.1) (attribute k fs)
        ∙ ap (λ (m : List ℕ). cond (bytes_eq k n) (Some v) (cond (bytes_eq k m) (Some f.1) (attribute k fs)))
        same
        ∙ ap (cond (bytes_eq k n) (Some v)) (sym (named_first k f fs))
    by Greater e h = named_first k f (with_attribute n v fs)
        ∙ ap (cond (bytes_eq k f.0) (Some f.1)) h
        ∙ in_turn (bytes_eq k f.0) (bytes_eq k n) (Some f.1) (Some v) (attribute k fs) (apart k n f.0 e)
        ∙ ap (cond (bytes_eq k n) (Some v)) (sym (named_first k f fs))
