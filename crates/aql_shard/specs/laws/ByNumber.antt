-- The index of a collection with a number, as it is known and as servers keep it.
use Rattle.std.proofs.Common.{◌≡◌, ◌∙◌, ℕ, zero, suc, List, [], ◌∷◌, map, length, true, false, Option, Some, None, MatchOption, refl, ap, sym, subst}
use Rattle.std.specs.Prelude.{Bool, IfSome, IsSome, option_map, slice_get, unwrap_or}
use Rattle.std.specs.List.{AllByRecursion}
use Rattle.std.proofs.lemmas.Option.{slice_get-map}
use Rattle.aql_value.specs.Datum.{Datum}
use Rattle.aql_value.specs.laws.Alls.{all_append}
use Rattle.aql_doc.specs.declared.info.CollInfo.{CollInfo}
use Rattle.aql_doc.specs.Held.{Held, documents_at}
use Rattle.aql_plan.specs.declared.facts.IndexFact.{IndexFact}
use Rattle.aql_plan.specs.declared.facts.IndexKind.{IndexKind}
use Rattle.aql_plan.specs.declared.facts.IndexKind.TheVariants as kind
use Rattle.aql_plan.specs.Facts.{indexes_in, attributes_in}
use Rattle.aql_index.specs.Entries.{IndexView}
use Rattle.aql_index.specs.IndexOrder.{index_of}
use Rattle.aql_shard.specs.declared.shapes.Shape.{Shape}
use Rattle.aql_shard.specs.Known.{sorted_by, lookups, shapes, index_fact, facts_of}

-- the kinds and attributes of all indexes of a collection, and of the one with a number
abbrev pub shapes_at : List Held → ℕ → List Shape
shapes_at held coll = unwrap_or (option_map (λ (h : Held). shapes h.info) (slice_get held coll)) []

abbrev pub shape_at : List Held → ℕ → ℕ → Option Shape
shape_at held coll index = slice_get (shapes_at held coll) index

-- ---- as it is known

pub known_at : (servers : ℕ) (held : List Held) (coll index : ℕ)
    → slice_get (indexes_in (facts_of servers held) coll) index
    ≡ option_map (index_fact (documents_at held coll)) (shape_at held coll index)
known_at servers [] coll index = refl
known_at servers (h ∷ held) zero index = slice_get-map (index_fact h.documents) (shapes h.info) index
known_at servers (h ∷ held) (suc coll) index = known_at servers held coll index

abbrev attributes_of : Option Shape → List (List ℕ)
attributes_of o = unwrap_or (option_map (λ (s : Shape). s.attributes) o) []

pub attributes_at : (servers : ℕ) (held : List Held) (coll index : ℕ)
    → attributes_in (facts_of servers held) coll index ≡ attributes_of (shape_at held coll index)
attributes_at servers held coll index =
    ap (λ o. unwrap_or (option_map (λ (i : IndexFact). i.attributes) o) []) (known_at servers held coll index)
    ∙ by (shape_at held coll index)
  where
    by : (o : Option Shape) → unwrap_or (option_map (λ (i : IndexFact). i.attributes)
        (option_map (index_fact (documents_at held coll)) o)) [] ≡ attributes_of o
    by None = refl
    by (Some s) = refl

-- ---- a lookup has one attribute

abbrev pub IsOne : IndexKind → ℕ → Type 0
IsOne kind.Sorted attributes = Unit {0}
IsOne kind.Primary attributes = attributes ≡ 1
IsOne kind.Edge attributes = attributes ≡ 1

abbrev Single : Shape → Type 0
Single s = IsOne s.kind (length s.attributes)

lookups_single : (edge : Bool) → AllByRecursion Single (lookups edge)
lookups_single false = (refl, (refl, tt))
lookups_single true = (refl, (refl, (refl, (refl, tt))))

sorted_single : (lists : List (List (List ℕ))) → AllByRecursion Single (map sorted_by lists)
sorted_single [] = tt
sorted_single (names ∷ lists) = (tt, sorted_single lists)

all_single : (info : CollInfo) → AllByRecursion Single (shapes info)
all_single info = all_append Single (lookups info.edge) (map sorted_by info.indexes)
    (lookups_single info.edge) (sorted_single info.indexes)

all_at : {X : Type 0} (P : X → Type 0) (xs : List X) (i : ℕ) → AllByRecursion P xs → IfSome (slice_get xs i) P
all_at P [] i h = tt
all_at P (x ∷ xs) zero h = h.0
all_at P (x ∷ xs) (suc i) h = all_at P xs i h.1

single_at : (held : List Held) (coll index : ℕ) → IfSome (shape_at held coll index) Single
single_at [] coll index = tt
single_at (h ∷ held) zero index = all_at Single (shapes h.info) index (all_single h.info)
single_at (h ∷ held) (suc coll) index = single_at held coll index

-- ---- as it is kept

-- an index with a number that is kept of some documents is that of its attributes and of these documents;
-- each that is known is kept; and what is said of the kind and the number of attributes of the one that is
-- known, holds of the one that is kept by its width
module _ (servers : ℕ) (held : List Held) (coll index : ℕ) (documents : List Datum) (kept : Option IndexView)
    (is : kept ≡ option_map (λ (s : Shape). index_of s.attributes documents) (shape_at held coll index)) where
  pub is_kept : (v : IndexView) → kept ≡ Some v
      → v ≡ index_of (attributes_in (facts_of servers held) coll index) documents
  is_kept v e = by (shape_at held coll index) (sym is ∙ e)
      ∙ ap (λ names. index_of names documents) (sym (attributes_at servers held coll index))
    where
      by : (o : Option Shape) → option_map (λ (s : Shape). index_of s.attributes documents) o ≡ Some v
          → v ≡ index_of (attributes_of o) documents
      by None h = cc
      by (Some s) h = let same : index_of s.attributes documents ≡ v = cc in sym same

  pub has_kept : (P : IndexFact → Type 0)
      → MatchOption (slice_get (indexes_in (facts_of servers held) coll) index) ⊥ P → IsSome kept
  has_kept P h = subst IsSome (sym is)
      (by (shape_at held coll index) (subst (λ o. MatchOption o ⊥ P) (known_at servers held coll index) h))
    where
      by : (o : Option Shape) → MatchOption (option_map (index_fact (documents_at held coll)) o) ⊥ P
          → IsSome (option_map (λ (s : Shape). index_of s.attributes documents) o)
      by None k = absurd k
      by (Some s) k = refl

  pub of_kept : (P : IndexKind → ℕ → Type 0) (Q : ℕ → Type 0)
      → ((k : IndexKind) (n : ℕ) → IsOne k n → P k n → Q n) → (v : IndexView) → kept ≡ Some v
      → MatchOption (slice_get (indexes_in (facts_of servers held) coll) index) ⊥
      (λ (i : IndexFact). P i.kind (length i.attributes)) → Q v.width
  of_kept P Q f v e h = by (shape_at held coll index) (sym is ∙ e) (single_at held coll index)
      (subst (λ o. MatchOption o ⊥ (λ (i : IndexFact). P i.kind (length i.attributes)))
      (known_at servers held coll index) h)
    where
      by : (o : Option Shape) → option_map (λ (s : Shape). index_of s.attributes documents) o ≡ Some v
          → IfSome o Single
          → MatchOption (option_map (index_fact (documents_at held coll)) o) ⊥
          (λ (i : IndexFact). P i.kind (length i.attributes))
          → Q v.width
      by None same one k = absurd k
      by (Some s) same one k =
          let same : index_of s.attributes documents ≡ v = cc in
          subst (λ (w : IndexView). Q w.width) same (f s.kind (length s.attributes) one k)
