-- The attributes of an index that are kept of a document are those of the document, so its keys stay.
use Rattle.std.proofs.Common.{◌≡◌, ◌∙◌, ℕ, List, [], ◌∷◌, Bool, true, false, true≢false, cond, refl, ap, ap₂, sym, subst}
use Rattle.std.specs.Prelude.{filter, Option, Some, None, unwrap_or, option_map, bytes_eq, slice_get, MatchOption}
use Rattle.std.specs.List.{list_any, list_all}
use Rattle.std.specs.Cmp.Lexicographic.{slice_cmp}
use Rattle.std.specs.Ordering.{nat_cmp, is_eq, match_ordering}
use Rattle.std.specs.declared.cmp.Ordering.{Ordering}
use Rattle.std.specs.declared.cmp.Ordering.TheVariants.{Less, Equal, Greater}
use Rattle.std.proofs.lemmas.Bool.{and_parts}
use Rattle.std.proofs.lemmas.Map.Text.{is_eq-slice_cmp}
use Rattle.std.proofs.lemmas.Slice.Eq.{bytes_eq-Decides}
use Rattle.aql_value.specs.Datum.{Datum, null}
use Rattle.aql_value.specs.Contents.{at_name, attributes}
use Rattle.aql_value.specs.Attributes.{attribute}
use Rattle.aql_value.specs.laws.Lists.{fields_list-object_of}
use Rattle.aql_tree.specs.declared.syntax.Ident.{Ident}
use Rattle.aql_tree.specs.Tree.{ExprTree, ExprTrees}
use Rattle.aql_meaning.specs.AtRows.{keys_of}
use Rattle.aql_meaning.specs.Documents.{Last, projection, index_keys}
use Rattle.aql_meaning.specs.Row.{Row, bind}
use Rattle.aql_meaning.specs.laws.Idents.{same_self}
use Rattle.aql_plan.specs.declared.facts.Facts.{Facts}
use Rattle.aql_plan.specs.declared.facts.IndexFact.{IndexFact}
use Rattle.aql_plan.specs.Facts.{attributes_in, indexes_in}
use Rattle.aql_plan.specs.Fits.{Fits, IndexFits, KeepsOrder, attribute_keys, exprs_in}
use Rattle.aql_plan.specs.Plan.{Reading, Index}

abbrev among : List (List ℕ) → List ℕ → Bool
among names name = list_any (bytes_eq name) names

by_equality : {X : Type 0} (o : Ordering) (x y : X) → match_ordering o x y x ≡ cond (is_eq o) y x
by_equality Less x y = refl
by_equality Equal x y = refl
by_equality Greater x y = refl

named_first : (k : List ℕ) (f : List ℕ × Datum) (fs : List (List ℕ × Datum))
    → attribute k (f ∷ fs) ≡ cond (bytes_eq k f.0) (Some f.1) (attribute k fs)
named_first k f fs = by_equality (slice_cmp nat_cmp k f.0) (attribute k fs) (Some f.1)
    ∙ ap (λ (b : Bool). cond b (Some f.1) (attribute k fs)) (is_eq-slice_cmp k f.0)

still_named : (names : List (List ℕ)) (n : List ℕ) → among names n ≡ true → (fs : List (List ℕ × Datum))
    → attribute n (filter (λ (f : List ℕ × Datum). among names f.0) fs) ≡ attribute n fs
still_named names n h [] = refl
still_named names n h (f ∷ fs) = by (among names f.0) refl (still_named names n h fs)
  where
    rest : List (List ℕ × Datum)
    rest = filter (λ (f : List ℕ × Datum). among names f.0) fs

    other : (b : Bool) → bytes_eq n f.0 ≡ b → among names f.0 ≡ false → attribute n rest ≡ attribute n fs
        → attribute n rest ≡ cond b (Some f.1) (attribute n fs)
    other true e g k = absurd (true≢false
        (sym (subst (λ (m : List ℕ). among names m ≡ true) ((bytes_eq-Decides n f.0).0 e) h) ∙ g))
    other false e g k = k

    by : (b : Bool) → among names f.0 ≡ b → attribute n rest ≡ attribute n fs
        → attribute n (cond b (f ∷ rest) rest) ≡ attribute n (f ∷ fs)
    by true e k = named_first n f rest ∙ ap (cond (bytes_eq n f.0) (Some f.1)) k ∙ sym (named_first n f fs)
    by false e k = other (bytes_eq n f.0) refl e k ∙ sym (named_first n f fs)

at_projection : (names : List (List ℕ)) (n : List ℕ) (d : Datum) → among names n ≡ true
    → at_name (projection (Some names) d) n ≡ at_name d n
at_projection names n d h = ap (λ (a : Option Datum). unwrap_or a null)
    (ap (attribute n)
    (fields_list-object_of (filter (λ (f : List ℕ × Datum). among names f.0) (attributes d)))
    ∙ still_named names n h (attributes d))

pub keys_kept : (attrs : Option (List (List ℕ))) (descending : Bool) (x : Ident) (row : Row) (d : Datum)
    (names : List (List ℕ)) → KeepsOrder names attrs (Some descending)
    → keys_of (attribute_keys x names) (bind x row (projection attrs d)) ≡ index_keys names d
keys_kept attrs descending x row d [] h = refl
keys_kept None descending x row d (name ∷ names) h =
    ap₂ (λ v vs. v ∷ vs) (ap (λ b. at_name (unwrap_or (cond b (Some d) (row x)) null) name) (same_self x))
    (keys_kept None descending x row d names tt)
keys_kept (Some kept) descending x row d (name ∷ names) h =
    let k = and_parts (among kept name) (list_all (λ a. among kept a) names) h in
    ap₂ (λ v vs. v ∷ vs)
    (ap (λ b. at_name (unwrap_or (cond b (Some (projection (Some kept) d)) (row x)) null) name) (same_self x)
    ∙ at_projection kept name d k.0)
    (keys_kept (Some kept) descending x row d names k.1)

-- an ordered Index that fits keeps the attributes of its index
pub order_kept : (facts : Facts) (x : Reading) (index : ℕ) (equal : ExprTrees) (last : Last ExprTree)
    (descending : Bool) → Fits facts (Index x index equal last (Some descending))
    → KeepsOrder (attributes_in facts x.coll index) x.attrs (Some descending)
order_kept facts x index equal last descending f = by (slice_get (indexes_in facts x.coll) index) f.4
  where
    by : (o : Option IndexFact) → MatchOption o ⊥ (λ i. IndexFits i x (exprs_in equal) last (Some descending))
        → KeepsOrder (unwrap_or (option_map (λ (i : IndexFact). i.attributes) o) []) x.attrs (Some descending)
    by None k = absurd k
    by (Some i) k = k.2
