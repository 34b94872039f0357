-- The value of a name, looked for among attributes one after another.
use Rattle.std.proofs.Common.{◌≡◌, ◌∙◌, ◌<◌, ℕ, suc, List, ◌∷◌, length, drop, get_or, refl, sym, ap, Some, true, false, true≢false}
use Rattle.std.specs.declared.cmp.Ordering.{Ordering}
use Rattle.std.specs.declared.cmp.Ordering.TheVariants.{Less, Equal, Greater}
use Rattle.std.specs.Ordering.{nat_cmp, is_eq, match_ordering}
use Rattle.std.specs.Cmp.Lexicographic.{slice_cmp}
use Rattle.std.specs.Str.{bytes_eq}
use Rattle.std.proofs.Math.Seq.{drop-cons}
use Rattle.std.proofs.lemmas.Map.Text.{is_eq-slice_cmp}
use Rattle.aql_value.specs.View.{datum_of}
use Rattle.aql_value.specs.Attributes.{attribute}
use Rattle.aql_value.specs.Fields.{fields_in}
use Rattle.aql_value.specs.declared.values.Member.{Member}
use Rattle.aql_value.specs.laws.Kept.{equal}
use Rattle.aql_value.specs.laws.Ranks.{same_bytes}

module _ (k : List ℕ) (m : Member) (es : List Member) where
  passed : (o : Ordering) → slice_cmp nat_cmp k m.name ≡ o → bytes_eq m.name k ≡ false
      → match_ordering o (attribute k (fields_in es)) (Some (datum_of m.value)) (attribute k (fields_in es))
      ≡ attribute k (fields_in es)
  passed Less e h = refl
  passed Equal e h = absurd (true≢false
      (sym (ap is_eq (equal m.name k (same_bytes k m.name e))) ∙ is_eq-slice_cmp m.name k ∙ h))
  passed Greater e h = refl

  reached : (o : Ordering) → slice_cmp nat_cmp m.name k ≡ o → bytes_eq m.name k ≡ true
      → attribute k (fields_in (m ∷ es)) ≡ Some (datum_of m.value)
  reached Less e h = absurd (true≢false (sym h ∙ sym (is_eq-slice_cmp m.name k) ∙ ap is_eq e))
  reached Equal e h = rw (equal k m.name (same_bytes m.name k e)) refl
  reached Greater e h = absurd (true≢false (sym h ∙ sym (is_eq-slice_cmp m.name k) ∙ ap is_eq e))

module _ (k : List ℕ) (es : List Member) (i : ℕ) (d : Member) (lt : i < length es) where
  -- the attribute at a place has another name, so the value is one of those after it
  pub after : bytes_eq (get_or es i d).name k ≡ false
      → attribute k (fields_in (drop i es)) ≡ attribute k (fields_in (drop (suc i) es))
  after h = ap (λ ms. attribute k (fields_in ms)) (drop-cons es i d lt)
      ∙ passed k (get_or es i d) (drop (suc i) es) _ refl h

  -- or it has the name
  pub here : bytes_eq (get_or es i d).name k ≡ true
      → attribute k (fields_in (drop i es)) ≡ Some (datum_of (get_or es i d).value)
  here h = ap (λ ms. attribute k (fields_in ms)) (drop-cons es i d lt)
      ∙ reached k (get_or es i d) (drop (suc i) es) _ refl h
