-- Where a document is used by attributes that are kept alone, it does not matter whether it is cut to them.
use Rattle.std.proofs.Common.{◌≡◌, ◌∙◌, ℕ, List, [], ◌∷◌, ◌++◌, map, Bool, true, false, true≢false, cond, refl, ap, ap₂, sym, subst}
use Rattle.std.specs.Prelude.{Option, Some, None, filter, unwrap_or, bytes_eq}
use Rattle.std.specs.List.{AllZip, AllByRecursion, list_any}
use Rattle.std.proofs.lemmas.Slice.Eq.{bytes_eq-Decides}
use Rattle.aql_value.specs.Datum.{Datum, null}
use Rattle.aql_value.specs.Contents.{at_name, attributes}
use Rattle.aql_value.specs.Attributes.{attribute}
use Rattle.aql_value.specs.laws.Lists.{fields_list-object_of}
use Rattle.aql_tree.specs.declared.syntax.Ident.{Ident}
use Rattle.aql_tree.specs.Tree.{ExprTree, ExprTrees, AggregateTrees, IntoTree}
use Rattle.aql_meaning.specs.AtRows.{values_of}
use Rattle.aql_meaning.specs.Clauses.{with_each}
use Rattle.aql_meaning.specs.Documents.{projection, documents_kept, Scanned}
use Rattle.aql_meaning.specs.Groups.{GroupedRow, Collects}
use Rattle.aql_meaning.specs.Row.{Row, bind, same_ident}
use Rattle.aql_meaning.specs.Stages.{stage_functions, grouped_row_at, Grouped}
use Rattle.aql_meaning.specs.Uses.{Use, Whole, Attribute, Uses, uses, AgreeAt, Agree}
use Rattle.aql_meaning.specs.Visible.{aggregate_vars, into_var}
use Rattle.aql_meaning.specs.declared.grouping.Stage.{Stage}
use Rattle.aql_meaning.specs.laws.Shuffles.{alike_permutation}
use Rattle.aql_plan.specs.Exprs.{map_exprs, map_aggregates}
use Rattle.aql_plan.specs.Needs.{own_uses}
use Rattle.aql_plan.specs.Plan.{Collect}
use Rattle.aql_plan_laws.specs.laws.Agreement.{Any, all_any, agreement, rows_agree}
use Rattle.aql_plan_laws.specs.laws.Attributes.{named_first}
use Rattle.aql_plan_laws.specs.laws.Carried.{member_carried, values_carried}
use Rattle.aql_plan_laws.specs.laws.Lists.{append_related, map_equal, related_back}
use Rattle.aql_plan_laws.specs.laws.Mapped.{exprs_same, aggregates_same, into_same}

abbrev pub among : List (List ℕ) → List ℕ → Bool
among names name = list_any (bytes_eq name) names

-- x is used by these names alone
abbrev pub IsCovered : Ident → List (List ℕ) → Use → Type 0
IsCovered x names (Whole y) = same_ident x y ≡ false
IsCovered x names (Attribute y name) = same_ident x y ≡ true → among names name ≡ true

-- ---- what is used of a document is what is used of its projection

still_named : (names : List (List ℕ)) (n : List ℕ) → among names n ≡ true → (fs : List (List ℕ × Datum))
    → attribute n (filter (λ (f : List ℕ × Datum). among names f.0) fs) ≡ attribute n fs
still_named names n h [] = refl
still_named names n h (f ∷ fs) = by (among names f.0) refl (still_named names n h fs)
  where
    rest : List (List ℕ × Datum)
    rest = filter (λ (f : List ℕ × Datum). among names f.0) fs

    other : (b : Bool) → bytes_eq n f.0 ≡ b → among names f.0 ≡ false → attribute n rest ≡ attribute n fs
        → attribute n rest ≡ cond b (Some f.1) (attribute n fs)
    other true e g k = absurd (true≢false
        (sym (subst (λ (m : List ℕ). among names m ≡ true) ((bytes_eq-Decides n f.0).0 e) h) ∙ g))
    other false e g k = k

    by : (b : Bool) → among names f.0 ≡ b → attribute n rest ≡ attribute n fs
        → attribute n (cond b (f ∷ rest) rest) ≡ attribute n (f ∷ fs)
    by true e k = named_first n f rest ∙ ap (cond (bytes_eq n f.0) (Some f.1)) k ∙ sym (named_first n f fs)
    by false e k = other (bytes_eq n f.0) refl e k ∙ sym (named_first n f fs)

at_projection : (names : List (List ℕ)) (n : List ℕ) (d : Datum) → among names n ≡ true
    → at_name (projection (Some names) d) n ≡ at_name d n
at_projection names n d h = ap (λ (a : Option Datum). unwrap_or a null)
    (ap (attribute n)
    (fields_list-object_of (filter (λ (f : List ℕ × Datum). among names f.0) (attributes d)))
    ∙ still_named names n h (attributes d))

module _ (x : Ident) (names : List (List ℕ)) where
  agree_at : (u : Use) → IsCovered x names u → (row : Row) (d : Datum)
      → AgreeAt u (bind x row (projection (Some names) d)) (bind x row d)
  agree_at (Whole y) h row d = by (same_ident x y) h
    where
      by : (b : Bool) → b ≡ false
          → unwrap_or (cond b (Some (projection (Some names) d)) (row y)) null
          ≡ unwrap_or (cond b (Some d) (row y)) null
      by true e = absurd (true≢false e)
      by false e = refl
  agree_at (Attribute y n) h row d = by (same_ident x y) h
    where
      by : (b : Bool) → (b ≡ true → among names n ≡ true)
          → at_name (unwrap_or (cond b (Some (projection (Some names) d)) (row y)) null) n
          ≡ at_name (unwrap_or (cond b (Some d) (row y)) null) n
      by true f = at_projection names n d (f refl)
      by false f = refl

  pub agree_all : (us : Uses) → AllByRecursion (IsCovered x names) us → (row : Row) (d : Datum)
      → Agree us (bind x row (projection (Some names) d)) (bind x row d)
  agree_all [] h row d = tt
  agree_all (u ∷ us) h row d = (agree_at u h.0 row d, agree_all us h.1 row d)

  module _ (us : Uses) (cover : AllByRecursion (IsCovered x names) us) where
    pub own_agree : (row : Row) (ds : List Datum)
        → AllZip (Agree us) (map (bind x row) (map (projection (Some names)) ds))
        (map (bind x row) (map (projection None) ds))
    own_agree row [] = tt
    own_agree row (d ∷ ds) = (agree_all us cover row d, own_agree row ds)

    pub kept_agree : (pass : Row → Bool) (reads : Row → List Datum) (rows : List Row)
        → AllZip (Agree us)
        (with_each (bind x) rows (map (λ row. documents_kept x pass (Some names) row (reads row)) rows))
        (with_each (bind x) rows (map (λ row. documents_kept x pass None row (reads row)) rows))
    kept_agree pass reads [] = tt
    kept_agree pass reads (row ∷ rows) =
        append_related (Agree us) _ _ _ _
        (own_agree row (filter (λ d. pass (bind x row d)) (reads row))) (kept_agree pass reads rows)

-- ---- rows with documents, and what nodes make of them

-- documents are whole, or x is used by names alone that are kept
abbrev pub AreCovered : Ident → Option (List (List ℕ)) → Uses → Type 0
AreCovered x None us = Unit {0}
AreCovered x (Some names) us = AllByRecursion (IsCovered x names) us

-- to rows with whole documents there are rows with these documents cut
pub cut_alike : (us : Uses) (x : Ident) (attrs : Option (List (List ℕ))) → AreCovered x attrs us
    → (pass : Row → Bool) (reads : Row → List Datum) (rows out : List Row)
    → Scanned x pass None reads rows out
    → (cut : List Row) × Scanned x pass attrs reads rows cut × AllZip (Agree us) cut out
cut_alike us x None cover pass reads rows out g = (out, g, rows_agree us out)
cut_alike us x (Some names) cover pass reads rows out g =
    let k = alike_permutation (λ whole cut. Agree us cut whole)
    (with_each (bind x) rows (map (λ row. documents_kept x pass None row (reads row)) rows)) out
    (with_each (bind x) rows (map (λ row. documents_kept x pass (Some names) row (reads row)) rows)) g
    (related_back (Agree us) _ _ (kept_agree x names us cover pass reads rows)) in
    (k.0, k.1, related_back (λ whole cut. Agree us cut whole) out k.0 k.2)

-- a COLLECT makes the same of rows that agree in what it uses
pub grouped_alike : (xs : List Ident) (es : ExprTrees) (gs : AggregateTrees) (i : IntoTree) (s : Stage)
    (start : Row) (rows others out : List Row)
    → AllZip (Agree (own_uses (Collect xs es gs i s))) rows others
    → Grouped xs es gs i s start others out → Grouped xs es gs i s start rows out
grouped_alike xs es gs i s start rows others out h g =
    subst (λ (members : List GroupedRow).
    Collects xs (aggregate_vars gs) (stage_functions s gs) (into_var i) start members out)
    (sym (map_equal (Agree (own_uses (Collect xs es gs i s))) (grouped_row_at s xs es gs i)
    (grouped_row_at s xs es gs i) same rows others h)) g
  where
    same : (q t : Row) → Agree (own_uses (Collect xs es gs i s)) q t
        → grouped_row_at s xs es gs i q ≡ grouped_row_at s xs es gs i t
    same q t k =
        ap₂ (λ fs hs. grouped_row_at s xs fs hs i q) (sym (exprs_same es)) (sym (aggregates_same gs))
        ∙ ap (λ j. grouped_row_at s xs (map_exprs (λ e. e) es) (map_aggregates (λ e. e) gs) j q)
        (sym (into_same i))
        ∙ member_carried (λ e. e) Any Agree agreement s xs es gs i (all_any xs) (all_any (aggregate_vars gs))
        q t k

-- and so an expression has the same values
pub values_alike : (e : ExprTree) (rows others : List Row) → AllZip (Agree (uses e)) rows others
    → values_of e rows ≡ values_of e others
values_alike e rows others h = values_carried (λ e. e) Any Agree agreement e rows others h
