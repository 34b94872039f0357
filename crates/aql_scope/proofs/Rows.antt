-- What the clauses make of like rows is alike: FOR, FILTER, LET and SORT, where the values at the rows are
-- the same.
use Rattle.std.proofs.Common.{◌≡◌, ℕ, List, [], ◌∷◌, map, Bool, true, false, cond, refl, ap, ap₂, sym, subst}
use Rattle.std.specs.Prelude.{Some, None, zip}
use Rattle.std.specs.Ordering.{is_lt}
use Rattle.std.specs.List.{AllZip}
use Rattle.aql_value.specs.Datum.{Datum}
use Rattle.aql_value.specs.Contents.{elements}
use Rattle.aql_value.specs.Truth.{truth}
use Rattle.aql_tree.specs.declared.syntax.Ident.{Ident}
use Rattle.aql_tree.specs.declared.syntax.Ident.TheVariants.{Name, Num}
use Rattle.aql_tree.specs.Tree.{variable}
use Rattle.aql_meaning.specs.Row.{Row, bind}
use Rattle.aql_meaning.specs.Clauses.{with_elements, with_documents, filter_true, with_values, KeyedRow, Sorts, comes_before, keys_cmp}
use Rattle.aql_meaning.specs.Visible.{sees, collection_meant}
use Rattle.aql_meaning.specs.laws.Shuffles.{alike_permutation}
use Rattle.aql_meaning.specs.laws.RowByRow.{each_related, each_own_related}
use Rattle.aql_scope.specs.Numbering.{Numbering}
use Rattle.aql_scope.specs.laws.Alike.{Alike, Below, alike_bind}
use Rattle.aql_scope.proofs.Lists.{sorted_alike, zip_pairs, zip_seconds}

module _ (names : Numbering) where
  module _ (n : ℕ) (x : Ident) (b : Below n names) where
    pub elements_alike : (ss rs : List Row) (vs : List Datum) → AllZip (Alike names) ss rs
        → AllZip (Alike ((x, n) ∷ names)) (with_elements (Num n) ss vs) (with_elements x rs vs)
    elements_alike ss rs vs a =
        each_related (Alike names) (Alike ((x, n) ∷ names)) (bind (Num n)) (bind x)
        (λ s r v h. alike_bind names n x s r v b h) ss rs (map elements vs) a

    pub documents_alike : (ds : List Datum) (ss rs : List Row) → AllZip (Alike names) ss rs
        → AllZip (Alike ((x, n) ∷ names)) (with_documents (Num n) ds ss) (with_documents x ds rs)
    documents_alike ds ss rs a =
        each_own_related (Alike names) (Alike ((x, n) ∷ names)) (bind (Num n)) (bind x)
        (λ s r v h. alike_bind names n x s r v b h) (λ row. ds) (λ row. ds) (λ s r h. refl) ss rs a

    pub bound_alike : (ss rs : List Row) (vs : List Datum) → AllZip (Alike names) ss rs
        → AllZip (Alike ((x, n) ∷ names)) (with_values (Num n) ss vs) (with_values x rs vs)
    bound_alike [] [] vs a = tt
    bound_alike [] (r ∷ rs) vs a = absurd a
    bound_alike (s ∷ ss) [] vs a = absurd a
    bound_alike (s ∷ ss) (r ∷ rs) [] a = tt
    bound_alike (s ∷ ss) (r ∷ rs) (v ∷ vs) a = (alike_bind names n x s r v b a.0, bound_alike ss rs vs a.1)

  pub kept_alike : (ss rs : List Row) (vs : List Datum) → AllZip (Alike names) ss rs
      → AllZip (Alike names) (filter_true ss vs) (filter_true rs vs)
  kept_alike [] [] vs a = tt
  kept_alike [] (r ∷ rs) vs a = absurd a
  kept_alike (s ∷ ss) [] vs a = absurd a
  kept_alike (s ∷ ss) (r ∷ rs) [] a = tt
  kept_alike (s ∷ ss) (r ∷ rs) (v ∷ vs) a = by (truth v) (kept_alike ss rs vs a.1)
    where
      by : (c : Bool) → AllZip (Alike names) (filter_true ss vs) (filter_true rs vs)
          → AllZip (Alike names) (cond c (s ∷ filter_true ss vs) (filter_true ss vs))
          (cond c (r ∷ filter_true rs vs) (filter_true rs vs))
      by true k = (a.0, k)
      by false k = k

  pub sorted_back : (ds : List Bool) (keys : List (List Datum)) (ss rs out : List Row)
      → AllZip (Alike names) ss rs → Sorts ds keys ss out
      → (behind : List Row) × Sorts ds keys rs behind × AllZip (Alike names) out behind
  sorted_back ds keys ss rs out a k =
      let same = λ (p q : KeyedRow). (p.0 ≡ q.0) × Alike names p.1 q.1 in
      let p = alike_permutation same (zip keys ss) k.0 (zip keys rs) k.1
      (zip_pairs (Alike names) keys ss rs a) in
      let rows = map (λ (q : KeyedRow). q.1) p.0 in
      let up = sorted_alike same (comes_before ds)
      (λ x y z w e f. ap₂ (λ g h. is_lt (keys_cmp ds g h)) e.0 f.0)
      k.0 p.0 p.2 k.2 in (
        rows,
        (p.0, p.1, up, refl),
        subst (λ (o : List Row). AllZip (Alike names) o rows) (sym k.3)
            (zip_seconds (Alike names) k.0 p.0 p.2),
      )

-- ---- what a name after IN means

pub meant_none : (c : Ident) (start : Row) (vars : List Ident) → sees start vars c ≡ true
    → None ≡ collection_meant (variable c) start vars
meant_none (Name m) start vars e = sym (ap (λ (b : Bool). cond b None (Some m)) e)
meant_none (Num k) start vars e = refl

pub meant_some : (m : List ℕ) (start : Row) (vars : List Ident) → sees start vars (Name m) ≡ false
    → Some m ≡ collection_meant (variable (Name m)) start vars
meant_some m start vars e = sym (ap (λ (b : Bool). cond b None (Some m)) e)
