-- What readers give of each shard's documents, gathered, is what they may give of all.
use Rattle.std.proofs.Common.{◌≡◌, ◌∙◌, ℕ, ◌≤◌, List, [], ◌∷◌, ◌++◌, map, Bool, true, false, cond, refl, ap, sym, subst}
use Rattle.std.specs.Prelude.{filter, flat_map, IsPermutation, Option}
use Rattle.std.specs.List.{AllZip}
use Rattle.std.proofs.lemmas.List.Sorted.{IsPermutation-refl, IsPermutation-trans, IsPermutation-append}
use Rattle.aql_value.specs.Datum.{Datum}
use Rattle.aql_value.specs.Shards.{documents_on}
use Rattle.aql_tree.specs.declared.syntax.Ident.{Ident}
use Rattle.aql_meaning.specs.Documents.{projection, documents_kept, Scanned}
use Rattle.aql_meaning.specs.Merges.{Merged}
use Rattle.aql_meaning.specs.Row.{Row, bind}
use Rattle.aql_plan.specs.Facts.{numbers_below}
use Rattle.aql_rewrite.specs.laws.Flat.{each_flat}
use Rattle.aql_aggregate.specs.Theorems.{all_of}
use Rattle.aql_rules_cluster.specs.laws.Merging.{merged_permutes}
use Rattle.aql_rules_cluster.specs.laws.ShardParts.{rows_of_shards}

-- ---- what is read of some documents, document by document

-- a choice among documents that goes document by document
pub record IsChoice (choose : Row → List Datum → List Datum) : Type 0 where
  pub none : (row : Row) → choose row [] ≡ []
  pub more : (row : Row) (d : Datum) (ds : List Datum)
      → choose row (d ∷ ds) ≡ choose row (d ∷ []) ++ choose row ds

pub all_chosen : IsChoice (λ row ds. ds)
all_chosen = record { none = λ row. refl; more = λ row d ds. refl }

pub those_within : (within : Row → Datum → Bool) → IsChoice (λ row ds. filter (within row) ds)
those_within within = record { none = λ row. refl; more = λ row d ds. by row d ds (within row d) }
  where
    by : (row : Row) (d : Datum) (ds : List Datum) (b : Bool)
        → cond b (d ∷ filter (within row) ds) (filter (within row) ds)
        ≡ cond b (d ∷ []) [] ++ filter (within row) ds
    by row d ds true = refl
    by row d ds false = refl

module _ (v : Ident) (pass : Row → Bool) (attrs : Option (List (List ℕ)))
    (choose : Row → List Datum → List Datum) (is : IsChoice choose) where
  abbrev bound : Row → List Datum → List Row
  bound row ds = map (bind v row) (documents_kept v pass attrs row ds)

  bound_joined : (row : Row) (ds es : List Datum) → bound row (ds ++ es) ≡ bound row ds ++ bound row es
  bound_joined row [] es = refl
  bound_joined row (d ∷ ds) es = by (pass (bind v row d)) (bound_joined row ds es)
    where
      by : (b : Bool) → bound row (ds ++ es) ≡ bound row ds ++ bound row es
          → map (bind v row) (map (projection attrs)
          (cond b (d ∷ filter (λ e. pass (bind v row e)) (ds ++ es))
          (filter (λ e. pass (bind v row e)) (ds ++ es))))
          ≡ map (bind v row) (map (projection attrs)
          (cond b (d ∷ filter (λ e. pass (bind v row e)) ds) (filter (λ e. pass (bind v row e)) ds)))
          ++ bound row es
      by true k = ap (λ rows. bind v row (projection attrs d) ∷ rows) k
      by false k = k

  abbrev read : Row → List Datum → List Row
  read row ds = bound row (choose row ds)

  read_more : (row : Row) (d : Datum) (ds : List Datum) → read row (d ∷ ds) ≡ read row (d ∷ []) ++ read row ds
  read_more row d ds =
      ap (bound row) (is.more row d ds) ∙ bound_joined row (choose row (d ∷ [])) (choose row ds)

  abbrev Scans : List Datum → List Row → List Row → Type 0
  Scans documents rows out = Scanned v pass attrs (λ row. choose row documents) rows out

  flat : (documents : List Datum) (rows out : List Row) → Scans documents rows out
      → IsPermutation (flat_map (λ row. read row documents) rows) out
  flat documents rows out h =
      subst (λ (all : List Row). IsPermutation all out)
      (each_flat (bind v) (λ row. documents_kept v pass attrs row (choose row documents)) rows) h

  unflat : (documents : List Datum) (rows out : List Row)
      → IsPermutation (flat_map (λ row. read row documents) rows) out → Scans documents rows out
  unflat documents rows out h =
      subst (λ (all : List Row). IsPermutation all out)
      (sym (each_flat (bind v) (λ row. documents_kept v pass attrs row (choose row documents)) rows)) h

  -- ---- shard by shard

  shard_by_shard : (rows : List Row) (part : ℕ → List Datum) (ss : List ℕ) (lists : List (List Row))
      → AllZip (λ s out. Scans (part s) rows out) ss lists
      → IsPermutation (flat_map (λ s. flat_map (λ row. read row (part s)) rows) ss) (all_of lists)
  shard_by_shard rows part [] [] h = IsPermutation-refl []
  shard_by_shard rows part [] (l ∷ lists) h = absurd h
  shard_by_shard rows part (s ∷ ss) [] h = absurd h
  shard_by_shard rows part (s ∷ ss) (l ∷ lists) h =
      IsPermutation-append _ _ _ _ (flat (part s) rows l h.0) (shard_by_shard rows part ss lists h.1)

  pub scans_gathered : (shards : ℕ) (keys : List (List ℕ)) (documents : List Datum) → 1 ≤ shards
      → (rows : List Row) (lists : List (List Row)) (out : List Row)
      → AllZip (λ s given. Scans (documents_on shards keys s documents) rows given) (numbers_below shards)
      lists
      → (before : Row → Row → Bool) → Merged before lists out → Scans documents rows out
  scans_gathered shards keys documents h rows lists out g before m =
      unflat documents rows out (IsPermutation-trans _ _ _
      (rows_of_shards read (λ row. ap (bound row) (is.none row)) read_more shards keys documents h rows)
      (IsPermutation-trans _ _ _
      (shard_by_shard rows (λ s. documents_on shards keys s documents) (numbers_below shards) lists g)
      (merged_permutes before out lists m)))
