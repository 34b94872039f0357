-- What a query answers where little is free: one list where all its clauses keep an order, and one list up
-- to its order after a traversal from one row.
use Rattle.std.proofs.Common.{◌≡◌, ◌∙◌, refl, sym, ap, subst, inl, inr, ℕ, List, [], ◌∷◌, map, Bool, true, false}
use Rattle.std.specs.Prelude.{cond, Option, None, MatchOption, filter, IsPermutation}
use Rattle.std.specs.List.{AllZip}
use Rattle.aql_value.specs.Datum.{Datum, null, boolean}
use Rattle.aql_value.specs.Truth.{truth}
use Rattle.aql_func.specs.Objects.{id_text}
use Rattle.std.proofs.lemmas.List.{append-nil}
use Rattle.aql_value.specs.Database.{Database, documents_named}
use Rattle.aql_tree.specs.declared.syntax.Ident.{Ident}
use Rattle.aql_tree.specs.Tree.{ExprTree, MaybeExpr, MemberTrees, TraversalShape, for_each, traversal, filter_by, let_be, limit, ClauseTrees, no_clauses, clause_then, query}
use Rattle.aql_meaning.specs.Row.{Row}
use Rattle.aql_meaning.specs.Clauses.{return_values, with_elements, with_documents, filter_true, with_values, limit_rows}
use Rattle.aql_meaning.specs.Paths.{IsIn, Path, TraversesFrom, Traverses, path_row, path_rows, with_paths}
use Rattle.aql_meaning.specs.Options.{with_settings}
use Rattle.aql_meaning.specs.Value.{value, value_or}
use Rattle.aql_meaning.specs.Visible.{collection_meant, edges_named}
use Rattle.aql_meaning.specs.Plain.{IsPlain}
use Rattle.aql_meaning.specs.Meaning.{Evaluates, Through, IsAnswer}
use Rattle.aql_meaning.specs.laws.OneValue.{only_zip, one_value}
use Rattle.aql_meaning.specs.laws.Shuffles.{Shuffled, none, skip, flip, chain, shuffle}

-- the values of an expression at rows
pub values_at : (db : Database) (e : ExprTree) → IsPlain e → (rows : List Row) (vs : List Datum)
    → AllZip (Evaluates db e null) rows vs → vs ≡ map (value e null) rows
values_at db e p rows vs h =
    (only_zip (Evaluates db e null) (value e null) (one_value db e p null) rows).1 vs h

-- clauses that keep an order and have no subquery
abbrev pub IsFixed : ClauseTrees → Row → List Ident → Type 0
IsFixed no_clauses start vars = Unit {0}
IsFixed (clause_then (for_each x e) cs) start vars =
    (collection_meant e start vars ≡ None) × IsPlain e × IsFixed cs start (x ∷ vars)
IsFixed (clause_then (filter_by e) cs) start vars = IsPlain e × IsFixed cs start vars
IsFixed (clause_then (let_be x e) cs) start vars = IsPlain e × IsFixed cs start (x ∷ vars)
IsFixed (clause_then (limit offset count) cs) start vars = IsFixed cs start vars
IsFixed (clause_then c cs) start vars = ⊥

abbrev pub fixed_rows : ClauseTrees → List Row → List Row
fixed_rows no_clauses rows = rows
fixed_rows (clause_then (for_each x e) cs) rows =
    fixed_rows cs (with_elements x rows (map (value e null) rows))
fixed_rows (clause_then (filter_by e) cs) rows = fixed_rows cs (filter_true rows (map (value e null) rows))
fixed_rows (clause_then (let_be x e) cs) rows = fixed_rows cs (with_values x rows (map (value e null) rows))
fixed_rows (clause_then (limit offset count) cs) rows = fixed_rows cs (limit_rows offset count rows)
fixed_rows (clause_then c cs) rows = fixed_rows cs rows

by_values : (db : Database) (e : ExprTree) → IsPlain e
    → (word : List Row → List Datum → List Row) (rows out : List Row)
    → ((vs : List Datum) × AllZip (Evaluates db e null) rows vs × (out ≡ word rows vs))
    → out ≡ word rows (map (value e null) rows)
by_values db e p word rows out h = h.2 ∙ ap (word rows) (values_at db e p rows h.0 h.1)

over_array : (db : Database) (x : Ident) (e : ExprTree) (rows out : List Row) (m : Option (List ℕ)) → m ≡ None
    → MatchOption m
    ((vs : List Datum) × AllZip (Evaluates db e null) rows vs × (out ≡ with_elements x rows vs))
    (λ name. IsPermutation (with_documents x (documents_named db name) rows) out)
    → (vs : List Datum) × AllZip (Evaluates db e null) rows vs × (out ≡ with_elements x rows vs)
over_array db x e rows out m s h =
    subst (λ o. MatchOption o
    ((vs : List Datum) × AllZip (Evaluates db e null) rows vs × (out ≡ with_elements x rows vs))
    (λ name. IsPermutation (with_documents x (documents_named db name) rows) out)) s h

pub fixed_through : (db : Database) (cs : ClauseTrees) (start : Row) (vars : List Ident)
    → IsFixed cs start vars
    → (rows out : List Row) → Through db cs start vars rows out → out ≡ fixed_rows cs rows
fixed_through db no_clauses start vars f rows out h = h
fixed_through db (clause_then (for_each x e) cs) start vars f rows out h =
    let s = by_values db e f.1 (with_elements x) rows h.0
    (over_array db x e rows h.0 (collection_meant e start vars) f.0 h.1) in
    fixed_through db cs start (x ∷ vars) f.2 h.0 out h.2 ∙ ap (fixed_rows cs) s
fixed_through db (clause_then (filter_by e) cs) start vars f rows out h =
    fixed_through db cs start vars f.1 h.0 out h.2
    ∙ ap (fixed_rows cs) (by_values db e f.0 filter_true rows h.0 h.1)
fixed_through db (clause_then (let_be x e) cs) start vars f rows out h =
    fixed_through db cs start (x ∷ vars) f.1 h.0 out h.2
    ∙ ap (fixed_rows cs) (by_values db e f.0 (with_values x) rows h.0 h.1)
fixed_through db (clause_then (limit offset count) cs) start vars f rows out h =
    fixed_through db cs start vars f h.0 out h.2 ∙ ap (fixed_rows cs) h.1
fixed_through db (clause_then c cs) start vars f rows out h = absurd f

pub fixed_answer : (db : Database) (with_list : List (List ℕ)) (cs : ClauseTrees) (distinct : Bool)
    (e : ExprTree)
    (start : Row) (out : List Datum) → IsFixed cs start [] → IsPlain e
    → IsAnswer db (query with_list cs distinct e) start out
    → out ≡ return_values distinct (map (value e null) (fixed_rows cs (start ∷ [])))
fixed_answer db with_list cs distinct e start out f p h =
    h.4 ∙ ap (return_values distinct) (values_at db e p h.0 h.1 h.3
    ∙ ap (map (value e null)) (fixed_through db cs start [] f (start ∷ []) h.0 h.2))

-- ---- elements of a list

in_shuffled : {X : Type 0} (x : X) {xs ys : List X} → Shuffled xs ys → IsIn x xs → IsIn x ys
in_shuffled x none i = i
in_shuffled x (skip y s) (inl e) = inl e
in_shuffled x (skip y s) (inr i) = inr (in_shuffled x s i)
in_shuffled x (flip y z s) (inl e) = inr (inl e)
in_shuffled x (flip y z s) (inr (inl e)) = inl e
in_shuffled x (flip y z s) (inr (inr i)) = inr (inr i)
in_shuffled x (chain s t) i = in_shuffled x t (in_shuffled x s i)

pub in_permuted : {X : Type 0} (x : X) (xs ys : List X) → IsPermutation xs ys → IsIn x xs → IsIn x ys
in_permuted x xs ys p i = in_shuffled x (shuffle xs ys p) i

pub in_map : {X Y : Type 0} (f : X → Y) (x : X) (xs : List X) → IsIn x xs → IsIn (f x) (map f xs)
in_map f x [] i = absurd i
in_map f x (y ∷ ys) (inl e) = inl (ap f e)
in_map f x (y ∷ ys) (inr i) = inr (in_map f x ys i)

pub in_filter : {X : Type 0} (f : X → Bool) (x : X) (xs : List X) → f x ≡ true → IsIn x xs
    → IsIn x (filter f xs)
in_filter f x [] t i = absurd i
in_filter f x (y ∷ ys) t (inl e) =
    subst (λ (b : Bool). IsIn x (cond b (y ∷ filter f ys) (filter f ys))) (sym t ∙ ap f e) (inl e)
in_filter f x (y ∷ ys) t (inr i) = by (f y) (in_filter f x ys t i)
  where
    by : (b : Bool) → IsIn x (filter f ys) → IsIn x (cond b (y ∷ filter f ys) (filter f ys))
    by true j = inr j
    by false j = j

pub from_filter : {X : Type 0} (f : X → Bool) (x : X) (xs : List X) → IsIn x (filter f xs) → IsIn x xs
from_filter f x [] i = i
from_filter f x (y ∷ ys) i = by (f y) (from_filter f x ys) i
  where
    by : (b : Bool) → (IsIn x (filter f ys) → IsIn x ys) → IsIn x (cond b (y ∷ filter f ys) (filter f ys))
        → IsIn x (y ∷ ys)
    by true g (inl e) = inl e
    by true g (inr j) = inr (g j)
    by false g j = inr (g j)

pub from_map : {X Y : Type 0} (f : X → Y) (y : Y) (xs : List X) → IsIn y (map f xs)
    → (x : X) × IsIn x xs × (y ≡ f x)
from_map f y [] i = absurd i
from_map f y (x ∷ xs) (inl e) = (x, inl refl, e)
from_map f y (x ∷ xs) (inr i) = let r = from_map f y xs i in (r.0, inr r.1, r.2)

-- the rows of a traversal from one row alone
pub single_traversal : (db : Database) (w : TraversalShape) (e : ExprTree) (names : List (List ℕ))
    (prune : MaybeExpr)
    (settings : MemberTrees) → IsPlain e → (start : Row) (rows : List Row)
    → Through db (clause_then (traversal w e names prune settings) no_clauses) start [] (start ∷ []) rows
    → (T : List Path) × TraversesFrom (with_settings settings w) (edges_named db names)
    (λ t. truth (value_or prune null (path_row db (with_settings settings w) start t) (boolean false)))
    (id_text (value e null start)) T × IsPermutation (path_rows db (with_settings settings w) start T) rows
single_traversal db w e names prune settings p start rows h =
    let s = values_at db e p (start ∷ []) h.1.0 h.1.1 in
    let k = subst (λ vs. Traverses db (with_settings settings w) (edges_named db names)
    (λ row. truth (value_or prune null row (boolean false))) (start ∷ []) vs h.0) s h.1.2 in
    let r = by k.0 k.1 in (
      r.0,
      r.1,
      subst (λ rs. IsPermutation (path_rows db (with_settings settings w) start r.0) rs) (sym h.2)
          (subst (λ rs. IsPermutation rs h.0) r.2 k.2),
    )
  where
    by : (paths : List (List Path))
        → AllZip
        (λ (from : Row × Datum) walked. TraversesFrom (with_settings settings w) (edges_named db names)
        (λ t. truth (value_or prune null (path_row db (with_settings settings w) from.0 t) (boolean false)))
        (id_text from.1) walked)
        ((start, value e null start) ∷ []) paths
        → (T : List Path) × TraversesFrom (with_settings settings w) (edges_named db names)
        (λ t. truth (value_or prune null (path_row db (with_settings settings w) start t) (boolean false)))
        (id_text (value e null start)) T
        × (with_paths db (with_settings settings w) (start ∷ []) paths
        ≡ path_rows db (with_settings settings w) start T)
    by [] k = absurd k
    by (T ∷ []) k = (T, k.0, append-nil (path_rows db (with_settings settings w) start T))
    by (T ∷ more ∷ paths) k = absurd k.1
