-- Answers in another order than the computed one: the first clause may make another list, and after a
-- clause that leaves the order free all orders are answers.
use Rattle.std.proofs.Common.{◌≡◌, refl, sym, subst, List, [], ◌∷◌, Bool, true, false, true≢false}
use Rattle.std.specs.Prelude.{ℕ, Option, Some, None, MatchOption, is_some, IsPermutation}
use Rattle.std.specs.List.{AllZip}
use Rattle.std.proofs.lemmas.List.Sorted.{IsPermutation-trans}
use Rattle.aql_value.specs.Datum.{Datum, null}
use Rattle.aql_value.specs.Database.{Database, documents_named}
use Rattle.aql_tree.specs.declared.syntax.Ident.{Ident}
use Rattle.aql_tree.specs.Tree.{ExprTree, ClauseTree, for_each, for_documents, traversal, ClauseTrees, no_clauses, clause_then, query}
use Rattle.aql_meaning.specs.Row.{Row}
use Rattle.aql_meaning.specs.Clauses.{return_values, with_elements, with_documents}
use Rattle.aql_meaning.specs.Visible.{collection_meant, vars_after}
use Rattle.aql_meaning.specs.Meaning.{Evaluates, Changes, Through, IsAnswer}
use Rattle.aql_meaning.specs.laws.SomeAnswer.{all_some, some_value, some_rows}
use Rattle.aql_meaning.specs.laws.Shuffles.{alike_permutation}

-- the computed answer after a list that the first clause may make
abbrev pub answer_behind : (db : Database) (with_list : List (List ℕ)) (c : ClauseTree) (cs : ClauseTrees)
    (distinct : Bool)
    (e : ExprTree) (start : Row) (mid : List Row) → Changes db c start [] (start ∷ []) mid
    → (out : List Datum) × IsAnswer db (query with_list (clause_then c cs) distinct e) start out
answer_behind db with_list c cs distinct e start mid h =
    let rows = some_rows db cs start (vars_after c []) mid in
    let vs = all_some (Evaluates db e null) (some_value db e null) rows.0 in
    (return_values distinct vs.0, (rows.0, vs.0, (mid, h, rows.1), vs.1, refl))

-- a clause whose rows come in any order
abbrev is_free : ClauseTree → Row → List Ident → Bool
is_free (for_each x e) start vars = is_some (collection_meant e start vars)
is_free (for_documents x name) start vars = true
is_free (traversal w e names prune settings) start vars = true
is_free c start vars = false

free_end : (db : Database) (c : ClauseTree) (start : Row) (vars : List Ident) (rows out other : List Row)
    → is_free c start vars ≡ true → Changes db c start vars rows out → IsPermutation out other
    → Changes db c start vars rows other
free_end db (for_each x e) start vars rows out other f h p = by (collection_meant e start vars) f h
  where
    by : (m : Option (List ℕ)) → is_some m ≡ true
        → MatchOption m
        ((vs : List Datum) × AllZip (Evaluates db e null) rows vs × (out ≡ with_elements x rows vs))
        (λ name. IsPermutation (with_documents x (documents_named db name) rows) out)
        → MatchOption m
        ((vs : List Datum) × AllZip (Evaluates db e null) rows vs × (other ≡ with_elements x rows vs))
        (λ name. IsPermutation (with_documents x (documents_named db name) rows) other)
    by None f h = absurd (true≢false (sym f))
    by (Some name) f h = IsPermutation-trans _ _ _ h p
free_end db (for_documents x name) start vars rows out other f h p = IsPermutation-trans _ _ _ h p
free_end db (traversal w e names prune settings) start vars rows out other f h p =
    (h.0, h.1, (h.2.0, h.2.1, IsPermutation-trans _ _ _ h.2.2 p))
free_end db c start vars rows out other f h p = absurd (true≢false (sym f))

abbrev pub EndsFree : ClauseTrees → Row → List Ident → Type 0
EndsFree no_clauses start vars = ⊥
EndsFree (clause_then c no_clauses) start vars = is_free c start vars ≡ true
EndsFree (clause_then c (clause_then d cs)) start vars = EndsFree (clause_then d cs) start (vars_after c vars)

through_free : (db : Database) (cs : ClauseTrees) (start : Row) (vars : List Ident)
    (rows out other : List Row)
    → EndsFree cs start vars → Through db cs start vars rows out → IsPermutation out other
    → Through db cs start vars rows other
through_free db no_clauses start vars rows out other f h p = absurd f
through_free db (clause_then c no_clauses) start vars rows out other f h p =
    (other, free_end db c start vars rows h.0 other f h.1 (subst (λ rs. IsPermutation rs other) h.2 p), refl)
through_free db (clause_then c (clause_then d cs)) start vars rows out other f h p =
    (h.0, h.1, through_free db (clause_then d cs) start (vars_after c vars) h.0 out other f h.2 p)

zip_turned : {A B : Type 0} (P : A → B → Type 0) (xs : List A) (ys : List B) → AllZip P xs ys
    → AllZip (λ y x. P x y) ys xs
zip_turned P [] [] h = tt
zip_turned P [] (y ∷ ys) h = absurd h
zip_turned P (x ∷ xs) [] h = absurd h
zip_turned P (x ∷ xs) (y ∷ ys) h = (h.0, zip_turned P xs ys h.1)

pub in_any_order : (db : Database) (with_list : List (List ℕ)) (cs : ClauseTrees) (e : ExprTree) (start : Row)
    (values out : List Datum) → EndsFree cs start [] → IsAnswer db (query with_list cs false e) start values
    → IsPermutation values out → IsAnswer db (query with_list cs false e) start out
in_any_order db with_list cs e start values out f h p =
    let a = alike_permutation (λ v row. Evaluates db e null row v) h.1 out h.0
    (subst (λ vs. IsPermutation vs out) h.4 p) (zip_turned (Evaluates db e null) h.0 h.1 h.3) in
    (a.0, out, through_free db cs start [] (start ∷ []) h.0 a.0 f h.2 a.1, zip_turned _ out a.0 a.2, refl)
