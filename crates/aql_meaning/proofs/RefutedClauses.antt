-- Lists that are no answers of queries without a traversal.
use Rattle.std.proofs.Common.{◌≡◌, ◌∙◌, refl, sym, ap, ap₂, subst, inl, inr, List, [], ◌∷◌, map, length, Bool, true, true≢false, cond, arith}
use Rattle.std.specs.Prelude.{pos, Some, codes, zip, IsSortedBy}
use Rattle.std.specs.List.{AllZip}
use Rattle.std.proofs.lemmas.List.{length-map}
use Rattle.std.proofs.lemmas.List.Sorted.{IsPermutation-sym, length_permutation}
use Rattle.std.proofs.lemmas.Slice.Zip.{AllZip-long}
use Rattle.aql_value.specs.Datum.{Datum, null}
use Rattle.aql_value.specs.Contents.{list, same}
use Rattle.aql_value.specs.Convert.{number_or_null}
use Rattle.aql_value.specs.Database.{Database}
use Rattle.aql_value.specs.laws.Lists.{datum_list-array_of}
use Rattle.aql_func.specs.Arguments.{argument}
use Rattle.aql_tree.specs.declared.syntax.Ident.TheVariants.{Name}
use Rattle.aql_tree.specs.Tree.{ExprTree, range_of, subquery, no_exprs, expr_then, ExprTrees}
use Rattle.aql_tree.specs.View.{clauses}
use Rattle.aql_tree.specs.Build as build
use Rattle.aql_meaning.specs.Row.{Row, empty_row, bind}
use Rattle.aql_meaning.specs.Clauses.{KeyedRow, comes_before, with_elements, with_values}
use Rattle.aql_meaning.specs.Groups.{GroupedRow, rows_of_group, Collects}
use Rattle.aql_meaning.specs.Value.{value, values}
use Rattle.aql_meaning.specs.Paths.{IsIn}
use Rattle.aql_meaning.specs.Plain.{AllPlain}
use Rattle.aql_meaning.specs.Meaning.{Evaluates, EvaluatesAll, IsAnswer}
use Rattle.aql_meaning.specs.laws.OneValue.{one_values}
use Rattle.aql_meaning.specs.worked.Words.{num, str, document, int, var, dot, fn, for}
use Rattle.aql_meaning.specs.worked.Expressions.{items}
use Rattle.aql_meaning.specs.worked.Clauses.{a_and_b, two, first_key_of_a, one_subquery, keys_of_c, place}
use Rattle.aql_meaning.specs.worked.Refuted.{downwards, group_length}
use Rattle.aql_meaning.proofs.Absent.{differ, absent}
use Rattle.aql_meaning.proofs.Fixed.{fixed_answer, fixed_through, values_at, in_permuted, in_map}

pub last_kept : IsAnswer []
    (build.query [] (for "x" (items (int 2 ∷ int 1 ∷ int 2 ∷ [])) ∷ []) true (var "x")) empty_row
    (num 1 ∷ num 2 ∷ []) → ⊥
last_kept h = differ (list (num 1 ∷ num 2 ∷ [])) (list (num 2 ∷ num 1 ∷ [])) refl refl
    (ap list
    (fixed_answer [] [] (clauses (for "x" (items (int 2 ∷ int 1 ∷ int 2 ∷ [])) ∷ [])) true
    (var "x") empty_row
    (num 1 ∷ num 2 ∷ []) (refl, (tt, (tt, (tt, tt))), tt) tt h))

-- ---- rows in another order than SORT's

-- each row stands with the values of the keys at it
keyed : (db : Database) (es : ExprTrees) → AllPlain es → (rows : List Row) (keys : List (List Datum))
    → AllZip (EvaluatesAll db es null) rows keys → (k : KeyedRow) → IsIn k (zip keys rows)
    → k.0 ≡ values es null k.1
keyed db es p [] [] h k i = absurd i
keyed db es p [] (ks ∷ keys) h k i = absurd h
keyed db es p (row ∷ rows) [] h k i = absurd h
keyed db es p (row ∷ rows) (ks ∷ keys) h k (inl e) =
    ap (λ (l : KeyedRow). l.0) e ∙ (one_values db es p null row).1 ks h.0
    ∙ ap (λ (l : KeyedRow). values es null l.1) (sym e)
keyed db es p (row ∷ rows) (ks ∷ keys) h k (inr i) = keyed db es p rows keys h.1 k i

abbrev x_alone : ExprTrees
x_alone = expr_then (var "x") no_exprs

abbrev x_of : KeyedRow → Datum
x_of k = value (var "x") null k.1

pub not_sorted : IsAnswer [] downwards empty_row (num 1 ∷ num 2 ∷ []) → ⊥
not_sorted h =
    let s = h.2.2.1.2 in
    by s.0 (λ k i. keyed [] x_alone (tt, tt) h.2.0 h.2.2.1.0 h.2.2.1.1 k
    (in_permuted k s.0 _ (IsPermutation-sym _ _ s.1) i)) s.2
    (h.4 ∙ values_at [] (var "x") tt h.0 h.1 h.3 ∙ ap (map (value (var "x") null)) (h.2.2.2 ∙ s.3))
  where
    by : (ks : List KeyedRow) → ((k : KeyedRow) → IsIn k ks → k.0 ≡ x_of k ∷ [])
        → IsSortedBy (comes_before (true ∷ [])) ks
        → num 1 ∷ num 2 ∷ [] ≡ map (value (var "x") null) (map (λ (k : KeyedRow). k.1) ks) → ⊥
    by [] each up e = differ (num 1) null refl refl (ap (λ vs. argument vs 0) e)
    by (k ∷ []) each up e = differ (num 2) null refl refl (ap (λ vs. argument vs 1) e)
    by (k ∷ l ∷ ks) each up e =
        let one = each k (inl refl) ∙ ap (λ v. v ∷ []) (sym (ap (λ vs. argument vs 0) e)) in
        let other = each l (inr (inl refl)) ∙ ap (λ v. v ∷ []) (sym (ap (λ vs. argument vs 1) e)) in
        true≢false (sym (ap₂ (λ (v w : List Datum). comes_before (true ∷ []) (v, empty_row) (w, empty_row))
        other one)
        ∙ up 0 k (omega arith) (omega arith))

-- ---- documents of a collection

b_given : (vs : List Datum) → IsAnswer two keys_of_c empty_row vs → IsIn (str "b") vs
b_given vs h =
    let key = dot (var "x") "_key" in
    let row = bind (Name (codes "x")) empty_row (document "c/b" "b" []) in
    let given : IsIn row h.2.0 = in_permuted row _ h.2.0 h.2.1 (inr (inl refl)) in
    subst (λ us. IsIn (str "b") us)
    (sym (h.4 ∙ values_at two key (tt, tt) h.0 h.1 h.3 ∙ ap (map (value key null)) h.2.2))
    (in_map (value key null) row h.2.0 given)

pub document_twice : IsAnswer two keys_of_c empty_row (str "a" ∷ str "a" ∷ []) → ⊥
document_twice h = absent (str "b") (str "a" ∷ str "a" ∷ []) refl refl (b_given _ h)

pub document_left_out : IsAnswer two keys_of_c empty_row (str "a" ∷ []) → ⊥
document_left_out h = absent (str "b") (str "a" ∷ []) refl refl (b_given _ h)

-- ---- a member that INTO leaves out

one_class : {P : Row → GroupedRow → Type 0} → ((row : Row) (m : GroupedRow) → P row m → m.criteria ≡ [])
    → (rows : List Row) (members : List GroupedRow) → AllZip P rows members
    → rows_of_group [] members ≡ members
one_class f [] [] h = refl
one_class f [] (m ∷ members) h = absurd h
one_class f (row ∷ rows) [] h = absurd h
one_class f (row ∷ rows) (m ∷ members) h =
    subst (λ (b : Bool). cond b (m ∷ rows_of_group [] members) (rows_of_group [] members) ≡ m ∷ members)
    (sym (ap (λ criteria. same (list []) (list criteria)) (f row m h.0)))
    (ap (λ ms. m ∷ ms) (one_class f rows members h.1))

abbrev length_of_g : ExprTree
length_of_g = fn "LENGTH" (var "g" ∷ [])

pub member_left_out : IsAnswer [] group_length empty_row (num 1 ∷ []) → ⊥
member_left_out h =
    let members = h.2.2.1.0 in
    let all = one_class (λ row m k. (one_values [] no_exprs tt null row).1 m.criteria k.criteria)
    h.2.0 members h.2.2.1.1 in
    let rows = fixed_through [] (clauses (for "x" (items (int 3 ∷ int 1 ∷ [])) ∷ [])) empty_row []
    (refl, (tt, (tt, tt)), tt) (empty_row ∷ []) h.2.0 (h.2.0, h.2.1, refl) in
    let count = AllZip-long _ h.2.0 members h.2.2.1.1 ∙ ap length rows in
    by members (ap length all ∙ count) h.2.2.0 h.2.2.1.2
    (h.4 ∙ values_at [] length_of_g (tt, tt) h.0 h.1 h.3 ∙ ap (map (value length_of_g null)) h.2.2.2)
  where
    by : (members : List GroupedRow) → length (rows_of_group [] members) ≡ 2 → (out : List Row)
        → Collects [] [] [] (Some (Name (codes "g"))) empty_row members out
        → num 1 ∷ [] ≡ map (value length_of_g null) out → ⊥
    by members count [] k e = absurd k
    by members count (row ∷ []) k e =
        let size = ap length (datum_list-array_of k.0.0) ∙ length_permutation _ k.0.0 k.0.1
        ∙ length-map (rows_of_group [] members) (λ (m : GroupedRow). m.into_value) ∙ count in
        differ (num 1) (num 2) refl refl (ap (λ vs. argument vs 0) e
        ∙ ap (value length_of_g null) k.0.2 ∙ ap (λ n. number_or_null (pos n)) size)
    by members count (row ∷ more ∷ out) k e = absurd k.1

-- ---- a subquery evaluated again

abbrev one_to_three : ExprTree
one_to_three = range_of (int 1) (int 3)

abbrev over : List Row → List Row
over mid = with_elements (Name (codes "i")) mid (map (value one_to_three null) mid)

pub evaluated_again : IsAnswer a_and_b one_subquery empty_row (str "p" ∷ str "q" ∷ str "p" ∷ []) → ⊥
evaluated_again h = by h.2.1.0 h.2.1.1 h.2.1.2
  where
    by : (us : List Datum) → AllZip (Evaluates a_and_b (subquery first_key_of_a) null) (empty_row ∷ []) us
        → h.2.0 ≡ with_values (Name (codes "x")) (empty_row ∷ []) us → ⊥
    by [] k e = absurd k
    by (u ∷ []) k e =
        let rows = h.2.2.2 ∙ (h.2.2.1.2 ∙ ap (with_elements (Name (codes "i")) h.2.0)
        (values_at a_and_b one_to_three (tt, tt) h.2.0 h.2.2.1.0 h.2.2.1.1)) ∙ ap over e in
        let all = h.4 ∙ values_at a_and_b (place "x" 0) (tt, (tt, tt)) h.0 h.1 h.3 ∙ ap
        (map (value (place "x" 0) null)) rows in
        differ (str "p") (str "q") refl refl (ap (λ vs. argument vs 0) all
        ∙ sym (ap (λ vs. argument vs 1) all))
    by (u ∷ v ∷ us) k e = absurd k.1
