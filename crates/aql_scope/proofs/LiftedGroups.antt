-- The rows that COLLECT makes of the same classes are alike.
use Rattle.std.proofs.Common.{◌≡◌, ℕ, suc, List, [], ◌∷◌, ◌++◌, refl, ap, sym, subst, arith}
use Rattle.std.specs.Prelude.{Option, Some, None, option_to_list}
use Rattle.std.specs.List.{AllZip}
use Rattle.aql_value.specs.Datum.{Datum, null}
use Rattle.aql_value.specs.Contents.{list}
use Rattle.aql_tree.specs.declared.syntax.Ident.{Ident}
use Rattle.aql_tree.specs.declared.syntax.Ident.TheVariants.{Name, Num}
use Rattle.aql_tree.specs.Tree.{ExprTrees, AggregateTrees, no_aggregates, aggregate_then, IntoTree}
use Rattle.aql_meaning.specs.Row.{Row, bind, bind_all}
use Rattle.aql_meaning.specs.Groups.{GroupedRow, groups, rows_of_group, aggregate_of, aggregate_values, group_row, WithInto, Collects}
use Rattle.aql_meaning.specs.Visible.{aggregate_vars, aggregate_functions, into_var}
use Rattle.aql_scope.specs.Numbering.{Numbering, enter}
use Rattle.aql_scope.specs.Lifting.{criteria, aggregates, into_part}
use Rattle.aql_scope.specs.laws.Alike.{Alike, Below, below_more, below_bind, alike_bind}
use Rattle.aql_scope.specs.laws.Named.{Named, none, next, below_entered}
use Rattle.aql_scope.specs.laws.Walk.{named_criteria, named_aggregates, named_into}
use Rattle.aql_scope.proofs.Lists.{zip_found}

-- both take the same values; missing ones are null
alike_entered : {n m : ℕ} {xs ys : List Ident} (vs : List Datum) (own outer : Numbering) (s r : Row)
    → Named n xs ys m → Below n (own ++ outer) → Alike (own ++ outer) s r
    → Alike (enter xs ys own ++ outer) (bind_all ys vs s) (bind_all xs vs r)
alike_entered vs own outer s r (none l) b a = a
alike_entered {n} [] own outer s r (next k x l w) b a =
    let b' = below_more n k (own ++ outer) l b in
    alike_entered [] ((x, k) ∷ own) outer _ _ w (below_bind k (suc k) (own ++ outer) x (omega arith) b')
    (alike_bind (own ++ outer) k x s r null b' a)
alike_entered {n} (v ∷ vs) own outer s r (next k x l w) b a =
    let b' = below_more n k (own ++ outer) l b in
    alike_entered vs ((x, k) ∷ own) outer _ _ w (below_bind k (suc k) (own ++ outer) x (omega arith) b')
    (alike_bind (own ++ outer) k x s r v b' a)

same_functions : (gs : AggregateTrees) (names : Numbering) (n : ℕ)
    → aggregate_functions (aggregates names n gs).tree ≡ aggregate_functions gs
same_functions no_aggregates names n = refl
same_functions (aggregate_then x name e gs) names n =
    ap (λ fs. aggregate_of name ∷ fs) (same_functions gs names _)

same_classes : {n m : ℕ} {xs ys : List Ident} (members : List GroupedRow) → Named n xs ys m
    → groups ys members ≡ groups xs members
same_classes members (none l) = refl
same_classes members (next k x l w) = refl

into_alike : (x y : Option Ident) {n m : ℕ} (own outer : Numbering) (members : List GroupedRow)
    (s r row : Row) → Named n (option_to_list x) (option_to_list y) m → Below n (own ++ outer) → Alike (own ++ outer) s r
    → WithInto y members s row
    → (out : Row) × WithInto x members r out
    × Alike (enter (option_to_list x) (option_to_list y) own ++ outer) row out
into_alike None None own outer members s r row w b a h =
    (r, refl, subst (λ (f : Row). Alike (own ++ outer) f r) (sym h) a)
into_alike (Some x) (Some (Num k)) {n} own outer members s r row (next j y l w) b a h = (
  bind x r (list h.0),
  (h.0, h.1, refl),
  subst (λ (f : Row). Alike ((x, k) ∷ (own ++ outer)) f (bind x r (list h.0))) (sym h.2)
      (alike_bind (own ++ outer) k x s r (list h.0) (below_more n k (own ++ outer) l b) a),
)
into_alike None (Some y) own outer members s r row w b a h = elim w [ ]
into_alike (Some x) None own outer members s r row w b a h = elim w [ ]
into_alike (Some x) (Some (Name y)) own outer members s r row w b a h = elim w [ ]

-- the rows of a COLLECT, over members that are the same
pub collected_back : (xs : List Ident) (es : ExprTrees) (gs : AggregateTrees) (i : IntoTree)
    (outer own : Numbering)
    (n : ℕ) (start' start : Row) (members : List GroupedRow) (out : List Row) → Below n outer
    → Alike outer start' start
    → let s = criteria (own ++ outer) n xs es in
    let t = aggregates (own ++ outer) s.next gs in
    let u = into_part own (own ++ outer) t.next i in
    Collects s.tree.0 (aggregate_vars t.tree) (aggregate_functions t.tree)
    (into_var u.tree) start' members out
    → (behind : List Row)
    × Collects xs (aggregate_vars gs) (aggregate_functions gs) (into_var i) start members behind
    × AllZip (Alike (enter (option_to_list (into_var i)) (option_to_list (into_var u.tree))
    (enter (aggregate_vars gs) (aggregate_vars t.tree) (enter xs s.tree.0 [])) ++ outer)) out behind
collected_back xs es gs i outer own n start' start members out b a k =
    let names = own ++ outer in
    let s = criteria names n xs es in
    let t = aggregates names s.next gs in
    let u = into_part own names t.next i in
    let w = named_criteria es xs names n in
    let w' = named_aggregates gs names s.next in
    let w'' = named_into i own names t.next in
    let one = enter xs s.tree.0 [] in
    let two = enter (aggregate_vars gs) (aggregate_vars t.tree) one in
    let fs = aggregate_functions gs in
    let b' = below_entered [] outer w b in
    let b'' = below_entered one outer w' b' in
    let scoped = λ (c : List Datum) (row : Row). WithInto (into_var u.tree) (rows_of_group c members)
    (group_row s.tree.0 (aggregate_vars t.tree) fs start' members c) row in
    let written = λ (c : List Datum) (row : Row). WithInto (into_var i) (rows_of_group c members)
    (group_row xs (aggregate_vars gs) fs start members c) row in
    zip_found scoped written
    (Alike (enter (option_to_list (into_var i)) (option_to_list (into_var u.tree)) two ++ outer))
    (λ c row h. into_alike (into_var i) (into_var u.tree) two outer (rows_of_group c members) _ _ row w'' b''
    (alike_entered (aggregate_values fs 0 (rows_of_group c members)) one outer _ _ w' b'
    (alike_entered c [] outer start' start w b a)) h)
    (groups xs members) out
    (subst (λ (cs : List (List Datum)). AllZip scoped cs out) (same_classes members w)
    (subst
    (λ (gs' : List (List Datum → Datum)). Collects s.tree.0 (aggregate_vars t.tree) gs' (into_var u.tree)
    start' members out) (same_functions gs names s.next) k))
