-- LET of a subquery may always give something, and more counts where its inputs count more.
use Rattle.std.proofs.Common.{◌≡◌, ℕ, zero, suc, ◌+◌, ◌<◌, ◌≤◌, ◌++◌, List, [], ◌∷◌, length, drop, Bool, true, false, cond, refl, sym, subst, arith, length-append, length-drop}
use Rattle.std.proofs.lemmas.List.{length-map}
use mathlib.Core.Bool.{false≢true}
use Rattle.std.specs.Prelude.{map}
use Rattle.aql_value.specs.Datum.{Datum}
use Rattle.aql_value.specs.Contents.{list}
use Rattle.aql_value.specs.View.{datum_of, datums_in}
use Rattle.aql_tree.specs.declared.syntax.Ident.{Ident}
use Rattle.aql_tree.specs.declared.syntax.Ident.TheVariants.{Num}
use Rattle.aql_meaning.specs.Row.{Row, bind}
use Rattle.aql_meaning.specs.Clauses.{with_values}
use Rattle.aql_plan.specs.Runs.{Dataset, result_of}
use Rattle.aql_block.specs.Tables.{rows_of}
use Rattle.aql_exec.specs.Rests.{Counts, Rest, Prefixed, Exact}
use Rattle.aql_exec.specs.Operators.{OperatorTree, Produces}
use Rattle.aql_exec.specs.laws.SomeRest.{some_each, some_rest}
use Rattle.aql_exec_rows.specs.declared.subquery.Subquery.{Subquery}
use Rattle.aql_exec_rows.specs.Subqueries.{Follow, Leaves, gives_subquery, started_subquery, SubqueryIs}

some_follow : (inside : Bool) (body : Row → Rest → Type 0) → ((row : Row) → (r : Rest) × body row r)
    → (x : Ident) (results : List Datum) (rows : List Row) → (inside ≡ true → 0 < length rows)
    → (outs : List Row) × (d : Counts) × Follow inside body x results rows outs d
some_follow false body f x results rows h = some_each body f x rows
some_follow true body f x results [] h = (let k = h refl in absurd (omega (arith, k)))
some_follow true body f x results (row ∷ rows) h =
    let o = some_each body f x rows in
    (bind x row (list results) ∷ o.0, o.1, (o.0, o.2, refl))

pub some_subquery : (s : Subquery) (w : Dataset) (body : OperatorTree) (ins : ℕ → Rest) → SubqueryIs s
    → (r : Rest) × gives_subquery s w body ins r
some_subquery s w body ins v =
    let held = rows_of s.held in
    let values = datums_in s.values.items in
    let rows = drop (length values) held ++ (ins 0).rows in
    let o = some_follow s.inside (Produces body w) (λ row. some_rest body w row) (Num s.var)
    (s.results ++ map result_of (ins 1).rows) rows (λ e.
    let k = (v.running e).2 in
    let n = length-map s.values.items datum_of in
    let a = length-append (drop (length values) held) (ins 0).rows in
    let b = length-drop (length values) held in
    omega (arith, k, n, a, b)) in (
      record {
        rows = with_values (Num s.var) held values ++ o.0;
        counts = λ c. (ins 0).counts c + (cond s.begun ((ins 1).counts c) 0 + o.1 c);
      },
      (o.0, o.1, o.2, refl, λ c. refl),
    )

module _ (inside begun : Bool) (body : Row → Rest → Type 0) (x : Ident) (held : List Row)
    (values results : List Datum) where
  more_below : {v : Exact} (below other more r : Rest) (d : Counts) → Prefixed v [] d below other
      → Leaves inside begun body x held values results below more r
      → (b : Rest) × Prefixed v [] d r b × Leaves inside begun body x held values results other more b
  more_below below other more r d a h = (
    record { rows = r.rows; counts = λ c. other.counts c + (cond begun (more.counts c) 0 + h.1 c) },
    record {
      rows = refl;
      counts = λ c. (let m = a.counts c in let n = h.4 c in omega (arith, m, n));
      exact = λ c y. (let m = a.exact c y in let n = h.4 c in omega (arith, m, n));
    },
    (
      h.0,
      h.1,
      subst (λ z. Follow inside body x (results ++ map result_of more.rows)
          (drop (length values) held ++ z) h.0 h.1) (sym a.rows) h.2,
      h.3,
      λ c. refl,
    ),
  )

  counts_more : (begun : Bool) (below more other own d after : ℕ) → begun ≡ true → more + d ≤ other
      → after ≡ below + (cond begun more 0 + own) → after + d ≤ below + (cond begun other 0 + own)
  counts_more true below more other own d after e m n = omega (arith, m, n)
  counts_more false below more other own d after e m n = absurd (false≢true e)

  counts_exact : (begun : Bool) (below more other own d after : ℕ) → begun ≡ true → other ≤ more + d
      → after ≡ below + (cond begun more 0 + own) → below + (cond begun other 0 + own) ≤ after + d
  counts_exact true below more other own d after e m n = omega (arith, m, n)
  counts_exact false below more other own d after e m n = absurd (false≢true e)

  more_body : {v : Exact} (below more other r : Rest) (d : Counts) → begun ≡ true → Prefixed v [] d more other
      → Leaves inside begun body x held values results below more r
      → (b : Rest) × Prefixed v [] d r b × Leaves inside begun body x held values results below other b
  more_body below more other r d e a h = (
    record { rows = r.rows; counts = λ c. below.counts c + (cond begun (other.counts c) 0 + h.1 c) },
    record {
      rows = refl;
      counts = λ c. counts_more begun (below.counts c) (more.counts c) (other.counts c) (h.1 c) (d c)
          (r.counts c) e (a.counts c) (h.4 c);
      exact = λ c y. counts_exact begun (below.counts c) (more.counts c) (other.counts c) (h.1 c) (d c)
          (r.counts c) e (a.exact c y) (h.4 c);
    },
    (
      h.0,
      h.1,
      subst (λ z. Follow inside body x (results ++ map result_of z)
          (drop (length values) held ++ below.rows) h.0 h.1) (sym a.rows) h.2,
      h.3,
      λ c. refl,
    ),
  )

pub one_not : ◌≡◌ {A = ℕ} 1 0 → ⊥
one_not e = absurd (omega (arith, e))

pub not_one : ◌≡◌ {A = ℕ} 0 1 → ⊥
not_one e = absurd (omega (arith, e))

pub more_subquery : (v : Exact) (s : Subquery) (w : Dataset) (body : OperatorTree) (k : ℕ) (d : Counts)
    (ins ins' : ℕ → Rest) (r : Rest) → started_subquery s k ≡ true → Prefixed v [] d (ins k) (ins' k)
    → ((j : ℕ) → (j ≡ k → ⊥) → ins' j ≡ ins j) → gives_subquery s w body ins r
    → (b : Rest) × Prefixed v [] d r b × gives_subquery s w body ins' b
more_subquery v s w body zero d ins ins' r e a o h =
    let m = more_below s.inside s.begun (Produces body w) (Num s.var) (rows_of s.held)
    (datums_in s.values.items) s.results (ins 0) (ins' 0) (ins 1) r d a h in (
      m.0,
      m.1,
      subst (λ z. Leaves s.inside s.begun (Produces body w) (Num s.var) (rows_of s.held)
          (datums_in s.values.items) s.results (ins' 0) z m.0) (sym (o 1 one_not)) m.2,
    )
more_subquery v s w body (suc zero) d ins ins' r e a o h =
    let m = more_body s.inside s.begun (Produces body w) (Num s.var) (rows_of s.held)
    (datums_in s.values.items) s.results (ins 0) (ins 1) (ins' 1) r d e a h in (
      m.0,
      m.1,
      subst (λ z. Leaves s.inside s.begun (Produces body w) (Num s.var) (rows_of s.held)
          (datums_in s.values.items) s.results z (ins' 1) m.0) (sym (o 0 not_one)) m.2,
    )
more_subquery v s w body (suc (suc k)) d ins ins' r e a o h = absurd (false≢true e)
