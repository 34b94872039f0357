-- Rows that came and were given, in any order.
use Rattle.std.proofs.Common.{◌≡◌, ℕ, ◌+◌, ◌<◌, ◌≤◌, ◌++◌, List, [], length, take, drop, append_assoc, refl, sym, ap, ap₂, ◌∙◌, subst, arith}
use Rattle.std.proofs.lemmas.List.{length-take, length-drop, take-append-drop}
use Rattle.aql_tree.specs.Tree.{no_exprs}
use Rattle.aql_meaning.specs.Row.{Row}
use Rattle.aql_meaning.specs.AtRows.{row_before}
use Rattle.aql_block.specs.declared.calls.Step.{Step}
use Rattle.aql_exec.specs.Rests.{Counts, Exact, Rest, Prefixed, IsOver, with_rows}
use Rattle.aql_exec.specs.Counting.{nothing}
use Rattle.aql_exec.specs.Steps.{given, Continues}
use Rattle.aql_exec.specs.Operators.{counted}
use Rattle.aql_exec_cluster.specs.Gathering.{gives_gather}
use Rattle.aql_exec_cluster.specs.laws.Counts.{prefixed_counted, none_counted}
use Rattle.aql_exec_cluster.specs.laws.Merging.{merged_front, none_merged}
use Rattle.aql_exec_cluster.specs.laws.Taking.{same_inputs}

-- the first of some rows and the others
pub front_counts : (most : ℕ) (held front rest : List Row) → front ≡ take most held → rest ≡ drop most held
    → (length front ≤ most) × (length rest + length front ≡ length held)
    × (1 ≤ most → 1 ≤ length held → 1 ≤ length front) × (held ≡ front ++ rest)
front_counts most held front rest f r =
    let a = ap length f ∙ length-take most held in
    let b = ap length r ∙ length-drop most held in (
      omega (arith, a),
      omega (arith, a, b),
      λ m h. omega (arith, a, m, h),
      sym (take-append-drop most held) ∙ ap₂ (λ x y. x ++ y) (sym f) (sym r),
    )

-- a step that was taken while nothing was held
pub gathered : {e : Exact} (n k : ℕ) (held rows : List Row) (d : Counts) (ins' ins : ℕ → Rest) (r : Rest)
    → k < n → held ≡ [] → Prefixed e rows d (ins' k) (ins k) → ((j : ℕ) → (j ≡ k → ⊥) → ins' j ≡ ins j)
    → gives_gather n rows ins' r → (q : Rest) × Prefixed e [] d r q × gives_gather n held ins q
gathered n k held rows d ins' ins r l none p o h = (
  record { rows = r.rows; counts = counted n ins },
  prefixed_counted n k rows d ins' ins r l p o h.3,
  (
    rows ++ h.0,
    merged_front (row_before [] no_exprs) (λ x y. refl) n k rows (λ j. (ins j).rows) (λ j. (ins' j).rows) h.0
        l
        p.rows (λ j x. ap (λ (z : Rest). z.rows) (o j x)) h.1,
    h.2 ∙ ap (λ z. z ++ (rows ++ h.0)) (sym none),
    λ c. refl,
  ),
)

-- nothing is given
pub still : (n n' : ℕ) (held : List Row) (s : ℕ → List Row) (ins' ins : ℕ → Rest) (r : Rest)
    → ((j : ℕ) → length (s j) ≡ 0) → ((j : ℕ) → ins' j ≡ with_rows (s j) (ins j)) → n' ≡ n
    → gives_gather n' held ins r → gives_gather n held ins' r
still n n' held s ins' ins r l eqs en h =
    subst (λ (z : ℕ → Rest). gives_gather n held z r) (sym (same_inputs s ins ins' l eqs))
    (subst (λ z. gives_gather z held ins r) en h)

-- the first of the rows that are held are given
pub gave : {e : Exact} (n n' : ℕ) (held held' skipped : List Row) (s : ℕ → List Row) (ins' ins : ℕ → Rest)
    (step : Step) → ((j : ℕ) → length (s j) ≡ 0) → ((j : ℕ) → ins' j ≡ with_rows (s j) (ins j)) → n' ≡ n
    → length skipped ≡ step.skipped → held ≡ (skipped ++ given step) ++ held'
    → Continues e (gives_gather n held ins') nothing step (gives_gather n' held' ins)
gave n n' held held' skipped s ins' ins step l eqs en len rows r h =
    let same = same_inputs s ins ins' l eqs in
    let h' = subst (λ (z : ℕ → Rest). gives_gather n held' z r) (sym same)
    (subst (λ z. gives_gather z held' ins r) en h) in (
      skipped,
      record { rows = held ++ h'.0; counts = r.counts },
      len,
      record {
        rows = ap (λ z. z ++ h'.0) rows ∙ append_assoc (skipped ++ given step) held' h'.0
            ∙ ap (λ z. (skipped ++ given step) ++ z) (sym h'.2);
        counts = λ c. omega arith;
        exact = λ c i. omega arith;
      },
      (h'.0, h'.1, refl, h'.3),
    )

-- nothing is held, and the inputs give nothing more
pub none_gathered : {e : Exact} (n : ℕ) (held : List Row) (ins : ℕ → Rest) (r : Rest) → held ≡ []
    → ((k : ℕ) → k < n → IsOver e (ins k)) → gives_gather n held ins r → IsOver e r
none_gathered n held ins r none over h = (
  h.2 ∙ ap (λ z. z ++ h.0) none
      ∙ none_merged (row_before [] no_exprs) n (λ k. (ins k).rows) h.0 (λ k l. (over k l).0) h.1,
  λ c x. h.3 c ∙ none_counted n ins c (λ k l. (over k l).1 c x),
)
