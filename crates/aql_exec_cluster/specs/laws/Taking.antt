-- A step that an executor took which asks for all rows: nothing of it was skipped.
use Rattle.std.proofs.Common.{ℕ, ◌≡◌, ◌++◌, List, length, sym, ap, ◌∙◌, arith}
use mathlib.Core.Path.{fun_ext}
use Rattle.std.proofs.lemmas.List.{nil_from_length}
use Rattle.aql_meaning.specs.Row.{Row}
use Rattle.aql_exec.specs.Rests.{Counts, Exact, Rest, Prefixed, with_rows}
use Rattle.aql_exec.specs.laws.Handing.{none_unreported, same_counts}

-- its rows stand in front of the input
pub taken_step : {e : Exact} (rows s0 s : List Row) (d : Counts) (i' i t b : Rest) → length s0 ≡ 0
    → length s ≡ 0 → Prefixed e (s ++ rows) d t b → i' ≡ with_rows (s0 ++ s) t → i ≡ with_rows s0 b
    → Prefixed e rows d i' i
taken_step rows s0 s d i' i t b l0 l1 p e' e =
    let n0 = nil_from_length s0 l0 in
    let n1 = nil_from_length s l1 in
    let after : i'.rows ≡ t.rows =
    ap (λ (r : Rest). r.rows) e' ∙ ap (λ z. (z ++ s) ++ t.rows) n0 ∙ ap (λ z. z ++ t.rows) n1 in
    let before : i.rows ≡ b.rows = ap (λ (r : Rest). r.rows) e ∙ ap (λ z. z ++ b.rows) n0 in
    record {
      rows = before ∙ p.rows ∙ ap (λ z. (z ++ rows) ++ t.rows) n1 ∙ ap (λ z. rows ++ z) (sym after);
      counts = λ c. (let m = p.counts c in let x = same_counts (s0 ++ s) i' t e' c in
          let y = same_counts s0 i b e c in omega (arith, m, x, y));
      exact = λ c v. (let m = p.exact c v in let x = same_counts (s0 ++ s) i' t e' c in
          let y = same_counts s0 i b e c in omega (arith, m, x, y));
    }

-- where nothing is unreported, the inputs are the same
pub same_inputs : (s : ℕ → List Row) (ins ins' : ℕ → Rest) → ((j : ℕ) → length (s j) ≡ 0)
    → ((j : ℕ) → ins' j ≡ with_rows (s j) (ins j)) → ins' ≡ ins
same_inputs s ins ins' l e = fun_ext (λ j. none_unreported (s j) (ins' j) (ins j) (l j) (e j))
