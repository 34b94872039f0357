-- Every operator and every tree gives some rest from every row, well formed or not.
use Rattle.std.proofs.Common.{ℕ, zero, suc, ◌≡◌, ◌+◌, ◌<◌, inl, inr, List, [], ◌∷◌, map, length, refl, arith}
use Rattle.std.specs.Prelude.{slice_index_or}
use Rattle.std.proofs.lemmas.Bool.{cases_eq}
use Rattle.aql_value.specs.Contents.{list}
use Rattle.aql_tree.specs.declared.syntax.Ident.{Ident}
use Rattle.aql_meaning.specs.Row.{Row, bind}
use Rattle.aql_plan.specs.Plan.{Node}
use Rattle.aql_plan.specs.Runs.{Dataset, result_of}
use Rattle.aql_exec.specs.Rests.{Counts, Rest}
use Rattle.aql_exec.specs.Operators.{Operator, StartRow, NoRows, ShardRows, OnRows, WithBody, Remote, Scatter, Gather, Shards, OperatorTree, leaf, over, within, OperatorTrees, no_trees, tree_then, no_rest, one_row, EachRow, rows_for, AtPort, carried, AtEnd, counted, count_of, Makes, Fragments, ProducesOver, Produces}
use Rattle.aql_exec.specs.laws.SomeCounting.{some_counting}
use Rattle.aql_exec.specs.laws.SomeMerge.{some_merge}

-- one list of the body for each row
pub some_each : (body : Row → Rest → Type 0) → ((row : Row) → (r : Rest) × body row r)
    → (x : Ident) (rows : List Row)
    → (outs : List Row) × (d : Counts) × EachRow body x rows outs d
some_each body f x [] = ([], λ c. 0, (refl, λ c. refl))
some_each body f x (row ∷ rows) =
    let a = f row in
    let i = some_each body f x rows in (
      bind x row (list (map result_of a.0.rows)) ∷ i.0,
      λ c. a.0.counts c + i.1 c,
      (a.0, i.0, i.1, a.1, i.2, refl, λ c. refl),
    )

pub some_row : (row : Row) → (r : Rest) × one_row row r
some_row row = (record { rows = row ∷ []; counts = λ c. 0 }, (refl, λ c. refl))

some_end : (p : ℕ) (ins : Rest) → (r : Rest) × AtEnd p ins r
some_end zero ins = (
  record { rows = ins.rows; counts = λ c. ins.counts c + carried 0 (length ins.rows) c },
  (refl, 0, λ c. refl),
)
some_end (suc p) ins = (
  record { rows = []; counts = λ c. ins.counts c + carried 0 (length ins.rows) c },
  (refl, 0, λ c. refl),
)

no_both : {p n : ℕ} → p < n → p ≡ n → ⊥
no_both h e = absurd (omega (arith, h, e))

some_port : (n : Node) (w : Dataset) (shards : List ℕ) (p : ℕ) (ins : Rest) → (r : Rest)
    × AtPort n w shards p ins r
some_port n w shards p ins = elim (cases_eq p (length shards)) [
  | inl e ↦ (record { rows = []; counts = ins.counts }, ((λ l. absurd (no_both l e)), (λ e. refl), λ c. refl))
  | inr d ↦ (
    record { rows = rows_for n w (slice_index_or shards p 0) ins.rows; counts = ins.counts },
    ((λ l. refl), (λ e. absurd (d e)), λ c. refl),
  )
]

abbrev in_front : Rest → (ℕ → Rest) → ℕ → Rest
in_front a f zero = a
in_front a f (suc k) = f k

mutual
  -- each operator gives something at each port
  pub some_made : (o : Operator) (w : Dataset) (came : List Row) (row : Row) (p : ℕ)
      (body : Row → Rest → Type 0)
      → ((q : Row) → (r : Rest) × body q r) → (ins : ℕ → Rest) → (r : Rest) × Makes o w came row p body ins r
  some_made StartRow w came row p body f ins =
      (record { rows = row ∷ []; counts = λ c. 0 }, (refl, λ c. refl))
  some_made NoRows w came row p body f ins = (record { rows = []; counts = λ c. 0 }, (refl, λ c. refl))
  some_made ShardRows w came row p body f ins = (record { rows = came; counts = λ c. 0 }, (refl, λ c. refl))
  some_made (OnRows n) w came row p body f ins =
      let o = some_counting n w row (ins 0).rows in
      (record { rows = o.0; counts = λ c. (ins 0).counts c + o.1 c }, (o.1, o.2, o.3, λ c. refl))
  some_made (WithBody x) w came row p body f ins =
      let o = some_each body f x (ins 0).rows in
      (record { rows = o.0; counts = λ c. (ins 0).counts c + o.1 c }, (o.1, o.2, λ c. refl))
  some_made Remote w came row p body f ins = some_end p (ins 0)
  some_made (Scatter n shards) w came row p body f ins = some_port n w shards p (ins 0)
  some_made (Gather n directions es) w came row p body f ins =
      let o = some_merge directions es n (λ k. (ins k).rows) in
      (record { rows = o.0; counts = counted n ins }, (o.1, λ c. refl))
  some_made (Shards gather scatter ts) w came row p body f ins =
      let a = some_fragments ts w row (λ k part. Makes scatter w [] row k one_row ins part)
      (λ k. some_made scatter w [] row k one_row some_row ins) in
      let b = some_made scatter w [] row (count_of ts) one_row some_row ins in
      let o = some_made gather w [] row 0 one_row some_row a.0 in (
        record { rows = o.0.rows; counts = λ c. o.0.counts c + b.0.counts c },
        (a.0, o.0, b.0, a.1, b.1, o.1, refl, λ c. refl),
      )

  some_fragments : (ts : OperatorTrees) (w : Dataset) (row : Row) (parts : ℕ → Rest → Type 0)
      → ((k : ℕ) → (part : Rest) × parts k part) → (lists : ℕ → Rest) × Fragments ts w row parts lists
  some_fragments no_trees w row parts f = ((λ k. no_rest), tt)
  some_fragments (tree_then t ts) w row parts f =
      let a = f 0 in
      let b = some_produced t w a.0.rows row one_row in
      let i = some_fragments ts w row (λ k. parts (suc k)) (λ k. f (suc k)) in
      (in_front b.0 i.0, ((a.0, a.1, b.1), i.1))

  -- its last argument is not used
  some_produced : (t : OperatorTree) (w : Dataset) (came : List Row) (row : Row) → (Row → Rest → Type 0)
      → (r : Rest) × ProducesOver t w came row r
  some_produced (leaf o) w came row q = some_made o w came row 0 one_row some_row (λ k. no_rest)
  some_produced (over o below) w came row q =
      let i = some_produced below w came row q in
      let r = some_made o w came row 0 one_row some_row (λ k. i.0) in
      (r.0, ((λ k. i.0), i.1, r.1))
  some_produced (within o below body) w came row q =
      let i = some_produced below w came row q in
      let r = some_made o w came row 0 (ProducesOver body w []) (λ start. some_produced body w [] start q)
      (λ k. i.0) in
      (r.0, ((λ k. i.0), i.1, r.1))

-- each tree gives something
pub some_rest : (t : OperatorTree) (w : Dataset) (row : Row) → (r : Rest) × Produces t w row r
some_rest t w row = some_produced t w [] row one_row
